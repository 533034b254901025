use Rattle.zone_finding.proofs.Looked.{here_kept}
use Rattle.zone_finding.proofs.looking.policy.Goals as goal

pub policy-requires : goal.policy-requires
policy-requires c =
    let it = c.requires.named in (
      record { zone = c.args.set.zone; set = it.0 },
      here_kept c.args.store.now.slots c.args.list.now c.requires.kept c.args.set.zone c.args.set.slot
          it.0 it.1,
    )

pub returns : goal.returns
returns c named here place =
    c.policy.ensures (record { zone = c.args.set.zone; set = named })
    (here_kept c.args.store.now.slots c.args.list.now c.requires.kept c.args.set.zone c.args.set.slot
    named here) place
