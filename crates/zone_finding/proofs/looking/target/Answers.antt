use Rattle.zone_finding.proofs.Looked.{its_target}
use Rattle.zone_finding.proofs.looking.target.Goals as goal

pub returns : goal.returns
returns c =
    let it = c.if-not-is_named.ensures in
    its_target c.args.store.now.slots c.args.list.now c.requires c.args.set it.0 it.1 it.2 c.target.result
    (c.target.ensures (record { zone = c.args.set.zone; set = it.0 }) it.2)
