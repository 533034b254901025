use Rattle.std.proofs.Common.{ap, ◌∙◌}
use Rattle.std.specs.FinMap as finmap
use Rattle.set_store.proofs.reads.hold_at.Goals as goal

pub hold_octets-requires : goal.hold_octets-requires
hold_octets-requires c =
    let holds = c.requires.1 in (
      c.requires.2.0,
      c.requires.0,
      ap (finmap.get c.args.region.now.held) (c.of.ensures ∙ c.cell_at.ensures holds.0 holds.1) ∙ holds.3,
      c.requires.2.1,
    )

pub returns : goal.returns
returns c octets set holds spells =
    c.hold_octets.ensures set octets
    (ap (finmap.get c.args.region.now.held) (c.of.ensures ∙ c.cell_at.ensures holds.0 holds.1) ∙ holds.3)
    spells
