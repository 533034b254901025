use Rattle.std.proofs.Common.{ap, sym, ◌∙◌}
use Rattle.cidr_blocks.specs.declared.places.CidrLocation.{CidrLocation}
use Rattle.cidr_blocks.specs.Places.{name_cmp}
use Rattle.cidr_changes.proofs.Spots.{found}
use Rattle.cidr_changes.proofs.gathering.spot_of.Goals as goal

pub returns-in-Equal : goal.returns-in-Equal
returns-in-Equal c =
    found c.args.locations.now c.args.name.now c.loop-i.i c.index-locations-i.result
    c.loop-i-test.true c.index-locations-i.is
    (ap (λ (l : CidrLocation). name_cmp c.args.name.now l.name) c.index-locations-i.is
    ∙ sym c.name_order.ensures ∙ c.in-Equal.is)
    c.loop-i.invariant
