use Rattle.std.proofs.Common.{ap, subst}
use Rattle.octet_region.specs.Stored.{Stored, StandsAt}
use Rattle.octet_region.proofs.Regions.{seen, whole_of}
use Rattle.octet_region.proofs.region.Region.is_at.Goals as goal

pub stand_at-requires : goal.stand_at-requires
stand_at-requires c =
    whole_of c.self.inside.cells.items _ c.self.inside.free c.self.inside.spare c.self.invariant
    c.deref.ensures.value

pub returns : goal.returns
returns c =
    let held = ap (λ (s : Stored). s.held) c.self.view_is in
    let is =
    seen c.self.inside.cells.items c.args.self.now _ _ c.args.handle c.deref.ensures.value
    c.handle.view_is held in
    subst (λ o. StandsAt o c.args.offset c.args.octets.now c.stand_at.result) is c.stand_at.ensures
