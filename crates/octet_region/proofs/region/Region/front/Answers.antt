use Rattle.std.proofs.Common.{ap, ◌∙◌}
use Rattle.octet_region.specs.Stored.{Stored, front_of}
use Rattle.octet_region.proofs.Regions.{seen, whole_of}
use Rattle.octet_region.proofs.region.Region.front.Goals as goal

pub front_at-requires : goal.front_at-requires
front_at-requires c =
    whole_of c.self.inside.cells.items _ c.self.inside.free c.self.inside.spare c.self.invariant
    c.deref.ensures.value

pub returns : goal.returns
returns c =
    let held = ap (λ (s : Stored). s.held) c.self.view_is in
    let is =
    seen c.self.inside.cells.items c.args.self.now _ _ c.args.handle c.deref.ensures.value
    c.handle.view_is held in
    c.front_at.ensures ∙ ap front_of is
