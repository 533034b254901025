use Rattle.std.proofs.Common.{ap, ◌∙◌}
use Rattle.octet_region.specs.Stored.{Stored, length_of}
use Rattle.octet_region.proofs.Regions.{seen, whole_of}
use Rattle.octet_region.proofs.region.Region.length.Goals as goal

pub size_at-requires : goal.size_at-requires
size_at-requires c =
    whole_of c.self.inside.cells.items _ c.self.inside.free c.self.inside.spare c.self.invariant
    c.deref.ensures.value

pub returns : goal.returns
returns c =
    let held = ap (λ (s : Stored). s.held) c.self.view_is in
    let is =
    seen c.self.inside.cells.items c.args.self.now _ _ c.args.handle c.deref.ensures.value
    c.handle.view_is held in
    c.size_at.ensures ∙ ap length_of is
