use Rattle.std.proofs.Common.{ap, ◌∙◌}
use Rattle.octet_region.specs.Stored.{Stored, pieces_of}
use Rattle.octet_region.proofs.Regions.{seen, whole_of}
use Rattle.octet_region.proofs.region.Region.pieces.Goals as goal

pub pieces_at-requires : goal.pieces_at-requires
pieces_at-requires c =
    whole_of c.self.inside.cells.items _ c.self.inside.free c.self.inside.spare c.self.invariant
    c.deref.ensures.value

pub returns : goal.returns
returns c =
    let held = ap (λ (s : Stored). s.held) c.self.view_is in
    let is =
    seen c.self.inside.cells.items c.args.self.now _ _ c.args.handle c.deref.ensures.value
    c.handle.view_is held in
    c.pieces_at.ensures ∙ ap (λ k. pieces_of k c.args.place) is
