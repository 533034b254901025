use Rattle.std.proofs.Common.{ap, ◌∙◌}
use Rattle.octet_region.specs.Stored.{Stored, piece_of}
use Rattle.octet_region.proofs.Regions.{seen, whole_of}
use Rattle.octet_region.proofs.region.Region.piece.Goals as goal

pub piece_at-requires : goal.piece_at-requires
piece_at-requires c =
    whole_of c.self.inside.cells.items _ c.self.inside.free c.self.inside.spare c.self.invariant
    c.deref.ensures.value

pub returns : goal.returns
returns c =
    let held = ap (λ (s : Stored). s.held) c.self.view_is in
    let is =
    seen c.self.inside.cells.items c.args.self.now _ _ c.args.handle c.deref.ensures.value
    c.handle.view_is held in
    c.piece_at.ensures ∙ ap (λ k. piece_of k c.args.place) is
