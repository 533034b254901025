use Rattle.std.proofs.Common.{ap, sym, ◌∙◌, subst}
use Rattle.octet_region.specs.Stored.{Stored, Copies}
use Rattle.octet_region.proofs.Regions.{seen, whole_of}
use Rattle.octet_region.proofs.region.Region.copy_to.Goals as goal

pub copy_whole-requires-clause-whole : goal.copy_whole-requires-clause-whole
copy_whole-requires-clause-whole c =
    whole_of c.self.inside.cells.items _ c.self.inside.free c.self.inside.spare c.self.invariant
    c.deref.ensures.value

pub returns : goal.returns
returns c =
    let held = ap (λ (s : Stored). s.held) c.self.view_is in
    let is =
    seen c.self.inside.cells.items c.args.self.now _ _ c.args.handle c.deref.ensures.value
    c.handle.view_is held in
    subst (λ o. Copies o c.args.into.now c.copy_whole.result c.copy_whole.new.into) is c.copy_whole.ensures

pub copy_whole-requires-clause-room : goal.copy_whole-requires-clause-room
copy_whole-requires-clause-room c = λ octets e.
    let held = ap (λ (s : Stored). s.held) c.self.view_is in
    let is =
    seen c.self.inside.cells.items c.args.self.now _ _ c.args.handle c.deref.ensures.value
    c.handle.view_is held in
    c.requires octets (sym is ∙ e)
