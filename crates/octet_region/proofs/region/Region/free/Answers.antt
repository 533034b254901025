use Rattle.std.proofs.Common.{◌≡◌, ◌+◌, ap, sym, ◌∙◌, List, length, subst, refl, arith, None, Some, false}
use Rattle.std.specs.FinMap as map
use Rattle.std.specs.Vec.{with_items}
use Rattle.std.proofs.lemmas.List.{with_items_is}
use Rattle.octet_region.specs.declared.cells.Cell.{Cell}
use Rattle.octet_region.specs.Cells.{cells_for, begin_at, number_at}
use Rattle.octet_region.specs.Chains.{octets_in}
use Rattle.octet_region.specs.Shape.{held_in, octets_of}
use Rattle.octet_region.specs.Stored.{Stored, Held, Frees}
use Rattle.octet_region.proofs.Held.{get_held, held_free}
use Rattle.octet_region.proofs.Regions.{seen, whole_of, frees, freed_gone, freed_others}
use Rattle.octet_region.proofs.Shapes.{spare_few}
use Rattle.octet_region.proofs.region.Region.free.Goals as goal

pub is_live-requires : goal.is_live-requires
is_live-requires c =
    whole_of c.self.inside.cells.items _ c.self.inside.free c.self.inside.spare c.self.invariant
    c.deref.ensures.value

pub returns-then-not-is_live-clause-freed : goal.returns-then-not-is_live-clause-freed
returns-then-not-is_live-clause-freed c =
    let held = ap (λ (s : Stored). s.held) c.self.view_is in
    let is =
    seen c.self.inside.cells.items c.args.self.now _ _ c.args.handle c.deref.ensures.value
    c.handle.view_is held in
    let e : map.get c.args.self.now.held c.args.handle ≡ None = sym is ∙ c.if-not-is_live.ensures.none refl in
    subst (λ o. Frees o c.args.self.now c.args.handle false c.args.self.now) (sym e) (refl, refl)

pub returns-then-not-is_live-clause-gone : goal.returns-then-not-is_live-clause-gone
returns-then-not-is_live-clause-gone c =
    let held = ap (λ (s : Stored). s.held) c.self.view_is in
    let is =
    seen c.self.inside.cells.items c.args.self.now _ _ c.args.handle c.deref.ensures.value
    c.handle.view_is held in
    sym is ∙ c.if-not-is_live.ensures.none refl

pub free_along-count-requires-clause-live : goal.free_along-count-requires-clause-live
free_along-count-requires-clause-live c =
    ap (λ (w : List Cell). begin_at w c.handle.inside.first) (c.as_mut_slice.ensures.value ∙ sym c.deref.ensures.value)
    ∙ c.if-not-is_live.ensures.begins.0 refl

pub overflow_add-self : goal.overflow_add-self
overflow_add-self c =
    let f = c.free_along-count in
    let s = f.ensures.sound in
    let few = s.few in
    let spare =
    spare_few (number_at f.new.cells) (begin_at f.new.cells) (length f.new.cells) c.handle.inside.first
    (c.self.inside.spare + f.result) s.shape in
    omega (arith, few, spare)

pub returns-clause-freed : goal.returns-clause-freed
returns-clause-freed c =
    let items = c.self.inside.cells.items in
    let handle = c.args.handle in
    let first = c.handle.inside.first in
    let f = c.free_along-count in
    let held_view = ap (λ (s : Stored). s.held) c.self.view_is in
    let spare_view = ap (λ (s : Stored). s.spare) c.self.view_is in
    let octets = octets_in items handle in
    let live : octets_of items handle ≡ Some octets =
    ap (λ h. octets_of items h) (sym c.handle.view_is)
    ∙ ap (λ (w : List Cell). octets_of w first) (sym c.deref.ensures.value)
    ∙ c.if-not-is_live.ensures.some refl
    ∙ ap (λ (w : List Cell). Some (octets_in w first)) c.deref.ensures.value
    ∙ ap (λ h. Some (octets_in items h)) c.handle.view_is
    in
    let e : map.get c.args.self.now.held handle ≡ Some octets =
    ap (λ (h : Held). map.get h handle) (sym held_view) ∙ get_held items handle ∙ live in
    let new : (with_items c.self.inside.cells f.new.cells).items ≡ f.new.cells =
    with_items_is c.self.inside.cells f.new.cells
    (omega (arith, f.auto.cells, c.as_mut_slice.ensures.len)) in
    let gone : octets_of f.new.cells handle ≡ None = ap (λ h. octets_of f.new.cells h) (sym c.handle.view_is)
    ∙ f.ensures.gone in
    let held = held_free items f.new.cells handle gone
    (λ q ne. f.ensures.others q (λ x. ne (x ∙ c.handle.view_is))
    ∙ ap (λ (w : List Cell). octets_of w q) c.as_mut_slice.ensures.value)
    in
    let count : f.result ≡ cells_for (length octets) =
    f.ensures.count octets
    (ap (λ (w : List Cell). octets_of w first) c.as_mut_slice.ensures.value
    ∙ ap (λ h. octets_of items h) c.handle.view_is ∙ live)
    in
    let same : length f.new.cells
    ≡ length items = omega (arith, f.auto.cells, ap length c.as_mut_slice.ensures.value) in
    frees c.args.self.now _ handle octets e (λ i. record {
      held = (ap held_in new ∙ held ∙ ap (λ (h : Held). map.remove h handle) held_view) i;
      spare =
          (ap (λ n. c.self.inside.spare + n) count ∙ ap (λ k. k + cells_for (length octets)) spare_view) i;
      cells = (ap length new ∙ same ∙ ap (λ (s : Stored). s.cells) c.self.view_is) i;
    })

pub returns-clause-gone : goal.returns-clause-gone
returns-clause-gone c = freed_gone c.args.self.now _ c.args.handle (returns-clause-freed c)

pub returns-clause-others : goal.returns-clause-others
returns-clause-others c = freed_others c.args.self.now _ c.args.handle (returns-clause-freed c)
