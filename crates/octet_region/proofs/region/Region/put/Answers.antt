use Rattle.std.proofs.Common.{◌≡◌, ◌-◌, ap, sym, ◌∙◌, List, length, arith}
use Rattle.std.specs.FinMap as map
use Rattle.std.specs.Vec.{with_items}
use Rattle.std.proofs.lemmas.List.{with_items_is}
use Rattle.octet_region.specs.declared.cells.Cell.{Cell}
use Rattle.octet_region.specs.Cells.{cells_for}
use Rattle.octet_region.specs.Shape.{held_in, octets_of}
use Rattle.octet_region.specs.Stored.{Stored, Held}
use Rattle.octet_region.proofs.Held.{get_held, held_put, insert_here, insert_there}
use Rattle.octet_region.proofs.region.Region.put.Goals as goal

pub returns-clause-fresh : goal.returns-clause-fresh
returns-clause-fresh c =
    ap (λ (s : Stored). map.get s.held c.self.inside.free) (sym c.self.view_is)
    ∙ get_held c.self.inside.cells.items c.self.inside.free
    ∙ ap (λ (w : List Cell). octets_of w c.self.inside.free) (sym c.as_mut_slice.ensures.value)
    ∙ c.put_along-self-inside.ensures.fresh

pub returns-clause-put : goal.returns-clause-put
returns-clause-put c =
    let p = c.put_along-self-inside in
    let old = c.self.inside.cells.items in
    let e = c.as_mut_slice.ensures.value in
    let held = held_put old p.new.cells c.self.inside.free c.args.octets.now p.ensures.put
    (λ q ne. p.ensures.others q ne ∙ ap (λ (w : List Cell). octets_of w q) e)
    in
    let new : (with_items c.self.inside.cells p.new.cells).items ≡ p.new.cells =
    with_items_is c.self.inside.cells p.new.cells
    (omega (arith, p.auto.cells, c.as_mut_slice.ensures.len)) in
    let held_view = ap (λ (s : Stored). s.held) c.self.view_is in
    let spare_view = ap (λ (s : Stored). s.spare) c.self.view_is in
    let spare = ap (λ n. c.self.inside.spare - n) c.cells_for.ensures in
    let count : length p.new.cells ≡ length old = omega (arith, p.auto.cells, ap length e) in
    λ i. record {
      held =
          (ap held_in new ∙ held
          ∙ ap (λ (h : Held). map.insert h c.self.inside.free c.args.octets.now) held_view) i;
      spare = (spare ∙ ap (λ k. k - cells_for (length c.args.octets.now)) spare_view) i;
      cells = (ap length new ∙ count ∙ ap (λ (s : Stored). s.cells) c.self.view_is) i;
    }

pub returns-clause-here : goal.returns-clause-here
returns-clause-here c =
    ap (λ (s : Stored). map.get s.held c.self.inside.free) (returns-clause-put c)
    ∙ insert_here c.args.self.now.held c.self.inside.free c.args.octets.now

pub returns-clause-others : goal.returns-clause-others
returns-clause-others c = λ q ne.
    ap (λ (s : Stored). map.get s.held q) (returns-clause-put c)
    ∙ insert_there c.args.self.now.held c.self.inside.free c.args.octets.now q ne

pub returns-clause-below : goal.returns-clause-below
returns-clause-below c =
    let below = c.put_along-self-inside.ensures.below in
    let same = ap length c.as_mut_slice.ensures.value in
    omega (arith, below, same, ap (λ (s : Stored). s.cells) c.self.view_is)
