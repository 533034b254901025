use Rattle.std.proofs.Common.{◌≡◌, ◌+◌, ap, sym, ◌∙◌, subst, arith, List, length, length-append, ◌∷◌, []}
use Rattle.octet_region.specs.declared.cells.Cell.{Cell}
use Rattle.octet_region.specs.Cells.{new_cell}
use Rattle.octet_region.specs.Shape.{octets_of, IsIntact}
use Rattle.octet_region.proofs.Sound.{more_sound, more_same}
use Rattle.octet_region.proofs.growth.give_cells.Goals as goal

pub loop-preserved : goal.loop-preserved
loop-preserved c =
    let g = c.give_cell-free in
    let i = c.loop.invariant in
    let e = g.ensures.cells in
    let ok = c.loop.cells.ok.0 in
    let new_len = g.ensures.length in
    let capacity = g.ensures.room in
    let more =
    more_sound c.loop.cells.items c.loop.free (c.args.spare + c.loop.counter) i.sound
    (omega (arith, ok, i.few, c.loop-test.true)) in
    let one : (c.args.spare + c.loop.counter) + 1 ≡ c.args.spare + (c.loop.counter + 1) = omega arith in
    record {
      sound =
          subst (λ k. IsIntact g.new.cells.items g.result k) one
          (subst (λ k. IsIntact g.new.cells.items k (c.args.spare + c.loop.counter + 1)) (sym g.ensures.number)
          (subst
          (λ (w : List Cell). IsIntact w (length c.loop.cells.items) (c.args.spare + c.loop.counter + 1))
          (sym e) more));
      room = omega (arith, new_len, capacity, i.room, c.loop-test.true);
      few = omega (arith, new_len, i.few, c.loop-test.true);
      count =
          omega (arith, ap length e, length-append c.loop.cells.items (new_cell c.loop.free ∷ []), i.count);
      same = λ q. ap (λ (w : List Cell). octets_of w q) e
          ∙ more_same c.loop.cells.items c.loop.free (c.args.spare + c.loop.counter) i.sound q ∙ i.same q;
    }

pub give_cell-free-requires-clause-fits : goal.give_cell-free-requires-clause-fits
give_cell-free-requires-clause-fits c = c.loop.invariant.sound.fits
