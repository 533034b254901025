use Rattle.std.proofs.Common.{◌≡◌, take, length, ap, sym, ◌∙◌, arith, length-take, length-drop, List}
use Rattle.octet_region.specs.declared.cells.Cell.{Cell}
use Rattle.octet_region.specs.Cells.{next_at, write_at}
use Rattle.octet_region.proofs.Places.{inside_last, next_write, write_step, written_last}
use Rattle.octet_region.proofs.Written.{length_write}
use Rattle.octet_region.proofs.chains.write_along.Goals as goal

pub write_at-requires-clause-within : goal.write_at-requires-clause-within
write_at-requires-clause-within c =
    inside_last c.loop-rest.cells c.loop-rest.cell (length c.loop-rest.rest.now) c.loop-rest.invariant.inside

pub write_at-requires-clause-fits : goal.write_at-requires-clause-fits
write_at-requires-clause-fits c =
    omega (arith, ap length c.front.ensures, length-take 32 c.loop-rest.rest.now)

pub next_at-cell-requires : goal.next_at-cell-requires
next_at-cell-requires c =
    let there =
    inside_last c.loop-rest.cells c.loop-rest.cell (length c.loop-rest.rest.now) c.loop-rest.invariant.inside in
    let same = ap length c.write_at.ensures in
    omega (arith, there, same, length_write c.loop-rest.cells c.loop-rest.cell c.front.result.now)

pub loop-rest-smaller : goal.loop-rest-smaller
loop-rest-smaller c =
    omega (arith, ap length c.behind-rest.ensures, length-drop 32 c.loop-rest.rest.now, c.loop-rest-test.true)

pub loop-rest-preserved : goal.loop-rest-preserved
loop-rest-preserved c =
    let l = c.loop-rest in
    let i = l.invariant in
    let e : c.write_at.new.cells ≡ write_at l.cells l.cell (take 32 l.rest.now) =
    c.write_at.ensures ∙ ap (λ p. write_at l.cells l.cell p) c.front.ensures in
    let there = inside_last l.cells l.cell (length l.rest.now) i.inside in
    let on : c.next_at-cell.result ≡ next_at l.cells l.cell =
    c.next_at-cell.ensures.next
    ∙ ap (λ (w : List Cell). next_at w l.cell) e
    ∙ ap (λ f. f l.cell) (next_write l.cells l.cell (take 32 l.rest.now) there) in
    let s =
    write_step l.cells l.cell l.rest.now c.write_at.new.cells c.next_at-cell.result c.behind-rest.result.now
    c.loop-rest-test.true i.inside e on c.behind-rest.ensures in
    let left = ap length c.behind-rest.ensures in
    let count = i.count in
    record {
      inside = s.0;
      cells = i.cells ∙ s.1;
      last = i.last ∙ s.2;
      count = omega (arith, count, left, length-drop 32 l.rest.now, c.loop-rest-test.true);
    }

pub returns-clause-cells : goal.returns-clause-cells
returns-clause-cells c = c.write_at-2.ensures
    ∙ sym
    (c.loop-rest.invariant.cells
    ∙ written_last c.loop-rest.cells c.loop-rest.cell c.loop-rest.rest.now c.loop-rest-test.false)
