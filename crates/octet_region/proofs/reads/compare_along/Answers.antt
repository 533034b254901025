use Rattle.std.proofs.Common.{◌-◌, ◌+◌, ◌<◌, ◌≤◌, ap, sym, ◌∙◌, subst, arith, length, length-drop, refl}
use Rattle.std.specs.Prelude.{min}
use Rattle.octet_region.specs.Cells.{link_at, number_at}
use Rattle.octet_region.specs.Chains.{octets_in}
use Rattle.octet_region.specs.Shape.{IsChain}
use Rattle.octet_region.proofs.Pieces.{chain_on, more_is, last_is, next_is, count_is, last_length, front_all, differ, go_on, too_few, at_end}
use Rattle.octet_region.proofs.reads.compare_along.Goals as goal

pub returns-then-not-goes_on : goal.returns-then-not-goes_on
returns-then-not-goes_on c =
    let l = c.loop-from in
    let i = l.invariant in
    let cells = c.args.cells.now in
    let last = last_is c.link_at-link.result (link_at cells l.cell) c.link_at-link.ensures c.if-not-goes_on.ensures.1
    in
    let near = i.near in
    let short : length (octets_in cells l.cell) < l.from + length l.rest.now =
    omega (arith, last_length cells l.cell i.chain last, last, c.loop-from-test.true, near) in (
      (λ f. cc),
      (λ h. absurd (too_few cells l.cell i.chain l.from l.rest.now i.some short (i.same.0 h))),
    )

pub returns-then-not-is_same : goal.returns-then-not-is_same
returns-then-not-is_same c =
    let l = c.loop-from in
    let i = l.invariant in
    let cells = c.args.cells.now in
    let more = more_is c.link_at-link.result (link_at cells l.cell) c.link_at-link.ensures
    (c.if-not-goes_on.ensures.0 refl) in (
      (λ f. cc),
      (λ h. c.if-not-is_same.ensures.1
          (differ cells l.cell i.chain l.from l.cell l.rest.now c.octets_at.result.now c.behind.result.now
          c.front.result.now l.rest.now more i.near c.loop-from-test.true c.octets_at.ensures.value
          c.behind.ensures c.front.ensures (i.same.0 h))),
    )

pub loop-from-preserved : goal.loop-from-preserved
loop-from-preserved c =
    let l = c.loop-from in
    let i = l.invariant in
    let cells = c.args.cells.now in
    let more = more_is c.link_at-link.result (link_at cells l.cell) c.link_at-link.ensures
    (c.if-not-goes_on.ensures.0 refl) in
    let next = next_is c.next_of-cell.result c.link_at-link.result (link_at cells l.cell) c.next_of-cell.ensures
    c.link_at-link.ensures in
    let g = go_on cells l.cell i.chain l.from c.next_of-cell.result l.rest.now c.octets_at.result.now
    c.behind.result.now c.front.result.now c.behind-rest.result.now more i.near c.loop-from-test.true
    c.octets_at.ensures.value c.behind.ensures c.front.ensures c.behind-rest.ensures next
    (c.if-not-is_same.ensures.0 refl)
    in
    let left = ap length c.behind-rest.ensures in
    record {
      chain = subst (λ d. IsChain cells d) (sym next) (chain_on cells l.cell i.chain more);
      near = omega arith;
      some = omega (arith, left, length-drop (32 - l.from) l.rest.now, c.loop-from-test.true);
      same = (λ h. g.0 (i.same.0 h), λ h. i.same.1 (g.1 h));
    }

pub returns-then-from-rest : goal.returns-then-from-rest
returns-then-from-rest c =
    let l = c.loop-from in
    let i = l.invariant in
    let cells = c.args.cells.now in
    let near = i.near in
    let count = count_is c.count_of.result c.link_at.result (link_at cells l.cell) c.count_of.ensures
    c.link_at.ensures in
    let low : min (number_at cells l.cell) 32 < 32 =
    omega (arith, count, c.if-from-rest.true, c.loop-from-test.false, near) in
    let short : length (octets_in cells l.cell) < l.from + length l.rest.now =
    omega (arith, front_all cells l.cell i.chain low, count, c.if-from-rest.true) in (
      (λ f. cc),
      (λ h. absurd (too_few cells l.cell i.chain l.from l.rest.now i.some short (i.same.0 h))),
    )

pub returns : goal.returns
returns c =
    let l = c.loop-from in
    let i = l.invariant in
    let cells = c.args.cells.now in
    let count = count_is c.count_of.result c.link_at.result (link_at cells l.cell) c.count_of.ensures
    c.link_at.ensures in
    let fits : l.from + length l.rest.now ≤ min (number_at cells l.cell) 32 =
    omega (arith, count, c.if-from-rest.false) in
    let e = at_end cells l.cell i.chain l.from l.rest.now
    c.octets_at-2.result.now c.behind-2.result.now c.front-2.result.now fits
    c.octets_at-2.ensures.value c.behind-2.ensures c.front-2.ensures
    in
    let s = c.is_same-2.ensures in
    (λ t. i.same.1 (e ∙ s.0 t), λ h. s.1 (sym e ∙ i.same.0 h))
