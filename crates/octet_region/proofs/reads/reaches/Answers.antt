use Rattle.std.proofs.Common.{◌+◌, ap, sym, subst, arith, refl, length}
use Rattle.std.proofs.lemmas.Bool.{leb-true, le-leb}
use Rattle.octet_region.specs.Cells.{link_at}
use Rattle.octet_region.specs.Chains.{octets_in}
use Rattle.octet_region.specs.Shape.{IsChain}
use Rattle.octet_region.proofs.Pieces.{chain_on, more_is, next_is, count_is, more_length, in_first}
use Rattle.octet_region.proofs.reads.reaches.Goals as goal

pub loop-from-preserved : goal.loop-from-preserved
loop-from-preserved c =
    let l = c.loop-from in
    let i = l.invariant in
    let cells = c.args.cells.now in
    let more = more_is c.link_at-link.result (link_at cells l.cell) c.link_at-link.ensures
    (c.if-not-goes_on.ensures.0 refl) in
    let next = next_is c.next_of-cell.result c.link_at-link.result (link_at cells l.cell) c.next_of-cell.ensures
    c.link_at-link.ensures in
    let long = more_length cells l.cell i.chain more in
    let on = ap (λ d. length (octets_in cells d)) next in
    let far = c.loop-from-test.true in
    let near = i.near in
    record {
      chain = subst (λ d. IsChain cells d) (sym next) (chain_on cells l.cell i.chain more);
      near = omega arith;
      same = (
        (λ h. omega (arith, i.same.0 h, long, on, far, near)),
        (λ h. i.same.1 (omega (arith, h, long, on, far, near))),
      );
    }

pub returns : goal.returns
returns c =
    let l = c.loop-from in
    let i = l.invariant in
    let cells = c.args.cells.now in
    let near = c.loop-from-test.false in
    let inner = i.near in
    let count = count_is c.count_of.result c.link_at.result (link_at cells l.cell) c.count_of.ensures
    c.link_at.ensures in
    let e = in_first cells l.cell i.chain (l.from + l.left) (omega (arith, near, inner)) in (
      (λ t. i.same.1 (e.1 (omega (arith, count, leb-true (l.from + l.left) c.count_of.result t)))),
      (λ h. le-leb (l.from + l.left) c.count_of.result (omega (arith, count, e.0 (i.same.0 h)))),
    )
