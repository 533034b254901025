use Rattle.std.proofs.Common.{◌-◌, ap, sym, ◌∙◌, subst, arith, refl, length, drop}
use Rattle.octet_region.specs.Cells.{link_at}
use Rattle.octet_region.specs.Chains.{octets_in}
use Rattle.octet_region.specs.Shape.{IsChain}
use Rattle.octet_region.proofs.Pieces.{chain_on, more_is, next_is, more_length, skip_step}
use Rattle.octet_region.proofs.reads.skip_far.Goals as goal

pub loop-from-preserved : goal.loop-from-preserved
loop-from-preserved c =
    let l = c.loop-from in
    let i = l.invariant in
    let cells = c.args.cells.now in
    let more = more_is c.link_at-link.result (link_at cells l.cell) c.link_at-link.ensures
    (c.if-not-goes_on.ensures.0 refl) in
    let next = next_is c.next_of-cell.result c.link_at-link.result (link_at cells l.cell) c.next_of-cell.ensures
    c.link_at-link.ensures in
    let far = c.loop-from-test.true in
    let place = i.place in
    let count = i.count in
    record {
      chain = subst (λ d. IsChain cells d) (sym next) (chain_on cells l.cell i.chain more);
      place = omega (arith, place, far);
      count =
          omega
          (arith, count, far, more_length cells l.cell i.chain more, ap (λ d. length (octets_in cells d)) next);
      same =
          i.same
          ∙ skip_step cells l.cell i.chain l.from more far
          ∙ ap (λ d. drop (l.from - 32) (octets_in cells d)) (sym next);
    }
