use Rattle.std.proofs.Common.{ap, sym, subst, arith, refl, length}
use Rattle.octet_region.specs.Cells.{link_at}
use Rattle.octet_region.specs.Chains.{octets_in, steps_in}
use Rattle.octet_region.specs.Shape.{IsChain}
use Rattle.octet_region.proofs.Pieces.{chain_on, chain_few, more_is, next_is, more_length, more_steps, front_few, count_is}
use Rattle.octet_region.proofs.reads.size_along.Goals as goal

pub overflow_add-size : goal.overflow_add-size
overflow_add-size c =
    let i = c.loop-cell.invariant in
    let cells = c.args.cells.now in
    let more = more_is c.link_at.result (link_at cells c.loop-cell.cell) c.link_at.ensures
    (c.loop-cell-test.ensures.0 refl) in
    let few = c.requires.few in
    let size = i.size in
    omega
    (arith, few, chain_few cells c.args.first c.requires, size, more_length cells c.loop-cell.cell i.chain more)

pub loop-cell-smaller : goal.loop-cell-smaller
loop-cell-smaller c =
    let i = c.loop-cell.invariant in
    let cells = c.args.cells.now in
    let more = more_is c.link_at.result (link_at cells c.loop-cell.cell) c.link_at.ensures
    (c.loop-cell-test.ensures.0 refl) in
    let next = next_is c.next_of-cell.result c.link_at-in-loop-cell.result (link_at cells c.loop-cell.cell)
    c.next_of-cell.ensures c.link_at-in-loop-cell.ensures in
    omega (arith, more_steps cells c.loop-cell.cell i.chain more, ap (steps_in cells) next)

pub loop-cell-preserved : goal.loop-cell-preserved
loop-cell-preserved c =
    let i = c.loop-cell.invariant in
    let cells = c.args.cells.now in
    let cell = c.loop-cell.cell in
    let more = more_is c.link_at.result (link_at cells cell) c.link_at.ensures (c.loop-cell-test.ensures.0 refl) in
    let next = next_is c.next_of-cell.result c.link_at-in-loop-cell.result (link_at cells cell)
    c.next_of-cell.ensures c.link_at-in-loop-cell.ensures in
    let size = i.size in
    record {
      chain = subst (λ d. IsChain cells d) (sym next) (chain_on cells cell i.chain more);
      size = omega (arith, size, more_length cells cell i.chain more, ap (λ d. length (octets_in cells d)) next);
    }

pub overflow_add-result : goal.overflow_add-result
overflow_add-result c =
    let i = c.loop-cell.invariant in
    let cells = c.args.cells.now in
    let count = count_is c.count_of.result c.link_at-2.result (link_at cells c.loop-cell.cell) c.count_of.ensures
    c.link_at-2.ensures in
    let few = c.requires.few in
    let size = i.size in
    omega
    (arith, few, chain_few cells c.args.first c.requires, size, count, front_few cells c.loop-cell.cell i.chain)
