use Rattle.std.proofs.Common.{◌≡◌, ◌/◌, ◌<◌, ap, sym, ◌∙◌, subst, arith, refl, length}
use Rattle.octet_region.specs.Cells.{number_at, next_at}
use Rattle.octet_region.specs.Chains.{jump, steps_in}
use Rattle.octet_region.specs.Shape.{IsChain}
use Rattle.octet_region.proofs.Pieces.{chain_there, chain_on, steps_below, more_steps}
use Rattle.octet_region.proofs.chains.last_along.Goals as goal

pub overflow_add-count : goal.overflow_add-count
overflow_add-count c =
    let few = c.requires.few in
    let below = steps_below c.args.cells.now c.args.first c.requires in
    let count = c.loop-cell.invariant.count in
    omega (arith, few, below, count)

pub link_at-link-requires-in-loop-cell : goal.link_at-link-requires-in-loop-cell
link_at-link-requires-in-loop-cell c =
    let i = c.loop-cell.invariant in
    let cells = c.args.cells.now in
    let link = ap (λ n. n / 2) i.link in
    let more : 32 < number_at cells c.loop-cell.cell = omega (arith, c.loop-cell-test.ensures.0 refl, link) in
    let next : c.next_of-cell.result ≡ next_at cells c.loop-cell.cell = omega (arith, c.next_of-cell.ensures, link) in
    subst (λ d. d < length cells) (sym next)
    (chain_there cells (next_at cells c.loop-cell.cell) (chain_on cells c.loop-cell.cell i.chain more))

pub loop-cell-smaller : goal.loop-cell-smaller
loop-cell-smaller c =
    let i = c.loop-cell.invariant in
    let cells = c.args.cells.now in
    let link = ap (λ n. n / 2) i.link in
    let more : 32 < number_at cells c.loop-cell.cell = omega (arith, c.loop-cell-test.ensures.0 refl, link) in
    let next : c.next_of-cell.result ≡ next_at cells c.loop-cell.cell = omega (arith, c.next_of-cell.ensures, link) in
    omega (arith, more_steps cells c.loop-cell.cell i.chain more, ap (steps_in cells) next)

pub loop-cell-preserved : goal.loop-cell-preserved
loop-cell-preserved c =
    let i = c.loop-cell.invariant in
    let cells = c.args.cells.now in
    let cell = c.loop-cell.cell in
    let link = ap (λ n. n / 2) i.link in
    let more : 32 < number_at cells cell = omega (arith, c.loop-cell-test.ensures.0 refl, link) in
    let next : c.next_of-cell.result ≡ next_at cells cell = omega (arith, c.next_of-cell.ensures, link) in
    let steps = more_steps cells cell i.chain more in
    let count = i.count in
    record {
      chain = subst (λ d. IsChain cells d) (sym next) (chain_on cells cell i.chain more);
      link = c.link_at-link-in-loop-cell.ensures;
      last = i.last ∙ ap (λ n. jump (next_at cells) n cell) steps
          ∙ ap (λ d. jump (next_at cells) (steps_in cells d) d) (sym next);
      count = omega (arith, count, steps, ap (steps_in cells) next);
    }
