use Rattle.std.proofs.Common.{◌≡◌, ap, sym, ◌∙◌, subst, arith, length, refl}
use Rattle.octet_region.specs.Cells.{link_at}
use Rattle.octet_region.specs.Chains.{octets_in, steps_in}
use Rattle.octet_region.specs.Shape.{IsChain}
use Rattle.octet_region.proofs.Pieces.{chain_there, chain_on, more_is, last_is, next_is, count_is, more_length, more_steps, run_step, run_last}
use Rattle.octet_region.proofs.reads.copy_run.Goals as goal

pub link_at-link-requires-in-loop-into : goal.link_at-link-requires-in-loop-into
link_at-link-requires-in-loop-into c =
    let l = c.loop-into in
    let i = l.invariant in
    let cells = c.args.cells.now in
    let more = more_is l.link (link_at cells l.cell) i.link (c.loop-into-test.ensures.0 refl) in
    let next = next_is c.next_of-cell.result l.link (link_at cells l.cell) c.next_of-cell.ensures i.link in
    chain_there cells c.next_of-cell.result
    (subst (λ d. IsChain cells d) (sym next) (chain_on cells l.cell i.chain more))

pub loop-into-smaller : goal.loop-into-smaller
loop-into-smaller c =
    let l = c.loop-into in
    let i = l.invariant in
    let cells = c.args.cells.now in
    let more = more_is l.link (link_at cells l.cell) i.link (c.loop-into-test.ensures.0 refl) in
    let next = next_is c.next_of-cell.result l.link (link_at cells l.cell) c.next_of-cell.ensures i.link in
    omega (arith, more_steps cells l.cell i.chain more, ap (steps_in cells) next)

pub loop-into-preserved : goal.loop-into-preserved
loop-into-preserved c =
    let l = c.loop-into in
    let i = l.invariant in
    let cells = c.args.cells.now in
    let new = c.put_at.new.buffer in
    let more = more_is l.link (link_at cells l.cell) i.link (c.loop-into-test.ensures.0 refl) in
    let next = next_is c.next_of-cell.result l.link (link_at cells l.cell) c.next_of-cell.ensures i.link in
    let same : length new ≡ length l.into = omega (arith, c.put_at.auto.buffer) in
    let size = i.size in
    let room = c.requires.room in
    let long = i.long in
    let s =
    run_step cells l.cell i.chain l.at c.next_of-cell.result l.into new c.octets_at.result.now
    (octets_in cells c.args.first) c.args.into.now more c.octets_at.ensures.value next
    (omega (arith, size, room, long)) c.put_at.ensures.whole c.put_at.ensures.written i.copied i.tail in
    record {
      chain = subst (λ d. IsChain cells d) (sym next) (chain_on cells l.cell i.chain more);
      link = c.link_at-link-in-loop-into.ensures;
      size =
          omega
          (arith, size, more_length cells l.cell i.chain more, ap (λ d. length (octets_in cells d)) next);
      long = same ∙ i.long;
      copied = s.0;
      tail = s.1;
    }

pub returns-clause-copied : goal.returns-clause-copied
returns-clause-copied c =
    let l = c.loop-into in
    let i = l.invariant in
    let cells = c.args.cells.now in
    let last = last_is l.link (link_at cells l.cell) i.link c.loop-into-test.ensures.1 in
    let count = count_is c.count_of-count.result l.link (link_at cells l.cell) c.count_of-count.ensures i.link in
    run_last cells l.cell i.chain l.at c.count_of-count.result l.into c.put_at-2.new.buffer
    c.octets_at-2.result.now c.front.result.now (octets_in cells c.args.first) c.args.into.now last
    (omega (arith, count, last)) c.octets_at-2.ensures.value c.front.ensures c.put_at-2.ensures.whole i.copied i.tail
