use Rattle.std.proofs.Common.{ℕ, ◌+◌, ◌++◌, drop, arith}
use Rattle.cidr_blocks.specs.Places.{IsCollection}
use Rattle.cidr_blocks.specs.declared.places.Collection.{Collection}
use Rattle.dump_sending.proofs.Lines.{all_at, all_lines, item_at, next_line}
use Rattle.dump_sending.specs.Dumps.{collection_text, collections_text}
use Rattle.dump_sending.proofs.collections.send_collections.Goals as goal

pub send_collection-requires-clause-bounded : goal.send_collection-requires-clause-bounded
send_collection-requires-clause-bounded g c =
    let list = c.args.collections.now in
    let i = c.loop-held.held-index in
    let held = c.held-item.result in
    all_at (λ (h : ℕ × Collection). IsCollection h.1) list i held c.requires.each
    (item_at list i held c.loop-held-test.true c.held-item.is)

pub returns-in-Failed-clause-passes : goal.returns-in-Failed-clause-passes
returns-in-Failed-clause-passes g c = λ held rest text passed.
    let list = c.args.collections.now in
    let i = c.loop-held.held-index in
    let x = c.held-item.result in
    c.in-Failed.ensures.passes held (collections_text (drop (i + 1) list) ++ rest) text
    (next_line collection_text held _ _ list i rest text
    (c.loop-held.invariant.passes held rest text passed) x
    (item_at list i x c.loop-held-test.true c.held-item.is))

pub loop-held-preserved : goal.loop-held-preserved
loop-held-preserved g c = record {
  capacity = omega (arith, c.in-Whole.ensures.capacity, c.loop-held.invariant.capacity);
  counts = omega (arith, c.in-Whole.ensures.counts, c.loop-held.invariant.counts);
  passes = λ held rest text passed.
      let list = c.args.collections.now in
      let i = c.loop-held.held-index in
      let x = c.held-item.result in
      c.in-Whole.ensures.passes held (collections_text (drop (i + 1) list) ++ rest) text
      (next_line collection_text held _ _ list i rest text
      (c.loop-held.invariant.passes held rest text passed) x
      (item_at list i x c.loop-held-test.true c.held-item.is));
}

pub returns-clause-passes : goal.returns-clause-passes
returns-clause-passes g c = λ held rest text passed.
    all_lines collection_text held _ _ c.args.collections.now c.loop-held.held-index rest text
    (c.loop-held.invariant.passes held rest text passed) c.loop-held-test.false
