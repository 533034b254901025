use Rattle.std.proofs.Common.{arith, ◌∙◌, ◌<◌}
use Rattle.set_scratch.proofs.Placed.{begun, stepped}
use Rattle.set_scratch.proofs.places.fill.Goals as goal

pub overflow_cast-place : goal.overflow_cast-place
overflow_cast-place c =
    let there = c.requires.there in
    let along = c.loop.invariant.along there.0 there.1 there.2 there.3 in
    let room = begun along (omega (arith, c.loop-test.true)) in
    omega (arith, room, c.requires.short)

pub number_at-requires : goal.number_at-requires
number_at-requires c =
    let there = c.requires.there in
    let along = c.loop.invariant.along there.0 there.1 there.2 there.3 in
    let room = begun along (omega (arith, c.loop-test.true)) in
    omega (arith, room)

pub overflow_add-place-in-loop : goal.overflow_add-place-in-loop
overflow_add-place-in-loop c =
    let there = c.requires.there in
    let along = c.loop.invariant.along there.0 there.1 there.2 there.3 in
    let room = begun along (omega (arith, c.loop-test.true)) in
    let small : c.number_at.result < 65536 = c.number_at.type_inv in
    omega (arith, room, small, c.requires.short)

pub loop-preserved : goal.loop-preserved
loop-preserved c = record {
  counted = omega (arith, c.push_reserved.ensures.len, c.loop.invariant.counted);
  capacity = c.push_reserved.ensures.capacity ∙ c.loop.invariant.capacity;
  along = λ all after count there.
      let h = c.push_reserved.ensures.items in
      stepped (c.loop.invariant.along all after count there) (omega (arith, c.loop-test.true))
      c.number_at.ensures h (omega arith);
}
