use Rattle.std.proofs.Common.{◌≡◌, ◌+◌, length, map, ap, sym, ◌∙◌, subst, arith}
use Rattle.set_store.specs.Index.{IsIntact, kept_in}
use Rattle.set_store.proofs.More.{given, more_seen}
use Rattle.set_store.proofs.growth.give_slots.Goals as goal

pub loop-preserved : goal.loop-preserved
loop-preserved c =
    let g = c.give_slot-free in
    let i = c.loop.invariant in
    let new_len = g.ensures.length in
    let capacity = g.ensures.room in
    let ok = c.loop.slots.ok.0 in
    let one : (c.args.spare + c.loop.counter) + 1 ≡ c.args.spare + (c.loop.counter + 1) = omega arith in
    record {
      index = λ held is.
          subst (λ n. IsIntact held g.new.slots.items g.result n) one
          (subst (λ n. IsIntact held g.new.slots.items n ((c.args.spare + c.loop.counter) + 1))
          (sym g.ensures.number)
          (subst (λ xs. IsIntact held xs (length c.loop.slots.items) ((c.args.spare + c.loop.counter) + 1))
          (sym g.ensures.slots)
          (given held c.loop.slots.items c.loop.free (c.args.spare + c.loop.counter) (i.index held is)
          (omega (arith, ok, i.few, c.loop-test.true)))));
      room = omega (arith, new_len, capacity, i.room, c.loop-test.true);
      few = omega (arith, new_len, i.few, c.loop-test.true);
      seen = λ held. ap (map (kept_in held)) g.ensures.slots
          ∙ more_seen held c.loop.slots.items c.loop.free (map
          (kept_in held) c.args.slots.now.items) c.loop.counter
          (i.seen held);
    }
