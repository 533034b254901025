use Rattle.std.proofs.Common.{◌≡◌, ◌≤◌, ◌<◌, ◌+◌, ◌-◌, ◌^◌, ◌++◌, map, vec_len, vec_capacity}
use Rattle.set_scratch.specs.Stored.{Held}
use Rattle.set_store.specs.Index.{IsIntact, kept_in}
use Rattle.set_store.specs.Stored.{nothing}
use Rattle.set_store.proofs.growth.give_slots.Given as goal

abbrev pub invariant-loop : goal.invariant-loop
invariant-loop l = record {
  index : (held : Held) → IsIntact held l.fn.slots.items l.fn.free l.spare
      → IsIntact held l.slots.items l.free (l.spare + l.counter);
  room : vec_len l.slots + (l.more - l.counter) ≤ vec_capacity l.slots;
  few : vec_len l.slots + (l.more - l.counter) < 2 ^ 32;
  seen : (held : Held) → map (kept_in held) l.slots.items ≡ map (kept_in held) l.fn.slots.items
      ++ nothing l.counter;
}
