use Rattle.std.proofs.Common.{◌≡◌, ◌-◌, ◌++◌, ℕ, List, drop, length, vec_len, vec_capacity}
use Rattle.std.specs.List.{flat_map}
use Rattle.set_parts.specs.Datum.{Datum}
use Rattle.set_parts.specs.Octets.{value_octets}
use Rattle.set_scratch.proofs.Placed.{Along}
use Rattle.set_scratch.proofs.places.fill.Given as goal

abbrev pub invariant-loop : goal.invariant-loop
invariant-loop l = record {
  counted : vec_len l.starts ≡ l.counter;
  capacity : vec_capacity l.starts ≡ vec_capacity l.fn.starts;
  along : (all : List Datum) (after : List ℕ) → length all ≡ l.fn.count
      → drop l.fn.at l.fn.octets ≡ flat_map value_octets all ++ after
      → Along l.fn.octets l.fn.at all after l.place (l.fn.count - l.counter) l.starts.items;
}
