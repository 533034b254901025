use Rattle.std.proofs.Common.{◌≡◌, ◌≤◌, ℕ, length}
use Rattle.health_index.specs.Following.{Reshapes}
use Rattle.health_valves.specs.Pass.{IsIdle}
use Rattle.health_valves.specs.Laying.{links_of}
use Rattle.health_valves.specs.Valves.{Net, ValvesStandFor, size_of}
use Rattle.health_index.proofs.following.reshape_checks.Given as goal

abbrev pub invariant-loop-place : goal.invariant-loop-place
invariant-loop-place l = record {
  within : l.place ≤ length l.list;
  reshaped : (net : Net) (own : ℕ → ℕ) → ValvesStandFor net own l.fn.valves
      → Reshapes l.list l.numbers l.place net own l.fn.valves l.valves;
  idle : IsIdle l.valves;
  size : size_of l.valves ≡ size_of l.fn.valves;
  links : links_of l.valves ≡ links_of l.fn.valves;
}
