use Rattle.std.proofs.Common.{ℕ, ◌-◌, ◌≤◌, List, length, drop}
use Rattle.std.specs.Prelude.{◌↔◌}
use Rattle.rdata_layout.specs.Layout.{AreStrings}
use Rattle.rdata_layout.proofs.layout.are_strings.Given as goal

-- The whole is strings exactly where the rest is.
pub record IsPassed (octets : List ℕ) (at : ℕ) : Type 0 where
  pub within : at ≤ length octets
  pub same : AreStrings octets ↔ AreStrings (drop at octets)

abbrev pub invariant-loop-at : goal.invariant-loop-at
invariant-loop-at l = IsPassed l.octets l.at

abbrev pub decreases-loop-at : goal.decreases-loop-at
decreases-loop-at l = length l.octets - l.at
