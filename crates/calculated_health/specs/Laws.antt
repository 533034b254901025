-- What the rules come to at their edges.
use Rattle.std.specs.Prelude.{◌≡◌, ℕ, ◌<◌, ◌≤◌, true, false, not, IsTrue, ◌↔◌}
use Rattle.calculated_health.specs.Status.{endpoint_status, calculated_status}

-- Inverting a check swaps its status.
pub record InvertedSwaps : Type 0 where
  pub endpoint : (passing : ℕ) → endpoint_status passing true ≡ not (endpoint_status passing false)
  pub calculated : (healthy threshold : ℕ)
      → calculated_status healthy threshold true ≡ not (calculated_status healthy threshold false)

-- An endpoint is healthy exactly where ten checkers or more see a pass: nine of fifty are 18 per cent.
abbrev pub TenOfFifty : Type 0
TenOfFifty = (passing : ℕ) → IsTrue (endpoint_status passing false) ↔ (10 ≤ passing)

-- A threshold of 0 is always met, and one above the number of children never.
pub record ThresholdEnds : Type 0 where
  pub zero_is_met : (healthy : ℕ) → IsTrue (calculated_status healthy 0 false)
  pub more_is_not : (healthy children threshold : ℕ) → healthy ≤ children → children < threshold
      → calculated_status healthy threshold false ≡ false
