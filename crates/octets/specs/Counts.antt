-- Counts of faults. A count never falls, and stays at 2^64 - 1 once it is there.
use Rattle.std.specs.Prelude.{ℕ, ◌+◌, ◌-◌, ◌^◌, ◌≤◌, min}

-- the last value of a count
abbrev pub last_count : ℕ
last_count = 2 ^ 64 - 1

-- the next value of a count
abbrev pub next_count : ℕ → ℕ
next_count n = min (n + 1) last_count

-- A count rose: it is above what it was, or it stands at its last value.
abbrev pub Rose : (before now : ℕ) → Type 0
Rose before now = next_count before ≤ now
