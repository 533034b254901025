-- A walk has no more cells than there are.
use Rattle.std.proofs.Common.{ℕ, zero, suc, ◌+◌, ◌-◌, ◌<◌, ◌≤◌, subst, arith, inl, inr}
use Rattle.std.specs.Prelude.{min}
use Rattle.octet_region.specs.Chains.{Walk}
use Rattle.octet_region.proofs.Picks.{at_or_not}

abbrev tally : (ℕ → ℕ) → ℕ → ℕ
tally f zero = 0
tally f (suc n) = f n + tally f n

tally_most : (f : ℕ → ℕ) (n : ℕ) → ((d : ℕ) → f d ≤ 1) → tally f n ≤ n
tally_most f zero few = omega arith
tally_most f (suc n) few = omega (arith, few n, tally_most f n few)

tally_grows : (f g : ℕ → ℕ) (n : ℕ) → ((d : ℕ) → f d ≤ g d) → tally f n ≤ tally g n
tally_grows f g zero le = omega arith
tally_grows f g (suc n) le = omega (arith, le n, tally_grows f g n le)

tally_more : (f g : ℕ → ℕ) (n c : ℕ) → c < n → ((d : ℕ) → f d ≤ g d) → f c < g c → tally f n < tally g n
tally_more f g zero c lt le here = absurd (omega arith)
tally_more f g (suc n) c lt le here = elim (at_or_not c n) [
  | inl e ↦
      (let there : f n < g n = subst (λ d. f d < g d) e here in
      omega (arith, there, tally_grows f g n le))
  | inr ne ↦ omega (arith, le n, tally_more f g n c (omega (arith, lt, ne)) le here)
]

abbrev below : (rank : ℕ → ℕ) → ℕ → ℕ → ℕ
below rank n d = min 1 (n - rank d)

walk_tally : (owner rank number : ℕ → ℕ) (size o n c : ℕ) → Walk owner rank number size o 0 n c
    → n ≤ tally (below rank n) size
walk_tally owner rank number size o zero c w = omega arith
walk_tally owner rank number size o (suc n) c w =
    let rest = walk_tally owner rank number size o n (number c - 33) w.4 in
    let more =
    tally_more (below rank n) (below rank (suc n)) size c w.0 (λ d. omega arith) (omega (arith, w.2)) in
    omega (arith, rest, more)

pub walk_few : (owner rank number : ℕ → ℕ) (size o n c : ℕ) → Walk owner rank number size o 0 n c → n ≤ size
walk_few owner rank number size o n c w =
    let some = walk_tally owner rank number size o n c w in
    let most = tally_most (below rank n) size (λ d. omega arith) in
    omega (arith, some, most)
