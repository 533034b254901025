-- How many gates a report works out.
use Rattle.std.proofs.Common.{◌≡◌, ◌≢◌, ◌≤◌, ◌+◌, ℕ, Bool, true, false, Option, None, Some, inl, inr, refl, arith}
use Rattle.std.specs.Prelude.{◌⊎◌, ◌↔◌, IsTrue, if◌then◌else◌}
use Rattle.check_model.specs.declared.checks.Check.{Check}
use Rattle.check_model.specs.declared.checks.Check.TheVariants.{Endpoint, Calculated}
use Rattle.sound_configs.specs.Index.{IsEndpoint}

pub decided : (found : Option Check) → IsEndpoint found ⊎ (IsEndpoint found → ⊥)
decided None = inr (λ is. is)
decided (Some (Endpoint threshold inverted disabled)) = inl tt
decided (Some (Calculated threshold inverted disabled children)) = inr (λ is. is)

pub quiet_of : {P A : Type 0} (told : Bool) (x y : A) → (told ≡ false → P)
    → (IsTrue told ↔ (x ≢ y)) → x ≡ y → P
quiet_of true x y quiet changed same = absurd (changed.0 refl same)
quiet_of false x y quiet changed same = quiet refl

pub cost_of : (told : Bool) (new old n : ℕ) → new ≤ old + (if told then n else 0) → new ≤ old + n
cost_of true new old n cost = cost
cost_of false new old n cost = omega (arith, cost)
