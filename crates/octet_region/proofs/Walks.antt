-- Walks along a chain, whose cells have an owner and falling ranks.
use Rattle.std.proofs.Common.{◌≡◌, ℕ, zero, suc, ◌+◌, ◌-◌, ◌<◌, ◌≤◌, ap, sym, refl, subst, ◌∙◌, arith}
use Rattle.octet_region.specs.Chains.{behind_by, jump, IsInside, Walk}

pub jump_suc : (next : ℕ → ℕ) (n c : ℕ) → jump next (suc n) c ≡ next (jump next n c)
jump_suc next zero c = refl
jump_suc next (suc n) c = jump_suc next n (next c)

module _ (owner rank number : ℕ → ℕ) (size : ℕ) where
  pub walk_inside : (o b n c : ℕ) → Walk owner rank number size o b n c → IsInside (behind_by number) size n c
  walk_inside o b zero c w = tt
  walk_inside o b (suc n) c w = (w.0, walk_inside o b n (number c - 33) w.4)

  -- the first n cells of a walk
  pub walk_front : (o b k n t c : ℕ) → t ≡ n + k → Walk owner rank number size o b t c
      → Walk owner rank number size o (b + k) n c
  walk_front o b k zero t c e w = tt
  walk_front o b k (suc n) zero c e w = absurd (omega arith)
  walk_front o b k (suc n) (suc t) c e w =
      (w.0, w.1, omega (arith, w.2), λ some. w.3 (omega (arith, e, some)), walk_front o b k n t (number c - 33) (omega arith) w.4)

  -- those behind them
  pub walk_back : (o b k n t c : ℕ) → t ≡ n + k → Walk owner rank number size o b t c
      → Walk owner rank number size o b k (jump (behind_by number) n c)
  walk_back o b k zero t c e w = subst (λ t. Walk owner rank number size o b t c) (omega arith) w
  walk_back o b k (suc n) zero c e w = absurd (omega arith)
  walk_back o b k (suc n) (suc t) c e w = walk_back o b k n t (number c - 33) (omega arith) w.4

  -- one walk behind another
  pub walk_join : (o b k n t c : ℕ) → t ≡ suc n + k → Walk owner rank number size o (b + k) (suc n) c
      → 32 < number (jump (behind_by number) n c)
      → Walk owner rank number size o b k (jump (behind_by number) (suc n) c) → Walk owner rank number size o b t c
  walk_join o b k n zero c e w on v = absurd (omega arith)
  walk_join o b k zero (suc t) c e w on v = (
    w.0,
    w.1,
    omega (arith, w.2, e),
    λ some. on,
    subst (λ t. Walk owner rank number size o b t (number c - 33)) (omega arith) v,
  )
  walk_join o b k (suc n) (suc t) c e w on v = (
    w.0,
    w.1,
    omega (arith, w.2, e),
    λ some. w.3 (omega arith),
    walk_join o b k n t (number c - 33) (omega arith) w.4 on v,
  )

  -- the last cell of a walk
  pub walk_last : (o b n c : ℕ) → Walk owner rank number size o b (suc n) c
      → (jump (behind_by number) n c < size) × (owner (jump (behind_by number) n c) ≡ o)
      × (rank (jump (behind_by number) n c) ≡ b)
  walk_last o b zero c w = (w.0, w.1, omega (arith, w.2))
  walk_last o b (suc n) c w = walk_last o b n (number c - 33) w.4

  -- links of all cells but the last one are the same
  module _ (other : ℕ → ℕ) where
    pub jump_same : (o b n c : ℕ) → Walk owner rank number size o b (suc n) c
        → ((d : ℕ) → owner d ≡ o → b < rank d → other d ≡ number d)
        → jump (behind_by other) n c ≡ jump (behind_by number) n c
    jump_same o b zero c w same = refl
    jump_same o b (suc n) c w same =
        let e : other c ≡ number c = same c w.1 (omega (arith, w.2)) in
        ap (λ x. jump (behind_by other) n (x - 33)) e ∙ jump_same o b n (number c - 33) w.4 same

    -- cells given to another owner, their ranks shifted
    module _ (owner2 rank2 : ℕ → ℕ) (size2 : ℕ) where
      pub walk_map : (o b p q n c : ℕ) → size ≤ size2 → Walk owner rank number size o b n c
          → ((d r : ℕ) → d < size → owner d ≡ o → rank d ≡ b + r → r < n → (owner2 d ≡ p) × (rank2 d ≡ q + r))
          → ((d : ℕ) → d < size → owner d ≡ o → b < rank d → rank d < b + n → other d ≡ number d)
          → Walk owner2 rank2 other size2 p q n c
      walk_map o b p q zero c larger w labels links = tt
      walk_map o b p q (suc zero) c larger w labels links =
          let l = labels c 0 w.0 w.1 w.2 (omega arith) in
          (omega (arith, w.0), l.0, l.1, λ some. absurd (omega arith), tt)
      walk_map o b p q (suc (suc n)) c larger w labels links =
          let l = labels c (suc n) w.0 w.1 w.2 (omega arith) in
          let e : other c ≡ number c = links c w.0 w.1 (omega (arith, w.2)) (omega (arith, w.2)) in
          let v =
          walk_map o b p q (suc n) (number c - 33) larger w.4
          (λ d r s x y z. labels d r s x y (omega (arith, z)))
          (λ d s x y z. links d s x y (omega (arith, z))) in (
            omega (arith, w.0),
            l.0,
            l.1,
            λ some. omega (arith, e, w.3 some),
            subst (λ x. Walk owner2 rank2 other size2 p q (suc n) (x - 33)) (sym e) v,
          )
