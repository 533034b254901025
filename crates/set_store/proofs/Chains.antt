-- Chains of free slots.
use Rattle.std.proofs.Common.{◌≡◌, ℕ, zero, suc, ◌-◌, ◌<◌, ◌≤◌, ◌∙◌, List, subst, arith, Some}
use Rattle.std.specs.Prelude.{slice_get}
use Rattle.set_store.specs.Packed.{Slot}
use Rattle.set_store.specs.Index.{IsChain, no_cell}

-- a chain whose slots stay, each with its rank
pub moved : (slots now : List Slot) (rank rank_now : ℕ → ℕ) (most : ℕ)
    → ((k : ℕ) (slot : Slot) → slice_get slots k ≡ Some slot → slot.cell ≡ no_cell → rank k < most
    → (slice_get now k ≡ Some slot) × (rank_now k ≡ rank k))
    → (n at : ℕ) → n ≤ most → IsChain slots rank n at → IsChain now rank_now n at
moved slots now rank rank_now most stays zero at few chain = tt
moved slots now rank rank_now most stays (suc n) at few (slot, there, free, its_rank, rest) =
    let s = stays at slot there free (omega (arith, its_rank, few)) in (
      slot,
      s.0,
      free,
      s.1 ∙ its_rank,
      moved slots now rank rank_now most stays n slot.zone (omega
          (arith, few)) rest,
    )

-- the first slot of a chain, and the others
pub first : (slots : List Slot) (rank : ℕ → ℕ) (n at : ℕ) → 0 < n → IsChain slots rank n at
    → (slot : Slot) × (slice_get slots at ≡ Some slot) × (slot.cell ≡ no_cell) × (rank at ≡ n - 1)
    × IsChain slots rank (n - 1) slot.zone
first slots rank zero at some chain = absurd (omega (arith, some))
first slots rank (suc n) at some chain = subst
    (λ m. (slot : Slot) × (slice_get slots at ≡ Some slot) × (slot.cell ≡ no_cell) × (rank at ≡ m)
    × IsChain slots rank m slot.zone)
    (let e : n ≡ suc n - 1 = omega arith in e) chain
