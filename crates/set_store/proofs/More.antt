-- A free slot comes, in front of the others.
use Rattle.std.proofs.Common.{◌≡◌, ◌≢◌, ℕ, zero, suc, None, Option, ◌+◌, ◌<◌, ◌^◌, List, [], ◌∷◌, ◌++◌, Some, length, map, ap, ◌∙◌, sym, refl, subst, arith, length-append, append_assoc, inl, inr}
use Rattle.std.specs.Prelude.{slice_get}
use Rattle.std.proofs.lemmas.List.{map-append}
use Rattle.std.proofs.lemmas.Option.{slice_get_within}
use Rattle.set_scratch.specs.Stored.{Held}
use Rattle.set_store.specs.Packed.{Slot}
use Rattle.set_store.specs.Index.{IsChain, IsIntact, IsLive, kept_in, new_slot}
use Rattle.set_store.specs.Stored.{Kept, nothing}
use Rattle.set_store.proofs.Chains.{moved}
use Rattle.set_store.proofs.Counts.{count_more, used_free}
use Rattle.set_store.proofs.Keeping.{kept_free}
use Rattle.set_store.proofs.Lists.{get_last, get_within, before_last}
use Rattle.set_store.proofs.Takes.{ranked, ranked_at, ranked_other}

module _ (held : Held) (slots : List Slot) (free spare : ℕ) (index : IsIntact held slots free spare)
    (few : length slots + 1 < 2 ^ 32) where
  abbrev new : Slot
  new = new_slot free

  abbrev longer : List Slot
  longer = slots ++ new ∷ []

  -- a slot in use is one of the others
  old_at : (i : ℕ) (slot : Slot) → slice_get longer i ≡ Some slot → IsLive slot
      → slice_get slots i ≡ Some slot
  old_at i slot at live = elim (before_last slots new i slot at) [
    | inl was ↦ was
    | inr is ↦ absurd (live (ap (λ (s : Slot). s.cell) (sym is.1)))
  ]

  apart_now : (i j : ℕ) (slot other : Slot) → slice_get longer i ≡ Some slot → slice_get longer j ≡ Some other
      → IsLive slot → slot.cell ≡ other.cell → i ≡ j
  apart_now i j slot other at_i at_j live same =
      index.apart i j slot other (old_at i slot at_i live) (old_at j other at_j (λ dead. live (same
      ∙ dead))) live same

  free_apart : (k : ℕ) (slot : Slot) → slice_get slots k ≡ Some slot → k ≢ length slots
  free_apart k slot at e = (let inside = slice_get_within slots k slot at in absurd (omega
      (arith, e, inside)))

  pub given : IsIntact held longer (length slots) (spare + 1)
  given = record {
    live = λ i slot at live. index.live i slot (old_at i slot at live) live;
    apart = apart_now;
    rank = ranked index.rank (length slots) spare;
    chain = subst (λ n. IsChain longer (ranked index.rank (length slots) spare) n (length slots))
        (let e : suc spare ≡ spare + 1 = omega arith in e) (
          new,
          get_last slots new,
          refl,
          ranked_at index.rank (length slots) spare,
          moved slots longer index.rank (ranked index.rank (length slots) spare) spare
              (λ k slot at dead below. (
                get_within slots (new ∷ []) k slot at,
                ranked_other index.rank (length slots) spare k (free_apart k slot at),
              ))
              spare free (omega arith) index.chain,
        );
    counted = omega (
      arith,
      index.counted,
      count_more slots new (used_free new refl),
      length-append slots
          (new ∷ []),
    );
    few = omega (arith, few, length-append slots (new ∷ []));
  }

pub nothing_more : (n : ℕ) → nothing n ++ nothing 1 ≡ nothing (n + 1)
nothing_more zero = refl
nothing_more (suc n) = ap (λ xs. None ∷ xs) (nothing_more n) ∙ ap nothing (let e : suc
    (n + 1) ≡ suc n + 1 = omega arith in e)

-- nothing is kept in it
pub more_seen : (held : Held) (slots : List Slot) (free : ℕ) (kept : List (Option Kept)) (n : ℕ)
    → map (kept_in held) slots ≡ kept ++ nothing n
    → map (kept_in held) (slots ++ new_slot free ∷ []) ≡ kept ++ nothing (n + 1)
more_seen held slots free kept n e =
    map-append (kept_in held) slots (new_slot free ∷ [])
    ∙ ap (λ xs. xs ++ kept_in held (new_slot free) ∷ []) e
    ∙ ap (λ v. (kept ++ nothing n) ++ v ∷ []) (kept_free held (new_slot free) refl)
    ∙ append_assoc kept (nothing n) (nothing 1) ∙ ap (λ xs. kept ++ xs) (nothing_more n)
