-- A slot in use is emptied.
use Rattle.std.proofs.Common.{◌≡◌, ◌≢◌, ℕ, suc, ◌+◌, ◌<◌, List, None, Some, cond, length, set, map, ap, ◌∙◌, refl, subst, arith, inl, inr}
use Rattle.std.specs.Prelude.{slice_get, ◌==◌}
use Rattle.std.specs.FinMap as finmap
use Rattle.std.proofs.lemmas.Bool.{eq-eqb}
use Rattle.std.proofs.lemmas.Bool.Decides.{eqb_tells}
use Rattle.std.proofs.lemmas.List.{length-set}
use Rattle.std.proofs.lemmas.Option.{slice_get_within}
use Rattle.set_scratch.specs.Stored.{Held}
use Rattle.set_store.specs.Packed.{Slot}
use Rattle.set_store.specs.Index.{IsChain, IsIntact, IsLive, kept_in, no_cell}
use Rattle.set_store.proofs.Chains.{moved}
use Rattle.set_store.proofs.Counts.{count_set, used_free, used_live}
use Rattle.set_store.proofs.Keeping.{apart_now, few_now, kept_free, live_now, another, free_apart, seen}
use Rattle.set_store.proofs.Lists.{get_other, get_same}

-- a rank in front of all others
abbrev pub ranked : (ℕ → ℕ) → (at n : ℕ) → ℕ → ℕ
ranked rank at n k = cond (k == at) n (rank k)

pub ranked_at : (rank : ℕ → ℕ) (at n : ℕ) → ranked rank at n at ≡ n
ranked_at rank at n = ap (λ b. cond b n (rank at)) (eq-eqb at at refl)

pub ranked_other : (rank : ℕ → ℕ) (at n k : ℕ) → k ≢ at → ranked rank at n k ≡ rank k
ranked_other rank at n k apart = elim (eqb_tells k at) [
  | inl e ↦ absurd (apart e.1)
  | inr e ↦ (ap (λ b. cond b n (rank k)) e.0)
]

module _ (held now : Held) (slots : List Slot) (free spare : ℕ) (index : IsIntact held slots free spare)
    (i : ℕ) (slot : Slot)
    (at : slice_get slots i ≡ Some slot) (live : IsLive slot)
    (others : (other : ℕ) → other ≢ slot.cell → finmap.get now other ≡ finmap.get held other) where
  abbrev new : Slot
  new = record { cell = no_cell; tag = 31; zone = free }

  pub within : i < length slots
  within = slice_get_within slots i slot at

  stays : (j : ℕ) (other : Slot) → j ≢ i → slice_get slots j ≡ Some other → IsLive other
      → finmap.get now other.cell ≡ finmap.get held other.cell
  stays j other ne at_j is = others other.cell
      (another held slots free spare index i slot at live j other ne at_j is)

  pub taken : IsIntact now (set slots i new) i (spare + 1)
  taken = record {
    live = live_now held now slots free spare index i within new stays (λ j other ne at_j is. is)
        (λ l. absurd (l refl));
    apart = apart_now held now slots free spare index i within new stays (λ j other ne at_j is. is)
        (λ l. absurd (l refl));
    rank = ranked index.rank i spare;
    chain = subst (λ n. IsChain (set slots i new) (ranked index.rank i spare) n i)
        (let e : suc spare ≡ spare + 1 = omega arith in e) (
          new,
          get_same slots i new within,
          refl,
          ranked_at index.rank i spare,
          moved slots (set slots i new) index.rank (ranked index.rank i spare) spare
              (λ k other at_k dead below. (
                get_other slots i k new
                    (free_apart held slots free spare index i slot at live k other at_k dead) ∙ at_k,
                ranked_other index.rank i spare k
                    (free_apart held slots free spare index i slot at live k other at_k dead),
              ))
              spare free (omega arith) index.chain,
        );
    counted = (let c = count_set slots i slot new at in
        let u = used_live slot live in
        let v = used_free new refl in
        omega (arith, c, u, v, index.counted, length-set slots i new));
    few = few_now held now slots free spare index i within new stays (λ j other ne at_j is. is) (λ l. absurd
        (l refl));
  }

  pub taken_seen : map (kept_in now) (set slots i new) ≡ set (map (kept_in held) slots) i None
  taken_seen = seen held now slots free spare index i within new stays (λ j other ne at_j is. is)
      (λ l. absurd (l refl)) None
      (kept_free now new refl)
