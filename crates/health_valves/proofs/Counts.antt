-- Another count from outside at a valve.
use Rattle.std.proofs.Common.{◌≡◌, ◌≢◌, ◌<◌, ◌≤◌, ◌+◌, ◌^◌, ℕ, Bool, true, false, List, [], set, length-set, get_or-set_same, get_or-set_other, arith, refl, ap, sym, ◌∙◌, inl, inr, Some}
use Rattle.std.specs.Prelude.{nat_le, slice_get}
use Rattle.std.proofs.lemmas.Bool.{cases_eq, eq-eqb, ne_eqb, false≢true}
use mathlib.Core.Bool.{beq}
use Rattle.calculated_health.specs.Status.{swapped_if}
use Rattle.health_valves.specs.Valves.{BothWays, count}
use Rattle.health_valves.specs.Valves.{Net, IsLaid, IsCounted, IsOwned, MeetsEquation, equation, with_own}
use Rattle.health_valves.specs.declared.valves.ValveFeeds.{ValveFeeds}

pub beq_yes : (a b : Bool) → beq a b ≡ true → a ≡ b
beq_yes true true e = refl
beq_yes false false e = refl
beq_yes true false e = absurd (false≢true e)
beq_yes false true e = absurd (false≢true e)

pub beq_no : (a b : Bool) → beq a b ≡ false → a ≡ b → ⊥
beq_no true true e is = false≢true (sym e)
beq_no false false e is = false≢true (sym e)
beq_no true false e is = false≢true (sym is)
beq_no false true e is = false≢true is

module _ (net : Net) (own : ℕ → ℕ) (valve given : ℕ) where
  pub own_here : with_own valve given own valve ≡ given
  own_here = rw (eq-eqb valve valve refl) refl

  pub own_there : (n : ℕ) → n ≢ valve → with_own valve given own n ≡ own n
  own_there n ne = rw (ne_eqb n valve ne) refl

  pub there : (v : ℕ → Bool) (n : ℕ) → n ≢ valve → MeetsEquation net own v n → MeetsEquation net (with_own valve given own) v n
  there v n ne meets = meets ∙ ap (λ k. swapped_if (net.condition n).inverted (nat_le (net.condition n).need (k + count v (net.condition n).feeders))) (sym (own_there n ne))

  pub recounted : (v : ℕ → Bool) (counts : List ℕ) (now : ℕ) → valve < net.size → given ≤ 2 ^ 31
      → now ≡ given + count v (net.condition valve).feeders → IsCounted net own v counts
      → IsCounted net (with_own valve given own) v (set counts valve now)
  recounted v counts now b fits now_is is = record {
    size = length-set _ _ _ ∙ is.size;
    small = λ n l. elim (cases_eq n valve) [
      | inl e ↦ let o = own_here in rw e (omega (arith, o))
      | inr ne ↦ rw (own_there n ne) (is.small n l)
    ];
    few = is.few;
    each = λ n l. elim (cases_eq n valve) [
      | inl e ↦ let o = own_here in let s = is.size in let g = get_or-set_same counts valve now 0 (omega arith) in rw e (omega (arith, o, g))
      | inr ne ↦ let g = get_or-set_other counts valve n now 0 ne in g ∙ rw (own_there n ne) (is.each n l)
    ];
  }

  pub reowned : (owns : List ℕ) → valve < net.size → IsOwned net own owns
      → IsOwned net (with_own valve given own) (set owns valve given)
  reowned owns b is = record {
    size = length-set _ _ _ ∙ is.size;
    each = λ n l. elim (cases_eq n valve) [
      | inl e ↦ let s = is.size in rw e (get_or-set_same owns valve given 0 (omega arith) ∙ sym own_here)
      | inr ne ↦ get_or-set_other owns valve n given 0 ne ∙ is.each n l ∙ sym (own_there n ne)
    ];
  }

  -- where nothing feeds the valve, that is all that is counted
  pub own_alone : (net.condition valve).feeders ≡ [] → (v : ℕ → Bool)
      → with_own valve given own valve + count v (net.condition valve).feeders ≡ given
  own_alone alone v =
      let none : count v (net.condition valve).feeders ≡ 0 = ap (count v) alone in
      let o = own_here in
      omega (arith, none, o)

  -- the value that the code works out is the equation's
  pub now_is : (rows : List ValveFeeds) (feeds : BothWays) (row : ValveFeeds) (now : Bool) (v : ℕ → Bool) (n : ℕ) → IsLaid net rows feeds → slice_get rows valve ≡ Some row → now ≡ swapped_if row.inverted (nat_le row.need n) → n ≡ with_own valve given own valve + count v (net.condition valve).feeders → now ≡ equation net (with_own valve given own) v valve
  now_is rows edges row now v n laid at e counted = let r = laid.each_row valve row at in e ∙ rw (r.need, r.inverted, counted) refl
