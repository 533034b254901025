-- Feeds into a valve that go.
use Rattle.std.proofs.Common.{◌≡◌, ◌≢◌, ◌<◌, ◌+◌, ◌^◌, ℕ, zero, suc, Bool, true, false, List, [], ◌∷◌, length, set, length-set, get_or-set_same, get_or-set_other, arith, refl, ap, sym, ◌∙◌, inl, inr, Some}
use Rattle.std.specs.Prelude.{◌==◌, if◌then◌else◌, nat_le, slice_get, slice_index}
use Rattle.std.specs.List.{Contains}
use Rattle.std.proofs.lemmas.Bool.{cases_eq, eq-eqb, le-leb, ne_eqb}
use mathlib.Core.Path.{subst}
use Rattle.calculated_health.specs.Status.{swapped_if}
use Rattle.cell_lists.specs.Lists.{first_of, list_at, without}
use Rattle.health_valves.specs.Valves.{BothWays, Condition, Feeds, HasEnds, IsCounted, IsLaid, IsOwned, IsRow, MeetsEquation, Net, count, fed_by, times, unfed_condition, with_condition, with_own}
use Rattle.health_valves.specs.Walk.{Leads, PathsEnd}
use Rattle.health_valves.specs.declared.valves.ValveFeeds.{ValveFeeds}
use Rattle.health_valves.proofs.Counts.{own_here, own_there, reowned}
use Rattle.health_valves.proofs.Members.{in_none}
use Rattle.health_valves.proofs.Needs.{set_beside}
use Rattle.health_valves.proofs.Times.{in_times, times_in, times_there}

some_same : {X : Type 0} {x y : X} → Some x ≡ Some y → x ≡ y
some_same e = cc

-- ---- a feed fewer

-- the list without its first
first_gone : (xs : List ℕ) (x : ℕ) → first_of xs ≡ Some x → length (without x xs) < length xs
first_gone [] x e = let no : ⊥ = cc in absurd no
first_gone (y ∷ ys) x e = rw (eq-eqb y x (some_same e)) (omega arith)

pub fewer_first : (lists : List (List ℕ)) (k x : ℕ) → first_of (list_at lists k) ≡ Some x
    → length (list_at (set lists k (without x (list_at lists k))) k) < length (list_at lists k)
fewer_first [] k x e = let no : ⊥ = cc in absurd no
fewer_first (l ∷ lists) zero x e = first_gone l x e
fewer_first (l ∷ lists) (suc k) x e = fewer_first lists k x e

-- all others stand as often
times_without : (gone y : ℕ) → y ≢ gone → (xs : List ℕ) → times y (without gone xs) ≡ times y xs
times_without gone y apart [] = refl
times_without gone y apart (x ∷ xs) = elim (cases_eq x gone) [
  | inl is ↦ rw (eq-eqb x gone is) (sym (times_there x y xs (λ e. apart (sym e ∙ is))))
  | inr other ↦
      rw (ne_eqb x gone other) (ap (λ (n : ℕ). if x == y then n + 1 else n) (times_without gone y apart xs))
]

pub times_beside : (gone y : ℕ) → y ≢ gone → (lists : List (List ℕ)) (k n : ℕ)
    → times y (list_at (set lists k (without gone (list_at lists k))) n) ≡ times y (list_at lists n)
times_beside gone y apart [] k n = refl
times_beside gone y apart (l ∷ lists) zero zero = times_without gone y apart l
times_beside gone y apart (l ∷ lists) zero (suc n) = refl
times_beside gone y apart (l ∷ lists) (suc k) zero = refl
times_beside gone y apart (l ∷ lists) (suc k) (suc n) = times_beside gone y apart lists k n

-- ---- a valve that nothing feeds any more

module _ (net : Net) (own : ℕ → ℕ) (valve : ℕ) where
  abbrev now : Net
  now = with_condition valve unfed_condition net

  abbrev own_now : ℕ → ℕ
  own_now = with_own valve 0 own

  pub here : now.condition valve ≡ unfed_condition
  here = rw (eq-eqb valve valve refl) refl

  pub there : (n : ℕ) → n ≢ valve → now.condition n ≡ net.condition n
  there n apart = rw (ne_eqb n valve apart) refl

  feeds_was : (x y : ℕ) → Feeds now x y → Feeds net x y
  feeds_was x y f = elim (cases_eq y valve) [
    | inl e ↦
        absurd (in_none x (subst (λ (c : Condition). Contains c.feeders x) (ap now.condition e ∙ here) f))
    | inr apart ↦ subst (λ (c : Condition). Contains c.feeders x) (there y apart) f
  ]

  leads_was : (k x y : ℕ) → Leads (Feeds now) k x y → Leads (Feeds net) k x y
  leads_was zero x y l = l
  leads_was (suc k) x y l = (l.0, feeds_was x l.0 l.1, leads_was k l.0 y l.2)

  pub ends_now : HasEnds net → HasEnds now
  unfolding PathsEnd
  ends_now h = λ x y l. h x y (leads_was 64 x y l)

  -- rows and feeds
  pub cut_laid : (rows : List ValveFeeds) (feeds after : BothWays) (row : ValveFeeds) → valve < net.size
      → row.need ≡ 0 → row.inverted ≡ false → ((x : ℕ) → times valve (fed_by after x) ≡ 0)
      → ((x y : ℕ) → y ≢ valve → times y (fed_by after x) ≡ times y (fed_by feeds x))
      → length after.fed ≡ length feeds.fed → IsLaid net rows feeds → IsLaid now (set rows valve row) after
  cut_laid rows feeds after row b its_need its_inverted gone others valves laid = record {
    size = length-set rows valve row ∙ laid.size;
    valves = valves ∙ laid.valves;
    each_row = λ n found is. elim (cases_eq n valve) [
      | inl e ↦
          let found_is : found ≡ row = set_at rows valve row found (subst (λ (m : ℕ). slice_get (set rows valve row) m ≡ Some found) e is) in
          let at : now.condition n ≡ unfed_condition = ap now.condition e ∙ here in
          record {
            need = ap (λ (r : ValveFeeds). r.need) found_is ∙ its_need ∙ sym (ap (λ (c : Condition). c.need) at);
            inverted = ap (λ (r : ValveFeeds). r.inverted) found_is ∙ its_inverted ∙ sym (ap (λ (c : Condition). c.inverted) at);
          }
      | inr apart ↦
          subst (λ (c : Condition). IsRow c found) (sym (there n apart))
          (laid.each_row n found (sym (set_beside rows valve n row apart) ∙ is))
    ];
    reversed = λ x y within. elim (cases_eq y valve) [
      | inl e ↦
          ap (λ (n : ℕ). times n (fed_by after x)) e ∙ gone x
          ∙ sym (ap (λ (c : Condition). times x c.feeders) (ap now.condition e ∙ here))
      | inr apart ↦
          others x y apart ∙ laid.reversed x y within
          ∙ sym (ap (λ (c : Condition). times x c.feeders) (there y apart))
    ];
    within = λ x y m. elim (cases_eq y valve) [
      | inl e ↦ rw e b
      | inr apart ↦
          let some = in_times y (fed_by after x) m in
          let same = others x y apart in
          laid.within x y (times_in y (fed_by feeds x) (omega (arith, some, same)))
    ];
  }
    where
      set_at : (xs : List ValveFeeds) (k : ℕ) (x y : ValveFeeds) → slice_get (set xs k x) k ≡ Some y → y ≡ x
      set_at [] k x y e = let no : ⊥ = cc in absurd no
      set_at (z ∷ xs) zero x y e = sym (some_same e)
      set_at (z ∷ xs) (suc k) x y e = set_at xs k x y e

  pub cut_counted : (v : ℕ → Bool) (counts : List ℕ) → valve < net.size → IsCounted net own v counts
      → IsCounted now own_now v (set counts valve 0)
  cut_counted v counts b is = record {
    size = length-set counts valve 0 ∙ is.size;
    small = λ n l. elim (cases_eq n valve) [
      | inl e ↦ let o = own_here net own valve 0 in rw e (omega (arith, o))
      | inr apart ↦ rw (own_there net own valve 0 n apart) (is.small n l)
    ];
    few = λ n l. elim (cases_eq n valve) [
      | inl e ↦ (let none = ap (λ (c : Condition). length c.feeders) (ap now.condition e ∙ here) in omega (arith, none))
      | inr apart ↦ subst (λ (c : Condition). length c.feeders < 2 ^ 31) (sym (there n apart)) (is.few n l)
    ];
    each = λ n l. elim (cases_eq n valve) [
      | inl e ↦
          let size = is.size in
          let at = get_or-set_same counts valve 0 0 (omega (arith, size, b)) in
          let o = own_here net own valve 0 in
          let none : count v (now.condition valve).feeders ≡ 0 = ap (λ (c : Condition). count v c.feeders) here in
          subst (λ (m : ℕ). slice_index (set counts valve 0) m ≡ own_now m + count v (now.condition m).feeders) (sym e)
          (omega (arith, at, o, none))
      | inr apart ↦
          get_or-set_other counts valve n 0 0 apart ∙ is.each n l
          ∙ ap (λ (k : ℕ). k + count v (net.condition n).feeders) (sym (own_there net own valve 0 n apart))
          ∙ ap (λ (c : Condition). own_now n + count v c.feeders) (sym (there n apart))
    ];
  }

  pub cut_owned : (owns : List ℕ) → valve < net.size → IsOwned net own owns
      → IsOwned now own_now (set owns valve 0)
  cut_owned owns b is =
      let o = reowned net own valve 0 owns b is in
      record { size = o.size; each = o.each }

  -- each valve that met its equation does, and so does this one where it is open
  pub meets_there : (v : ℕ → Bool) (n : ℕ) → n ≢ valve → MeetsEquation net own v n
      → MeetsEquation now own_now v n
  meets_there v n apart meets =
      meets
      ∙ ap (λ (k : ℕ). swapped_if (net.condition n).inverted (nat_le (net.condition n).need (k + count v (net.condition n).feeders))) (sym (own_there net own valve 0 n apart))
      ∙ ap (λ (c : Condition). swapped_if c.inverted (nat_le c.need (own_now n + count v c.feeders))) (sym (there n apart))

  pub meets_here : (v : ℕ → Bool) → v valve ≡ true → MeetsEquation now own_now v valve
  meets_here v is_open =
      is_open ∙ sym (le-leb 0 (own_now valve + 0) (omega arith))
      ∙ sym (ap (λ (c : Condition). swapped_if c.inverted (nat_le c.need (own_now valve + count v c.feeders))) here)
