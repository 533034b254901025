-- A valve needs another number of those that feed it.
use Rattle.std.proofs.Common.{◌≡◌, ◌≢◌, ◌<◌, ◌+◌, ℕ, zero, suc, Bool, List, [], ◌∷◌, length, set, length-set, arith, refl, ap, sym, ◌∙◌, inl, inr, Some}
use Rattle.std.specs.Prelude.{nat_le, slice_get}
use Rattle.std.specs.List.{Contains}
use Rattle.std.proofs.lemmas.Bool.{cases_eq, eq-eqb, ne_eqb}
use mathlib.Core.Path.{subst}
use Rattle.calculated_health.specs.Status.{swapped_if}
use Rattle.health_valves.specs.Valves.{count}
use Rattle.health_valves.specs.Valves.{BothWays, HasEnds, Net, Condition, IsLaid, IsRow, IsCounted, IsOwned, Feeds, MeetsEquation, equation, with_need}
use Rattle.health_valves.specs.Walk.{Leads, PathsEnd}
use Rattle.health_valves.specs.declared.valves.ValveFeeds.{ValveFeeds}

some_same : {X : Type 0} {x y : X} → Some x ≡ Some y → x ≡ y
some_same e = cc

set_at : {X : Type 0} (xs : List X) (k : ℕ) (x y : X) → slice_get (set xs k x) k ≡ Some y → y ≡ x
set_at [] k x y e = let no : ⊥ = cc in absurd no
set_at (z ∷ xs) zero x y e = sym (some_same e)
set_at (z ∷ xs) (suc k) x y e = set_at xs k x y e

pub set_beside : {X : Type 0} (xs : List X) (k n : ℕ) (x : X) → n ≢ k
    → slice_get (set xs k x) n ≡ slice_get xs n
set_beside [] k n x apart = refl
set_beside (z ∷ xs) zero zero x apart = absurd (apart refl)
set_beside (z ∷ xs) zero (suc n) x apart = refl
set_beside (z ∷ xs) (suc k) zero x apart = refl
set_beside (z ∷ xs) (suc k) (suc n) x apart = set_beside xs k n x (λ e. apart (ap suc e))

pub set_here : {X : Type 0} (xs : List X) (k : ℕ) (x : X) → k < length xs → slice_get (set xs k x) k ≡ Some x
set_here [] k x within = absurd (omega arith)
set_here (z ∷ xs) zero x within = refl
set_here (z ∷ xs) (suc k) x within = set_here xs k x (omega arith)

-- where each valve is fed by those that fed it, paths end still
module _ (net now : Net) (alike : (n : ℕ) → (now.condition n).feeders ≡ (net.condition n).feeders) where
  leads_alike : (k x y : ℕ) → Leads (Feeds now) k x y → Leads (Feeds net) k x y
  leads_alike zero x y l = l
  leads_alike (suc k) x y l = (l.0, subst (λ f. Contains f x) (alike l.0) l.1, leads_alike k l.0 y l.2)

  pub ends_alike : HasEnds net → HasEnds now
  unfolding PathsEnd
  ends_alike h = λ x y l. h x y (leads_alike 64 x y l)

module _ (valve need : ℕ) (inverted : Bool) (net : Net) where
  abbrev now : Net
  now = with_need valve need inverted net

  pub there : (n : ℕ) → n ≢ valve → now.condition n ≡ net.condition n
  there n apart = rw (ne_eqb n valve apart) refl

  pub here : now.condition valve ≡ record { need = need; inverted = inverted; feeders = (net.condition valve).feeders }
  here = rw (eq-eqb valve valve refl) refl

  pub feeders_same : (n : ℕ) → (now.condition n).feeders ≡ (net.condition n).feeders
  feeders_same n = elim (cases_eq n valve) [
    | inl e ↦ rw (eq-eqb n valve e) refl
    | inr apart ↦ ap (λ (c : Condition). c.feeders) (there n apart)
  ]

  feeds_same : (x y : ℕ) → Feeds now x y → Feeds net x y
  feeds_same x y = subst (λ l. Contains l x) (feeders_same y)

  leads_same : (k x y : ℕ) → Leads (Feeds now) k x y → Leads (Feeds net) k x y
  leads_same zero x y l = l
  leads_same (suc k) x y l = (l.0, feeds_same x l.0 l.1, leads_same k l.0 y l.2)

  pub ends_same : (n : ℕ) → PathsEnd (Feeds net) n → PathsEnd (Feeds now) n
  unfolding PathsEnd
  ends_same n h = λ x y l. h x y (leads_same n x y l)

  row_now : (n : ℕ) (row : ValveFeeds) → n ≡ valve → row.need ≡ need → row.inverted ≡ inverted
      → IsRow (now.condition n) row
  row_now n row e its_need its_inverted =
      let at : now.condition n ≡ record { need = need; inverted = inverted; feeders = (net.condition valve).feeders } = ap now.condition e ∙ here in
      record {
        need = its_need ∙ sym (ap (λ (c : Condition). c.need) at);
        inverted = its_inverted ∙ sym (ap (λ (c : Condition). c.inverted) at);
      }

  -- rows of which one has another condition
  pub laid_now : (rows : List ValveFeeds) (feeds : BothWays) (row : ValveFeeds) → IsLaid net rows feeds
      → row.need ≡ need → row.inverted ≡ inverted → IsLaid now (set rows valve row) feeds
  laid_now rows feeds row laid its_need its_inverted =
      record {
        size = length-set rows valve row ∙ laid.size;
        valves = laid.valves;
        each_row = λ n found is. elim (cases_eq n valve) [
          | inl e ↦
              let found_is : found ≡ row = set_at rows valve row found (subst (λ m. slice_get (set rows valve row) m ≡ Some found) e is) in
              row_now n found e (ap (λ (r : ValveFeeds). r.need) found_is ∙ its_need)
              (ap (λ (r : ValveFeeds). r.inverted) found_is ∙ its_inverted)
          | inr apart ↦
              subst (λ (c : Condition). IsRow c found) (sym (there n apart))
              (laid.each_row n found (sym (set_beside rows valve n row apart) ∙ is))
        ];
        reversed = λ x y b. rw (feeders_same y) (laid.reversed x y b);
        within = laid.within;
      }

  pub counted_now : (own : ℕ → ℕ) (v : ℕ → Bool) (counts : List ℕ) → IsCounted net own v counts
      → IsCounted now own v counts
  counted_now own v counts is = record {
    size = is.size;
    small = is.small;
    few = λ n b. rw (feeders_same n) (is.few n b);
    each = λ n b. rw (feeders_same n) (is.each n b);
  }

  pub owned_now : (own : ℕ → ℕ) (owns : List ℕ) → IsOwned net own owns → IsOwned now own owns
  owned_now own owns is = record { size = is.size; each = is.each }

  -- the value that the code works out is the equation's
  pub now_is : (own : ℕ → ℕ) (v : ℕ → Bool) (n : ℕ) (b : Bool) → b ≡ swapped_if inverted (nat_le need n)
      → n ≡ own valve + count v (now.condition valve).feeders → b ≡ equation now own v valve
  now_is own v n b is counted =
      is ∙ ap (λ m. swapped_if inverted (nat_le need m)) counted
      ∙ sym (ap (λ (c : Condition). swapped_if c.inverted (nat_le c.need (own valve + count v (now.condition valve).feeders))) here)

  pub meets_there : (own : ℕ → ℕ) (v : ℕ → Bool) (n : ℕ) → n ≢ valve → MeetsEquation net own v n
      → MeetsEquation now own v n
  meets_there own v n apart meets =
      meets ∙ ap (λ (c : Condition). swapped_if c.inverted (nat_le c.need (own n + count v c.feeders))) (sym (there n apart))
