-- What the checkers of a check saw, from what they saw of the checks before.
use Rattle.std.proofs.Common.{◌≡◌, ◌≤◌, ◌<◌, ℕ, Bool, List, [], ◌∷◌, length, map, arith, refl, ap, sym, ◌∙◌, inl, inr, Some, None, Option}
use Rattle.std.specs.Prelude.{slice_get}
use Rattle.std.proofs.lemmas.Bool.{ne_eqb}
use mathlib.Core.Path.{subst}
use Rattle.check_model.specs.Checks.{Checks, check_with}
use Rattle.check_model.specs.declared.checks.Check.{Check}
use Rattle.check_model.specs.declared.checks.Check.TheVariants.{Endpoint, Calculated}
use Rattle.checker_state.specs.Standing.{Seen, kept, nothing, numbers}
use Rattle.checker_state.specs.Standing.{StandsFor as HasSeen}
use Rattle.health_model.specs.Statuses.{AreReports, Report, results_of}
use Rattle.policy_select.proofs.MembersOfZoneList.{filled}
use Rattle.health_planning.specs.Later.{IsLaterAt, HasThreshold, Knows}
use Rattle.health_planning.specs.Building.{IsSeen}
use Rattle.health_planning.specs.Wired.{StandsAt, ids_of, place_of}
use Rattle.health_planning.proofs.Places.{found, held_there, id_there, of_all, one_place}

some_same : {X : Type 0} {x y : X} → Some x ≡ Some y → x ≡ y
some_same e = cc

-- no report is of a number that no check had
none_of : (next id : ℕ) (reports : List Report) (checker : ℕ) → AreReports next reports
    → next ≤ id → results_of reports id checker ≡ []
none_of next id [] checker are late = refl
none_of next id (report ∷ reports) checker are late =
    let b = are.0.0 in
    rw (ne_eqb id report.check (λ e. omega arith)) (none_of next id reports checker are.1 late)

map_same : {X Y : Type 0} (f g : X → Y) → ((x : X) → f x ≡ g x) → (xs : List X)
    → map f xs ≡ map g xs
map_same f g same [] = refl
map_same f g same (x ∷ xs) = both (same x) (map_same f g same xs)
  where
    both : {Z : Type 0} {a b : Z} {xs ys : List Z} → a ≡ b → xs ≡ ys → a ∷ xs ≡ b ∷ ys
    both e f = cc

module _ (ids : List ℕ) (seen : List (Option Seen)) (at : Option ℕ) (id threshold : ℕ)
    (inverted disabled : Bool) (result : Seen)
    (within : (place : ℕ) → at ≡ Some place → place < length seen)
    (kept_on : (place : ℕ) (its : Seen) → at ≡ Some place
    → slice_get seen place ≡ Some (Some its) → result ≡ its)
    (new : at ≡ None → HasSeen threshold nothing result)
    (old : Checks) (reports : List Report) (knows : Knows old reports ids seen)
    (stands : StandsAt ids id at) where
  -- a number that stands somewhere is that of a check that was there
  held_before : (place : ℕ) → slice_get ids place ≡ Some id
      → (check : Check) × (slice_get old.list place ≡ Some (id, check))
  held_before place is =
      held_there old.list place id (subst (λ (l : List ℕ). slice_get l place ≡ Some id) knows.its_ids is)

  nowhere : old.next ≤ id → (found_at : Option ℕ) → at ≡ found_at → StandsAt ids id found_at
      → at ≡ None
  nowhere late None e none = e
  nowhere late (Some place) e is =
      let held = held_before place is in
      let below = of_all (λ (h : ℕ × Check). h.0 < old.next) old.list place (id, held.0) knows.below held.1 in
      absurd (omega arith)

  -- a check that wasn't there
  fresh : old.next ≤ id → HasSeen threshold (results_of reports id) result
  fresh late =
      new (nowhere late at refl stands)
      ∙ ap (λ checkers. record { threshold = threshold; checkers = checkers })
      (map_same (λ (k : ℕ). kept threshold []) (λ (k : ℕ). kept threshold (results_of reports id k))
      (λ k. ap (kept threshold) (sym (none_of old.next id reports k knows.its_reports late))) numbers)

  -- one that was
  stayed : (check : Check) → check_with old.list id ≡ Some check → HasThreshold (Some check) threshold
      → HasSeen threshold (results_of reports id) result
  stayed (Calculated other its off children) is same = absurd same
  stayed (Endpoint other its off) is same =
      let place = place_of (ids_of old.list) id in
      let here = found old.list id (Endpoint other its off) is in
      let in_list = id_there old.list place id (Endpoint other its off) here in
      by place here (subst (λ (l : List ℕ). slice_get l place ≡ Some id) (sym knows.its_ids) in_list) at refl stands
    where
      saw_it : (at_place : ℕ) → at ≡ Some at_place → (saw : Option Seen)
          → slice_get seen at_place ≡ Some saw → IsSeen reports id (Endpoint other its off) saw
          → HasSeen threshold (results_of reports id) result
      saw_it at_place e None at_saw its = absurd its
      saw_it at_place e (Some its_seen) at_saw its =
          subst (HasSeen threshold (results_of reports id)) (sym (kept_on at_place its_seen e at_saw))
          (subst (λ (n : ℕ). HasSeen n (results_of reports id) its_seen) same its)

      by : (place : ℕ) → slice_get old.list place ≡ Some (id, Endpoint other its off)
          → slice_get ids place ≡ Some id → (found_at : Option ℕ) → at ≡ found_at
          → StandsAt ids id found_at → HasSeen threshold (results_of reports id) result
      by place here in_ids None e none = absurd (none place in_ids)
      by place here in_ids (Some at_place) e there =
          let held = held_before at_place there in
          let one = one_place old.list at_place place id held.0 (Endpoint other its off) knows.rising held.1 here in
          let saw = filled seen at_place (within at_place e) in
          let at_one = subst (λ (n : ℕ). slice_get old.list n ≡ Some (id, Endpoint other its off)) (sym one) here in
          saw_it at_place e saw.0 saw.1 (knows.its_seen at_place id (Endpoint other its off) saw.0 at_one saw.1)

  pub seen_endpoint : IsLaterAt old id (Endpoint threshold inverted disabled)
      → IsSeen reports id (Endpoint threshold inverted disabled) (Some result)
  seen_endpoint (inl late) = fresh late
  seen_endpoint (inr was) = by (check_with old.list id) refl was
    where
      by : (o : Option Check) → check_with old.list id ≡ o → HasThreshold o threshold
          → HasSeen threshold (results_of reports id) result
      by None at was = absurd was
      by (Some check) at was = stayed check at was

pub seen_it : (ids : List ℕ) (seen : List (Option Seen)) (at : Option ℕ) (id threshold : ℕ)
    (result : Seen)
    → ((place : ℕ) → at ≡ Some place → place < length seen)
    → ((place : ℕ) (its : Seen) → at ≡ Some place → slice_get seen place ≡ Some (Some its)
    → result ≡ its)
    → (at ≡ None → HasSeen threshold nothing result)
    → (old : Checks) (reports : List Report) → Knows old reports ids seen → StandsAt ids id at
    → (check : Check) {inverted disabled : Bool} → check ≡ Endpoint threshold inverted disabled
    → IsLaterAt old id check → IsSeen reports id check (Some result)
seen_it ids seen at id threshold result within kept_on new old reports knows stands check {inverted} {disabled} e follows =
    rw e (seen_endpoint ids seen at id threshold inverted disabled result within kept_on new old reports knows stands (rw e at follows))
