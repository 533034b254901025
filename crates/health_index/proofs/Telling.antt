-- What is told of a check.
use Rattle.std.proofs.Common.{◌≡◌, ◌<◌, ◌≤◌, ◌+◌, ℕ, Bool, List, [], ◌∷◌, length, map, arith, ap, sym, ◌∙◌, inl, inr, Some, None, Option}
use Rattle.std.specs.Prelude.{slice_get, slice_index, option_map}
use Rattle.std.specs.List.{AllByRecursion, filter, range_with_len}
use Rattle.std.proofs.lemmas.List.Sums.{count_by-le-length, length-filter}
use Rattle.std.proofs.lemmas.List.FromFn.{length-range_with_len}
use Rattle.check_model.specs.Checks.{AreChildren, Checks, IsBounded, IsId, children_of}
use Rattle.check_model.specs.declared.checks.Check.{Check}
use Rattle.check_model.specs.declared.checks.Check.TheVariants.{Endpoint, Calculated}
use Rattle.checker_state.specs.Standing.{numbers, passing_of}
use Rattle.checker_state.specs.View.{view_of}
use Rattle.health_valves.specs.Valves.{count, value_of}
use Rattle.health_model.proofs.Members.{filter_same}
use Rattle.health_model.specs.Statuses.{Report, number_told, passing, results_of, status, status_told}
use Rattle.health_planning.specs.Zones.{Zone}
use Rattle.zone_model.specs.Zones.{IsAmong}
use Rattle.health_index.specs.Index.{Index, StandsFor, Tells}
use Rattle.health_planning.specs.Wired.{check_own, ids_of, place_of, valve_with}
use Rattle.health_planning.proofs.Numbers.{number_is}
use Rattle.health_planning.proofs.Places.{check_there, no_check, of_all}
use Rattle.health_index.proofs.Truth.{children_counted}

few_passing : (n : ℕ) (results : ℕ → List Bool) → passing_of n results ≤ 50
unfolding numbers
few_passing n results =
    let b = count_by-le-length (λ (k : ℕ). view_of n (results k)) (range_with_len 0 50) in
    let long = length-range_with_len 0 50 in
    omega arith

module _ (zones : List Zone) (checks : Checks) (reports : List Report) (index : Index)
    (stands : StandsFor zones checks reports index) (id : ℕ) where
  pub nothing_told : ((place : ℕ) → slice_get index.ids place ≡ Some id → ⊥)
      → None ≡ status_told checks.list reports id
  nothing_told none =
      ap (option_map (λ (check : Check). (
        status checks.list reports id,
        number_told check (passing reports id) (status checks.list reports),
      ))) (sym (no_check checks.list id (λ place is. none place (rw stands.ids is))))

  module _ (tells : Tells zones checks reports index) where
    v : ℕ → Bool
    v = value_of index.valves

    -- each child's valve tells its status
    child_told : (child : ℕ) → IsId checks.list child
        → value_of index.valves (valve_with (ids_of checks.list) index.numbers child) ≡ status checks.list reports child
    child_told child (check, at) =
        ap (λ (ids : List ℕ). value_of index.valves (valve_with ids index.numbers child)) (sym stands.ids)
        ∙ tells.statuses child check at

    all_there : (P : ℕ → Type 0) (xs : List ℕ) (x : ℕ) → AllByRecursion P xs → IsAmong xs x → P x
    all_there P [] x all m = absurd m
    all_there P (y ∷ xs) x all (inl is) = rw (sym is) all.0
    all_there P (y ∷ xs) x all (inr m) = all_there P xs x all.1 m

    number : (check : Check) → AreChildren checks.list (children_of check)
        → check_own check (passing reports id) + count (value_of index.valves) (map (valve_with (ids_of checks.list) index.numbers) (children_of check))
        ≡ number_told check (passing reports id) (status checks.list reports)
    number (Endpoint threshold inverted disabled) are = omega arith
    number (Calculated threshold inverted disabled children) are =
        let c = children_counted (value_of index.valves) (ids_of checks.list) index.numbers children in
        let f = ap length (filter_same (λ (child : ℕ). value_of index.valves (valve_with (ids_of checks.list) index.numbers child)) (status checks.list reports) children
        (λ child m. child_told child (all_there (IsId checks.list) children child are.there m))) in
        omega arith

    filtered : (p : ℕ → Bool) (xs : List ℕ) → length (filter p xs) ≤ length xs
    filtered p xs =
        let l = length-filter p xs in
        let b = count_by-le-length p xs in
        omega arith

    small : (check : Check) → IsBounded check
        → number_told check (passing reports id) (status checks.list reports) < 65536
    small (Endpoint threshold inverted disabled) bounded =
        let f = few_passing threshold (results_of reports id) in omega arith
    small (Calculated threshold inverted disabled children) bounded =
        let f = filtered (status checks.list reports) children in
        let b = bounded.1 in
        omega arith

  pub told : (place valve : ℕ) → slice_get index.ids place ≡ Some id → place_of index.ids id ≡ place
      → slice_get index.numbers place ≡ Some valve
      → (value : Bool) (counted short : ℕ) → Tells zones checks reports index
      → value ≡ value_of index.valves valve
      → counted ≡ stands.own valve + count (value_of index.valves) (stands.net.condition valve).feeders
      → (counted < 65536 → short ≡ counted)
      → Some (value, short) ≡ status_told checks.list reports id
  told place valve here first numbered value counted short tells is_value is_count is_short =
      let at = check_there checks.list id place (rw stands.ids at here) (rw stands.ids at first) in
      let valve_is : valve_with index.ids index.numbers id ≡ valve =
      ap (slice_index index.numbers) first ∙ number_is index.numbers place valve numbered in
      let check = at.0 in
      let w = stands.wired.its_checks place valve id check at.1 numbered in
      let are = of_all (λ (held : ℕ × Check). AreChildren checks.list (children_of held.1)) checks.list place (id, check) stands.are_checks.children at.1 in
      let bounded = of_all (λ (held : ℕ × Check). IsBounded held.1) checks.list place (id, check) stands.are_checks.bounded at.1 in
      let n = number tells check are in
      let s = small tells check bounded in
      let fed = ap (λ r. count (value_of index.valves) r.feeders) w.condition in
      let own = w.its_own in
      let short_is : short ≡ number_told check (passing reports id) (status checks.list reports) =
      let c : counted ≡ number_told check (passing reports id) (status checks.list reports) = omega arith in
      let k = is_short (omega arith) in
      k ∙ c in
      let value_is : value ≡ status checks.list reports id = is_value ∙ ap (value_of index.valves) (sym valve_is) ∙ tells.statuses id check at.2 in
      pair value short value_is short_is ∙ ap (option_map (λ (check : Check). (
        status checks.list reports id,
        number_told check (passing reports id) (status checks.list reports),
      ))) (sym at.2)
    where
      pair : (a : Bool) (m : ℕ) {b : Bool} {n : ℕ} → a ≡ b → m ≡ n
          → ◌≡◌ {A = Option (Bool × ℕ)} (Some (a, m)) (Some (b, n))
      pair a m e f = cc
