-- Checks that keep their valves.
use Rattle.std.proofs.Common.{◌≡◌, ◌≢◌, ◌≤◌, ◌<◌, ◌+◌, ℕ, List, [], ◌∷◌, ◌++◌, length, arith, refl, ap, sym, ◌∙◌, inl, inr, Some}
use Rattle.std.specs.List.{remove}
use Rattle.std.specs.Prelude.{◌⊎◌, slice_get, slice_index}
use Rattle.std.proofs.lemmas.Option.{slice_get_within}
use Rattle.check_model.specs.declared.checks.Check.{Check}
use Rattle.std.proofs.lemmas.Bool.{cases_lt}
use Rattle.health_index.proofs.Reshaped.{same_ids}
use Rattle.health_index.proofs.Valved.{removed_at, stood, stood_is}
use Rattle.health_index.specs.Following.{AreFewer, AreMore, AreSame, HaveIds, HaveTheirValves}
use Rattle.health_planning.proofs.Built.{still_there}
use Rattle.health_planning.proofs.MembersOfZoneList.{filled}
use Rattle.health_planning.proofs.Numbers.{number_is}
use Rattle.health_planning.proofs.Places.{held_there, id_there, only_place}
use Rattle.health_planning.specs.Wired.{HaveValves, StandApart, ids_of, valve_with}

some_same : {X : Type 0} {x y : X} → Some x ≡ Some y → x ≡ y
some_same e = cc

module _ (ids numbers : List ℕ) (list : List (ℕ × Check)) (apart : StandApart ids)
    (apart_now : StandApart (ids_of list)) (valves : HaveValves (length ids) numbers) where
  -- by the places of a check before and now, where one number stands
  at_places : (now : List ℕ) (place place_now id : ℕ) → slice_get ids place ≡ Some id
      → slice_get (ids_of list) place_now ≡ Some id
      → slice_get now place_now ≡ slice_get numbers place
      → valve_with (ids_of list) now id ≡ valve_with ids numbers id
  at_places now place place_now id at at_now same =
      let within = slice_get_within ids place id at in
      let many = valves.as_many in
      let valve = filled numbers place (omega arith) in
      ap (slice_index now) (only_place (ids_of list) apart_now place_now id at_now)
      ∙ number_is now place_now valve.0 (same ∙ valve.1)
      ∙ sym (number_is numbers place valve.0 valve.1)
      ∙ sym (ap (slice_index numbers) (only_place ids apart place id at))

  -- a check that stays where it stood
  in_place : (place id : ℕ) → HaveIds ids (length ids) list → length ids ≤ length list
      → slice_get ids place ≡ Some id → slice_get (ids_of list) place ≡ Some id
  in_place place id same long at =
      let within = slice_get_within ids place id at in
      let held = filled list place (omega arith) in
      let its = some_same (sym at ∙ same place held.0 within held.1) in
      id_there list place held.0.0 held.0.1 held.1 ∙ ap Some (sym its)

  pub kept_same : AreSame ids list → HaveTheirValves ids numbers (ids_of list) numbers
  kept_same is place place_now id at at_now =
      at_places numbers place place id at
      (in_place place id is.1 (let long = is.0 in omega arith) at) refl

  pub kept_more : AreMore ids list → (valve : ℕ)
      → HaveTheirValves ids numbers (ids_of list) (numbers ++ valve ∷ [])
  kept_more is valve place place_now id at at_now =
      let within = slice_get_within ids place id at in
      let many = valves.as_many in
      let its = filled numbers place (omega arith) in
      at_places (numbers ++ valve ∷ []) place place id at
      (in_place place id is.1 (let long = is.0 in omega arith) at)
      (still_there numbers valve its.0 place its.1 ∙ sym its.1)

  pub kept_fewer : (gone : ℕ) → AreFewer ids gone list
      → HaveTheirValves ids numbers (ids_of list) (remove numbers gone)
  kept_fewer gone is place place_now id at at_now =
      let held = held_there list place_now id at_now in
      at_places (remove numbers gone) (stood gone place_now) place_now id
      (by place_now (stood gone place_now) held (stood_is gone place_now)) at_now (removed_at numbers gone place_now)
    where
      by : (n m : ℕ) → (check : Check) × (slice_get list n ≡ Some (id, check))
          → ((m ≡ n) × (n < gone)) ⊎ ((m ≡ n + 1) × (gone ≤ n)) → slice_get ids m ≡ Some id
      by n m held (inl early) =
          ap (slice_get ids) early.0 ∙ is.1.1.0 n (id, held.0) early.1 held.1
      by n m held (inr past) =
          ap (slice_get ids) past.0 ∙ is.1.1.1 n (id, held.0) past.1 held.1

-- ---- checks with the numbers that there are

pub ids_same : (ids : List ℕ) (list : List (ℕ × Check)) → AreSame ids list → ids ≡ ids_of list
ids_same ids list same =
    same_ids ids list (sym same.0) (λ place held at.
    same.1 place held (let within = slice_get_within list place held at in let long = same.0 in omega arith) at)

-- where they agree as far as some place and no further, that is the end
pub agrees_all : (ids : List ℕ) (list : List (ℕ × Check)) (many : ℕ) → many ≤ length ids
    → ((held : ℕ × Check) → slice_get list many ≡ Some held → slice_get ids many ≢ Some held.0)
    → AreSame ids list → many ≡ length ids
agrees_all ids list many most end same = elim (cases_lt many (length ids)) [
  | inl early ↦
      let long = same.0 in
      let held = filled list many (omega arith) in
      absurd (end held.0 held.1 (same.1 many held.0 early held.1))
  | inr past ↦ omega arith
]
