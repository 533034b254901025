-- Checks with the same kin can follow in place of those for which an index stands.
use Rattle.std.proofs.Common.{◌≡◌, ◌≢◌, ◌≤◌, ◌+◌, ℕ, List, length, arith, refl, ap, sym, ◌∙◌, inl, inr, Some, None, Option}
use Rattle.std.specs.Prelude.{slice_get}
use Rattle.std.proofs.lemmas.Option.{slice_get_within}
use mathlib.Core.Path.{subst}
use Rattle.check_model.specs.Checks.{Checks, check_with}
use Rattle.check_model.specs.Checks.{IsSound as AreSoundChecks}
use Rattle.check_model.specs.Commands.{checks_after, deleted, given_by, updated}
use Rattle.check_model.specs.declared.checks.Check.{Check}
use Rattle.check_model.specs.declared.checks.Check.TheVariants.{Endpoint, Calculated}
use Rattle.check_model.specs.declared.checks.CheckCommand.{CheckCommand}
use Rattle.check_model.specs.declared.checks.CheckCommand.TheVariants.{Create, Update, Delete}
use Rattle.health_index.proofs.Commanded.{ids_more, ids_updated, ids_without, kin_more, kin_updated, kin_without}
use Rattle.health_index.proofs.Kindred.{same_children}
use Rattle.health_index.proofs.Valved.{stood_is}
use Rattle.health_index.specs.Following.{AreFewer, AreMore, AreSame, HasCheckers, IsEndpointAt, IsOpenTo, IsWay}
use Rattle.health_index.specs.Index.{Index, IsEndpoint, IsEndpointOf, StandsFor}
use Rattle.health_index.specs.Kin.{kin_of}
use Rattle.health_index.specs.Laws.{CanFollow, ChecksCanFollow, CommandsCanFollow, KeepsChildren}
use Rattle.health_index.specs.declared.following.Way.{Way}
use Rattle.health_index.specs.declared.following.Way.TheVariants as way
use Rattle.health_model.specs.Statuses.{Report}
use Rattle.health_planning.proofs.MembersOfZoneList.{filled}
use Rattle.health_planning.proofs.Places.{found, id_at, id_there, ids_apart, one_place}
use Rattle.health_planning.proofs.Wiring.{ids_long}
use Rattle.health_planning.specs.Wired.{ids_of, place_of}
use Rattle.health_planning.specs.Zones.{Zone}
use Rattle.health_valves.specs.Valves.{size_of}

some_same : {X : Type 0} {x y : X} → Some x ≡ Some y → x ≡ y
some_same e = cc

module _ (zones : List Zone) (old new : Checks) (reports : List Report) (index : Index)
    (stands : StandsFor zones old reports index) (are_new : AreSoundChecks new)
    (same : kin_of new.list ≡ kin_of old.list) where
  many : 200 ≤ size_of index.valves
  many = (let least = stands.wired.many in let size = stands.fits.laid.size in omega arith)

  long : length old.list ≡ length index.ids
  long = sym (ap length stands.ids ∙ ids_long old.list)

  -- where a check stood
  was_at : (place id : ℕ) (check : Check) → slice_get old.list place ≡ Some (id, check)
      → slice_get index.ids place ≡ Some id
  was_at place id check at = ap (λ (l : List ℕ). slice_get l place) stands.ids ∙ id_there old.list place id check at

  -- one that came isn't calculated, since it would have been there
  came : AreMore index.ids new.list → IsEndpointAt new.list (length index.ids)
  came more (id, check) at = by check at
    where
      by : (c : Check) → slice_get new.list (length index.ids) ≡ Some (id, c) → IsEndpoint (Some c)
      by (Endpoint threshold inverted disabled) here = tt
      by (Calculated threshold inverted disabled children) here =
          let was = same_children new.list old.list same (length index.ids) id (Calculated threshold inverted disabled children) tt here in
          let within = slice_get_within old.list was.0 (id, was.1.0) was.1.1.0 in
          let as_long = long in
          let longer = more.0 in
          let held = filled new.list was.0 (omega arith) in
          let its : id ≡ held.0.0 = some_same (sym (was_at was.0 id was.1.0 was.1.1.0) ∙ more.1 was.0 held.0 (omega arith) held.1) in
          let place = one_place new.list was.0 (length index.ids) id held.0.1 (Calculated threshold inverted disabled children) are_new.rising
          (held.1 ∙ ap (λ (n : ℕ). Some (n, held.0.1)) (sym its)) here in
          absurd (omega arith)

  -- one that went wasn't, since it would be there still
  went : (gone : ℕ) → AreFewer index.ids gone new.list → HasCheckers index.seen gone
  went gone fewer none =
      let goes = fewer.0 in
      let as_long = long in
      let held = filled old.list gone (omega arith) in
      by held.0.0 held.0.1 held.1
    where
      before : (place id : ℕ) (check : Check) → slice_get new.list place ≡ Some (id, check)
          → (m : ℕ) × ((m ≢ gone) × (slice_get index.ids m ≡ Some id))
      before place id check at = elim (stood_is gone place) [
        | inl early ↦ (
          place,
          ((λ e. let b = early.1 in absurd (omega arith)), fewer.1.1.0 place (id, check) early.1 at),
        )
        | inr past ↦ (
          place + 1,
          ((λ e. let b = past.1 in absurd (omega arith)), fewer.1.1.1 place (id, check) past.1 at),
        )
      ]

      by : (id : ℕ) (check : Check) → slice_get old.list gone ≡ Some (id, check) → ⊥
      by id (Endpoint threshold inverted disabled) at =
          stands.seen gone id (Endpoint threshold inverted disabled) None at none
      by id (Calculated threshold inverted disabled children) at =
          let now = same_children old.list new.list (sym same) gone id (Calculated threshold inverted disabled children) tt at in
          let m = before now.0 id now.1.0 now.1.1.0 in
          let there = subst (λ (l : List ℕ). slice_get l m.0 ≡ Some id) stands.ids m.1.1 in
          let here = id_there old.list gone id (Calculated threshold inverted disabled children) at in
          m.1.0 (ids_apart old.list stands.are_checks.rising m.0 gone id there here)

  each : (its : Way) → (its ≡ way.Other → ⊥) → IsWay index.ids new.list its
      → (index.kin ≡ kin_of new.list) × IsOpenTo its new.list index
  each way.Same known is = (stands.kin ∙ sym same, tt)
  each way.More known is = (stands.kin ∙ sym same, (many, came is))
  each (way.Fewer gone) known is = (stands.kin ∙ sym same, went gone is)
  each way.Other known is = absurd (known refl)

pub checks_can_follow : ChecksCanFollow
checks_can_follow zones old new reports index stands are_new same its known is =
    each zones old new reports index stands are_new same its known is

-- ---- commands

-- the check of an endpoint, at the place of its number
endpoint_at : (checks : Checks) → AreSoundChecks checks → (one : ℕ) → IsEndpointOf checks one → (place : ℕ)
    (held : ℕ × Check) → slice_get checks.list place ≡ Some held → held.0 ≡ one → IsEndpoint (Some held.1)
endpoint_at checks are one endpoint place held at same =
    subst IsEndpoint (ap (check_with checks.list) (sym same) ∙ id_at checks.list place held.0 held.1 are.rising at) endpoint

-- and that place
its_place : (list : List (ℕ × Check)) (one : ℕ) → IsEndpoint (check_with list one)
    → slice_get (ids_of list) (place_of (ids_of list) one) ≡ Some one
its_place list one endpoint = by (check_with list one) refl endpoint
  where
    by : (o : Option Check) → check_with list one ≡ o → IsEndpoint o
        → slice_get (ids_of list) (place_of (ids_of list) one) ≡ Some one
    by None at none = absurd none
    by (Some check) at is = id_there list (place_of (ids_of list) one) one check (found list one check at)

module _ (zones : List Zone) (checks : Checks) (reports : List Report) (index : Index)
    (stands : StandsFor zones checks reports index) where
  can_by : (new : Checks) → AreSoundChecks new → kin_of new.list ≡ kin_of checks.list → (its : Way)
      → (its ≡ way.Other → ⊥) → IsWay index.ids new.list its → CanFollow new.list index
  can_by new are_new same its known is =
      let can = checks_can_follow zones checks new reports index stands are_new same its known is in
      (can.0, (its, (is, can.1)))

  after : (command : CheckCommand) → AreSoundChecks (checks_after checks command) → KeepsChildren checks command
      → CanFollow (checks_after checks command).list index
  after (Create check) are_new leaves =
      can_by (checks_after checks (Create check)) are_new (kin_more checks.list checks.next check leaves) way.More (λ e. let no : ⊥ = cc in no)
      (subst (λ (l : List ℕ). AreMore l (checks_after checks (Create check)).list) (sym stands.ids) (ids_more checks.list checks.next check))
  after (Update one inverted disabled threshold children) are_new leaves =
      let given = given_by inverted disabled threshold children in
      can_by (updated checks one given) are_new
      (kin_updated one given checks.list (λ place held at same. elim leaves [
        | inl endpoint ↦ inl (endpoint_at checks stands.are_checks one endpoint place held at same)
        | inr none ↦ inr none
      ]))
      way.Same (λ e. let no : ⊥ = cc in no)
      (subst (λ (l : List ℕ). AreSame l (updated checks one given).list) (sym stands.ids) (ids_updated one given checks.list))
  after (Delete one) are_new leaves =
      let gone = place_of (ids_of checks.list) one in
      can_by (deleted checks one) are_new
      (kin_without checks.list one (endpoint_at checks stands.are_checks one leaves))
      (way.Fewer gone) (λ e. let no : ⊥ = cc in no)
      (subst (λ (l : List ℕ). AreFewer l gone (deleted checks one).list) (sym stands.ids)
      (ids_without checks.list one gone (ids_apart checks.list stands.are_checks.rising) (its_place checks.list one leaves)))

pub commands_can_follow : CommandsCanFollow
commands_can_follow zones checks reports index command stands are_new leaves =
    after zones checks reports index stands command are_new leaves
