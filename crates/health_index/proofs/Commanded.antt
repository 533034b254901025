-- What commands on checks leave of their numbers, and of the children of calculated checks.
use Rattle.std.proofs.Common.{◌≡◌, ◌≢◌, ◌<◌, ◌+◌, ℕ, zero, suc, Bool, true, false, cond, List, [], ◌∷◌, ◌++◌, length, length-append, map, arith, refl, ap, sym, ◌∙◌, inl, inr, Some, None, Option}
use Rattle.std.specs.List.{remove}
use Rattle.std.specs.Prelude.{◌⊎◌, nat_eq, not, slice_get, unwrap_or}
use Rattle.std.proofs.lemmas.Bool.{eq-eqb, eqb-true, ne_eqb}
use Rattle.std.proofs.lemmas.List.Edits.{length-remove}
use Rattle.std.proofs.lemmas.Option.{slice_get_within}
use mathlib.Core.Path.{subst}
use Rattle.check_model.specs.Commands.{Given, updated_at, updated_check, without}
use Rattle.check_model.specs.declared.checks.Check.{Check}
use Rattle.check_model.specs.declared.checks.Check.TheVariants.{Endpoint, Calculated}
use Rattle.health_planning.proofs.Places.{id_there}
use Rattle.health_index.proofs.Valved.{removed_before, removed_behind}
use Rattle.health_index.specs.Following.{AreFewer, AreMore, AreSame}
use Rattle.health_index.specs.Index.{IsEndpoint}
use Rattle.health_index.specs.Kin.{its_kin, kin_of}
use Rattle.health_planning.proofs.Wiring.{ids_long}
use Rattle.health_planning.specs.Wired.{StandApart, ids_of}

some_same : {X : Type 0} {x y : X} → Some x ≡ Some y → x ≡ y
some_same e = cc

-- an endpoint's check has no kin
no_kin : (id : ℕ) (check : Check) → IsEndpoint (Some check) → its_kin id check ≡ []
no_kin id (Endpoint threshold inverted disabled) is = refl
no_kin id (Calculated threshold inverted disabled children) none = absurd none

-- ---- a new check

pub kin_more : (list : List (ℕ × Check)) (next : ℕ) (check : Check) → IsEndpoint (Some check)
    → kin_of (list ++ (next, check) ∷ []) ≡ kin_of list
kin_more [] next check is = ap (λ (l : List ℕ). l ++ []) (no_kin next check is)
kin_more (held ∷ list) next check is = ap (λ (l : List ℕ). its_kin held.0 held.1 ++ l) (kin_more list next check is)

pub ids_more : (list : List (ℕ × Check)) (next : ℕ) (check : Check) → AreMore (ids_of list) (list ++ (next, check) ∷ [])
ids_more list next check = (
  length-append list ((next, check) ∷ []) ∙ ap (λ (n : ℕ). n + 1) (sym (ids_long list)),
  λ place held early at. in_front list place held early at,
)
  where
    in_front : (list : List (ℕ × Check)) (place : ℕ) (held : ℕ × Check) → place < length (ids_of list)
        → slice_get (list ++ (next, check) ∷ []) place ≡ Some held → slice_get (ids_of list) place ≡ Some held.0
    in_front [] place held early at = absurd (omega arith)
    in_front (first ∷ list) zero held early at = ap (λ (h : ℕ × Check). Some h.0) (some_same at)
    in_front (first ∷ list) (suc place) held early at = in_front list place held (omega arith) at

-- ---- changes of a check

module _ (one : ℕ) (given : Given) where
  its_kin_stay : (b : Bool) (id : ℕ) (check : Check) → (b ≡ true → IsEndpoint (Some check) ⊎ (given.children ≡ None))
      → its_kin id (cond b (updated_check given check) check) ≡ its_kin id check
  its_kin_stay false id check keeps = refl
  its_kin_stay true id (Endpoint threshold inverted disabled) keeps = refl
  its_kin_stay true id (Calculated threshold inverted disabled children) keeps = elim (keeps refl) [
    | inl none ↦ absurd none
    | inr none ↦ ap (λ (o : Option (List ℕ)). id ∷ length (unwrap_or o children) ∷ unwrap_or o children) none
  ]

  pub kin_updated : (list : List (ℕ × Check))
      → ((place : ℕ) (held : ℕ × Check) → slice_get list place ≡ Some held → held.0 ≡ one → IsEndpoint (Some held.1) ⊎ (given.children ≡ None))
      → kin_of (map (updated_at one given) list) ≡ kin_of list
  kin_updated [] each = refl
  kin_updated (held ∷ list) each =
      ap (λ (l : List ℕ). l ++ kin_of (map (updated_at one given) list))
      (its_kin_stay (nat_eq held.0 one) held.0 held.1 (λ e. each 0 held refl (eqb-true held.0 one e)))
      ∙ ap (λ (l : List ℕ). its_kin held.0 held.1 ++ l) (kin_updated list (λ place other at. each (suc place) other at))

  pub ids_updated : (list : List (ℕ × Check)) → AreSame (ids_of list) (map (updated_at one given) list)
  ids_updated list = (long_too list, λ place held early at. at_place list place held at)
    where
      long_too : (list : List (ℕ × Check)) → length (map (updated_at one given) list) ≡ length (ids_of list)
      long_too [] = refl
      long_too (held ∷ list) = ap suc (long_too list)

      at_place : (list : List (ℕ × Check)) (place : ℕ) (held : ℕ × Check)
          → slice_get (map (updated_at one given) list) place ≡ Some held → slice_get (ids_of list) place ≡ Some held.0
      at_place [] place held at = let no : ⊥ = cc in absurd no
      at_place (first ∷ list) zero held at = ap (λ (h : ℕ × Check). Some h.0) (some_same at)
      at_place (first ∷ list) (suc place) held at = at_place list place held at

-- ---- the end of a check

pub kin_without : (list : List (ℕ × Check)) (one : ℕ)
    → ((place : ℕ) (held : ℕ × Check) → slice_get list place ≡ Some held → held.0 ≡ one → IsEndpoint (Some held.1))
    → kin_of (without one list) ≡ kin_of list
kin_without [] one each = refl
kin_without (held ∷ list) one each =
    by (nat_eq held.0 one) refl (kin_without list one (λ place other at. each (suc place) other at))
  where
    by : (b : Bool) → nat_eq held.0 one ≡ b → kin_of (without one list) ≡ kin_of list
        → kin_of (cond (not b) (held ∷ without one list) (without one list)) ≡ its_kin held.0 held.1 ++ kin_of list
    by true gone rest =
        rest ∙ sym (ap (λ (l : List ℕ). l ++ kin_of list) (no_kin held.0 held.1 (each 0 held refl (eqb-true held.0 one gone))))
    by false stays rest = ap (λ (l : List ℕ). its_kin held.0 held.1 ++ l) rest

step_true : (held : ℕ × Check) (list : List (ℕ × Check)) (one : ℕ) → held.0 ≡ one → without one (held ∷ list) ≡ without one list
step_true held list one same = rw (eq-eqb held.0 one same) refl

step_false : (held : ℕ × Check) (list : List (ℕ × Check)) (one : ℕ) → held.0 ≢ one
    → without one (held ∷ list) ≡ held ∷ without one list
step_false held list one apart = rw (ne_eqb held.0 one apart) refl

none_gone : (list : List (ℕ × Check)) (one : ℕ) → ((k : ℕ) → slice_get (ids_of list) k ≡ Some one → ⊥)
    → without one list ≡ list
none_gone [] one none = refl
none_gone (held ∷ list) one none =
    step_false held list one (λ same. none 0 (ap Some same))
    ∙ ap (λ (l : List (ℕ × Check)). held ∷ l) (none_gone list one (λ k at. none (suc k) at))

without_is : (list : List (ℕ × Check)) (one gone : ℕ) → ((k : ℕ) → slice_get (ids_of list) k ≡ Some one → k ≡ gone)
    → slice_get (ids_of list) gone ≡ Some one → without one list ≡ remove list gone
without_is [] one gone only at = let no : ⊥ = cc in absurd no
without_is (held ∷ list) one zero only at =
    step_true held list one (some_same at)
    ∙ none_gone list one (λ k found. let same = only (suc k) found in absurd (omega arith))
without_is (held ∷ list) one (suc gone) only at =
    step_false held list one (λ same. let first = only 0 (ap Some same) in absurd (omega arith))
    ∙ ap (λ (l : List (ℕ × Check)). held ∷ l) (without_is list one gone (λ k found. let same = only (suc k) found in omega arith) at)

pub ids_without : (list : List (ℕ × Check)) (one gone : ℕ) → StandApart (ids_of list)
    → slice_get (ids_of list) gone ≡ Some one → AreFewer (ids_of list) gone (without one list)
ids_without list one gone apart at =
    let is = without_is list one gone (λ k found. apart k gone one found at) at in
    subst (λ (l : List (ℕ × Check)). AreFewer (ids_of list) gone l) (sym is) fewer
  where
    goes : gone < length (ids_of list)
    goes = slice_get_within (ids_of list) gone one at

    fewer : AreFewer (ids_of list) gone (remove list gone)
    fewer =
        let early = goes in
        let many = ids_long list in
        let left = length-remove list gone (omega arith) in (
          goes,
          (
            omega arith,
            (
              λ place held before found. id_there list place held.0 held.1 (sym (removed_before list gone place before) ∙ found),
              λ place held past found. id_there list (place + 1) held.0 held.1 (sym (removed_behind list gone place past) ∙ found),
            ),
          ),
        )
