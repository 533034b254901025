-- Commands on checks keep the thresholds of endpoints.
use Rattle.std.proofs.Common.{◌≡◌, ◌≤◌, ℕ, Bool, true, false, cond, List, [], ◌∷◌, ◌++◌, map, arith, refl, ap, sym, ◌∙◌, inl, inr, Some, None, Option}
use Rattle.std.specs.Prelude.{◌⊎◌, nat_eq, not, ⊤}
use Rattle.std.proofs.lemmas.Bool.{cases_eq, eq-eqb, eqb-true, false≢true, ne_eqb}
use mathlib.Core.Path.{subst}
use Rattle.check_model.specs.Checks.{Checks, check_with}
use Rattle.check_model.specs.Commands.{Given, given_by, updated_at, updated_check, without}
use Rattle.check_model.specs.declared.checks.Check.{Check}
use Rattle.check_model.specs.declared.checks.Check.TheVariants.{Endpoint, Calculated}
use Rattle.check_model.specs.declared.checks.CheckCommand.TheVariants.{Create, Update, Delete}
use Rattle.health_planning.specs.Later.{IsLaterAt, HasThreshold}
use Rattle.health_index.specs.Laws.{ChecksAreLater}

some_same : {X : Type 0} {x y : X} → Some x ≡ Some y → x ≡ y
some_same e = cc

-- an endpoint's check was there with its threshold
abbrev Kept : Option Check → Check → Type 0
Kept was (Endpoint threshold inverted disabled) = HasThreshold was threshold
Kept was (Calculated threshold inverted disabled children) = ⊤

follows : (old : Checks) (id : ℕ) (check : Check) → Kept (check_with old.list id) check
    → IsLaterAt old id check
follows old id (Endpoint threshold inverted disabled) kept = inr kept
follows old id (Calculated threshold inverted disabled children) kept = tt

comes : (old : Checks) (id : ℕ) (check : Check) → old.next ≤ id → IsLaterAt old id check
comes old id (Endpoint threshold inverted disabled) late = inl late
comes old id (Calculated threshold inverted disabled children) late = tt

itself : (check : Check) → Kept (Some check) check
itself (Endpoint threshold inverted disabled) = refl
itself (Calculated threshold inverted disabled children) = tt

given_keeps : (given : Given) (check : Check) → Kept (Some check) (updated_check given check)
given_keeps given (Endpoint threshold inverted disabled) = refl
given_keeps given (Calculated threshold inverted disabled children) = tt

-- a check that is found at the front, or behind it
at_front : (held : ℕ × Check) (list : List (ℕ × Check)) (id : ℕ) → id ≡ held.0
    → check_with (held ∷ list) id ≡ Some held.1
at_front held list id same = rw (eq-eqb id held.0 same) refl

behind : (held : ℕ × Check) (list : List (ℕ × Check)) (id : ℕ) → (id ≡ held.0 → ⊥)
    → check_with (held ∷ list) id ≡ check_with list id
behind held list id apart = rw (ne_eqb id held.0 apart) refl

was_there : (list : List (ℕ × Check)) (id : ℕ) (check : Check) → check_with list id ≡ Some check
    → Kept (check_with list id) check
was_there list id check at = subst (λ (o : Option Check). Kept o check) (sym at) (itself check)

made : (list : List (ℕ × Check)) (next id : ℕ) (new check : Check)
    → check_with (list ++ (next, new) ∷ []) id ≡ Some check
    → (id ≡ next) ⊎ Kept (check_with list id) check
made [] next id new check at = elim (cases_eq id next) [
  | inl same ↦ inl same
  | inr apart ↦ (let none : None ≡ Some check = sym (behind (next, new) [] id apart) ∙ at in let no : ⊥ = cc in absurd no)
]
made (held ∷ list) next id new check at = elim (cases_eq id held.0) [
  | inl same ↦
      let its : held.1 ≡ check = some_same (sym (at_front held (list ++ (next, new) ∷ []) id same) ∙ at) in
      inr (was_there (held ∷ list) id check (at_front held list id same ∙ ap Some its))
  | inr apart ↦ elim (made list next id new check (sym (behind held (list ++ (next, new) ∷ []) id apart) ∙ at)) [
    | inl same ↦ inl same
    | inr kept ↦ inr (subst (λ (o : Option Check). Kept o check) (sym (behind held list id apart)) kept)
  ]
]

changed : (list : List (ℕ × Check)) (one : ℕ) (given : Given) (id : ℕ) (check : Check)
    → check_with (map (updated_at one given) list) id ≡ Some check
    → Kept (check_with list id) check
changed [] one given id check at = let no : ⊥ = cc in absurd no
changed (held ∷ list) one given id check at = elim (cases_eq id held.0) [
  | inl same ↦
      let its = some_same (sym (at_front (updated_at one given held) (map (updated_at one given) list) id same) ∙ at) in
      subst (λ (o : Option Check). Kept o check) (sym (at_front held list id same))
      (subst (Kept (Some held.1)) its (by (nat_eq held.0 one)))
  | inr apart ↦
      subst (λ (o : Option Check). Kept o check) (sym (behind held list id apart))
      (changed list one given id check (sym (behind (updated_at one given held) (map (updated_at one given) list) id apart) ∙ at))
]
  where
    by : (b : Bool) → Kept (Some held.1) (cond b (updated_check given held.1) held.1)
    by true = given_keeps given held.1
    by false = itself held.1

none_left : (list : List (ℕ × Check)) (one : ℕ) → check_with (without one list) one ≡ None
none_left [] one = refl
none_left (held ∷ list) one = by (nat_eq held.0 one) refl (none_left list one)
  where
    by : (b : Bool) → nat_eq held.0 one ≡ b → check_with (without one list) one ≡ None
        → check_with (cond (not b) (held ∷ without one list) (without one list)) one ≡ None
    by true gone rest = rest
    by false stays rest =
        behind held (without one list) one (λ same. false≢true (sym stays ∙ eq-eqb held.0 one (sym same))) ∙ rest

left : (list : List (ℕ × Check)) (one id : ℕ) (check : Check)
    → check_with (without one list) id ≡ Some check → Kept (check_with list id) check
left [] one id check at = let no : ⊥ = cc in absurd no
left (held ∷ list) one id check at = by (nat_eq held.0 one) refl at (left list one id check)
  where
    by : (b : Bool) → nat_eq held.0 one ≡ b
        → check_with (cond (not b) (held ∷ without one list) (without one list)) id ≡ Some check
        → (check_with (without one list) id ≡ Some check → Kept (check_with list id) check)
        → Kept (check_with (held ∷ list) id) check
    by true gone at rest = elim (cases_eq id held.0) [
      | inl same ↦
          let its : id ≡ one = same ∙ eqb-true held.0 one gone in
          let none : None ≡ Some check = sym (none_left list one) ∙ subst (λ (n : ℕ). check_with (without one list) n ≡ Some check) its at in
          let no : ⊥ = cc in absurd no
      | inr apart ↦
          subst (λ (o : Option Check). Kept o check) (sym (behind held list id apart)) (rest at)
    ]
    by false stays at rest = elim (cases_eq id held.0) [
      | inl same ↦
          let its = some_same (sym (at_front held (without one list) id same) ∙ at) in
          was_there (held ∷ list) id check (at_front held list id same ∙ ap Some its)
      | inr apart ↦
          subst (λ (o : Option Check). Kept o check) (sym (behind held list id apart))
          (rest (sym (behind held (without one list) id apart) ∙ at))
    ]

pub commands_follow : ChecksAreLater
commands_follow checks (Create check) = record {
  next = omega arith;
  each = λ id found at. elim (made checks.list checks.next id check found at) [
    | inl same ↦ comes checks id found (omega arith)
    | inr kept ↦ follows checks id found kept
  ];
}
commands_follow checks (Update one inverted disabled threshold children) = record {
  next = omega arith;
  each = λ id found at. follows checks id found
      (changed checks.list one (given_by inverted disabled threshold children) id found at);
}
commands_follow checks (Delete one) = record {
  next = omega arith;
  each = λ id found at. follows checks id found (left checks.list one id found at);
}
