-- The check of a number after a command.
use Rattle.std.proofs.Common.{◌≡◌, ◌≢◌, ℕ, Bool, true, false, cond, List, [], ◌∷◌, ◌++◌, map, Option, None, Some, ap, ◌∙◌, sym, refl, subst}
use Rattle.std.specs.Prelude.{not, nat_eq, option_map}
use Rattle.std.proofs.lemmas.Bool.{eqb-true, ne_eqb, false≢true}
use Rattle.check_model.specs.declared.checks.Check.{Check}
use Rattle.check_model.specs.declared.checks.Check.TheVariants.{Endpoint, Calculated}
use Rattle.check_model.specs.Checks.{IsCalculated, IsId, check_with, children_of}
use Rattle.check_model.specs.Commands.{Given, updated_at, updated_check, without}
use Rattle.check_model.proofs.Walks.{Held}

abbrev pub no_check : Option Check
no_check = None

-- what is found first, or else the other
abbrev pub or_else : Option Check → Option Check → Option Check
or_else (Some check) other = Some check
or_else None other = other

abbrev pub alone : Held → ℕ → Option Check
alone new id = cond (nat_eq id new.0) (Some new.1) None

more_by : (b : Bool) (held : Held) (rest more other : Option Check) → more ≡ or_else rest other
    → cond b (Some held.1) more ≡ or_else (cond b (Some held.1) rest) other
more_by true held rest more other e = refl
more_by false held rest more other e = e

pub at_more : (new : Held) (list : List Held) (id : ℕ)
    → check_with (list ++ new ∷ []) id ≡ or_else (check_with list id) (alone new id)
at_more new [] id = refl
at_more new (held ∷ list) id =
    more_by (nat_eq id held.0) held (check_with list id) (check_with (list ++ new ∷ []) id)
    (alone new id) (at_more new list id)

module _ (id : ℕ) (given : Given) where
  abbrev update : Check → Check
  update check = updated_check given check

  none_both : (b : Bool) → None ≡ cond b (option_map update None) None
  none_both true = refl
  none_both false = refl

  own : (b : Bool) (check : Check)
      → Some (cond b (update check) check)
      ≡ cond b (option_map update (Some check)) (Some check)
  own true check = refl
  own false check = refl

  updated_by : (is its : Bool) (k : ℕ) (held : Held) (rest more : Option Check)
      → nat_eq k held.0 ≡ is → nat_eq k id ≡ its
      → more ≡ cond its (option_map update rest) rest
      → cond is (Some (cond (nat_eq held.0 id) (update held.1) held.1)) more
      ≡ cond its (option_map update (cond is (Some held.1) rest)) (cond is (Some held.1) rest)
  updated_by true its k held rest more e f same =
      let at : k ≡ held.0 = eqb-true k held.0 e in
      let its_is : nat_eq held.0 id ≡ its = ap (λ (n : ℕ). nat_eq n id) (sym at) ∙ f in
      ap (λ (b : Bool). Some (cond b (update held.1) held.1)) its_is ∙ own its held.1
  updated_by false its k held rest more e f same = same

  pub at_updated : (list : List Held) (k : ℕ)
      → check_with (map (updated_at id given) list) k
      ≡ cond (nat_eq k id) (option_map (updated_check given) (check_with list k)) (check_with list k)
  at_updated [] k = none_both (nat_eq k id)
  at_updated (held ∷ list) k =
      updated_by (nat_eq k held.0) (nat_eq k id) k held (check_with list k)
      (check_with (map (updated_at id given) list) k) refl refl (at_updated list k)

module _ (id : ℕ) where
  none_at : (b : Bool) → no_check ≡ cond b no_check no_check
  none_at true = refl
  none_at false = refl

  without_by : (gone is its : Bool) (k : ℕ) (held : Held) (list : List Held)
      → nat_eq held.0 id ≡ gone → nat_eq k held.0 ≡ is → nat_eq k id ≡ its
      → check_with (without id list) k ≡ cond its None (check_with list k)
      → check_with (cond (not gone) (held ∷ without id list) (without id list)) k
      ≡ cond its None (cond is (Some held.1) (check_with list k))
  without_by true true true k held list g e f same = same
  without_by true true false k held list g e f same =
      let at : k ≡ held.0 = eqb-true k held.0 e in
      absurd (false≢true (sym f ∙ ap (λ (n : ℕ). nat_eq n id) at ∙ g))
  without_by true false its k held list g e f same = same
  without_by false true true k held list g e f same =
      let at : k ≡ held.0 = eqb-true k held.0 e in
      absurd (false≢true (sym g ∙ ap (λ (n : ℕ). nat_eq n id) (sym at) ∙ f))
  without_by false true false k held list g e f same = rw e refl
  without_by false false its k held list g e f same = rw e same

  pub at_without : (list : List Held) (k : ℕ)
      → check_with (without id list) k ≡ cond (nat_eq k id) None (check_with list k)
  at_without [] k = none_at (nat_eq k id)
  at_without (held ∷ list) k =
      without_by (nat_eq held.0 id) (nat_eq k held.0) (nat_eq k id) k held list refl refl refl
      (at_without list k)

-- ---- numbers that are there

pub there_more : (new : Held) (list : List Held) (k : ℕ) → IsId list k
    → IsId (list ++ new ∷ []) k
there_more new list k (check, at) =
    (check, at_more new list k ∙ ap (λ (o : Option Check). or_else o (alone new k)) at)

updated_there : (b : Bool) (given : Given) (check : Check)
    → (other : Check)
    × (cond b (option_map (updated_check given) (Some check)) (Some check) ≡ Some other)
updated_there true given check = (updated_check given check, refl)
updated_there false given check = (check, refl)

pub there_updated : (id : ℕ) (given : Given) (list : List Held) (k : ℕ) → IsId list k
    → IsId (map (updated_at id given) list) k
there_updated id given list k (check, at) =
    let other = updated_there (nat_eq k id) given check in (
      other.0,
      at_updated id given list k
          ∙ ap (λ (o : Option Check). cond (nat_eq k id) (option_map (updated_check given) o) o) at
          ∙ other.1,
    )

pub there_without : (id : ℕ) (list : List Held) (k : ℕ) → k ≢ id → IsId list k
    → IsId (without id list) k
there_without id list k other (check, at) = (
  check,
  at_without id list k
      ∙ ap (λ (b : Bool). cond b None (check_with list k)) (ne_eqb k id other) ∙ at,
)

-- ---- what was there before

abbrev pub IsAsBefore : List Held → ℕ → Check → Type 0
IsAsBefore list k check =
    (before : Check) × (check_with list k ≡ Some before)
    × (children_of before ≡ children_of check) × (IsCalculated check → IsCalculated before)

same_children : (given : Given) (check : Check) → given.children ≡ None
    → children_of check ≡ children_of (updated_check given check)
same_children given (Endpoint threshold inverted disabled) none = refl
same_children given (Calculated threshold inverted disabled children) none = rw none refl

was_calculated : (given : Given) (check : Check) → IsCalculated (updated_check given check)
    → IsCalculated check
was_calculated given (Endpoint threshold inverted disabled) is = is
was_calculated given (Calculated threshold inverted disabled children) is = tt

updated_before : (b : Bool) (given : Given) (list : List Held) (k : ℕ) (check : Check)
    (found : Option Check) → given.children ≡ None → check_with list k ≡ found
    → cond b (option_map (updated_check given) found) found ≡ Some check
    → IsAsBefore list k check
updated_before true given list k check None none at is = let no : ⊥ = cc in absurd no
updated_before false given list k check None none at is = let no : ⊥ = cc in absurd no
updated_before true given list k check (Some before) none at is =
    let one : updated_check given before ≡ check = cc in (
      before,
      at,
      same_children given before none ∙ ap children_of one,
      (λ now. was_calculated given before (subst IsCalculated (sym one) now)),
    )
updated_before false given list k check (Some before) none at is =
    let one : before ≡ check = cc in
    (before, at, ap children_of one, (λ now. subst IsCalculated (sym one) now))

pub before_updated : (id : ℕ) (given : Given) (list : List Held) → given.children ≡ None
    → (k : ℕ) (check : Check) → check_with (map (updated_at id given) list) k ≡ Some check
    → IsAsBefore list k check
before_updated id given list none k check is =
    updated_before (nat_eq k id) given list k check (check_with list k) none refl
    (sym (at_updated id given list k) ∙ is)

without_before : (b : Bool) (list : List Held) (k : ℕ) (check : Check)
    → cond b None (check_with list k) ≡ Some check → IsAsBefore list k check
without_before true list k check is = let no : ⊥ = cc in absurd no
without_before false list k check is = (check, is, refl, (λ now. now))

pub before_without : (id : ℕ) (list : List Held) (k : ℕ) (check : Check)
    → check_with (without id list) k ≡ Some check → IsAsBefore list k check
before_without id list k check is =
    without_before (nat_eq k id) list k check (sym (at_without id list k) ∙ is)
