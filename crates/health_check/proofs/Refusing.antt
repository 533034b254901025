-- Refusals in their order, and what a command leaves that isn't refused.
use Rattle.std.proofs.Common.{◌≡◌, ◌≢◌, ℕ, ◌<◌, ◌≤◌, Bool, true, false, List, [], ◌∷◌, length, map, Option, None, Some, ap, ◌∙◌, sym, refl, subst}
use Rattle.std.specs.Prelude.{nat_eq, nat_le, is_some, not, ◌&&◌, ◌||◌}
use Rattle.std.specs.List.{AllByRecursion, list_any}
use Rattle.std.proofs.lemmas.Bool.{eq-eqb, ne_eqb, le-leb, lt-leb, false≢true}
use Rattle.check_model.specs.declared.checks.Check.{Check}
use Rattle.check_model.specs.declared.checks.CheckCommand.{CheckCommand}
use Rattle.check_model.specs.declared.refusals.CheckRefusal.{CheckRefusal}
use Rattle.check_model.specs.declared.refusals.CheckRefusal.TheVariants.{ChildRepeated, ChildTooDeep, WrongMember, TooManyHealthChecks, IdsEnded}
use Rattle.check_model.specs.Checks.{AreChildren, Checks, IdsRise, IsId, IsSound, check_with, children_of}
use Rattle.check_model.specs.Commands.{Given, IsBoundedCommand, checks_after, children_rules, create_refusal, created, first_missing, first_of, given_rules, has_repeated, is_calculated, is_too_deep, is_wrong_member, missing, number_of, of_there, refusal_of, refuse_if, starts_walk, unless, update_refusal, updated_at}
use Rattle.check_model.specs.Kept.{KeepsSound}
use Rattle.check_model.proofs.Kept.{none_missing, passes, there_and}
use Rattle.check_model.proofs.Members.{distinct_of, repeated_told}
use Rattle.check_model.proofs.Told.{all_there, there_of}
use Rattle.health_check.specs.Marks.{with_children}
use Rattle.health_check.specs.Stored.{Kept}
use Rattle.health_check.proofs.Marked.{created_deep, deep_alike, nothing_changed}
use Rattle.health_check.proofs.Places.{Held}

-- what comes behind rules by which nothing is refused
past : (repeated : Bool) (found : Option ℕ) (rules : List (Option CheckRefusal))
    → first_of (refuse_if repeated ChildRepeated ∷ missing found ∷ []) ≡ None
    → first_of (refuse_if repeated ChildRepeated ∷ missing found ∷ rules) ≡ first_of rules
past true found rules e = let no : ⊥ = cc in absurd no
past false (Some child) rules e = let no : ⊥ = cc in absurd no
past false None rules e = refl

module _ (list : List Held) (children : List ℕ)
    (named : first_of (refuse_if (has_repeated children) ChildRepeated
    ∷ missing (first_missing list children) ∷ []) ≡ None) where
  named_there : AllByRecursion (IsId list) children
  named_there =
      all_there list children (none_missing (first_missing list children) []
      (passes ChildRepeated (missing (first_missing list children) ∷ []) (has_repeated children)
      named).1).0

-- ---- a new check

module _ (checks : Checks) (sound : IsSound checks) (check : Check)
    (named : first_of (refuse_if (has_repeated (children_of check)) ChildRepeated
    ∷ missing (first_missing checks.list (children_of check)) ∷ []) ≡ None)
    (deep : Bool)
    (marked : deep
    ≡ list_any (starts_walk 3 (with_children 0 [] checks.list)) (children_of check)) where
  is_deep : is_too_deep (created checks check).list ≡ deep
  is_deep =
      created_deep checks sound check (named_there checks.list (children_of check) named)
      ∙ ap (λ (l : List Held). list_any (starts_walk 3 l) (children_of check))
      (sym (nothing_changed checks sound))
      ∙ sym marked

  by_rules : (many last : Bool) → nat_le 200 (length checks.list) ≡ many
      → nat_eq checks.next 4294967295 ≡ last
      → create_refusal checks check
      ≡ first_of (refuse_if deep ChildTooDeep ∷ refuse_if many TooManyHealthChecks ∷ refuse_if last IdsEnded ∷ [])
  by_rules many last m l =
      past (has_repeated (children_of check)) (first_missing checks.list (children_of check))
      (refuse_if (is_too_deep (created checks check).list) ChildTooDeep
      ∷ refuse_if (nat_le 200 (length checks.list)) TooManyHealthChecks
      ∷ refuse_if (nat_eq checks.next 4294967295) IdsEnded ∷ []) named
      ∙ ap (λ (b : Bool). first_of (refuse_if b ChildTooDeep
      ∷ refuse_if (nat_le 200 (length checks.list)) TooManyHealthChecks
      ∷ refuse_if (nat_eq checks.next 4294967295) IdsEnded ∷ [])) is_deep
      ∙ ap (λ (b : Bool). first_of (refuse_if deep ChildTooDeep ∷ refuse_if b TooManyHealthChecks
      ∷ refuse_if (nat_eq checks.next 4294967295) IdsEnded ∷ [])) m
      ∙ ap (λ (b : Bool). first_of (refuse_if deep ChildTooDeep ∷ refuse_if many TooManyHealthChecks
      ∷ refuse_if b IdsEnded ∷ [])) l

  deep_by : (d many last : Bool) → deep ≡ d
      → create_refusal checks check
      ≡ first_of (refuse_if deep ChildTooDeep ∷ refuse_if many TooManyHealthChecks ∷ refuse_if last IdsEnded ∷ [])
      → create_refusal checks check
      ≡ first_of (refuse_if d ChildTooDeep ∷ refuse_if many TooManyHealthChecks ∷ refuse_if last IdsEnded ∷ [])
  deep_by d many last e same =
      same ∙ ap (λ (b : Bool). first_of (refuse_if b ChildTooDeep ∷ refuse_if many TooManyHealthChecks
      ∷ refuse_if last IdsEnded ∷ [])) e

  pub too_deep : deep ≡ true → Some ChildTooDeep ≡ create_refusal checks check
  too_deep e =
      sym (deep_by true (nat_le 200 (length checks.list)) (nat_eq checks.next 4294967295) e
      (by_rules (nat_le 200 (length checks.list)) (nat_eq checks.next 4294967295) refl refl))

  pub too_many : deep ≡ false → 200 ≤ length checks.list
      → Some TooManyHealthChecks ≡ create_refusal checks check
  too_many e many =
      sym (deep_by false true (nat_eq checks.next 4294967295) e
      (by_rules true (nat_eq checks.next 4294967295) (le-leb 200 (length checks.list) many) refl))

  pub ended : deep ≡ false → length checks.list < 200 → checks.next ≡ 4294967295
      → Some IdsEnded ≡ create_refusal checks check
  ended e few last =
      sym (deep_by false false true e
      (by_rules false true (lt-leb 200 (length checks.list) few)
      (eq-eqb checks.next 4294967295 last)))

  pub taken : deep ≡ false → length checks.list < 200 → checks.next ≢ 4294967295
      → None ≡ create_refusal checks check
  taken e few more =
      sym (deep_by false false false e
      (by_rules false false (lt-leb 200 (length checks.list) few)
      (ne_eqb checks.next 4294967295 more)))

-- ---- changes of a check

module _ (next : ℕ) (list : List Held) (rise : IdsRise list) (id : ℕ) (given : Given)
    (check : Check) (at : check_with list id ≡ Some check) where
  abbrev stored : Checks
  stored = record { next = next; list = list }

  asked : of_there id (check_with list id) (update_refusal stored id given)
      ≡ update_refusal stored id given check
  asked = ap (λ (o : Option Check). of_there id o (update_refusal stored id given)) at

  by_given : (wrong : Bool) (children : Option (List ℕ)) → is_wrong_member given check ≡ wrong
      → given.children ≡ children
      → update_refusal stored id given check
      ≡ first_of (refuse_if wrong WrongMember
      ∷ given_rules list (map (updated_at id given) list) children)
  by_given wrong children e f =
      ap (λ (b : Bool). first_of (refuse_if b WrongMember
      ∷ given_rules list (map (updated_at id given) list) given.children)) e
      ∙ ap (λ (o : Option (List ℕ)). first_of (refuse_if wrong WrongMember
      ∷ given_rules list (map (updated_at id given) list) o)) f

  pub wrong_member : is_wrong_member given check ≡ true
      → Some WrongMember ≡ of_there id (check_with list id) (update_refusal stored id given)
  wrong_member e = sym (asked ∙ by_given true given.children e refl)

  pub nothing_given : is_wrong_member given check ≡ false → given.children ≡ None
      → None ≡ of_there id (check_with list id) (update_refusal stored id given)
  nothing_given e none = sym (asked ∙ by_given false None e none)

  pub children_given : is_wrong_member given check ≡ false → (children : List ℕ)
      → given.children ≡ Some children
      → first_of (children_rules list (with_children id children list) children)
      ≡ of_there id (check_with list id) (update_refusal stored id given)
  children_given e children some =
      sym (asked ∙ by_given false (Some children) e some
      ∙ ap (λ (b : Bool). first_of (refuse_if (has_repeated children) ChildRepeated
      ∷ missing (first_missing list children) ∷ refuse_if b ChildTooDeep ∷ []))
      (deep_alike given children some id list rise))

-- ---- what is left

pub after_is : KeepsSound → (inside now : Checks) → inside ≡ now → IsSound inside
    → (command its : CheckCommand) → command ≡ its → refusal_of now command ≡ None
    → IsBoundedCommand command → IsSound (checks_after inside its)
after_is law inside now same sound command its is judged bounded =
    law inside (checks_after inside its) its (number_of inside its) sound
    (subst IsBoundedCommand is bounded)
    (ap (λ (r : Option CheckRefusal). unless r (checks_after inside its, number_of inside its))
    (ap (λ (c : Checks). refusal_of c its) same
    ∙ subst (λ (c : CheckCommand). refusal_of now c ≡ None) is judged))

abbrev pub stored_as : ℕ → List Held → Checks
stored_as next list = record { next = next; list = list }

pub left_sound : KeepsSound → (next : ℕ) (list : List Held) (room : ℕ) (now : Kept)
    → record { checks = stored_as next list; room = room } ≡ now → IsSound (stored_as next list)
    → (command its : CheckCommand) → command ≡ its → refusal_of now.checks command ≡ None
    → IsBoundedCommand command → (left : List Held)
    → left ≡ (checks_after (stored_as next list) its).list
    → IsSound (stored_as (checks_after (stored_as next list) its).next left)
left_sound law next list room now view sound command its is judged bounded left e =
    subst (λ (l : List Held). IsSound (stored_as (checks_after (stored_as next list) its).next l))
    (sym e)
    (after_is law (stored_as next list) now.checks (ap (λ (k : Kept). k.checks) view) sound
    command its is judged bounded)

pub its_there : (inside now : Checks) → inside ≡ now → (id : ℕ)
    → (ask : Check → Option CheckRefusal) → of_there id (check_with now.list id) ask ≡ None
    → IsId inside.list id
its_there inside now same id ask e =
    let its = there_and id (check_with now.list id) ask e in
    (its.0, ap (λ (c : Checks). check_with c.list id) same ∙ its.1)

-- ---- sound children

pub are_children : (list : List Held) (children : List ℕ) → has_repeated children ≡ false
    → first_missing list children ≡ None → AreChildren list children
are_children list children once none =
    record { there = all_there list children none; distinct = distinct_of children once }

missing_not : (list : List Held) (children : List ℕ) → AllByRecursion (IsId list) children
    → first_missing list children ≡ None
missing_not list [] there = refl
missing_not list (child ∷ children) there =
    rw (there_of list child there.0) (missing_not list children there.1)

pub none_missing_of : (list : List Held) (children : List ℕ) → AreChildren list children
    → first_missing list children ≡ None
none_missing_of list children are = missing_not list children are.there

pub not_repeated : (list : List Held) (children : List ℕ) → has_repeated children ≡ true
    → AreChildren list children → ⊥
not_repeated list children e are = (repeated_told children).0 e are.distinct

-- ---- what a call was given

pub wrong_is : (given : Given) (check seen : Check) (threshold some wrong : Bool)
    (children : Option (List ℕ)) → seen ≡ check → is_some given.threshold ≡ threshold
    → given.children ≡ children → some ≡ is_some children
    → wrong ≡ (not (is_calculated seen) && (threshold || some))
    → is_wrong_member given check ≡ wrong
wrong_is given check seen threshold some wrong children seen_is threshold_is children_are some_is
    wrong_told =
    sym (wrong_told
    ∙ ap (λ (c : Check). not (is_calculated c) && (threshold || some)) seen_is
    ∙ ap (λ (b : Bool). not (is_calculated check) && (b || some)) (sym threshold_is)
    ∙ ap (λ (b : Bool). not (is_calculated check) && (is_some given.threshold || b))
    (some_is ∙ ap (λ (o : Option (List ℕ)). is_some o) (sym children_are)))

pub none_told : (found : Option ℕ) (none : Bool) → is_some found ≡ not none → none ≡ true
    → found ≡ None
none_told None none e is = refl
none_told (Some child) true e is = absurd (false≢true (sym e))
none_told (Some child) false e is = absurd (false≢true is)

pub told_none : (found : Option ℕ) (none : Bool) → is_some found ≡ not none → found ≡ None
    → none ≡ true
told_none None true e is = refl
told_none None false e is = absurd (false≢true e)
told_none (Some child) none e is = let no : ⊥ = cc in absurd no
