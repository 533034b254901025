-- What a command makes of sound checks is sound, and what it leaves.
use Rattle.std.proofs.Common.{◌≡◌, ◌≢◌, ℕ, ◌+◌, ◌<◌, ◌≤◌, Bool, true, false, cond, List, [], ◌∷◌, ◌++◌, length, map, Option, None, Some, Ok, ap, ◌∙◌, sym, refl, subst, arith, inl, inr}
use Rattle.std.specs.Prelude.{Contains, not, nat_eq, nat_le, option_map, unwrap_or}
use Rattle.std.specs.List.{AllByRecursion, filter, list_any}
use Rattle.std.proofs.lemmas.Bool.{eq-eqb, eqb-true, ne_eqb, false≢true, leb-false, cases_Bool}
use Rattle.std.proofs.lemmas.List.{length-append, length-map}
use Rattle.check_model.specs.declared.checks.Check.{Check}
use Rattle.check_model.specs.declared.checks.Check.TheVariants.{Endpoint, Calculated}
use Rattle.check_model.specs.declared.checks.CheckCommand.{CheckCommand}
use Rattle.check_model.specs.declared.checks.CheckCommand.TheVariants.{Create, Update, Delete}
use Rattle.check_model.specs.declared.refusals.CheckRefusal.{CheckRefusal}
use Rattle.check_model.specs.declared.refusals.CheckRefusal.TheVariants.{ChildRepeated, ChildTooDeep, WrongMember, HealthCheckInUse, TooManyHealthChecks, IdsEnded}
use Rattle.check_model.specs.Checks.{AreChildren, AreDistinct, Checks, IdsRise, IsBounded, IsId, IsSound, IsWalk, check_with, children_of}
use Rattle.check_model.specs.Commands.{Given, IsBoundedCommand, IsThreshold, outcome, checks_after, create_refusal, created, delete_refusal, deleted, first_missing, first_of, given_by, given_rules, has_repeated, is_named, is_too_deep, is_wrong_member, missing, number_of, of_there, refusal_of, refuse_if, unless, update_refusal, updated, updated_at, updated_check, without}
use Rattle.check_model.specs.Kept.{KeepsSound, KeepsRest, its_check}
use Rattle.check_model.proofs.Found.{alone, at_more, at_updated, at_without, before_updated, before_without, or_else, IsAsBefore, there_more, there_updated, there_without}
use Rattle.check_model.proofs.Members.{all_at, all_from, all_mapped, distinct_of, none_of}
use Rattle.check_model.proofs.Told.{all_there}
use Rattle.check_model.proofs.Walks.{Held, shallow_of}

-- ---- rules that refuse nothing

module _ (refusal : CheckRefusal) (rules : List (Option CheckRefusal)) where
  pub passes : (b : Bool) → first_of (refuse_if b refusal ∷ rules) ≡ None
      → (b ≡ false) × (first_of rules ≡ None)
  passes true e = let no : ⊥ = cc in absurd no
  passes false e = (refl, e)

pub none_missing : (found : Option ℕ) (rules : List (Option CheckRefusal))
    → first_of (missing found ∷ rules) ≡ None → (found ≡ None) × (first_of rules ≡ None)
none_missing None rules e = (refl, e)
none_missing (Some child) rules e = let no : ⊥ = cc in absurd no

-- children that are refused for nothing
pub record Pass (list after : List Held) (children : List ℕ) : Type 0 where
  pub there : AllByRecursion (IsId list) children
  pub distinct : AreDistinct children
  pub shallow : (walk : List ℕ) → IsWalk after walk → length walk ≢ 5

module _ (list after : List Held) (children : List ℕ) (rules : List (Option CheckRefusal)) where
  pub children_pass : first_of (refuse_if (has_repeated children) ChildRepeated
      ∷ missing (first_missing list children) ∷ refuse_if (is_too_deep after) ChildTooDeep ∷ rules)
      ≡ None
      → Pass list after children × (first_of rules ≡ None)
  children_pass e =
      let one = passes ChildRepeated (missing (first_missing list children)
      ∷ refuse_if (is_too_deep after) ChildTooDeep ∷ rules) (has_repeated children) e in
      let two = none_missing (first_missing list children)
      (refuse_if (is_too_deep after) ChildTooDeep ∷ rules) one.1 in
      let three = passes ChildTooDeep rules (is_too_deep after) two.1 in (
        record {
          there = all_there list children two.0;
          distinct = distinct_of children one.0;
          shallow = shallow_of after three.0;
        },
        three.1,
      )

-- ---- lists with one more, with one fewer, with one changed

module _ (new : Held) where
  all_more : (P : Held → Type 0) (list : List Held) → AllByRecursion P list → P new
      → AllByRecursion P (list ++ new ∷ [])
  all_more P [] all p = (p, tt)
  all_more P (held ∷ list) all p = (all.0, all_more P list all.1 p)

  rise_more : (list : List Held) → IdsRise list → AllByRecursion (λ held. held.0 < new.0) list
      → IdsRise (list ++ new ∷ [])
  rise_more [] rise low = (tt, tt)
  rise_more (held ∷ list) rise low =
      (all_more (λ other. held.0 < other.0) list rise.0 low.0, rise_more list rise.1 low.1)

module _ (test : Held → Bool) where
  all_by : (P : Held → Type 0) (b : Bool) (held : Held) (list : List Held) → P held
      → AllByRecursion P (filter test list)
      → AllByRecursion P (cond b (held ∷ filter test list) (filter test list))
  all_by P true held list p rest = (p, rest)
  all_by P false held list p rest = rest

  all_fewer : (P : Held → Type 0) (list : List Held) → AllByRecursion P list
      → AllByRecursion P (filter test list)
  all_fewer P [] all = tt
  all_fewer P (held ∷ list) all = all_by P (test held) held list all.0 (all_fewer P list all.1)

  rise_by : (b : Bool) (held : Held) (list : List Held)
      → AllByRecursion (λ other. held.0 < other.0) (filter test list) → IdsRise (filter test list)
      → IdsRise (cond b (held ∷ filter test list) (filter test list))
  rise_by true held list low rest = (low, rest)
  rise_by false held list low rest = rest

  rise_fewer : (list : List Held) → IdsRise list → IdsRise (filter test list)
  rise_fewer [] rise = tt
  rise_fewer (held ∷ list) rise =
      rise_by (test held) held list (all_fewer (λ other. held.0 < other.0) list rise.0)
      (rise_fewer list rise.1)

  count_by : (b : Bool) (held : Held) (list : List Held)
      → length (filter test list) ≤ length list
      → length (cond b (held ∷ filter test list) (filter test list)) ≤ length (held ∷ list)
  count_by true held list le = omega (arith, le)
  count_by false held list le = omega (arith, le)

  count_fewer : (list : List Held) → length (filter test list) ≤ length list
  count_fewer [] = omega arith
  count_fewer (held ∷ list) = count_by (test held) held list (count_fewer list)

module _ (id : ℕ) (given : Given) where
  all_changed : (P Q : Held → Type 0) → ((held : Held) → P held → Q (updated_at id given held))
      → (list : List Held) → AllByRecursion P list
      → AllByRecursion Q (map (updated_at id given) list)
  all_changed P Q f [] all = tt
  all_changed P Q f (held ∷ list) all = (f held all.0, all_changed P Q f list all.1)

  rise_changed : (list : List Held) → IdsRise list → IdsRise (map (updated_at id given) list)
  rise_changed [] rise = tt
  rise_changed (held ∷ list) rise = (
    all_changed (λ other. held.0 < other.0) (λ other. held.0 < other.0) (λ other h. h) list
        rise.0,
    rise_changed list rise.1,
  )

-- ---- there are no more children than checks

fewer_by : (gone is : Bool) (id : ℕ) (held : Held) (list : List Held)
    → nat_eq held.0 id ≡ gone → nat_eq id held.0 ≡ is
    → (IsId list id → length (without id list) < length list)
    → (check : Check) → cond is (Some held.1) (check_with list id) ≡ Some check
    → length (cond (not gone) (held ∷ without id list) (without id list)) < length (held ∷ list)
fewer_by true is id held list g e rest check at =
    let le = count_fewer (λ held. not (nat_eq held.0 id)) list in omega (arith, le)
fewer_by false true id held list g e rest check at =
    let same : id ≡ held.0 = eqb-true id held.0 e in
    absurd (false≢true (sym g ∙ eq-eqb held.0 id (sym same)))
fewer_by false false id held list g e rest check at =
    let lt = rest (check, at) in omega (arith, lt)

fewer : (id : ℕ) (list : List Held) → IsId list id → length (without id list) < length list
fewer id [] (check, at) = let no : ⊥ = cc in absurd no
fewer id (held ∷ list) (check, at) =
    fewer_by (nat_eq held.0 id) (nat_eq id held.0) id held list refl refl (fewer id list) check at

all_two : (P Q R : ℕ → Type 0) → ((k : ℕ) → P k → Q k → R k) → (ks : List ℕ)
    → AllByRecursion P ks → AllByRecursion Q ks → AllByRecursion R ks
all_two P Q R f [] p q = tt
all_two P Q R f (k ∷ ks) p q = (f k p.0 q.0, all_two P Q R f ks p.1 q.1)

pub few_children : (children : List ℕ) (list : List Held) → AreDistinct children
    → AllByRecursion (IsId list) children → length children ≤ length list
few_children [] list distinct there = omega arith
few_children (child ∷ children) list distinct there =
    let left = all_two (λ other. child ≢ other) (IsId list) (IsId (without child list))
    (λ k ne is. there_without child list k (λ e. ne (sym e)) is) children distinct.0 there.1 in
    let more = few_children children (without child list) distinct.1 left in
    let lt = fewer child list there.0 in
    omega (arith, more, lt)

-- ---- walks of what was there before

module _ (before after : List Held)
    (was : (k : ℕ) (check : Check) → check_with after k ≡ Some check → IsAsBefore before k check)
  where
    walk_before : (walk : List ℕ) → IsWalk after walk → IsWalk before walk
    walk_before [] is = tt
    walk_before (id ∷ []) (check, at, calculated) =
        let b = was id check at in (b.0, b.1, b.3 calculated)
    walk_before (id ∷ next ∷ walk) ((check, at, calculated), (parent, there, child), rest) =
        let b = was id check at in
        let p = was id parent there in (
          (b.0, b.1, b.3 calculated),
          (p.0, p.1, subst (λ l. Contains l next) (sym p.2) child),
          walk_before (next ∷ walk) rest,
        )

-- ---- a new check

module _ (checks : Checks) (sound : IsSound checks) where
  fresh_by : (b : Bool) (held : Held) (list : List Held) → nat_eq checks.next held.0 ≡ b
      → held.0 < checks.next → check_with list checks.next ≡ None
      → cond b (Some held.1) (check_with list checks.next) ≡ None
  fresh_by true held list e low rest =
      let same : checks.next ≡ held.0 = eqb-true checks.next held.0 e in
      absurd (omega (arith, same, low))
  fresh_by false held list e low rest = rest

  fresh_in : (list : List Held)
      → AllByRecursion (λ held. (1 ≤ held.0) × (held.0 < checks.next)) list
      → check_with list checks.next ≡ None
  fresh_in [] ids = refl
  fresh_in (held ∷ list) ids =
      fresh_by (nat_eq checks.next held.0) held list refl ids.0.1 (fresh_in list ids.1)

  pub fresh : check_with checks.list checks.next ≡ None
  fresh = fresh_in checks.list sound.ids

  more_children : (new : Held) (children : List ℕ) → AreChildren checks.list children
      → AreChildren (checks.list ++ new ∷ []) children
  more_children new children are = record {
    there = all_mapped (IsId checks.list) (IsId (checks.list ++ new ∷ []))
        (there_more new checks.list) children are.there;
    distinct = are.distinct;
  }

  pub kept_created : (check : Check) → IsBounded check → create_refusal checks check ≡ None
      → IsSound (created checks check)
  kept_created check bounded e =
      let new : Held = (checks.next, check) in
      let last = refuse_if (nat_eq checks.next 4294967295) IdsEnded in
      let many = refuse_if (nat_le 200 (length checks.list)) TooManyHealthChecks in
      let children = children_pass checks.list (checks.list ++ new ∷ []) (children_of check)
      (many ∷ last ∷ []) e in
      let few = passes TooManyHealthChecks (last ∷ []) (nat_le 200 (length checks.list))
      children.1 in
      let ends = passes IdsEnded [] (nat_eq checks.next 4294967295) few.1 in
      let pass = children.0 in
      record {
        few = (let lt = leb-false 200 (length checks.list) few.0 in
            let n = length-append checks.list (new ∷ []) in omega (arith, lt, n));
        from = omega arith;
        to = (let ne = not_last ends.0 in let to = sound.to in omega (arith, ne, to));
        ids = all_more new (λ held. (1 ≤ held.0) × (held.0 < checks.next + 1)) checks.list
            (all_mapped (λ held. (1 ≤ held.0) × (held.0 < checks.next))
            (λ held. (1 ≤ held.0) × (held.0 < checks.next + 1))
            (λ held h. (h.0, (let lt = h.1 in omega (arith, lt)))) checks.list sound.ids)
            (sound.from, omega arith);
        rising = rise_more new checks.list sound.rising
            (all_mapped (λ held. (1 ≤ held.0) × (held.0 < checks.next))
            (λ held. held.0 < checks.next) (λ held h. h.1) checks.list sound.ids);
        children = all_more new
            (λ held. AreChildren (checks.list ++ new ∷ []) (children_of held.1)) checks.list
            (all_mapped (λ held. AreChildren checks.list (children_of held.1))
            (λ held. AreChildren (checks.list ++ new ∷ []) (children_of held.1))
            (λ held are. more_children new (children_of held.1) are) checks.list sound.children)
            (more_children new (children_of check)
            (record { there = pass.there; distinct = pass.distinct }));
        shallow = pass.shallow;
        bounded = all_more new (λ held. IsBounded held.1) checks.list sound.bounded bounded;
      }
    where
      not_last : nat_eq checks.next 4294967295 ≡ false → checks.next ≢ 4294967295
      not_last e same = false≢true (sym e ∙ eq-eqb checks.next 4294967295 same)

  -- ---- a changed check

  module _ (id : ℕ) (given : Given) where
    after : List Held
    after = map (updated_at id given) checks.list

    there_after : (children : List ℕ) → AllByRecursion (IsId checks.list) children
        → AllByRecursion (IsId (map (updated_at id given) checks.list)) children
    there_after children there =
        all_mapped (IsId checks.list) (IsId (map (updated_at id given) checks.list))
        (there_updated id given checks.list) children there

    -- what is told of the children that are given
    abbrev AreGiven : Option (List ℕ) → Type 0
    AreGiven None = Unit {0}
    AreGiven (Some children) =
        AllByRecursion (IsId checks.list) children × AreDistinct children

    children_or : (option : Option (List ℕ)) (children : List ℕ) → AreGiven option
        → AreChildren checks.list children
        → AreChildren (map (updated_at id given) checks.list) (unwrap_or option children)
    children_or None children good are =
        record { there = there_after children are.there; distinct = are.distinct }
    children_or (Some children) old good are =
        record { there = there_after children good.0; distinct = good.1 }

    children_changed : (check : Check) → AreGiven given.children
        → AreChildren checks.list (children_of check)
        → AreChildren (map (updated_at id given) checks.list)
        (children_of (updated_check given check))
    children_changed (Endpoint threshold inverted disabled) good are =
        record { there = tt; distinct = tt }
    children_changed (Calculated threshold inverted disabled children) good are =
        children_or given.children children good are

    children_kept : (check : Check) → AreChildren checks.list (children_of check)
        → AreChildren (map (updated_at id given) checks.list) (children_of check)
    children_kept check are =
        record { there = there_after (children_of check) are.there; distinct = are.distinct }

    children_by : (b : Bool) (check : Check) → AreGiven given.children
        → AreChildren checks.list (children_of check)
        → AreChildren (map (updated_at id given) checks.list)
        (children_of (cond b (updated_check given check) check))
    children_by true check good are = children_changed check good are
    children_by false check good are = children_kept check are

    threshold_or : (option : Option ℕ) (threshold : ℕ) → IsThreshold option → threshold ≤ 256
        → unwrap_or option threshold ≤ 256
    threshold_or None threshold is le = le
    threshold_or (Some threshold) old is le = is

    count_or : (option : Option (List ℕ)) (children : List ℕ) → AreGiven option
        → length children ≤ 255 → length (unwrap_or option children) ≤ 255
    count_or None children good le = le
    count_or (Some children) old good le =
        let most = few_children children checks.list good.1 good.0 in
        let few = sound.few in
        omega (arith, most, few)

    bounded_changed : (check : Check) → IsThreshold given.threshold → AreGiven given.children
        → IsBounded check → IsBounded (updated_check given check)
    bounded_changed (Endpoint threshold inverted disabled) is good bounded = bounded
    bounded_changed (Calculated threshold inverted disabled children) is good bounded = (
      threshold_or given.threshold threshold is bounded.0,
      count_or given.children children good bounded.1,
    )

    bounded_by : (b : Bool) (check : Check) → IsThreshold given.threshold
        → AreGiven given.children → IsBounded check
        → IsBounded (cond b (updated_check given check) check)
    bounded_by true check is good bounded = bounded_changed check is good bounded
    bounded_by false check is good bounded = bounded

    pub kept_changed : IsThreshold given.threshold → AreGiven given.children
        → ((walk : List ℕ) → IsWalk (map (updated_at id given) checks.list) walk
        → length walk ≢ 5)
        → IsSound (updated checks id given)
    kept_changed is good shallow = record {
      few = (let e = length-map checks.list (updated_at id given) in let f = sound.few in
          omega (arith, e, f));
      from = sound.from;
      to = sound.to;
      ids = all_changed id given (λ held. (1 ≤ held.0) × (held.0 < checks.next))
          (λ held. (1 ≤ held.0) × (held.0 < checks.next)) (λ held h. h) checks.list sound.ids;
      rising = rise_changed id given checks.list sound.rising;
      children = all_changed id given (λ held. AreChildren checks.list (children_of held.1))
          (λ held. AreChildren (map (updated_at id given) checks.list) (children_of held.1))
          (λ held are. children_by (nat_eq held.0 id) held.1 good are) checks.list
          sound.children;
      shallow = shallow;
      bounded = all_changed id given (λ held. IsBounded held.1) (λ held. IsBounded held.1)
          (λ held h. bounded_by (nat_eq held.0 id) held.1 is good h) checks.list sound.bounded;
    }

    kept_given : (children : Option (List ℕ)) → given.children ≡ children
        → IsThreshold given.threshold
        → first_of (given_rules checks.list (map (updated_at id given) checks.list) children)
        ≡ None
        → IsSound (updated checks id given)
    kept_given None none is e =
        kept_changed is (subst AreGiven (sym none) tt)
        (λ walk w. sound.shallow walk
        (walk_before checks.list (map (updated_at id given) checks.list)
        (before_updated id given checks.list none) walk w))
    kept_given (Some children) some is e =
        let pass = (children_pass checks.list (map (updated_at id given) checks.list) children []
        e).0 in
        kept_changed is (subst AreGiven (sym some) (pass.there, pass.distinct)) pass.shallow

    pub kept_updated : (check : Check) → IsThreshold given.threshold
        → update_refusal checks id given check ≡ None → IsSound (updated checks id given)
    kept_updated check is e =
        kept_given given.children refl is
        (passes WrongMember
        (given_rules checks.list (map (updated_at id given) checks.list) given.children)
        (is_wrong_member given check) e).1

  -- ---- a deleted check

  pub kept_deleted : (id : ℕ) → delete_refusal checks id ≡ None → IsSound (deleted checks id)
  kept_deleted id e =
      let test : Held → Bool = λ held. not (nat_eq held.0 id) in
      let named = (passes (HealthCheckInUse id) [] (is_named id checks.list) e).0 in
      record {
        few = (let e = count_fewer test checks.list in let f = sound.few in omega (arith, e, f));
        from = sound.from;
        to = sound.to;
        ids = all_fewer test (λ held. (1 ≤ held.0) × (held.0 < checks.next)) checks.list
            sound.ids;
        rising = rise_fewer test checks.list sound.rising;
        children = all_fewer test
            (λ held. AreChildren (without id checks.list) (children_of held.1)) checks.list
            (all_from (λ held. AreChildren (without id checks.list) (children_of held.1))
            checks.list
            (λ held m. children_left held
            (none_of (λ (held : Held). list_any (nat_eq id) (children_of held.1)) checks.list held
            named m)
            (all_at (λ held. AreChildren checks.list (children_of held.1)) checks.list held
            sound.children m)));
        shallow = λ walk w. sound.shallow walk
            (walk_before checks.list (without id checks.list) (before_without id checks.list) walk
            w);
        bounded = all_fewer test (λ held. IsBounded held.1) checks.list sound.bounded;
      }
    where
      not_it : (children : List ℕ) (k : ℕ) → (list_any (nat_eq id) children ≡ true → ⊥)
          → Contains children k → k ≢ id
      not_it children k never m same =
          elim (cases_Bool (list_any (nat_eq id) children)) [
            | inl any ↦ never any
            | inr none ↦ none_of (nat_eq id) children k none m (eq-eqb id k (sym same))
          ]

      children_left : (held : Held)
          → (list_any (nat_eq id) (children_of held.1) ≡ true → ⊥)
          → AreChildren checks.list (children_of held.1)
          → AreChildren (without id checks.list) (children_of held.1)
      children_left held never are = record {
        there = all_from (IsId (without id checks.list)) (children_of held.1)
            (λ k m. there_without id checks.list k (not_it (children_of held.1) k never m)
            (all_at (IsId checks.list) (children_of held.1) k are.there m));
        distinct = are.distinct;
      }

-- ---- commands

pub made : (refusal : Option CheckRefusal) (x y : Checks × ℕ) → unless refusal x ≡ Ok y
    → (refusal ≡ None) × (x ≡ y)
made None x y e = (refl, (let same : x ≡ y = cc in same))
made (Some refusal) x y e = let no : ⊥ = cc in absurd no

pub there_and : (id : ℕ) (found : Option Check) (ask : Check → Option CheckRefusal)
    → of_there id found ask ≡ None
    → (check : Check) × (found ≡ Some check) × (ask check ≡ None)
there_and id None ask e = let no : ⊥ = cc in absurd no
there_and id (Some check) ask e = (check, refl, e)

pub kept_by : (checks : Checks) → IsSound checks → (command : CheckCommand)
    → IsBoundedCommand command → refusal_of checks command ≡ None
    → IsSound (checks_after checks command)
kept_by checks sound (Create check) bounded e = kept_created checks sound check bounded e
kept_by checks sound (Update id inverted disabled threshold children) bounded e =
    let given : Given = given_by inverted disabled threshold children in
    let its = there_and id (check_with checks.list id) (update_refusal checks id given) e in
    kept_updated checks sound id given its.0 bounded its.2
kept_by checks sound (Delete id) bounded e =
    kept_deleted checks sound id
    (there_and id (check_with checks.list id) (λ check. delete_refusal checks id) e).2

pub kept : KeepsSound
kept checks after command id sound bounded e =
    let m = made (refusal_of checks command) (
      checks_after checks command,
      number_of checks command,
    ) (after, id) e in
    subst IsSound (ap (λ (p : Checks × ℕ). p.0) m.1) (kept_by checks sound command bounded m.0)

-- ---- the rest

module _ (checks : Checks) (sound : IsSound checks) where
  new_there : (check : Check)
      → check_with (created checks check).list checks.next ≡ Some check
  new_there check =
      at_more (checks.next, check) checks.list checks.next
      ∙ ap (λ (o : Option Check). or_else o (alone (checks.next, check) checks.next))
      (fresh checks sound)
      ∙ ap (λ (b : Bool). cond b (Some check) None) (eq-eqb checks.next checks.next refl)

  nothing_else : (found : Option Check) → or_else found None ≡ found
  nothing_else None = refl
  nothing_else (Some check) = refl

  old_there : (check : Check) (other : ℕ) → other ≢ checks.next
      → check_with (created checks check).list other ≡ check_with checks.list other
  old_there check other ne =
      at_more (checks.next, check) checks.list other
      ∙ ap (λ (b : Bool). or_else (check_with checks.list other) (cond b (Some check) None))
      (ne_eqb other checks.next ne)
      ∙ nothing_else (check_with checks.list other)

  its_by : (command : CheckCommand)
      → check_with (checks_after checks command).list (number_of checks command)
      ≡ its_check command (check_with checks.list (number_of checks command))
  its_by (Create check) = new_there check
  its_by (Update id inverted disabled threshold children) =
      let given : Given = given_by inverted disabled threshold children in
      at_updated id given checks.list id
      ∙ ap (λ (b : Bool). cond b (option_map (updated_check given) (check_with checks.list id))
      (check_with checks.list id)) (eq-eqb id id refl)
  its_by (Delete id) =
      at_without id checks.list id
      ∙ ap (λ (b : Bool). cond b None (check_with checks.list id)) (eq-eqb id id refl)

  others_by : (command : CheckCommand) (other : ℕ) → other ≢ number_of checks command
      → check_with (checks_after checks command).list other ≡ check_with checks.list other
  others_by (Create check) other ne = old_there check other ne
  others_by (Update id inverted disabled threshold children) other ne =
      let given : Given = given_by inverted disabled threshold children in
      at_updated id given checks.list other
      ∙ ap (λ (b : Bool). cond b (option_map (updated_check given) (check_with checks.list other))
      (check_with checks.list other)) (ne_eqb other id ne)
  others_by (Delete id) other ne =
      at_without id checks.list other
      ∙ ap (λ (b : Bool). cond b None (check_with checks.list other)) (ne_eqb other id ne)

pub left : KeepsRest
left = record { its = its_made; others = others_made }
  where
    its_made : (checks after : Checks) (command : CheckCommand) (id : ℕ)
        → IsSound checks → outcome checks command ≡ Ok (after, id)
        → check_with after.list id ≡ its_check command (check_with checks.list id)
    its_made checks after command id sound e =
        let m = made (refusal_of checks command) (
          checks_after checks command,
          number_of checks command,
        ) (after, id) e in
        subst (λ (p : Checks × ℕ).
        check_with p.0.list p.1 ≡ its_check command (check_with checks.list p.1)) m.1
        (its_by checks sound command)

    others_made : (checks after : Checks) (command : CheckCommand) (id other : ℕ)
        → IsSound checks → outcome checks command ≡ Ok (after, id) → other ≢ id
        → check_with after.list other ≡ check_with checks.list other
    others_made checks after command id other sound e ne =
        let m = made (refusal_of checks command) (
          checks_after checks command,
          number_of checks command,
        ) (after, id) e in
        ap (λ (p : Checks × ℕ). check_with p.0.list other) (sym m.1)
        ∙ others_by checks sound command other
        (λ same. ne (same ∙ ap (λ (p : Checks × ℕ). p.1) m.1))
