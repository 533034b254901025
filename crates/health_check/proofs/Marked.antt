-- Marks of checks, and the walks that they tell.
use Rattle.std.proofs.Common.{◌≡◌, ◌≢◌, ℕ, zero, suc, ◌<◌, ◌≤◌, Bool, true, false, cond, List, [], ◌∷◌, ◌++◌, length, get_or, take, map, Option, None, Some, ap, ◌∙◌, sym, refl, arith}
use Rattle.std.specs.Prelude.{Contains, nat_eq, ◌||◌, option_map, slice_get, unwrap_or}
use Rattle.std.specs.List.{AllByRecursion, list_any}
use Rattle.std.proofs.lemmas.Bool.{eq-eqb, eqb-true, ne_eqb, false≢true, or_from, or_parts}
use Rattle.std.proofs.lemmas.List.Folds.{list_any-append}
use Rattle.check_model.specs.declared.checks.Check.{Check}
use Rattle.check_model.specs.declared.checks.Check.TheVariants.{Endpoint, Calculated}
use Rattle.check_model.specs.Checks.{AreChildren, Checks, IdsRise, IsId, IsSound, check_with, children_of}
use Rattle.check_model.specs.Commands.{Given, children_there, created, has_walk, is_calculated, is_calculated_there, is_too_deep, starts_walk, updated_at, updated_check}
use Rattle.check_model.proofs.Found.{alone, at_more, at_updated, or_else}
use Rattle.check_model.proofs.Kept.{fresh}
use Rattle.check_model.proofs.Members.{all_at, further}
use Rattle.check_model.proofs.Told.{one_of_id}
use Rattle.check_model.proofs.Walks.{not_deep, stands_there}
use Rattle.health_check.specs.Marks.{children_given, is_calculated_in, marked, marks_of, with_children}
use Rattle.health_check.proofs.Places.{Held, all_apart}

-- ---- lists that pass tests alike

module _ {X : Type 0} (p q : X → Bool) where
  pub any_same : (xs : List X) → ((x : X) → Contains xs x → p x ≡ q x)
      → list_any p xs ≡ list_any q xs
  any_same [] same = refl
  any_same (x ∷ xs) same =
      ap (λ (b : Bool). b || list_any p xs) (same x (zero, omega arith, refl))
      ∙ ap (λ (b : Bool). q x || b) (any_same xs (λ y m. same y (further x xs y m)))

  pub map_same : (xs : List X) → ((x : X) → Contains xs x → p x ≡ q x) → map p xs ≡ map q xs
  map_same [] same = refl
  map_same (x ∷ xs) same =
      ap (λ (b : Bool). b ∷ map p xs) (same x (zero, omega arith, refl))
      ∙ ap (λ (l : List Bool). q x ∷ l) (map_same xs (λ y m. same y (further x xs y m)))

any_mark : {X : Type 0} (p : X → Bool) (xs : List X)
    → list_any (λ (mark : Bool). mark) (map p xs) ≡ list_any p xs
any_mark p [] = refl
any_mark p (x ∷ xs) = ap (λ (b : Bool). p x || b) (any_mark p xs)

-- ---- one mark

mark_by : (b : Bool) (mark rest other : Bool) → b ≡ true → mark ≡ other
    → cond b mark rest ≡ other
mark_by true mark rest other e same = same
mark_by false mark rest other e same = absurd (false≢true e)

later_by : (b : Bool) (mark rest other : Bool) → b ≡ false → rest ≡ other
    → cond b mark rest ≡ other
later_by true mark rest other e same = absurd (false≢true (sym e))
later_by false mark rest other e same = same

pub mark_at : (list : List Held) (marks : List Bool) → IdsRise list → (place id : ℕ)
    (check : Check) (d : Bool) → slice_get list place ≡ Some (id, check) → place < length marks
    → marked list marks id ≡ get_or marks place d
mark_at [] marks rise place id check d at lt = let no : ⊥ = cc in absurd no
mark_at (held ∷ list) [] rise place id check d at lt = absurd (omega (arith, lt))
mark_at (held ∷ list) (mark ∷ marks) rise zero id check d at lt =
    let same : held ≡ (id, check) = cc in
    mark_by (nat_eq id held.0) mark (marked list marks id) mark
    (eq-eqb id held.0 (ap (λ (h : Held). h.0) (sym same))) refl
mark_at (held ∷ list) (mark ∷ marks) rise (suc place) id check d at lt =
    let low : held.0 < id =
    all_at (λ other. held.0 < other.0) list (id, check) rise.0
    (in_list list place (id, check) at) in
    later_by (nat_eq id held.0) mark (marked list marks id) (get_or marks place d)
    (ne_eqb id held.0 (λ e. omega (arith, low, e)))
    (mark_at list marks rise.1 place id check d at (omega (arith, lt)))
  where
    in_list : (list : List Held) (place : ℕ) (x : Held) → slice_get list place ≡ Some x
        → Contains list x
    in_list [] place x at = let no : ⊥ = cc in absurd no
    in_list (held ∷ list) zero x at = (zero, omega arith, (let same : held ≡ x = cc in same))
    in_list (held ∷ list) (suc place) x at = further held list x (in_list list place x at)

none_parts : (b : Bool) (check : Check) (rest : Option Check) → cond b (Some check) rest ≡ None
    → (b ≡ false) × (rest ≡ None)
none_parts true check rest e = let no : ⊥ = cc in absurd no
none_parts false check rest e = (refl, e)

pub no_mark : (list : List Held) (marks : List Bool) (id : ℕ) → check_with list id ≡ None
    → marked list marks id ≡ false
no_mark [] marks id none = refl
no_mark (held ∷ list) [] id none = refl
no_mark (held ∷ list) (mark ∷ marks) id none =
    let parts = none_parts (nat_eq id held.0) held.1 (check_with list id) none in
    later_by (nat_eq id held.0) mark (marked list marks id) false parts.0
    (no_mark list marks id parts.1)

-- ---- marks that tell a fact of each check

head_of : (x y : Bool) (xs ys : List Bool) → x ∷ xs ≡ y ∷ ys → x ≡ y
head_of x y xs ys e = cc

tail_of : (x y : Bool) (xs ys : List Bool) → x ∷ xs ≡ y ∷ ys → xs ≡ ys
tail_of x y xs ys e = cc

module _ (f : ℕ → Bool) where
  told_by : (b : Bool) (k : ℕ) (held : Held) (mark rest : Bool) (found : Option Check)
      → nat_eq k held.0 ≡ b → mark ≡ f held.0
      → ((found ≡ None → f k ≡ false) → rest ≡ f k)
      → (cond b (Some held.1) found ≡ None → f k ≡ false) → cond b mark rest ≡ f k
  told_by true k held mark rest found e is more none =
      is ∙ ap f (sym (eqb-true k held.0 e))
  told_by false k held mark rest found e is more none = more none

  pub marks_tell : (list : List Held) (marks : List Bool)
      → take (length list) marks ≡ map (λ (held : Held). f held.0) list
      → (k : ℕ) → (check_with list k ≡ None → f k ≡ false) → marked list marks k ≡ f k
  marks_tell [] marks are k none = sym (none refl)
  marks_tell (held ∷ list) [] are k none = let no : ⊥ = cc in absurd no
  marks_tell (held ∷ list) (mark ∷ marks) are k none =
      told_by (nat_eq k held.0) k held mark (marked list marks k) (check_with list k) refl
      (head_of mark (f held.0) (take (length list) marks)
      (map (λ (held : Held). f held.0) list) are)
      (marks_tell list marks (tail_of mark (f held.0) (take (length list) marks)
      (map (λ (held : Held). f held.0) list) are) k) none

-- ---- checks with other children

module _ (id : ℕ) (given : Given) (list : List Held) (rise : IdsRise list) where
  both_some : (b : Bool) (check : Check)
      → cond b (option_map (updated_check given) (Some check)) (Some check)
      ≡ Some (cond b (updated_check given check) check)
  both_some true check = refl
  both_some false check = refl

  pub its_check : (held : Held) → Contains list held
      → check_with (map (updated_at id given) list) held.0 ≡ Some (updated_at id given held).1
  its_check held m =
      at_updated id given list held.0
      ∙ ap (λ (o : Option Check). cond (nat_eq held.0 id) (option_map (updated_check given) o) o)
      (one_of_id list held rise m)
      ∙ both_some (nat_eq held.0 id) held.1

  none_both : (b : Bool) (found : Option Check) → found ≡ None
      → cond b (option_map (updated_check given) found) found ≡ None
  none_both true found e = ap (option_map (updated_check given)) e
  none_both false found e = e

  pub not_after : (k : ℕ) → check_with list k ≡ None
      → check_with (map (updated_at id given) list) k ≡ None
  not_after k none = at_updated id given list k ∙ none_both (nat_eq k id) (check_with list k) none

  kind_kept : (check : Check) → is_calculated (updated_check given check) ≡ is_calculated check
  kind_kept (Endpoint threshold inverted disabled) = refl
  kind_kept (Calculated threshold inverted disabled children) = refl

  pub kind_by : (b : Bool) (check : Check)
      → is_calculated (cond b (updated_check given check) check) ≡ is_calculated check
  kind_by true check = kind_kept check
  kind_by false check = refl

  pub any_at : (f : ℕ → Bool) (xs : List Held)
      → list_any (λ (held : Held). f held.0) (map (updated_at id given) xs)
      ≡ list_any (λ (held : Held). f held.0) xs
  any_at f [] = refl
  any_at f (x ∷ xs) = ap (λ (b : Bool). f x.0 || b) (any_at f xs)

no_walk : (steps : ℕ) (after : List Held) (k : ℕ) → check_with after k ≡ None
    → starts_walk steps after k ≡ false
no_walk zero after k none = ap is_calculated_there none
no_walk (suc steps) after k none =
    ap (λ (o : Option Check). list_any (starts_walk steps after) (children_there o)) none

module _ (id : ℕ) (children : List ℕ) (list : List Held) (rise : IdsRise list) where
  abbrev given : Given
  given = children_given children

  abbrev after : List Held
  after = with_children id children list

  pub first_marks : map (λ (held : Held). is_calculated held.1) list ≡ marks_of zero after list
  first_marks = map_same (λ (held : Held). is_calculated held.1)
      (λ (held : Held). starts_walk zero after held.0) list
      (λ held m. sym (ap is_calculated_there (its_check id given list rise held m)
      ∙ kind_by id given list rise (nat_eq held.0 id) held.1))

  module _ (steps : ℕ) (marks : List Bool)
      (are : take (length list) marks ≡ marks_of steps after list) where
    pub tells : (k : ℕ) → marked list marks k ≡ starts_walk steps after k
    tells k = marks_tell (starts_walk steps after) list marks are k
        (λ none. no_walk steps after k (not_after id given list rise k none))

    pub any_tells : (ks : List ℕ)
        → list_any (marked list marks) ks ≡ list_any (starts_walk steps after) ks
    any_tells ks =
        any_same (marked list marks) (starts_walk steps after) ks (λ k m. tells k)

    pub next_marks : map (λ (held : Held). list_any (marked list marks)
        (children_of (updated_at id given held).1)) list
        ≡ marks_of (suc steps) after list
    next_marks = map_same (λ (held : Held). list_any (marked list marks)
        (children_of (updated_at id given held).1))
        (λ (held : Held). starts_walk (suc steps) after held.0) list
        (λ held m. any_tells (children_of (updated_at id given held).1)
        ∙ ap (λ (o : Option Check). list_any (starts_walk steps after) (children_there o))
        (sym (its_check id given list rise held m)))

    pub stands : list_any (λ (mark : Bool). mark) (take (length list) marks)
        ≡ has_walk steps after
    stands =
        ap (list_any (λ (mark : Bool). mark)) are
        ∙ any_mark (λ (held : Held). starts_walk steps after held.0) list
        ∙ sym (any_at id given list rise (starts_walk steps after) list)

pub deep_told : (id : ℕ) (children : List ℕ) (list : List Held) → IdsRise list
    → (marks : List Bool)
    → take (length list) marks ≡ marks_of 4 (with_children id children list) list
    → list_any (λ (mark : Bool). mark) (take (length list) marks)
    ≡ is_too_deep (with_children id children list)
unfolding is_too_deep
deep_told id children list rise marks are = stands id children list rise 4 marks are

-- ---- without calculated children

module _ (id : ℕ) (children : List ℕ) (list : List Held) where
  childless : (b : Bool) (found : Option Check) → is_calculated_there found ≡ false
      → children_there (cond b (option_map (updated_check (children_given children)) found) found)
      ≡ []
  childless true None e = refl
  childless false None e = refl
  childless true (Some (Endpoint threshold inverted disabled)) e = refl
  childless false (Some (Endpoint threshold inverted disabled)) e = refl
  childless b (Some (Calculated threshold inverted disabled own)) e = absurd (false≢true (sym e))

  no_start : (steps k : ℕ) → is_calculated_in list k ≡ false
      → starts_walk (suc steps) (with_children id children list) k ≡ false
  no_start steps k e =
      ap (list_any (starts_walk steps (with_children id children list)))
      (ap children_there (at_updated id (children_given children) list k)
      ∙ childless (nat_eq k id) (check_with list k) e)

  pub none_start : (steps : ℕ) (ks : List ℕ) → list_any (is_calculated_in list) ks ≡ false
      → list_any (starts_walk (suc steps) (with_children id children list)) ks ≡ false
  none_start steps [] none = refl
  none_start steps (k ∷ ks) none =
      let parts = or_parts (is_calculated_in list k) (list_any (is_calculated_in list) ks) none in
      or_from (starts_walk (suc steps) (with_children id children list) k)
      (list_any (starts_walk (suc steps) (with_children id children list)) ks)
      (no_start steps k parts.0) (none_start steps ks parts.1)

-- ---- without other children

positive_apart : (list : List Held) (next : ℕ)
    → AllByRecursion (λ (held : Held). (1 ≤ held.0) × (held.0 < next)) list
    → AllByRecursion (λ (other : Held). other.0 ≢ 0) list
positive_apart [] next ids = tt
positive_apart (held ∷ list) next ids =
    ((λ e. let le = ids.0.0 in omega (arith, le, e)), positive_apart list next ids.1)

pub none_changed : (list : List Held) (next : ℕ)
    → AllByRecursion (λ (held : Held). (1 ≤ held.0) × (held.0 < next)) list
    → with_children 0 [] list ≡ list
none_changed list next ids = all_apart 0 (children_given []) list (positive_apart list next ids)

pub nothing_changed : (checks : Checks) → IsSound checks
    → with_children 0 [] checks.list ≡ checks.list
nothing_changed checks sound = none_changed checks.list checks.next sound.ids

-- ---- with a new check

module _ (checks : Checks) (sound : IsSound checks) (check : Check) where
  abbrev more : List Held
  more = checks.list ++ (checks.next, check) ∷ []

  found_still : (k : ℕ) → IsId checks.list k
      → check_with more k ≡ check_with checks.list k
  found_still k (old, at) =
      at_more (checks.next, check) checks.list k
      ∙ ap (λ (o : Option Check). or_else o (alone (checks.next, check) k)) at ∙ sym at

  children_at : (k : ℕ) (old : Check) → check_with checks.list k ≡ Some old
      → AreChildren checks.list (children_of old)
  children_at k old at =
      all_at (λ held. AreChildren checks.list (children_of held.1)) checks.list (k, old)
      sound.children (stands_there checks.list k old at)

  starts_still : (steps k : ℕ) → IsId checks.list k
      → starts_walk steps more k ≡ starts_walk steps checks.list k
  starts_still zero k is = ap is_calculated_there (found_still k is)
  starts_still (suc steps) k (old, at) =
      ap (λ (o : Option Check). list_any (starts_walk steps more) (children_there o))
      (found_still k (old, at) ∙ at)
      ∙ any_same (starts_walk steps more) (starts_walk steps checks.list) (children_of old)
      (λ child m. starts_still steps child
      (all_at (IsId checks.list) (children_of old) child (children_at k old at).there m))
      ∙ ap (λ (o : Option Check). list_any (starts_walk steps checks.list) (children_there o))
      (sym at)

  new_found : check_with more checks.next ≡ Some check
  new_found =
      at_more (checks.next, check) checks.list checks.next
      ∙ ap (λ (o : Option Check). or_else o (alone (checks.next, check) checks.next))
      (fresh checks sound)
      ∙ ap (λ (b : Bool). cond b (Some check) None) (eq-eqb checks.next checks.next refl)

  module _ (there : AllByRecursion (IsId checks.list) (children_of check)) where
    starts_new : (steps : ℕ)
        → starts_walk (suc steps) more checks.next
        ≡ list_any (starts_walk steps checks.list) (children_of check)
    starts_new steps =
        ap (λ (o : Option Check). list_any (starts_walk steps more) (children_there o)) new_found
        ∙ any_same (starts_walk steps more) (starts_walk steps checks.list) (children_of check)
        (λ child m. starts_still steps child
        (all_at (IsId checks.list) (children_of check) child there m))

    old_same : (steps : ℕ)
        → list_any (λ (held : Held). starts_walk steps more held.0) checks.list
        ≡ has_walk steps checks.list
    old_same steps =
        any_same (λ (held : Held). starts_walk steps more held.0)
        (λ (held : Held). starts_walk steps checks.list held.0) checks.list
        (λ held m. starts_still steps held.0
        (held.1, one_of_id checks.list held sound.rising m))

    or_false : (a b : Bool) → a ≡ false → (a || (b || false)) ≡ b
    or_false true b e = absurd (false≢true (sym e))
    or_false false true e = refl
    or_false false false e = refl

    stands_new : (steps : ℕ) → has_walk (suc steps) checks.list ≡ false
        → has_walk (suc steps) more ≡ list_any (starts_walk steps checks.list) (children_of check)
    stands_new steps none =
        list_any-append (λ (held : Held). starts_walk (suc steps) more held.0) checks.list
        ((checks.next, check) ∷ [])
        ∙ or_false (list_any (λ (held : Held). starts_walk (suc steps) more held.0) checks.list)
        (starts_walk (suc steps) more checks.next) (old_same (suc steps) ∙ none)
        ∙ starts_new steps

pub created_deep : (checks : Checks) → IsSound checks → (check : Check)
    → AllByRecursion (IsId checks.list) (children_of check)
    → is_too_deep (created checks check).list
    ≡ list_any (starts_walk 3 checks.list) (children_of check)
unfolding is_too_deep
created_deep checks sound check there =
    stands_new checks sound check there 3 (not_deep checks.list sound.shallow)

-- ---- with children that are given beside other changes

module _ (given : Given) (children : List ℕ) (some : given.children ≡ Some children) where
  children_alike : (check : Check)
      → children_of (updated_check given check)
      ≡ children_of (updated_check (children_given children) check)
  children_alike (Endpoint threshold inverted disabled) = refl
  children_alike (Calculated threshold inverted disabled old) =
      ap (λ (o : Option (List ℕ)). unwrap_or o old) some

  kind_alike : (check : Check)
      → is_calculated (updated_check given check)
      ≡ is_calculated (updated_check (children_given children) check)
  kind_alike (Endpoint threshold inverted disabled) = refl
  kind_alike (Calculated threshold inverted disabled old) = refl

  there_alike : (b : Bool) (found : Option Check)
      → children_there (cond b (option_map (updated_check given) found) found)
      ≡ children_there (cond b (option_map (updated_check (children_given children)) found) found)
  there_alike true None = refl
  there_alike false None = refl
  there_alike true (Some check) = children_alike check
  there_alike false (Some check) = refl

  calculated_alike : (b : Bool) (found : Option Check)
      → is_calculated_there (cond b (option_map (updated_check given) found) found)
      ≡ is_calculated_there
      (cond b (option_map (updated_check (children_given children)) found) found)
  calculated_alike true None = refl
  calculated_alike false None = refl
  calculated_alike true (Some check) = kind_alike check
  calculated_alike false (Some check) = refl

  module _ (id : ℕ) (list : List Held) (rise : IdsRise list) where
    starts_alike : (steps k : ℕ)
        → starts_walk steps (map (updated_at id given) list) k
        ≡ starts_walk steps (with_children id children list) k
    starts_alike zero k =
        ap is_calculated_there (at_updated id given list k)
        ∙ calculated_alike (nat_eq k id) (check_with list k)
        ∙ ap is_calculated_there (sym (at_updated id (children_given children) list k))
    starts_alike (suc steps) k =
        any_same (starts_walk steps (map (updated_at id given) list))
        (starts_walk steps (with_children id children list))
        (children_there (check_with (map (updated_at id given) list) k))
        (λ child m. starts_alike steps child)
        ∙ ap (list_any (starts_walk steps (with_children id children list)))
        (ap children_there (at_updated id given list k)
        ∙ there_alike (nat_eq k id) (check_with list k)
        ∙ ap children_there (sym (at_updated id (children_given children) list k)))

    stands_alike : (steps : ℕ)
        → has_walk steps (map (updated_at id given) list)
        ≡ has_walk steps (with_children id children list)
    stands_alike steps =
        any_at id given list rise (starts_walk steps (map (updated_at id given) list)) list
        ∙ any_same (λ (held : Held). starts_walk steps (map (updated_at id given) list) held.0)
        (λ (held : Held). starts_walk steps (with_children id children list) held.0) list
        (λ held m. starts_alike steps held.0)
        ∙ sym (any_at id (children_given children) list rise
        (starts_walk steps (with_children id children list)) list)

    pub deep_alike : is_too_deep (map (updated_at id given) list)
        ≡ is_too_deep (with_children id children list)
    unfolding is_too_deep
    deep_alike = stands_alike 4
