-- Sets that are in one list and not in another.
use Rattle.std.proofs.Common.{◌≡◌, ℕ, zero, suc, ◌<◌, ◌≤◌, ◌+◌, List, [], ◌∷◌, ◌++◌, map, length}
use Rattle.std.proofs.Common.{take, drop, Bool, true, false, Some, Less, Equal, refl, sym, ap, ◌∙◌}
use Rattle.std.proofs.Common.{subst, inl, inr, arith, cond}
use Rattle.std.specs.Prelude.{◌⊎◌, ◌↔◌, slice_get}
use Rattle.std.specs.List.{filter}
use Rattle.std.proofs.lemmas.Cmp.{tied_itself}
use Rattle.record_set.specs.declared.sets.RecordSet.{RecordSet}
use Rattle.record_set.specs.declared.sets.SetKey.{SetKey}
use Rattle.record_set.specs.Sets.{key_of}
use Rattle.batch_names.proofs.Members.{all_in, in_all}
use Rattle.batch_names.specs.Changes.{IsKeyOf}
use Rattle.config_model.specs.Keys.{key_cmp}
use Rattle.config_model.specs.Zones.{IsAmong, IsRising}
use Rattle.config_model.proofs.Among.{among_at, place_of}
use Rattle.config_model.proofs.Ordered.{keys_total}
use Rattle.config_model.proofs.Places.{rising_at}
use Rattle.batch_edits.specs.Places.{AddsKey, AddsSet, IsNextPlace}
use Rattle.config_model.specs.Differences.{AreMissing}
use Rattle.std.proofs.lemmas.Option.{slice_get_within}
use Rattle.std.proofs.lemmas.List.{take_all}
use Rattle.config_model.proofs.Lists.{take_more}
use Rattle.batch_names.proofs.Members.{filled, left_at}
use Rattle.change_batch.proofs.Lookups.{at_one}
use Rattle.batch_names.proofs.Filtered.{of_filter}

-- ---- members

module _ (others : List RecordSet) where
  pub missing_either : (sets found : List RecordSet) → AreMissing sets others found →
      (set : RecordSet)
      → IsAmong sets set → IsAmong others set ⊎ IsAmong found set
  missing_either [] found are set there = absurd there
  missing_either (x ∷ sets) found (inl same) set (inl e) =
      inl (subst (λ s. IsAmong others s) e same.0)
  missing_either (x ∷ sets) found (inl same) set (inr there) =
      missing_either sets found same.1 set there
  missing_either (x ∷ sets) found (inr new) set (inl e) =
      inr (subst (λ f. IsAmong f set) (sym new.1.1) (inl e))
  missing_either (x ∷ sets) found (inr new) set (inr there) =
      elim (missing_either sets new.1.0 new.1.2 set there) [
        | inl other ↦ inl other
        | inr later ↦ inr (subst (λ f. IsAmong f set) (sym new.1.1) (inr later))
      ]

  pub missing_is : (sets found : List RecordSet) → AreMissing sets others found → (set : RecordSet)
      → IsAmong found set → IsAmong sets set × (IsAmong others set → ⊥)
  missing_is [] found are set there = absurd (subst (λ f. IsAmong f set) are there)
  missing_is (x ∷ sets) found (inl same) set there =
      let is = missing_is sets found same.1 set there in (inr is.0, is.1)
  missing_is (x ∷ sets) found (inr new) set there =
      elim (subst (λ f. IsAmong f set) new.1.1 there) [
        | inl e ↦ (inl e, λ other. new.0 (subst (λ s. IsAmong others s) (sym e) other))
        | inr later ↦
            (let is = missing_is sets new.1.0 new.1.2 set later in (inr is.0, is.1))
      ]

  pub missing_rises : (sets found : List RecordSet) → AreMissing sets others found → IsRising sets
      → IsRising found
  missing_rises [] found are rising = subst IsRising (sym are) rising
  missing_rises (x ∷ sets) found (inl same) rising = missing_rises sets found same.1 rising.1
  missing_rises (x ∷ sets) found (inr new) rising =
      subst IsRising (sym new.1.1) (
        all_in (λ later. key_cmp (key_of x) (key_of later) ≡ Less) new.1.0
            (λ set there. in_all (λ later. key_cmp (key_of x) (key_of later)
            ≡ Less) sets set rising.0
            (missing_is sets new.1.0 new.1.2 set there).0),
        missing_rises sets new.1.0 new.1.2 rising.1,
      )

  -- one set more
  pub missing_same : (sets found : List RecordSet) (set : RecordSet) → AreMissing sets others found
      → IsAmong others set → AreMissing (sets ++ set ∷ []) others found
  missing_same [] found set are there = inl (there, are)
  missing_same (x ∷ sets) found set (inl same) there =
      inl (same.0, missing_same sets found set same.1 there)
  missing_same (x ∷ sets) found set (inr new) there =
      inr (new.0, (new.1.0, new.1.1, missing_same sets new.1.0 set new.1.2 there))

  pub missing_new : (sets found : List RecordSet) (set : RecordSet) → AreMissing sets others found
      → (IsAmong others set → ⊥) → AreMissing (sets ++ set ∷ []) others (found ++ set ∷ [])
  missing_new [] found set are none =
      inr (none, ([], ap (λ (f : List RecordSet). f ++ set ∷ []) are, refl))
  missing_new (x ∷ sets) found set (inl same) none =
      inl (same.0, missing_new sets found set same.1 none)
  missing_new (x ∷ sets) found set (inr new) none = inr (
    new.0,
    (
      new.1.0 ++ set ∷ [],
      ap (λ (f : List RecordSet). f ++ set ∷ []) new.1.1,
      missing_new sets new.1.0 set new.1.2 none,
    ),
  )

-- what is missing of two lists, one after the other
pub missing_of_both : (others sets more found also : List RecordSet) → AreMissing sets others found
    → AreMissing more others also → AreMissing (sets ++ more) others (found ++ also)
missing_of_both others [] more found also are too =
    subst (λ f. AreMissing more others (f ++ also)) (sym are) too
missing_of_both others (set ∷ sets) more found also (inl same) too =
    inl (same.0, missing_of_both others sets more found also same.1 too)
missing_of_both others (set ∷ sets) more found also (inr new) too = inr (
  new.0,
  (
    new.1.0 ++ also,
    ap (λ (f : List RecordSet). f ++ also) new.1.1,
    missing_of_both others sets more new.1.0 also new.1.2 too,
  ),
)

-- the same of all sets, where those that fail a test are in the other list
pub missing_of_all : (f : RecordSet → Bool) (few others sets found : List RecordSet)
    → ((set : RecordSet) → f set ≡ true → IsAmong few set ↔ IsAmong others set)
    → ((set : RecordSet) → IsAmong sets set → f set ≡ false → IsAmong others set)
    → AreMissing (filter f sets) few found → AreMissing sets others found
missing_of_all f few others [] found same rest are = are
missing_of_all f few others (set ∷ sets) found same rest are =
    by (λ more. missing_of_all f few others sets more same (λ x there. rest x (inr there))) (f set)
    refl are
  where
    by : ((more : List RecordSet) → AreMissing (filter f sets) few more
        → AreMissing sets others more) → (b : Bool) → f set ≡ b
        → AreMissing (cond b (set ∷ filter f sets) (filter f sets)) few found
        → AreMissing (set ∷ sets) others found
    by later true e (inl is) = inl ((same set e).0 is.0, later found is.1)
    by later true e (inr new) =
        inr ((λ there. new.0 ((same set e).1 there)), (new.1.0, new.1.1, later new.1.0 new.1.2))
    by later false e is = inl (rest set (inl refl) e, later found is)

-- ---- keys of sets

pub key_among : (sets : List RecordSet) (set : RecordSet) → IsAmong sets set
    → IsKeyOf (map key_of sets) (key_of set)
key_among [] set there = absurd there
key_among (x ∷ sets) set (inl e) = inl (ap key_of e)
key_among (x ∷ sets) set (inr there) = inr (key_among sets set there)

pub of_key_among : (sets : List RecordSet) (key : SetKey) → IsKeyOf (map key_of sets) key
    → (set : RecordSet) × IsAmong sets set × (key_of set ≡ key)
of_key_among [] key there = absurd there
of_key_among (x ∷ sets) key (inl e) = (x, inl refl, e)
of_key_among (x ∷ sets) key (inr there) =
    let rest = of_key_among sets key there in (rest.0, inr rest.1, rest.2)

-- a key is not below itself
pub not_below : (key other : SetKey) → key ≡ other → key_cmp key other ≡ Less → ⊥
not_below key other e less =
    let tie : key_cmp key other ≡ Equal =
    subst (λ k. key_cmp key k ≡ Equal) e (tied_itself keys_total key) in
    grind (arith, less, tie)

-- in zone order a key has one set
pub one_set : (sets : List RecordSet) → IsRising sets → (set other : RecordSet) → IsAmong sets set
    → IsAmong sets other → key_of set ≡ key_of other → set ≡ other
one_set [] rising set other there also e = absurd there
one_set (x ∷ sets) rising set other (inl same) (inl too) e = sym same ∙ too
one_set (x ∷ sets) rising set other (inl same) (inr also) e =
    absurd (not_below (key_of x) (key_of other) (ap key_of same ∙ e)
    (in_all (λ later. key_cmp (key_of x) (key_of later) ≡ Less) sets other rising.0 also))
one_set (x ∷ sets) rising set other (inr there) (inl too) e =
    absurd (not_below (key_of x) (key_of set) (ap key_of too ∙ sym e)
    (in_all (λ later. key_cmp (key_of x) (key_of later) ≡ Less) sets set rising.0 there))
one_set (x ∷ sets) rising set other (inr there) (inr also) e =
    one_set sets rising.1 set other there also e

-- ---- one set after another

below_or_not : (a b : ℕ) → (a < b) ⊎ (b ≤ a)
below_or_not a zero = inr (omega arith)
below_or_not zero (suc b) = inl (omega arith)
below_or_not (suc a) (suc b) =
    elim (below_or_not a b) [ inl lt ↦ inl (omega (arith, lt)) | inr le ↦ inr (omega (arith, le)) ]

rising_drop : (sets : List RecordSet) (i : ℕ) → IsRising sets → IsRising (drop i sets)
rising_drop sets zero rising = rising
rising_drop [] (suc i) rising = rising
rising_drop (set ∷ sets) (suc i) rising = rising_drop sets i rising.1

-- What was found among some of the sets, and a place before which all other keys are below theirs.
pub record FoundSo (sets others : List RecordSet) (i place : ℕ)
    (found : List RecordSet) : Type 0 where
  pub missing : AreMissing (take i sets) others found
  pub passed : (k : ℕ) (other set : RecordSet) → k < place → slice_get others k ≡ Some other
      → IsAmong (drop i sets) set → key_cmp (key_of other) (key_of set) ≡ Less

pub found_none : (sets others : List RecordSet) → FoundSo sets others 0 0 []
found_none sets others = record {
  missing = refl;
  passed = λ k other set lt. absurd (omega (arith, lt));
}

module _ (sets others : List RecordSet) (rising : IsRising sets) (rising_too : IsRising others)
    (i from place : ℕ) (found : List RecordSet) (set : RecordSet)
    (so_far : FoundSo sets others i from found)
    (at : slice_get sets i ≡ Some set) (next : IsNextPlace others from set place) where
  below_it : (k : ℕ) (other : RecordSet) → k < place → slice_get others k ≡ Some other
      → key_cmp (key_of other) (key_of set) ≡ Less
  below_it k other lt at_k = elim (below_or_not k from) [
    | inl low ↦
        so_far.passed k other set low at_k
        (subst (λ s. IsAmong s set) (sym (left_at sets i set at)) (inl refl))
    | inr high ↦ next.below k other high lt at_k
  ]

  -- the set is among the others where it stands at the place
  pub is_among : slice_get others place ≡ Some set → IsAmong others set
  is_among there = among_at others place set there

  pub is_not : (slice_get others place ≡ Some set → ⊥) → IsAmong others set → ⊥
  is_not absent there =
      let k = place_of others set there in
      by k.0 k.1 (below_or_not k.0 place) (below_or_not place k.0)
    where
      by : (k : ℕ) → slice_get others k ≡ Some set → (k < place) ⊎ (place ≤ k)
          → (place < k) ⊎ (k ≤ place) → ⊥
      by k at_k (inl lt) other = not_below (key_of set) (key_of set) refl (below_it k set lt at_k)
      by k at_k (inr le) (inl lt) =
          let inside : place < length others =
          (let w = slice_get_within others k set at_k in omega (arith, w, lt)) in
          let z = filled others place inside in
          next.here z.0 z.1 (rising_at others place k z.0 set rising_too lt z.1 at_k)
      by k at_k (inr le) (inr ge) =
          let same : k ≡ place = omega (arith, le, ge) in
          absent (subst (λ n. slice_get others n ≡ Some set) same at_k)

  ahead : (later : RecordSet) → IsAmong (drop (i + 1) sets) later
      → key_cmp (key_of set) (key_of later) ≡ Less
  ahead later there =
      let front : IsRising (drop i sets) = rising_drop sets i rising in
      let all : IsRising (set ∷ drop (i + 1) sets) =
      subst IsRising (left_at sets i set at) front in
      in_all (λ s. key_cmp (key_of set) (key_of s) ≡ Less) (drop (i + 1) sets) later all.0 there

  passed_too : (k : ℕ) (other later : RecordSet) → k < place → slice_get others k ≡ Some other
      → IsAmong (drop (i + 1) sets) later → key_cmp (key_of other) (key_of later) ≡ Less
  passed_too k other later lt at_k there =
      keys_total.trans (key_of other) (key_of set) (key_of later) (below_it k other lt at_k)
      (ahead later there)

  -- the set stands at the place: all behind it are behind the place too
  pub found_past : slice_get others place ≡ Some set → FoundSo sets others (i + 1) (place + 1) found
  found_past there = record {
    missing = subst (λ s. AreMissing s others found) (sym (take_more sets i set at))
        (missing_same others (take i sets) found set so_far.missing (is_among there));
    passed = λ k other later lt at_k among. elim (below_or_not k place) [
      | inl low ↦ passed_too k other later low at_k among
      | inr le ↦
          (let same : k ≡ place = omega (arith, lt, le) in
          let at_place = subst (λ n. slice_get others n ≡ Some other) same at_k in
          let one : set ≡ other = at_one others place set other there at_place in
          subst (λ s. key_cmp (key_of s) (key_of later) ≡ Less) one (ahead later among))
    ];
  }

  pub found_same : IsAmong others set → FoundSo sets others (i + 1) place found
  found_same there = record {
    missing = subst (λ s. AreMissing s others found) (sym (take_more sets i set at))
        (missing_same others (take i sets) found set so_far.missing there);
    passed = passed_too;
  }

  pub found_new : (IsAmong others set → ⊥) → FoundSo sets others (i + 1) place (found ++ set ∷ [])
  found_new none = record {
    missing = subst (λ s. AreMissing s others (found ++ set ∷ [])) (sym (take_more sets i set at))
        (missing_new others (take i sets) found set so_far.missing none);
    passed = passed_too;
  }

pub found_all : (sets others : List RecordSet) (i place : ℕ) (found : List RecordSet)
    → length sets ≤ i → FoundSo sets others i place found → AreMissing sets others found
found_all sets others i place found past so_far =
    subst (λ s. AreMissing s others found) (take_all i sets past) so_far.missing

-- keys of one set more
pub keys_more : (sets : List RecordSet) (set : RecordSet)
    → map key_of (sets ++ set ∷ []) ≡ map key_of sets ++ key_of set ∷ []
keys_more [] set = refl
keys_more (x ∷ sets) set = ap (λ (ks : List SetKey). key_of x ∷ ks) (keys_more sets set)

-- ---- the next place

pub next_more : (others : List RecordSet) (set : RecordSet) (from place : ℕ) (x : RecordSet)
    → ((k : ℕ) (other : RecordSet) → from ≤ k → k < place → slice_get others k ≡ Some other
    → key_cmp (key_of other) (key_of set) ≡ Less)
    → slice_get others place ≡ Some x → key_cmp (key_of x) (key_of set) ≡ Less
    → (k : ℕ) (other : RecordSet) → from ≤ k → k < place + 1 → slice_get others k ≡ Some other
    → key_cmp (key_of other) (key_of set) ≡ Less
next_more others set from place x so_far there less k other low high at_k =
    elim (below_or_not k place) [
      | inl lt ↦ so_far k other low lt at_k
      | inr le ↦
          (let same : k ≡ place = omega (arith, le, high) in
          let at_place = subst (λ n. slice_get others n ≡ Some other) same at_k in
          let one : x ≡ other = at_one others place x other there at_place in
          subst (λ s. key_cmp (key_of s) (key_of set) ≡ Less) one less)
    ]

pub next_at_end : (others : List RecordSet) (set : RecordSet) (from place : ℕ)
    → from ≤ length others
    → length others ≤ place
    → ((k : ℕ) (other : RecordSet) → from ≤ k → k < place → slice_get others k ≡ Some other
    → key_cmp (key_of other) (key_of set) ≡ Less)
    → IsNextPlace others from set (length others)
next_at_end others set from place within past so_far = record {
  order = within;
  below = λ k other low high at_k. so_far k other low (omega (arith, high, past)) at_k;
  here = λ other at_end.
      let inside = slice_get_within others (length others) other at_end in
      absurd (omega (arith, inside));
}

pub next_here : (others : List RecordSet) (set : RecordSet) (from place : ℕ) (x : RecordSet)
    → from ≤ place → slice_get others place ≡ Some x
    → (key_cmp (key_of x) (key_of set) ≡ Less → ⊥)
    → ((k : ℕ) (other : RecordSet) → from ≤ k → k < place → slice_get others k ≡ Some other
    → key_cmp (key_of other) (key_of set) ≡ Less)
    → IsNextPlace others from set place
next_here others set from place x order there not_less so_far = record {
  order = order;
  below = so_far;
  here = λ other at_k less.
      not_less (subst (λ s. key_cmp (key_of s) (key_of set) ≡ Less)
      (at_one others place other x at_k there) less);
}

-- sets that pass a test are in zone order too
pub rising_filtered : (f : RecordSet → Bool) (sets : List RecordSet) → IsRising sets
    → IsRising (filter f sets)
rising_filtered f [] rising = rising
rising_filtered f (set ∷ sets) rising = by (rising_filtered f sets rising.1) (f set)
  where
    by : IsRising (filter f sets) → (b : Bool)
        → IsRising (cond b (set ∷ filter f sets) (filter f sets))
    by rest true = (
      all_in (λ later. key_cmp (key_of set) (key_of later) ≡ Less) (filter f sets)
          (λ later there. in_all (λ later. key_cmp (key_of set) (key_of later)
          ≡ Less) sets later rising.0
          (of_filter f sets later there).0),
      rest,
    )
    by rest false = rest

-- ---- one step

-- the set at a place is no set below it
pub next_itself : (others : List RecordSet) (set : RecordSet) (from : ℕ)
    → slice_get others from ≡ Some set → IsNextPlace others from set from
next_itself others set from there =
    next_here others set from from set (omega arith) there
    (not_below (key_of set) (key_of set) refl) (λ k other low high. absurd (omega (arith, low, high)))

module _ (sets others : List RecordSet) (rising : IsRising sets) (rising_too : IsRising others)
    (i from next : ℕ) (set : RecordSet) (at : slice_get sets i ≡ Some set) where
  pub step_sets : (found more : List RecordSet) → FoundSo sets others i from found
      → AddsSet others from set next found more → FoundSo sets others (i + 1) next more
  step_sets found more so_far (inl (is, same)) =
      subst (λ f. FoundSo sets others (i + 1) next f) (sym same)
      (subst (λ n. FoundSo sets others (i + 1) n found) (sym is.behind)
      (found_past sets others rising rising_too i from is.place found set so_far at is.first is.there))
  step_sets found more so_far (inr (is, new)) =
      subst (λ f. FoundSo sets others (i + 1) next f) (sym new)
      (found_new sets others rising rising_too i from next found set so_far at is.first
      (is_not sets others rising rising_too i from next found set so_far at is.first is.absent))

  -- the same, told by keys
  pub step_keys : (keys more : List SetKey)
      → ((gone : List RecordSet) × FoundSo sets others i from gone × (keys ≡ map key_of gone))
      → AddsKey others from set next keys more
      → (gone : List RecordSet) × FoundSo sets others (i + 1) next gone × (more ≡ map key_of gone)
  step_keys keys more so_far (inl (is, same)) = (
    so_far.0,
    step_sets so_far.0 so_far.0 so_far.1 (inl (is, refl)),
    same ∙ so_far.2,
  )
  step_keys keys more so_far (inr (is, new)) = (
    so_far.0 ++ set ∷ [],
    step_sets so_far.0 (so_far.0 ++ set ∷ []) so_far.1 (inr (is, refl)),
    new ∙ ap (λ ks. ks ++ key_of set ∷ []) so_far.2 ∙ sym (keys_more so_far.0 set),
  )
