-- Sets of one name, read one after another from where they begin.
use Rattle.std.proofs.Common.{◌≡◌, ◌≢◌, ℕ, zero, suc, ◌<◌, ◌≤◌, ◌+◌, ◌-◌, List, [], ◌∷◌, ◌++◌}
use Rattle.std.proofs.Common.{length, take, drop, Bool, true, false, Some, refl, sym, ap, ◌∙◌}
use Rattle.std.proofs.Common.{subst, inl, inr, arith}
use Rattle.std.specs.Prelude.{◌⊎◌, slice_get, ◌||◌, ⊤}
use Rattle.std.specs.List.{AllByRecursion, filter}
use Rattle.std.proofs.lemmas.List.Elements.{filter-append}
use Rattle.std.proofs.lemmas.Option.{slice_get_within}
use Rattle.dns_name.specs.Order.{same_labels}
use Rattle.dns_name.specs.OrderLaws.{same_labels-Decides}
use Rattle.batch_model.specs.RecordSetRecord.{RecordSet}
use Rattle.zone_table.proofs.Lookups.{at_one, filled}
use Rattle.zone_table.specs.Sets.{IsAmong, IsRising}
use Rattle.zone_table.proofs.Places.{name_between}
use Rattle.batch_model.specs.declared.batches.Change.{Change}
use Rattle.batch_names.specs.Named.{named_in, names}
use Rattle.batch_names.specs.Starts.{IsNamed, IsNamedStart, IsStart, AppendsNamed}
use Rattle.batch_names.proofs.Filtered.{below_or_not, fails, passes}
use Rattle.batch_names.specs.Starts.{AppendsNamed}
use Rattle.zone_table.specs.Sets.{IsRising}
use Rattle.std.proofs.lemmas.Option.{slice_get_within}
use Rattle.zone_table.proofs.Places.{name_between}
use Rattle.zone_table.proofs.Lookups.{at_one, filled}
use Rattle.std.proofs.lemmas.List.Kept.{AllPairs-from_increasing}
use Rattle.zone_table.proofs.Lists.{split, take_more}
use Rattle.zone_table.proofs.Members.{in_all}
use Rattle.batch_names.specs.Starts.{AreRisingStarts, ReadsRun}
use Rattle.std.proofs.Common.{append-nil, append_assoc, slice_index_or, AllPairs}

-- ---- lists

module _ {X : Type 0} where
  pub got_of_take : (xs : List X) (n i : ℕ) (x : X) → slice_get (take n xs) i ≡ Some x
      → (i < n) × (slice_get xs i ≡ Some x)
  got_of_take xs zero i x e = absurd (grind (arith, e))
  got_of_take [] (suc n) i x e = absurd (grind (arith, e))
  got_of_take (y ∷ xs) (suc n) zero x e = (omega arith, e)
  got_of_take (y ∷ xs) (suc n) (suc i) x e =
      let rest = got_of_take xs n i x e in
      let lt = rest.0 in
      (omega (arith, lt), rest.1)

  pub got_of_drop : (xs : List X) (s i : ℕ) → slice_get (drop s xs) i ≡ slice_get xs (s + i)
  got_of_drop xs zero i =
      let none : i ≡ zero + i = omega arith in
      ap (λ (k : ℕ). slice_get xs k) none
  got_of_drop [] (suc s) i = refl
  got_of_drop (x ∷ xs) (suc s) i =
      let one : suc (s + i) ≡ suc s + i = omega arith in
      got_of_drop xs s i ∙ ap (λ (k : ℕ). slice_get (x ∷ xs) k) one

  taken_of_none : (n : ℕ) (xs : List X) → xs ≡ [] → take n xs ≡ []
  taken_of_none zero xs e = refl
  taken_of_none (suc n) xs e = ap (take (suc n)) e

  -- the elements in front of a place, and those up to another
  pub parted : (xs : List X) (s n : ℕ) → take (s + n) xs ≡ take s xs ++ take n (drop s xs)
  parted xs zero n = let none : zero + n ≡ n = omega arith in ap (λ k. take k xs) none
  parted [] (suc s) n = taken_of_none (suc s + n) [] refl ∙ sym (taken_of_none n [] refl)
  parted (x ∷ xs) (suc s) n =
      let one : suc s + n ≡ suc (s + n) = omega arith in
      ap (λ k. take k (x ∷ xs)) one ∙ ap (λ ys. x ∷ ys) (parted xs s n)

  pub parted_at : (xs : List X) (s e : ℕ) → s ≤ e → take e xs ≡ take s xs ++ take (e - s)
      (drop s xs)
  parted_at xs s e le =
      let whole : e ≡ s + (e - s) = omega (arith, le) in
      ap (λ k. take k xs) whole ∙ parted xs s (e - s)

  pub all_pass : (f : X → Bool) (xs : List X)
      → ((k : ℕ) (x : X) → slice_get xs k ≡ Some x → f x ≡ true) → filter f xs ≡ xs
  all_pass f [] each = refl
  all_pass f (x ∷ xs) each =
      passes f x xs (each zero x refl)
      ∙ ap (λ ys. x ∷ ys) (all_pass f xs (λ k y e. each (suc k) y e))

  pub none_pass : (f : X → Bool) (xs : List X)
      → ((k : ℕ) (x : X) → slice_get xs k ≡ Some x → f x ≡ false) → filter f xs ≡ []
  none_pass f [] each = refl
  none_pass f (x ∷ xs) each =
      fails f x xs (each zero x refl) ∙ none_pass f xs (λ k y e. each (suc k) y e)

-- ---- names

same_name : (name other : List (List ℕ)) → (name ≡ other) ⊎ (name ≢ other)
same_name name other = by (same_labels name other) refl
  where
    by : (b : Bool) → same_labels name other ≡ b → (name ≡ other) ⊎ (name ≢ other)
    by true e = inl ((same_labels-Decides name other).0 e)
    by false e =
        inr (λ same. let b = (same_labels-Decides name other).1 same in grind (arith, b, e))

pub is_named : (changes : List Change) (name : List (List ℕ)) → names changes name ≡ true
    → IsNamed changes name
is_named [] name e = absurd (grind (arith, e))
is_named (change ∷ changes) name e = by (same_labels change.set.name name) refl
    (is_named changes name) e
  where
    by : (b : Bool) → same_labels change.set.name name ≡ b
        → (names changes name ≡ true → IsNamed changes name)
        → (b || names changes name) ≡ true → IsNamed (change ∷ changes) name
    by true its rest e = (change, inl refl, (same_labels-Decides change.set.name name).0 its)
    by false its rest e = let more = rest e in (more.0, inr more.1, more.2)

pub named_is : (changes : List Change) (name : List (List ℕ)) → IsNamed changes name
    → names changes name ≡ true
named_is [] name named = absurd named.1
named_is (change ∷ changes) name (other, inl e, its) =
    ap (λ b. b || names changes name)
    ((same_labels-Decides change.set.name name).1 (ap (λ (c : Change). c.set.name) e ∙ its))
named_is (change ∷ changes) name (other, inr there, its) =
    ap (λ b. same_labels change.set.name name || b) (named_is changes name (other, there, its))
    ∙ or_true (same_labels change.set.name name)
  where
    or_true : (b : Bool) → (b || true) ≡ true
    or_true true = refl
    or_true false = refl

-- where the sets of a set's name begin
first_place : (sets : List RecordSet) (i : ℕ) (set : RecordSet) → slice_get sets i ≡ Some set
    → (at : ℕ) × IsStart sets set.name at × (at ≤ i)
first_place [] i set there = absurd (grind (arith, there))
first_place (first ∷ sets) zero set there =
    let e : first ≡ set = grind (arith, there) in (
      zero,
      record {
        set = first;
        there = refl;
        its_name = ap (λ (s : RecordSet). s.name) e;
        first = λ k other lt at_k. absurd (omega (arith, lt));
      },
      omega arith,
    )
first_place (first ∷ sets) (suc i) set there =
    by (same_name first.name set.name) (first_place sets i set there)
  where
    by : (first.name ≡ set.name) ⊎ (first.name ≢ set.name)
        → (at : ℕ) × IsStart sets set.name at × (at ≤ i)
        → (at : ℕ) × IsStart (first ∷ sets) set.name at × (at ≤ suc i)
    by (inl e) rest = (
      zero,
      record {
        set = first;
        there = refl;
        its_name = e;
        first = λ k other lt at_k. absurd (omega (arith, lt));
      },
      omega arith,
    )
    by (inr differs) (at, s, le) = (
      suc at,
      record { set = s.set; there = s.there; its_name = s.its_name; first = before },
      omega (arith, le),
    )
      where
        before : (k : ℕ) (other : RecordSet) → k < suc at → slice_get (first ∷ sets) k ≡ Some other
            → other.name ≢ set.name
        before zero other lt at_k e =
            let same : first ≡ other = grind (arith, at_k) in
            differs (ap (λ (s : RecordSet). s.name) same ∙ e)
        before (suc k) other lt at_k e = s.first k other (omega (arith, lt)) at_k e

-- ---- runs

module _ (sets : List RecordSet) (changes : List Change) where
  -- Rising places, from which on sets are still to be read.
  abbrev pub AreLeft : (left : List ℕ) → Type 0
  AreLeft [] = ⊤
  AreLeft (start ∷ left) =
      IsNamedStart sets changes start × AllByRecursion (λ later. start < later) left × AreLeft left

  -- What was read: the sets of the changes' names in front of a place, at which a name begins.
  pub record HasRead (left : List ℕ) (found : List RecordSet) : Type 0 where
    pub end : ℕ
    pub within : end ≤ length sets
    pub read : found ≡ named_in changes (take end sets)
    pub apart : (i j : ℕ) (x y : RecordSet) → end ≤ i → j < end → slice_get sets i ≡ Some x
        → slice_get sets j ≡ Some y → y.name ≢ x.name
    pub rest : AreLeft left
    pub all : (at : ℕ) → IsNamedStart sets changes at → end ≤ at → IsAmong left at
    pub above : AllByRecursion (λ at. end ≤ at) left

  module _ (left : List ℕ) (found : List RecordSet) (so_far : HasRead left found) where
    -- the names of a set that is still to be read begins at a place that is left
    not_yet : (i : ℕ) (set : RecordSet) → so_far.end ≤ i → slice_get sets i ≡ Some set
        → names changes set.name ≡ true → (at : ℕ) × IsAmong left at × (at ≤ i)
    not_yet i set le there named =
        let first = first_place sets i set there in
        by first.0 first.1 first.2 (below_or_not first.0 so_far.end)
      where
        by : (at : ℕ) → IsStart sets set.name at → at ≤ i → (at < so_far.end) ⊎ (so_far.end ≤ at)
            → (at : ℕ) × IsAmong left at × (at ≤ i)
        by at s low (inl lt) = absurd (so_far.apart i at set s.set le lt there s.there s.its_name)
        by at s low (inr ge) =
            (at, so_far.all at (set.name, is_named changes set.name named, s) ge, low)

    -- where no set of the names stands between two places
    none_between : (more : List RecordSet) (shift : (k : ℕ) (x : RecordSet) → slice_get more k
        ≡ Some x
        → slice_get sets (so_far.end + k) ≡ Some x)
        → ((k : ℕ) (x : RecordSet) → slice_get more k ≡ Some x → (at : ℕ) → IsAmong left at
        → at ≤ so_far.end + k → ⊥)
        → named_in changes more ≡ []
    none_between more shift none =
        none_pass (λ (set : RecordSet). names changes set.name) more
        (λ k x at_k. by k x at_k (names changes x.name) refl)
      where
        by : (k : ℕ) (x : RecordSet) → slice_get more k ≡ Some x → (b : Bool)
            → names changes x.name ≡ b → names changes x.name ≡ false
        by k x at_k true named =
            let waits = not_yet (so_far.end + k) x (omega arith) (shift k x at_k) named in
            absurd (none k x at_k waits.0 waits.1 waits.2)
        by k x at_k false named = named

  -- nothing is left
  pub all_read : (found : List RecordSet) → HasRead [] found → found ≡ named_in changes sets
  all_read found so_far =
      let end = so_far.end in
      so_far.read
      ∙ sym (append-nil (named_in changes (take end sets)))
      ∙ ap (λ (s : List RecordSet). named_in changes (take end sets) ++ s)
      (sym (none_between [] found so_far (drop end sets)
      (λ k x at_k. sym (got_of_drop sets end k) ∙ at_k) (λ k x at_k at there le. there)))
      ∙ sym (filter-append (λ (set : RecordSet). names changes set.name) (take end sets)
      (drop end sets))
      ∙ ap (named_in changes) (sym (split end sets))

  least : (start : ℕ) (left : List ℕ) → AllByRecursion (λ later. start < later) left → (at : ℕ)
      → IsAmong (start ∷ left) at → start ≤ at
  least start left all at (inl e) = omega (arith, e)
  least start left all at (inr there) =
      let lt = in_all (λ later. start < later) left at all there in omega (arith, lt)

  module _ (rising : IsRising sets) (start : ℕ) (left : List ℕ) (found more : List RecordSet)
      (so_far : HasRead (start ∷ left) found) (name : List (List ℕ)) (s : IsStart sets name start)
      (named : IsNamed changes name) (r : AppendsNamed sets s.set.name start found more) where
    abbrev reached : ℕ
    reached = r.end

    begun : start < reached
    begun = elim (below_or_not start reached) [
      | inl lt ↦ lt
      | inr le ↦
          (let low = r.run.order in
          let same : start ≡ reached = omega (arith, le, low) in
          absurd (r.run.ends s.set (subst (λ k. slice_get sets k ≡ Some s.set) same s.there) refl))
    ]

    gap_is_empty : named_in changes (take (start - so_far.end) (drop so_far.end sets)) ≡ []
    gap_is_empty =
        none_between (start ∷ left) found so_far (take (start - so_far.end) (drop so_far.end sets))
        (λ k x at_k. sym (got_of_drop sets so_far.end k)
        ∙ (got_of_take (drop so_far.end sets) (start - so_far.end) k x at_k).1)
        (λ k x at_k at there le.
        let inside = (got_of_take (drop so_far.end sets) (start - so_far.end) k x at_k).0 in
        let low = least start left so_far.rest.1 at there in
        omega (arith, inside, low, le))

    run_is_named : named_in changes (take (reached - start) (drop start sets))
        ≡ take (reached - start) (drop start sets)
    run_is_named =
        all_pass (λ (set : RecordSet). names changes set.name) (take (reached - start)
        (drop start sets))
        (λ k x at_k.
        let got = got_of_take (drop start sets) (reached - start) k x at_k in
        let inside = got.0 in
        let its =
        r.run.its (start + k) x (omega arith) (omega (arith, inside))
        (sym (got_of_drop sets start k) ∙ got.1) in
        named_is changes x.name
        (named.0, named.1, named.2 ∙ sym s.its_name ∙ sym its))

    up_to_start : found ≡ named_in changes (take start sets)
    up_to_start =
        so_far.read
        ∙ sym (append-nil (named_in changes (take so_far.end sets)))
        ∙ ap (λ (x : List RecordSet). named_in changes (take so_far.end sets) ++ x)
        (sym gap_is_empty)
        ∙ sym (filter-append (λ (set : RecordSet). names changes set.name) (take so_far.end sets)
        (take (start - so_far.end) (drop so_far.end sets)))
        ∙ ap (named_in changes) (sym (parted_at sets so_far.end start so_far.above.0))

    up_to_there : more ≡ named_in changes (take reached sets)
    up_to_there =
        r.added
        ∙ ap (λ (x : List RecordSet). x ++ take (reached - start) (drop start sets)) up_to_start
        ∙ ap (λ (x : List RecordSet). named_in changes (take start sets) ++ x) (sym run_is_named)
        ∙ sym (filter-append (λ (set : RecordSet). names changes set.name) (take start sets)
        (take (reached - start) (drop start sets)))
        ∙ ap (named_in changes) (sym (parted_at sets start reached r.run.order))

    apart : (i j : ℕ) (x y : RecordSet) → reached ≤ i → j < reached → slice_get sets i ≡ Some x
        → slice_get sets j ≡ Some y → y.name ≢ x.name
    apart i j x y high low at_i at_j e = by (below_or_not j start)
      where
        by : (j < start) ⊎ (start ≤ j) → ⊥
        by (inl lt) =
            let order = r.run.order in
            let between =
            name_between sets j start i y s.set x rising (omega (arith, lt))
            (omega (arith, order, high)) at_j s.there at_i e in
            s.first j y lt at_j (e ∙ sym between ∙ s.its_name)
        by (inr le) =
            let its = r.run.its j y le low at_j in
            let inside = slice_get_within sets i x at_i in
            let z = filled sets reached (omega (arith, inside, high)) in
            let between =
            name_between sets j reached i y z.0 x rising (omega
            (arith, low)) high at_j z.1 at_i e in
            r.run.ends z.0 z.1 (between ∙ sym e ∙ its)

    above_there : (rest : List ℕ) → AllByRecursion (λ later. start < later) rest → AreLeft rest
        → AllByRecursion (λ at. reached ≤ at) rest
    above_there [] later are = tt
    above_there (at ∷ rest) later are = (
      by are.0 (below_or_not at reached),
      above_there rest later.1 are.2,
    )
      where
        by : IsNamedStart sets changes at → (at < reached) ⊎ (reached ≤ at) → reached ≤ at
        by (other, other_named, t) (inl lt) =
            let after = later.0 in
            let its = r.run.its at t.set (omega (arith, after)) lt t.there in
            absurd (t.first start s.set after s.there (sym its ∙ t.its_name))
        by (other, other_named, t) (inr ge) = ge

    still_all : (at : ℕ) → IsNamedStart sets changes at → reached ≤ at → IsAmong left at
    still_all at is high =
        let low = so_far.above.0 in
        let first = begun in
        elim (so_far.all at is (omega (arith, low, first, high))) [
          | inl e ↦ absurd (omega (arith, e, first, high))
          | inr there ↦ there
        ]

    pub has_more : HasRead left more
    has_more = record {
      end = reached;
      within = r.run.within;
      read = up_to_there;
      apart = apart;
      rest = so_far.rest.2;
      all = still_all;
      above = above_there left so_far.rest.1 so_far.rest.2;
    }

-- one run more
pub run_more : (sets : List RecordSet) (changes : List Change) → IsRising sets → (start : ℕ)
    (left : List ℕ) (found more : List RecordSet) → HasRead sets changes (start ∷ left) found
    → ReadsRun sets start found more → HasRead sets changes left more
run_more sets changes rising start left found more so_far reads =
    let its = so_far.rest.0 in
    has_more sets changes rising start left found more so_far its.0 its.2 its.1
    (reads its.2.set its.2.there)

-- ---- the places at the beginning

all_by : (P : ℕ → Type 0) (xs : List ℕ) → ((k d : ℕ) → k < length xs → P (slice_index_or xs k d))
    → AllByRecursion P xs
all_by P [] each = tt
all_by P (x ∷ xs) each =
    (each zero zero (omega arith), all_by P xs (λ k d lt. each (suc k) d (omega (arith, lt))))

left_at_first : (sets : List RecordSet) (changes : List Change) (starts : List ℕ)
    → AllPairs (λ (x y : ℕ). x < y) starts
    → ((at : ℕ) → IsAmong starts at → IsNamedStart sets changes at) → AreLeft sets changes starts
left_at_first sets changes [] pairs each = tt
left_at_first sets changes (x ∷ xs) pairs each = (
  each x (inl refl),
  all_by (λ later. x < later) xs (λ k d lt. pairs zero (suc k) d (omega arith) (omega (arith, lt))),
  left_at_first sets changes xs
      (λ i j d lt within. pairs (suc i) (suc j) d (omega (arith, lt)) (omega (arith, within)))
      (λ at there. each at (inr there)),
)

pub none_read : (sets : List RecordSet) (changes : List Change) (starts : List ℕ)
    → AreRisingStarts sets changes starts → HasRead sets changes starts []
none_read sets changes starts are = record {
  end = zero;
  within = omega arith;
  read = refl;
  apart = λ i j x y high low at_i at_j. absurd (omega (arith, low));
  rest = left_at_first sets changes starts (AllPairs-from_increasing starts are.0) are.1.each;
  all = λ at is le. are.1.all at is;
  above = all_by (λ at. zero ≤ at) starts (λ k d lt. omega arith);
}

-- ---- one run

-- The sets of a name that were read so far, from a place up to another.
pub record ReadSo (sets : List RecordSet) (name : List (List ℕ)) (start : ℕ)
    (before : List RecordSet)
    (place : ℕ) (now : List RecordSet) : Type 0 where
  pub order : start ≤ place
  pub within : place ≤ length sets
  pub its : (k : ℕ) (set : RecordSet) → start ≤ k → k < place → slice_get sets k ≡ Some set
      → set.name ≡ name
  pub added : now ≡ before ++ take (place - start) (drop start sets)

pub so_begun : (sets : List RecordSet) (name : List (List ℕ)) (start : ℕ) (before : List RecordSet)
    → start ≤ length sets → ReadSo sets name start before start before
so_begun sets name start before le = record {
  order = omega arith;
  within = le;
  its = λ k set low high at_k. absurd (omega (arith, low, high));
  added = let none : zero ≡ start - start = omega arith in
      sym (append-nil before)
      ∙ ap (λ n. before ++ take n (drop start sets)) none;
}

pub so_more : (sets : List RecordSet) (name : List (List ℕ)) (start : ℕ) (before : List RecordSet)
    (place : ℕ) (now more : List RecordSet) (set : RecordSet)
    → ReadSo sets name start before place now
    → slice_get sets place ≡ Some set → set.name ≡ name → more ≡ now ++ set ∷ []
    → ReadSo sets name start before (place + 1) more
so_more sets name start before place now more set so_far there its_name e =
    let low = so_far.order in
    let inside = slice_get_within sets place set there in
    let here : start + (place - start) ≡ place = omega (arith, low) in
    let one : (place - start) + 1 ≡ place + 1 - start = omega (arith, low) in
    record {
      order = omega (arith, low);
      within = omega (arith, inside);
      its = its;
      added = e ∙ ap (λ (s : List RecordSet). s ++ set ∷ []) so_far.added
          ∙ append_assoc before (take (place - start) (drop start sets)) (set ∷ [])
          ∙ ap (λ (s : List RecordSet). before ++ s)
          (sym (take_more (drop start sets) (place - start) set
          (got_of_drop sets start (place - start) ∙ ap (λ k. slice_get sets k) here ∙ there))
          ∙ ap (λ k. take k (drop start sets)) one);
    }
  where
    its : (k : ℕ) (other : RecordSet) → start ≤ k → k < place + 1 → slice_get sets k ≡ Some other
        → other.name ≡ name
    its k other low high at_k = elim (below_or_not k place) [
      | inl lt ↦ so_far.its k other low lt at_k
      | inr le ↦
          (let same : k ≡ place = omega (arith, le, high) in
          let one = at_one sets place other set (subst (λ n. slice_get sets n
          ≡ Some other) same at_k) there in
          ap (λ (s : RecordSet). s.name) one ∙ its_name)
    ]

pub so_ends : (sets : List RecordSet) (name : List (List ℕ)) (start : ℕ) (before : List RecordSet)
    (place : ℕ) (now : List RecordSet) → ReadSo sets name start before place now
    → ((set : RecordSet) → slice_get sets place ≡ Some set → set.name ≢ name)
    → AppendsNamed sets name start before now
so_ends sets name start before place now so_far ends = record {
  end = place;
  run = record { order = so_far.order; within = so_far.within; its = so_far.its; ends = ends };
  added = so_far.added;
}
