-- Which sets are among those of a zone.
use Rattle.std.proofs.Common.{◌≡◌, ◌≢◌, ℕ, zero, suc, ◌+◌, List, [], ◌∷◌, ◌++◌, ◌≤◌, ◌<◌, length, take, drop, ap, ◌∙◌, sym, refl, Some, Less, Equal, Greater, subst, arith, inl, inr}
use Rattle.std.specs.Prelude.{◌⊎◌, slice_get, ⊤}
use Rattle.std.specs.Ordering.{ordering_reverse}
use Rattle.std.specs.List.{AllByRecursion}
use Rattle.std.proofs.lemmas.Cmp.{tied_itself}
use Rattle.zone_changes.specs.RecordSetRecord.{RecordSet}
use Rattle.zone_changes.specs.SetKeyRecord.{SetKey}
use Rattle.zone_changes.specs.Sets.{key_of}
use Rattle.zone_changes.specs.Placing.{IsThere}
use Rattle.zone_changes.specs.Existing.{Exists}
use Rattle.zone_changes.specs.Keys.{key_cmp}
use Rattle.zone_changes.specs.Zones.{IsAmong, IsRising}
use Rattle.zone_changes.proofs.Ordered.{keys_total}
use Rattle.zone_changes.specs.Slotted.{Slotted, IsRemoved, sets_of}
use Rattle.zone_list.specs.Zones.{Zone, CanStand}
use Rattle.zone_changes.proofs.ListsOfZoneModel.{in_put, in_itself, in_taken, split_at}

module _ {X : Type 0} where
  pub put_or_in : (front back : List X) (x y : X) → IsAmong (front ++ x ∷ back) y
      → (x ≡ y) ⊎ IsAmong (front ++ back) y
  put_or_in [] back x y (inl e) = inl e
  put_or_in [] back x y (inr there) = inr there
  put_or_in (z ∷ front) back x y (inl e) = inr (inl e)
  put_or_in (z ∷ front) back x y (inr there) =
      elim (put_or_in front back x y there) [ inl e ↦ inl e | inr rest ↦ inr (inr rest) ]

  pub all_in : (P : X → Type 0) (xs : List X) → ((x : X) → IsAmong xs x → P x) → AllByRecursion P xs
  all_in P [] each = tt
  all_in P (x ∷ xs) each = (each x (inl refl), all_in P xs (λ y there. each y (inr there)))

  pub in_all : (P : X → Type 0) (xs : List X) (x : X) → AllByRecursion P xs → IsAmong xs x → P x
  in_all P [] x all there = absurd there
  in_all P (y ∷ xs) x all (inl e) = subst P e all.0
  in_all P (y ∷ xs) x all (inr there) = in_all P xs x all.1 there

-- some place of a list holds something
pub filled : {X : Type 0} (xs : List X) (k : ℕ) → k < length xs
    → (x : X) × (slice_get xs k ≡ Some x)
filled [] k lt = absurd (omega (arith, lt))
filled (x ∷ xs) zero lt = (x, refl)
filled (x ∷ xs) (suc k) lt = filled xs k (omega (arith, lt))

pub dropped_at : {X : Type 0} (xs : List X) (i : ℕ) (x : X) → slice_get xs i ≡ Some x
    → drop i xs ≡ x ∷ drop (suc i) xs
dropped_at [] i x e = absurd (grind (arith, e))
dropped_at (y ∷ xs) zero x e = ap (λ z. z ∷ xs) (grind (arith, e))
dropped_at (y ∷ xs) (suc i) x e = dropped_at xs i x e

-- what is left at a place
pub left_at : {X : Type 0} (xs : List X) (i : ℕ) (x : X) → slice_get xs i ≡ Some x
    → drop i xs ≡ x ∷ drop (i + 1) xs
left_at xs i x e =
    (let n : suc i ≡ i + 1 = omega arith in dropped_at xs i x e ∙ ap (λ k. x ∷ drop k xs) n)

pub nothing_left : {X : Type 0} (xs : List X) (i : ℕ) → length xs ≤ i → drop i xs ≡ []
nothing_left [] zero le = refl
nothing_left [] (suc i) le = refl
nothing_left (x ∷ xs) zero le = absurd (omega (arith, le))
nothing_left (x ∷ xs) (suc i) le = nothing_left xs i (omega (arith, le))

pub set_in : (placed : List Slotted) (p : Slotted) → IsAmong placed p → IsAmong (sets_of placed) p.set
set_in [] p there = absurd there
set_in (q ∷ placed) p (inl e) = inl (ap (λ (x : Slotted). x.set) e)
set_in (q ∷ placed) p (inr there) = inr (set_in placed p there)

pub placed_with : (placed : List Slotted) (set : RecordSet) → IsAmong (sets_of placed) set
    → (p : Slotted) × IsAmong placed p × (p.set ≡ set)
placed_with [] set there = absurd there
placed_with (q ∷ placed) set (inl e) = (q, inl refl, e)
placed_with (q ∷ placed) set (inr there) = let rest = placed_with placed set there in
    (rest.0, inr rest.1, rest.2)

pub there_by_key : (placed : List Slotted) (key : SetKey) → IsThere (sets_of placed) key
    → (p : Slotted) × IsAmong placed p × (key_of p.set ≡ key)
there_by_key placed key (kept, keeps) =
    let found = placed_with placed kept keeps.there in
    (found.0, found.1, ap key_of found.2 ∙ keeps.same_key)

pub key_is_there : (placed : List Slotted) (key : SetKey) (p : Slotted) → IsAmong placed p
    → key_of p.set ≡ key → IsThere (sets_of placed) key
key_is_there placed key p there same =
    (p.set, record { there = set_in placed p there; same_key = same })

-- a smaller key is another
other_key : (key other : SetKey) → key_cmp key other ≡ Less → key ≢ other
other_key key other less e =
    let tie : key_cmp key other ≡ Equal =
    subst (λ k. key_cmp key k ≡ Equal) e (tied_itself keys_total key) in
    grind (arith, less, tie)

-- In zone order no two sets have one key.
pub others_differ : (front back : List Slotted) (p : Slotted) → IsRising (sets_of (front ++ p ∷ back))
    → (q : Slotted) → IsAmong (front ++ back) q → key_of q.set ≢ key_of p.set
others_differ [] back p rising q there =
    let lower =
    in_all (λ later. key_cmp (key_of p.set) (key_of later) ≡ Less) (sets_of back) q.set rising.0
    (set_in back q there) in
    λ e. other_key (key_of p.set) (key_of q.set) lower (sym e)
others_differ (x ∷ front) back p rising q (inl e) =
    let lower =
    in_all (λ later. key_cmp (key_of x.set) (key_of later) ≡ Less) (sets_of (front ++ p ∷ back))
    p.set rising.0 (set_in (front ++ p ∷ back) p (in_itself front back p)) in
    λ f. other_key (key_of x.set) (key_of p.set) lower (ap (λ (y : Slotted). key_of y.set) e ∙ f)
others_differ (x ∷ front) back p rising q (inr there) = others_differ front back p rising.1 q there

pub one_of_key : (placed : List Slotted) → IsRising (sets_of placed) → (p q : Slotted)
    → IsAmong placed p → IsAmong placed q → key_of p.set ≡ key_of q.set → p ≡ q
one_of_key [] rising p q at_p at_q same = absurd at_p
one_of_key (x ∷ placed) rising p q (inl ep) (inl eq) same = sym ep ∙ eq
one_of_key (x ∷ placed) rising p q (inl ep) (inr at_q) same =
    absurd (others_differ [] placed x rising q at_q (sym same
    ∙ ap (λ (y : Slotted). key_of y.set) (sym ep)))
one_of_key (x ∷ placed) rising p q (inr at_p) (inl eq) same =
    absurd (others_differ [] placed x rising p at_p (same
    ∙ ap (λ (y : Slotted). key_of y.set) (sym eq)))
one_of_key (x ∷ placed) rising p q (inr at_p) (inr at_q) same =
    one_of_key placed rising.1 p q at_p at_q same

-- ---- lists in one order

-- Two lists in an order that goes one way are the same where they have the same elements.
module _ {X : Type 0} (R : X → X → Type 0) (one_way : (x y : X) → R x y → R y x → ⊥) where
  abbrev pub Sorted : List X → Type 0
  Sorted [] = ⊤
  Sorted (x ∷ xs) = AllByRecursion (R x) xs × Sorted xs

  first_same : (x y : X) (xs ys : List X) → AllByRecursion (R x) xs → AllByRecursion (R y) ys
      → IsAmong (y ∷ ys) x → IsAmong (x ∷ xs) y → x ≡ y
  first_same x y xs ys low_x low_y (inl e) at_y = sym e
  first_same x y xs ys low_x low_y (inr at_x) (inl e) = e
  first_same x y xs ys low_x low_y (inr at_x) (inr at_y) =
      absurd (one_way x y (in_all (R x) xs y low_x at_y) (in_all (R y) ys x low_y at_x))

  behind_first : (x : X) (xs ys : List X) → AllByRecursion (R x) xs
      → ((z : X) → IsAmong (x ∷ xs) z → IsAmong (x ∷ ys) z) → (z : X) → IsAmong xs z → IsAmong ys z
  behind_first x xs ys low each z there = elim (each z (inr there)) [
    | inl e ↦
        (let r : R x x = subst (λ v. R x v) (sym e) (in_all (R x) xs z low there) in
        absurd (one_way x x r r))
    | inr rest ↦ rest
  ]

  pub sorted_same : (xs ys : List X) → Sorted xs → Sorted ys
      → ((z : X) → IsAmong xs z → IsAmong ys z) → ((z : X) → IsAmong ys z → IsAmong xs z) → xs ≡ ys
  sorted_same [] [] low_x low_y to from = refl
  sorted_same [] (y ∷ ys) low_x low_y to from = absurd (from y (inl refl))
  sorted_same (x ∷ xs) [] low_x low_y to from = absurd (to x (inl refl))
  sorted_same (x ∷ xs) (y ∷ ys) low_x low_y to from =
      let e : x ≡ y = first_same x y xs ys low_x.0 low_y.0 (to x (inl refl)) (from y (inl refl)) in
      let low : AllByRecursion (R x) ys = subst (λ v. AllByRecursion (R v) ys) (sym e) low_y.0 in
      let there =
      behind_first x xs ys low_x.0 (λ z at. subst (λ v. IsAmong (v ∷ ys) z) (sym e) (to z at))
      in
      let here = behind_first x ys xs low (λ z at. from z (subst (λ v. IsAmong (v ∷ ys) z) e at)) in
      ap (λ v. v ∷ xs) e ∙ ap (λ vs. y ∷ vs) (sorted_same xs ys low_x.1 low_y.1 there here)

abbrev Lower : RecordSet → RecordSet → Type 0
Lower set later = key_cmp (key_of set) (key_of later) ≡ Less

lower_one_way : (set other : RecordSet) → Lower set other → Lower other set → ⊥
lower_one_way set other less more =
    let greater : key_cmp (key_of set) (key_of other) ≡ Greater =
    keys_total.antisymm (key_of set) (key_of other) ∙ ap ordering_reverse more in
    grind (arith, less, greater)

rising_sorted : (sets : List RecordSet) → IsRising sets → Sorted Lower lower_one_way sets
rising_sorted [] rising = tt
rising_sorted (set ∷ sets) rising = (rising.0, rising_sorted sets rising.1)

pub same_sets : (sets others : List RecordSet) → IsRising sets → IsRising others
    → ((set : RecordSet) → IsAmong sets set → IsAmong others set)
    → ((set : RecordSet) → IsAmong others set → IsAmong sets set) → sets ≡ others
same_sets sets others rising rising_too to from =
    sorted_same Lower lower_one_way sets others (rising_sorted sets rising)
    (rising_sorted others rising_too) to from

module _ (before after : List Slotted) (key : SetKey) (slot : ℕ) (rising : IsRising (sets_of before))
    (taken : IsRemoved before key slot after) where
  abbrev gone : Slotted
  gone = record { slot = slot; set = taken.taken.set }

  abbrev front : List Slotted
  front = take taken.at before

  abbrev back : List Slotted
  back = drop (suc taken.at) before

  whole : before ≡ front ++ gone ∷ back
  whole = split_at before taken.at gone taken.taken.there

  pub what_goes : (p : Slotted) × IsAmong before p × (key_of p.set ≡ key) × (p.slot ≡ slot)
  what_goes = (
    gone,
    subst (λ ps. IsAmong ps gone) (sym whole) (in_itself front back gone),
    taken.same_key,
    refl,
  )

  pub stays_taken : (p : Slotted) → IsAmong before p → key_of p.set ≢ key → IsAmong after p
  stays_taken p there other =
      subst (λ ps. IsAmong ps p) (sym taken.taken.removed)
      (in_taken front back gone p (λ e. other (ap (λ (x : Slotted). key_of x.set) (sym e)
      ∙ taken.same_key)) (subst (λ ps. IsAmong ps p) whole there))

  pub was_taken : (p : Slotted) → IsAmong after p → IsAmong before p × (key_of p.set ≢ key)
  was_taken p there =
      let still : IsAmong (front ++ back) p =
      subst (λ ps. IsAmong ps p) taken.taken.removed there in (
        subst (λ ps. IsAmong ps p) (sym whole) (in_put front back gone p still),
        (λ e. others_differ front back gone (subst (λ ps. IsRising (sets_of ps)) whole rising) p
            still (e ∙ sym taken.same_key)),
      )

-- where a zone has a set its apex exists
pub apex_exists : (zone : Zone) → (zone.placed ≡ [] → ⊥)
    → AllByRecursion (λ p. CanStand zone.apex p.set) zone.placed
    → Exists (sets_of zone.placed) zone.apex
apex_exists zone some each = by zone.placed some each
  where
    by : (placed : List Slotted) → (placed ≡ [] → ⊥)
        → AllByRecursion (λ p. CanStand zone.apex p.set) placed → Exists (sets_of placed) zone.apex
    by [] some each = absurd (some refl)
    by (p ∷ placed) some each = (p.set, inl refl, each.0.inside)
