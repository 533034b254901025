-- The sets of a zone stay those of a zone where one is placed among them, or taken away.
use Rattle.std.proofs.Common.{◌≡◌, ℕ, List, [], ◌∷◌, ◌++◌, ap, ◌∙◌, refl, Bool, true, false, Less, Equal, Greater, arith, cond}
use Rattle.std.specs.List.{AllByRecursion, filter}
use Rattle.std.specs.declared.cmp.Ordering.{Ordering}
use Rattle.std.specs.Ordering.{ordering_reverse, is_gt, is_lt}
use Rattle.record_set.specs.Suffix.{EndsWith}
use Rattle.record_set.specs.declared.sets.RecordSet.{RecordSet}
use Rattle.record_set.specs.Sets.{key_of}
use Rattle.zone_model.specs.Keys.{key_cmp}
use Rattle.zone_model.specs.Placing.{comes_before, comes_behind, placed, without}
use Rattle.zone_model.specs.Zones.{IsRising, IsZone}
use Rattle.zone_model.proofs.Ordered.{keys_total}

pub less : (o : Ordering) → is_lt o ≡ true → o ≡ Less
less Less e = refl
less Equal e = absurd (grind (arith, e))
less Greater e = absurd (grind (arith, e))

pub greater : (o : Ordering) → is_gt o ≡ true → o ≡ Greater
greater Less e = absurd (grind (arith, e))
greater Equal e = absurd (grind (arith, e))
greater Greater e = refl

module _ {X : Type 0} where
  all_filtered : (P : X → Type 0) (p : X → Bool) (xs : List X) → AllByRecursion P xs
      → AllByRecursion P (filter p xs)
  all_filtered P p [] all = all
  all_filtered P p (x ∷ xs) all = by (p x) (all_filtered P p xs all.1)
    where
      by : (b : Bool) → AllByRecursion P (filter p xs)
          → AllByRecursion P (cond b (x ∷ filter p xs) (filter p xs))
      by true rest = (all.0, rest)
      by false rest = rest

  all_pass : (p : X → Bool) (xs : List X) → AllByRecursion (λ x. p x ≡ true) (filter p xs)
  all_pass p [] = tt
  all_pass p (x ∷ xs) = by (p x) refl (all_pass p xs)
    where
      by : (b : Bool) → p x ≡ b → AllByRecursion (λ y. p y ≡ true) (filter p xs)
          → AllByRecursion (λ y. p y ≡ true) (cond b (x ∷ filter p xs) (filter p xs))
      by true e rest = (e, rest)
      by false e rest = rest

  all_append : (P : X → Type 0) (xs ys : List X) → AllByRecursion P xs → AllByRecursion P ys
      → AllByRecursion P (xs ++ ys)
  all_append P [] ys h k = k
  all_append P (x ∷ xs) ys h k = (h.0, all_append P xs ys h.1 k)

  all_so : (P Q : X → Type 0) (xs : List X) → ((x : X) → P x → Q x) → AllByRecursion P xs
      → AllByRecursion Q xs
  all_so P Q [] f h = tt
  all_so P Q (x ∷ xs) f h = (f x h.0, all_so P Q xs f h.1)

-- the key of the one comes before that of the other
abbrev pub IsLess : RecordSet → RecordSet → Type 0
IsLess x y = key_cmp (key_of x) (key_of y) ≡ Less

chain : (x y z : RecordSet) → IsLess x y → IsLess y z → IsLess x z
chain x y z h k = keys_total.trans (key_of x) (key_of y) (key_of z) h k

rising_filtered : (p : RecordSet → Bool) (sets : List RecordSet) → IsRising sets
    → IsRising (filter p sets)
rising_filtered p [] rising = rising
rising_filtered p (set ∷ sets) rising = by (p set) (rising_filtered p sets rising.1)
  where
    by : (b : Bool) → IsRising (filter p sets)
        → IsRising (cond b (set ∷ filter p sets) (filter p sets))
    by true rest = (all_filtered (IsLess set) p sets rising.0, rest)
    by false rest = rest

rising_append : (sets others : List RecordSet) → IsRising sets → IsRising others
    → AllByRecursion (λ set. AllByRecursion (IsLess set) others) sets
    → IsRising (sets ++ others)
rising_append [] others rising more below = more
rising_append (set ∷ sets) others rising more below = (
  all_append (IsLess set) sets others rising.0 below.0,
  rising_append sets others rising.1 more below.1,
)

module _ (given : RecordSet) (sets : List RecordSet) where
  abbrev front : List RecordSet
  front = filter (comes_before (key_of given)) sets

  abbrev back : List RecordSet
  back = filter (comes_behind (key_of given)) sets

  front_below : AllByRecursion (λ set. IsLess set given) front
  front_below =
      all_so (λ set. comes_before (key_of given) set ≡ true) (λ set. IsLess set given) front
      (λ set e. less (key_cmp (key_of set) (key_of given)) e)
      (all_pass (comes_before (key_of given)) sets)

  back_above : AllByRecursion (IsLess given) back
  back_above =
      all_so (λ set. comes_behind (key_of given) set ≡ true) (IsLess given) back
      (λ set e. keys_total.antisymm (key_of given) (key_of set)
      ∙ ap ordering_reverse (greater (key_cmp (key_of set) (key_of given)) e))
      (all_pass (comes_behind (key_of given)) sets)

  front_below_back : AllByRecursion (λ set. AllByRecursion (IsLess set) back) front
  front_below_back =
      all_so (λ set. IsLess set given) (λ set. AllByRecursion (IsLess set) back) front
      (λ set h. all_so (IsLess given) (IsLess set) back (λ other k. chain set given other h k)
      back_above)
      front_below

  front_below_rest : AllByRecursion (λ set. AllByRecursion (IsLess set) (given ∷ back)) front
  front_below_rest =
      all_so (λ set. IsLess set given) (λ set. AllByRecursion (IsLess set) (given ∷ back)) front
      (λ set h. (
        h,
        all_so (IsLess given) (IsLess set) back (λ other k. chain set given other h k)
            back_above,
      ))
      front_below

  pub placed_rising : IsRising sets → IsRising (placed given sets)
  placed_rising rising =
      rising_append front (given ∷ back) (rising_filtered (comes_before (key_of given)) sets rising)
      (back_above, rising_filtered (comes_behind (key_of given)) sets rising) front_below_rest

  pub without_rising : IsRising sets → IsRising (without (key_of given) sets)
  without_rising rising =
      rising_append front back (rising_filtered (comes_before (key_of given)) sets rising)
      (rising_filtered (comes_behind (key_of given)) sets rising) front_below_back

  module _ (apex : List (List ℕ)) where
    pub placed_zone : EndsWith given.name apex → IsZone sets apex → IsZone (placed given sets) apex
    placed_zone inside zone = record {
      rising = placed_rising zone.rising;
      inside = all_append (λ set. EndsWith set.name apex) front (given ∷ back)
          (all_filtered (λ set. EndsWith set.name apex) (comes_before (key_of given)) sets
          zone.inside) (
            inside,
            all_filtered (λ set. EndsWith set.name apex) (comes_behind (key_of given)) sets
                zone.inside,
          );
    }

    pub without_zone : IsZone sets apex → IsZone (without (key_of given) sets) apex
    without_zone zone = record {
      rising = without_rising zone.rising;
      inside = all_append (λ set. EndsWith set.name apex) front back
          (all_filtered (λ set. EndsWith set.name apex) (comes_before (key_of given)) sets
          zone.inside)
          (all_filtered (λ set. EndsWith set.name apex) (comes_behind (key_of given)) sets
          zone.inside);
    }
