-- The sets of a group, one more at a time.
use Rattle.std.proofs.Common.{◌≡◌, ◌<◌, ◌≤◌, ◌+◌, ℕ, zero, suc, Bool, true, false, List, [], ◌∷◌, ◌++◌, take, drop, arith, refl, ap, sym, ◌∙◌, ◌≢◌, inl, inr, Some, None, Option}
use Rattle.std.specs.Prelude.{if◌then◌else◌, slice_get}
use mathlib.Core.Path.{subst}
use Rattle.health_valves.specs.declared.blueprint.Feeding.{Feeding}
use Rattle.policy_select.specs.Groups.{members_of, sets_in, sets_in_zone}
use Rattle.rdata_layout.specs.declared.types.RType.{RType}
use Rattle.record_set.specs.declared.sets.Body.{Body}
use Rattle.record_set.specs.declared.sets.Body.TheVariants.{Alias, Values}
use Rattle.record_set.specs.declared.sets.RecordSet.{RecordSet}
use Rattle.policy_select.specs.Telling.{evaluates, target_in, target_of}
use Rattle.policy_select.specs.Zones.{Zone, placed_in}
use Rattle.policy_select.specs.SetRefRecord.{SetRef}
use Rattle.zone_model.proofs.Among.{among_at}
use Rattle.zone_model.specs.Slotted.{IsHere, Slotted}
use Rattle.zone_model.specs.Zones.{IsAmong, group}
use Rattle.policy_select.specs.Looking.{IsSetOfGroup, RefersTo}
use Rattle.policy_select.specs.GroupRecord.{Group}
use Rattle.health_planning.specs.Building.{links_to}
use Rattle.health_planning.specs.Wired.{AreMembers, check_or_none, valves_of, only_check, plain, plain_among, seat_of, with_valve}
use Rattle.health_planning.specs.declared.seats.Seat.{Seat}

got_of_take : {X : Type 0} (xs : List X) (n i : ℕ) → i < n → slice_get (take n xs) i ≡ slice_get xs i
got_of_take xs zero i within = absurd (omega (arith, within))
got_of_take [] (suc n) i within = refl
got_of_take (x ∷ xs) (suc n) zero within = refl
got_of_take (x ∷ xs) (suc n) (suc i) within = got_of_take xs n i (omega (arith, within))

got_of_drop : {X : Type 0} (xs : List X) (s i : ℕ) → slice_get (drop s xs) i ≡ slice_get xs (s + i)
got_of_drop xs zero i =
    let none : i ≡ zero + i = omega arith in
    ap (λ (k : ℕ). slice_get xs k) none
got_of_drop [] (suc s) i = refl
got_of_drop (x ∷ xs) (suc s) i =
    let one : suc (s + i) ≡ suc s + i = omega arith in
    got_of_drop xs s i ∙ ap (λ (k : ℕ). slice_get (x ∷ xs) k) one

-- the set that stands at a place of a group
pub record IsPlacedAt (zones : List Zone) (g : Group) (i : ℕ) (ref : SetRef) : Type 0 where
  pub p : Slotted
  pub at : slice_get (members_of zones g) i ≡ Some p
  pub slot : p.slot ≡ ref.slot
  pub names : RefersTo zones ref p.set

pub member_at : (zones : List Zone) (g : Group) (i : ℕ) (ref : SetRef) → i < g.length
    → IsSetOfGroup zones g i ref → IsPlacedAt zones g i ref
member_at zones g i ref within m = record {
  p = record { slot = ref.slot; set = m.slot.0 };
  at = got_of_take (drop g.start (placed_in zones g.zone)) g.length i within
      ∙ got_of_drop (placed_in zones g.zone) g.start i ∙ m.slot.1;
  slot = refl;
  names = subst (λ (z : ℕ). IsHere (placed_in zones z) (record { slot = ref.slot; set = m.slot.0 })) (sym m.zone)
      (among_at (placed_in zones g.zone) (g.start + i) (record { slot = ref.slot; set = m.slot.0 }) m.slot.1);
}

pub plain_more : (seats : List Seat) (xs : List Slotted) (p : Slotted)
    → plain_among seats (xs ++ p ∷ []) ≡ plain_among seats xs + plain (seat_of seats p.slot)
plain_more seats [] p = omega arith
plain_more seats (x ∷ xs) p = let r = plain_more seats xs p in omega arith

pub valves_more : (seats : List Seat) (xs : List Slotted) (p : Slotted)
    → valves_of seats (xs ++ p ∷ []) ≡ valves_of seats xs ++ with_valve (seat_of seats p.slot) []
valves_more seats [] p = refl
valves_more seats (x ∷ xs) p =
    step (seat_of seats x.slot) (valves_of seats (xs ++ p ∷ [])) (valves_of seats xs) (with_valve (seat_of seats p.slot) []) (valves_more seats xs p)
  where
    step : (seat : ℕ) (all front back : List ℕ) → all ≡ front ++ back
        → with_valve seat all ≡ with_valve seat front ++ back
    step zero all front back e = e
    step (suc valve) all front back e = ap (λ (l : List ℕ). valve ∷ l) e

pub links_more : (valve : ℕ) (xs ys : List ℕ)
    → links_to valve (xs ++ ys) ≡ links_to valve xs ++ links_to valve ys
links_more valve [] ys = refl
links_more valve (x ∷ xs) ys = ap (λ (l : List Feeding). record { feeder = x; fed = valve } ∷ l) (links_more valve xs ys)

pub plain_few : (seat : ℕ) → plain seat ≤ 1
plain_few zero = omega arith
plain_few (suc valve) = omega arith

-- ---- the sets of a group that was found

pub in_take : {X : Type 0} (n : ℕ) (xs : List X) (x : X) → IsAmong (take n xs) x → IsAmong xs x
in_take zero xs x m = absurd m
in_take (suc n) [] x m = absurd m
in_take (suc n) (y ∷ xs) x (inl is) = inl is
in_take (suc n) (y ∷ xs) x (inr m) = inr (in_take n xs x m)

pub in_drop : {X : Type 0} (n : ℕ) (xs : List X) (x : X) → IsAmong (drop n xs) x → IsAmong xs x
in_drop zero xs x m = m
in_drop (suc n) [] x m = absurd m
in_drop (suc n) (y ∷ xs) x m = inr (in_drop n xs x m)

pub members_are : (zones : List Zone) (g : Group) (zone : ℕ) (name : List (List ℕ)) (rtype : RType)
    → g.zone ≡ zone → sets_in zones g ≡ group (sets_in_zone zones zone) name rtype
    → AreMembers zones zone name rtype (members_of zones g)
members_are zones g zone name rtype its are = record {
  sets = are;
  here = λ p m. subst (λ (z : ℕ). IsHere (placed_in zones z) p) its
      (in_drop g.start (placed_in zones g.zone) p (in_take g.length (drop g.start (placed_in zones g.zone)) p m));
}

pub some_valve : (n : ℕ) → n ≢ 0 → (valve : ℕ) × (n ≡ suc valve)
some_valve zero some = absurd (some refl)
some_valve (suc valve) some = (valve, refl)

-- where the health of a target group counts, no check alone decides the set
pub alias_alone : (set : RecordSet) → evaluates set.body ≡ true → only_check set ≡ 0
alias_alone set on = rw on refl

-- and where one does, no target's health counts
pub alone_told : (set : RecordSet) → only_check set ≢ 0
    → (evaluates set.body ≡ false) × (set.check ≡ Some (only_check set))
alone_told set some = by (evaluates set.body) set.check some
  where
    by : (on : Bool) (check : Option ℕ) → (if on then 0 else check_or_none check) ≢ 0
        → (on ≡ false) × (check ≡ Some (if on then 0 else check_or_none check))
    by true check some = absurd (some refl)
    by false None some = absurd (some refl)
    by false (Some id) some = (refl, refl)

-- an alias whose target's health counts leads to the target that was told
pub leads_to : (set : RecordSet) (target : List (List ℕ) × RType) → evaluates set.body ≡ true
    → target_of set ≡ Some target
    → (set.body ≡ Alias target.0 true) × (set.rtype ≡ target.1)
leads_to set target on told = by set.body on told
  where
    some_same : {X : Type 0} {x y : X} → Some x ≡ Some y → x ≡ y
    some_same e = cc

    by : (its : Body) → evaluates its ≡ true → target_in set.rtype its ≡ Some target
        → (its ≡ Alias target.0 true) × (set.rtype ≡ target.1)
    by (Values ttl values) on told = let no : ⊥ = cc in absurd no
    by (Alias name evaluate) on told =
        let same : ◌≡◌ {A = List (List ℕ) × RType} (name, set.rtype) target = some_same told in (
          ap (λ (b : Bool). Alias name b) on ∙ ap (λ (t : List (List ℕ) × RType). Alias t.0 true) same,
          ap (λ (t : List (List ℕ) × RType). t.1) same,
        )

-- the target that was told is the alias's
pub told_target : (set : RecordSet) (name : List (List ℕ)) (target : List (List ℕ) × RType)
    → set.body ≡ Alias name true → target_of set ≡ Some target
    → (name ≡ target.0) × (set.rtype ≡ target.1)
told_target set name target is told =
    let e : Some (name, set.rtype) ≡ Some target = sym (ap (target_in set.rtype) is) ∙ told in
    let same : ◌≡◌ {A = List (List ℕ) × RType} (name, set.rtype) target = some_same e in
    (ap (λ (t : List (List ℕ) × RType). t.0) same, ap (λ (t : List (List ℕ) × RType). t.1) same)
  where
    some_same : {X : Type 0} {x y : X} → Some x ≡ Some y → x ≡ y
    some_same e = cc
