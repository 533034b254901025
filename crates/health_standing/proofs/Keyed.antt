-- Sets of a zone by their keys and slots: lists that have the same are alike to valves.
use Rattle.std.proofs.Common.{◌≡◌, ℕ, Bool, true, false, cond, List, [], ◌∷◌, map, arith, refl, ap, sym, ◌∙◌, inl, inr, Some, Less, Greater}
use Rattle.std.specs.List.{AllByRecursion, filter}
use Rattle.std.specs.Ordering.{ordering_reverse}
use mathlib.Core.Path.{subst}
use Rattle.rdata_layout.specs.declared.types.RType.{RType}
use Rattle.record_set.specs.Sets.{key_of}
use Rattle.record_set.specs.declared.sets.RecordSet.{RecordSet}
use Rattle.record_set.specs.declared.sets.SetKey.{SetKey}
use Rattle.health_planning.proofs.MembersOfZoneList.{Sorted, sorted_same}
use Rattle.zone_model.proofs.Ordered.{keys_total}
use Rattle.zone_model.specs.Keys.{key_cmp}
use Rattle.zone_model.specs.Slotted.{Slotted, sets_of}
use Rattle.zone_model.specs.Zones.{IsAmong, IsRising, group, is_of_group}
use Rattle.health_planning.specs.Wired.{IsFirstIn, valves_of, plain, plain_among, seat_of, with_valve}
use Rattle.health_planning.specs.declared.seats.Seat.{Seat}

some_same : {X : Type 0} {x y : X} → Some x ≡ Some y → x ≡ y
some_same e = cc

heads : {X : Type 0} {x y : X} {xs ys : List X} → x ∷ xs ≡ y ∷ ys → x ≡ y
heads e = cc

tails : {X : Type 0} {x y : X} {xs ys : List X} → x ∷ xs ≡ y ∷ ys → xs ≡ ys
tails e = cc

abbrev pub its : Slotted → SetKey × ℕ
its p = (key_of p.set, p.slot)

abbrev pub keyed : List Slotted → List (SetKey × ℕ)
keyed placed = map its placed

pub its_same : (p q : Slotted) → key_of p.set ≡ key_of q.set → p.slot ≡ q.slot → its p ≡ its q
its_same p q keys slots = pair keys slots
  where
    pair : {a b : SetKey} {m n : ℕ} → a ≡ b → m ≡ n → ◌≡◌ {A = SetKey × ℕ} (a, m) (b, n)
    pair e f = cc

-- ---- in zone order

abbrev Rises : SetKey × ℕ → SetKey × ℕ → Type 0
Rises a b = key_cmp a.0 b.0 ≡ Less

one_way : (a b : SetKey × ℕ) → Rises a b → Rises b a → ⊥
one_way a b less more =
    let greater : key_cmp a.0 b.0 ≡ Greater = keys_total.antisymm a.0 b.0 ∙ ap ordering_reverse more in
    grind (arith, less, greater)

all_keyed : (key : SetKey) (slot : ℕ) (placed : List Slotted)
    → AllByRecursion (λ later. key_cmp key (key_of later) ≡ Less) (sets_of placed)
    → AllByRecursion (Rises (key, slot)) (keyed placed)
all_keyed key slot [] all = tt
all_keyed key slot (p ∷ placed) all = (all.0, all_keyed key slot placed all.1)

keyed_sorted : (placed : List Slotted) → IsRising (sets_of placed)
    → Sorted Rises one_way (keyed placed)
keyed_sorted [] rising = tt
keyed_sorted (p ∷ placed) rising =
    (all_keyed (key_of p.set) p.slot placed rising.0, keyed_sorted placed rising.1)

in_keyed : (placed : List Slotted) (p : Slotted) → IsAmong placed p → IsAmong (keyed placed) (its p)
in_keyed [] p m = absurd m
in_keyed (q ∷ placed) p (inl is) = inl (ap its is)
in_keyed (q ∷ placed) p (inr m) = inr (in_keyed placed p m)

from_keyed : (placed : List Slotted) (k : SetKey × ℕ) → IsAmong (keyed placed) k
    → (p : Slotted) × IsAmong placed p × (its p ≡ k)
from_keyed [] k m = absurd m
from_keyed (q ∷ placed) k (inl is) = (q, inl refl, is)
from_keyed (q ∷ placed) k (inr m) = let r = from_keyed placed k m in (r.0, inr r.1, r.2)

-- one of some sets has this one's key and slot
abbrev pub HasIts : List Slotted → Slotted → Type 0
HasIts placed p = (q : Slotted) × IsAmong placed q × (its q ≡ its p)

pub keyed_same : (xs ys : List Slotted) → IsRising (sets_of xs) → IsRising (sets_of ys)
    → ((p : Slotted) → IsAmong xs p → HasIts ys p) → ((p : Slotted) → IsAmong ys p → HasIts xs p)
    → keyed xs ≡ keyed ys
keyed_same xs ys rising rising_too to from =
    sorted_same Rises one_way (keyed xs) (keyed ys) (keyed_sorted xs rising) (keyed_sorted ys rising_too)
    (λ k m.
    let p = from_keyed xs k m in
    let q = to p.0 p.1 in
    subst (IsAmong (keyed ys)) (q.2 ∙ p.2) (in_keyed ys q.0 q.1))
    (λ k m.
    let p = from_keyed ys k m in
    let q = from p.0 p.1 in
    subst (IsAmong (keyed xs)) (q.2 ∙ p.2) (in_keyed xs q.0 q.1))

-- each set of one list has another in the other
pub other_of : (xs ys : List Slotted) → keyed xs ≡ keyed ys → (p : Slotted) → IsAmong ys p → HasIts xs p
other_of xs ys same p m = from_keyed xs (its p) (subst (λ (l : List (SetKey × ℕ)). IsAmong l (its p)) (sym same) (in_keyed ys p m))

-- ---- groups

module _ (name : List (List ℕ)) (rtype : RType) where
  abbrev pub grouped : List Slotted → List Slotted
  grouped placed = filter (λ (p : Slotted). is_of_group name rtype p.set) placed

  pub grouped_sets : (placed : List Slotted)
      → sets_of (grouped placed) ≡ group (sets_of placed) name rtype
  grouped_sets [] = refl
  grouped_sets (p ∷ placed) = by (is_of_group name rtype p.set) (grouped_sets placed)
    where
      by : (b : Bool) → sets_of (grouped placed) ≡ group (sets_of placed) name rtype
          → sets_of (cond b (p ∷ grouped placed) (grouped placed))
          ≡ cond b (p.set ∷ group (sets_of placed) name rtype) (group (sets_of placed) name rtype)
      by true e = ap (λ (l : List RecordSet). p.set ∷ l) e
      by false e = e

-- ---- valves by slots

module _ (seats : List Seat) where
  pub valves_by_slots : (xs ys : List Slotted) → keyed xs ≡ keyed ys
      → valves_of seats xs ≡ valves_of seats ys
  valves_by_slots [] [] e = refl
  valves_by_slots [] (y ∷ ys) e = let no : ⊥ = cc in absurd no
  valves_by_slots (x ∷ xs) [] e = let no : ⊥ = cc in absurd no
  valves_by_slots (x ∷ xs) (y ∷ ys) e =
      let slot : x.slot ≡ y.slot = ap (λ (k : SetKey × ℕ). k.1) (heads e) in
      ap (λ (n : ℕ). with_valve (seat_of seats n) (valves_of seats xs)) slot
      ∙ ap (with_valve (seat_of seats y.slot)) (valves_by_slots xs ys (tails e))

  pub plain_by_slots : (xs ys : List Slotted) → keyed xs ≡ keyed ys
      → plain_among seats xs ≡ plain_among seats ys
  plain_by_slots [] [] e = refl
  plain_by_slots [] (y ∷ ys) e = let no : ⊥ = cc in absurd no
  plain_by_slots (x ∷ xs) [] e = let no : ⊥ = cc in absurd no
  plain_by_slots (x ∷ xs) (y ∷ ys) e =
      let slot : x.slot ≡ y.slot = ap (λ (k : SetKey × ℕ). k.1) (heads e) in
      let one = ap (λ (n : ℕ). plain (seat_of seats n)) slot in
      let rest = plain_by_slots xs ys (tails e) in
      omega arith

pub first_by_slots : (xs ys : List Slotted) (slot : ℕ) → keyed xs ≡ keyed ys → IsFirstIn xs slot
    → IsFirstIn ys slot
first_by_slots [] ys slot e (p, at, is) = let no : ⊥ = cc in absurd no
first_by_slots (x ∷ xs) [] slot e first = let no : ⊥ = cc in absurd no
first_by_slots (x ∷ xs) (y ∷ ys) slot e (p, at, is) =
    let same : x.slot ≡ y.slot = ap (λ (k : SetKey × ℕ). k.1) (heads e) in
    (y, refl, sym same ∙ ap (λ (q : Slotted). q.slot) (some_same at) ∙ is)
