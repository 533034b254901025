-- Sets of a zone but those in one slot: what valves see of them.
use Rattle.std.proofs.Common.{◌≡◌, ◌≢◌, ◌+◌, ℕ, Bool, true, false, cond, List, [], ◌∷◌, arith, refl, ap, sym, ◌∙◌, inl, inr, Less, Greater}
use Rattle.std.specs.List.{AllByRecursion, filter}
use Rattle.std.specs.Ordering.{ordering_reverse}
use Rattle.std.specs.Prelude.{◌⊎◌, if◌then◌else◌, nat_eq, not}
use Rattle.std.proofs.lemmas.Bool.{cases_eq, eq-eqb, false≢true, ne_eqb}
use Rattle.health_standing.proofs.Staying.{in_filter}
use Rattle.health_model.proofs.Members.{of_filter}
use Rattle.health_planning.proofs.MembersOfZoneList.{in_all, set_in}
use Rattle.health_planning.specs.Wired.{HasSlot, plain, plain_among, seat_of, valves_of, with_valve}
use Rattle.health_planning.specs.declared.seats.Seat.{Seat}
use Rattle.record_set.specs.Sets.{key_of}
use Rattle.record_set.specs.declared.sets.RecordSet.{RecordSet}
use Rattle.record_set.specs.declared.sets.SetKey.{SetKey}
use Rattle.zone_model.proofs.Ordered.{keys_total}
use Rattle.zone_model.specs.Keys.{key_cmp}
use Rattle.zone_model.specs.Slotted.{IsHere, Slotted, sets_of}
use Rattle.zone_model.specs.Zones.{IsRising}

-- one of these sets stands in the slot, or none does
pub slot_in : (xs : List Slotted) (slot : ℕ) → HasSlot xs slot ⊎ ((p : Slotted) → IsHere xs p → p.slot ≢ slot)
slot_in [] slot = inr (λ p m. absurd m)
slot_in (x ∷ xs) slot = elim (cases_eq x.slot slot) [
  | inl same ↦ inl (x, inl refl, same)
  | inr apart ↦ elim (slot_in xs slot) [
    | inl found ↦ inl (found.0, inr found.1, found.2)
    | inr none ↦ inr (λ p m same. elim m [
      | inl is ↦ apart (ap (λ (q : Slotted). q.slot) is ∙ same)
      | inr later ↦ none p later same
    ])
  ]
]

-- a list has a first, or is empty
pub some_or_none : {X : Type 0} (xs : List X) → ((x : X) × (y : List X) × (xs ≡ x ∷ y)) ⊎ (xs ≡ [])
some_or_none [] = inr refl
some_or_none (x ∷ xs) = inl (x, xs, refl)

module _ (slot : ℕ) where
  abbrev pub is_apart : Slotted → Bool
  is_apart p = not (nat_eq p.slot slot)

  abbrev pub without_slot : List Slotted → List Slotted
  without_slot xs = filter is_apart xs

  -- how many of these sets stand in the slot
  abbrev pub in_slot : List Slotted → ℕ
  in_slot [] = 0
  in_slot (p ∷ xs) = if nat_eq p.slot slot then in_slot xs + 1 else in_slot xs

  pub in_without : (xs : List Slotted) (p : Slotted) → IsHere xs p → p.slot ≢ slot → IsHere (without_slot xs) p
  in_without xs p m apart = in_filter is_apart xs p m (ap not (ne_eqb p.slot slot apart))

  pub of_without : (xs : List Slotted) (p : Slotted) → IsHere (without_slot xs) p → IsHere xs p
  of_without xs p m = of_filter is_apart xs p m

  pub apart_in : (xs : List Slotted) (p : Slotted) → IsHere (without_slot xs) p → p.slot ≢ slot
  apart_in [] p m = absurd m
  apart_in (x ∷ xs) p m = by (nat_eq x.slot slot) refl m (apart_in xs p)
    where
      by : (b : Bool) → nat_eq x.slot slot ≡ b → IsHere (cond (not b) (x ∷ without_slot xs) (without_slot xs)) p
          → (IsHere (without_slot xs) p → p.slot ≢ slot) → p.slot ≢ slot
      by true e m rest = rest m
      by false e (inl is) rest = λ same. false≢true (sym e ∙ eq-eqb x.slot slot (ap (λ (q : Slotted). q.slot) is ∙ same))
      by false e (inr later) rest = rest later

  kept_all : (P : RecordSet → Type 0) (xs : List Slotted) → AllByRecursion P (sets_of xs)
      → AllByRecursion P (sets_of (without_slot xs))
  kept_all P [] all = tt
  kept_all P (x ∷ xs) all = by (is_apart x) (kept_all P xs all.1)
    where
      by : (b : Bool) → AllByRecursion P (sets_of (without_slot xs))
          → AllByRecursion P (sets_of (cond b (x ∷ without_slot xs) (without_slot xs)))
      by true rest = (all.0, rest)
      by false rest = rest

  pub rising_without : (xs : List Slotted) → IsRising (sets_of xs) → IsRising (sets_of (without_slot xs))
  rising_without [] rising = tt
  rising_without (x ∷ xs) rising = by (is_apart x) (rising_without xs rising.1)
    where
      by : (b : Bool) → IsRising (sets_of (without_slot xs))
          → IsRising (sets_of (cond b (x ∷ without_slot xs) (without_slot xs)))
      by true rest = (kept_all (λ later. key_cmp (key_of x.set) (key_of later) ≡ Less) xs rising.0, rest)
      by false rest = rest

  pub none_in : (xs : List Slotted) → ((p : Slotted) → IsHere xs p → p.slot ≢ slot) → in_slot xs ≡ 0
  none_in [] none = refl
  none_in (x ∷ xs) none = rw (ne_eqb x.slot slot (none x (inl refl))) (none_in xs (λ p m. none p (inr m)))

  never_less : (key : SetKey) → key_cmp key key ≡ Less → ⊥
  never_less key less =
      let greater : key_cmp key key ≡ Greater = keys_total.antisymm key key ∙ ap ordering_reverse less in
      grind (arith, less, greater)

  -- sets that rise, of which those in the slot are one
  pub one_in : (xs : List Slotted) → IsRising (sets_of xs)
      → ((p q : Slotted) → IsHere xs p → IsHere xs q → p.slot ≡ slot → q.slot ≡ slot → p.set ≡ q.set)
      → (p : Slotted) → IsHere xs p → p.slot ≡ slot → in_slot xs ≡ 1
  one_in [] rising one p m is = absurd m
  one_in (x ∷ xs) rising one p m is = elim (cases_eq x.slot slot) [
    | inl same ↦
        let rest = none_in xs (λ q later its. never_less (key_of q.set)
        (ap (λ (s : RecordSet). key_cmp (key_of s) (key_of q.set)) (sym (one x q (inl refl) (inr later) same its))
        ∙ in_all (λ later. key_cmp (key_of x.set) (key_of later) ≡ Less) (sets_of xs) q.set rising.0 (set_in xs q later))) in
        rw (eq-eqb x.slot slot same) (ap (λ (n : ℕ). n + 1) rest)
    | inr apart ↦ rw (ne_eqb x.slot slot apart) (elim m [
      | inl first ↦ absurd (apart (ap (λ (q : Slotted). q.slot) first ∙ is))
      | inr later ↦ one_in xs rising.1 (λ a b in_a in_b. one a b (inr in_a) (inr in_b)) p later is
    ])
  ]

  module _ (seats : List Seat) (none : seat_of seats slot ≡ 0) where
    pub valves_without : (xs : List Slotted) → valves_of seats xs ≡ valves_of seats (without_slot xs)
    valves_without [] = refl
    valves_without (x ∷ xs) = elim (cases_eq x.slot slot) [
      | inl same ↦ rw (eq-eqb x.slot slot same)
          (ap (λ (n : ℕ). with_valve (seat_of seats n) (valves_of seats xs)) same
          ∙ ap (λ (n : ℕ). with_valve n (valves_of seats xs)) none ∙ valves_without xs)
      | inr apart ↦ rw (ne_eqb x.slot slot apart) (ap (with_valve (seat_of seats x.slot)) (valves_without xs))
    ]

    pub plain_without : (xs : List Slotted)
        → plain_among seats xs ≡ plain_among seats (without_slot xs) + in_slot xs
    plain_without [] = refl
    plain_without (x ∷ xs) = elim (cases_eq x.slot slot) [
      | inl same ↦
          let one : plain (seat_of seats x.slot) ≡ 1 = ap (λ (n : ℕ). plain (seat_of seats n)) same ∙ ap plain none in
          let rest = plain_without xs in
          rw (eq-eqb x.slot slot same) (omega (arith, one, rest))
      | inr apart ↦
          let rest = plain_without xs in
          rw (ne_eqb x.slot slot apart) (omega (arith, rest))
    ]
