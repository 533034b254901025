-- Seats that tell the check which alone decides a set.
use Rattle.std.proofs.Common.{◌≡◌, ◌≢◌, ◌≤◌, ◌<◌, ℕ, zero, suc, List, [], ◌∷◌, ◌++◌, length, set, take, get_or-set_other, get_or-set_same, arith, refl, ap, sym, ◌∙◌, inl, inr, None, Some}
use Rattle.std.specs.Prelude.{slice_index_or}
use Rattle.std.proofs.lemmas.Bool.{cases_eq, cases_lt, le-leb}
use Rattle.std.proofs.lemmas.List.{get_or_past}
use mathlib.Core.Path.{subst}
use Rattle.policy_select.specs.Zones.{Zone}
use Rattle.health_planning.specs.Building.{IsBare, IsFree, HoldsSet, KeepsCheck, SeatsCheck, TellsAll, TellsCheck, TellsOn}
use Rattle.health_planning.specs.Wired.{IsAlone, check_seat, group_seat, only_check, own_part, set_seat}
use Rattle.health_planning.specs.declared.seats.Seat.{Seat}
use Rattle.health_planning.proofs.ListedOnce.{check_beside, check_here, own_is, seat_beside, seat_here}
use Rattle.record_set.specs.declared.sets.RecordSet.{RecordSet}
use Rattle.zone_model.specs.Slotted.{Slotted}

pub own_none : (n : ℕ) → n ≤ 200 → own_part n ≡ 0
own_none n few = rw (le-leb n 200 few) refl

-- what tells a valve of a set's own tells no other
pub own_suc : (seat found : ℕ) → own_part seat ≡ suc found → seat ≡ suc found
own_suc seat found is = elim (cases_lt 200 seat) [
  | inl late ↦ sym (own_is seat late) ∙ is
  | inr early ↦ (let none = own_none seat early in absurd (omega arith))
]

-- one that tells none is that of a check, or none
pub own_early : (seat : ℕ) → own_part seat ≡ 0 → seat ≤ 200
own_early seat none = elim (cases_lt 200 seat) [
  | inl late ↦ (let is = own_is seat late in absurd (omega arith))
  | inr early ↦ early
]

-- what a check alone decides is decided by that check
pub only_alone : (named : RecordSet) (id : ℕ) → IsAlone named id → only_check named ≡ id
only_alone named id alone = rw (alone.0, alone.1) refl

-- where the seat in a slot tells what it told, it tells a check still
pub tells_on : (ids numbers : List ℕ) (before after : List Seat) (p : Slotted)
    → TellsOn before after p.slot → TellsCheck ids numbers before p → TellsCheck ids numbers after p
tells_on ids numbers before after p on told = record {
  plain = λ off. on.0 ∙ told.plain off;
  alone = λ id alone. let a = told.alone id alone in (on.1 ∙ a.0, on.0 ∙ a.1);
}

-- ---- what seats tell after one change and another

module _ (a b c : List Seat) (slot : ℕ) where
  pub on_trans : TellsOn a b slot → TellsOn b c slot → TellsOn a c slot
  on_trans first second = (second.0 ∙ first.0, second.1 ∙ first.1)

  pub all_trans : TellsAll a b slot → TellsAll b c slot → TellsAll a c slot
  all_trans first second = (on_trans first.0 second.0, second.1 ∙ first.1)

  pub keeps_trans : KeepsCheck a b slot → KeepsCheck b c slot → KeepsCheck a c slot
  keeps_trans (inl first) (inl second) = inl (on_trans first second)
  keeps_trans (inl first) (inr second) = inr (λ none. second.0 (ap own_part first.0 ∙ none), second.1)
  keeps_trans (inr first) (inl second) = inr (first.0, second.0 ∙ first.1)
  keeps_trans (inr first) (inr second) = inr (first.0, second.1)

  pub seats_trans : (zones : List Zone) → SeatsCheck zones a b slot → SeatsCheck zones b c slot
      → SeatsCheck zones a c slot
  seats_trans zones (inl first) (inl second) = inl (on_trans first second)
  seats_trans zones (inl first) (inr second) = inr second
  seats_trans zones (inr first) (inl second) = inr (first.0, ap own_part second.0 ∙ first.1)
  seats_trans zones (inr first) (inr second) = inr second

-- a seat that tells something is that of a set
pub from_bare : (zones : List Zone) (before after : List Seat) (slot : ℕ) → IsBare before slot
    → SeatsCheck zones before after slot → set_seat after slot ≢ 0 → HoldsSet zones slot
from_bare zones before after slot bare (inl on) some = absurd (some (on.0 ∙ bare.0))
from_bare zones before after slot bare (inr taken) some = taken.0

-- no valve but that of a check comes by it
pub seats_free : (zones : List Zone) (before after : List Seat) (slot : ℕ) → IsFree before slot
    → SeatsCheck zones before after slot → group_seat after slot ≡ group_seat before slot
    → IsFree after slot
seats_free zones before after slot free (inl on) group = (ap own_part on.0 ∙ free.0, group ∙ free.1)
seats_free zones before after slot free (inr taken) group = (taken.1, group ∙ free.1)

pub free_all : (before after : List Seat) (slot : ℕ) → TellsAll before after slot → IsFree before slot
    → IsFree after slot
free_all before after slot same free = (ap own_part same.0.0 ∙ free.0, same.1 ∙ free.1)

pub bare_free : (seats : List Seat) (slot : ℕ) → IsBare seats slot → IsFree seats slot
bare_free seats slot bare = (ap own_part bare.0, bare.1)

-- ---- one seat

abbrev pub bare_seat : Seat
bare_seat = record { set = 0; group = 0; check = 0 }

pub bare_past : (seats : List Seat) (slot : ℕ) → length seats ≤ slot → IsBare seats slot
bare_past seats slot past =
    let none = get_or_past seats slot bare_seat past in
    (ap (λ (s : Seat). s.set) none, ap (λ (s : Seat). s.group) none)

module _ (seats : List Seat) (slot : ℕ) (s : Seat) (within : slot < length seats) where
  pub group_here : group_seat (set seats slot s) slot ≡ s.group
  group_here = ap (λ (x : Seat). x.group) (get_or-set_same seats slot s _ within)

  pub group_kept : s.group ≡ group_seat seats slot → (other : ℕ)
      → group_seat (set seats slot s) other ≡ group_seat seats other
  group_kept same other = elim (cases_eq other slot) [
    | inl is ↦ ap (group_seat (set seats slot s)) is ∙ group_here ∙ same ∙ ap (group_seat seats) (sym is)
    | inr apart ↦ ap (λ (x : Seat). x.group) (get_or-set_other seats slot other s _ apart)
  ]

  pub free_here : own_part s.set ≡ 0 → s.group ≡ 0 → IsFree (set seats slot s) slot
  free_here own none = (ap own_part (seat_here seats slot s within) ∙ own, group_here ∙ none)

  pub free_now : own_part s.set ≡ 0 → s.group ≡ 0 → (other : ℕ) → IsFree seats other
      → IsFree (set seats slot s) other
  free_now own none other free = elim (cases_eq other slot) [
    | inl same ↦ subst (IsFree (set seats slot s)) (sym same) (free_here own none)
    | inr apart ↦ (
      ap own_part (seat_beside seats slot other s apart) ∙ free.0,
      ap (λ (x : Seat). x.group) (get_or-set_other seats slot other s _ apart) ∙ free.1,
    )
  ]

  -- a seat without its valves
  pub keeps_cleared : (was : Seat) → was.set ≡ set_seat seats slot → was.check ≡ check_seat seats slot
      → (own_part was.set ≡ 0 → (s.set ≡ was.set) × (s.check ≡ was.check))
      → (own_part was.set ≢ 0 → s.set ≡ 0) → (other : ℕ)
      → KeepsCheck seats (set seats slot s) other
  keeps_cleared was set_is check_is keeps clears other = elim (cases_eq other slot) [
    | inl same ↦ subst (KeepsCheck seats (set seats slot s)) (sym same) (elim (cases_eq (own_part was.set) 0) [
      | inl none ↦
          let e = keeps none in
          inl (seat_here seats slot s within ∙ e.0 ∙ set_is, check_here seats slot s within ∙ e.1 ∙ check_is)
      | inr some ↦
          inr (λ none. some (ap own_part set_is ∙ none), seat_here seats slot s within ∙ clears some)
    ])
    | inr apart ↦ inl (seat_beside seats slot other s apart, check_beside seats slot other s apart)
  ]

-- ---- more seats, or fewer

pub seats_front : (n : ℕ) (seats : List Seat) (slot : ℕ) → slot < n
    → TellsAll seats (take n seats) slot
seats_front n seats slot early =
    let e = front n seats slot early in
    ((ap (λ (s : Seat). s.set) e, ap (λ (s : Seat). s.check) e), ap (λ (s : Seat). s.group) e)
  where
    front : (n : ℕ) (seats : List Seat) (slot : ℕ) → slot < n
        → slice_index_or (take n seats) slot bare_seat ≡ slice_index_or seats slot bare_seat
    front zero seats slot early = absurd (omega arith)
    front (suc n) [] slot early = refl
    front (suc n) (s ∷ seats) zero early = refl
    front (suc n) (s ∷ seats) (suc slot) early = front n seats slot (omega arith)

-- where none told anything, none does
pub bare_all : (before now : List Seat) (slots : ℕ) → before ≡ []
    → ((slot : ℕ) → slot < slots → TellsAll before now slot)
    → ((slot : ℕ) → slots ≤ slot → IsBare now slot) → (slot : ℕ) → IsBare now slot
bare_all before now slots none front past slot = elim (cases_lt slot slots) [
  | inl early ↦
      let e = front slot early in
      (e.0.0 ∙ ap (λ (l : List Seat). set_seat l slot) none, e.1 ∙ ap (λ (l : List Seat). group_seat l slot) none)
  | inr late ↦ past slot late
]

pub seats_more : (seats : List Seat) (slot : ℕ) → TellsAll seats (seats ++ bare_seat ∷ []) slot
seats_more seats slot =
    let e = more seats slot in
    ((ap (λ (s : Seat). s.set) e, ap (λ (s : Seat). s.check) e), ap (λ (s : Seat). s.group) e)
  where
    more : (seats : List Seat) (slot : ℕ)
        → slice_index_or (seats ++ bare_seat ∷ []) slot bare_seat ≡ slice_index_or seats slot bare_seat
    more [] zero = refl
    more [] (suc slot) = refl
    more (s ∷ seats) zero = refl
    more (s ∷ seats) (suc slot) = more seats slot

-- ---- sets that name no check

pub bare_told : (ids numbers : List ℕ) (seats : List Seat) (p : Slotted) → p.set.check ≡ None
    → set_seat seats p.slot ≡ 0 → TellsCheck ids numbers seats p
bare_told ids numbers seats p none bare = record {
  plain = λ off. bare;
  alone = λ id alone. let no : None ≡ Some id = sym none ∙ alone.1 in let never : ⊥ = cc in absurd never;
}
