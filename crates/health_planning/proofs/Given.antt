-- Seats that are given, and cleared again: each is told by a set that is listed or noted.
use Rattle.std.proofs.Common.{◌≡◌, ◌≢◌, ◌<◌, ◌≤◌, ◌+◌, ℕ, List, [], ◌∷◌, ◌++◌, length, length-append, length-set, arith, refl, ap, sym, ◌∙◌, inl, inr, Some}
use Rattle.std.specs.Prelude.{slice_get}
use Rattle.std.proofs.lemmas.Bool.{cases_eq}
use Rattle.check_model.specs.declared.checks.Check.{Check}
use Rattle.health_planning.proofs.Lists.{in_more}
use Rattle.health_valves.specs.declared.blueprint.Feeding.{Feeding}
use Rattle.health_valves.specs.declared.blueprint.Trigger.{Trigger}
use Rattle.policy_select.proofs.MembersOfZoneList.{filled}
use Rattle.policy_select.specs.SetRefRecord.{SetRef}
use Rattle.policy_select.specs.Zones.{Zone}
use Rattle.health_planning.specs.Building.{AreGiven, AreNoted, IsBuilt, IsFree, TellSlot}
use Rattle.health_planning.specs.Wired.{check_seat, group_seat, seat_of, set_seat}
use Rattle.health_planning.specs.declared.seats.Seat.{Seat}
use Rattle.health_planning.proofs.Few.{group_within, no_more_than}
use Rattle.health_planning.proofs.Grouped.{group_beside, seat_now, seated}
use Rattle.health_planning.proofs.Groups.{some_valve}
use Rattle.health_planning.proofs.ListedOnce.{last_at, still_at}

some_same : {X : Type 0} {x y : X} → Some x ≡ Some y → x ≡ y
some_same e = cc

-- ---- seats that are cleared

-- where the listed sets and the noted members are cleared, no seat tells a valve
pub all_free : (refs members : List SetRef) (seats once twice : List Seat)
    → AreGiven refs members seats
    → ((slot : ℕ) → TellSlot refs slot → IsFree once slot)
    → ((slot : ℕ) → IsFree seats slot → IsFree once slot)
    → ((slot : ℕ) → TellSlot members slot → IsFree twice slot)
    → ((slot : ℕ) → IsFree once slot → IsFree twice slot)
    → (slot : ℕ) → IsFree twice slot
all_free refs members seats once twice given first first_stays second second_stays slot = elim (cases_eq (seat_of seats slot) 0) [
  | inr some ↦ second_stays slot (first slot (given.sets slot some))
  | inl bare ↦ elim (cases_eq (group_seat seats slot) 0) [
    | inr some ↦ second slot (given.groups slot some)
    | inl none ↦ second_stays slot (first_stays slot (bare, none))
  ]
]

-- ---- members that are noted

pub none_noted : (seats : List Seat) → ((slot : ℕ) → group_seat seats slot ≡ 0) → AreNoted [] seats
none_noted seats none = record {
  all = λ slot some. absurd (some (none slot));
  each = λ k ref at. let no : ⊥ = cc in absurd no;
  once = λ k n one other at. let no : ⊥ = cc in absurd no;
}

-- no more are noted than there are slots
noted_few : (members : List SetRef) (seats : List Seat) → AreNoted members seats
    → length members ≤ length seats
noted_few members seats noted =
    no_more_than (λ (k slot : ℕ). (ref : SetRef) × ((slice_get members k ≡ Some ref) × (ref.slot ≡ slot)))
    (λ a b slot e f. noted.once a b e.0 f.0 e.1.0 f.1.0 (e.1.1 ∙ sym f.1.1))
    (length members) (length seats) (λ k early.
    let ref = filled members k early in
    let valve = some_valve (group_seat seats ref.0.slot) (noted.each k ref.0 ref.1) in
    (ref.0.slot, ((ref.0, (ref.1, refl)), group_within seats ref.0.slot valve.0 valve.1)))

module _ (members : List SetRef) (seats : List Seat) (noted : AreNoted members seats) (ref : SetRef)
    (after : List Seat) (now : group_seat after ref.slot ≢ 0)
    (others : (other : ℕ) → other ≢ ref.slot → group_seat after other ≡ group_seat seats other) where
  -- a seat that told a valve tells one
  tells_on : (slot : ℕ) → group_seat seats slot ≢ 0 → group_seat after slot ≢ 0
  tells_on slot some = elim (cases_eq slot ref.slot) [
    | inl same ↦ (λ none. now (ap (group_seat after) (sym same) ∙ none))
    | inr apart ↦ (λ none. some (sym (others slot apart) ∙ none))
  ]

  -- a set whose seat told the valve of its group is noted already
  pub noted_still : group_seat seats ref.slot ≢ 0 → AreNoted members after
  noted_still some = record {
    all = λ slot tells. elim (cases_eq slot ref.slot) [
      | inl same ↦ noted.all slot (λ none. some (ap (group_seat seats) (sym same) ∙ none))
      | inr apart ↦ noted.all slot (λ none. tells (others slot apart ∙ none))
    ];
    each = λ k one at. tells_on one.slot (noted.each k one at);
    once = noted.once;
  }

  -- one whose seat told none is noted now
  pub noted_more : group_seat seats ref.slot ≡ 0 → AreNoted (members ++ ref ∷ []) after
  noted_more empty = record {
    all = λ slot tells. elim (cases_eq slot ref.slot) [
      | inl same ↦ (length members, (ref, (last_at members ref (length members) refl, sym same)))
      | inr apart ↦
          let old = noted.all slot (λ none. tells (others slot apart ∙ none)) in
          (old.0, (old.1.0, (still_at members ref old.1.0 old.0 old.1.1.0, old.1.1.1)))
    ];
    each = λ k one at. elim (in_more members ref one k at) [
      | inl old ↦ tells_on one.slot (noted.each k one old)
      | inr last ↦ (λ none. now (ap (λ (r : SetRef). group_seat after r.slot) (sym last.1) ∙ none))
    ];
    once = λ k n one other at_one at_other same. elim (in_more members ref one k at_one) [
      | inl old ↦ elim (in_more members ref other n at_other) [
        | inl old_too ↦ noted.once k n one other old old_too same
        | inr last ↦
            let slots = same ∙ ap (λ (r : SetRef). r.slot) last.1 in
            absurd (noted.each k one old (ap (group_seat seats) slots ∙ empty))
      ]
      | inr last ↦ elim (in_more members ref other n at_other) [
        | inl old ↦
            let slots = sym same ∙ ap (λ (r : SetRef). r.slot) last.1 in
            absurd (noted.each n other old (ap (group_seat seats) slots ∙ empty))
        | inr last_too ↦ last.0 ∙ sym last_too.0
      ]
    ];
  }

-- there is room for one more
pub one_noted : (members : List SetRef) (seats : List Seat) → AreNoted members seats → (ref : SetRef)
    → ref.slot < length seats → group_seat seats ref.slot ≡ 0
    → length members + 1 ≤ length seats
one_noted members seats noted ref within empty =
    let after = seated seats ref.slot 1 within in
    let now = seat_now seats ref.slot 1 within in
    let more = noted_more members seats noted ref after (λ none. omega arith) (group_beside seats ref.slot 1 within) empty in
    let few = noted_few (members ++ ref ∷ []) after more in
    let longer = length-append members (ref ∷ []) in
    let as_long = length-set seats ref.slot (record { set = set_seat seats ref.slot; group = 1; check = check_seat seats ref.slot }) in
    omega arith

-- ---- what a blueprint gives

pub all_given : (zones : List Zone) (list : List (ℕ × Check)) (numbers : List ℕ)
    (refs members : List SetRef) (seats : List Seat) (triggers : List Trigger) (links : List Feeding)
    → IsBuilt zones list numbers refs seats triggers links → AreNoted members seats
    → AreGiven refs members seats
all_given zones list numbers refs members seats triggers links built noted = record {
  sets = λ slot some.
      let valve = some_valve (seat_of seats slot) some in
      let o = built.only slot valve.0 valve.1 in
      (o.0, (o.1.0, (o.1.2, o.1.3)));
  groups = noted.all;
}
