-- One more group gets a valve and its links, in room that there is.
use Rattle.std.proofs.Common.{◌≡◌, ◌<◌, ◌≤◌, ◌+◌, ◌^◌, ℕ, zero, suc, true, List, [], ◌∷◌, ◌++◌, drop, length, length-append, length-set, arith, refl, ap, sym, ◌∙◌, inl, inr, Some}
use Rattle.std.specs.Prelude.{Contains, slice_get}
use Rattle.std.specs.Vec.{vec_capacity}
use Rattle.std.specs.declared.vec.Vec.{Vec}
use Rattle.std.proofs.lemmas.List.Elements.{Contains-append_cases}
use Rattle.std.proofs.lemmas.Bool.{cases_lt}
use Rattle.std.proofs.lemmas.Option.{slice_get_within}
use mathlib.Core.Path.{subst}
use Rattle.health_valves.specs.Laying.{HasRoomFor}
use Rattle.health_valves.specs.Blueprint.{KeepsRoom, Drawn, feeders_in}
use Rattle.health_valves.specs.Walk.{EachOnce}
use Rattle.health_valves.specs.declared.valves.Valves.{Valves}
use Rattle.health_valves.specs.declared.blueprint.Feeding.{Feeding}
use Rattle.health_valves.specs.declared.blueprint.Trigger.{Trigger}
use Rattle.health_model.proofs.Members.{nothing_in}
use Rattle.policy_select.specs.Groups.{members_of}
use Rattle.rdata_layout.specs.declared.types.RType.{RType}
use Rattle.record_set.specs.declared.sets.RecordSet.{RecordSet}
use Rattle.policy_select.specs.Changes.{ref_in}
use Rattle.policy_select.specs.Zones.{AreZones, Zone, placed_in}
use Rattle.policy_select.specs.SetRefRecord.{SetRef}
use Rattle.zone_model.specs.Slotted.{HaveOwnSlots, IsHere, Slotted}
use Rattle.policy_select.specs.Looking.{RefersTo}
use Rattle.policy_select.specs.GroupRecord.{Group}
use Rattle.policy_select.specs.Tables.{HaveSlotsApart, HaveSlotsBelow}
use Rattle.health_planning.specs.Building.{AreBelow, HaveOwnValves, AreSeated, AreWithin, group_trigger, links_to}
use Rattle.health_planning.specs.Rooms.{AreJoined, CanGroup, HasListRoom, HaveValvesApart}
use Rattle.health_planning.specs.Wired.{AreMembers, IsLedTo, check_seat, valves_of, group_seat, is_watched, only_check, own_part, plain_among, seat_of, set_seat}
use Rattle.health_planning.specs.declared.seats.Seat.{Seat}
use Rattle.health_planning.proofs.Ending.{member_valve}
use Rattle.health_planning.proofs.Few.{few_valves, few_listed, few_once, few_placed, valves_once, links_long, once_both, own_among}
use Rattle.health_planning.proofs.Grouped.{feeders_now, valves_same, group_beside, grouped_more, new_fed, none_grouped, seat_now, seated, stays}
use Rattle.health_planning.proofs.Groups.{in_drop, in_take}
use Rattle.health_planning.proofs.ListedOnce.{listed_more, slot_below}
use Rattle.health_planning.proofs.Wiring.{member_there, same_group}

-- no group has a valve, and none of the links is one into a group
pub none_joined : (from : ℕ) (seats : List Seat) (links : List Feeding)
    → AreJoined from (length links) seats links
none_joined from seats links = record {
  joined = [];
  once = tt;
  below = λ x m. absurd (nothing_in x m);
  as_many = omega arith;
  each = λ x m. absurd (nothing_in x m);
}

pub can_start : (zones : List Zone) (seats : List Seat) (blueprint : Drawn)
    → AreBelow seats (length blueprint.triggers) → HaveValvesApart seats
    → ((slot : ℕ) → group_seat seats slot ≡ 0) → length seats ≤ blueprint.room
    → length blueprint.triggers ≤ blueprint.links_room → length blueprint.triggers + length seats ≤ 2 ^ 31
    → CanGroup zones (length blueprint.triggers) (length blueprint.links) seats blueprint
can_start zones seats blueprint below apart none room links_room few = record {
  least = omega arith;
  sets = below;
  apart = apart;
  grouped = none_grouped zones seats blueprint.triggers blueprint.links none;
  joined = none_joined (length blueprint.triggers) seats blueprint.links;
  valves_room = omega arith;
  links_room = omega arith;
  few = few;
}

-- no two listed sets have one valve
pub listed_apart : (zones : List Zone) (first : ℕ) (before : List Seat) (refs : List SetRef) (seats : List Seat)
    (triggers : List Trigger) → HaveOwnValves zones first before refs seats triggers → HaveValvesApart seats
listed_apart zones first before refs seats triggers are slot other valve one two =
    let a = are.only slot valve one in
    let b = are.only other valve two in
    let a_is = a.1.1 in
    let b_is = b.1.1 in
    let k : a.0 ≡ b.0 = omega arith in
    let ref = some_same (sym a.1.2 ∙ ap (slice_get refs) k ∙ b.1.2) in
    sym a.1.3 ∙ ap (λ (r : SetRef). r.slot) ref ∙ b.1.3
  where
    some_same : {X : Type 0} {x y : X} → Some x ≡ Some y → x ≡ y
    some_same e = cc

-- one more set can be listed
pub one_more : (zones : List Zone) (first : ℕ) (before : List Seat) (refs : List SetRef) (seats : List Seat)
    (triggers : List Trigger) (ref : SetRef) (named : RecordSet)
    → HaveOwnValves zones first before refs seats triggers → RefersTo zones ref named → is_watched named ≡ true
    → ref.slot < length seats → seat_of seats ref.slot ≡ 0 → length refs + 1 ≤ length seats
one_more zones first before refs seats triggers ref named are names watched within empty =
    let now = listed_more zones first before refs seats triggers ref named (length triggers) are names watched within empty refl in
    let most = few_listed zones first before (refs ++ ref ∷ []) _ _ now in
    let longer = length-append refs (ref ∷ []) in
    let as_long = length-set seats ref.slot (record { set = length triggers + 1; group = 0; check = only_check named }) in
    omega arith

pub room_listed : {Z : Type 0} (blueprint after : Drawn) (refs now : Vec SetRef Z)
    (seats seats_now : List Seat) (set : SetRef) (trigger : Trigger) → HasListRoom blueprint refs seats
    → length seats_now ≡ length seats → after.triggers ≡ blueprint.triggers ++ trigger ∷ []
    → after.room + 1 ≡ blueprint.room → now.items ≡ refs.items ++ set ∷ []
    → vec_capacity now ≡ vec_capacity refs → HasListRoom after now seats_now
room_listed blueprint after refs now seats seats_now set trigger room as_long triggers one items capacity =
    let few = room.few in
    let refs_room = room.refs_room in
    let valves = room.valves in
    let longer = ap length triggers ∙ length-append blueprint.triggers (trigger ∷ []) in
    let more = ap length items ∙ length-append refs.items (set ∷ []) in
    record { few = omega arith; refs_room = omega arith; valves = omega arith }

-- the sets of a group stand in slots of their own, and there are no more than slots
pub members_own : (zones : List Zone) (g : Group) → AreZones zones
    → HaveOwnSlots (members_of zones g)
members_own zones g are = own_among zones g.zone g.start g.length are.each

pub members_few : (zones : List Zone) (g : Group) (slots : ℕ) → AreZones zones
    → HaveSlotsBelow zones slots → length (members_of zones g) ≤ slots
members_few zones g slots are below =
    few_placed (members_of zones g) slots (members_own zones g are) (λ p m.
    slot_below zones slots (ref_in g.zone p) p.set below
    (in_drop g.start (placed_in zones g.zone) p (in_take g.length (drop g.start (placed_in zones g.zone)) p m)))

module _ (zones : List Zone) (are_zones : AreZones zones) (apart : HaveSlotsApart zones)
    (from base : ℕ) (seats : List Seat) (blueprint : Drawn) (can : CanGroup zones from base seats blueprint)
    (valve zone : ℕ) (name : List (List ℕ)) (rtype : RType) (members : List Slotted)
    (below : AreBelow seats (length blueprint.triggers))
    (links_within : AreWithin blueprint.links (length blueprint.triggers)) (is_valve : valve ≡ length blueprint.triggers)
    (are : AreMembers zones zone name rtype members) (one : Slotted) (in_one : IsHere members one)
    (within : one.slot < length seats) (empty : group_seat seats one.slot ≡ 0)
    (own : HaveOwnSlots members) (few : plain_among seats members ≤ 2 ^ 31) where
  abbrev pub valves : List ℕ
  valves = valves_of seats members

  abbrev pub triggers_now : List Trigger
  triggers_now = blueprint.triggers ++ group_trigger (plain_among seats members) ∷ []

  abbrev pub links_now : List Feeding
  links_now = blueprint.links ++ links_to valve valves

  -- where one set of a group tells no valve, none does
  pub bare : (p : Slotted) → IsHere members p → group_seat seats p.slot ≡ 0
  bare p m = by (group_seat seats p.slot) refl
    where
      by : (n : ℕ) → group_seat seats p.slot ≡ n → group_seat seats p.slot ≡ 0
      by zero e = e
      by (suc found) e =
          let h = (can.grouped.valves p.slot found e).1 in
          let q = h.here in
          let its = same_group zones are_zones apart zone h.zone name h.name rtype h.rtype members h.members p q.0 are m h.are q.1 (sym q.2) in
          let there = member_there zones are_zones zone name rtype members h.members one are in_one its in
          let seat = h.each one there in
          absurd (omega arith)

  -- a set of the group feeds no other group
  not_joined : (x : ℕ) → Contains valves x → Contains can.joined.joined x → ⊥
  not_joined x new old =
      let j = can.joined.each x old in
      let h = (can.grouped.valves j.0 j.1.0 j.1.1.0).1 in
      let p = member_valve seats members x new in
      let q = member_valve seats h.members x (subst (λ (l : List ℕ). Contains l x) h.fed j.1.1.1) in
      let slots = ap (group_seat seats) (can.apart p.0.slot q.0.slot x p.2 q.2) in
      let seat = h.each q.0 q.1 in
      let none = bare p.0 p.1 in
      omega arith

  once : EachOnce (can.joined.joined ++ valves)
  once = once_both can.joined.joined valves can.joined.once (valves_once seats can.apart members own) not_joined

  all_below : (x : ℕ) → Contains (can.joined.joined ++ valves) x → x < from
  all_below x m = elim (Contains-append_cases can.joined.joined valves x m) [
    | inl old ↦ can.joined.below x old
    | inr new ↦ (let p = member_valve seats members x new in can.sets p.0.slot x p.2)
  ]

  -- there is room for the links
  pub links_fit : length valves ≤ blueprint.links_room
  links_fit =
      let most = few_once from (can.joined.joined ++ valves) once all_below in
      let both = length-append can.joined.joined valves in
      let many = can.joined.as_many in
      let room = can.links_room in
      omega arith

  -- and for the valve
  pub valve_early : length blueprint.triggers + 1 ≤ from + length seats
  valve_early =
      let most = few_valves from (length blueprint.triggers + 1) (seated seats one.slot (valve + 1) within) all in
      let as_long = length-set seats one.slot (record { set = set_seat seats one.slot; group = valve + 1; check = check_seat seats one.slot }) in
      omega arith
    where
      all : (found : ℕ) → from ≤ found → found < length blueprint.triggers + 1
          → (slot : ℕ) × (group_seat (seated seats one.slot (valve + 1) within) slot ≡ suc found)
      all found past b = elim (cases_lt found (length blueprint.triggers)) [
        | inl old ↦
            let o = can.grouped.all found past old in (
              o.0,
              group_beside seats one.slot (valve + 1) within o.0 (λ e. let a : group_seat seats one.slot ≡ suc found = ap (group_seat seats) (sym e) ∙
                  o.1 in omega arith) ∙ o.1,
            )
        | inr new ↦ (one.slot, let now = seat_now seats one.slot (valve + 1) within in omega arith)
      ]

  module _ (seats_now : List Seat) (sits : AreSeated members (valve + 1) seats seats_now) where
    still_fed : (x found : ℕ) → found < length blueprint.triggers → Contains (feeders_in blueprint.links found) x
        → Contains (feeders_in links_now found) x
    still_fed x found early m =
        subst (λ (l : List ℕ). Contains l x)
        (sym (feeders_now seats blueprint.triggers blueprint.links valve members below links_within is_valve found early)) m

    joined_now : AreJoined from base seats_now links_now
    joined_now = record {
      joined = can.joined.joined ++ valves;
      once = once;
      below = all_below;
      as_many =
          let both = length-append can.joined.joined valves in
          let links = length-append blueprint.links (links_to valve valves) in
          let long = links_long valve valves in
          let many = can.joined.as_many in
          omega arith;
      each = λ x m. elim (Contains-append_cases can.joined.joined valves x m) [
        | inl old ↦
            let j = can.joined.each x old in
            let h = (can.grouped.valves j.0 j.1.0 j.1.1.0).1 in
            let early = slice_get_within blueprint.triggers j.1.0 (group_trigger (plain_among seats h.members)) h.trigger in
            let now = stays seats blueprint.triggers blueprint.links valve members below links_within is_valve zones zone name rtype are bare one in_one few seats_now
            sits j.0 j.1.0 j.1.1.0 in
            (j.0, (j.1.0, (now, still_fed x j.1.0 early j.1.1.1)))
        | inr new ↦
            let fed = new_fed seats blueprint.triggers blueprint.links valve members below links_within is_valve zones zone name rtype are bare one in_one few
            seats_now sits in
            let same = valves_same seats seats_now sits.sets members in
            let now : group_seat seats_now one.slot ≡ suc valve = omega (arith, sits.each one in_one) in
            (one.slot, (valve, (now, subst (λ (l : List ℕ). Contains l x) (sym (fed ∙ same)) new)))
      ];
    }

    pub can_more : IsLedTo zones zone name rtype → (after : Drawn) → after.triggers ≡ triggers_now
        → after.links ≡ links_now → KeepsRoom blueprint after → CanGroup zones from base seats_now after
    can_more led after triggers links kept =
        let longer = ap length triggers ∙ length-append blueprint.triggers (group_trigger (plain_among seats members) ∷ []) in
        let as_long = sits.size in
        let least = can.least in
        let valves_room = can.valves_room in
        let links_room = can.links_room in
        let kept_valves = kept.valves in
        let kept_links = kept.links in
        let most = can.few in
        let same = sits.sets in
        record {
          least = omega arith;
          sets = λ other found is. can.sets other found (sym (ap own_part (same.valves other)) ∙ is);
          apart = λ first second found first_is second_is.
              can.apart first second found (sym (ap own_part (same.valves first)) ∙ first_is) (sym (ap own_part (same.valves second)) ∙ second_is);
          grouped = rw (triggers, links) (grouped_more seats blueprint.triggers blueprint.links valve members below links_within is_valve zones zone name rtype are bare
              one in_one few seats_now sits from can.least led can.grouped);
          joined = rw links joined_now;
          valves_room = omega arith;
          links_room = omega arith;
          few = omega arith;
        }

-- no more links than that
pub joined_few : (from base : ℕ) (seats : List Seat) (links : List Feeding)
    → AreJoined from base seats links → length links ≤ base + from
joined_few from base seats links are =
    let few = few_once from are.joined are.once are.below in
    let many = are.as_many in
    omega arith

-- room for some valves and links is room for fewer
pub room_for_fewer : (valves : Valves) (n m fewer fewer_links : ℕ) → HasRoomFor valves n m
    → fewer ≤ n → fewer_links ≤ m → HasRoomFor valves fewer fewer_links
room_for_fewer valves n m fewer fewer_links room few few_links =
    let rows = room.rows in
    let feeds = room.feeds in
    let lists = room.lists in
    let values = room.values in
    let counts = room.counts in
    let owns = room.owns in
    let cone = room.cone in
    let marks = room.marks in
    record {
      rows = omega arith;
      feeds = omega arith;
      lists = omega arith;
      values = omega arith;
      counts = omega arith;
      owns = omega arith;
      cone = omega arith;
      marks = omega arith;
    }
