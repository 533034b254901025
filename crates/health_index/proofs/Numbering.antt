-- Numbers of nodes.
use Rattle.std.proofs.Common.{◌≡◌, ◌<◌, ◌≤◌, ◌+◌, ◌-◌, ◌++◌, ℕ, suc, Bool, true, false, List, length, map, arith, refl, ap, sym, ◌∙◌, inl, inr, Option, None, Some}
use Rattle.std.specs.Option.{option_to_list}
use Rattle.std.specs.Prelude.{◌||◌, ◌⊎◌, is_some, slice_get}
use Rattle.std.proofs.lemmas.Bool.{false≢true}
use mathlib.Core.Path.{subst}
use Rattle.check_model.specs.Checks.{Checks, check_with}
use Rattle.check_model.specs.declared.checks.Check.{Check}
use Rattle.health_model.specs.Nodes.{CheckNode, GroupNode, Node, SetNode}
use Rattle.health_model.specs.Statuses.{Report}
use Rattle.health_planning.proofs.ListedOnce.{one_ref}
use Rattle.health_planning.proofs.Members.{one_named}
use Rattle.health_planning.proofs.MembersOfZoneList.{one_of_key, filled}
use Rattle.health_planning.specs.Looking.{RefersTo}
use Rattle.health_planning.specs.SetRefRecord.{SetRef}
use Rattle.health_planning.specs.Telling.{evaluates}
use Rattle.health_planning.specs.Zones.{Zone, placed_in}
use Rattle.rdata_layout.specs.declared.types.RType.{RType}
use Rattle.record_set.specs.declared.sets.Body.{Body}
use Rattle.record_set.specs.declared.sets.Body.TheVariants as body
use Rattle.record_set.specs.declared.sets.RecordSet.{RecordSet}
use Rattle.zone_model.specs.Slotted.{IsHere, Slotted}
use Rattle.health_index.specs.Index.{HasNode, HasNumber, Index, IsLaidFor, IsNumberBehind, IsNumberOf, IsOwnNumber, TellsOfCheck, IsOfOneGroup, Needs}
use Rattle.health_index.proofs.Alone.{early_in, seat_alone}
use Rattle.health_index.specs.Laws.{NodesAreNumbered}
use Rattle.health_valves.specs.Valves.{size_of, Condition, Net, ValvesStandFor}
use Rattle.health_planning.specs.Wired.{IsAlone, IsValveFor, IsLedTo, IsSpare, IsTarget, group_seat, ids_of, is_watched, own_part, place_of, seat_of, set_seat, valve_with, AreMembers, IsVacant}
use Rattle.health_planning.proofs.Numbers.{ids_valves, valve_there}
use Rattle.health_planning.proofs.Places.{found, held_there, id_there, one_place}
use Rattle.health_planning.proofs.Wiring.{first_here, first_same, rising_in, same_names, member_there}

some_same : {X : Type 0} {x y : X} → Some x ≡ Some y → x ≡ y
some_same e = cc

or_true : (check : Option ℕ) → is_some check || true ≡ true
or_true None = refl
or_true (Some id) = refl

group_nodes : (zone other : ℕ) (name name_two : List (List ℕ)) (rtype rtype_two : RType)
    → zone ≡ other → name ≡ name_two → rtype ≡ rtype_two
    → GroupNode zone name rtype ≡ GroupNode other name_two rtype_two
group_nodes zone other name name_two rtype rtype_two zones names rtypes =
    ap (λ (z : ℕ). GroupNode z name rtype) zones
    ∙ ap (λ (n : List (List ℕ)). GroupNode other n rtype) names
    ∙ ap (GroupNode other name_two) rtypes

module _ (zones : List Zone) (checks : Checks) (reports : List Report) (index : Index)
    (laid : IsLaidFor zones checks reports index) where
  pub of_valve : (number : ℕ) (node : Node)
      → IsValveFor zones checks.list index.numbers index.seats laid.net laid.own number node
      → IsOwnNumber zones index number node
  of_valve number (CheckNode id) (place, (check, (at, numbered))) =
      (place, (ap (λ (l : List ℕ). slice_get l place) laid.ids ∙ id_there checks.list place id check at, numbered))
  of_valve number (SetNode zone set) its = its
  of_valve number (GroupNode zone name rtype) (members, (are, w)) = (members, (are, w.seat))

  -- a check alone decides the set
  abbrev HasCheck : Slotted → Type 0
  HasCheck p = (id : ℕ) × (IsAlone p.set id
      × (set_seat index.seats p.slot ≡ suc (valve_with (ids_of checks.list) index.numbers id)))

  seat_bare : (zone : ℕ) (p : Slotted) → IsHere (placed_in zones zone) p → (id : ℕ) → IsAlone p.set id
      → set_seat index.seats p.slot ≡ suc (valve_with (ids_of checks.list) index.numbers id)
      → TellsOfCheck index.seats p.slot
  seat_bare = seat_alone zones (ids_of checks.list) index.numbers index.seats laid.net laid.own
      (early_in zones checks index.numbers laid.numbers laid.sound)

  -- the valve of a set is there
  seat_there : (zone : ℕ) (p : Slotted) (valve : ℕ) → IsHere (placed_in zones zone) p
      → seat_of index.seats p.slot ≡ suc valve → valve < laid.net.size
  seat_there zone p valve here seat = by (is_watched p.set) refl
    where
      by : (b : Bool) → is_watched p.set ≡ b → valve < laid.net.size
      by false off =
          let none = ap own_part ((laid.wired.its_sets zone p here).plain off) in
          absurd (omega arith)
      by true on = elim ((laid.wired.its_sets zone p here).valved on) [
        | inl alone ↦
            let none = (seat_bare zone p here alone.0 alone.1.0 alone.1.1).0 in
            absurd (omega arith)
        | inr g ↦
            let other = g.1 in
            let b = g.2.within in
            omega arith
      ]

  pub there : (number : ℕ) (node : Node) → IsOwnNumber zones index number node
      → number < laid.net.size
  there number (CheckNode id) (place, (at, numbered)) =
      let held = held_there checks.list place id (subst (λ (l : List ℕ). slice_get l place ≡ Some id) laid.ids at) in
      (laid.wired.its_checks place number id held.0 held.1 numbered).within
  there number (SetNode zone set) (slot, (here, seat)) =
      seat_there zone (record { slot = slot; set = set }) number here seat
  there number (GroupNode zone name rtype) (members, (are, seat)) =
      laid.wired.its_groups seat.0 number seat.1.1

  one_number : (a b : ℕ) (node : Node) → IsOwnNumber zones index a node
      → IsOwnNumber zones index b node → a ≡ b
  one_number a b (CheckNode id) (p, (first, first_at)) (q, (second, second_at)) =
      let one = held_there checks.list p id (subst (λ (l : List ℕ). slice_get l p ≡ Some id) laid.ids first) in
      let two = held_there checks.list q id (subst (λ (l : List ℕ). slice_get l q ≡ Some id) laid.ids second) in
      let places = one_place checks.list p q id one.0 two.0 laid.are_checks.rising one.1 two.1 in
      some_same (sym first_at ∙ ap (slice_get index.numbers) places ∙ second_at)
  one_number a b (SetNode zone set) (s, (here, seat)) (t, (there_too, seat_two)) =
      let p = one_of_key (placed_in zones zone) (rising_in zones laid.are_zones.each zone) (record { slot = s; set = set })
      (record { slot = t; set = set }) here there_too refl in
      let seats_same = ap (λ (q : Slotted). seat_of index.seats q.slot) p in
      omega arith
  one_number a b (GroupNode zone name rtype) (xs, (are_xs, first)) (ys, (are_ys, second)) =
      let same = first_same zones laid.are_zones zone name rtype xs ys first.0 second.0 are_xs first.1.0 are_ys second.1.0 in
      let seats_same = ap (group_seat index.seats) same in
      let one = first.1.1 in
      let two = second.1.1 in
      omega arith

  -- ---- each number is that of one node alone

  decided : (number zone : ℕ) (set : RecordSet) → IsOwnNumber zones index number (SetNode zone set)
      → is_watched set ≡ true
  decided number zone set (slot, (here, seat)) = by (is_watched set) refl
    where
      by : (b : Bool) → is_watched set ≡ b → is_watched set ≡ true
      by true on = on
      by false off =
          let none = ap own_part ((laid.wired.its_sets zone (record { slot = slot; set = set }) here).plain off) in
          absurd (omega arith)

  check_early : (number id : ℕ) → IsOwnNumber zones index number (CheckNode id)
      → number < 200
  check_early number id (place, (at, numbered)) = laid.numbers.early place number numbered

  set_late : (number zone : ℕ) (set : RecordSet) → IsOwnNumber zones index number (SetNode zone set)
      → 200 ≤ number
  set_late number zone set (slot, (here, seat)) =
      elim ((laid.wired.its_sets zone (record { slot = slot; set = set }) here).valved (decided number zone set (slot, (here, seat)))) [
        | inl alone ↦
            let none = (seat_bare zone (record { slot = slot; set = set }) here alone.0 alone.1.0 alone.1.1).0 in
            absurd (omega arith)
        | inr g ↦
            let its = g.1 in
            let b = g.2.behind in
            omega arith
      ]

  group_late : (number zone : ℕ) (name : List (List ℕ)) (rtype : RType)
      → IsOwnNumber zones index number (GroupNode zone name rtype)
      → 200 ≤ number
  group_late number zone name rtype (members, (are, seat)) =
      (laid.told.groups seat.0 number seat.1.1).behind

  -- sets in one slot are one
  one_set : (zone other s t : ℕ) (set set_two : RecordSet)
      → IsHere (placed_in zones zone) (record { slot = s; set = set })
      → IsHere (placed_in zones other) (record { slot = t; set = set_two }) → s ≡ t
      → SetNode zone set ≡ SetNode other set_two
  one_set zone other s t set set_two here there_too slots =
      let one : SetRef = record { zone = zone; slot = s } in
      let two : SetRef = record { zone = other; slot = t } in
      let refs : one ≡ two = one_ref zones one two set set_two laid.slots here there_too slots in
      let sets = one_named zones two set set_two laid.are_zones (subst (λ (r : SetRef). RefersTo zones r set) refs here) there_too in
      ap (λ (r : SetRef). SetNode r.zone set) refs ∙ ap (SetNode other) sets

  pub one_node : (number : ℕ) (node other : Node) → IsOwnNumber zones index number node
      → IsOwnNumber zones index number other → node ≡ other
  one_node number (CheckNode id) (CheckNode other) (p, (first, first_at)) (q, (second, second_at)) =
      let places = laid.numbers.apart p q number first_at second_at in
      ap CheckNode (some_same (sym first ∙ ap (slice_get index.ids) places ∙ second))
  one_node number (CheckNode id) (SetNode zone set) first second =
      let early = check_early number id first in
      let late = set_late number zone set second in
      absurd (omega arith)
  one_node number (CheckNode id) (GroupNode zone name rtype) first second =
      let early = check_early number id first in
      let late = group_late number zone name rtype second in
      absurd (omega arith)
  one_node number (SetNode zone set) (CheckNode id) first second =
      let early = check_early number id second in
      let late = set_late number zone set first in
      absurd (omega arith)
  one_node number (SetNode zone set) (SetNode other set_two) (s, (here, seat)) (t, (there_too, seat_two)) =
      one_set zone other s t set set_two here there_too (laid.told.sets s t number seat seat_two)
  one_node number (SetNode zone set) (GroupNode other name rtype) (s, (here, seat)) (members, (are, its)) =
      absurd (laid.told.kinds s its.0 number seat its.1.1)
  one_node number (GroupNode zone name rtype) (CheckNode id) first second =
      let early = check_early number id second in
      let late = group_late number zone name rtype first in
      absurd (omega arith)
  one_node number (GroupNode zone name rtype) (SetNode other set) (members, (are, its)) (s, (here, seat)) =
      absurd (laid.told.kinds s its.0 number seat its.1.1)
  one_node number (GroupNode zone name rtype) (GroupNode other name_two rtype_two) (xs, (are_xs, first)) (ys, (are_ys, second)) =
      let g = laid.told.groups first.0 number first.1.1 in
      let p = first_here xs first.0 first.1.0 in
      let q = first_here ys second.0 second.1.0 in
      let a = g.only first.0 first.1.1 in
      let b = g.only second.0 second.1.1 in
      let one = same_names zones laid.are_zones laid.slots g.zone zone g.name name g.rtype rtype g.members xs a.0 p.0 g.are a.1 are_xs p.1
      (a.2 ∙ sym p.2) in
      let two = same_names zones laid.are_zones laid.slots g.zone other g.name name_two g.rtype rtype_two g.members ys b.0 q.0 g.are b.1 are_ys q.1
      (b.2 ∙ sym q.2) in
      group_nodes zone other name name_two rtype rtype_two (one.0 ∙ sym two.0) (one.1.0 ∙ sym two.1.0) (one.1.1 ∙ sym two.1.1)

  -- it is that of a check, or behind those of 200 checks
  pub early_or_late : (number : ℕ) (node : Node) → IsOwnNumber zones index number node
      → ((place : ℕ) × (slice_get index.numbers place ≡ Some number)) ⊎ (200 ≤ number)
  early_or_late number (CheckNode id) (place, (at, numbered)) = inl (place, numbered)
  early_or_late number (SetNode zone set) is = inr (set_late number zone set is)
  early_or_late number (GroupNode zone name rtype) is = inr (group_late number zone name rtype is)

  -- ---- something has to be open for the valve of a node behind those of checks

  some_target : (zone : ℕ) (rtype : RType) (its : Body) (target : List ℕ) → evaluates its ≡ true
      → IsTarget zones index.seats laid.net laid.own zone rtype its target → 1 ≤ length target
  some_target zone rtype (body.Values ttl values) target on is = absurd (false≢true on)
  some_target zone rtype (body.Alias name evaluate) target on (inl off) = absurd (false≢true (sym off.0 ∙ on))
  some_target zone rtype (body.Alias name evaluate) target on (inr (evaluated, (valve, is, rest))) =
      let one = ap length is in omega (arith, one)

  some_fed : (f : ℕ → ℕ) (check : Option ℕ) (zone : ℕ) (rtype : RType) (its : Body) (target : List ℕ)
      → is_some check || evaluates its ≡ true
      → IsTarget zones index.seats laid.net laid.own zone rtype its target
      → 1 ≤ length (map f (option_to_list check) ++ target)
  some_fed f (Some id) zone rtype its target on is = omega arith
  some_fed f None zone rtype its target on is = some_target zone rtype its target on is

  set_needs : (number zone : ℕ) (set : RecordSet) → IsOwnNumber zones index number (SetNode zone set)
      → 1 ≤ (laid.net.condition number).need
  set_needs number zone set (slot, (here, seat)) =
      let on = decided number zone set (slot, (here, seat)) in
      elim ((laid.wired.its_sets zone (record { slot = slot; set = set }) here).valved on) [
        | inl alone ↦
            let none = (seat_bare zone (record { slot = slot; set = set }) here alone.0 alone.1.0 alone.1.1).0 in
            absurd (omega arith)
        | inr g ↦
            let its = g.1 in
            let is : g.0 ≡ number = omega (arith, its, seat) in
            let some = some_fed (valve_with (ids_of checks.list) index.numbers) set.check zone set.rtype set.body g.2.target on g.2.its_target in
            let need = ap (λ (c : Condition). c.need) g.2.condition in
            subst (λ (n : ℕ). 1 ≤ (laid.net.condition n).need) is (omega (arith, need, some))
      ]

  group_needs : (number zone : ℕ) (name : List (List ℕ)) (rtype : RType)
      → IsOwnNumber zones index number (GroupNode zone name rtype) → 1 ≤ (laid.net.condition number).need
  group_needs number zone name rtype (members, (are, seat)) =
      let y = laid.told.groups seat.0 number seat.1.1 in
      let p = y.led.0 in
      let is = y.led.1.1 in
      let on : is_watched p.set ≡ true = ap (λ (b : Body). is_some p.set.check || evaluates b) is.0 ∙ or_true p.set.check in
      elim ((laid.wired.its_sets y.zone p y.led.1.0).valved on) [
        | inl alone ↦ absurd (false≢true (sym alone.1.0.0 ∙ ap evaluates is.0))
        | inr g ↦
            by y p.set.rtype is.1 g.2.target (subst (λ (b : Body). IsTarget zones index.seats laid.net laid.own y.zone p.set.rtype b g.2.target)
            is.0 g.2.its_target)
      ]
    where
      by : (y : IsOfOneGroup zones index.seats number) (t : RType) → t ≡ y.rtype → (target : List ℕ)
          → IsTarget zones index.seats laid.net laid.own y.zone t (body.Alias y.name true) target
          → 1 ≤ (laid.net.condition number).need
      by y t same target (inl off) = absurd (false≢true (sym off.0))
      by y t same target (inr (evaluated, (valve, is, (ms, its, w)))) =
          let f = first_here ms w.seat.0 w.seat.1.0 in
          let among = member_there zones laid.are_zones y.zone y.name y.rtype ms y.members f.0
          (subst (λ (r : RType). AreMembers zones y.zone y.name r ms) same its) f.1 y.are in
          let mine = y.each f.0 among in
          let told = w.each f.0 f.1 in
          let one : valve ≡ number = omega (arith, mine, told) in
          let need = ap (λ (c : Condition). c.need) w.condition in
          subst (λ (n : ℕ). 1 ≤ (laid.net.condition n).need) one (omega (arith, need))

  needs : (number : ℕ) (node : Node) → IsOwnNumber zones index number node → 200 ≤ number
      → 1 ≤ (laid.net.condition number).need
  needs number (CheckNode id) is late = let early = check_early number id is in absurd (omega arith)
  needs number (SetNode zone set) is late = set_needs number zone set is
  needs number (GroupNode zone name rtype) is late = group_needs number zone name rtype is

  pub not_vacant : (number : ℕ) (node : Node) → IsOwnNumber zones index number node → IsVacant laid.net number → ⊥
  not_vacant number node is vacant =
      let some = needs number node is vacant.0 in
      let none = ap (λ (c : Condition). c.need) vacant.1 in
      omega (arith, some, none)

  not_spare : (number : ℕ)
      → ((place : ℕ) × (slice_get index.numbers place ≡ Some number)) ⊎ (200 ≤ number)
      → IsSpare index.numbers number → ⊥
  not_spare number (inl early) spare = spare.1 early.0 early.1
  not_spare number (inr late) spare = let before = spare.0 in omega arith

  -- the valve of the number of a node is that of the node
  pub valve_for : (number : ℕ) (node : Node) → IsOwnNumber zones index number node
      → IsValveFor zones checks.list index.numbers index.seats laid.net laid.own number node
  valve_for number node is =
      elim (laid.wired.its_nodes number (there number node is)) [
        | inl spare ↦ absurd (not_spare number (early_or_late number node is) spare)
        | inr (inl vacant) ↦ absurd (not_vacant number node is vacant)
        | inr (inr n) ↦
            subst (IsValveFor zones checks.list index.numbers index.seats laid.net laid.own number)
            (one_node number n.0 node (of_valve number n.0 n.1) is) n.1
      ]

  -- ---- which nodes have numbers

  size_same : size_of index.valves ≡ laid.net.size
  size_same = laid.fits.laid.size

  check_number : (id : ℕ) (check : Check) → check_with checks.list id ≡ Some check
      → HasNumber zones index (CheckNode id)
  check_number id check at =
      let place = place_of (ids_of checks.list) id in
      let in_ids = id_there checks.list place id check (found checks.list id check at) in (
        valve_with (ids_of checks.list) index.numbers id,
        inl (
          place,
          (
            ap (λ (l : List ℕ). slice_get l place) laid.ids ∙ in_ids,
            valve_there (ids_of checks.list) index.numbers (ids_valves checks.list index.numbers laid.numbers) place id in_ids,
          ),
        ),
      )

  -- the number of a set that something decides
  pub set_number : (zone : ℕ) (p : Slotted) → IsHere (placed_in zones zone) p → is_watched p.set ≡ true
      → HasNumber zones index (SetNode zone p.set)
  set_number zone p here on = elim ((laid.wired.its_sets zone p here).valved on) [
    | inl alone ↦ (
      size_of index.valves + p.slot,
      inr (p.slot, (here, (seat_bare zone p here alone.0 alone.1.0 alone.1.1, refl))),
    )
    | inr g ↦ (g.0, inl (p.slot, (here, g.1)))
  ]

  target_number : (zone : ℕ) (p : Slotted) (name : List (List ℕ)) → IsHere (placed_in zones zone) p
      → p.set.body ≡ body.Alias name true → HasNumber zones index (GroupNode zone name p.set.rtype)
  target_number zone p name here is =
      let on : is_watched p.set ≡ true = ap (λ (b : Body). is_some p.set.check || evaluates b) is ∙ or_true p.set.check in
      elim ((laid.wired.its_sets zone p here).valved on) [
        | inl alone ↦ absurd (false≢true (sym alone.1.0.0 ∙ ap evaluates is))
        | inr g ↦
            by g.2.target (subst (λ (b : Body). IsTarget zones index.seats laid.net laid.own zone p.set.rtype b g.2.target)
            is g.2.its_target)
      ]
    where
      by : (target : List ℕ)
          → IsTarget zones index.seats laid.net laid.own zone p.set.rtype (body.Alias name true) target
          → HasNumber zones index (GroupNode zone name p.set.rtype)
      by target (inl (off, without)) = absurd (false≢true (sym off))
      by target (inr (evaluated, (valve, target_is, (members, are, w)))) = (valve, inl (members, (are, w.seat)))

  -- an evaluated alias leads to a group with a number
  led_own : (number zone : ℕ) (name : List (List ℕ)) (rtype : RType)
      → IsOwnNumber zones index number (GroupNode zone name rtype) → IsLedTo zones zone name rtype
  led_own number zone name rtype (members, (are, seat)) =
      let g = laid.told.groups seat.0 number seat.1.1 in
      let p = first_here members seat.0 seat.1.0 in
      let q = g.only seat.0 seat.1.1 in
      let one = same_names zones laid.are_zones laid.slots zone g.zone name g.name rtype g.rtype members g.members p.0 q.0 are p.1 g.are q.1
      (p.2 ∙ sym q.2) in
      subst (λ (r : RType). IsLedTo zones zone name r) one.1.1
      (subst (λ (n : List (List ℕ)). IsLedTo zones zone n g.rtype) one.1.0
      (subst (λ (z : ℕ). IsLedTo zones z g.name g.rtype) one.0 g.led))

  led_to : (number zone : ℕ) (name : List (List ℕ)) (rtype : RType)
      → IsNumberOf zones index number (GroupNode zone name rtype) → IsLedTo zones zone name rtype
  led_to number zone name rtype (inl own) = led_own number zone name rtype own
  led_to number zone name rtype (inr none) = absurd none

  pub decided_by : (number zone : ℕ) (set : RecordSet) → IsNumberOf zones index number (SetNode zone set)
      → is_watched set ≡ true
  decided_by number zone set (inl own) = decided number zone set own
  decided_by number zone set (inr (slot, (here, (tells, is)))) = by (is_watched set) refl
    where
      by : (b : Bool) → is_watched set ≡ b → is_watched set ≡ true
      by true on = on
      by false off = absurd (tells.1 ((laid.wired.its_sets zone (record { slot = slot; set = set }) here).plain off))

  -- a number behind those of all valves
  pub past : (number : ℕ) (node : Node) → IsNumberBehind zones index number node
      → size_of index.valves ≤ number
  past number (CheckNode id) none = absurd none
  past number (SetNode zone set) (slot, (here, (tells, is))) = omega arith
  past number (GroupNode zone name rtype) none = absurd none

  apart_own : (number : ℕ) (node other : Node) → IsOwnNumber zones index number node
      → IsNumberBehind zones index number other → ⊥
  apart_own number node other own behind =
      let within = there number node own in
      let late = past number other behind in
      let size = size_same in
      omega arith

  one_behind : (number : ℕ) (node other : Node) → IsNumberBehind zones index number node
      → IsNumberBehind zones index number other → node ≡ other
  one_behind number (CheckNode id) other none second = absurd none
  one_behind number (SetNode zone set) (CheckNode id) first none = absurd none
  one_behind number (SetNode zone set) (SetNode other set_two) (s, (here, (tells, is))) (t, (there_too, (tells_two, is_two))) =
      one_set zone other s t set set_two here there_too (omega arith)
  one_behind number (SetNode zone set) (GroupNode other name rtype) first none = absurd none
  one_behind number (GroupNode zone name rtype) other none second = absurd none

  pub node_of_one : (number : ℕ) (node other : Node) → IsNumberOf zones index number node
      → IsNumberOf zones index number other → node ≡ other
  node_of_one number node other (inl first) (inl second) = one_node number node other first second
  node_of_one number node other (inl first) (inr second) = absurd (apart_own number node other first second)
  node_of_one number node other (inr first) (inl second) = absurd (apart_own number other node second first)
  node_of_one number node other (inr first) (inr second) = one_behind number node other first second

  -- a set has one of the two kinds
  one_kind : (a b : ℕ) (node : Node) → IsOwnNumber zones index a node → IsNumberBehind zones index b node → ⊥
  one_kind a b (CheckNode id) own none = none
  one_kind a b (SetNode zone set) (s, (here, seat)) (t, (there_too, (tells, is))) =
      let p = one_of_key (placed_in zones zone) (rising_in zones laid.are_zones.each zone) (record { slot = s; set = set })
      (record { slot = t; set = set }) here there_too refl in
      let seats_same = ap (λ (q : Slotted). seat_of index.seats q.slot) p in
      let none = tells.0 in
      omega arith
  one_kind a b (GroupNode zone name rtype) own none = none

  both_behind : (a b : ℕ) (node : Node) → IsNumberBehind zones index a node
      → IsNumberBehind zones index b node → a ≡ b
  both_behind a b (CheckNode id) none second = absurd none
  both_behind a b (SetNode zone set) (s, (here, (tells, is))) (t, (there_too, (tells_two, is_two))) =
      let p = one_of_key (placed_in zones zone) (rising_in zones laid.are_zones.each zone) (record { slot = s; set = set })
      (record { slot = t; set = set }) here there_too refl in
      let slots = ap (λ (q : Slotted). q.slot) p in
      omega arith
  both_behind a b (GroupNode zone name rtype) none second = absurd none

  number_of_one : (a b : ℕ) (node : Node) → IsNumberOf zones index a node
      → IsNumberOf zones index b node → a ≡ b
  number_of_one a b node (inl first) (inl second) = one_number a b node first second
  number_of_one a b node (inl first) (inr second) = absurd (one_kind a b node first second)
  number_of_one a b node (inr first) (inl second) = absurd (one_kind b a node second first)
  number_of_one a b node (inr first) (inr second) = both_behind a b node first second

  -- which numbers there are
  by_valve : (number : ℕ) → number < laid.net.size
      → ((place : ℕ) × (slice_get index.numbers place ≡ Some number)) ⊎ (200 ≤ number)
      → (IsVacant laid.net number → ⊥) → (node : Node) × IsNumberOf zones index number node
  by_valve number within place taken = elim (laid.wired.its_nodes number within) [
    | inl spare ↦ absurd (not_spare number place spare)
    | inr (inl vacant) ↦ absurd (taken vacant)
    | inr (inr n) ↦ (n.0, inl (of_valve number n.0 n.1))
  ]

  -- all nets for which the valves stand have one need
  one_need : (net : Net) (own : ℕ → ℕ) → ValvesStandFor net own index.valves → (number : ℕ)
      → number < size_of index.valves → (net.condition number).need ≡ (laid.net.condition number).need
  one_need net own fits number within =
      let row = filled index.valves.rows.items number within in
      sym (fits.laid.each_row number row.0 row.1).need ∙ (laid.fits.laid.each_row number row.0 row.1).need

  vacant_needs : (number : ℕ) → number < size_of index.valves → IsVacant laid.net number
      → Needs index.valves number 0
  vacant_needs number within vacant net own fits =
      one_need net own fits number within ∙ ap (λ (c : Condition). c.need) vacant.1

  pub of_each : (number : ℕ) → HasNode index number → (node : Node) × IsNumberOf zones index number node
  of_each number (inl (place, numbered)) =
      let early = laid.numbers.early place number numbered in
      let most = laid.wired.many in
      by_valve number (omega arith) (inl (place, numbered)) (λ vacant. let late = vacant.0 in omega (arith, early, late))
  of_each number (inr (inl (late, (within, some)))) =
      let size = size_same in
      by_valve number (omega arith) (inr late) (λ vacant. some (vacant_needs number within vacant))
  of_each number (inr (inr (late, tells))) =
      let taken = laid.told.here (number - size_of index.valves) tells.1 in
      let ref = taken.0 in
      let slots : ref.slot ≡ number - size_of index.valves = taken.1.1.1 in (
        SetNode ref.zone taken.1.0,
        inr (ref.slot, (taken.1.1.0, (subst (TellsOfCheck index.seats) (sym slots) tells, omega arith))),
      )

  behind_there : (number : ℕ) (node : Node) → IsNumberBehind zones index number node
      → TellsOfCheck index.seats (number - size_of index.valves)
  behind_there number (CheckNode id) none = absurd none
  behind_there number (SetNode zone set) (slot, (here, (tells, is))) =
      let same : slot ≡ number - size_of index.valves = omega arith in
      subst (TellsOfCheck index.seats) same tells
  behind_there number (GroupNode zone name rtype) none = absurd none

  pub of_only : (number : ℕ) (node : Node) → IsNumberOf zones index number node → HasNode index number
  of_only number node (inl own) =
      let size = size_same in
      let within = there number node own in
      elim (early_or_late number node own) [
        | inl early ↦ inl early
        | inr late ↦ inr (inl (
          late,
          (
            omega arith,
            λ none.
                let some = needs number node own late in
                let zero = none laid.net laid.own laid.fits in
                omega (arith, some, zero),
          ),
        ))
      ]
  of_only number node (inr behind) = inr (inr (past number node behind, behind_there number node behind))

pub nodes_are_numbered : NodesAreNumbered
nodes_are_numbered zones checks reports index laid = record {
  each = of_each zones checks reports index laid;
  only = of_only zones checks reports index laid;
  one = number_of_one zones checks reports index laid;
  apart = node_of_one zones checks reports index laid;
  its_checks = check_number zones checks reports index laid;
  its_sets = set_number zones checks reports index laid;
  decided = decided_by zones checks reports index laid;
  targets = target_number zones checks reports index laid;
  led = led_to zones checks reports index laid;
}
