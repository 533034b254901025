-- An index that stands for a configuration tells its health.
use Rattle.std.proofs.Common.{◌≡◌, ◌<◌, ◌+◌, ◌*◌, ◌-◌, ℕ, zero, suc, Bool, true, false, List, [], ◌∷◌, ◌++◌, length, map, add-one, arith, refl, ap, sym, ◌∙◌, inl, inr, Some, None, Option}
use Rattle.std.specs.Prelude.{◌&&◌, ◌||◌, ◌⊎◌, nat_le, nat_lt, is_some, slice_get, slice_index}
use Rattle.std.specs.List.{filter, list_any}
use Rattle.std.specs.Option.{option_to_list}
use Rattle.std.proofs.lemmas.Bool.{cases_lt, false≢true, le-leb, le-ltb, lt-leb, lt-ltb}
use mathlib.Core.Path.{subst}
use Rattle.calculated_health.specs.Status.{swapped_if}
use Rattle.check_model.specs.Checks.{Checks, children_of}
use Rattle.check_model.specs.declared.checks.Check.{Check}
use Rattle.check_model.specs.declared.checks.Check.TheVariants.{Endpoint, Calculated}
use Rattle.health_valves.specs.Valves.{MeetsEquation, Condition, Net, count, equation, size_of, value_of}
use Rattle.health_valves.specs.Pass.{MeetAll}
use Rattle.health_model.proofs.Members.{of_filter}
use Rattle.health_model.specs.Healthy.{Watched, by_check, by_target, group_value, set_value, sets_of as sets_at}
use Rattle.health_model.specs.Laws.{OneHealth}
use Rattle.health_model.specs.Nodes.{CheckNode, GroupNode, IsNode, Meets, Node, SetNode, local}
use Rattle.health_model.specs.Statuses.{Report, check_value, passing, value_there}
use Rattle.health_planning.specs.Groups.{Agrees, ViewsAgree, by_key}
use Rattle.rdata_layout.specs.declared.types.RType.{RType}
use Rattle.record_set.specs.declared.sets.Body.{Body}
use Rattle.record_set.specs.declared.sets.Body.TheVariants as body
use Rattle.record_set.specs.declared.sets.RecordSet.{RecordSet}
use Rattle.health_planning.specs.Telling.{evaluates}
use Rattle.health_planning.specs.Zones.{Zone, placed_in}
use Rattle.health_planning.specs.SetRefRecord.{SetRef}
use Rattle.zone_model.specs.Slotted.{IsHere, Slotted, sets_of}
use Rattle.zone_model.specs.Zones.{IsAmong, group, is_of_group}
use Rattle.health_planning.specs.Looking.{RefersTo}
use Rattle.health_index.specs.Index.{HasNumber, Index, IsLaidFor, IsNumberBehind, IsNumberOf, StandsFor, healthy_in, value_at}
use Rattle.health_index.specs.Laws.{IndexTells, NodesHaveValues, StandsWhereAllMeet}
use Rattle.health_index.specs.Values.{AreValues, members_in, node_value, seat_in, value_of_set, value_or}
use Rattle.health_planning.proofs.MembersOfZoneList.{set_in}
use Rattle.health_planning.proofs.Ending.{condition_seated}
use Rattle.health_planning.proofs.Numbers.{ids_valves, number_is, valve_there}
use Rattle.health_planning.proofs.Places.{found, id_at, id_there, one_place}
use Rattle.health_planning.proofs.Watching.{zone_sets as sets_seen}
use Rattle.health_planning.proofs.Wiring.{first_here, first_of, member_there}
use Rattle.health_index.proofs.Keyed.{grouped_sets}
use Rattle.health_index.proofs.Alone.{alone_decides, early_in}
use Rattle.health_index.proofs.Numbering.{of_valve, set_number, there, valve_for}
use Rattle.health_planning.proofs.Told.{own_suc}
use Rattle.health_planning.specs.Wired.{AreMembers, IsAlone, IsFirstIn, IsValveFor, IsGroupValve, IsGroupSeat, IsTarget, check_need, check_own, check_condition, valves_of, group_seat, ids_of, is_inverted, is_watched, open_in, place_of, plain_among, seat_of, set_seat, spare_condition, valve_with, watched_of, with_valve, plain}
use Rattle.health_planning.specs.declared.seats.Seat.{Seat}

-- a valve at which nothing has to be counted is open
spare_open : (net : Net) (own : ℕ → ℕ) (v : ℕ → Bool) (valve : ℕ) → net.condition valve ≡ spare_condition
    → equation net own v valve ≡ true
spare_open net own v valve is =
    ap (λ (c : Condition). swapped_if c.inverted (nat_le c.need (own valve + count v c.feeders))) is
    ∙ le-leb 0 (own valve + 0) (omega arith)

-- ---- lists

-- the sets of a zone, as health sees them
pub zone_sets : (zones : List Zone) (checks : Checks) (zone : ℕ)
    → sets_at (watched_of zones checks) zone ≡ sets_of (placed_in zones zone)
zone_sets zones checks zone = sets_seen zones checks zone

among_mapped : {X Y : Type 0} (f : X → Y) (xs : List X) (y : Y) → IsAmong (map f xs) y
    → (x : X) × IsAmong xs x × (f x ≡ y)
among_mapped f [] y m = absurd m
among_mapped f (x ∷ xs) y (inl is) = (x, inl refl, is)
among_mapped f (x ∷ xs) y (inr m) =
    let r = among_mapped f xs y m in (r.0, inr r.1, r.2)

any_same : {X : Type 0} (p q : X → Bool) (xs : List X)
    → ((x : X) → IsAmong xs x → p x ≡ q x) → list_any p xs ≡ list_any q xs
any_same p q [] same = refl
any_same p q (x ∷ xs) same =
    ap (λ (b : Bool). b || list_any p xs) (same x (inl refl))
    ∙ ap (λ (b : Bool). q x || b) (any_same p q xs (λ y m. same y (inr m)))

any_mapped : (q : RecordSet → Bool) (members : List Slotted)
    → list_any q (sets_of members) ≡ list_any (λ (m : Slotted). q m.set) members
any_mapped q [] = refl
any_mapped q (m ∷ members) = ap (λ (b : Bool). q m.set || b) (any_mapped q members)

-- ---- a group's valve

one_more : (v : ℕ → Bool) (seat plains : ℕ) (valves : List ℕ) (any : Bool)
    → nat_le 1 (plains + count v valves) ≡ any
    → nat_le 1 (plain seat + plains + count v (with_valve seat valves)) ≡ open_in v seat || any
one_more v zero plains valves any e = le-leb 1 (1 + plains + count v valves) (omega arith)
one_more v (suc valve) plains valves any e = step (v valve) refl
  where
    step : (b : Bool) → v valve ≡ b
        → nat_le 1 (0 + plains + count v (valve ∷ valves)) ≡ v valve || any
    step true is = rw is (le-leb 1 (0 + plains + (count v valves + 1)) (omega arith))
    step false is = let same : 0 + plains + count v valves ≡ plains + count v valves = omega arith in rw (is, same) e

one_open : (v : ℕ → Bool) (seats : List Seat) (members : List Slotted)
    → nat_le 1 (plain_among seats members + count v (valves_of seats members))
    ≡ list_any (λ (p : Slotted). open_in v (seat_of seats p.slot)) members
one_open v seats [] = refl
one_open v seats (p ∷ members) =
    one_more v (seat_of seats p.slot) (plain_among seats members) (valves_of seats members)
    (list_any (λ (m : Slotted). open_in v (seat_of seats m.slot)) members) (one_open v seats members)

-- ---- the valve of a check

ten : (passing : ℕ) → nat_le 10 (passing + 0) ≡ nat_lt 900 (100 * passing)
ten passing = elim (cases_lt passing 10) [
  | inl few ↦ lt-leb 10 (passing + 0) (omega arith) ∙ sym (le-ltb 900 (100 * passing) (omega arith))
  | inr many ↦ le-leb 10 (passing + 0) (omega arith) ∙ sym (lt-ltb 900 (100 * passing) (omega arith))
]

pub children_counted : (v : ℕ → Bool) (ids numbers children : List ℕ)
    → count v (map (valve_with ids numbers) children)
    ≡ length (filter (λ (child : ℕ). v (valve_with ids numbers child)) children)
children_counted v ids numbers [] = refl
children_counted v ids numbers (child ∷ children) =
    step (v (valve_with ids numbers child)) refl (children_counted v ids numbers children)
  where
    step : (b : Bool) → v (valve_with ids numbers child) ≡ b
        → count v (map (valve_with ids numbers) children)
        ≡ length (filter (λ (c : ℕ). v (valve_with ids numbers c)) children)
        → count v (map (valve_with ids numbers) (child ∷ children))
        ≡ length (filter (λ (c : ℕ). v (valve_with ids numbers c)) (child ∷ children))
    step true e r = rw (e, r) (add-one _)
    step false e r = rw e r

check_equation : (v : ℕ → Bool) (ids numbers : List ℕ) (check : Check) (passing : ℕ → ℕ)
    → swapped_if (is_inverted check) (nat_le (check_need check)
    (check_own check passing + count v (map (valve_with ids numbers) (children_of check))))
    ≡ check_value check passing (λ child. v (valve_with ids numbers child))
check_equation v ids numbers (Endpoint threshold inverted true) passing =
    ap (swapped_if inverted) (le-leb 0 (passing threshold + 0) (omega arith))
check_equation v ids numbers (Endpoint threshold inverted false) passing =
    ap (swapped_if inverted) (ten (passing threshold))
check_equation v ids numbers (Calculated threshold inverted true children) passing =
    ap (swapped_if inverted) (le-leb 0 (0 + count v (map (valve_with ids numbers) children)) (omega arith))
check_equation v ids numbers (Calculated threshold inverted false children) passing =
    let same : 0 + count v (map (valve_with ids numbers) children) ≡ length (filter (λ (child : ℕ). v (valve_with ids numbers child)) children) = let c = children_counted v
    ids numbers children in omega arith in
    ap (λ (n : ℕ). swapped_if inverted (nat_le threshold n)) same

-- ---- the valve of a set

module _ (v : ℕ → Bool) (place : ℕ → ℕ) where
  by_one : (check : Option ℕ)
      → nat_le (length (map place (option_to_list check) ++ []))
      (0 + count v (map place (option_to_list check) ++ []))
      ≡ by_check (λ id. v (place id)) check && true
  by_one None = refl
  by_one (Some id) = step (v (place id)) refl
    where
      step : (b : Bool) → v (place id) ≡ b
          → nat_le 1 (0 + count v (place id ∷ [])) ≡ v (place id) && true
      step true e = rw e refl
      step false e = rw e refl

  by_both : (check : Option ℕ) (valve : ℕ)
      → nat_le (length (map place (option_to_list check) ++ valve ∷ []))
      (0 + count v (map place (option_to_list check) ++ valve ∷ []))
      ≡ by_check (λ id. v (place id)) check && v valve
  by_both None valve = step (v valve) refl
    where
      step : (b : Bool) → v valve ≡ b
          → nat_le 1 (0 + count v (valve ∷ [])) ≡ true && v valve
      step true e = rw e refl
      step false e = rw e refl
  by_both (Some id) valve = step (v (place id)) (v valve) refl refl
    where
      step : (a b : Bool) → v (place id) ≡ a → v valve ≡ b
          → nat_le 2 (0 + count v (place id ∷ valve ∷ [])) ≡ v (place id) && v valve
      step true true e f = rw (e, f) refl
      step true false e f = rw (e, f) refl
      step false true e f = rw (e, f) refl
      step false false e f = rw (e, f) refl

-- nothing decides a set that isn't watched
nothing_decides : (check : ℕ → Bool) (healthy_group : List (List ℕ) → RType → Bool)
    (set : RecordSet) → is_watched set ≡ false → set_value check healthy_group set ≡ true
nothing_decides check healthy_group set e = go set.check set.body e
  where
    go : (named : Option ℕ) (its : Body) → is_some named || evaluates its ≡ false
        → by_check check named && by_target healthy_group set.rtype its ≡ true
    go None (body.Values ttl values) e = refl
    go None (body.Alias name true) e = absurd (false≢true (sym e))
    go None (body.Alias name false) e = refl
    go (Some id) its e = absurd (false≢true (sym e))

-- ---- the values and the equations of nodes

-- the set of a list that is in it
mapped : (placed : List Slotted) (p : Slotted) → IsAmong placed p → IsAmong (sets_of placed) p.set
mapped [] p m = m
mapped (q ∷ placed) p (inl is) = inl (ap (λ (x : Slotted). x.set) is)
mapped (q ∷ placed) p (inr m) = inr (mapped placed p m)

pub is_node : (zones : List Zone) (checks : Checks) (set : SetRef) (named : RecordSet)
    → RefersTo zones set named → IsNode (watched_of zones checks) (SetNode set.zone named)
is_node zones checks set named names =
    subst (λ (sets : List RecordSet). IsAmong sets named) (sym (zone_sets zones checks set.zone))
    (mapped (placed_in zones set.zone) (record { slot = set.slot; set = named }) names)

group_there : (zones : List Zone) (checks : Checks) (zone : ℕ) (name : List (List ℕ))
    (rtype : RType) (members : List Slotted) (slot : ℕ)
    → AreMembers zones zone name rtype members → IsFirstIn members slot
    → IsNode (watched_of zones checks) (GroupNode zone name rtype)
group_there zones checks zone name rtype members slot are first =
    let f = first_here members slot first in (
      f.0.set,
      subst (λ (l : List RecordSet). IsAmong (group l name rtype) f.0.set) (sym (zone_sets zones checks zone))
          (subst (λ (l : List RecordSet). IsAmong l f.0.set) are.sets (set_in members f.0 f.1)),
    )

-- the sets of a group are its members
listed_are : (zones : List Zone) (zone : ℕ) (name : List (List ℕ)) (rtype : RType)
    → AreMembers zones zone name rtype (members_in zones zone name rtype)
listed_are zones zone name rtype = record {
  sets = grouped_sets name rtype (placed_in zones zone);
  here = λ p m. of_filter (λ (x : Slotted). is_of_group name rtype x.set) (placed_in zones zone) p m;
}

-- what the seat of the first of some sets tells
seat_first : (seats : List Seat) (members : List Slotted) (p : Slotted)
    → slice_get members 0 ≡ Some p → seat_in seats members ≡ group_seat seats p.slot
seat_first seats [] p at = let no : ⊥ = cc in absurd no
seat_first seats (q ∷ members) p at =
    ap (λ (o : Slotted). group_seat seats o.slot) (some_same at)
  where
    some_same : {X : Type 0} {x y : X} → Some x ≡ Some y → x ≡ y
    some_same e = cc

-- a group whose first set's seat tells a number has that number
first_seated : (seats : List Seat) (members : List Slotted) (valve : ℕ)
    → seat_in seats members ≡ suc valve → IsGroupSeat seats members valve
first_seated seats [] valve is = absurd (omega arith)
first_seated seats (p ∷ members) valve is = (p.slot, ((p, refl, refl), is))

module _ (zones : List Zone) (checks : Checks) (reports : List Report) (index : Index)
    (laid : IsLaidFor zones checks reports index)
    (agrees : Agrees zones (healthy_in index) (by_key zones (healthy_in index))) where
  abbrev valve_open : ℕ → Bool
  valve_open = value_of index.valves

  abbrev its_ids : List ℕ
  its_ids = ids_of checks.list

  abbrev watched : Watched
  watched = watched_of zones checks

  abbrev v : Node → Bool
  v = node_value zones index

  abbrev of_check : ℕ → Bool
  of_check id = valve_open (valve_with its_ids index.numbers id)

  abbrev of_group : (zone : ℕ) → (name : List (List ℕ)) → RType → Bool
  of_group zone name rtype = v (GroupNode zone name rtype)

  abbrev IsValve : (valve : ℕ) → Node → Type 0
  IsValve valve node = IsValveFor zones checks.list index.numbers index.seats laid.net laid.own valve node

  -- the equation of a valve with this condition
  condition_equals : (valve own : ℕ) (condition : Condition) → laid.net.condition valve ≡ condition → laid.own valve ≡ own
      → swapped_if condition.inverted (nat_le condition.need (own + count valve_open condition.feeders))
      ≡ equation laid.net laid.own valve_open valve
  condition_equals valve own condition is its = sym (
      ap (λ (r : Condition). swapped_if r.inverted (nat_le r.need (laid.own valve + count valve_open r.feeders))) is
      ∙ ap (λ (n : ℕ). swapped_if condition.inverted (nat_le condition.need (n + count valve_open condition.feeders))) its)

  -- ---- the values of nodes with valves

  check_valued : (place valve id : ℕ) (check : Check) → slice_get checks.list place ≡ Some (id, check)
      → slice_get index.numbers place ≡ Some valve → v (CheckNode id) ≡ valve_open valve
  check_valued place valve id check at numbered =
      let its = id_at checks.list place id check laid.are_checks.rising at in
      let first = one_place checks.list (place_of its_ids id) place id check check laid.are_checks.rising (found checks.list id check its) at in
      ap (λ (ids : List ℕ). valve_open (valve_with ids index.numbers id)) laid.ids
      ∙ ap (λ (n : ℕ). valve_open (slice_index index.numbers n)) first
      ∙ ap valve_open (number_is index.numbers place valve numbered)

  seated : (zone : ℕ) (p : Slotted) → IsHere (placed_in zones zone) p
      → v (SetNode zone p.set) ≡ open_in valve_open (set_seat index.seats p.slot)
  seated zone p here = sym (agrees (record { zone = zone; slot = p.slot }) p.set here)

  group_valued : (zone : ℕ) (name : List (List ℕ)) (rtype : RType) (members : List Slotted) (valve : ℕ)
      → AreMembers zones zone name rtype members
      → IsGroupValve index.seats laid.net laid.own members valve
      → of_group zone name rtype ≡ valve_open valve
  group_valued zone name rtype members valve are w =
      let listed = members_in zones zone name rtype in
      let are_listed = listed_are zones zone name rtype in
      let p = first_here members w.seat.0 w.seat.1.0 in
      let there = member_there zones laid.are_zones zone name rtype members listed p.0 are p.1 are_listed in
      let f = first_of listed p.0 there in
      let back = member_there zones laid.are_zones zone name rtype listed members f.p are_listed f.here are in
      ap (λ (n : ℕ). value_or valve_open n
      (group_value (value_of_set zones index zone) (sets_of (placed_in zones zone)) name rtype))
      (seat_first index.seats listed f.p f.at ∙ w.each f.p back)

  -- the value of a node with a valve is that of the valve
  pub valued : (valve : ℕ) (n : Node) → IsValve valve n → v n ≡ valve_open valve
  valued valve (CheckNode id) (place, (check, (at, numbered))) = check_valued place valve id check at numbered
  valued valve (SetNode zone set) (slot, (here, seat)) =
      seated zone (record { slot = slot; set = set }) here
      ∙ ap (open_in valve_open) (own_suc (set_seat index.seats slot) valve seat)
  valued valve (GroupNode zone name rtype) (members, (are, w)) =
      group_valued zone name rtype members valve are w

  -- ---- their equations

  check_equals : (place valve id : ℕ) (check : Check) → slice_get checks.list place ≡ Some (id, check)
      → slice_get index.numbers place ≡ Some valve
      → local watched reports v (CheckNode id) ≡ equation laid.net laid.own valve_open valve
  check_equals place valve id check at numbered =
      let w = laid.wired.its_checks place valve id check at numbered in
      ap (λ (o : Option Check). value_there o (passing reports id) (λ child. v (CheckNode child)))
      (id_at checks.list place id check laid.are_checks.rising at)
      ∙ ap (λ (ids : List ℕ). check_value check (passing reports id) (λ child. valve_open (valve_with ids index.numbers child))) laid.ids
      ∙ sym (check_equation valve_open its_ids index.numbers check (passing reports id))
      ∙ condition_equals valve (check_own check (passing reports id)) (check_condition its_ids index.numbers check) w.condition w.its_own

  group_equals : (zone : ℕ) (name : List (List ℕ)) (rtype : RType) (members : List Slotted) (valve : ℕ)
      → AreMembers zones zone name rtype members
      → IsGroupValve index.seats laid.net laid.own members valve
      → local watched reports v (GroupNode zone name rtype)
      ≡ equation laid.net laid.own valve_open valve
  group_equals zone name rtype members valve are w = sym (
      sym (condition_equals valve (plain_among index.seats members) _ w.condition w.its_own)
      ∙ one_open valve_open index.seats members
      ∙ any_same (λ (p : Slotted). open_in valve_open (seat_of index.seats p.slot)) (λ (p : Slotted). value_of_set zones index zone p.set) members
      (λ p m. sym (seated zone p (are.here p m) ∙ ap (open_in valve_open) (laid.wired.its_members p.slot valve (w.each p m))))
      ∙ sym (any_mapped (value_of_set zones index zone) members)
      ∙ ap (list_any (value_of_set zones index zone)) are.sets
      ∙ ap (λ (sets : List RecordSet). list_any (value_of_set zones index zone) (filter (is_of_group name rtype) sets)) (sym (zone_sets zones checks zone)))

  target_equals : (zone : ℕ) (set : RecordSet) (rtype : RType) (its : Body) (target : List ℕ)
      → IsTarget zones index.seats laid.net laid.own zone rtype its target
      → nat_le (length (map (valve_with its_ids index.numbers) (option_to_list set.check) ++ target))
      (0 + count valve_open (map (valve_with its_ids index.numbers) (option_to_list set.check) ++ target))
      ≡ by_check of_check set.check && by_target (of_group zone) rtype its
  target_equals zone set rtype (body.Values ttl values) target is =
      rw is (by_one valve_open (valve_with its_ids index.numbers) set.check)
  target_equals zone set rtype (body.Alias name evaluate) target (inl (off, is)) =
      rw (is, off) (by_one valve_open (valve_with its_ids index.numbers) set.check)
  target_equals zone set rtype (body.Alias name evaluate) target (inr (on, (valve, is, (members, are, w)))) =
      rw (is, on, group_valued zone name rtype members valve are w) (by_both valve_open (valve_with its_ids index.numbers) set.check valve)

  set_equals : (zone : ℕ) (p : Slotted) (valve : ℕ) → IsHere (placed_in zones zone) p
      → seat_of index.seats p.slot ≡ suc valve
      → local watched reports v (SetNode zone p.set) ≡ equation laid.net laid.own valve_open valve
  set_equals zone p valve here seat =
      let w = (condition_seated zones its_ids index.numbers index.seats laid.net laid.own laid.wired.its_sets
      (early_in zones checks index.numbers laid.numbers laid.sound) zone p valve here seat).is in
      ap (λ (ids : List ℕ). by_check (λ id. valve_open (valve_with ids index.numbers id)) p.set.check && by_target (of_group zone) p.set.rtype p.set.body) laid.ids
      ∙ sym (target_equals zone p.set p.set.rtype p.set.body w.target w.its_target)
      ∙ condition_equals valve 0 _ w.condition w.its_own

  -- the local equation of a node with a valve is that of the valve
  pub equals : (valve : ℕ) (n : Node) → IsValve valve n
      → local watched reports v n ≡ equation laid.net laid.own valve_open valve
  equals valve (CheckNode id) (place, (check, (at, numbered))) = check_equals place valve id check at numbered
  equals valve (SetNode zone set) (slot, (here, seat)) =
      set_equals zone (record { slot = slot; set = set }) valve here seat
  equals valve (GroupNode zone name rtype) (members, (are, w)) =
      group_equals zone name rtype members valve are w

  pub to_meet : (valve : ℕ) (n : Node) → IsValve valve n → MeetsEquation laid.net laid.own valve_open valve
      → Meets watched reports v n
  to_meet valve n its meets = valued valve n its ∙ meets ∙ sym (equals valve n its)

  pub of_meet : (valve : ℕ) (n : Node) → IsValve valve n → Meets watched reports v n
      → MeetsEquation laid.net laid.own valve_open valve
  of_meet valve n its meets = sym (valued valve n its) ∙ meets ∙ equals valve n its

  -- ---- nodes without valves

  bare_set : (zone : ℕ) (p : Slotted) → IsHere (placed_in zones zone) p → is_watched p.set ≡ false
      → v (SetNode zone p.set) ≡ true
  bare_set zone p here off =
      seated zone p here ∙ ap (open_in valve_open) ((laid.wired.its_sets zone p here).plain off)

  -- a set that a check alone decides
  alone_valued : (zone : ℕ) (p : Slotted) → IsHere (placed_in zones zone) p → (id : ℕ)
      → set_seat index.seats p.slot ≡ suc (valve_with its_ids index.numbers id)
      → v (SetNode zone p.set) ≡ v (CheckNode id)
  alone_valued zone p here id seat =
      seated zone p here ∙ ap (open_in valve_open) seat
      ∙ ap (λ (ids : List ℕ). valve_open (valve_with ids index.numbers id)) (sym laid.ids)

  pub alone_meets : (zone : ℕ) (p : Slotted) → IsHere (placed_in zones zone) p → (id : ℕ) → IsAlone p.set id
      → set_seat index.seats p.slot ≡ suc (valve_with its_ids index.numbers id)
      → Meets watched reports v (SetNode zone p.set)
  alone_meets zone p here id alone seat =
      alone_valued zone p here id seat
      ∙ sym (alone_decides (λ other. v (CheckNode other)) (of_group zone) p.set id alone)

  bare_group : (zone : ℕ) (name : List (List ℕ)) (rtype : RType)
      → seat_in index.seats (members_in zones zone name rtype) ≡ 0
      → of_group zone name rtype ≡ local watched reports v (GroupNode zone name rtype)
  bare_group zone name rtype none =
      ap (λ (n : ℕ). value_or valve_open n
      (group_value (value_of_set zones index zone) (sets_of (placed_in zones zone)) name rtype)) none
      ∙ ap (λ (sets : List RecordSet). group_value (value_of_set zones index zone) sets name rtype) (sym (zone_sets zones checks zone))

  -- a node has a valve, or it meets its local equation
  pub valve_or_meets : (n : Node) → IsNode watched n
      → ((valve : ℕ) × IsValve valve n) ⊎ Meets watched reports v n
  valve_or_meets (CheckNode id) (check, at) =
      let place = place_of its_ids id in
      let here = found checks.list id check at in
      inl (
        valve_with its_ids index.numbers id,
        (
          place,
          (
            check,
            (
              here,
              valve_there its_ids index.numbers (ids_valves checks.list index.numbers laid.numbers) place id (id_there checks.list place id check here),
            ),
          ),
        ),
      )
  valve_or_meets (SetNode zone set) is =
      let p = among_mapped (λ (p : Slotted). p.set) (placed_in zones zone) set
      (subst (λ (sets : List RecordSet). IsAmong sets set) (zone_sets zones checks zone) is) in
      subst (λ (s : RecordSet). ((valve : ℕ) × IsValve valve (SetNode zone s)) ⊎ Meets watched reports v (SetNode zone s)) p.2
      (by p.0 p.1 (is_watched p.0.set) refl)
    where
      by : (p : Slotted) → IsHere (placed_in zones zone) p → (b : Bool) → is_watched p.set ≡ b
          → ((valve : ℕ) × IsValve valve (SetNode zone p.set)) ⊎ Meets watched reports v (SetNode zone p.set)
      by p here false off =
          inr (bare_set zone p here off ∙ sym (nothing_decides (λ id. v (CheckNode id)) (of_group zone) p.set off))
      by p here true on = elim ((laid.wired.its_sets zone p here).valved on) [
        | inl alone ↦ inr (alone_meets zone p here alone.0 alone.1.0 alone.1.1)
        | inr g ↦ inl (g.0, (p.slot, (here, g.1)))
      ]
  valve_or_meets (GroupNode zone name rtype) is =
      by (seat_in index.seats (members_in zones zone name rtype)) refl
    where
      by : (n : ℕ) → seat_in index.seats (members_in zones zone name rtype) ≡ n
          → ((valve : ℕ) × IsValve valve (GroupNode zone name rtype)) ⊎ Meets watched reports v (GroupNode zone name rtype)
      by zero none = inr (bare_group zone name rtype none)
      by (suc valve) seat =
          inl (
            valve,
            valve_for zones checks reports index laid valve (GroupNode zone name rtype)
                (members_in zones zone name rtype, (listed_are zones zone name rtype, first_seated index.seats (members_in zones zone name rtype) valve seat)),
          )

  -- what has a valve is a node
  node_there : (valve : ℕ) (n : Node) → IsValve valve n → IsNode watched n
  node_there valve (CheckNode id) (place, (check, (at, numbered))) = (check, id_at checks.list place id check laid.are_checks.rising at)
  node_there valve (SetNode zone set) (slot, (here, seat)) =
      is_node zones checks (record { zone = zone; slot = slot }) set here
  node_there valve (GroupNode zone name rtype) (members, (are, w)) =
      group_there zones checks zone name rtype members w.seat.0 are w.seat.1.0

  -- all nodes meet their local equations where all valves meet theirs
  pub all_meet : MeetAll laid.net laid.own index.valves → (n : Node) → IsNode watched n
      → Meets watched reports v n
  all_meet meet n is = elim (valve_or_meets n is) [
    | inl has ↦
        let within = there zones checks reports index laid has.0 n (of_valve zones checks reports index laid has.0 n has.1) in
        to_meet has.0 n has.1 (meet has.0 within)
    | inr meets ↦ meets
  ]

  pub valves_meet : ((n : Node) → IsNode watched n → Meets watched reports v n)
      → MeetAll laid.net laid.own index.valves
  valves_meet all valve within =
      elim (laid.wired.its_nodes valve within) [
        | inl spare ↦
            laid.spare valve spare
            ∙ sym (spare_open laid.net laid.own (value_of index.valves) valve (laid.wired.spares valve spare))
        | inr (inl vacant) ↦
            laid.vacant valve within vacant
            ∙ sym (spare_open laid.net laid.own (value_of index.valves) valve vacant.1)
        | inr (inr n) ↦ of_meet valve n.0 n.1 (all n.0 (node_there valve n.0 n.1))
      ]

  -- the value of a number
  at_own : (number : ℕ) → number < laid.net.size → value_at index number ≡ valve_open number
  at_own number within =
      let size = laid.fits.laid.size in
      rw (lt-ltb number (size_of index.valves) (omega arith)) refl

  at_behind : (number : ℕ) (n : Node) → IsNumberBehind zones index number n → v n ≡ value_at index number
  at_behind number (CheckNode id) none = absurd none
  at_behind number (SetNode zone set) (slot, (here, (tells, is))) =
      let same : number - size_of index.valves ≡ slot = omega arith in
      let late : value_at index number ≡ open_in valve_open (set_seat index.seats (number - size_of index.valves)) =
      rw (le-ltb number (size_of index.valves) (omega arith)) refl in
      seated zone (record { slot = slot; set = set }) here
      ∙ ap (λ (k : ℕ). open_in valve_open (set_seat index.seats k)) (sym same) ∙ sym late
  at_behind number (GroupNode zone name rtype) none = absurd none

  numbered : (number : ℕ) (n : Node) → IsNumberOf zones index number n → v n ≡ value_at index number
  numbered number n (inl own) =
      valued number n (valve_for zones checks reports index laid number n own)
      ∙ sym (at_own number (there zones checks reports index laid number n own))
  numbered number n (inr behind) = at_behind number n behind

  pub values : AreValues zones checks index
  values = record {
    numbered = numbered;
    sets = λ zone p here none. by_watch zone p here none (is_watched p.set) refl;
    groups = λ zone name rtype none. by_seat zone name rtype none (seat_in index.seats (members_in zones zone name rtype)) refl;
  }
    where
      by_watch : (zone : ℕ) (p : Slotted) → IsHere (placed_in zones zone) p
          → (HasNumber zones index (SetNode zone p.set) → ⊥) → (b : Bool) → is_watched p.set ≡ b
          → v (SetNode zone p.set) ≡ true
      by_watch zone p here none false off = bare_set zone p here off
      by_watch zone p here none true on =
          absurd (none (set_number zones checks reports index laid zone p here on))

      by_seat : (zone : ℕ) (name : List (List ℕ)) (rtype : RType)
          → (HasNumber zones index (GroupNode zone name rtype) → ⊥) → (n : ℕ)
          → seat_in index.seats (members_in zones zone name rtype) ≡ n
          → v (GroupNode zone name rtype) ≡ local watched reports v (GroupNode zone name rtype)
      by_seat zone name rtype none zero bare = bare_group zone name rtype bare
      by_seat zone name rtype none (suc valve) seat =
          absurd (none (
            valve,
            inl (
              members_in zones zone name rtype,
              (
                listed_are zones zone name rtype,
                first_seated index.seats (members_in zones zone name rtype) valve seat,
              ),
            ),
          ))

-- what stands is laid out
pub laid_of : (zones : List Zone) (checks : Checks) (reports : List Report) (index : Index)
    → StandsFor zones checks reports index → IsLaidFor zones checks reports index
laid_of zones checks reports index stands = record {
  are_zones = stands.are_zones;
  slots = stands.slots;
  are_checks = stands.are_checks;
  sound = stands.sound;
  are_reports = stands.are_reports;
  ids = stands.ids;
  numbers = stands.numbers;
  seen = stands.seen;
  as_many = stands.as_many;
  kin = stands.kin;
  listed = stands.listed;
  net = stands.net;
  own = stands.own;
  wired = stands.wired;
  told = stands.told;
  fits = stands.fits;
  ends = stands.ends;
  spare = λ valve is.
      let many = stands.wired.many in
      let early = is.0 in
      stands.meet valve (omega arith)
      ∙ spare_open stands.net stands.own (value_of index.valves) valve (stands.wired.spares valve is);
  vacant = λ valve within is.
      stands.meet valve within ∙ spare_open stands.net stands.own (value_of index.valves) valve is.1;
  idle = stands.idle;
}

pub nodes_have_values : ViewsAgree → NodesHaveValues
nodes_have_values views zones checks reports index laid =
    values zones checks reports index laid (views zones (healthy_in index) laid.are_zones)

pub stands_where_all_meet : ViewsAgree → StandsWhereAllMeet
unfolding laid_of
stands_where_all_meet views zones checks reports index = (
  λ stands. (
    laid_of zones checks reports index stands,
    all_meet zones checks reports index (laid_of zones checks reports index stands)
        (views zones (healthy_in index) stands.are_zones) stands.meet,
  ),
  λ (laid, all). record {
    are_zones = laid.are_zones;
    slots = laid.slots;
    are_checks = laid.are_checks;
    sound = laid.sound;
    are_reports = laid.are_reports;
    ids = laid.ids;
    numbers = laid.numbers;
    seen = laid.seen;
    as_many = laid.as_many;
    kin = laid.kin;
    listed = laid.listed;
    net = laid.net;
    own = laid.own;
    wired = laid.wired;
    told = laid.told;
    fits = laid.fits;
    ends = laid.ends;
    meet = valves_meet zones checks reports index laid (views zones (healthy_in index) laid.are_zones) all;
    idle = laid.idle;
  },
)

-- so its values are those of the recursion
pub tells : OneHealth → ViewsAgree → IndexTells
unfolding laid_of
tells one views zones checks reports index stands =
    let agrees = views zones (healthy_in index) stands.are_zones in
    let laid = laid_of zones checks reports index stands in
    let same = one (watched_of zones checks) reports stands.sound (node_value zones index)
    (all_meet zones checks reports index laid agrees stands.meet) in
    record {
      sets = λ set named names. agrees set named names ∙ same (SetNode set.zone named) (is_node zones checks set named names);
      statuses = λ id check at. same (CheckNode id) (check, at);
      groups = λ number zone name rtype is. elim is [
        | inl own ↦
            let its = valve_for zones checks reports index laid number (GroupNode zone name rtype) own in
            sym (valued zones checks reports index laid agrees number (GroupNode zone name rtype) its)
            ∙ same (GroupNode zone name rtype) (node_there zones checks reports index laid agrees number (GroupNode zone name rtype) its)
        | inr none ↦ absurd none
      ];
    }
