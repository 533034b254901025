-- Feeds between valves are feeds between the nodes whose valves they are: so no path is long, and no
-- cone has more valves than nodes.
use Rattle.std.proofs.Common.{◌⊎◌, ◌≡◌, ◌<◌, ◌≤◌, ℕ, zero, suc, Bool, true, false, List, [], ◌∷◌, ◌++◌, length, map, arith, refl, ap, sym, ◌∙◌, inl, inr, Some, None, Option}
use Rattle.std.specs.Prelude.{Contains, slice_get}
use Rattle.std.specs.Option.{option_to_list}
use Rattle.std.proofs.lemmas.List.{length-append}
use Rattle.std.proofs.lemmas.List.Elements.{Contains-append_cases, Contains-append_left, Contains-append_right}
use Rattle.std.proofs.lemmas.Option.{slice_get_within}
use Rattle.std.proofs.lemmas.Bool.{le-leb}
use mathlib.Core.Path.{subst}
use Rattle.check_model.proofs.Members.{all_at}
use Rattle.check_model.specs.Checks.{AreChildren, Checks, IsId, children_of}
use Rattle.check_model.specs.Checks.{IsSound as AreSoundChecks}
use Rattle.check_model.specs.Commands.{children_there}
use Rattle.check_model.specs.declared.checks.Check.{Check}
use Rattle.health_valves.proofs.Members.{in_cases, in_head, in_tail}
use Rattle.health_valves.specs.Valves.{Feeds, Net}
use Rattle.health_valves.specs.Pass.{AreOfCone}
use Rattle.health_valves.specs.Walk.{EachOnce, Leads, PathsEnd as ValvesEnd}
use Rattle.health_model.proofs.Members.{at_first, first_or_rest, mapped_in, member_of, nothing_in, of_member}
use Rattle.health_model.specs.Healthy.{Watched, sets_of as sets_at}
use Rattle.health_model.specs.Laws.{PathsEnd}
use Rattle.health_model.specs.Nodes.{CheckNode, GroupNode, InCone, IsNode, Node, Reaches, SetNode, feeders, its_check, its_target}
use Rattle.health_model.specs.Sound.{IsSound}
use Rattle.rdata_layout.specs.declared.types.RType.{RType}
use Rattle.record_set.specs.Sets.{key_of}
use Rattle.record_set.specs.declared.sets.Body.{Body}
use Rattle.record_set.specs.declared.sets.Body.TheVariants as body
use Rattle.record_set.specs.declared.sets.RecordSet.{RecordSet}
use Rattle.policy_select.proofs.MembersOfZoneList.{one_of_key, put_or_in, set_in}
use Rattle.policy_select.specs.Zones.{AreZones, Zone, placed_in}
use Rattle.zone_model.specs.Slotted.{IsHere, Slotted}
use Rattle.zone_model.specs.Zones.{IsAmong, group}
use Rattle.health_planning.specs.Wired.{AreMembers, HaveValves, IsAlone, IsGroupValve, IsSeated, IsSetValve, IsSpare, IsTarget, IsVacant, IsValveFor, group_seat, ids_of, is_watched, own_part, place_of, seat_of, set_seat, spare_condition, valve_with, valves_of, watched_of, with_valve}
use Rattle.health_planning.specs.declared.seats.Seat.{Seat}
use Rattle.health_planning.proofs.Numbers.{number_there}
use Rattle.health_planning.proofs.Places.{id_at, of_all, one_place}
use Rattle.health_planning.proofs.Places.{found}
use Rattle.health_planning.proofs.Watching.{zone_sets}
use Rattle.health_planning.proofs.Wiring.{first_same, rising_in}

pub came_from : {X Y : Type 0} (f : X → Y) (xs : List X) (y : Y) → Contains (map f xs) y
    → (x : X) × IsAmong xs x × (y ≡ f x)
came_from f [] y m = absurd (nothing_in y m)
came_from f (x ∷ xs) y m = elim (first_or_rest (f x) (map f xs) y m) [
  | inl same ↦ (x, inl refl, sym same)
  | inr rest ↦ (let more = came_from f xs y rest in (more.0, inr more.1, more.2))
]

-- the member of a group whose valve this is
pub member_valve : (seats : List Seat) (members : List Slotted) (valve : ℕ)
    → Contains (valves_of seats members) valve
    → (p : Slotted) × IsHere members p × (seat_of seats p.slot ≡ suc valve)
member_valve seats [] valve m = absurd (nothing_in valve m)
member_valve seats (p ∷ members) valve m =
    by (seat_of seats p.slot) refl (member_valve seats members valve) m
  where
    by : (n : ℕ) → seat_of seats p.slot ≡ n
        → (Contains (valves_of seats members) valve
        → (q : Slotted) × IsHere members q × (seat_of seats q.slot ≡ suc valve))
        → Contains (with_valve n (valves_of seats members)) valve
        → (q : Slotted) × IsHere (p ∷ members) q × (seat_of seats q.slot ≡ suc valve)
    by zero e rest m = let r = rest m in (r.0, inr r.1, r.2)
    by (suc first) e rest m = elim (first_or_rest first (valves_of seats members) valve m) [
      | inl same ↦ (p, inl refl, e ∙ ap suc same)
      | inr more ↦ (let r = rest more in (r.0, inr r.1, r.2))
    ]

-- a path from a node that feeds its first
one_before : (watched : Watched) (feeds : ℕ) (before n m : Node) → IsNode watched n
    → Contains (feeders watched n) before → Reaches watched feeds n m
    → Reaches watched (suc feeds) before m
one_before watched zero before n m is fed same =
    subst (λ (o : Node). Reaches watched 1 before o) same (is, (before, fed, refl))
one_before watched (suc feeds) before n m is fed (there, (last, last_fed, rest)) =
    (there, (last, last_fed, one_before watched feeds before n last is fed rest))

-- ---- no more than there are

module _ {X : Type 0} where
  around : (xs : List X) (x : X) → IsAmong xs x
      → (front : List X) × ((back : List X) × (xs ≡ front ++ x ∷ back))
  around [] x m = absurd m
  around (y ∷ xs) x (inl is) = ([], (xs, ap (λ (z : X). z ∷ xs) is))
  around (y ∷ xs) x (inr m) =
      let r = around xs x m in (y ∷ r.0, (r.1.0, ap (λ (l : List X). y ∷ l) r.1.1))

  -- where numbers that differ have elements that differ, there are no more of them
  pub no_more : (R : ℕ → X → Type 0) → ((a b : ℕ) (x : X) → R a x → R b x → a ≡ b)
      → (walk : List ℕ) (xs : List X) → EachOnce walk
      → ((a : ℕ) → Contains walk a → (x : X) × (R a x × IsAmong xs x))
      → length walk ≤ length xs
  no_more R own [] xs once each = omega arith
  no_more R own (a ∷ walk) xs once each =
      let x = each a (in_head a walk) in
      let parts = around xs x.0 x.1.1 in
      let rest = no_more R own walk (parts.0 ++ parts.1.0) once.1 (λ b m.
      let y = each b (in_tail a b walk m) in
      elim (put_or_in parts.0 parts.1.0 x.0 y.0 (subst (λ (l : List X). IsAmong l y.0) parts.1.1 y.1.1)) [
        | inl same ↦ absurd (once.0 (subst (Contains walk) (own b a x.0 (subst (R b) (sym same) y.1.0) x.1.0) m))
        | inr there ↦ (y.0, (y.1.0, there))
      ]) in
      let long = ap length parts.1.1 in
      let all = length-append parts.0 (x.0 ∷ parts.1.0) in
      let fewer = length-append parts.0 parts.1.0 in
      omega arith

-- ---- valves and nodes

-- the valve of a set stands as that of a watched one
pub record HasCondition (zones : List Zone) (ids numbers : List ℕ) (seats : List Seat) (net : Net) (own : ℕ → ℕ)
    (zone : ℕ) (p : Slotted) (valve : ℕ) : Type 0 where
  pub is : IsSetValve zones ids numbers seats net own zone p.set valve

-- where each set is seated, a valve of its own that its seat tells is that
pub condition_seated : (zones : List Zone) (ids numbers : List ℕ) (seats : List Seat) (net : Net) (own : ℕ → ℕ)
    → ((zone : ℕ) (p : Slotted) → IsHere (placed_in zones zone) p
    → IsSeated zones ids numbers seats net own zone p)
    → ((zone : ℕ) (p : Slotted) (id : ℕ) → IsHere (placed_in zones zone) p → p.set.check ≡ Some id
    → valve_with ids numbers id < 200)
    → (zone : ℕ) (p : Slotted) (valve : ℕ) → IsHere (placed_in zones zone) p
    → seat_of seats p.slot ≡ suc valve → HasCondition zones ids numbers seats net own zone p valve
condition_seated zones ids numbers seats net own seated early zone p valve here seat = by (is_watched p.set) refl
  where
    by_check : (id : ℕ) → IsAlone p.set id → set_seat seats p.slot ≡ suc (valve_with ids numbers id)
        → HasCondition zones ids numbers seats net own zone p valve
    by_check id alone is =
        let front = early zone p id here alone.1 in
        let none : own_part (suc (valve_with ids numbers id)) ≡ 0 = rw (le-leb (suc (valve_with ids numbers id)) 200 (omega arith)) refl in
        let same = ap own_part is in
        absurd (omega arith)

    by : (b : Bool) → is_watched p.set ≡ b → HasCondition zones ids numbers seats net own zone p valve
    by false off =
        let none = ap own_part ((seated zone p here).plain off) in
        absurd (omega arith)
    by true on = elim ((seated zone p here).valved on) [
      | inl alone ↦ by_check alone.0 alone.1.0 alone.1.1
      | inr g ↦
          let other = g.1 in
          let same : g.0 ≡ valve = omega arith in
          record { is = subst (IsSetValve zones ids numbers seats net own zone p.set) same g.2 }
    ]

module _ (zones : List Zone) (checks : Checks) (numbers : List ℕ) (seats : List Seat) (net : Net)
    (own : ℕ → ℕ) (valves : HaveValves (length checks.list) numbers) (are_zones : AreZones zones) (are_checks : AreSoundChecks checks)
    (sound : IsSound (watched_of zones checks))
    (children : (place valve id : ℕ) (check : Check) → slice_get checks.list place ≡ Some (id, check)
    → slice_get numbers place ≡ Some valve
    → (net.condition valve).feeders ≡ map (valve_with (ids_of checks.list) numbers) (children_of check))
    (set_valve : (zone : ℕ) (p : Slotted) (valve : ℕ) → IsHere (placed_in zones zone) p
    → seat_of seats p.slot ≡ suc valve → HasCondition zones (ids_of checks.list) numbers seats net own zone p valve)
  where
    abbrev watched : Watched
    watched = watched_of zones checks

    abbrev its_ids : List ℕ
    its_ids = ids_of checks.list

    abbrev IsValve : (valve : ℕ) → Node → Type 0
    IsValve valve node = IsValveFor zones checks.list numbers seats net own valve node

    -- a node, whose valve feeds that of another
    pub record IsFeeder (valve : ℕ) (m : Node) : Type 0 where
      pub there : IsNode watched m
      pub node : Node
      pub its : IsValve valve node
      pub feeds : Contains (feeders watched m) node

    -- the valve of a check that is there
    check_valve : (id valve : ℕ) → IsId checks.list id → valve ≡ valve_with its_ids numbers id
        → IsValve valve (CheckNode id)
    check_valve id valve (check, at) is =
        let place = place_of its_ids id in
        let here = found checks.list id check at in
        let within = slice_get_within checks.list place (id, check) here in
        let many = valves.as_many in
        (place, (check, (here, number_there numbers place valve (omega arith) is)))

    child_there : (place id : ℕ) (check : Check) → slice_get checks.list place ≡ Some (id, check)
        → (child : ℕ) → Contains (children_of check) child → IsId checks.list child
    child_there place id check at child m =
        let are = of_all (λ (held : ℕ × Check). AreChildren checks.list (children_of held.1)) checks.list place (id, check) are_checks.children at in
        all_at (IsId checks.list) (children_of check) child are.there m

    feeds_check : (place id valve : ℕ) (check : Check) (x : ℕ)
        → slice_get checks.list place ≡ Some (id, check) → slice_get numbers place ≡ Some valve
        → Feeds net x valve → IsFeeder x (CheckNode id)
    feeds_check place id valve check x at numbered m =
        let its = id_at checks.list place id check are_checks.rising at in
        let child = came_from (valve_with its_ids numbers) (children_of check) x
        (subst (λ (l : List ℕ). Contains l x) (children place valve id check at numbered) m) in
        record {
          there = (check, its);
          node = CheckNode child.0;
          its = check_valve child.0 x (child_there place id check at child.0 (of_member (children_of check) child.0 child.1)) child.2;
          feeds = subst (λ (o : Option Check). Contains (map CheckNode (children_there o)) (CheckNode child.0)) (sym its)
              (mapped_in CheckNode (children_of check) child.0 child.1);
        }

    -- a set is one of those of its zone, as health sees them
    watched_set : (zone : ℕ) (p : Slotted) → IsHere (placed_in zones zone) p
        → IsAmong (sets_at watched zone) p.set
    watched_set zone p here =
        subst (λ (l : List RecordSet). IsAmong l p.set) (sym (zone_sets zones checks zone))
        (set_in (placed_in zones zone) p here)

    check_named : (zone : ℕ) (p : Slotted) → IsHere (placed_in zones zone) p → (x : ℕ)
        → (named : Option ℕ) → p.set.check ≡ named
        → Contains (map (valve_with its_ids numbers) (option_to_list named)) x
        → (id : ℕ) × (IsValve x (CheckNode id) × Contains (its_check p.set.check) (CheckNode id))
    check_named zone p here x None is m = absurd (nothing_in x m)
    check_named zone p here x (Some id) is m = elim (first_or_rest (valve_with its_ids numbers id) [] x m) [
      | inl same ↦ (
        id,
        (
          check_valve id x (sound.checks zone p.set id (watched_set zone p here) is) (sym same),
          subst (λ (o : Option ℕ). Contains (its_check o) (CheckNode id)) (sym is) (at_first (CheckNode id) []),
        ),
      )
      | inr rest ↦ absurd (nothing_in x rest)
    ]

    target_named : (zone : ℕ) (rtype : RType) (its : Body) (target : List ℕ) (x : ℕ)
        → IsTarget zones seats net own zone rtype its target → Contains target x
        → (node : Node) × (IsValve x node × Contains (its_target zone rtype its) node)
    target_named zone rtype (body.Values ttl values) target x is m =
        absurd (nothing_in x (subst (λ (l : List ℕ). Contains l x) is m))
    target_named zone rtype (body.Alias name evaluate) target x (inl (off, is)) m =
        absurd (nothing_in x (subst (λ (l : List ℕ). Contains l x) is m))
    target_named zone rtype (body.Alias name evaluate) target x (inr (on, (valve, is, (members, are, w)))) m =
        elim (first_or_rest valve [] x (subst (λ (l : List ℕ). Contains l x) is m)) [
          | inl same ↦ (
            GroupNode zone name rtype,
            (
              (members, (are, subst (λ (g : ℕ). IsGroupValve seats net own members g) same w)),
              rw on (at_first (GroupNode zone name rtype) []),
            ),
          )
          | inr rest ↦ absurd (nothing_in x rest)
        ]

    feeds_set : (zone : ℕ) (p : Slotted) (valve x : ℕ) → IsHere (placed_in zones zone) p
        → seat_of seats p.slot ≡ suc valve → Feeds net x valve → IsFeeder x (SetNode zone p.set)
    feeds_set zone p valve x here seat m =
        let w = (set_valve zone p valve here seat).is in
        let mine = subst (λ (l : List ℕ). Contains l x) (ap (λ r. r.feeders) w.condition) m in
        elim (Contains-append_cases (map (valve_with its_ids numbers) (option_to_list p.set.check)) w.target x mine) [
          | inl named ↦
              let c = check_named zone p here x p.set.check refl named in
              record {
                there = watched_set zone p here;
                node = CheckNode c.0;
                its = c.1.0;
                feeds = Contains-append_left (its_check p.set.check) (its_target zone p.set.rtype p.set.body) (CheckNode c.0) c.1.1;
              }
          | inr target ↦
              let t = target_named zone p.set.rtype p.set.body w.target x w.its_target target in
              record {
                there = watched_set zone p here;
                node = t.0;
                its = t.1.0;
                feeds = Contains-append_right (its_check p.set.check) (its_target zone p.set.rtype p.set.body) t.0 t.1.1;
              }
        ]

    feeds_group : (zone : ℕ) (name : List (List ℕ)) (rtype : RType) (valve x : ℕ)
        (members : List Slotted) → AreMembers zones zone name rtype members
        → IsGroupValve seats net own members valve → Feeds net x valve
        → IsFeeder x (GroupNode zone name rtype)
    feeds_group zone name rtype valve x members are w m =
        let member = member_valve seats members x (subst (λ (l : List ℕ). Contains l x) (ap (λ r. r.feeders) w.condition) m) in
        let p = member.0 in
        let in_group : IsAmong (group (sets_at watched zone) name rtype) p.set =
        subst (λ (l : List RecordSet). IsAmong (group l name rtype) p.set) (sym (zone_sets zones checks zone))
        (subst (λ (l : List RecordSet). IsAmong l p.set) are.sets (set_in members p member.1)) in
        record {
          there = (p.set, in_group);
          node = SetNode zone p.set;
          its = (p.slot, (are.here p member.1, member.2));
          feeds = mapped_in (SetNode zone) (group (sets_at watched zone) name rtype) p.set in_group;
        }

    -- what feeds the valve of a node is the valve of one that feeds the node
    pub feeder : (valve x : ℕ) (m : Node) → IsValve valve m → Feeds net x valve → IsFeeder x m
    feeder valve x (CheckNode id) (place, (check, (at, numbered))) m =
        feeds_check place id valve check x at numbered m
    feeder valve x (SetNode zone set) (slot, (here, seat)) m =
        feeds_set zone (record { slot = slot; set = set }) valve x here seat m
    feeder valve x (GroupNode zone name rtype) (members, (are, w)) m =
        feeds_group zone name rtype valve x members are w m

    -- a path between valves is one between their nodes
    path : (k x y : ℕ) (m : Node) → IsValve y m → Leads (Feeds net) k x y
        → (n : Node) × (IsValve x n × Reaches watched k n m)
    path zero x y m its leads = (m, (subst (λ (g : ℕ). IsValve g m) leads its, refl))
    path (suc k) x y m its (z, fed, leads) =
        let rest = path k z y m its leads in
        let f = feeder z x rest.0 rest.1.0 fed in
        (f.node, (f.its, one_before watched k f.node rest.0 m f.there f.feeds rest.1.1))

    last_fed : (k x y : ℕ) → Leads (Feeds net) (suc k) x y → (w : ℕ) × Feeds net w y
    last_fed zero x y (z, fed, same) = (x, subst (Feeds net x) (sym same) fed)
    last_fed (suc k) x y (z, fed, more) = last_fed k z y more

    module _ (nodes : (valve : ℕ) → valve < net.size
        → IsSpare numbers valve ⊎ (IsVacant net valve ⊎ ((node : Node) × IsValve valve node)))
        (spares : (valve : ℕ) → IsSpare numbers valve → net.condition valve ≡ spare_condition) where
      -- a valve that something feeds is neither spare nor vacant
      fed_node : (w y : ℕ) → Feeds net w y → y < net.size → (node : Node) × IsValve y node
      fed_node w y fed within = elim (nodes y within) [
        | inl spare ↦
            absurd (nothing_in w (subst (λ (l : List ℕ). Contains l w) (ap (λ r. r.feeders) (spares y spare)) fed))
        | inr rest ↦ elim rest [
          | inl vacant ↦
              absurd (nothing_in w (subst (λ (l : List ℕ). Contains l w) (ap (λ r. r.feeders) vacant.1) fed))
          | inr node ↦ node
        ]
      ]

      -- where all that is fed is there, no path is long
      pub valves_end : PathsEnd → ((x y : ℕ) → Feeds net x y → y < net.size)
          → ValvesEnd (Feeds net) 64
      unfolding ValvesEnd
      valves_end law there x y leads = too_long 63 x y (omega arith) leads
        where
          too_long : (k x y : ℕ) → 38 ≤ k → Leads (Feeds net) (suc k) x y → ⊥
          too_long k x y long leads =
              let w = last_fed k x y leads in
              let m = fed_node w.0 y w.1 (there w.0 y w.1) in
              let p = path (suc k) x y m.0 m.1 leads in
              let few = law watched sound p.0 m.0 p.1.1.0 (suc k) p.1.1 in
              omega arith

      -- ---- each node has one valve, and that of a check is of nothing else

      one_slot : (zone : ℕ) (p q : Slotted) → IsHere (placed_in zones zone) p
          → IsHere (placed_in zones zone) q → p.set ≡ q.set → p.slot ≡ q.slot
      one_slot zone p q here there same =
          ap (λ (x : Slotted). x.slot) (one_of_key (placed_in zones zone) (rising_in zones are_zones.each zone) p q here there (ap key_of same))

      one_valve : (a b : ℕ) (m : Node) → IsValve a m → IsValve b m → a ≡ b
      one_valve a b (CheckNode id) (p, (c, (first, a_at))) (q, (d, (second, b_at))) =
          let places = one_place checks.list p q id c d are_checks.rising first second in
          some_same (sym a_at ∙ ap (slice_get numbers) places ∙ b_at)
        where
          some_same : {x y : ℕ} → Some x ≡ Some y → x ≡ y
          some_same e = cc
      one_valve a b (SetNode zone set) (s, (here, seat)) (t, (there, seat_two)) =
          let same = one_slot zone (record { slot = s; set = set }) (record { slot = t; set = set }) here there refl in
          let seats_same = ap (seat_of seats) same in
          omega arith
      one_valve a b (GroupNode zone name rtype) (xs, (are_xs, w)) (ys, (are_ys, v)) =
          let same = first_same zones are_zones zone name rtype xs ys w.seat.0 v.seat.0 are_xs w.seat.1.0 are_ys v.seat.1.0 in
          let seats_same = ap (group_seat seats) same in
          let first = w.seat.1.1 in
          let second = v.seat.1.1 in
          omega arith

      of_check : (valve id : ℕ) (n : Node) → IsValve valve (CheckNode id) → IsValve valve n
          → n ≡ CheckNode id
      of_check valve id (CheckNode other) (p, (c, (first, p_at))) (q, (d, (second, q_at))) =
          let places = valves.apart q p valve q_at p_at in
          ap CheckNode (ap (λ (h : ℕ × Check). h.0)
          (some_same (sym second ∙ ap (slice_get checks.list) places ∙ first)))
        where
          some_same : {X : Type 0} {x y : X} → Some x ≡ Some y → x ≡ y
          some_same e = cc
      of_check valve id (SetNode zone set) (p, (c, (first, p_at))) (slot, (here, seat)) =
          let w = (set_valve zone (record { slot = slot; set = set }) valve here seat).is in
          let behind = w.behind in
          let early = valves.early p valve p_at in
          absurd (omega arith)
      of_check valve id (GroupNode zone name rtype) (p, (c, (first, p_at))) (members, (are, w)) =
          let behind = w.behind in
          let early = valves.early p valve p_at in
          absurd (omega arith)

      -- a list of the cone of a check has at least as many nodes as valves are above the check's
      pub cone_long : (valve id : ℕ) (walk : List ℕ) (cone : List Node)
          → IsValve valve (CheckNode id) → AreOfCone net (valve ∷ []) walk
          → ((n : Node) → InCone watched (CheckNode id) n → Contains cone n)
          → length walk ≤ length cone
      cone_long valve id walk cone its are has =
          no_more IsValve one_valve walk cone are.once (λ y m.
          let above = are.above y m in
          let k = above.2.0 in
          let leads = subst (λ (x : ℕ). Leads (Feeds net) k x y) (from_start above.0 above.1) above.2.1 in
          let node = reached k y leads (are.within y m) in
          let way = path k valve y node.0 node.1 leads in
          let start = of_check valve id way.0 its way.1.0 in (
            node.0,
            (
              node.1,
              member_of cone node.0 (has node.0
                  (k, subst (λ (n : Node). Reaches watched k n node.0) start way.1.1)),
            ),
          ))
        where
          from_start : (x : ℕ) → Contains (valve ∷ []) x → x ≡ valve
          from_start x m = elim (in_cases valve x [] m) [
            | inl same ↦ sym same
            | inr rest ↦ absurd (nothing_in x rest)
          ]

          reached : (k y : ℕ) → Leads (Feeds net) k valve y → y < net.size → (node : Node) × IsValve y node
          reached zero y same within =
              (CheckNode id, subst (λ (g : ℕ). IsValve g (CheckNode id)) (sym same) its)
          reached (suc k) y leads within = let w = last_fed k valve y leads in fed_node w.0 y w.1 within
