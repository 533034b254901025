-- What the valve of a target group feeds: the valves of the evaluated aliases that lead to it, and no others.
use Rattle.std.proofs.Common.{◌≡◌, ◌≤◌, ◌<◌, ℕ, suc, true, List, [], ◌∷◌, map, arith, refl, ap, sym, ◌∙◌, inl, inr, Option, None, Some}
use mathlib.Core.Path.{subst}
use Rattle.std.specs.List.{Contains}
use Rattle.std.specs.Option.{option_to_list}
use Rattle.std.specs.Prelude.{slice_get}
use Rattle.std.proofs.lemmas.Bool.{false≢true}
use Rattle.std.proofs.lemmas.List.Elements.{Contains-append_cases, Contains-append_right}
use Rattle.std.proofs.lemmas.Option.{slice_get_within}
use Rattle.check_model.proofs.Members.{all_at}
use Rattle.check_model.specs.Checks.{AreChildren, Checks, IsId, children_of}
use Rattle.check_model.specs.declared.checks.Check.{Check}
use Rattle.health_model.proofs.Members.{nothing_in, of_member}
use Rattle.health_model.specs.Nodes.{CheckNode, GroupNode, Node, SetNode}
use Rattle.health_model.specs.Statuses.{Report}
use Rattle.health_planning.proofs.Ending.{came_from, member_valve}
use Rattle.health_planning.proofs.Numbers.{ids_valves, number_early}
use Rattle.health_planning.proofs.Places.{found, of_all}
use Rattle.health_planning.proofs.Wiring.{first_here, ids_long}
use Rattle.health_planning.specs.Telling.{evaluates}
use Rattle.health_planning.specs.Wired.{AreMembers, IsGroupValve, IsSetValve, IsTarget, IsValveFor, group_seat, ids_of, place_of, seat_of, valve_with}
use Rattle.health_planning.specs.Zones.{Zone, placed_in}
use Rattle.health_planning.specs.declared.seats.Seat.{Seat}
use Rattle.health_standing.proofs.Alone.{early_in, own_or_told}
use Rattle.health_standing.proofs.FedAlike.{led_of}
use Rattle.health_standing.proofs.Regrouped.{one_told}
use Rattle.health_standing.specs.Index.{Index, StandsFor}
use Rattle.health_valves.proofs.Members.{in_cases, in_head, in_none}
use Rattle.health_valves.specs.Valves.{Feeds, Net}
use Rattle.rdata_layout.specs.declared.types.RType.{RType}
use Rattle.record_set.specs.declared.sets.Body.{Body}
use Rattle.record_set.specs.declared.sets.Body.TheVariants as body
use Rattle.zone_model.specs.Slotted.{IsHere, Slotted}

-- an evaluated alias with a valve of its own, and the group to which it leads, with the valve of that
pub record LeadsTo (zones : List Zone) (seats : List Seat) (net : Net) (own : ℕ → ℕ) (group valve : ℕ)
    : Type 0 where
  pub zone : ℕ
  pub p : Slotted
  pub here : IsHere (placed_in zones zone) p
  pub seat : seat_of seats p.slot ≡ suc valve
  pub name : List (List ℕ)
  pub alias : p.set.body ≡ body.Alias name true
  pub members : List Slotted
  pub are : AreMembers zones zone name p.set.rtype members
  pub is : IsGroupValve seats net own members group

-- the target group of an evaluated alias
record HasTarget (zones : List Zone) (seats : List Seat) (net : Net) (own : ℕ → ℕ) (zone : ℕ) (rtype : RType)
    (name : List (List ℕ)) (target : List ℕ) : Type 0 where
  group : ℕ
  one : target ≡ group ∷ []
  members : List Slotted
  are : AreMembers zones zone name rtype members
  is : IsGroupValve seats net own members group

target_of : (zones : List Zone) (seats : List Seat) (net : Net) (own : ℕ → ℕ) (zone : ℕ) (rtype : RType)
    (name : List (List ℕ)) (target : List ℕ) → IsTarget zones seats net own zone rtype (body.Alias name true) target
    → HasTarget zones seats net own zone rtype name target
target_of zones seats net own zone rtype name target (inl off) = absurd (false≢true (sym off.0))
target_of zones seats net own zone rtype name target (inr (on, (group, one, (members, are, w)))) =
    record { group = group; one = one; members = members; are = are; is = w }

module _ (zones : List Zone) (checks : Checks) (reports : List Report) (index : Index)
    (stands : StandsFor zones checks reports index) where
  abbrev seats : List Seat
  seats = index.seats

  abbrev net : Net
  net = stands.net

  abbrev ids : List ℕ
  ids = ids_of checks.list

  abbrev with_id : ℕ → ℕ
  with_id id = valve_with ids index.numbers id

  early : (zone : ℕ) (p : Slotted) (id : ℕ) → IsHere (placed_in zones zone) p → p.set.check ≡ Some id
      → with_id id < 200
  early = early_in zones checks index.numbers stands.numbers stands.sound

  -- a set with a valve of its own
  pub of_seat : (zone : ℕ) (p : Slotted) (valve : ℕ) → IsHere (placed_in zones zone) p
      → seat_of seats p.slot ≡ suc valve
      → IsSetValve zones ids index.numbers seats net stands.own zone p.set valve
  of_seat zone p valve here seat =
      elim (own_or_told zones ids index.numbers seats net stands.own early zone p here (stands.wired.its_sets zone p here)) [
        | inl own ↦
            let its = own.seat in
            let same : own.valve ≡ valve = omega (arith, its, seat) in
            subst (IsSetValve zones ids index.numbers seats net stands.own zone p.set) same own.is
        | inr told ↦ (let none = told.none in absurd (omega (arith, none, seat)))
      ]

  front_early : (zone : ℕ) (p : Slotted) (x : ℕ) → IsHere (placed_in zones zone) p
      → Contains (map with_id (option_to_list p.set.check)) x → x < 200
  front_early zone p x here among = by p.set.check refl among
    where
      by : (check : Option ℕ) → p.set.check ≡ check → Contains (map with_id (option_to_list check)) x → x < 200
      by None is among = absurd (in_none x among)
      by (Some id) is among = elim (in_cases (with_id id) x [] among) [
        | inl same ↦ (let low = early zone p id here is in omega (arith, low, same))
        | inr none ↦ absurd (in_none x none)
      ]

  -- the valve of a set that one behind those of checks feeds is that of an alias
  pub leads_of : (zone : ℕ) (p : Slotted) (group valve : ℕ) → IsHere (placed_in zones zone) p
      → seat_of seats p.slot ≡ suc valve → 200 ≤ group → Feeds net group valve
      → LeadsTo zones seats net stands.own group valve
  leads_of zone p group valve here seat late fed =
      let w = of_seat zone p valve here seat in
      let mine = subst (λ (l : List ℕ). Contains l group) (ap (λ r. r.feeders) w.condition) fed in
      elim (Contains-append_cases (map with_id (option_to_list p.set.check)) w.target group mine) [
        | inl low ↦ (let less = front_early zone p group here low in absurd (omega (arith, less, late)))
        | inr at ↦
            let led = led_of zones seats net stands.own zone p.set.rtype p.set.body w.target group w.its_target at in
            record {
              zone = zone;
              p = p;
              here = here;
              seat = seat;
              name = led.name;
              alias = led.alias;
              members = led.members;
              are = led.are;
              is = led.is;
            }
      ]

  -- the valve of a check is fed by those of checks alone
  check_fed : (place id valve : ℕ) (check : Check) (x : ℕ) → slice_get checks.list place ≡ Some (id, check)
      → slice_get index.numbers place ≡ Some valve → Feeds net x valve → x < 200
  check_fed place id valve check x at numbered fed =
      let c = stands.wired.its_checks place valve id check at numbered in
      let child = came_from with_id (children_of check) x
      (subst (λ (l : List ℕ). Contains l x) (ap (λ r. r.feeders) c.condition) fed) in
      let are = of_all (λ (held : ℕ × Check). AreChildren checks.list (children_of held.1)) checks.list place (id, check)
      stands.are_checks.children at in
      let its = all_at (IsId checks.list) (children_of check) child.0 are.there (of_member (children_of check) child.0 child.1) in
      let within = slice_get_within checks.list (place_of ids child.0) (child.0, its.0) (found checks.list child.0 its.0 its.1) in
      let long = ids_long checks.list in
      let low = number_early ids index.numbers (ids_valves checks.list index.numbers stands.numbers) (place_of ids child.0)
      (omega (arith, within, long)) in
      let is = child.2 in
      omega (arith, low, is)

  -- what a valve of a group feeds is the valve of an alias that leads there
  pub fed_alias : (group valve slot : ℕ) → group_seat seats slot ≡ suc group → 200 ≤ group → valve < net.size
      → Feeds net group valve → LeadsTo zones seats net stands.own group valve
  fed_alias group valve slot told late within fed = elim (stands.wired.its_nodes valve within) [
    | inl spare ↦
        absurd (nothing_in group (subst (λ (l : List ℕ). Contains l group) (ap (λ r. r.feeders) (stands.wired.spares valve spare)) fed))
    | inr (inl vacant) ↦
        absurd (nothing_in group (subst (λ (l : List ℕ). Contains l group) (ap (λ r. r.feeders) vacant.1) fed))
    | inr (inr n) ↦ of_node n.0 n.1
  ]
    where
      of_node : (node : Node) → IsValveFor zones checks.list index.numbers seats net stands.own valve node
          → LeadsTo zones seats net stands.own group valve
      of_node (CheckNode id) (place, (check, (at, numbered))) =
          let low = check_fed place id valve check group at numbered fed in
          absurd (omega (arith, low, late))
      of_node (SetNode zone set) (s, (here, seat)) =
          leads_of zone (record { slot = s; set = set }) group valve here seat late fed
      of_node (GroupNode zone name rtype) (members, (are, w)) =
          let m = member_valve seats members group (subst (λ (l : List ℕ). Contains l group) (ap (λ r. r.feeders) w.condition) fed) in
          absurd (stands.told.kinds m.0.slot slot group m.2 told)

  -- an evaluated alias has a valve, and that of its target group feeds it, and no other behind those of checks
  pub record HasLed (zone : ℕ) (p : Slotted) (name : List (List ℕ)) : Type 0 where
    pub valve : ℕ
    pub seat : seat_of seats p.slot ≡ suc valve
    pub within : valve < net.size
    pub group : ℕ
    pub fed : Feeds net group valve
    pub only : (x : ℕ) → 200 ≤ x → Feeds net x valve → x ≡ group
    pub members : List Slotted
    pub are : AreMembers zones zone name p.set.rtype members
    pub is : IsGroupValve seats net stands.own members group

  pub led_alias : (zone : ℕ) (p : Slotted) (name : List (List ℕ)) → IsHere (placed_in zones zone) p
      → p.set.body ≡ body.Alias name true → HasLed zone p name
  led_alias zone p name here is =
      elim (own_or_told zones ids index.numbers seats net stands.own early zone p here (stands.wired.its_sets zone p here)) [
        | inl own ↦
            let front = map with_id (option_to_list p.set.check) in
            let t = target_of zones seats net stands.own zone p.set.rtype name own.is.target
            (subst (λ (b : Body). IsTarget zones seats net stands.own zone p.set.rtype b own.is.target) is own.is.its_target) in
            record {
              valve = own.valve;
              seat = own.seat;
              within = own.is.within;
              group = t.group;
              fed = subst (λ (l : List ℕ). Contains l t.group) (sym (ap (λ r. r.feeders) own.is.condition))
                  (Contains-append_right front own.is.target t.group
                  (subst (λ (l : List ℕ). Contains l t.group) (sym t.one) (in_head t.group [])));
              only = λ x late fed.
                  elim (Contains-append_cases front own.is.target x
                  (subst (λ (l : List ℕ). Contains l x) (ap (λ r. r.feeders) own.is.condition) fed)) [
                    | inl low ↦ (let less = front_early zone p x here low in absurd (omega (arith, less, late)))
                    | inr at ↦ elim (in_cases t.group x [] (subst (λ (l : List ℕ). Contains l x) t.one at)) [
                      | inl same ↦ sym same
                      | inr none ↦ absurd (in_none x none)
                    ]
                  ];
              members = t.members;
              are = t.are;
              is = t.is;
            }
        | inr told ↦ absurd (false≢true (sym told.off ∙ ap evaluates is))
      ]

  -- two aliases to whose target groups one valve belongs lead to one group
  pub one_group : (group : ℕ) (zone other : ℕ) (name name_two : List (List ℕ)) (rtype rtype_two : RType)
      (xs ys : List Slotted) → AreMembers zones zone name rtype xs → IsGroupValve seats net stands.own xs group
      → AreMembers zones other name_two rtype_two ys → IsGroupValve seats net stands.own ys group
      → (other ≡ zone) × ((name_two ≡ name) × (rtype_two ≡ rtype))
  one_group group zone other name name_two rtype rtype_two xs ys are_xs w are_ys v =
      let x = stands.told.groups w.seat.0 group w.seat.1.1 in
      let p = first_here xs w.seat.0 w.seat.1.0 in
      let q = first_here ys v.seat.0 v.seat.1.0 in
      let first = one_told zones stands.are_zones stands.slots seats group x zone name rtype xs are_xs p.0 p.1 (w.each p.0 p.1) in
      let second = one_told zones stands.are_zones stands.slots seats group x other name_two rtype_two ys are_ys q.0 q.1 (v.each q.0 q.1) in (
        second.0 ∙ sym first.0,
        (second.1.0 ∙ sym first.1.0, second.1.1 ∙ sym first.1.1),
      )
