-- An evaluated alias came, of a group without a valve, while its target group has one: it has a valve behind all
-- others then, and all others stand as they stood.
use Rattle.std.proofs.Common.{◌≡◌, ◌≢◌, ◌≤◌, ◌<◌, ◌+◌, ◌++◌, ℕ, suc, true, false, List, [], ◌∷◌, length, map, arith, refl, ap, sym, ◌∙◌, inl, inr, Some}
use Rattle.std.specs.List.{Contains}
use Rattle.std.specs.Option.{option_to_list}
use Rattle.std.specs.Prelude.{◌⊎◌, slice_get}
use Rattle.std.proofs.lemmas.Bool.{cases_eq, cases_lt, false≢true}
use mathlib.Core.Path.{subst}
use Rattle.check_model.specs.Checks.{Checks}
use Rattle.check_model.specs.declared.checks.Check.{Check}
use Rattle.health_standing.proofs.Alone.{early_in}
use Rattle.health_standing.proofs.FedAlike.{on_body}
use Rattle.health_standing.proofs.GroupLeft.{is_none, is_one, own_here, own_there}
use Rattle.health_standing.proofs.Keyed.{grouped, grouped_sets}
use Rattle.health_standing.proofs.Leading.{led_alias, of_seat}
use Rattle.health_standing.proofs.Regrouped.{watched_on}
use Rattle.health_standing.proofs.Staying.{CameBy, WentBy, group_now, groups_led, in_filter, node_now, target_now}
use Rattle.health_standing.proofs.ValveGone.{own_kept, plain_kept, valves_kept}
use Rattle.health_standing.specs.Index.{Index, IsOfOneGroup, Space, StandsFor, TellApart}
use Rattle.health_standing.specs.Leading.{ComesToLead, IsSeatedOwn}
use Rattle.health_standing.specs.Leaving.{Moves}
use Rattle.health_model.proofs.Members.{nothing_in, of_filter}
use Rattle.health_model.specs.Laws.{PathsEnd}
use Rattle.health_model.specs.Nodes.{CheckNode, GroupNode, Node, SetNode}
use Rattle.health_model.specs.Sound.{IsSound}
use Rattle.health_model.specs.Statuses.{Report}
use Rattle.health_planning.proofs.Built.{last_there, still_there}
use Rattle.health_planning.proofs.Ending.{condition_seated, valves_end}
use Rattle.health_planning.proofs.Groups.{alias_alone}
use Rattle.health_planning.proofs.ListedOnce.{one_ref, own_is}
use Rattle.health_planning.proofs.Members.{one_named}
use Rattle.health_planning.proofs.MembersOfZoneList.{set_in}
use Rattle.health_planning.proofs.Told.{own_suc}
use Rattle.health_planning.proofs.Wiring.{first_here, in_members, of_group, passes_it, same_names}
use Rattle.health_planning.specs.Building.{IsListed}
use Rattle.health_planning.specs.Changes.{ref_in}
use Rattle.health_planning.specs.SetRefRecord.{SetRef}
use Rattle.health_planning.specs.Tables.{HaveSlotsApart}
use Rattle.health_planning.specs.Wired.{AreMembers, IsCheckValve, IsGroupValve, IsSeated, IsSpare, IsTarget, IsVacant, IsValveFor, group_seat, ids_of, own_part, seat_of, set_condition, set_seat, spare_condition, valve_with, watched_of}
use Rattle.health_planning.specs.Zones.{AreZones, Zone, placed_in}
use Rattle.health_planning.specs.declared.seats.Seat.{Seat}
use Rattle.health_valves.proofs.Comes.{behind, here, there}
use Rattle.health_valves.specs.Pass.{IsIdle, MeetAll}
use Rattle.health_valves.specs.Valves.{Condition, Feeds, HasEnds, Net, ValvesStandFor, fed_condition, size_of, with_one_more, with_own}
use Rattle.health_valves.specs.declared.valves.Valves.{Valves}
use Rattle.rdata_layout.specs.declared.types.RType.{RType}
use Rattle.record_set.specs.declared.sets.Body.{Body}
use Rattle.record_set.specs.declared.sets.Body.TheVariants as body
use Rattle.record_set.specs.declared.sets.RecordSet.{RecordSet}
use Rattle.zone_model.specs.Slotted.{IsHere, Slotted, sets_of}
use Rattle.zone_model.specs.Zones.{IsAmong, is_of_group}

pub slotted_is : (p : Slotted) (slot : ℕ) (set : RecordSet) → p.slot ≡ slot → p.set ≡ set
    → record { slot = slot; set = set } ≡ p
slotted_is p slot set slots sets =
    ap (λ (n : ℕ). record { slot = n; set = set }) (sym slots) ∙ ap (λ (s : RecordSet). record { slot = p.slot; set = s }) (sym sets)

pub some_seat : (seat v : ℕ) → own_part seat ≡ suc v → seat ≢ 0
some_seat seat v is none = let same = own_suc seat v is in omega (arith, same, none)

module _ (before after : List Zone) (checks : Checks) (reports : List Report) (index : Index)
    (stands : StandsFor before checks reports index) (are_after : AreZones after)
    (slots_after : HaveSlotsApart after) (sound : IsSound (watched_of after checks))
    (removed added : List SetRef) (moves : Moves before after removed added) (ref : SetRef)
    (is_removed : removed ≡ []) (is_added : added ≡ ref ∷ [])
    (feeders : List ℕ) (comes : ComesToLead after index.ids index.numbers index.seats index.valves ref feeders)
    (now : List Seat) (moved : IsSeatedOwn ref.slot (suc (size_of index.valves)) index.seats now) where
  abbrev seats : List Seat
  seats = index.seats

  abbrev net : Net
  net = stands.net

  abbrev net_now : Net
  net_now = with_one_more (fed_condition feeders) stands.net

  abbrev own_now : ℕ → ℕ
  own_now = with_own stands.net.size 0 stands.own

  abbrev ids : List ℕ
  ids = ids_of checks.list

  many : 200 ≤ net.size
  many = stands.wired.many

  -- ---- seats

  set_now : set_seat now ref.slot ≡ suc net.size
  set_now = moved.set ∙ ap suc stands.fits.laid.size

  its_seat : seat_of now ref.slot ≡ suc net.size
  its_seat = ap own_part set_now ∙ own_is (suc net.size) (omega (arith, many))

  none_own : seat_of seats ref.slot ≡ 0
  none_own = ap own_part comes.bare

  own_same : (s : ℕ) → s ≢ ref.slot → seat_of now s ≡ seat_of seats s
  own_same s apart = own_kept seats now ref.slot (λ t b. (moved.others t b).0) s apart

  still_here : (zone : ℕ) (p : Slotted) → IsHere (placed_in before zone) p → IsHere (placed_in after zone) p
  still_here zone p here_was = elim (moves.stays zone p here_was) [
    | inl told ↦ absurd (is_none removed (ref_in zone p) is_removed told)
    | inr still ↦ still
  ]

  was_here : (zone : ℕ) (p : Slotted) → IsHere (placed_in after zone) p → p.slot ≢ ref.slot
      → IsHere (placed_in before zone) p
  was_here zone p here_now apart = elim (moves.only zone p here_now) [
    | inl was ↦ was
    | inr new ↦ absurd (apart (ap (λ (r : SetRef). r.slot) (is_one added ref (ref_in zone p) is_added new)))
  ]

  -- what went and came, as the seats before tell
  by_went : (i : ℕ) (r : SetRef) → slice_get removed i ≡ Some r → WentBy seats added r
  by_went i r at = absurd (is_none removed r is_removed (i, at))

  came : CameBy before after seats removed ref
  came = record {
    set = comes.set;
    names = comes.names;
    as_own = inl none_own;
    place = inr (none_own, comes.alone);
  }

  by_came : (i : ℕ) (r : SetRef) → slice_get added i ≡ Some r → CameBy before after seats removed r
  by_came i r at = subst (CameBy before after seats removed) (sym (is_one added ref r is_added (i, at))) came

  -- the set that came
  abbrev alias : Slotted
  alias = record { slot = ref.slot; set = comes.set }

  its_zone : (zone : ℕ) (q : Slotted) → IsHere (placed_in after zone) q → q.slot ≡ ref.slot → zone ≡ ref.zone
  its_zone zone q here_now e =
      ap (λ (r : SetRef). r.zone) (one_ref after (ref_in zone q) ref q.set comes.set slots_after here_now comes.names e)

  its_set : (zone : ℕ) (q : Slotted) → IsHere (placed_in after zone) q → q.slot ≡ ref.slot → q.set ≡ comes.set
  its_set zone q here_now e =
      one_named after ref q.set comes.set are_after
      (subst (λ (n : ℕ). IsHere (placed_in after ref.zone) (record { slot = n; set = q.set })) e
      (subst (λ (n : ℕ). IsHere (placed_in after n) q) (its_zone zone q here_now e) here_now)) comes.names

  -- ---- no other valve changes

  member_apart : (members : List Slotted) (h : ℕ)
      → ((p : Slotted) → IsHere members p → group_seat seats p.slot ≡ suc h)
      → (p : Slotted) → IsHere members p → p.slot ≢ ref.slot
  member_apart members h tell p m e =
      let some = tell p m in
      let none = ap (group_seat seats) e ∙ comes.none in
      omega (arith, some, none)

  own_there_now : (n : ℕ) → n < net.size → own_now n ≡ stands.own n
  own_there_now n within = own_there net.size 0 stands.own n (λ e. omega (arith, e, within))

  group_kept : (members : List Slotted) (h : ℕ) → IsGroupValve seats net stands.own members h
      → IsGroupValve now net_now own_now members h
  group_kept members h w =
      let apart = member_apart members h w.each in
      let low = w.within in
      record {
        seat = (
          w.seat.0,
          (
            w.seat.1.0,
            (moved.others w.seat.0 (λ e. let some = w.seat.1.1 in let none = ap (group_seat seats) e ∙ comes.none in omega (arith, some, none))).1
                ∙ w.seat.1.1,
          ),
        );
        each = λ p m. (moved.others p.slot (apart p m)).1 ∙ w.each p m;
        behind = w.behind;
        within = omega (arith, low);
        condition = there net stands.own feeders h low ∙ w.condition
            ∙ ap (λ (l : List ℕ). record { need = 1; inverted = false; feeders = l }) (sym (valves_kept seats now ref.slot (λ t b. (moved.others t b).0) members apart));
        its_own = own_there_now h low ∙ w.its_own
            ∙ sym (plain_kept seats now ref.slot (λ t b. (moved.others t b).0) members apart);
      }

  target_kept : (zone : ℕ) (rtype : RType) (its : Body) (target : List ℕ)
      → IsTarget after seats net stands.own zone rtype its target
      → IsTarget after now net_now own_now zone rtype its target
  target_kept zone rtype (body.Values ttl values) target is = is
  target_kept zone rtype (body.Alias name evaluate) target (inl off) = inl off
  target_kept zone rtype (body.Alias name evaluate) target (inr (on, (valve, is, (members, are, w)))) =
      inr (on, (valve, is, (members, are, group_kept members valve w)))

  node_kept : (valve : ℕ) (node : Node)
      → IsValveFor after checks.list index.numbers seats net stands.own valve node
      → IsValveFor after checks.list index.numbers now net_now own_now valve node
  node_kept valve (CheckNode id) is = is
  node_kept valve (SetNode zone set) (s, (here_now, seat)) =
      let apart : s ≢ ref.slot = λ e. (let none = ap (seat_of seats) e ∙ none_own in omega (arith, none, seat)) in
      (s, (here_now, own_same s apart ∙ seat))
  node_kept valve (GroupNode zone name rtype) (members, (are, w)) =
      (members, (are, group_kept members valve w))

  -- ---- the target group

  abbrev g : ℕ
  g = comes.group

  abbrev first_slot : ℕ
  first_slot = comes.its_target.seat.0

  its_group : IsOfOneGroup before seats g
  its_group = stands.told.groups first_slot g comes.its_target.seat.1.1

  names : (ref.zone ≡ its_group.zone) × ((comes.its_target.name ≡ its_group.name) × (comes.its_target.rtype ≡ its_group.rtype))
  names =
      let t = comes.its_target in
      let f = first_here t.members t.seat.0 t.seat.1.0 in
      let tells = ap (group_seat seats) f.2 ∙ t.seat.1.1 in
      let was = was_here ref.zone f.0 (t.are.here f.0 f.1)
      (λ e. let none = ap (group_seat seats) e ∙ comes.none in omega (arith, tells, none)) in
      let n = of_group (sets_of (placed_in after ref.zone)) t.name t.rtype f.0.set
      (subst (λ (l : List RecordSet). IsAmong l f.0.set) t.are.sets (set_in t.members f.0 f.1)) in
      let m = in_filter (λ (x : Slotted). is_of_group t.name t.rtype x.set) (placed_in before ref.zone) f.0 was
      (passes_it t.name t.rtype f.0.set n.0 n.1) in
      let s = its_group.only f.0.slot tells in
      same_names before stands.are_zones stands.slots its_group.zone ref.zone its_group.name t.name its_group.rtype t.rtype
      its_group.members (grouped t.name t.rtype (placed_in before ref.zone)) s.0 f.0 its_group.are s.1 (
      record {
        sets = grouped_sets t.name t.rtype (placed_in before ref.zone);
        here = λ q mq. of_filter (λ (x : Slotted). is_of_group t.name t.rtype x.set) (placed_in before ref.zone) q mq;
      }
      ) m s.2

  -- another alias leads there, so its valve stands for it
  record HasGroup (zone : ℕ) (name : List (List ℕ)) (rtype : RType) : Type 0 where
    members : List Slotted
    are : AreMembers after zone name rtype members
    is : IsGroupValve now net_now own_now members g

  group_of : (x : IsOfOneGroup before seats g) → HasGroup x.zone x.name x.rtype
  group_of x = by x.led.0 x.led.1.0 x.led.1.1.0 x.led.1.1.1
    where
      by : (p : Slotted) → IsHere (placed_in before x.zone) p → p.set.body ≡ body.Alias x.name true
          → p.set.rtype ≡ x.rtype → HasGroup x.zone x.name x.rtype
      by p here_was is types =
          let led = led_alias before checks reports index stands x.zone p x.name here_was is in
          let are = subst (λ (t : RType). AreMembers before x.zone x.name t led.members) types led.are in
          let f = first_here led.members led.is.seat.0 led.is.seat.1.0 in
          let n = of_group (sets_of (placed_in before x.zone)) x.name x.rtype f.0.set
          (subst (λ (l : List RecordSet). IsAmong l f.0.set) are.sets (set_in led.members f.0 f.1)) in
          let m = in_members before stands.are_zones x.zone x.name x.rtype x.members f.0 x.are (are.here f.0 f.1) n.0 n.1 in
          let one = x.each f.0 m in
          let two = led.is.each f.0 f.1 in
          let same : led.group ≡ g = omega (arith, one, two) in
          let still = group_now before after stands.are_zones are_after removed added moves seats by_went by_came checks.list index.numbers
          net stands.own ids index.valves x.zone x.name x.rtype led.members g are
          (subst (IsGroupValve seats net stands.own led.members) same led.is) in
          record { members = still.members; are = still.are; is = group_kept still.members g still.is }

  its_target : IsTarget after now net_now own_now ref.zone comes.set.rtype comes.set.body (g ∷ [])
  its_target =
      let t = comes.its_target in
      let b = on_body comes.set.rtype comes.set.body t.name t.rtype comes.on t.target in
      let h = group_of its_group in
      let are = subst (λ (z : ℕ). AreMembers after z t.name t.rtype h.members) (sym names.0)
      (subst (λ (n : List (List ℕ)). AreMembers after its_group.zone n t.rtype h.members) (sym names.1.0)
      (subst (λ (r : RType). AreMembers after its_group.zone its_group.name r h.members) (sym names.1.1) h.are)) in
      subst (λ (r : RType). IsTarget after now net_now own_now ref.zone r comes.set.body (g ∷ [])) (sym b.1)
      (subst (λ (x : Body). IsTarget after now net_now own_now ref.zone t.rtype x (g ∷ [])) (sym b.0)
      (inr (refl, (g, refl, (h.members, are, h.is)))))

  -- ---- sets

  alias_seated : IsSeated after ids index.numbers now net_now own_now ref.zone alias
  alias_seated = record {
    plain = λ off. absurd (false≢true (sym off ∙ watched_on comes.set comes.on));
    told = λ on. moved.check ∙ sym (alias_alone comes.set comes.on);
    valved = λ on. inr (
      net.size,
      its_seat,
      record {
        behind = many;
        within = omega arith;
        target = g ∷ [];
        its_target = its_target;
        condition = here net stands.own feeders ∙ ap set_condition (comes.are
            ∙ ap (λ (l : List ℕ). map (valve_with l index.numbers) (option_to_list comes.set.check) ++ g ∷ []) stands.ids);
        its_own = own_here net.size 0 stands.own;
      },
    );
  }

  seated_now : (zone : ℕ) (p : Slotted) → IsHere (placed_in after zone) p
      → IsSeated after ids index.numbers now net_now own_now zone p
  seated_now zone p here_now = elim (cases_eq p.slot ref.slot) [
    | inl e ↦
        subst (λ (z : ℕ). IsSeated after ids index.numbers now net_now own_now z p) (sym (its_zone zone p here_now e))
        (subst (IsSeated after ids index.numbers now net_now own_now ref.zone)
        (slotted_is p ref.slot comes.set e (its_set zone p here_now e)) alias_seated)
    | inr apart ↦
        let s = stands.wired.its_sets zone p (was_here zone p here_now apart) in
        record {
          plain = λ is. (moved.others p.slot apart).0.0 ∙ s.plain is;
          told = λ on. (moved.others p.slot apart).0.1 ∙ s.told on;
          valved = λ on. elim (s.valved on) [
            | inl alone ↦ inl (alone.0, (alone.1.0, (moved.others p.slot apart).0.0 ∙ alone.1.1))
            | inr v ↦ (
                let low = v.2.within in
                inr (
                  v.0,
                  own_same p.slot apart ∙ v.1,
                  record {
                    behind = v.2.behind;
                    within = omega (arith, low);
                    target = v.2.target;
                    its_target = target_kept zone p.set.rtype p.set.body v.2.target
                        (target_now before after stands.are_zones are_after removed added moves seats by_went by_came checks.list index.numbers
                        net stands.own ids index.valves zone p.set.rtype p.set.body v.2.target v.2.its_target);
                    condition = there net stands.own feeders v.0 low ∙ v.2.condition;
                    its_own = own_there_now v.0 low ∙ v.2.its_own;
                  },
                )
                )
          ];
        }
  ]

  -- ---- seats that tell a valve

  own_within : (s valve : ℕ) → seat_of seats s ≡ suc valve → valve < net.size
  own_within s valve is =
      let h = stands.told.here s (some_seat (set_seat seats s) valve is) in
      let p : Slotted = record { slot = h.0.slot; set = h.1.0 } in
      (of_seat before checks reports index stands h.0.zone p valve h.1.1.0 (ap (seat_of seats) h.1.1.1 ∙ is)).within

  group_apart : (s valve : ℕ) → group_seat now s ≡ suc valve → s ≢ ref.slot
  group_apart s valve is e = let none = ap (group_seat now) e ∙ moved.group in omega (arith, is, none)

  group_was : (s valve : ℕ) → group_seat now s ≡ suc valve → group_seat seats s ≡ suc valve
  group_was s valve is = sym (moved.others s (group_apart s valve is)).1 ∙ is

  own_was : (s valve : ℕ) → s ≢ ref.slot → seat_of now s ≡ suc valve → seat_of seats s ≡ suc valve
  own_was s valve apart is = sym (own_same s apart) ∙ is

  last_is : (s valve : ℕ) → s ≡ ref.slot → seat_of now s ≡ suc valve → valve ≡ net.size
  last_is s valve e is = let its = ap (seat_of now) e ∙ its_seat in omega (arith, its, is)

  abbrev one_group_now : (valve : ℕ) → IsOfOneGroup after seats valve → IsOfOneGroup after now valve
  one_group_now valve x = record {
    zone = x.zone;
    name = x.name;
    rtype = x.rtype;
    members = x.members;
    are = x.are;
    led = x.led;
    behind = x.behind;
    each = λ p m. (moved.others p.slot (member_apart x.members valve x.each p m)).1 ∙ x.each p m;
    only = λ other tells. x.only other (group_was other valve tells);
  }

  told_now : TellApart after now
  told_now = record {
    sets = λ s other valve is its. elim (cases_eq s ref.slot) [
      | inl e ↦ elim (cases_eq other ref.slot) [
        | inl f ↦ e ∙ sym f
        | inr apart ↦
            let last = last_is s valve e is in
            let low = own_within other valve (own_was other valve apart its) in
            absurd (omega (arith, last, low))
      ]
      | inr apart ↦ elim (cases_eq other ref.slot) [
        | inl f ↦
            let last = last_is other valve f its in
            let low = own_within s valve (own_was s valve apart is) in
            absurd (omega (arith, last, low))
        | inr other_apart ↦ stands.told.sets s other valve (own_was s valve apart is) (own_was other valve other_apart its)
      ]
    ];
    kinds = λ s other valve is its. elim (cases_eq s ref.slot) [
      | inl e ↦
          let last = last_is s valve e is in
          let low = stands.wired.its_groups other valve (group_was other valve its) in
          omega (arith, last, low)
      | inr apart ↦ stands.told.kinds s other valve (own_was s valve apart is) (group_was other valve its)
    ];
    groups = λ s valve is.
        let x = stands.told.groups s valve (group_was s valve is) in
        one_group_now valve (groups_led before after stands.are_zones are_after removed added moves seats by_went by_came s valve
        (group_was s valve is) x (x.led.0, (still_here x.zone x.led.0 x.led.1.0, x.led.1.1)));
    here = λ s some. elim (cases_eq s ref.slot) [
      | inl e ↦ (ref, (comes.set, (comes.names, sym e)))
      | inr apart ↦
          let h = stands.told.here s (λ none. some ((moved.others s apart).0.0 ∙ none)) in
          let p : Slotted = record { slot = h.0.slot; set = h.1.0 } in
          (h.0, (h.1.0, (still_here h.0.zone p h.1.1.0, h.1.1.1)))
    ];
  }

  -- ---- all valves

  check_now : (place valve id : ℕ) (check : Check) → slice_get checks.list place ≡ Some (id, check)
      → slice_get index.numbers place ≡ Some valve
      → IsCheckValve ids index.numbers net_now own_now reports valve id check
  check_now place valve id check at numbered =
      let c = stands.wired.its_checks place valve id check at numbered in
      let low = c.within in
      record {
        within = omega (arith, low);
        condition = there net stands.own feeders valve low ∙ c.condition;
        its_own = own_there_now valve low ∙ c.its_own;
      }

  nodes_now : (valve : ℕ) → valve < net_now.size → IsSpare index.numbers valve ⊎ (IsVacant net_now valve
      ⊎ ((node : Node) × IsValveFor after checks.list index.numbers now net_now own_now valve node))
  nodes_now valve within = elim (cases_eq valve net.size) [
    | inl e ↦ inr (inr (SetNode ref.zone comes.set, (ref.slot, (comes.names, its_seat ∙ ap suc (sym e)))))
    | inr apart ↦ (
        let low : valve < net.size = omega (arith, within, apart) in
        elim (stands.wired.its_nodes valve low) [
          | inl spare ↦ inl spare
          | inr (inl vacant) ↦ inr (inl (vacant.0, there net stands.own feeders valve low ∙ vacant.1))
          | inr (inr n) ↦ (
              let m = node_now before after stands.are_zones are_after removed added moves seats by_went by_came checks.list
              index.numbers net stands.own ids index.valves valve n.0 n.1 in
              inr (inr (m.0, node_kept valve m.0 m.1))
              )
        ]
        )
  ]

  spares_now : (valve : ℕ) → IsSpare index.numbers valve → net_now.condition valve ≡ spare_condition
  spares_now valve spare =
      let low = spare.0 in
      there net stands.own feeders valve (omega (arith, low, many)) ∙ stands.wired.spares valve spare

  -- what is fed is there
  fed_there : (x y : ℕ) → Feeds net_now x y → y < net_now.size
  fed_there x y fed = elim (cases_lt y (net.size + 1)) [
    | inl low ↦ low
    | inr past ↦
        absurd (nothing_in x (subst (λ (c : Condition). Contains c.feeders x) (behind net stands.own feeders y (omega (arith, past))) fed))
  ]

  ends_now : PathsEnd → HasEnds net_now
  ends_now law =
      valves_end after checks index.numbers now net_now own_now stands.numbers are_after stands.are_checks sound
      (λ place valve id check at numbered. ap (λ (c : Condition). c.feeders) (check_now place valve id check at numbered).condition)
      (condition_seated after ids index.numbers now net_now own_now seated_now (early_in after checks index.numbers stands.numbers sound))
      nodes_now spares_now law fed_there

  listed_now : (zone valve : ℕ) (p : Slotted) → IsHere (placed_in after zone) p → seat_of now p.slot ≡ suc valve
      → IsListed (index.refs ++ ref ∷ []) (ref_in zone p)
  listed_now zone valve p here_now is = elim (cases_eq p.slot ref.slot) [
    | inl e ↦
        let one = one_ref after (ref_in zone p) ref p.set comes.set slots_after here_now comes.names e in
        (length index.refs, last_there index.refs ref ∙ ap Some (sym one))
    | inr apart ↦
        let l = stands.listed zone valve p (was_here zone p here_now apart) (own_was p.slot valve apart is) in
        (l.0, still_there index.refs ref (ref_in zone p) l.0 l.1)
  ]

  pub led_stands : PathsEnd → (valves : Valves) (space : Space) → ValvesStandFor net_now own_now valves
      → MeetAll net_now own_now valves → IsIdle valves → (listed : List SetRef) → listed ≡ index.refs ++ ref ∷ []
      → StandsFor after checks reports (record index { seats = now; refs = listed; valves = valves; space = space })
  led_stands law valves space fits meet idle listed is = record {
    are_zones = are_after;
    slots = slots_after;
    are_checks = stands.are_checks;
    sound = sound;
    are_reports = stands.are_reports;
    ids = stands.ids;
    numbers = stands.numbers;
    seen = stands.seen;
    as_many = stands.as_many;
    kin = stands.kin;
    listed = λ zone valve p here_now its.
        subst (λ (l : List SetRef). IsListed l (ref_in zone p)) (sym is) (listed_now zone valve p here_now its);
    net = net_now;
    own = own_now;
    wired = record {
      its_checks = check_now;
      its_sets = seated_now;
      its_nodes = nodes_now;
      spares = spares_now;
      many = omega (arith, many);
      its_groups = λ s valve told. (let low = stands.wired.its_groups s valve (group_was s valve told) in omega (arith, low));
      its_members = λ s valve told.
          let apart = group_apart s valve told in
          (moved.others s apart).0.0 ∙ stands.wired.its_members s valve (group_was s valve told)
          ∙ sym (own_same s apart);
    };
    told = told_now;
    fits = fits;
    ends = ends_now law;
    meet = meet;
    idle = idle;
  }
