-- One set that nothing decides came into a group with a valve.
use Rattle.std.proofs.Common.{◌≡◌, ◌≢◌, ◌+◌, ℕ, suc, List, [], ◌∷◌, arith, refl, ap, sym, ◌∙◌, inl, inr}
use mathlib.Core.Path.{subst}
use Rattle.check_model.specs.Checks.{Checks}
use Rattle.health_standing.proofs.GroupLeft.{is_none, is_one, own_here, own_there}
use Rattle.health_standing.proofs.Keyed.{grouped, grouped_sets}
use Rattle.health_standing.proofs.Regrouped.{one_told, regrouped, rising_now}
use Rattle.health_standing.proofs.Slots.{in_slot, none_in, one_in, slot_in}
use Rattle.health_standing.proofs.Staying.{in_filter}
use Rattle.health_standing.specs.Index.{Index, IsOfOneGroup, Space, StandsFor}
use Rattle.health_standing.specs.Leaving.{Moves}
use Rattle.health_standing.specs.Regrouping.{IsSeatedIn, JoinsGroup}
use Rattle.health_model.proofs.Members.{of_filter}
use Rattle.health_model.specs.Sound.{IsSound}
use Rattle.health_model.specs.Statuses.{Report}
use Rattle.health_planning.proofs.ListedOnce.{one_ref}
use Rattle.health_planning.proofs.Members.{one_named}
use Rattle.health_planning.proofs.MembersOfZoneList.{set_in}
use Rattle.health_planning.proofs.Wiring.{in_members, of_group, passes_it}
use Rattle.health_planning.specs.Changes.{ref_in}
use Rattle.health_planning.specs.SetRefRecord.{SetRef}
use Rattle.health_planning.specs.Tables.{HaveSlotsApart}
use Rattle.health_planning.specs.Wired.{AreMembers, HasSlot, TellGroup, group_seat, is_watched, watched_of}
use Rattle.health_planning.specs.Zones.{AreZones, Zone, placed_in}
use Rattle.health_planning.specs.declared.seats.Seat.{Seat}
use Rattle.health_valves.specs.Pass.{IsIdle, MeetAll}
use Rattle.health_valves.specs.Valves.{ValvesStandFor, with_own}
use Rattle.health_valves.specs.declared.valves.Valves.{Valves}
use Rattle.rdata_layout.specs.declared.types.RType.{RType}
use Rattle.record_set.specs.declared.sets.RecordSet.{RecordSet}
use Rattle.zone_model.specs.Slotted.{IsHere, Slotted, sets_of}
use Rattle.zone_model.specs.Zones.{IsAmong, is_of_group}

module _ (before after : List Zone) (checks : Checks) (reports : List Report) (index : Index)
    (stands : StandsFor before checks reports index) (are_after : AreZones after)
    (slots_after : HaveSlotsApart after) (sound : IsSound (watched_of after checks))
    (removed added : List SetRef) (moves : Moves before after removed added) (ref : SetRef)
    (is_removed : removed ≡ []) (is_added : added ≡ ref ∷ [])
    (g : ℕ) (joins : JoinsGroup after index.seats index.valves ref g)
    (now : List Seat) (seated : IsSeatedIn ref.slot (suc g) index.seats now) where
  still_here : (zone : ℕ) (p : Slotted) → IsHere (placed_in before zone) p → IsHere (placed_in after zone) p
  still_here zone p here = elim (moves.stays zone p here) [
    | inl told ↦ absurd (is_none removed (ref_in zone p) is_removed told)
    | inr there ↦ there
  ]

  was_here : (zone : ℕ) (p : Slotted) → IsHere (placed_in after zone) p → p.slot ≢ ref.slot
      → IsHere (placed_in before zone) p
  was_here zone p here apart = elim (moves.only zone p here) [
    | inl was ↦ was
    | inr new ↦ absurd (apart (ap (λ (r : SetRef). r.slot) (is_one added ref (ref_in zone p) is_added new)))
  ]

  -- the set that came, in its slot
  abbrev came : Slotted
  came = record { slot = ref.slot; set = joins.set }

  -- a set in the slot is it
  its_zone : (zone : ℕ) (q : Slotted) → IsHere (placed_in after zone) q → q.slot ≡ ref.slot → zone ≡ ref.zone
  its_zone zone q here e =
      ap (λ (r : SetRef). r.zone) (one_ref after (ref_in zone q) ref q.set joins.set slots_after here joins.names e)

  its_set : (zone : ℕ) (q : Slotted) → IsHere (placed_in after zone) q → q.slot ≡ ref.slot → q.set ≡ joins.set
  its_set zone q here e =
      one_named after ref q.set joins.set are_after
      (subst (λ (n : ℕ). IsHere (placed_in after ref.zone) (record { slot = n; set = q.set })) e
      (subst (λ (n : ℕ). IsHere (placed_in after n) q) (its_zone zone q here e) here)) joins.names

  -- the set that tells the valve was there
  abbrev member : Slotted
  member = joins.group.member

  member_apart : member.slot ≢ ref.slot
  member_apart e = let none = joins.none in let some = sym (ap (group_seat index.seats) e) ∙ joins.group.tells in omega (arith, none, some)

  member_was : IsHere (placed_in before ref.zone) member
  member_was = was_here ref.zone member joins.group.here member_apart

  -- so it is of a group that has the names of the one that came
  module _ (y : IsOfOneGroup before index.seats g) where
    abbrev its : HasSlot y.members member.slot
    its = y.only member.slot joins.group.tells

    its_ref : ref_in y.zone its.0 ≡ ref_in ref.zone member
    its_ref = one_ref before (ref_in y.zone its.0) (ref_in ref.zone member) its.0.set member.set stands.slots
        (y.are.here its.0 its.1) member_was its.2

    y_zone : y.zone ≡ ref.zone
    y_zone = ap (λ (r : SetRef). r.zone) its_ref

    same_member : its.0.set ≡ member.set
    same_member = one_named before (ref_in ref.zone member) its.0.set member.set stands.are_zones
        (subst (λ (n : ℕ). IsHere (placed_in before ref.zone) (record { slot = n; set = its.0.set })) its.2
        (subst (λ (n : ℕ). IsHere (placed_in before n) its.0) y_zone (y.are.here its.0 its.1))) member_was

    names : (y.name ≡ its.0.set.name) × (y.rtype ≡ its.0.set.rtype)
    names = of_group (sets_of (placed_in before y.zone)) y.name y.rtype its.0.set
        (subst (λ (l : List RecordSet). IsAmong l its.0.set) y.are.sets (set_in y.members its.0 its.1))

    y_name : y.name ≡ joins.set.name
    y_name = names.0 ∙ ap (λ (s : RecordSet). s.name) same_member ∙ sym joins.group.name_is

    y_rtype : y.rtype ≡ joins.set.rtype
    y_rtype = names.1 ∙ ap (λ (s : RecordSet). s.rtype) same_member ∙ sym joins.group.rtype_is

    came_in : HasSlot (grouped y.name y.rtype (placed_in after y.zone)) ref.slot
    came_in = (
      came,
      in_filter (λ (x : Slotted). is_of_group y.name y.rtype x.set) (placed_in after y.zone) came
          (subst (λ (z : ℕ). IsHere (placed_in after z) came) (sym y_zone) joins.names)
          (passes_it y.name y.rtype joins.set y_name y_rtype),
      refl,
    )

  abbrev g_one : IsOfOneGroup before index.seats g
  g_one = stands.told.groups member.slot g joins.group.tells

  none_before : (zone : ℕ) (p : Slotted) → IsHere (placed_in before zone) p → p.slot ≢ ref.slot
  none_before zone p here e =
      let there = still_here zone p here in
      let z = its_zone zone p there e in
      let s = its_set zone p there e in
      let y = g_one in
      let m = in_members before stands.are_zones y.zone y.name y.rtype y.members p y.are
      (subst (λ (n : ℕ). IsHere (placed_in before n) p) (z ∙ sym (y_zone y)) here)
      (y_name y ∙ ap (λ (x : RecordSet). x.name) (sym s)) (y_rtype y ∙ ap (λ (x : RecordSet). x.rtype) (sym s)) in
      let told = y.each p m in
      let none = joins.none in
      let same = ap (group_seat index.seats) e in
      omega (arith, told, none, same)

  -- the set that came is of no other group with a valve
  one_told_here : (zone : ℕ) (name : List (List ℕ)) (rtype : RType) (members : List Slotted) (h : ℕ)
      → AreMembers before zone name rtype members → TellGroup index.seats members h
      → (q : Slotted) → IsHere (grouped name rtype (placed_in after zone)) q → q.slot ≡ ref.slot → h ≡ g
  one_told_here zone name rtype members h are tell q mq e =
      let here = of_filter (λ (x : Slotted). is_of_group name rtype x.set) (placed_in after zone) q mq in
      let z = its_zone zone q here e in
      let s = its_set zone q here e in
      let n = of_group (sets_of (placed_in after zone)) name rtype q.set
      (subst (λ (l : List RecordSet). IsAmong l q.set) (grouped_sets name rtype (placed_in after zone))
      (set_in (grouped name rtype (placed_in after zone)) q mq)) in
      let m = in_members before stands.are_zones zone name rtype members member are
      (subst (λ (k : ℕ). IsHere (placed_in before k) member) (sym z) member_was)
      (n.0 ∙ ap (λ (x : RecordSet). x.name) s ∙ joins.group.name_is)
      (n.1 ∙ ap (λ (x : RecordSet). x.rtype) s ∙ joins.group.rtype_is) in
      let first = tell member m in
      let second = joins.group.tells in
      omega (arith, first, second)

  abbrev its_own : ℕ → ℕ
  its_own = with_own g (stands.own g + 1) stands.own

  counted : (zone : ℕ) (name : List (List ℕ)) (rtype : RType) (members : List Slotted) (h : ℕ)
      → AreMembers before zone name rtype members → TellGroup index.seats members h → (p : Slotted)
      → IsHere members p
      → its_own h + in_slot ref.slot members
      ≡ stands.own h + in_slot ref.slot (grouped name rtype (placed_in after zone))
  counted zone name rtype members h are tell p m =
      let none = none_in ref.slot members (λ q mq. none_before zone q (are.here q mq)) in
      elim (slot_in (grouped name rtype (placed_in after zone)) ref.slot) [
        | inl q ↦
            let one = one_in ref.slot (grouped name rtype (placed_in after zone))
            (rising_now before after checks reports index stands are_after slots_after sound now ref.slot g (suc g) seated joins.bare (λ zone p here apart. still_here zone p here) was_here (λ zone p here e. ap is_watched (its_set zone p here e) ∙ joins.off) its_own zone name rtype members h are tell)
            (λ a b in_a in_b at_a at_b.
            let here = λ (x : Slotted) (mx : IsHere (grouped name rtype (placed_in after zone)) x). of_filter (λ (x : Slotted). is_of_group name rtype x.set) (placed_in after zone) x mx in
            its_set zone a (here a in_a) at_a ∙ sym (its_set zone b (here b in_b) at_b)) q.0 q.1 q.2 in
            let is = one_told_here zone name rtype members h are tell q.0 q.1 q.2 in
            let its : its_own h ≡ stands.own g + 1 = ap its_own is ∙ own_here g (stands.own g + 1) stands.own in
            let was : stands.own h ≡ stands.own g = ap stands.own is in
            omega (arith, none, one, its, was)
        | inr apart ↦
            let zero_in = none_in ref.slot (grouped name rtype (placed_in after zone)) apart in
            let other = λ (is : h ≡ g).
            let y = g_one in
            let same = one_told before stands.are_zones stands.slots index.seats g y zone name rtype members are p m (tell p m ∙ ap suc is) in
            let c = came_in y in
            apart c.0 (moved_as y zone name rtype same c.0 c.1) c.2 in
            let its : its_own h ≡ stands.own h = own_there g (stands.own g + 1) stands.own h other in
            omega (arith, none, zero_in, its)
      ]
    where
      moved_as : (y : IsOfOneGroup before index.seats g) (zone : ℕ) (name : List (List ℕ)) (rtype : RType)
          → (zone ≡ y.zone) × ((name ≡ y.name) × (rtype ≡ y.rtype)) → (s : Slotted)
          → IsHere (grouped y.name y.rtype (placed_in after y.zone)) s
          → IsHere (grouped name rtype (placed_in after zone)) s
      moved_as y zone name rtype same s m =
          subst (λ (z : ℕ). IsHere (grouped name rtype (placed_in after z)) s) (sym same.0)
          (subst (λ (n : List (List ℕ)). IsHere (grouped n rtype (placed_in after y.zone)) s) (sym same.1.0)
          (subst (λ (t : RType). IsHere (grouped y.name t (placed_in after y.zone)) s) (sym same.1.1) m))

  pub joined_stands : (valves : Valves) (space : Space) → ValvesStandFor stands.net its_own valves
      → MeetAll stands.net its_own valves → IsIdle valves → (noted : List SetRef)
      → StandsFor after checks reports (record index { seats = now; members = noted; valves = valves; space = space })
  joined_stands valves space fits meet idle noted =
      regrouped before after checks reports index stands are_after slots_after sound now ref.slot g (suc g) seated joins.bare
      (λ zone p here apart. still_here zone p here) was_here (λ zone p here e. ap is_watched (its_set zone p here e) ∙ joins.off) its_own
      (λ n apart. own_there g (stands.own g + 1) stands.own n apart) (member.slot, joins.group.tells) counted
      (λ zone name rtype members h are tell p m q mq e.
      ap suc (sym (one_told_here zone name rtype members h are tell q mq e)))
      (λ h is. sym (omega (arith, is))) (λ h is y. came_in_of h (omega (arith, is)) y)
      noted valves space fits meet idle
    where
      came_in_of : (h : ℕ) → g ≡ h → (y : IsOfOneGroup before index.seats h)
          → HasSlot (grouped y.name y.rtype (placed_in after y.zone)) ref.slot
      came_in_of h e = subst (λ (n : ℕ). (y : IsOfOneGroup before index.seats n)
          → HasSlot (grouped y.name y.rtype (placed_in after y.zone)) ref.slot) e came_in
