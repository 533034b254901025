-- The first evaluated alias came that leads to a group, of whose sets nothing decides any: that group has a valve
-- behind all others then, and the alias one behind that; all others stand as they stood.
use Rattle.std.proofs.Common.{◌≡◌, ◌≢◌, ◌≤◌, ◌<◌, ◌+◌, ◌++◌, ℕ, suc, true, false, List, [], ◌∷◌, length, map, arith, refl, ap, sym, ◌∙◌, inl, inr, Some}
use Rattle.std.specs.List.{Contains}
use Rattle.std.specs.Option.{option_to_list}
use Rattle.std.specs.Prelude.{◌⊎◌, Bool, nat_le, slice_get}
use Rattle.std.proofs.lemmas.Bool.{cases_eq, cases_lt, false≢true}
use mathlib.Core.Path.{subst}
use Rattle.check_model.specs.Checks.{Checks}
use Rattle.check_model.specs.declared.checks.Check.{Check}
use Rattle.health_standing.proofs.Alone.{early_in}
use Rattle.health_standing.proofs.FedAlike.{on_body}
use Rattle.health_standing.proofs.GroupLeft.{is_none, is_one}
use Rattle.health_standing.proofs.AliasCome.{slotted_is, some_seat}
use Rattle.health_standing.proofs.Leading.{of_seat}
use Rattle.health_standing.proofs.Regrouped.{watched_on}
use Rattle.health_standing.proofs.Slots.{slot_in}
use Rattle.health_standing.proofs.Staying.{CameBy, WentBy, groups_led, node_now, target_now}
use Rattle.health_standing.proofs.TwoMore.{at_first, at_last, behind, count_first, count_last, count_there, there}
use Rattle.health_standing.specs.Index.{Index, IsOfOneGroup, Space, StandsFor, TellApart}
use Rattle.health_standing.specs.Founding.{AreSeatedOwned, ComesFirstOwned, HasOwnTarget, with_two_counts, with_group}
use Rattle.health_standing.specs.Leaving.{Moves}
use Rattle.health_model.proofs.Members.{nothing_in}
use Rattle.health_model.specs.Laws.{PathsEnd}
use Rattle.health_model.specs.Nodes.{CheckNode, GroupNode, Node, SetNode}
use Rattle.health_model.specs.Sound.{IsSound}
use Rattle.health_model.specs.Statuses.{Report}
use Rattle.health_planning.proofs.Built.{last_there, still_there}
use Rattle.health_planning.proofs.Ending.{condition_seated, valves_end}
use Rattle.health_planning.proofs.Groups.{alias_alone}
use Rattle.health_planning.proofs.ListedOnce.{one_ref, own_is}
use Rattle.health_planning.proofs.Members.{one_named}
use Rattle.health_planning.specs.Building.{IsListed, TellsOn}
use Rattle.health_planning.specs.Changes.{ref_in}
use Rattle.health_planning.specs.SetRefRecord.{SetRef}
use Rattle.health_planning.specs.Tables.{HaveSlotsApart}
use Rattle.health_planning.specs.Wired.{IsCheckValve, IsGroupValve, IsSeated, IsSpare, IsTarget, IsVacant, IsValveFor, group_seat, ids_of, own_part, plain, plain_among, seat_of, set_condition, set_seat, spare_condition, valve_with, valves_of, watched_of, with_valve}
use Rattle.health_planning.specs.Zones.{AreZones, Zone, placed_in}
use Rattle.health_planning.specs.declared.seats.Seat.{Seat}
use Rattle.health_valves.specs.Pass.{IsIdle, MeetAll}
use Rattle.health_valves.specs.Valves.{Condition, Feeds, HasEnds, Net, ValvesStandFor, size_of}
use Rattle.health_valves.specs.declared.valves.Valves.{Valves}
use Rattle.rdata_layout.specs.declared.types.RType.{RType}
use Rattle.record_set.specs.declared.sets.Body.{Body}
use Rattle.record_set.specs.declared.sets.Body.TheVariants as body
use Rattle.zone_model.proofs.Among.{among_at}
use Rattle.zone_model.specs.Slotted.{IsHere, Slotted}

-- what a seat tells of a set's own it tells once more
own_still : (seat : ℕ) → own_part seat ≡ own_part (own_part seat)
own_still seat = by (nat_le seat 200) refl
  where
    by : (b : Bool) → nat_le seat 200 ≡ b → own_part seat ≡ own_part (own_part seat)
    by true e = rw (e) refl
    by false e = rw (e, e) refl

module _ (before after : List Zone) (checks : Checks) (reports : List Report) (index : Index)
    (stands : StandsFor before checks reports index) (are_after : AreZones after)
    (slots_after : HaveSlotsApart after) (sound : IsSound (watched_of after checks))
    (removed added : List SetRef) (moves : Moves before after removed added) (ref : SetRef)
    (is_removed : removed ≡ []) (is_added : added ≡ ref ∷ []) (members : List Slotted)
    (feeders : List ℕ) (comes : ComesFirstOwned after index.ids index.numbers index.seats index.valves ref members feeders)
    (now : List Seat) (moved : AreSeatedOwned ref.slot members (suc (size_of index.valves)) index.seats now) where
  abbrev seats : List Seat
  seats = index.seats

  abbrev net : Net
  net = stands.net

  abbrev net_now : Net
  net_now = with_group (valves_of index.seats members) feeders stands.net

  -- what feeds the valve of the group, and how many sets are counted at it
  abbrev fed : List ℕ
  fed = valves_of index.seats members

  abbrev sets : ℕ
  sets = plain_among index.seats members

  abbrev own_now : ℕ → ℕ
  own_now = with_two_counts (plain_among index.seats members) stands.net.size stands.own

  abbrev ids : List ℕ
  ids = ids_of checks.list

  many : 200 ≤ net.size
  many = stands.wired.many

  size_is : size_of index.valves ≡ net.size
  size_is = stands.fits.laid.size

  cond_there : (n : ℕ) → n < net.size → net_now.condition n ≡ net.condition n
  cond_there n low = there fed feeders sets net stands.own n low

  own_there_now : (n : ℕ) → n < net.size → own_now n ≡ stands.own n
  own_there_now n low = count_there fed feeders sets net stands.own n low

  -- ---- seats

  set_now : set_seat now ref.slot ≡ suc (suc net.size)
  set_now = moved.own ∙ ap (λ (n : ℕ). suc (suc n)) size_is

  its_seat : seat_of now ref.slot ≡ suc (suc net.size)
  its_seat = ap own_part set_now ∙ own_is (suc (suc net.size)) (omega (arith, many))

  none_own : seat_of seats ref.slot ≡ 0
  none_own = ap own_part comes.bare

  still_here : (zone : ℕ) (p : Slotted) → IsHere (placed_in before zone) p → IsHere (placed_in after zone) p
  still_here zone p here_was = elim (moves.stays zone p here_was) [
    | inl told ↦ absurd (is_none removed (ref_in zone p) is_removed told)
    | inr still ↦ still
  ]

  was_here : (zone : ℕ) (p : Slotted) → IsHere (placed_in after zone) p → p.slot ≢ ref.slot
      → IsHere (placed_in before zone) p
  was_here zone p here_now apart = elim (moves.only zone p here_now) [
    | inl was ↦ was
    | inr new ↦ absurd (apart (ap (λ (r : SetRef). r.slot) (is_one added ref (ref_in zone p) is_added new)))
  ]

  -- what went and came, as the seats before tell
  by_went : (i : ℕ) (r : SetRef) → slice_get removed i ≡ Some r → WentBy seats added r
  by_went i r at = absurd (is_none removed r is_removed (i, at))

  came : CameBy before after seats removed ref
  came = record {
    set = comes.set;
    names = comes.names;
    as_own = inl none_own;
    place = inr (none_own, comes.alone);
  }

  by_came : (i : ℕ) (r : SetRef) → slice_get added i ≡ Some r → CameBy before after seats removed r
  by_came i r at = subst (CameBy before after seats removed) (sym (is_one added ref r is_added (i, at))) came

  -- the set that came
  abbrev alias : Slotted
  alias = record { slot = ref.slot; set = comes.set }

  its_zone : (zone : ℕ) (q : Slotted) → IsHere (placed_in after zone) q → q.slot ≡ ref.slot → zone ≡ ref.zone
  its_zone zone q here_now e =
      ap (λ (r : SetRef). r.zone) (one_ref after (ref_in zone q) ref q.set comes.set slots_after here_now comes.names e)

  its_set : (zone : ℕ) (q : Slotted) → IsHere (placed_in after zone) q → q.slot ≡ ref.slot → q.set ≡ comes.set
  its_set zone q here_now e =
      one_named after ref q.set comes.set are_after
      (subst (λ (n : ℕ). IsHere (placed_in after ref.zone) (record { slot = n; set = q.set })) e
      (subst (λ (n : ℕ). IsHere (placed_in after n) q) (its_zone zone q here_now e) here_now)) comes.names

  -- ---- the target group

  abbrev t : HasOwnTarget after seats ref comes.set members
  t = comes.its_target

  -- the alias is none of it
  member_other : (p : Slotted) → IsHere members p → p.slot ≢ ref.slot
  member_other p m = (t.own p m).0

  -- what it tells of the set is what it told
  sets_kept : (s : ℕ) → s ≢ ref.slot → TellsOn seats now s
  sets_kept s apart = moved.sets s apart

  member_group : (p : Slotted) → IsHere members p → group_seat now p.slot ≡ suc net.size
  member_group p m = moved.group p m (member_other p m) ∙ ap suc size_is

  -- a seat that told something is not that of the alias
  own_apart : (s valve : ℕ) → seat_of seats s ≡ suc valve → s ≢ ref.slot
  own_apart s valve is e = some_seat (set_seat seats s) valve is (ap (set_seat seats) e ∙ comes.bare)

  group_apart : (s valve : ℕ) → group_seat seats s ≡ suc valve → s ≢ ref.slot
  group_apart s valve is e = (let none = ap (group_seat seats) e ∙ comes.none in omega (arith, none, is))

  -- and one that told the valve of a group is none of this one
  group_kept_at : (s valve : ℕ) → group_seat seats s ≡ suc valve → group_seat now s ≡ suc valve
  group_kept_at s valve is =
      moved.others s (group_apart s valve is)
      (λ h. let none = ap (group_seat seats) (sym h.2) ∙ (t.own h.0 h.1).1.1 in omega (arith, none, is)) ∙ is

  own_kept : (s valve : ℕ) → seat_of seats s ≡ suc valve → seat_of now s ≡ suc valve
  own_kept s valve is = ap own_part (sets_kept s (own_apart s valve is)).0 ∙ is

  -- a slot is that of the alias, or of a set of the group, or its seat tells of a group what it told
  record IsMember (s : ℕ) : Type 0 where
    p : Slotted
    m : IsHere members p
    at : p.slot ≡ s

  record Stays (s : ℕ) : Type 0 where
    apart : s ≢ ref.slot
    group : group_seat now s ≡ group_seat seats s

  slot_kind : (s : ℕ) → (s ≡ ref.slot) ⊎ (IsMember s ⊎ Stays s)
  slot_kind s = elim (cases_eq s ref.slot) [
    | inl e ↦ inl e
    | inr apart ↦ inr (elim (slot_in members s) [
      | inl has ↦ inl (record { p = has.0; m = has.1; at = has.2 })
      | inr none ↦ inr (record { apart = apart; group = moved.others s apart (λ h. none h.0 h.1 h.2) })
    ])
  ]

  -- ---- no other valve changes

  valves_kept : (those : List Slotted) → ((p : Slotted) → IsHere those p → p.slot ≢ ref.slot)
      → valves_of now those ≡ valves_of seats those
  valves_kept [] apart = refl
  valves_kept (p ∷ those) apart =
      ap (λ (n : ℕ). with_valve n (valves_of now those)) (ap own_part (sets_kept p.slot (apart p (inl refl))).0)
      ∙ ap (with_valve (seat_of seats p.slot)) (valves_kept those (λ q m. apart q (inr m)))

  plain_kept : (those : List Slotted) → ((p : Slotted) → IsHere those p → p.slot ≢ ref.slot)
      → plain_among now those ≡ plain_among seats those
  plain_kept [] apart = refl
  plain_kept (p ∷ those) apart =
      let one = ap (λ (n : ℕ). plain (own_part n)) (sets_kept p.slot (apart p (inl refl))).0 in
      let rest = plain_kept those (λ q m. apart q (inr m)) in
      omega (arith, one, rest)

  group_kept : (those : List Slotted) (h : ℕ) → IsGroupValve seats net stands.own those h
      → IsGroupValve now net_now own_now those h
  group_kept those h w =
      let apart : (p : Slotted) → IsHere those p → p.slot ≢ ref.slot = λ p m. group_apart p.slot h (w.each p m) in
      let low = w.within in
      record {
        seat = (w.seat.0, (w.seat.1.0, group_kept_at w.seat.0 h w.seat.1.1));
        each = λ p m. group_kept_at p.slot h (w.each p m);
        behind = w.behind;
        within = omega (arith, low);
        condition = cond_there h low ∙ w.condition
            ∙ ap (λ (l : List ℕ). record { need = 1; inverted = false; feeders = l }) (sym (valves_kept those apart));
        its_own = own_there_now h low ∙ w.its_own ∙ sym (plain_kept those apart);
      }

  target_kept : (zone : ℕ) (rtype : RType) (its : Body) (target : List ℕ)
      → IsTarget after seats net stands.own zone rtype its target
      → IsTarget after now net_now own_now zone rtype its target
  target_kept zone rtype (body.Values ttl values) target is = is
  target_kept zone rtype (body.Alias name evaluate) target (inl off) = inl off
  target_kept zone rtype (body.Alias name evaluate) target (inr (on, (valve, is, (those, are, w)))) =
      inr (on, (valve, is, (those, are, group_kept those valve w)))

  node_kept : (valve : ℕ) (node : Node)
      → IsValveFor after checks.list index.numbers seats net stands.own valve node
      → IsValveFor after checks.list index.numbers now net_now own_now valve node
  node_kept valve (CheckNode id) is = is
  node_kept valve (SetNode zone set) (s, (here_now, seat)) =
      (s, (here_now, own_kept s valve seat))
  node_kept valve (GroupNode zone name rtype) (those, (are, w)) =
      (those, (are, group_kept those valve w))

  -- ---- the valve of the target group

  first_in : (those : List Slotted) → 1 ≤ length those → (p : Slotted) × (slice_get those 0 ≡ Some p)
  first_in [] some = absurd (omega (arith, some))
  first_in (p ∷ those) some = (p, refl)

  founded : IsGroupValve now net_now own_now members net.size
  founded =
      let f = first_in members t.some in
      record {
        seat = (f.0.slot, ((f.0, f.1, refl), member_group f.0 (among_at members 0 f.0 f.1)));
        each = member_group;
        behind = many;
        within = omega arith;
        condition = at_first fed feeders sets net stands.own
            ∙ ap (λ (l : List ℕ). record { need = 1; inverted = false; feeders = l }) (sym (valves_kept members member_other));
        its_own = count_first fed feeders sets net stands.own ∙ sym (plain_kept members member_other);
      }

  on : (comes.set.body ≡ body.Alias t.name true) × (comes.set.rtype ≡ t.rtype)
  on = on_body comes.set.rtype comes.set.body t.name t.rtype comes.on t.target

  its_target : IsTarget after now net_now own_now ref.zone comes.set.rtype comes.set.body (net.size ∷ [])
  its_target =
      subst (λ (r : RType). IsTarget after now net_now own_now ref.zone r comes.set.body (net.size ∷ [])) (sym on.1)
      (subst (λ (x : Body). IsTarget after now net_now own_now ref.zone t.rtype x (net.size ∷ [])) (sym on.0)
      (inr (refl, (net.size, refl, (members, t.are, founded)))))

  -- ---- sets

  up : suc net.size ≡ net.size + 1
  up = omega arith

  alias_seated : IsSeated after ids index.numbers now net_now own_now ref.zone alias
  alias_seated = record {
    plain = λ off. absurd (false≢true (sym off ∙ watched_on comes.set comes.on));
    told = λ watched. moved.check ∙ sym (alias_alone comes.set comes.on);
    valved = λ watched. inr (
      net.size + 1,
      its_seat ∙ ap suc up,
      record {
        behind = omega (arith, many);
        within = omega arith;
        target = net.size ∷ [];
        its_target = its_target;
        condition = at_last fed feeders sets net stands.own ∙ ap (λ (l : List ℕ). set_condition (l ++ net.size ∷ [])) (comes.are
            ∙ ap (λ (l : List ℕ). map (valve_with l index.numbers) (option_to_list comes.set.check)) stands.ids);
        its_own = count_last fed feeders sets net stands.own;
      },
    );
  }

  seated_kept : (zone : ℕ) (p : Slotted) → IsHere (placed_in before zone) p → TellsOn seats now p.slot
      → IsSeated after ids index.numbers now net_now own_now zone p
  seated_kept zone p here_was tells =
      let s = stands.wired.its_sets zone p here_was in
      record {
        plain = λ is. tells.0 ∙ s.plain is;
        told = λ watched. tells.1 ∙ s.told watched;
        valved = λ watched. elim (s.valved watched) [
          | inl alone ↦ inl (alone.0, (alone.1.0, tells.0 ∙ alone.1.1))
          | inr v ↦ (
              let low = v.2.within in
              inr (
                v.0,
                ap own_part tells.0 ∙ v.1,
                record {
                  behind = v.2.behind;
                  within = omega (arith, low);
                  target = v.2.target;
                  its_target = target_kept zone p.set.rtype p.set.body v.2.target
                      (target_now before after stands.are_zones are_after removed added moves seats by_went by_came checks.list index.numbers
                      net stands.own ids index.valves zone p.set.rtype p.set.body v.2.target v.2.its_target);
                  condition = cond_there v.0 low ∙ v.2.condition;
                  its_own = own_there_now v.0 low ∙ v.2.its_own;
                },
              )
              )
        ];
      }

  seated_now : (zone : ℕ) (p : Slotted) → IsHere (placed_in after zone) p
      → IsSeated after ids index.numbers now net_now own_now zone p
  seated_now zone p here_now = elim (cases_eq p.slot ref.slot) [
    | inl e ↦
        subst (λ (z : ℕ). IsSeated after ids index.numbers now net_now own_now z p) (sym (its_zone zone p here_now e))
        (subst (IsSeated after ids index.numbers now net_now own_now ref.zone)
        (slotted_is p ref.slot comes.set e (its_set zone p here_now e)) alias_seated)
    | inr apart ↦ seated_kept zone p (was_here zone p here_now apart) (sets_kept p.slot apart)
  ]

  -- ---- seats that tell a valve

  own_within : (s valve : ℕ) → seat_of seats s ≡ suc valve → valve < net.size
  own_within s valve is =
      let h = stands.told.here s (some_seat (set_seat seats s) valve is) in
      let p : Slotted = record { slot = h.0.slot; set = h.1.0 } in
      (of_seat before checks reports index stands h.0.zone p valve h.1.1.0 (ap (seat_of seats) h.1.1.1 ∙ is)).within

  -- a seat that tells a valve of a set's own is that of the alias, or told it before
  own_was : (s valve : ℕ) → seat_of now s ≡ suc valve
      → ((s ≡ ref.slot) × (valve ≡ suc net.size)) ⊎ (seat_of seats s ≡ suc valve)
  own_was s valve is = elim (cases_eq s ref.slot) [
    | inl e ↦ inl (e, (let its = ap (seat_of now) e ∙ its_seat in omega (arith, its, is)))
    | inr apart ↦ inr (sym (ap own_part (sets_kept s apart).0) ∙ is)
  ]

  -- one that tells the valve of a group is that of a set of the new one, or told it before
  group_was : (s valve : ℕ) → group_seat now s ≡ suc valve
      → (IsMember s × (valve ≡ net.size)) ⊎ (group_seat seats s ≡ suc valve)
  group_was s valve is = elim (slot_kind s) [
    | inl e ↦ (let none = ap (group_seat now) e ∙ moved.none in absurd (omega (arith, none, is)))
    | inr (inl has) ↦
        let told = ap (group_seat now) (sym has.at) ∙ member_group has.p has.m in
        inl (has, omega (arith, told, is))
    | inr (inr tells) ↦ inr (sym tells.group ∙ is)
  ]

  abbrev one_group_kept : (valve : ℕ) → valve < net.size → IsOfOneGroup after seats valve → IsOfOneGroup after now valve
  one_group_kept valve low x = record {
    zone = x.zone;
    name = x.name;
    rtype = x.rtype;
    members = x.members;
    are = x.are;
    led = x.led;
    behind = x.behind;
    each = λ p m. group_kept_at p.slot valve (x.each p m);
    only = λ other tells. elim (group_was other valve tells) [
      | inl new ↦ (let last = new.1 in absurd (omega (arith, last, low)))
      | inr was ↦ x.only other was
    ];
  }

  new_group : (valve : ℕ) → valve ≡ net.size → IsOfOneGroup after now valve
  new_group valve last = record {
    zone = ref.zone;
    name = t.name;
    rtype = t.rtype;
    members = members;
    are = t.are;
    led = (alias, (comes.names, (on.0, on.1)));
    behind = omega (arith, last, many);
    each = λ p m. member_group p m ∙ ap suc (sym last);
    only = λ other tells. elim (group_was other valve tells) [
      | inl new ↦ (new.0.p, new.0.m, new.0.at)
      | inr was ↦ (let low = stands.wired.its_groups other valve was in absurd (omega (arith, last, low)))
    ];
  }

  told_now : TellApart after now
  told_now = record {
    sets = λ s other valve is its. elim (own_was s valve is) [
      | inl new ↦ elim (own_was other valve its) [
        | inl both ↦ new.0 ∙ sym both.0
        | inr was ↦ (let last = new.1 in let low = own_within other valve was in absurd (omega (arith, last, low)))
      ]
      | inr was ↦ elim (own_was other valve its) [
        | inl new ↦ (let last = new.1 in let low = own_within s valve was in absurd (omega (arith, last, low)))
        | inr both ↦ stands.told.sets s other valve was both
      ]
    ];
    kinds = λ s other valve is its. elim (own_was s valve is) [
      | inl new ↦ elim (group_was other valve its) [
        | inl both ↦ (let last = new.1 in let first = both.1 in omega (arith, last, first))
        | inr was ↦ (let last = new.1 in let low = stands.wired.its_groups other valve was in omega (arith, last, low))
      ]
      | inr was ↦ elim (group_was other valve its) [
        | inl new ↦ (let first = new.1 in let low = own_within s valve was in omega (arith, first, low))
        | inr both ↦ stands.told.kinds s other valve was both
      ]
    ];
    groups = λ s valve is. elim (group_was s valve is) [
      | inl new ↦ new_group valve new.1
      | inr was ↦
          let x = stands.told.groups s valve was in
          one_group_kept valve (stands.wired.its_groups s valve was)
          (groups_led before after stands.are_zones are_after removed added moves seats by_went by_came s valve
          was x (x.led.0, (still_here x.zone x.led.0 x.led.1.0, x.led.1.1)))
    ];
    here = λ s some. elim (cases_eq s ref.slot) [
      | inl e ↦ (ref, (comes.set, (comes.names, sym e)))
      | inr apart ↦
          let h = stands.told.here s (λ none. some ((sets_kept s apart).0 ∙ none)) in
          let p : Slotted = record { slot = h.0.slot; set = h.1.0 } in
          (h.0, (h.1.0, (still_here h.0.zone p h.1.1.0, h.1.1.1)))
    ];
  }

  -- ---- all valves

  check_now : (place valve id : ℕ) (check : Check) → slice_get checks.list place ≡ Some (id, check)
      → slice_get index.numbers place ≡ Some valve
      → IsCheckValve ids index.numbers net_now own_now reports valve id check
  check_now place valve id check at numbered =
      let c = stands.wired.its_checks place valve id check at numbered in
      let low = c.within in
      record {
        within = omega (arith, low);
        condition = cond_there valve low ∙ c.condition;
        its_own = own_there_now valve low ∙ c.its_own;
      }

  nodes_now : (valve : ℕ) → valve < net_now.size → IsSpare index.numbers valve ⊎ (IsVacant net_now valve
      ⊎ ((node : Node) × IsValveFor after checks.list index.numbers now net_now own_now valve node))
  nodes_now valve within = elim (cases_lt valve net.size) [
    | inl low ↦ elim (stands.wired.its_nodes valve low) [
      | inl spare ↦ inl spare
      | inr (inl vacant) ↦ inr (inl (vacant.0, cond_there valve low ∙ vacant.1))
      | inr (inr n) ↦ (
          let m = node_now before after stands.are_zones are_after removed added moves seats by_went by_came checks.list
          index.numbers net stands.own ids index.valves valve n.0 n.1 in
          inr (inr (m.0, node_kept valve m.0 m.1))
          )
    ]
    | inr past ↦ elim (cases_eq valve net.size) [
      | inl e ↦ inr (inr (GroupNode ref.zone t.name t.rtype, (members, (t.are, subst (IsGroupValve now net_now own_now members) (sym e) founded))))
      | inr apart ↦
          let last : suc net.size ≡ valve = omega (arith, within, past, apart) in
          inr (inr (SetNode ref.zone comes.set, (ref.slot, (comes.names, its_seat ∙ ap suc last))))
    ]
  ]

  spares_now : (valve : ℕ) → IsSpare index.numbers valve → net_now.condition valve ≡ spare_condition
  spares_now valve spare =
      let low = spare.0 in
      cond_there valve (omega (arith, low, many)) ∙ stands.wired.spares valve spare

  -- what is fed is there
  fed_there : (x y : ℕ) → Feeds net_now x y → y < net_now.size
  fed_there x y feeds = elim (cases_lt y (net.size + 1 + 1)) [
    | inl low ↦ low
    | inr past ↦
        absurd (nothing_in x (subst (λ (c : Condition). Contains c.feeders x) (behind fed feeders sets net stands.own y (omega (arith, past))) feeds))
  ]

  pub ends_founded : PathsEnd → HasEnds net_now
  ends_founded law =
      valves_end after checks index.numbers now net_now own_now stands.numbers are_after stands.are_checks sound
      (λ place valve id check at numbered. ap (λ (c : Condition). c.feeders) (check_now place valve id check at numbered).condition)
      (condition_seated after ids index.numbers now net_now own_now seated_now (early_in after checks index.numbers stands.numbers sound))
      nodes_now spares_now law fed_there

  listed_now : (zone valve : ℕ) (p : Slotted) → IsHere (placed_in after zone) p → seat_of now p.slot ≡ suc valve
      → IsListed (index.refs ++ ref ∷ []) (ref_in zone p)
  listed_now zone valve p here_now is = elim (own_was p.slot valve is) [
    | inl new ↦
        let one = one_ref after (ref_in zone p) ref p.set comes.set slots_after here_now comes.names new.0 in
        (length index.refs, last_there index.refs ref ∙ ap Some (sym one))
    | inr was ↦
        let l = stands.listed zone valve p (was_here zone p here_now (own_apart p.slot valve was)) was in
        (l.0, still_there index.refs ref (ref_in zone p) l.0 l.1)
  ]

  members_now : (s valve : ℕ) → group_seat now s ≡ suc valve → set_seat now s ≡ seat_of now s
  members_now s valve is = elim (slot_kind s) [
    | inl e ↦ (let none = ap (group_seat now) e ∙ moved.none in absurd (omega (arith, none, is)))
    | inr (inl has) ↦
        let kept = ap (set_seat now) (sym has.at) ∙ (sets_kept has.p.slot (member_other has.p has.m)).0 in
        let own = kept ∙ (t.own has.p has.m).1.0 in
        own ∙ own_still (set_seat seats has.p.slot) ∙ sym (ap own_part own)
    | inr (inr tells) ↦
        let kept = (sets_kept s tells.apart).0 in
        kept ∙ stands.wired.its_members s valve (sym tells.group ∙ is) ∙ sym (ap own_part kept)
  ]

  groups_now : (s valve : ℕ) → group_seat now s ≡ suc valve → valve < net_now.size
  groups_now s valve is = elim (group_was s valve is) [
    | inl new ↦ (let first = new.1 in omega (arith, first))
    | inr was ↦ (let low = stands.wired.its_groups s valve was in omega (arith, low))
  ]

  pub founded_stands : PathsEnd → (valves : Valves) (space : Space) → ValvesStandFor net_now own_now valves
      → MeetAll net_now own_now valves → IsIdle valves → (listed : List SetRef) → listed ≡ index.refs ++ ref ∷ []
      → (noted : List SetRef)
      → StandsFor after checks reports
      (record index { seats = now; refs = listed; members = noted; valves = valves; space = space })
  founded_stands law valves space fits meet idle listed is noted = record {
    are_zones = are_after;
    slots = slots_after;
    are_checks = stands.are_checks;
    sound = sound;
    are_reports = stands.are_reports;
    ids = stands.ids;
    numbers = stands.numbers;
    seen = stands.seen;
    as_many = stands.as_many;
    kin = stands.kin;
    listed = λ zone valve p here_now its.
        subst (λ (l : List SetRef). IsListed l (ref_in zone p)) (sym is) (listed_now zone valve p here_now its);
    net = net_now;
    own = own_now;
    wired = record {
      its_checks = check_now;
      its_sets = seated_now;
      its_nodes = nodes_now;
      spares = spares_now;
      many = omega (arith, many);
      its_groups = groups_now;
      its_members = members_now;
    };
    told = told_now;
    fits = fits;
    ends = ends_founded law;
    meet = meet;
    idle = idle;
  }
