-- One set that nothing decides came or went: all valves stand as they stood, and one counts one more such set,
-- or one fewer.
use Rattle.std.proofs.Common.{◌≡◌, ◌≢◌, ◌+◌, ℕ, suc, Bool, true, false, List, [], ◌∷◌, arith, refl, ap, sym, ◌∙◌, inl, inr, Option, None, Some}
use Rattle.std.specs.Prelude.{◌||◌, is_some}
use Rattle.std.proofs.lemmas.Bool.{cases_eq, false≢true}
use mathlib.Core.Path.{subst}
use Rattle.check_model.specs.Checks.{Checks}
use Rattle.health_standing.proofs.Keyed.{grouped, grouped_sets, keyed, keyed_same, valves_by_slots, plain_by_slots}
use Rattle.health_standing.proofs.Slots.{apart_in, in_slot, in_without, of_without, plain_without, rising_without, some_or_none, valves_without, without_slot}
use Rattle.health_standing.proofs.Staying.{in_filter, rising_filtered}
use Rattle.health_standing.specs.Index.{Index, IsOfOneGroup, Space, StandsFor, TellApart}
use Rattle.health_standing.specs.Regrouping.{IsSeatedIn}
use Rattle.health_model.proofs.Members.{of_filter}
use Rattle.health_model.specs.Nodes.{CheckNode, GroupNode, Node, SetNode}
use Rattle.health_model.specs.Sound.{IsSound}
use Rattle.health_model.specs.Statuses.{Report}
use Rattle.health_planning.proofs.Built.{targets_there}
use Rattle.health_planning.proofs.MembersOfZoneList.{set_in}
use Rattle.health_planning.proofs.Wiring.{first_here, first_of, in_members, of_group, passes_it, rising_in, same_names}
use Rattle.health_planning.specs.Changes.{ref_in}
use Rattle.health_planning.specs.SetRefRecord.{SetRef}
use Rattle.health_planning.specs.Tables.{HaveSlotsApart}
use Rattle.health_planning.specs.Telling.{evaluates}
use Rattle.health_planning.specs.Wired.{AreMembers, HasSlot, IsGroupValve, IsLedTo, IsSeated, IsTarget, IsValveFor, TellGroup, group_seat, ids_of, is_watched, own_part, plain, plain_among, seat_of, set_seat, valves_of, watched_of, with_valve}
use Rattle.health_planning.specs.Zones.{AreZones, Zone, placed_in}
use Rattle.health_planning.specs.declared.seats.Seat.{Seat}
use Rattle.health_valves.specs.Pass.{IsIdle, MeetAll}
use Rattle.health_valves.specs.Valves.{Net, ValvesStandFor}
use Rattle.health_valves.specs.declared.valves.Valves.{Valves}
use Rattle.rdata_layout.specs.declared.types.RType.{RType}
use Rattle.record_set.specs.Reasons.{IsAlias}
use Rattle.record_set.specs.declared.sets.Body.{Body}
use Rattle.record_set.specs.declared.sets.Body.TheVariants as body
use Rattle.record_set.specs.declared.sets.RecordSet.{RecordSet}
use Rattle.zone_model.specs.Slotted.{IsHere, Slotted, sets_of}
use Rattle.zone_model.specs.Zones.{IsAmong, IsRising, group, is_of_group, target_group_of}

or_true : (check : Option ℕ) → is_some check || true ≡ true
or_true None = refl
or_true (Some id) = refl

pub watched_on : (set : RecordSet) → evaluates set.body ≡ true → is_watched set ≡ true
watched_on set on = ap (λ (b : Bool). is_some set.check || b) on ∙ or_true set.check

-- what an evaluated alias leads to has a set
abbrev IsNone : List RecordSet → RType → Body → Type 0
IsNone sets t b = IsAlias b × (target_group_of sets t b ≡ [])

pub led_some : (zones : List Zone) (checks : Checks) → IsSound (watched_of zones checks) → (zone : ℕ)
    (name : List (List ℕ)) (rtype : RType) → IsLedTo zones zone name rtype
    → (q : Slotted) × IsHere (grouped name rtype (placed_in zones zone)) q
led_some zones checks sound zone name rtype (p, (here, is)) = elim (some_or_none (grouped name rtype (placed_in zones zone))) [
  | inl first ↦ (first.0, subst (λ (l : List Slotted). IsHere l first.0) (sym first.2) (inl refl))
  | inr none ↦
      let bare : group (sets_of (placed_in zones zone)) name rtype ≡ [] =
      sym (grouped_sets name rtype (placed_in zones zone)) ∙ ap sets_of none in
      absurd (targets_there zones checks sound (ref_in zone p) p.set here
      (subst (λ (b : Body). IsNone (sets_of (placed_in zones zone)) p.set.rtype b) (sym is.0)
      (tt, ap (group (sets_of (placed_in zones zone)) name) is.1 ∙ bare)))
]

-- groups whose sets tell one valve are one
pub one_told : (zones : List Zone) (are_zones : AreZones zones) (apart : HaveSlotsApart zones)
    (seats : List Seat) (valve : ℕ) (x : IsOfOneGroup zones seats valve) (zone : ℕ) (name : List (List ℕ))
    (rtype : RType) (members : List Slotted) → AreMembers zones zone name rtype members
    → (p : Slotted) → IsHere members p → group_seat seats p.slot ≡ suc valve
    → (zone ≡ x.zone) × ((name ≡ x.name) × (rtype ≡ x.rtype))
one_told zones are_zones apart seats valve x zone name rtype members are p m tells =
    let a = x.only p.slot tells in
    same_names zones are_zones apart x.zone zone x.name name x.rtype rtype x.members members a.0 p x.are a.1 are m a.2

module _ (before after : List Zone) (checks : Checks) (reports : List Report) (index : Index)
    (stands : StandsFor before checks reports index) (are_after : AreZones after)
    (slots_after : HaveSlotsApart after) (sound : IsSound (watched_of after checks))
    (now : List Seat) (slot g seat : ℕ) (moved : IsSeatedIn slot seat index.seats now)
    (bare : set_seat index.seats slot ≡ 0)
    (stays : (zone : ℕ) (p : Slotted) → IsHere (placed_in before zone) p → p.slot ≢ slot → IsHere (placed_in after zone) p)
    (only : (zone : ℕ) (p : Slotted) → IsHere (placed_in after zone) p → p.slot ≢ slot → IsHere (placed_in before zone) p)
    (off : (zone : ℕ) (p : Slotted) → IsHere (placed_in after zone) p → p.slot ≡ slot → is_watched p.set ≡ false)
    (own_now : ℕ → ℕ) where
  abbrev seats : List Seat
  seats = index.seats

  abbrev net : Net
  net = stands.net

  sets_same : (s : ℕ) → set_seat now s ≡ set_seat seats s
  sets_same s = elim (cases_eq s slot) [
    | inl e ↦ ap (set_seat now) e ∙ moved.set ∙ sym bare ∙ ap (set_seat seats) (sym e)
    | inr apart ↦ (moved.others s apart).0.0
  ]

  own_same : (s : ℕ) → seat_of now s ≡ seat_of seats s
  own_same s = ap own_part (sets_same s)

  none_own : seat_of seats slot ≡ 0
  none_own = ap own_part bare

  -- before, too, nothing decides a set in the slot
  off_was : (zone : ℕ) (p : Slotted) → IsHere (placed_in before zone) p → p.slot ≡ slot → is_watched p.set ≡ false
  off_was zone p here e = by (is_watched p.set) refl
    where
      by : (b : Bool) → is_watched p.set ≡ b → is_watched p.set ≡ false
      by false is = is
      by true on = elim ((stands.wired.its_sets zone p here).valved on) [
        | inl alone ↦ (let some = alone.1.1 in let none = ap (set_seat seats) e ∙ bare in absurd (omega (arith, some, none)))
        | inr its ↦ (let some = its.1 in let none = ap (seat_of seats) e ∙ none_own in absurd (omega (arith, some, none)))
      ]

  -- ---- a group

  valves_kept : (members : List Slotted) → valves_of now members ≡ valves_of seats members
  valves_kept [] = refl
  valves_kept (p ∷ members) =
      ap (λ (n : ℕ). with_valve n (valves_of now members)) (own_same p.slot)
      ∙ ap (with_valve (seat_of seats p.slot)) (valves_kept members)

  plain_kept : (members : List Slotted) → plain_among now members ≡ plain_among seats members
  plain_kept [] = refl
  plain_kept (p ∷ members) =
      let one = ap plain (own_same p.slot) in
      let rest = plain_kept members in
      omega arith

  module _ (zone : ℕ) (name : List (List ℕ)) (rtype : RType) (members : List Slotted) (h : ℕ)
      (are : AreMembers before zone name rtype members) (tell : TellGroup seats members h) where
    abbrev pub members_now : List Slotted
    members_now = grouped name rtype (placed_in after zone)

    its_name : (p : Slotted) → IsHere members p → (name ≡ p.set.name) × (rtype ≡ p.set.rtype)
    its_name p m = of_group (sets_of (placed_in before zone)) name rtype p.set
        (subst (λ (l : List RecordSet). IsAmong l p.set) are.sets (set_in members p m))

    pub here_now : (q : Slotted) → IsHere members_now q → IsHere (placed_in after zone) q
    here_now q m = of_filter (λ (x : Slotted). is_of_group name rtype x.set) (placed_in after zone) q m

    pub name_now : (q : Slotted) → IsHere members_now q → (name ≡ q.set.name) × (rtype ≡ q.set.rtype)
    name_now q m = of_group (sets_of (placed_in after zone)) name rtype q.set
        (subst (λ (l : List RecordSet). IsAmong l q.set) (grouped_sets name rtype (placed_in after zone)) (set_in members_now q m))

    pub to : (p : Slotted) → IsHere members p → p.slot ≢ slot → IsHere members_now p
    to p m apart =
        let n = its_name p m in
        in_filter (λ (x : Slotted). is_of_group name rtype x.set) (placed_in after zone) p
        (stays zone p (are.here p m) apart) (passes_it name rtype p.set n.0 n.1)

    pub from : (q : Slotted) → IsHere members_now q → q.slot ≢ slot → IsHere members q
    from q m apart =
        let n = name_now q m in
        in_members before stands.are_zones zone name rtype members q are (only zone q (here_now q m) apart) n.0 n.1

    pub rising : IsRising (sets_of members)
    rising = subst IsRising (sym are.sets) (rising_filtered (is_of_group name rtype) (sets_of (placed_in before zone)) (rising_in before stands.are_zones.each zone))

    pub rising_now : IsRising (sets_of members_now)
    rising_now = subst IsRising (sym (grouped_sets name rtype (placed_in after zone)))
        (rising_filtered (is_of_group name rtype) (sets_of (placed_in after zone)) (rising_in after are_after.each zone))

    both : keyed (without_slot slot members) ≡ keyed (without_slot slot members_now)
    both = keyed_same (without_slot slot members) (without_slot slot members_now)
        (rising_without slot members rising) (rising_without slot members_now rising_now)
        (λ p m. (p, in_without slot members_now p (to p (of_without slot members p m) (apart_in slot members p m)) (apart_in slot members p m), refl))
        (λ p m. (p, in_without slot members p (from p (of_without slot members_now p m) (apart_in slot members_now p m)) (apart_in slot members_now p m), refl))

    pub valves_both : valves_of now members_now ≡ valves_of seats members
    valves_both = valves_kept members_now ∙ valves_without slot seats none_own members_now
        ∙ sym (valves_by_slots seats (without_slot slot members) (without_slot slot members_now) both)
        ∙ sym (valves_without slot seats none_own members)

    pub plain_both : plain_among now members_now + in_slot slot members
        ≡ plain_among seats members + in_slot slot members_now
    plain_both =
        let kept = plain_kept members_now in
        let first = plain_without slot seats none_own members in
        let second = plain_without slot seats none_own members_now in
        let same = plain_by_slots seats (without_slot slot members) (without_slot slot members_now) both in
        omega (arith, kept, first, second, same)

  -- ---- all valves

  module _ (own_other : (n : ℕ) → n ≢ g → own_now n ≡ stands.own n)
      (g_told : (s : ℕ) × (group_seat seats s ≡ suc g))
      (count : (zone : ℕ) (name : List (List ℕ)) (rtype : RType) (members : List Slotted) (h : ℕ)
      → AreMembers before zone name rtype members → TellGroup seats members h → (p : Slotted) → IsHere members p
      → own_now h + in_slot slot members ≡ stands.own h + in_slot slot (grouped name rtype (placed_in after zone)))
      (tell_slot : (zone : ℕ) (name : List (List ℕ)) (rtype : RType) (members : List Slotted) (h : ℕ)
      → AreMembers before zone name rtype members → TellGroup seats members h → (p : Slotted) → IsHere members p
      → (q : Slotted) → IsHere (grouped name rtype (placed_in after zone)) q → q.slot ≡ slot → seat ≡ suc h)
      (some_slot : (h : ℕ) → seat ≡ suc h → h ≡ g)
      (only_slot : (h : ℕ) → seat ≡ suc h → (y : IsOfOneGroup before seats h)
      → HasSlot (grouped y.name y.rtype (placed_in after y.zone)) slot) where
    tell_now : (zone : ℕ) (name : List (List ℕ)) (rtype : RType) (members : List Slotted) (h : ℕ)
        (are : AreMembers before zone name rtype members) (tell : TellGroup seats members h) (p : Slotted)
        → IsHere members p → TellGroup now (grouped name rtype (placed_in after zone)) h
    tell_now zone name rtype members h are tell p m q mq = elim (cases_eq q.slot slot) [
      | inl e ↦ ap (group_seat now) e ∙ moved.group_is ∙ tell_slot zone name rtype members h are tell p m q mq e
      | inr apart ↦ (moved.others q.slot apart).1 ∙ tell q (from zone name rtype members h are tell q mq apart)
    ]

    are_now : (zone : ℕ) (name : List (List ℕ)) (rtype : RType)
        → AreMembers after zone name rtype (grouped name rtype (placed_in after zone))
    are_now zone name rtype = record {
      sets = grouped_sets name rtype (placed_in after zone);
      here = λ q m. of_filter (λ (x : Slotted). is_of_group name rtype x.set) (placed_in after zone) q m;
    }

    led_now : (zone : ℕ) (name : List (List ℕ)) (rtype : RType) → IsLedTo before zone name rtype
        → IsLedTo after zone name rtype
    led_now zone name rtype (p, (here, is)) =
        let apart = λ (e : p.slot ≡ slot). false≢true (sym (off_was zone p here e) ∙ watched_on p.set (ap evaluates is.0)) in
        (p, (stays zone p here apart, is))

    led_as : (zone other : ℕ) (name name_two : List (List ℕ)) (rtype rtype_two : RType) → zone ≡ other
        → name ≡ name_two → rtype ≡ rtype_two → IsLedTo before other name_two rtype_two
        → IsLedTo before zone name rtype
    led_as zone other name name_two rtype rtype_two z n r led =
        subst (λ (x : ℕ). IsLedTo before x name rtype) (sym z)
        (subst (λ (x : List (List ℕ)). IsLedTo before other x rtype) (sym n)
        (subst (λ (x : RType). IsLedTo before other name_two x) (sym r) led))

    record HasStill (zone : ℕ) (name : List (List ℕ)) (rtype : RType) (h : ℕ) : Type 0 where
      members : List Slotted
      are : AreMembers after zone name rtype members
      is : IsGroupValve now net own_now members h

    group_now : (zone : ℕ) (name : List (List ℕ)) (rtype : RType) (members : List Slotted) (h : ℕ)
        → AreMembers before zone name rtype members → IsGroupValve seats net stands.own members h
        → HasStill zone name rtype h
    group_now zone name rtype members h are w =
        let f = first_here members w.seat.0 w.seat.1.0 in
        let y = stands.told.groups w.seat.0 h w.seat.1.1 in
        let same = one_told before stands.are_zones stands.slots seats h y zone name rtype members are f.0 f.1 (w.each f.0 f.1) in
        let led = led_as zone y.zone name y.name rtype y.rtype same.0 same.1.0 same.1.1 y.led in
        let q = led_some after checks sound zone name rtype (led_now zone name rtype led) in
        let first = first_of (grouped name rtype (placed_in after zone)) q.0 q.1 in
        let tell = tell_now zone name rtype members h are w.each f.0 f.1 in
        let counted = count zone name rtype members h are w.each f.0 f.1 in
        let plains = plain_both zone name rtype members h are w.each in
        let own_was = w.its_own in
        record {
          members = grouped name rtype (placed_in after zone);
          are = are_now zone name rtype;
          is = record {
            seat = (first.p.slot, ((first.p, first.at, refl), tell first.p first.here));
            each = tell;
            behind = w.behind;
            within = w.within;
            condition = w.condition
                ∙ ap (λ (l : List ℕ). record { need = 1; inverted = false; feeders = l }) (sym (valves_both zone name rtype members h are w.each));
            its_own = omega (arith, counted, plains, own_was);
          };
        }

    target_now : (zone : ℕ) (rtype : RType) (its : Body) (target : List ℕ)
        → IsTarget before seats net stands.own zone rtype its target
        → IsTarget after now net own_now zone rtype its target
    target_now zone rtype (body.Values ttl values) target is = is
    target_now zone rtype (body.Alias name evaluate) target (inl off_by) = inl off_by
    target_now zone rtype (body.Alias name evaluate) target (inr (on, (valve, is, (members, are, w)))) =
        let s = group_now zone name rtype members valve are w in
        inr (on, (valve, is, (s.members, s.are, s.is)))

    own_of_set : (s valve : ℕ) → seat_of seats s ≡ suc valve → own_now valve ≡ stands.own valve
    own_of_set s valve is = own_other valve (λ e.
        stands.told.kinds s g_told.0 valve is (g_told.1 ∙ ap suc (sym e)))

    seated : (zone : ℕ) (p : Slotted) → IsHere (placed_in after zone) p
        → IsSeated after (ids_of checks.list) index.numbers now net own_now zone p
    seated zone p here = elim (cases_eq p.slot slot) [
      | inl e ↦
          let plain = off zone p here e in
          record {
            plain = λ is. ap (set_seat now) e ∙ moved.set;
            told = λ on. absurd (false≢true (sym plain ∙ on));
            valved = λ on. absurd (false≢true (sym plain ∙ on));
          }
      | inr apart ↦
          let s = stands.wired.its_sets zone p (only zone p here apart) in
          record {
            plain = λ is. sets_same p.slot ∙ s.plain is;
            told = λ on. (moved.others p.slot apart).0.1 ∙ s.told on;
            valved = λ on. elim (s.valved on) [
              | inl alone ↦ inl (alone.0, (alone.1.0, sets_same p.slot ∙ alone.1.1))
              | inr v ↦ inr (
                v.0,
                own_same p.slot ∙ v.1,
                record {
                  behind = v.2.behind;
                  within = v.2.within;
                  target = v.2.target;
                  its_target = target_now zone p.set.rtype p.set.body v.2.target v.2.its_target;
                  condition = v.2.condition;
                  its_own = own_of_set p.slot v.0 v.1 ∙ v.2.its_own;
                },
              )
            ];
          }
    ]

    apart_of : (s valve : ℕ) → seat_of seats s ≡ suc valve → s ≢ slot
    apart_of s valve is e = let none = ap (seat_of seats) e ∙ none_own in omega (arith, is, none)

    node_now : (valve : ℕ) (node : Node)
        → IsValveFor before checks.list index.numbers seats net stands.own valve node
        → (m : Node) × IsValveFor after checks.list index.numbers now net own_now valve m
    node_now valve (CheckNode id) is = (CheckNode id, is)
    node_now valve (SetNode zone set) (s, (here, is)) =
        (SetNode zone set, (s, (stays zone (record { slot = s; set = set }) here (apart_of s valve is), own_same s ∙ is)))
    node_now valve (GroupNode zone name rtype) (members, (are, w)) =
        let s = group_now zone name rtype members valve are w in
        (GroupNode zone name rtype, (s.members, (s.are, s.is)))

    -- a group with a valve
    of_one : (valve : ℕ) (y : IsOfOneGroup before seats valve) (s : ℕ) → group_seat seats s ≡ suc valve
        → IsOfOneGroup after now valve
    of_one valve y s tells =
        let f = y.only s tells in
        record {
          zone = y.zone;
          name = y.name;
          rtype = y.rtype;
          members = grouped y.name y.rtype (placed_in after y.zone);
          are = are_now y.zone y.name y.rtype;
          led = led_now y.zone y.name y.rtype y.led;
          behind = y.behind;
          each = tell_now y.zone y.name y.rtype y.members valve y.are y.each f.0 f.1;
          only = λ other its. elim (cases_eq other slot) [
            | inl e ↦
                subst (HasSlot (grouped y.name y.rtype (placed_in after y.zone))) (sym e)
                (only_slot valve (sym moved.group_is ∙ ap (group_seat now) (sym e) ∙ its) y)
            | inr apart ↦
                let p = y.only other (sym (moved.others other apart).1 ∙ its) in
                (p.0, to y.zone y.name y.rtype y.members valve y.are y.each p.0 p.1 (λ e. apart (sym p.2 ∙ e)), p.2)
          ];
        }

    g_one : IsOfOneGroup before seats g
    g_one = stands.told.groups g_told.0 g g_told.1

    -- a seat tells the valve of a group: one that told it before, or that of the one
    told_by : (s valve : ℕ) → group_seat now s ≡ suc valve
        → (other : ℕ) × (group_seat seats other ≡ suc valve)
    told_by s valve is = elim (cases_eq s slot) [
      | inl e ↦
          let one = some_slot valve (sym moved.group_is ∙ ap (group_seat now) (sym e) ∙ is) in
          (g_told.0, g_told.1 ∙ ap suc (sym one))
      | inr apart ↦ (s, sym (moved.others s apart).1 ∙ is)
    ]

    told_apart : TellApart after now
    told_apart = record {
      sets = λ s other valve is its. stands.told.sets s other valve (sym (own_same s) ∙ is) (sym (own_same other) ∙ its);
      kinds = λ s other valve is its.
          let t = told_by other valve its in
          stands.told.kinds s t.0 valve (sym (own_same s) ∙ is) t.1;
      groups = λ s valve is.
          let t = told_by s valve is in
          of_one valve (stands.told.groups t.0 valve t.1) t.0 t.1;
      here = λ s some.
          let h = stands.told.here s (λ none. some (sets_same s ∙ none)) in
          let ref = h.0 in
          let p : Slotted = record { slot = ref.slot; set = h.1.0 } in
          let apart = λ (e : ref.slot ≡ slot). some (sets_same s ∙ ap (set_seat seats) (sym h.1.1.1 ∙ e) ∙ bare) in
          (ref, (h.1.0, (stays ref.zone p h.1.1.0 apart, h.1.1.1)));
    }

    pub regrouped : (noted : List SetRef) (valves : Valves) (space : Space) → ValvesStandFor net own_now valves
        → MeetAll net own_now valves → IsIdle valves
        → StandsFor after checks reports (record index { seats = now; members = noted; valves = valves; space = space })
    regrouped noted valves space fits meet idle = record {
      are_zones = are_after;
      slots = slots_after;
      are_checks = stands.are_checks;
      sound = sound;
      are_reports = stands.are_reports;
      ids = stands.ids;
      numbers = stands.numbers;
      seen = stands.seen;
      as_many = stands.as_many;
      kin = stands.kin;
      listed = λ zone valve p here is.
          let was = sym (own_same p.slot) ∙ is in
          stands.listed zone valve p (only zone p here (apart_of p.slot valve was)) was;
      net = net;
      own = own_now;
      wired = record {
        its_checks = λ place valve id check at numbered.
            let c = stands.wired.its_checks place valve id check at numbered in
            let early = stands.numbers.early place valve numbered in
            let late = g_one.behind in
            record {
              within = c.within;
              condition = c.condition;
              its_own = own_other valve (λ e. omega (arith, e, early, late)) ∙ c.its_own;
            };
        its_sets = seated;
        its_nodes = λ valve within. elim (stands.wired.its_nodes valve within) [
          | inl spare ↦ inl spare
          | inr (inl vacant) ↦ inr (inl vacant)
          | inr (inr n) ↦ inr (inr (node_now valve n.0 n.1))
        ];
        spares = stands.wired.spares;
        many = stands.wired.many;
        its_groups = λ s valve is. let t = told_by s valve is in stands.wired.its_groups t.0 valve t.1;
        its_members = λ s valve is. elim (cases_eq s slot) [
          | inl e ↦ (let none : set_seat now s ≡ 0 = ap (set_seat now) e ∙ moved.set in none ∙ sym (ap own_part none))
          | inr apart ↦
              (moved.others s apart).0.0 ∙ stands.wired.its_members s valve (sym (moved.others s apart).1 ∙ is) ∙ sym (own_same s)
        ];
      };
      told = told_apart;
      fits = fits;
      ends = stands.ends;
      meet = meet;
      idle = idle;
    }
