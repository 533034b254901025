-- Where no valve changes by the sets that went and came, all valves stand as they stood.
use Rattle.std.proofs.Common.{◌≡◌, ◌≢◌, ◌++◌, ℕ, suc, Bool, true, false, cond, List, [], ◌∷◌, map, arith, refl, ap, sym, ◌∙◌, inl, inr, Less, Option, None, Some}
use Rattle.std.specs.List.{filter}
use Rattle.std.specs.Option.{option_to_list}
use Rattle.std.specs.Prelude.{◌||◌, ◌⊎◌, is_some, slice_get}
use Rattle.health_planning.specs.Looking.{RefersTo}
use Rattle.std.proofs.lemmas.Bool.{false≢true}
use mathlib.Core.Path.{subst}
use Rattle.check_model.specs.Checks.{Checks, check_with}
use Rattle.check_model.specs.declared.checks.Check.{Check}
use Rattle.check_model.specs.declared.checks.Check.TheVariants.{Endpoint, Calculated}
use Rattle.health_valves.specs.Valves.{Net}
use Rattle.health_valves.specs.declared.valves.Valves.{Valves}
use Rattle.health_model.proofs.Members.{of_filter}
use Rattle.health_model.specs.Nodes.{CheckNode, GroupNode, Node, SetNode}
use Rattle.health_model.specs.Sound.{IsSound}
use Rattle.health_model.specs.Statuses.{Report}
use Rattle.health_planning.proofs.Members.{one_named}
use Rattle.rdata_layout.specs.declared.types.RType.{RType}
use Rattle.record_set.specs.Sets.{key_of}
use Rattle.record_set.specs.declared.sets.Body.{Body}
use Rattle.record_set.specs.declared.sets.Body.TheVariants as body
use Rattle.record_set.specs.declared.sets.RecordSet.{RecordSet}
use Rattle.record_set.specs.declared.sets.SetKey.{SetKey}
use Rattle.health_planning.specs.Telling.{evaluates}
use Rattle.health_planning.proofs.MembersOfZoneList.{all_in, in_all, one_of_key, placed_with, set_in}
use Rattle.health_planning.specs.Changes.{ref_in}
use Rattle.health_planning.specs.Zones.{AreZones, Zone, placed_in}
use Rattle.health_planning.specs.SetRefRecord.{SetRef}
use Rattle.zone_model.specs.Keys.{key_cmp}
use Rattle.zone_model.specs.Slotted.{IsHere, Slotted, sets_of}
use Rattle.zone_model.specs.Zones.{IsAmong, IsRising, is_of_group}
use Rattle.health_planning.specs.DeltaRecord.{Delta}
use Rattle.health_planning.specs.Tables.{HaveSlotsApart}
use Rattle.health_planning.specs.Later.{AreLater, IsLaterAt, HasThreshold}
use Rattle.health_planning.specs.Building.{IsListed, HoldsSet}
use Rattle.health_planning.specs.Wired.{AreMembers, IsValveFor, IsGroupValve, IsLedTo, IsSeated, IsTarget, TellGroup, check_or_none, check_seat, group_seat, ids_of, is_watched, only_check, own_part, seat_of, set_condition, set_seat, valve_with, watched_of}
use Rattle.health_planning.specs.declared.seats.Seat.{Seat}
use Rattle.health_planning.proofs.Groups.{alias_alone}
use Rattle.health_planning.proofs.Wiring.{first_here, of_group, passes_it, rising_in}
use Rattle.health_standing.specs.Index.{Index, IsOfOneGroup, OwnListed, StandsFor, TellApart}
use Rattle.health_standing.specs.Leaving.{AllCameKeepValves, AllWentKeepValves, AreLeft, HasNoValve, IsAsFed, IsOneOf, KeepsValves, Moves}
use Rattle.health_standing.proofs.FedAlike.{StaysFed, stays_fed}
use Rattle.health_standing.proofs.Keyed.{HasIts, first_by_slots, valves_by_slots, grouped, grouped_sets, its, its_same, keyed, keyed_same, plain_by_slots}
use Rattle.health_standing.proofs.Moving.{moved}

-- ---- sets that pass a test

pub rising_filtered : (f : RecordSet → Bool) (sets : List RecordSet) → IsRising sets
    → IsRising (filter f sets)
rising_filtered f [] rising = rising
rising_filtered f (set ∷ sets) rising = by (rising_filtered f sets rising.1) (f set)
  where
    by : IsRising (filter f sets) → (b : Bool)
        → IsRising (cond b (set ∷ filter f sets) (filter f sets))
    by rest true = (
      all_in (λ later. key_cmp (key_of set) (key_of later) ≡ Less) (filter f sets)
          (λ later there. in_all (λ later. key_cmp (key_of set) (key_of later)
          ≡ Less) sets later rising.0
          (of_filter f sets later there)),
      rest,
    )
    by rest false = rest

pub in_filter : {X : Type 0} (f : X → Bool) (xs : List X) (x : X) → IsAmong xs x
    → f x ≡ true → IsAmong (filter f xs) x
in_filter f [] x there passes = absurd there
in_filter f (other ∷ xs) x there passes =
    by (f other) refl there (λ rest. in_filter f xs x rest passes)
  where
    by : (b : Bool) → f other ≡ b → IsAmong (other ∷ xs) x
        → (IsAmong xs x → IsAmong (filter f xs) x)
        → IsAmong (cond b (other ∷ filter f xs) (filter f xs)) x
    by true e (inl same) later = inl same
    by true e (inr rest) later = inr (later rest)
    by false e (inl same) later = absurd (false≢true (sym e ∙ ap f same ∙ passes))
    by false e (inr rest) later = later rest

-- what is decided by its target is decided
or_on : (check : Option ℕ) {b : Bool} → b ≡ true → is_some check || b ≡ true
or_on check {b} on = ap (λ (x : Bool). is_some check || x) on ∙ or_true check
  where
    or_true : (check : Option ℕ) → is_some check || true ≡ true
    or_true None = refl
    or_true (Some id) = refl

-- ---- sets that one check alone decides

-- The two sets have one check, and neither is an alias whose target's health counts.
record AreAlike (a b : RecordSet) : Type 0 where
  check : a.check ≡ b.check
  off : evaluates a.body ≡ false
  off_too : evaluates b.body ≡ false
  watched : is_watched b ≡ true

same_check : (a b : RecordSet) → only_check a ≡ only_check b → only_check b ≢ 0 → AreAlike a b
same_check a b same some =
    by (evaluates a.body) (evaluates b.body) a.check b.check refl refl refl refl same some
  where
    by : (x y : Bool) (m n : Option ℕ) → evaluates a.body ≡ x → evaluates b.body ≡ y
        → a.check ≡ m → b.check ≡ n → only_check a ≡ only_check b → only_check b ≢ 0
        → AreAlike a b
    by x true m n a_is b_is m_is n_is e some =
        absurd (some (ap (λ (t : Bool). cond t 0 (check_or_none b.check)) b_is))
    by x false m None a_is b_is m_is n_is e some = absurd (some (
        ap (λ (t : Bool). cond t 0 (check_or_none b.check)) b_is ∙ ap check_or_none n_is))
    by true false m (Some id) a_is b_is m_is n_is e some = absurd (some (
        sym e ∙ ap (λ (t : Bool). cond t 0 (check_or_none a.check)) a_is))
    by false false None (Some id) a_is b_is m_is n_is e some = absurd (some (
        sym e ∙ ap (λ (t : Bool). cond t 0 (check_or_none a.check)) a_is ∙ ap check_or_none m_is))
    by false false (Some one) (Some id) a_is b_is m_is n_is e some =
        let first = ap (λ (t : Bool). cond t 0 (check_or_none a.check)) a_is ∙ ap check_or_none m_is in
        let second = ap (λ (t : Bool). cond t 0 (check_or_none b.check)) b_is ∙ ap check_or_none n_is in
        let ids : one ≡ id = sym first ∙ e ∙ second in
        record {
          check = m_is ∙ ap Some ids ∙ sym n_is;
          off = a_is;
          off_too = b_is;
          watched = ap (λ (c : Option ℕ). is_some c || evaluates b.body) n_is;
        }

module _ (zones : List Zone) (seats : List Seat) (net : Net) (own : ℕ → ℕ) (zone : ℕ) (rtype : RType) where
  no_target_of : (its_body : Body) (target : List ℕ) → evaluates its_body ≡ false
      → IsTarget zones seats net own zone rtype its_body target → target ≡ []
  no_target_of (body.Values ttl values) target off is = is
  no_target_of (body.Alias name evaluate) target off (inl (e, is)) = is
  no_target_of (body.Alias name evaluate) target off (inr (on, more)) =
      absurd (false≢true (sym off ∙ on))

  to_no_target : (its_body : Body) (target : List ℕ) → evaluates its_body ≡ false
      → target ≡ [] → IsTarget zones seats net own zone rtype its_body target
  to_no_target (body.Values ttl values) target off is = is
  to_no_target (body.Alias name evaluate) target off is = inl (off, is)

-- ---- valves

-- Another set came in the place of one that went; or neither that nor its group had a valve of its own.
abbrev pub WentBy : List Seat → (added : List SetRef) → SetRef → Type 0
WentBy seats added ref =
    ((seat_of seats ref.slot ≡ 0) × (group_seat seats ref.slot ≡ 0)) ⊎ IsOneOf added ref

-- A set came in the place of another, or into a slot and a group without a valve of their own; and where its
-- slot has one, the same check alone decides it, or it leads where that one led.
pub record CameBy (before zones : List Zone) (seats : List Seat) (removed : List SetRef) (ref : SetRef) : Type 0 where
  pub set : RecordSet
  pub names : RefersTo zones ref set
  pub as_own : (seat_of seats ref.slot ≡ 0)
      ⊎ (((only_check set ≢ 0) × (check_seat seats ref.slot ≡ only_check set))
      ⊎ ((p : Slotted) → IsHere (placed_in before ref.zone) p → p.slot ≡ ref.slot → p.set.body ≡ set.body))
  pub place : IsOneOf removed ref
      ⊎ ((seat_of seats ref.slot ≡ 0) × HasNoValve zones seats ref.zone set.name set.rtype)

module _ (before after : List Zone) (are_before : AreZones before) (are_after : AreZones after)
    (removed added : List SetRef) (moves : Moves before after removed added) (seats : List Seat)
    (went : (i : ℕ) (ref : SetRef) → slice_get removed i ≡ Some ref → WentBy seats added ref)
    (came : (i : ℕ) (ref : SetRef) → slice_get added i ≡ Some ref → CameBy before after seats removed ref) where
  -- where a set or its group has a valve, a set with its key is in its slot
  stays_seated : (zone : ℕ) (p : Slotted) → IsHere (placed_in before zone) p
      → ((seat_of seats p.slot ≡ 0) × (group_seat seats p.slot ≡ 0) → ⊥)
      → HasIts (placed_in after zone) p
  stays_seated zone p here some = elim (moves.stays zone p here) [
    | inl told ↦ elim (went told.0 (ref_in zone p) told.1) [
      | inl none ↦ absurd (some none)
      | inr other ↦
          let c = came other.0 (ref_in zone p) other.1 in
          let q : Slotted = record { slot = p.slot; set = c.set } in
          (q, c.names, its_same q p (sym (moves.keys zone p q here c.names refl)) refl)
    ]
    | inr there ↦ (p, there, refl)
  ]

  valve_stays : (zone : ℕ) (p : Slotted) (valve : ℕ) → IsHere (placed_in before zone) p
      → seat_of seats p.slot ≡ suc valve → HasIts (placed_in after zone) p
  valve_stays zone p valve here seat =
      stays_seated zone p here (λ none. let no = none.0 in omega arith)

  member_stays : (zone : ℕ) (p : Slotted) (valve : ℕ) → IsHere (placed_in before zone) p
      → group_seat seats p.slot ≡ suc valve → HasIts (placed_in after zone) p
  member_stays zone p valve here seat =
      stays_seated zone p here (λ none. let no = none.1 in omega arith)

  module _ (zone : ℕ) (name : List (List ℕ)) (rtype : RType) (members : List Slotted) (valve : ℕ)
      (are : AreMembers before zone name rtype members) (tell : TellGroup seats members valve)
      (one : Slotted) (in_one : IsHere members one) where
    abbrev of_it : RecordSet → Bool
    of_it = is_of_group name rtype

    abbrev was : List Slotted
    was = placed_in before zone

    abbrev now : List Slotted
    now = placed_in after zone

    abbrev members_now : List Slotted
    members_now = grouped name rtype now

    its_name : (p : Slotted) → IsHere members p → (name ≡ p.set.name) × (rtype ≡ p.set.rtype)
    its_name p m = of_group (sets_of was) name rtype p.set
        (subst (λ (l : List RecordSet). IsAmong l p.set) are.sets (set_in members p m))

    -- a set with the key of one of the group is of the group
    by_key : (p q : Slotted) → (name ≡ p.set.name) × (rtype ≡ p.set.rtype) → its q ≡ its p
        → (name ≡ q.set.name) × (rtype ≡ q.set.rtype)
    by_key p q is same =
        let keys = ap (λ (k : SetKey × ℕ). k.0) (sym same) in
        (is.0 ∙ ap (λ (k : SetKey). k.name) keys, is.1 ∙ ap (λ (k : SetKey). k.rtype) keys)

    in_group : (placed : List Slotted) (p : Slotted) → IsHere placed p
        → (name ≡ p.set.name) × (rtype ≡ p.set.rtype) → IsHere (grouped name rtype placed) p
    in_group placed p here is =
        in_filter (λ (q : Slotted). of_it q.set) placed p here (passes_it name rtype p.set is.0 is.1)

    to : (p : Slotted) → IsHere members p → HasIts members_now p
    to p m =
        let q = member_stays zone p valve (are.here p m) (tell p m) in
        (q.0, in_group now q.0 q.1 (by_key p q.0 (its_name p m) q.2), q.2)

    -- a set of the group has one with its key in its slot before
    came_for : (q : Slotted) → IsHere now q → (name ≡ q.set.name) × (rtype ≡ q.set.rtype)
        → HasIts was q
    came_for q here is = elim (moves.only zone q here) [
      | inl old ↦ (q, old, refl)
      | inr new ↦
          let c = came new.0 (ref_in zone q) new.1 in
          elim c.place [
            | inl told ↦
                let p = moves.gone zone q told in
                (p.0, p.1, its_same p.0 q (moves.keys zone p.0 q p.1 here p.2) p.2)
            | inr alone ↦
                let none = alone.1 in
                let set_is = one_named after (ref_in zone q) c.set q.set are_after c.names here in
                let other = member_stays zone one valve (are.here one in_one) (tell one in_one) in
                let other_is = by_key one other.0 (its_name one in_one) other.2 in
                let bare = none other.0 other.1
                (ap (λ (s : RecordSet). s.name) set_is ∙ sym is.0 ∙ other_is.0)
                (ap (λ (s : RecordSet). s.rtype) set_is ∙ sym is.1 ∙ other_is.1) in
                let slots = ap (λ (k : SetKey × ℕ). group_seat seats k.1) other.2 in
                let told = tell one in_one in
                absurd (omega arith)
          ]
    ]

    from : (q : Slotted) → IsHere members_now q → HasIts members q
    from q m =
        let here = of_filter (λ (x : Slotted). of_it x.set) now q m in
        let is = of_group (sets_of now) name rtype q.set
        (subst (λ (l : List RecordSet). IsAmong l q.set) (grouped_sets name rtype now) (set_in members_now q m)) in
        let p = came_for q here is in
        let p_is = by_key q p.0 is p.2 in
        let among = in_filter of_it (sets_of was) p.0.set (set_in was p.0 p.1) (passes_it name rtype p.0.set p_is.0 p_is.1) in
        let x = placed_with members p.0.set (subst (λ (l : List RecordSet). IsAmong l p.0.set) (sym are.sets) among) in
        let one_is = one_of_key was (rising_in before are_before.each zone) x.0 p.0 (are.here x.0 x.1) p.1 (ap key_of x.2) in
        (x.0, x.1, ap its one_is ∙ p.2)

    rising : IsRising (sets_of members)
    rising = subst IsRising (sym are.sets)
        (rising_filtered of_it (sets_of was) (rising_in before are_before.each zone))

    rising_now : IsRising (sets_of members_now)
    rising_now = subst IsRising (sym (grouped_sets name rtype now))
        (rising_filtered of_it (sets_of now) (rising_in after are_after.each zone))

    same : keyed members ≡ keyed members_now
    same = keyed_same members members_now rising rising_now to from

    are_now : AreMembers after zone name rtype members_now
    are_now = record {
      sets = grouped_sets name rtype now;
      here = λ p m. of_filter (λ (x : Slotted). of_it x.set) now p m;
    }

    tell_now : TellGroup seats members_now valve
    tell_now q m =
        let p = from q m in
        ap (λ (k : SetKey × ℕ). group_seat seats k.1) (sym p.2) ∙ tell p.0 p.1

    valve_now : (net : Net) (own : ℕ → ℕ) → IsGroupValve seats net own members valve
        → IsGroupValve seats net own members_now valve
    valve_now net own w = record {
      seat = (w.seat.0, (first_by_slots members members_now w.seat.0 same w.seat.1.0, w.seat.1.1));
      each = tell_now;
      behind = w.behind;
      within = w.within;
      condition = w.condition
          ∙ ap (λ (l : List ℕ). record { need = 1; inverted = false; feeders = l }) (valves_by_slots seats members members_now same);
      its_own = w.its_own ∙ plain_by_slots seats members members_now same;
    }

  -- the seats that tell the valve of a group are those of its sets still, where an alias leads there
  pub groups_led : (slot valve : ℕ) → group_seat seats slot ≡ suc valve
      → (g : IsOfOneGroup before seats valve) → IsLedTo after g.zone g.name g.rtype
      → IsOfOneGroup after seats valve
  groups_led slot valve is g led =
      let f = g.only slot is in
      record {
        zone = g.zone;
        name = g.name;
        rtype = g.rtype;
        members = members_now g.zone g.name g.rtype g.members valve g.are g.each f.0 f.1;
        are = are_now g.zone g.name g.rtype g.members valve g.are g.each f.0 f.1;
        led = led;
        behind = g.behind;
        each = tell_now g.zone g.name g.rtype g.members valve g.are g.each f.0 f.1;
        only = λ other tells.
            let p = g.only other tells in
            let q = to g.zone g.name g.rtype g.members valve g.are g.each f.0 f.1 p.0 p.1 in
            (q.0, q.1, ap (λ (k : SetKey × ℕ). k.1) q.2 ∙ p.2);
      }

  -- an alias whose target's health counts has a seat that names no check
  abbrev HasAliasSeat : Slotted → Type 0
  HasAliasSeat p = (seat_of seats p.slot ≢ 0) × (check_seat seats p.slot ≡ 0)

  module _ (alias : (zone : ℕ) (p : Slotted) → IsHere (placed_in before zone) p
      → evaluates p.set.body ≡ true → HasAliasSeat p) where
    -- so none such goes, and it leads where it led
    led_now : (zone : ℕ) (name : List (List ℕ)) (rtype : RType) → IsLedTo before zone name rtype
        → IsLedTo after zone name rtype
    led_now zone name rtype (p, (here, is)) = elim (moves.stays zone p here) [
      | inl told ↦ elim (went told.0 (ref_in zone p) told.1) [
        | inl none ↦ absurd ((alias zone p here (ap evaluates is.0)).0 none.0)
        | inr other ↦
            let c = came other.0 (ref_in zone p) other.1 in
            let its_seat = alias zone p here (ap evaluates is.0) in
            elim c.as_own [
              | inl plain ↦ absurd (its_seat.0 plain)
              | inr (inl same) ↦ absurd (same.0 (sym same.1 ∙ its_seat.1))
              | inr (inr leads) ↦
                  let q : Slotted = record { slot = p.slot; set = c.set } in
                  let types = ap (λ (k : SetKey). k.rtype) (moves.keys zone p q here c.names refl) in
                  (q, (c.names, (sym (leads p here refl) ∙ is.0, sym types ∙ is.1)))
            ]
      ]
      | inr there ↦ (p, (there, is))
    ]

    -- the seats that tell the valve of a group are those of its sets still
    pub groups_now : (slot valve : ℕ) → group_seat seats slot ≡ suc valve
        → IsOfOneGroup before seats valve → IsOfOneGroup after seats valve
    groups_now slot valve is g = groups_led slot valve is g (led_now g.zone g.name g.rtype g.led)

    pub told_now : ((slot : ℕ) → set_seat seats slot ≢ 0 → HoldsSet after slot) → TellApart before seats
        → TellApart after seats
    told_now here told = record {
      sets = told.sets;
      kinds = told.kinds;
      groups = λ slot valve is. groups_now slot valve is (told.groups slot valve is);
      here = here;
    }

  -- each set with a valve of its own was listed, it or the one in whose place it came
  pub listed_all : (refs : List SetRef) → OwnListed before refs seats → OwnListed after refs seats
  listed_all refs listed zone valve q here seat = elim (moves.only zone q here) [
    | inl old ↦ listed zone valve q old seat
    | inr new ↦
        let c = came new.0 (ref_in zone q) new.1 in
        elim c.place [
          | inl told ↦
              let p = moves.gone zone q told in
              subst (λ (n : ℕ). IsListed refs (record { zone = zone; slot = n })) p.2
              (listed zone valve p.0 p.1 (ap (seat_of seats) p.2 ∙ seat))
          | inr alone ↦ (let none = alone.0 in absurd (omega arith))
        ]
  ]

  module _ (checks : List (ℕ × Check)) (numbers : List ℕ) (net : Net) (own : ℕ → ℕ) (ids : List ℕ) (valves : Valves) where
    -- a group with a valve has it still
    pub record HasStill (zone : ℕ) (name : List (List ℕ)) (rtype : RType) (valve : ℕ)
        : Type 0 where
      pub members : List Slotted
      pub are : AreMembers after zone name rtype members
      pub is : IsGroupValve seats net own members valve

    pub group_now : (zone : ℕ) (name : List (List ℕ)) (rtype : RType) (members : List Slotted)
        (valve : ℕ) → AreMembers before zone name rtype members
        → IsGroupValve seats net own members valve → HasStill zone name rtype valve
    group_now zone name rtype members valve are w =
        let f = first_here members w.seat.0 w.seat.1.0 in
        record {
          members = members_now zone name rtype members valve are w.each f.0 f.1;
          are = are_now zone name rtype members valve are w.each f.0 f.1;
          is = valve_now zone name rtype members valve are w.each f.0 f.1 net own w;
        }

    pub target_now : (zone : ℕ) (rtype : RType) (its_body : Body) (target : List ℕ)
        → IsTarget before seats net own zone rtype its_body target
        → IsTarget after seats net own zone rtype its_body target
    target_now zone rtype (body.Values ttl values) target is = is
    target_now zone rtype (body.Alias name evaluate) target (inl off) = inl off
    target_now zone rtype (body.Alias name evaluate) target (inr (on, (valve, is, (members, are, w)))) =
        let g = group_now zone name rtype members valve are w in
        inr (on, (valve, is, (g.members, g.are, g.is)))

    seated_now : (zone : ℕ) (p : Slotted) → IsSeated before (ids_of checks) numbers seats net own zone p
        → IsSeated after (ids_of checks) numbers seats net own zone p
    seated_now zone p s = record {
      plain = s.plain;
      told = s.told;
      valved = λ on. elim (s.valved on) [
        | inl alone ↦ inl alone
        | inr g ↦ inr (
          g.0,
          g.1,
          record {
            behind = g.2.behind;
            within = g.2.within;
            target = g.2.target;
            its_target = target_now zone p.set.rtype p.set.body g.2.target g.2.its_target;
            condition = g.2.condition;
            its_own = g.2.its_own;
          },
        )
      ];
    }

    -- a set that nothing decides, in a slot without a valve
    seated_plain : (zone : ℕ) (q : Slotted) → set_seat seats q.slot ≡ 0 → is_watched q.set ≡ false
        → IsSeated after (ids_of checks) numbers seats net own zone q
    seated_plain zone q none off = record {
      plain = λ e. none;
      told = λ on. absurd (false≢true (sym off ∙ on));
      valved = λ on. absurd (false≢true (sym off ∙ on));
    }

    -- a set in the place of another that the same check alone decides
    seated_alike : (zone : ℕ) (p q : Slotted) → p.slot ≡ q.slot
        → IsSeated before (ids_of checks) numbers seats net own zone p → set_seat seats q.slot ≢ 0
        → only_check q.set ≢ 0 → check_seat seats q.slot ≡ only_check q.set
        → IsSeated after (ids_of checks) numbers seats net own zone q
    seated_alike zone p q slots s some only told = by (is_watched p.set) refl
      where
        by : (b : Bool) → is_watched p.set ≡ b
            → IsSeated after (ids_of checks) numbers seats net own zone q
        by false off = absurd (some (ap (set_seat seats) (sym slots) ∙ s.plain off))
        by true on =
            let one = ap (check_seat seats) slots ∙ told in
            let alike = same_check p.set q.set (sym (s.told on) ∙ one) only in
            record {
              plain = λ off. absurd (false≢true (sym off ∙ alike.watched));
              told = λ e. told;
              valved = λ e. elim (s.valved on) [
                | inl alone ↦ inl (
                  alone.0,
                  (
                    (alike.off_too, sym alike.check ∙ alone.1.0.1),
                    ap (set_seat seats) (sym slots) ∙ alone.1.1,
                  ),
                )
                | inr g ↦
                    let target = no_target_of before seats net own zone p.set.rtype p.set.body g.2.target alike.off g.2.its_target in
                    inr (
                      g.0,
                      ap (seat_of seats) (sym slots) ∙ g.1,
                      record {
                        behind = g.2.behind;
                        within = g.2.within;
                        target = g.2.target;
                        its_target = to_no_target after seats net own zone q.set.rtype q.set.body g.2.target alike.off_too target;
                        condition = g.2.condition ∙ ap (λ (c : Option ℕ). set_condition (map (valve_with (ids_of checks) numbers) (option_to_list c) ++ g.2.target)) alike.check;
                        its_own = g.2.its_own;
                      },
                    )
              ];
            }

    -- an alias in the place of another that the same valves fed
    seated_fed : (zone : ℕ) (p q : Slotted) → p.slot ≡ q.slot
        → StaysFed before (ids_of checks) numbers seats net own zone p q
        → IsSeated after (ids_of checks) numbers seats net own zone q
    seated_fed zone p q slots s =
        let watched = or_on q.set.check s.on in
        record {
          plain = λ off. absurd (false≢true (sym off ∙ watched));
          told = λ on. ap (check_seat seats) (sym slots) ∙ s.names_none ∙ sym (alias_alone q.set s.on);
          valved = λ on. inr (
            s.valve,
            ap (seat_of seats) (sym slots) ∙ s.seat,
            record {
              behind = s.is.behind;
              within = s.is.within;
              target = s.is.target;
              its_target = subst (λ (t : RType). IsTarget after seats net own zone t q.set.body s.is.target) s.types
                  (subst (λ (b : Body). IsTarget after seats net own zone p.set.rtype b s.is.target) s.bodies
                  (target_now zone p.set.rtype p.set.body s.is.target s.is.its_target));
              condition = s.is.condition ∙ ap (λ (l : List ℕ). set_condition (l ++ s.is.target)) s.checks;
              its_own = s.is.its_own;
            },
          );
        }

    pub seated_all : AllCameKeepValves after ids numbers seats valves removed added
        → ((zone : ℕ) (p q : Slotted) → IsHere (placed_in before zone) p → IsHere (placed_in after zone) q
        → p.slot ≡ q.slot → IsAsFed after ids numbers seats valves zone q.slot q.set
        → StaysFed before (ids_of checks) numbers seats net own zone p q)
        → ((zone : ℕ) (p : Slotted) → IsHere (placed_in before zone) p
        → IsSeated before (ids_of checks) numbers seats net own zone p)
        → (zone : ℕ) (p : Slotted) → IsHere (placed_in after zone) p
        → IsSeated after (ids_of checks) numbers seats net own zone p
    seated_all keeps stays_fed seated zone q here = elim (moves.only zone q here) [
      | inl old ↦ seated_now zone q (seated zone q old)
      | inr new ↦
          let c = keeps new.0 (ref_in zone q) new.1 in
          let set_is = one_named after (ref_in zone q) c.set q.set are_after c.names here in
          elim c.as_seated [
            | inl (inl plain) ↦ seated_plain zone q plain.0 (sym (ap is_watched set_is) ∙ plain.1)
            | inl (inr same) ↦ elim c.place [
              | inl told ↦
                  let p = moves.gone zone q told in
                  seated_alike zone p.0 q p.2 (seated zone p.0 p.1) same.0
                  (λ e. same.1 (ap only_check set_is ∙ e)) (same.2 ∙ ap only_check set_is)
              | inr alone ↦ absurd (same.0 alone.0)
            ]
            | inr fed ↦ elim c.place [
              | inl told ↦
                  let p = moves.gone zone q told in
                  seated_fed zone p.0 q p.2 (stays_fed zone p.0 q p.1 here p.2
                  (subst (IsAsFed after ids numbers seats valves zone q.slot) set_is fed))
              | inr alone ↦ (let seat = fed.seat in let none = ap own_part alone.0 in absurd (omega (arith, seat, none)))
            ]
          ]
    ]

    pub node_now : (valve : ℕ) (node : Node) → IsValveFor before checks numbers seats net own valve node
        → (now : Node) × IsValveFor after checks numbers seats net own valve now
    node_now valve (CheckNode id) is = (CheckNode id, is)
    node_now valve (SetNode zone set) (slot, (here, seat)) =
        let q = valve_stays zone (record { slot = slot; set = set }) valve here seat in
        let slots = ap (λ (k : SetKey × ℕ). seat_of seats k.1) q.2 in
        (SetNode zone q.0.set, (q.0.slot, (q.1, slots ∙ seat)))
    node_now valve (GroupNode zone name rtype) (members, (are, w)) =
        let g = group_now zone name rtype members valve are w in
        (GroupNode zone name rtype, (g.members, (g.are, g.is)))

-- ---- commands

-- checks follow of themselves
follows_itself : (checks : Checks) → AreLater checks checks
follows_itself checks = record { next = omega arith; each = each }
  where
    each : (id : ℕ) (check : Check) → check_with checks.list id ≡ Some check
        → IsLaterAt checks id check
    each id (Endpoint threshold inverted disabled) at =
        inr (subst (λ o. HasThreshold o threshold) (sym at) refl)
    each id (Calculated threshold inverted disabled children) at = tt

pub leaves_follow : (before : List Zone) (old : Checks) (after : List Zone) (new : Checks)
    (delta : Delta) → AreLeft before old after new delta → AreLater old new
leaves_follow before old after new delta (inl (made, (allowed, edits, kept))) =
    subst (AreLater old) (sym kept) (follows_itself old)
leaves_follow before old after new delta (inr (stayed, follows, none)) = follows

-- the seat of an alias whose target's health counts tells a valve, and names no check
pub alias_seated : (zones : List Zone) (checks : Checks) (reports : List Report) (index : Index)
    → StandsFor zones checks reports index → (zone : ℕ) (p : Slotted)
    → IsHere (placed_in zones zone) p → evaluates p.set.body ≡ true
    → (seat_of index.seats p.slot ≢ 0) × (check_seat index.seats p.slot ≡ 0)
alias_seated zones checks reports index stands zone p here on =
    let w = stands.wired.its_sets zone p here in
    let decided : is_watched p.set ≡ true = or_on p.set.check on in (
      elim (w.valved decided) [
        | inl alone ↦ absurd (false≢true (sym alone.1.0.0 ∙ on))
        | inr g ↦ (λ none. let seat = g.1 in omega arith)
      ],
      w.told decided ∙ alias_alone p.set on,
    )

-- what keeps all valves keeps those of sets' own
went_by : (seats : List Seat) (added removed : List SetRef) → AllWentKeepValves seats added removed
    → (i : ℕ) (ref : SetRef) → slice_get removed i ≡ Some ref → WentBy seats added ref
went_by seats added removed went i ref at = elim (went i ref at) [
  | inl none ↦ inl (ap own_part none.0, none.1)
  | inr other ↦ inr other
]

came_by : (before zones : List Zone) (ids numbers : List ℕ) (seats : List Seat) (valves : Valves)
    (removed added : List SetRef) → AllCameKeepValves zones ids numbers seats valves removed added
    → ((zone : ℕ) (p q : Slotted) → IsHere (placed_in before zone) p → IsHere (placed_in zones zone) q
    → p.slot ≡ q.slot → IsAsFed zones ids numbers seats valves zone q.slot q.set → p.set.body ≡ q.set.body)
    → (i : ℕ) (ref : SetRef) → slice_get added i ≡ Some ref → CameBy before zones seats removed ref
came_by before zones ids numbers seats valves removed added came leads i ref at =
    let c = came i ref at in
    record {
      set = c.set;
      names = c.names;
      as_own = elim c.as_seated [
        | inl (inl plain) ↦ inl (ap own_part plain.0)
        | inl (inr same) ↦ inr (inl (same.1, same.2))
        | inr fed ↦ inr (inr (λ p was slots.
            leads ref.zone p (record { slot = ref.slot; set = c.set }) was c.names slots fed))
      ];
      place = elim c.place [
        | inl told ↦ inl told
        | inr alone ↦ inr (ap own_part alone.0, alone.1)
      ];
    }

-- a seat that tells something is that of a set still
taken_stays : (before after : List Zone) (removed added : List SetRef) (seats : List Seat)
    → Moves before after removed added → AllWentKeepValves seats added removed
    → ((i : ℕ) (ref : SetRef) → slice_get added i ≡ Some ref → CameBy before after seats removed ref)
    → (slot : ℕ) → set_seat seats slot ≢ 0 → HoldsSet before slot → HoldsSet after slot
taken_stays before after removed added seats moves went came slot some (ref, (named, (names, same))) =
    let p : Slotted = record { slot = ref.slot; set = named } in
    elim (moves.stays ref.zone p names) [
      | inl told ↦ elim (went told.0 (ref_in ref.zone p) told.1) [
        | inl none ↦ absurd (some (ap (set_seat seats) (sym same) ∙ none.0))
        | inr other ↦
            let c = came other.0 (ref_in ref.zone p) other.1 in
            (ref_in ref.zone p, (c.set, (c.names, same)))
      ]
      | inr there ↦ (ref, (named, (there, same)))
    ]

module _ (before after : List Zone) (reports : List Report) (index : Index) (delta : Delta)
    (are_after : AreZones after) (slots_after : HaveSlotsApart after)
    (valve_leaving : KeepsValves after index.ids index.numbers index.seats index.valves delta)
    (checks : Checks) (stands : StandsFor before checks reports index)
    (moves : Moves before after delta.removed delta.added) where
  stay_fed : (zone : ℕ) (p q : Slotted) → IsHere (placed_in before zone) p → IsHere (placed_in after zone) q
      → p.slot ≡ q.slot → IsAsFed after index.ids index.numbers index.seats index.valves zone q.slot q.set
      → StaysFed before (ids_of checks.list) index.numbers index.seats stands.net stands.own zone p q
  stay_fed = stays_fed before after checks reports index stands delta.removed delta.added moves

  by_went : (i : ℕ) (ref : SetRef) → slice_get delta.removed i ≡ Some ref → WentBy index.seats delta.added ref
  by_went = went_by index.seats delta.added delta.removed valve_leaving.went

  by_came : (i : ℕ) (ref : SetRef) → slice_get delta.added i ≡ Some ref
      → CameBy before after index.seats delta.removed ref
  by_came = came_by before after index.ids index.numbers index.seats index.valves delta.removed delta.added valve_leaving.came
      (λ zone p q was here slots fed. (stay_fed zone p q was here slots fed).bodies)

  pub edited : IsSound (watched_of after checks) → StandsFor after checks reports index
  edited sound = record {
    are_zones = are_after;
    slots = slots_after;
    are_checks = stands.are_checks;
    sound = sound;
    are_reports = stands.are_reports;
    ids = stands.ids;
    numbers = stands.numbers;
    seen = stands.seen;
    as_many = stands.as_many;
    kin = stands.kin;
    listed = listed_all before after stands.are_zones are_after delta.removed delta.added moves index.seats by_went by_came
        index.refs stands.listed;
    net = stands.net;
    own = stands.own;
    wired = record {
      its_checks = stands.wired.its_checks;
      its_sets = seated_all before after stands.are_zones are_after delta.removed delta.added moves index.seats by_went by_came checks.list index.numbers
          stands.net stands.own index.ids index.valves valve_leaving.came stay_fed stands.wired.its_sets;
      its_nodes = λ valve within.
          elim (stands.wired.its_nodes valve within) [
            | inl spare ↦ inl spare
            | inr (inl vacant) ↦ inr (inl vacant)
            | inr (inr n) ↦ inr (inr (node_now before after stands.are_zones are_after delta.removed delta.added moves index.seats by_went by_came checks.list index.numbers stands.net stands.own index.ids index.valves valve n.0 n.1))
          ];
      spares = stands.wired.spares;
      many = stands.wired.many;
      its_groups = stands.wired.its_groups;
      its_members = stands.wired.its_members;
    };
    told = told_now before after stands.are_zones are_after delta.removed delta.added moves index.seats by_went by_came
        (alias_seated before checks reports index stands)
        (λ slot some. taken_stays before after delta.removed delta.added index.seats moves valve_leaving.went by_came slot some (stands.told.here slot some)) stands.told;
    fits = stands.fits;
    ends = stands.ends;
    meet = stands.meet;
    idle = stands.idle;
  }

pub stands_with_valves : (before after : List Zone) (reports : List Report) (index : Index) (delta : Delta)
    → AreZones after → HaveSlotsApart after
    → KeepsValves after index.ids index.numbers index.seats index.valves delta
    → (old new : Checks) → IsSound (watched_of after new) → StandsFor before old reports index
    → AreLeft before old after new delta → StandsFor after new reports index
stands_with_valves before after reports index delta are_after slots_after leaving old new sound stands (inl (made, (allowed, edits, kept))) =
    subst (λ (c : Checks). StandsFor after c reports index) (sym kept)
    (edited before after reports index delta are_after slots_after leaving old stands
    (moved before after stands.are_zones are_after made delta allowed edits leaving.zone)
    (subst (λ (c : Checks). IsSound (watched_of after c)) kept sound))
stands_with_valves before after reports index delta are_after slots_after leaving old new sound stands (inr (stayed, follows, none)) =
    absurd (leaving.zone none)
