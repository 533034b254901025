-- Sets that went and came beside all valves of sets and groups: seats tell the same of these.
use Rattle.std.proofs.Common.{◌≡◌, ◌≢◌, ◌≤◌, ◌<◌, ◌⊎◌, ℕ, suc, false, List, [], ◌∷◌, arith, refl, ap, sym, ◌∙◌, inl, inr, Some}
use Rattle.std.specs.Prelude.{slice_get}
use mathlib.Core.Path.{subst}
use Rattle.check_model.specs.Checks.{Checks}
use Rattle.check_model.specs.declared.checks.Check.{Check}
use Rattle.health_standing.proofs.Alone.{early_in, of_own, of_told, own_or_told}
use Rattle.health_standing.proofs.Moving.{moved, of_parts, slot_or_not}
use Rattle.health_standing.proofs.Staying.{CameBy, WentBy, alias_seated, groups_now, listed_all, node_now, target_now}
use Rattle.health_standing.specs.Index.{Index, IsIntact, Space, StandsFor, TellApart}
use Rattle.health_standing.specs.Leaving.{AllCameBeside, AllWentBeside, AreLeft, Moves, SparesValves}
use Rattle.health_model.specs.Nodes.{CheckNode, GroupNode, Node, SetNode}
use Rattle.health_model.specs.Sound.{IsSound}
use Rattle.health_model.specs.Statuses.{Report}
use Rattle.health_planning.proofs.ListedOnce.{one_ref}
use Rattle.health_planning.proofs.Members.{one_named}
use Rattle.health_planning.proofs.Told.{own_early}
use Rattle.health_planning.specs.Building.{AreGiven, AreSeatedBeside, IsFree, HoldsSet, TellSlot, TellsCheck, TellsOn}
use Rattle.health_planning.specs.Changes.{ref_in}
use Rattle.health_planning.specs.DeltaRecord.{Delta}
use Rattle.health_planning.specs.SetRefRecord.{SetRef}
use Rattle.health_planning.specs.Tables.{HaveSlotsApart}
use Rattle.health_planning.specs.Telling.{evaluates}
use Rattle.health_planning.specs.Wired.{IsGroupValve, IsSeated, IsSetValve, IsTarget, IsValveFor, group_seat, ids_of, own_part, plain, plain_among, seat_of, set_seat, valve_with, valves_of, watched_of, with_valve}
use Rattle.health_planning.specs.Zones.{AreZones, Zone, placed_in}
use Rattle.health_planning.specs.declared.seats.Seat.{Seat}
use Rattle.health_valves.specs.Valves.{Net}
use Rattle.rdata_layout.specs.declared.types.RType.{RType}
use Rattle.record_set.specs.declared.sets.Body.{Body}
use Rattle.record_set.specs.declared.sets.Body.TheVariants as body
use Rattle.record_set.specs.declared.sets.RecordSet.{RecordSet}
use Rattle.zone_model.specs.Slotted.{IsHere, Slotted}

-- ---- seats that tell the same valves of sets' own and of groups

module _ (zones : List Zone) (seats now : List Seat)
    (own_same : (slot : ℕ) → seat_of now slot ≡ seat_of seats slot)
    (groups : (slot : ℕ) → group_seat now slot ≡ group_seat seats slot) where
  valves_same : (members : List Slotted) → valves_of now members ≡ valves_of seats members
  valves_same [] = refl
  valves_same (p ∷ members) =
      ap (λ (n : ℕ). with_valve n (valves_of now members)) (own_same p.slot)
      ∙ ap (with_valve (seat_of seats p.slot)) (valves_same members)

  plain_same : (members : List Slotted) → plain_among now members ≡ plain_among seats members
  plain_same [] = refl
  plain_same (p ∷ members) =
      let one = ap plain (own_same p.slot) in
      let rest = plain_same members in
      omega arith

  module _ (net : Net) (own : ℕ → ℕ) where
    group_same : (members : List Slotted) (valve : ℕ) → IsGroupValve seats net own members valve
        → IsGroupValve now net own members valve
    group_same members valve w = record {
      seat = (w.seat.0, (w.seat.1.0, groups w.seat.0 ∙ w.seat.1.1));
      each = λ p m. groups p.slot ∙ w.each p m;
      behind = w.behind;
      within = w.within;
      condition = w.condition
          ∙ ap (λ (l : List ℕ). record { need = 1; inverted = false; feeders = l }) (sym (valves_same members));
      its_own = w.its_own ∙ sym (plain_same members);
    }

    target_same : (zone : ℕ) (rtype : RType) (its : Body) (target : List ℕ)
        → IsTarget zones seats net own zone rtype its target
        → IsTarget zones now net own zone rtype its target
    target_same zone rtype (body.Values ttl values) target is = is
    target_same zone rtype (body.Alias name evaluate) target (inl off) = inl off
    target_same zone rtype (body.Alias name evaluate) target (inr (on, (valve, is, (members, are, w)))) =
        inr (on, (valve, is, (members, are, group_same members valve w)))

    pub set_same : (ids numbers : List ℕ) (zone : ℕ) (set : RecordSet) (valve : ℕ)
        → IsSetValve zones ids numbers seats net own zone set valve
        → IsSetValve zones ids numbers now net own zone set valve
    set_same ids numbers zone set valve w = record {
      behind = w.behind;
      within = w.within;
      target = w.target;
      its_target = target_same zone set.rtype set.body w.target w.its_target;
      condition = w.condition;
      its_own = w.its_own;
    }

    pub node_same : (checks : List (ℕ × Check)) (numbers : List ℕ) (valve : ℕ) (node : Node)
        → IsValveFor zones checks numbers seats net own valve node
        → IsValveFor zones checks numbers now net own valve node
    node_same checks numbers valve (CheckNode id) its = its
    node_same checks numbers valve (SetNode zone set) (slot, (here, seat)) =
        (slot, (here, own_same slot ∙ seat))
    node_same checks numbers valve (GroupNode zone name rtype) (members, (are, w)) =
        (members, (are, group_same members valve w))

-- ---- sets that went and came

module _ (zones : List Zone) (ids numbers : List ℕ) (removed added : List SetRef)
    (seats now : List Seat) (went : AllWentBeside seats removed) (came : AllCameBeside zones seats added)
    (beside : AreSeatedBeside zones ids numbers removed added seats now) where
  -- a slot that is told has no valve of its own, nor has its group
  told_free : (slot : ℕ) → TellSlot removed slot ⊎ TellSlot added slot → IsFree seats slot
  told_free slot (inl (k, (ref, (at, same)))) = subst (IsFree seats) same (went k ref at)
  told_free slot (inr (k, (ref, (at, same)))) =
      let c = came k ref at in
      subst (IsFree seats) same (c.own, c.none (record { slot = ref.slot; set = c.set }) c.names refl refl)

  pub beside_own : (slot : ℕ) → seat_of now slot ≡ seat_of seats slot
  beside_own slot = elim (beside.others slot) [
    | inl told ↦
        let none = (told_free slot told).0 in
        beside.free slot none ∙ sym none
    | inr on ↦ ap own_part on.0
  ]

  -- what is told where there is a valve of its own, or of the group
  pub beside_on : (slot : ℕ) → (IsFree seats slot → ⊥) → TellsOn seats now slot
  beside_on slot some = elim (beside.others slot) [
    | inl told ↦ absurd (some (told_free slot told))
    | inr on ↦ on
  ]

  -- no valve but one of a check comes by it
  pub beside_seated : (slot valve : ℕ) → set_seat now slot ≡ suc valve
      → (set_seat seats slot ≡ suc valve) ⊎ (set_seat now slot ≤ 200)
  beside_seated slot valve is = elim (beside.others slot) [
    | inl told ↦ inr (own_early (set_seat now slot) (beside.free slot (told_free slot told).0))
    | inr on ↦ inl (sym on.0 ∙ is)
  ]

  pub beside_given : (refs members : List SetRef) → AreGiven refs members seats → AreGiven refs members now
  beside_given refs members given = record {
    sets = λ slot some. given.sets slot (λ none. some (beside_own slot ∙ none));
    groups = λ slot some. given.groups slot (λ none. some (beside.groups slot ∙ none));
  }

-- what holds of every index still does
pub whole_beside : (index : Index) (w : IsIntact index) (zones : List Zone) (removed added : List SetRef)
    (now : List Seat) (space : Space) → AllWentBeside index.seats removed
    → AllCameBeside zones index.seats added → 200 ≤ w.net.size
    → AreSeatedBeside zones index.ids index.numbers removed added index.seats now
    → IsIntact (record index { seats = now; space = space })
whole_beside index w zones removed added now space went came many beside = record {
  net = w.net;
  own = w.own;
  fits = w.fits;
  idle = w.idle;
  as_many = w.as_many;
  apart = w.apart;
  numbers = w.numbers;
  within = w.within;
  seated = λ slot valve is.
      elim (beside_seated zones index.ids index.numbers removed added index.seats now went came beside slot valve is) [
        | inl same ↦ w.seated slot valve same
        | inr early ↦ omega arith
      ];
  given = beside_given zones index.ids index.numbers removed added index.seats now went came beside index.refs index.members w.given;
  alone = w.alone;
  spare = w.spare;
}

-- ---- an index that stood for something

module _ (before after : List Zone) (checks : Checks) (reports : List Report) (index : Index)
    (stands : StandsFor before checks reports index) (are_after : AreZones after)
    (slots_after : HaveSlotsApart after) (sound : IsSound (watched_of after checks))
    (removed added : List SetRef) (moves : Moves before after removed added) (now : List Seat)
    (space : Space) (went : AllWentBeside index.seats removed) (came : AllCameBeside after index.seats added)
    (beside : AreSeatedBeside after (ids_of checks.list) index.numbers removed added index.seats now) where
  abbrev its_ids : List ℕ
  its_ids = ids_of checks.list

  own_same : (slot : ℕ) → seat_of now slot ≡ seat_of index.seats slot
  own_same = beside_own after its_ids index.numbers removed added index.seats now went came beside

  by_went : (i : ℕ) (ref : SetRef) → slice_get removed i ≡ Some ref → WentBy index.seats added ref
  by_went i ref at = inl (went i ref at)

  by_came : (i : ℕ) (ref : SetRef) → slice_get added i ≡ Some ref → CameBy before after index.seats removed ref
  by_came i ref at =
      let c = came i ref at in
      record { set = c.set; names = c.names; as_own = inl c.own; place = inr (c.own, c.none) }

  early_was : (zone : ℕ) (p : Slotted) (id : ℕ) → IsHere (placed_in before zone) p → p.set.check ≡ Some id
      → valve_with its_ids index.numbers id < 200
  early_was = early_in before checks index.numbers stands.numbers stands.sound

  -- a set that was there, and whose seat told no valve of its own
  kept_told : (zone : ℕ) (p : Slotted) → IsHere (placed_in before zone) p → IsHere (placed_in after zone) p
      → TellsCheck its_ids index.numbers index.seats p → TellsCheck its_ids index.numbers now p
  kept_told zone p was here tells = elim (slot_or_not removed p.slot) [
    | inl told ↦
        let ref = told.1.0 in
        let q : Slotted = record { slot = ref.slot; set = p.set } in
        let x = moves.gone ref.zone q (told.0, told.1.1.0 ∙ ap Some (of_parts ref (ref_in ref.zone q) refl refl)) in
        let one = one_ref before (ref_in zone p) (ref_in ref.zone x.0) p.set x.0.set stands.slots was x.1 (sym told.1.1.1 ∙ sym x.2) in
        let zone_is : zone ≡ ref.zone = ap (λ (r : SetRef). r.zone) one in
        beside.told ref p (inl (told.0, told.1.1.0)) (subst (λ (z : ℕ). IsHere (placed_in after z) p) zone_is here) (sym told.1.1.1)
    | inr apart ↦ beside.stays zone p here apart tells
  ]

  seated_beside : (zone : ℕ) (p : Slotted) → IsHere (placed_in after zone) p
      → IsSeated after its_ids index.numbers now stands.net stands.own zone p
  seated_beside zone p here = elim (moves.only zone p here) [
    | inl was ↦ elim (own_or_told before its_ids index.numbers index.seats stands.net stands.own early_was zone p was (stands.wired.its_sets zone p was)) [
      | inl g ↦
          let on = beside_on after its_ids index.numbers removed added index.seats now went came beside p.slot
          (λ free. let none = free.0 in let seat = g.seat in omega arith) in
          of_own after its_ids index.numbers now stands.net stands.own zone p (record {
            valve = g.valve;
            seat = own_same p.slot ∙ g.seat;
            told = on.1 ∙ g.told;
            watched = g.watched;
            is = set_same after index.seats now own_same beside.groups stands.net stands.own its_ids index.numbers zone p.set g.valve (record {
              behind = g.is.behind;
              within = g.is.within;
              target = g.is.target;
              its_target = target_now before after stands.are_zones are_after removed added moves index.seats by_went by_came checks.list index.numbers
                  stands.net stands.own its_ids index.valves zone p.set.rtype p.set.body g.is.target g.is.its_target;
              condition = g.is.condition;
              its_own = g.is.its_own;
            });
          })
      | inr t ↦
          of_told after its_ids index.numbers now stands.net stands.own zone p t.off (kept_told zone p was here t.tells)
    ]
    | inr new ↦
        let c = came new.0 (ref_in zone p) new.1 in
        let set_is = one_named after (ref_in zone p) c.set p.set are_after c.names here in
        of_told after its_ids index.numbers now stands.net stands.own zone p
        (sym (ap (λ (x : RecordSet). evaluates x.body) set_is) ∙ c.off)
        (beside.told (ref_in zone p) p (inr new) here refl)
  ]

  taken_beside : (slot : ℕ) → set_seat now slot ≢ 0 → HoldsSet after slot
  taken_beside slot some = elim (beside.here slot some) [
    | inl there ↦ there
    | inr rest ↦
        let was = stands.told.here slot (λ none. some (rest.1.0 ∙ none)) in
        let ref = was.0 in
        let p : Slotted = record { slot = ref.slot; set = was.1.0 } in
        elim (moves.stays ref.zone p was.1.1.0) [
          | inl told ↦ absurd (rest.0 (told.0, (ref_in ref.zone p, (told.1, was.1.1.1))))
          | inr there ↦ (ref, (was.1.0, (there, was.1.1.1)))
        ]
  ]

  pub beside_stands : StandsFor after checks reports (record index { seats = now; space = space })
  beside_stands = record {
    are_zones = are_after;
    slots = slots_after;
    are_checks = stands.are_checks;
    sound = sound;
    are_reports = stands.are_reports;
    ids = stands.ids;
    numbers = stands.numbers;
    seen = stands.seen;
    as_many = stands.as_many;
    kin = stands.kin;
    listed = λ zone valve p here seat.
        listed_all before after stands.are_zones are_after removed added moves index.seats by_went by_came
        index.refs stands.listed zone valve p here (sym (own_same p.slot) ∙ seat);
    net = stands.net;
    own = stands.own;
    wired = record {
      its_checks = stands.wired.its_checks;
      its_sets = seated_beside;
      its_nodes = λ valve within. elim (stands.wired.its_nodes valve within) [
        | inl spare ↦ inl spare
        | inr (inl vacant) ↦ inr (inl vacant)
        | inr (inr n) ↦
            let m = node_now before after stands.are_zones are_after removed added moves index.seats by_went by_came checks.list index.numbers
            stands.net stands.own its_ids index.valves valve n.0 n.1 in
            inr (inr (m.0, node_same after index.seats now own_same beside.groups stands.net stands.own checks.list index.numbers valve m.0 m.1))
      ];
      spares = stands.wired.spares;
      many = stands.wired.many;
      its_groups = λ slot valve is. stands.wired.its_groups slot valve (sym (beside.groups slot) ∙ is);
      its_members = λ slot valve is.
          let was = sym (beside.groups slot) ∙ is in
          let on = beside_on after its_ids index.numbers removed added index.seats now went came beside slot
          (λ free. let none = free.1 in omega arith) in
          on.0 ∙ stands.wired.its_members slot valve was ∙ sym (own_same slot);
    };
    told = told_apart;
    fits = stands.fits;
    ends = stands.ends;
    meet = stands.meet;
    idle = stands.idle;
  }
    where
      told_apart : TellApart after now
      told_apart = record {
        sets = λ slot other valve is is_too.
            stands.told.sets slot other valve (sym (own_same slot) ∙ is) (sym (own_same other) ∙ is_too);
        kinds = λ slot other valve is is_too.
            stands.told.kinds slot other valve (sym (own_same slot) ∙ is) (sym (beside.groups other) ∙ is_too);
        groups = λ slot valve is.
            let g = groups_now before after stands.are_zones are_after removed added moves index.seats by_went by_came
            (alias_seated before checks reports index stands) slot valve (sym (beside.groups slot) ∙ is)
            (stands.told.groups slot valve (sym (beside.groups slot) ∙ is)) in
            record {
              zone = g.zone;
              name = g.name;
              rtype = g.rtype;
              members = g.members;
              are = g.are;
              led = g.led;
              behind = g.behind;
              each = λ p m. beside.groups p.slot ∙ g.each p m;
              only = λ other tells. g.only other (sym (beside.groups other) ∙ tells);
            };
        here = taken_beside;
      }

-- a command that leaves the checks as they are
pub beside_left : (before after : List Zone) (old new : Checks) (reports : List Report) (index : Index)
    (delta : Delta) → StandsFor before old reports index → AreZones after → HaveSlotsApart after
    → IsSound (watched_of after new) → AreLeft before old after new delta
    → (now : List Seat) (space : Space) → SparesValves after index.seats delta
    → AreSeatedBeside after index.ids index.numbers delta.removed delta.added index.seats now
    → StandsFor after new reports (record index { seats = now; space = space })
beside_left before after old new reports index delta stands are_after slots_after sound (inl (made, (allowed, edits, kept))) now space spares beside =
    subst (λ (c : Checks). StandsFor after c reports (record index { seats = now; space = space })) (sym kept)
    (beside_stands before after old reports index stands are_after slots_after (subst (λ (c : Checks). IsSound (watched_of after c)) kept sound)
    delta.removed delta.added (moved before after stands.are_zones are_after made delta allowed edits spares.zone) now space spares.went spares.came
    (subst (λ (l : List ℕ). AreSeatedBeside after l index.numbers delta.removed delta.added index.seats now) stands.ids beside))
beside_left before after old new reports index delta stands are_after slots_after sound (inr (stayed, follows, none)) now space spares beside =
    absurd (spares.zone none)
