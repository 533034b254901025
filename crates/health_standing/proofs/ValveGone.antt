-- A set with a valve of its own went, from a group without one: nothing feeds that valve any more, nor perhaps that of
-- a group which fed it alone.
use Rattle.std.proofs.Common.{◌≡◌, ◌≢◌, ◌≤◌, ◌<◌, ℕ, suc, false, List, [], ◌∷◌, arith, refl, ap, sym, ◌∙◌, inl, inr, Some}
use Rattle.std.specs.List.{Contains}
use Rattle.std.specs.Prelude.{◌⊎◌, slice_get}
use Rattle.std.proofs.lemmas.Bool.{cases_eq, cases_lt, le-leb}
use Rattle.std.proofs.lemmas.List.Elements.{Contains-append_right}
use mathlib.Core.Path.{subst}
use Rattle.check_model.specs.Checks.{Checks}
use Rattle.health_standing.proofs.GroupLeft.{is_none, is_one}
use Rattle.health_standing.proofs.Moving.{of_parts}
use Rattle.health_standing.proofs.Staying.{CameBy, WentBy, groups_led, node_now, target_now}
use Rattle.health_standing.specs.Index.{Index, IsOfOneGroup, Space, StandsFor, TellApart}
use Rattle.health_standing.specs.Leaving.{Moves}
use Rattle.health_standing.specs.Unfounding.{AreSeatedWithout}
use Rattle.health_model.specs.Nodes.{CheckNode, GroupNode, Node, SetNode}
use Rattle.health_model.specs.Sound.{IsSound}
use Rattle.health_model.specs.Statuses.{Report}
use Rattle.health_planning.proofs.ListedOnce.{one_ref, own_is}
use Rattle.health_planning.specs.Building.{TellsOn}
use Rattle.health_planning.specs.Changes.{ref_in}
use Rattle.health_planning.specs.Looking.{RefersTo}
use Rattle.health_planning.specs.SetRefRecord.{SetRef}
use Rattle.health_planning.specs.Tables.{HaveSlotsApart}
use Rattle.health_planning.specs.Wired.{IsGroupValve, IsLedTo, IsSeated, IsSpare, IsTarget, IsVacant, IsValveFor, group_seat, ids_of, own_part, plain, plain_among, seat_of, set_seat, valves_of, watched_of, with_valve}
use Rattle.health_planning.specs.Zones.{AreZones, Zone, placed_in}
use Rattle.health_planning.specs.declared.seats.Seat.{Seat}
use Rattle.health_valves.proofs.Members.{in_head}
use Rattle.health_valves.specs.Pass.{IsIdle, MeetAll}
use Rattle.health_valves.specs.Valves.{Condition, Feeds, HasEnds, Net, ValvesStandFor, unfed_condition}
use Rattle.health_valves.specs.declared.valves.Valves.{Valves}
use Rattle.rdata_layout.specs.declared.types.RType.{RType}
use Rattle.record_set.specs.declared.sets.Body.{Body}
use Rattle.record_set.specs.declared.sets.Body.TheVariants as body
use Rattle.record_set.specs.declared.sets.RecordSet.{RecordSet}
use Rattle.zone_model.specs.Slotted.{IsHere, Slotted}

own_past : (seat v : ℕ) → own_part seat ≡ suc v → 200 ≤ v
own_past seat v is = elim (cases_lt 200 seat) [
  | inl late ↦ (let same = own_is seat late in omega (arith, late, same, is))
  | inr early ↦ (let none : own_part seat ≡ 0 = rw (le-leb seat 200 early) refl in absurd (omega (arith, none, is)))
]

-- sets whose seats tell what they told of them are of one group with the same valves
module _ (seats now : List Seat) (slot : ℕ)
    (others : (s : ℕ) → s ≢ slot → TellsOn seats now s) where
  pub own_kept : (s : ℕ) → s ≢ slot → seat_of now s ≡ seat_of seats s
  own_kept s apart = ap own_part (others s apart).0

  pub valves_kept : (members : List Slotted) → ((p : Slotted) → IsHere members p → p.slot ≢ slot)
      → valves_of now members ≡ valves_of seats members
  valves_kept [] apart = refl
  valves_kept (p ∷ members) apart =
      ap (λ (n : ℕ). with_valve n (valves_of now members)) (own_kept p.slot (apart p (inl refl)))
      ∙ ap (with_valve (seat_of seats p.slot)) (valves_kept members (λ q m. apart q (inr m)))

  pub plain_kept : (members : List Slotted) → ((p : Slotted) → IsHere members p → p.slot ≢ slot)
      → plain_among now members ≡ plain_among seats members
  plain_kept [] apart = refl
  plain_kept (p ∷ members) apart =
      let one = ap plain (own_kept p.slot (apart p (inl refl))) in
      let rest = plain_kept members (λ q m. apart q (inr m)) in
      omega (arith, one, rest)

module _ (before after : List Zone) (checks : Checks) (reports : List Report) (index : Index)
    (stands : StandsFor before checks reports index) (removed added : List SetRef)
    (moves : Moves before after removed added) (ref : SetRef)
    (is_removed : removed ≡ ref ∷ []) (is_added : added ≡ [])
    (v : ℕ) (gone : (named : RecordSet) → RefersTo after ref named → ⊥)
    (seat_is : seat_of index.seats ref.slot ≡ suc v) (none_is : group_seat index.seats ref.slot ≡ 0) where
  abbrev seats : List Seat
  seats = index.seats

  abbrev net : Net
  net = stands.net

  late : 200 ≤ v
  late = own_past (set_seat seats ref.slot) v seat_is

  pub stays : (zone : ℕ) (p : Slotted) → IsHere (placed_in before zone) p → p.slot ≢ ref.slot
      → IsHere (placed_in after zone) p
  stays zone p here_was apart = elim (moves.stays zone p here_was) [
    | inl told ↦ absurd (apart (ap (λ (r : SetRef). r.slot) (is_one removed ref (ref_in zone p) is_removed told)))
    | inr still ↦ still
  ]

  was_here : (zone : ℕ) (p : Slotted) → IsHere (placed_in after zone) p → IsHere (placed_in before zone) p
  was_here zone p here_now = elim (moves.only zone p here_now) [
    | inl was ↦ was
    | inr new ↦ absurd (is_none added (ref_in zone p) is_added new)
  ]

  -- the set that went was there
  pub went : (p : Slotted) × IsHere (placed_in before ref.zone) p × (p.slot ≡ ref.slot)
  went =
      let some = seat_is in
      let h = stands.told.here ref.slot (λ none. let bare = ap own_part none in omega (arith, some, bare)) in
      let q : Slotted = record { slot = ref.slot; set = h.1.0 } in
      moves.gone ref.zone q (0, ap (λ (l : List SetRef). slice_get l 0) is_removed ∙ ap Some (of_parts ref (ref_in ref.zone q) refl refl))

  none_after : (zone : ℕ) (q : Slotted) → IsHere (placed_in after zone) q → q.slot ≢ ref.slot
  none_after zone q here_now e =
      let one = one_ref before (ref_in zone q) (ref_in ref.zone went.0) q.set went.0.set stands.slots
      (was_here zone q here_now) went.1 (e ∙ sym went.2) in
      let z : zone ≡ ref.zone = ap (λ (r : SetRef). r.zone) one in
      gone q.set
      (subst (λ (n : ℕ). IsHere (placed_in after ref.zone) (record { slot = n; set = q.set })) e
      (subst (λ (n : ℕ). IsHere (placed_in after n) q) z here_now))

  -- ---- no other valve of a set or a group is the one that it had

  group_other : (s h : ℕ) → group_seat seats s ≡ suc h → h ≢ v
  group_other s h is e = stands.told.kinds ref.slot s v seat_is (is ∙ ap suc e)

  set_other : (s w : ℕ) → s ≢ ref.slot → seat_of seats s ≡ suc w → w ≢ v
  set_other s w apart is e = apart (stands.told.sets s ref.slot v (is ∙ ap suc e) seat_is)

  member_apart : (members : List Slotted) (h : ℕ)
      → ((p : Slotted) → IsHere members p → group_seat seats p.slot ≡ suc h)
      → (p : Slotted) → IsHere members p → p.slot ≢ ref.slot
  member_apart members h tell p m e =
      let some = tell p m in
      let none = ap (group_seat seats) e ∙ none_is in
      omega (arith, some, none)

  -- Nothing feeds that valve, nor the one that seats tell no more, if there is one: it fed no other valve.
  module _ (are_after : AreZones after) (slots_after : HaveSlotsApart after) (sound : IsSound (watched_of after checks))
      (now : List Seat) (told : ℕ) (moved : AreSeatedWithout ref.slot told seats now)
      (condition : ℕ → Condition) (own_now : ℕ → ℕ)
      (there : (n : ℕ) → n ≢ v → suc n ≢ told → condition n ≡ stands.net.condition n)
      (own_there : (n : ℕ) → n ≢ v → suc n ≢ told → own_now n ≡ stands.own n)
      (here : condition v ≡ unfed_condition)
      (group_here : (n : ℕ) → suc n ≡ told → (200 ≤ n) × (condition n ≡ unfed_condition))
      (told_in : (n : ℕ) → suc n ≡ told → (s : ℕ) × (group_seat seats s ≡ suc n))
      (alone : (n y : ℕ) → suc n ≡ told → y < stands.net.size → Feeds stands.net n y → y ≡ v)
      (led_still : (valve : ℕ) → suc valve ≢ told → (x : IsOfOneGroup before seats valve)
      → IsLedTo after x.zone x.name x.rtype) where
    abbrev net_now : Net
    net_now = record { size = stands.net.size; condition = condition }

    none_own : seat_of now ref.slot ≡ 0
    none_own = ap own_part moved.set

    -- seats by which Staying's lemmas ask: what went had no valve, as it is seated then
    by_went : (i : ℕ) (r : SetRef) → slice_get removed i ≡ Some r → WentBy now added r
    by_went i r at =
        let same = ap (λ (x : SetRef). x.slot) (is_one removed ref r is_removed (i, at)) in
        inl (ap (seat_of now) same ∙ none_own, ap (group_seat now) same ∙ moved.none)

    by_came : (i : ℕ) (r : SetRef) → slice_get added i ≡ Some r → CameBy before after now removed r
    by_came i r at = absurd (is_none added r is_added (i, at))

    -- ---- valves of sets and of groups

    own_same : (s : ℕ) → s ≢ ref.slot → seat_of now s ≡ seat_of seats s
    own_same = own_kept seats now ref.slot moved.others

    set_told : (s w : ℕ) → seat_of seats s ≡ suc w → suc w ≢ told
    set_told s w is e = let t = told_in w e in stands.told.kinds s t.0 w is t.1

    group_kept : (members : List Slotted) (h : ℕ) → suc h ≢ told → IsGroupValve seats net stands.own members h
        → IsGroupValve now net_now own_now members h
    group_kept members h stay w =
        let apart = member_apart members h w.each in
        let other = group_other w.seat.0 h w.seat.1.1 in
        let first : w.seat.0 ≢ ref.slot = λ e.
        (let some = w.seat.1.1 in let none = ap (group_seat seats) e ∙ none_is in omega (arith, some, none)) in
        record {
          seat = (w.seat.0, (w.seat.1.0, moved.groups w.seat.0 first (λ e. stay (sym w.seat.1.1 ∙ e)) ∙ w.seat.1.1));
          each = λ p m. moved.groups p.slot (apart p m) (λ e. stay (sym (w.each p m) ∙ e)) ∙ w.each p m;
          behind = w.behind;
          within = w.within;
          condition = there h other stay ∙ w.condition
              ∙ ap (λ (l : List ℕ). record { need = 1; inverted = false; feeders = l }) (sym (valves_kept seats now ref.slot moved.others members apart));
          its_own = own_there h other stay ∙ w.its_own ∙ sym (plain_kept seats now ref.slot moved.others members apart);
        }

    target_kept : (zone : ℕ) (rtype : RType) (its : Body) (target : List ℕ)
        → ((h : ℕ) → Contains target h → suc h ≢ told)
        → IsTarget before seats net stands.own zone rtype its target
        → IsTarget before now net_now own_now zone rtype its target
    target_kept zone rtype (body.Values ttl values) target stay is = is
    target_kept zone rtype (body.Alias name evaluate) target stay (inl off) = inl off
    target_kept zone rtype (body.Alias name evaluate) target stay (inr (on, (valve, is, (members, are, w)))) =
        inr (
          on,
          (
            valve,
            is,
            (
              members,
              are,
              group_kept members valve (stay valve (subst (λ (l : List ℕ). Contains l valve) (sym is) (in_head valve []))) w,
            ),
          ),
        )

    seated_now : (zone : ℕ) (p : Slotted) → IsHere (placed_in after zone) p
        → IsSeated after (ids_of checks.list) index.numbers now net_now own_now zone p
    seated_now zone p here_now =
        let apart = none_after zone p here_now in
        let s = stands.wired.its_sets zone p (was_here zone p here_now) in
        record {
          plain = λ is. (moved.others p.slot apart).0 ∙ s.plain is;
          told = λ on. (moved.others p.slot apart).1 ∙ s.told on;
          valved = λ on. elim (s.valved on) [
            | inl alone ↦ inl (alone.0, (alone.1.0, (moved.others p.slot apart).0 ∙ alone.1.1))
            | inr g ↦ (
                let other = set_other p.slot g.0 apart g.1 in
                let stay = set_told p.slot g.0 g.1 in
                inr (
                  g.0,
                  own_same p.slot apart ∙ g.1,
                  record {
                    behind = g.2.behind;
                    within = g.2.within;
                    target = g.2.target;
                    its_target = target_now before after stands.are_zones are_after removed added moves now by_went by_came checks.list index.numbers
                        net_now own_now (ids_of checks.list) index.valves zone p.set.rtype p.set.body g.2.target
                        (target_kept zone p.set.rtype p.set.body g.2.target
                        (λ h m e. other (alone h g.0 e g.2.within
                        (subst (λ (l : List ℕ). Contains l h) (sym (ap (λ (c : Condition). c.feeders) g.2.condition)) (Contains-append_right _ g.2.target h m))))
                        g.2.its_target);
                    condition = there g.0 other stay ∙ g.2.condition;
                    its_own = own_there g.0 other stay ∙ g.2.its_own;
                  },
                )
                )
          ];
        }

    node_kept : (valve : ℕ) (node : Node) → valve ≢ v → suc valve ≢ told
        → IsValveFor before checks.list index.numbers seats net stands.own valve node
        → IsValveFor before checks.list index.numbers now net_now own_now valve node
    node_kept valve (CheckNode id) other stay is = is
    node_kept valve (SetNode zone set) other stay (s, (here_was, seat)) =
        let apart = λ (e : s ≡ ref.slot).
        let mine = seat_is in let its = ap (seat_of seats) (sym e) ∙ seat in other (omega (arith, mine, its)) in
        (s, (here_was, own_same s apart ∙ seat))
    node_kept valve (GroupNode zone name rtype) other stay (members, (are, w)) =
        (members, (are, group_kept members valve stay w))

    -- ---- seats that tell a valve still

    slot_apart : (s : ℕ) → set_seat now s ≢ 0 → s ≢ ref.slot
    slot_apart s some e = some (ap (set_seat now) e ∙ moved.set)

    own_apart : (s valve : ℕ) → seat_of now s ≡ suc valve → s ≢ ref.slot
    own_apart s valve is e = let none = ap (seat_of now) e ∙ none_own in omega (arith, is, none)

    group_apart : (s valve : ℕ) → group_seat now s ≡ suc valve → s ≢ ref.slot
    group_apart s valve is e = let none = ap (group_seat now) e ∙ moved.none in omega (arith, is, none)

    own_was : (s valve : ℕ) → seat_of now s ≡ suc valve → seat_of seats s ≡ suc valve
    own_was s valve is = sym (own_same s (own_apart s valve is)) ∙ is

    not_told : (s valve : ℕ) → group_seat now s ≡ suc valve → group_seat seats s ≢ told
    not_told s valve is e = let none = moved.gone s (group_apart s valve is) e in omega (arith, is, none)

    group_was : (s valve : ℕ) → group_seat now s ≡ suc valve → group_seat seats s ≡ suc valve
    group_was s valve is = sym (moved.groups s (group_apart s valve is) (not_told s valve is)) ∙ is

    group_stays : (s valve : ℕ) → group_seat now s ≡ suc valve → suc valve ≢ told
    group_stays s valve is e = not_told s valve is (group_was s valve is ∙ e)

    abbrev one_group_now : (valve : ℕ) → suc valve ≢ told → IsOfOneGroup before seats valve
        → IsOfOneGroup before now valve
    one_group_now valve stay x = record {
      zone = x.zone;
      name = x.name;
      rtype = x.rtype;
      members = x.members;
      are = x.are;
      led = x.led;
      behind = x.behind;
      each = λ p m. moved.groups p.slot (member_apart x.members valve x.each p m) (λ e. stay (sym (x.each p m) ∙ e)) ∙ x.each p m;
      only = λ other tells. x.only other (group_was other valve tells);
    }

    told_now : TellApart after now
    told_now = record {
      sets = λ s other valve is its. stands.told.sets s other valve (own_was s valve is) (own_was other valve its);
      kinds = λ s other valve is its. stands.told.kinds s other valve (own_was s valve is) (group_was other valve its);
      groups = λ s valve is.
          let x = stands.told.groups s valve (group_was s valve is) in
          let stay = group_stays s valve is in
          groups_led before after stands.are_zones are_after removed added moves now by_went by_came s valve is
          (one_group_now valve stay x) (led_still valve stay x);
      here = λ s some.
          let apart = slot_apart s some in
          let h = stands.told.here s (λ none. some ((moved.others s apart).0 ∙ none)) in
          let p : Slotted = record { slot = h.0.slot; set = h.1.0 } in
          (h.0, (h.1.0, (stays h.0.zone p h.1.1.0 (λ e. apart (sym h.1.1.1 ∙ e)), h.1.1.1)));
    }

    -- ---- all valves

    nodes_now : (valve : ℕ) → valve < net.size → IsSpare index.numbers valve ⊎ (IsVacant net_now valve
        ⊎ ((node : Node) × IsValveFor after checks.list index.numbers now net_now own_now valve node))
    nodes_now valve within = elim (cases_eq valve v) [
      | inl e ↦ inr (inl (rw e late, ap condition e ∙ here))
      | inr apart ↦ elim (cases_eq (suc valve) told) [
        | inl its ↦ inr (inl (group_here valve its))
        | inr stay ↦ elim (stands.wired.its_nodes valve within) [
          | inl spare ↦ inl spare
          | inr (inl vacant) ↦ inr (inl (vacant.0, there valve apart stay ∙ vacant.1))
          | inr (inr n) ↦ inr (inr (node_now before after stands.are_zones are_after removed added moves now by_went by_came checks.list
              index.numbers net_now own_now (ids_of checks.list) index.valves valve n.0 (node_kept valve n.0 apart stay n.1)))
        ]
      ]
    ]

    early_apart : (valve : ℕ) → valve < 200 → valve ≢ v
    early_apart valve low e = let behind = late in omega (arith, low, behind, e)

    early_stays : (valve : ℕ) → valve < 200 → suc valve ≢ told
    early_stays valve low e = let behind = (group_here valve e).0 in omega (arith, low, behind)

    pub valves_gone : (valves : Valves) (space : Space) → ValvesStandFor net_now own_now valves
        → HasEnds net_now → MeetAll net_now own_now valves → IsIdle valves
        → StandsFor after checks reports (record index { seats = now; members = index.members; valves = valves; space = space })
    valves_gone valves space fits ends meet idle = record {
      are_zones = are_after;
      slots = slots_after;
      are_checks = stands.are_checks;
      sound = sound;
      are_reports = stands.are_reports;
      ids = stands.ids;
      numbers = stands.numbers;
      seen = stands.seen;
      as_many = stands.as_many;
      kin = stands.kin;
      listed = λ zone valve p here_now is.
          stands.listed zone valve p (was_here zone p here_now) (own_was p.slot valve is);
      net = net_now;
      own = own_now;
      wired = record {
        its_checks = λ place valve id check at numbered.
            let c = stands.wired.its_checks place valve id check at numbered in
            let low = stands.numbers.early place valve numbered in
            record {
              within = c.within;
              condition = there valve (early_apart valve low) (early_stays valve low) ∙ c.condition;
              its_own = own_there valve (early_apart valve low) (early_stays valve low) ∙ c.its_own;
            };
        its_sets = seated_now;
        its_nodes = nodes_now;
        spares = λ valve spare. there valve (early_apart valve spare.0) (early_stays valve spare.0) ∙ stands.wired.spares valve spare;
        many = stands.wired.many;
        its_groups = λ s valve is. stands.wired.its_groups s valve (group_was s valve is);
        its_members = λ s valve is.
            let apart = group_apart s valve is in
            (moved.others s apart).0 ∙ stands.wired.its_members s valve (group_was s valve is)
            ∙ sym (own_same s apart);
      };
      told = told_now;
      fits = fits;
      ends = ends;
      meet = meet;
      idle = idle;
    }
