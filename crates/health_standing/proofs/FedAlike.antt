-- Aliases whose target's health counts, in the place of others: where the valve that is there is fed by those of the
-- check and of the target group that are wanted, the other one named the same check and led to the same group.
use Rattle.std.proofs.Common.{◌≡◌, ◌<◌, ◌+◌, ◌++◌, ℕ, suc, true, false, List, [], ◌∷◌, map, length, length-append, arith, refl, ap, sym, ◌∙◌, inl, inr, Option, None, Some}
use mathlib.Core.Path.{subst}
use Rattle.std.specs.List.{Contains}
use Rattle.std.specs.Option.{option_to_list}
use Rattle.std.specs.Prelude.{slice_get}
use Rattle.std.proofs.lemmas.Bool.{false≢true}
use Rattle.std.proofs.lemmas.List.{length-map}
use Rattle.std.proofs.lemmas.List.Elements.{Contains-append_cases}
use Rattle.check_model.specs.Checks.{Checks}
use Rattle.health_standing.proofs.Alone.{HasOwn, early_in, own_or_told}
use Rattle.health_standing.specs.Index.{Index, IsOfOneGroup, StandsFor}
use Rattle.health_standing.specs.Leaving.{IsAsFed, IsFedByCheck, IsFedByTarget, Moves}
use Rattle.health_model.specs.Statuses.{Report}
use Rattle.health_planning.proofs.Groups.{alias_alone}
use Rattle.health_planning.proofs.MembersOfZoneList.{set_in}
use Rattle.health_planning.proofs.Numbers.{ids_valves, valve_early}
use Rattle.health_planning.proofs.Wiring.{first_here, of_group, same_names}
use Rattle.health_planning.specs.SetRefRecord.{SetRef}
use Rattle.health_planning.specs.Telling.{evaluates, target_in}
use Rattle.health_planning.specs.Wired.{AreMembers, HasSlot, IsGroupValve, IsSetValve, IsTarget, check_seat, ids_of, seat_of, valve_with}
use Rattle.health_planning.specs.Zones.{Zone, placed_in}
use Rattle.health_planning.specs.declared.seats.Seat.{Seat}
use Rattle.health_valves.specs.Valves.{Net}
use Rattle.health_valves.proofs.Members.{in_cases, in_none}
use Rattle.rdata_layout.specs.declared.types.RType.{RType}
use Rattle.record_set.specs.declared.sets.Body.{Body}
use Rattle.record_set.specs.declared.sets.Body.TheVariants as body
use Rattle.record_set.specs.declared.sets.RecordSet.{RecordSet}
use Rattle.record_set.specs.declared.sets.SetKey.{SetKey}
use Rattle.zone_model.specs.Slotted.{IsHere, Slotted, sets_of}
use Rattle.zone_model.specs.Zones.{IsAmong}

some_same : {X : Type 0} {x y : X} → Some x ≡ Some y → x ≡ y
some_same e = cc

-- the body of an alias whose target's health counts, by its target
pub on_body : (rtype : RType) (its : Body) (name : List (List ℕ)) (its_type : RType) → evaluates its ≡ true
    → target_in rtype its ≡ Some (name, its_type) → (its ≡ body.Alias name true) × (rtype ≡ its_type)
on_body rtype (body.Values ttl values) name its_type on is = absurd (false≢true on)
on_body rtype (body.Alias target true) name its_type on is =
    let same : ◌≡◌ {A = List (List ℕ) × RType} (target, rtype) (name, its_type) = some_same is in (
      ap (λ (t : List (List ℕ) × RType). body.Alias t.0 true) same,
      ap (λ (t : List (List ℕ) × RType). t.1) same,
    )
on_body rtype (body.Alias target false) name its_type on is = absurd (false≢true on)

-- the valve that feeds one beside those of checks is that of the target group
pub record IsLed (zones : List Zone) (seats : List Seat) (net : Net) (own : ℕ → ℕ) (zone : ℕ) (rtype : RType)
    (its : Body) (target : List ℕ) (valve : ℕ) : Type 0 where
  pub name : List (List ℕ)
  pub alias : its ≡ body.Alias name true
  pub one : target ≡ valve ∷ []
  pub members : List Slotted
  pub are : AreMembers zones zone name rtype members
  pub is : IsGroupValve seats net own members valve

pub led_of : (zones : List Zone) (seats : List Seat) (net : Net) (own : ℕ → ℕ) (zone : ℕ) (rtype : RType)
    (its : Body) (target : List ℕ) (valve : ℕ) → IsTarget zones seats net own zone rtype its target
    → Contains target valve → IsLed zones seats net own zone rtype its target valve
led_of zones seats net own zone rtype (body.Values ttl values) target valve is among =
    absurd (in_none valve (subst (λ l. Contains l valve) is among))
led_of zones seats net own zone rtype (body.Alias name evaluate) target valve (inl off) among =
    absurd (in_none valve (subst (λ l. Contains l valve) off.1 among))
led_of zones seats net own zone rtype (body.Alias name evaluate) target valve (inr (on, (its, is, (members, are, w)))) among =
    let same : its ≡ valve = one_in its valve (subst (λ l. Contains l valve) is among) in
    record {
      name = name;
      alias = ap (body.Alias name) on;
      one = is ∙ ap (λ n. n ∷ []) same;
      members = members;
      are = are;
      is = subst (IsGroupValve seats net own members) same w;
    }
  where
    one_in : (x y : ℕ) → Contains (x ∷ []) y → x ≡ y
    one_in x y among = elim (in_cases x y [] among) [
      | inl same ↦ same
      | inr none ↦ absurd (in_none y none)
    ]

-- the valves of the checks that two sets name are the same, where they name as many and one of them feeds where
-- the other's does
same_check : (valve_of : ℕ → ℕ) (a b : Option ℕ) → length (option_to_list a) ≡ length (option_to_list b)
    → ((id : ℕ) → b ≡ Some id → Contains (map valve_of (option_to_list a)) (valve_of id))
    → map valve_of (option_to_list a) ≡ map valve_of (option_to_list b)
same_check valve_of None None long fed = refl
same_check valve_of None (Some id) long fed = absurd (omega (arith, long))
same_check valve_of (Some one) None long fed = absurd (omega (arith, long))
same_check valve_of (Some one) (Some id) long fed = elim (in_cases (valve_of one) (valve_of id) [] (fed id refl)) [
  | inl same ↦ ap (λ n. n ∷ []) same
  | inr none ↦ absurd (in_none (valve_of id) none)
]

-- what is known of two sets of which the other one came in the place of the first
pub record StaysFed (before : List Zone) (ids numbers : List ℕ) (seats : List Seat) (net : Net) (own : ℕ → ℕ)
    (zone : ℕ) (p q : Slotted) : Type 0 where
  pub valve : ℕ
  pub seat : seat_of seats p.slot ≡ suc valve
  pub is : IsSetValve before ids numbers seats net own zone p.set valve
  pub names_none : check_seat seats p.slot ≡ 0
  pub on : evaluates q.set.body ≡ true
  pub bodies : p.set.body ≡ q.set.body
  pub types : p.set.rtype ≡ q.set.rtype
  pub checks : map (valve_with ids numbers) (option_to_list p.set.check)
      ≡ map (valve_with ids numbers) (option_to_list q.set.check)

module _ (before after : List Zone) (checks : Checks) (reports : List Report) (index : Index)
    (stands : StandsFor before checks reports index) (removed added : List SetRef)
    (moves : Moves before after removed added) (zone : ℕ) (p q : Slotted)
    (was : IsHere (placed_in before zone) p) (here : IsHere (placed_in after zone) q) (slots : p.slot ≡ q.slot)
    (fed : IsAsFed after index.ids index.numbers index.seats index.valves zone q.slot q.set) where
  abbrev ids : List ℕ
  ids = ids_of checks.list

  abbrev with_id : ℕ → ℕ
  with_id id = valve_with ids index.numbers id

  early : (zone : ℕ) (p : Slotted) (id : ℕ) → IsHere (placed_in before zone) p → p.set.check ≡ Some id
      → with_id id < 200
  early = early_in before checks index.numbers stands.numbers stands.sound

  its_own : HasOwn before ids index.numbers index.seats stands.net stands.own zone p
  its_own = elim (own_or_told before ids index.numbers index.seats stands.net stands.own early zone p was
      (stands.wired.its_sets zone p was)) [
        | inl own ↦ own
        | inr told ↦
            let none = told.none in
            let some = ap (seat_of index.seats) slots ∙ fed.seat in
            absurd (omega (arith, none, some))
      ]

  same_valve : its_own.valve ≡ fed.valve
  same_valve =
      let one = its_own.seat in
      let other = ap (seat_of index.seats) slots ∙ fed.seat in
      omega (arith, one, other)

  -- what feeds the valve
  abbrev front : List ℕ
  front = map with_id (option_to_list p.set.check)

  feeders : (stands.net.condition fed.valve).feeders ≡ front ++ its_own.is.target
  feeders = ap (λ n. (stands.net.condition n).feeders) (sym same_valve) ∙ ap (λ r. r.feeders) its_own.is.condition

  need : length (front ++ its_own.is.target) ≡ length (option_to_list q.set.check) + 1
  need = sym (ap (λ r. r.need) its_own.is.condition) ∙ ap (λ n. (stands.net.condition n).need) same_valve
      ∙ fed.many stands.net stands.own stands.fits

  abbrev its_target : IsFedByTarget after index.seats index.valves zone q.set fed.valve
  its_target = fed.its_target

  front_early : (x : ℕ) → Contains front x → x < 200
  front_early x among = by p.set.check refl (subst (λ l. Contains l x) refl among)
    where
      by : (check : Option ℕ) → p.set.check ≡ check → Contains (map with_id (option_to_list check)) x → x < 200
      by None is among = absurd (in_none x among)
      by (Some id) is among = elim (in_cases (with_id id) x [] among) [
        | inl same ↦ (let low = early zone p id was is in omega (arith, low, same))
        | inr none ↦ absurd (in_none x none)
      ]

  -- the group that feeds it
  its_group : IsOfOneGroup before index.seats its_target.group
  its_group = stands.told.groups its_target.seat.0 its_target.group its_target.seat.1.1

  group_feeds : Contains its_own.is.target its_target.group
  group_feeds = elim (Contains-append_cases front its_own.is.target its_target.group
      (subst (λ l. Contains l its_target.group) feeders (its_target.fed stands.net stands.own stands.fits))) [
        | inl low ↦
            let less = front_early its_target.group low in
            let behind = its_group.behind in
            absurd (omega (arith, less, behind))
        | inr at ↦ at
      ]

  led : IsLed before index.seats stands.net stands.own zone p.set.rtype p.set.body its_own.is.target its_target.group
  led = led_of before index.seats stands.net stands.own zone p.set.rtype p.set.body its_own.is.target its_target.group
      its_own.is.its_target group_feeds

  -- the one to which the first set led is that one
  first_first : HasSlot led.members led.is.seat.0
  first_first = first_here led.members led.is.seat.0 led.is.seat.1.0

  its_first : HasSlot its_group.members led.is.seat.0
  its_first = its_group.only led.is.seat.0 led.is.seat.1.1

  first_is : (zone ≡ its_group.zone) × ((led.name ≡ its_group.name) × (p.set.rtype ≡ its_group.rtype))
  first_is = same_names before stands.are_zones stands.slots its_group.zone zone its_group.name led.name its_group.rtype p.set.rtype
      its_group.members led.members its_first.0 first_first.0 its_group.are its_first.1 led.are first_first.1
      (its_first.2 ∙ sym first_first.2)

  -- and so is that to which the other one leads
  second_name : its_target.name ≡ its_group.name
  second_name =
      let f = first_here its_target.members its_target.seat.0 its_target.seat.1.0 in
      let x = f.0 in
      let h = its_group.only its_target.seat.0 its_target.seat.1.1 in
      let y = h.0 in
      let y_here = subst (λ (z : ℕ). IsHere (placed_in before z) y) (sym first_is.0) (its_group.are.here y h.1) in
      let keys = moves.keys zone y x y_here (its_target.are.here x f.1) (h.2 ∙ sym f.2) in
      let is = of_group (sets_of (placed_in after zone)) its_target.name its_target.rtype x.set
      (subst (λ (l : List RecordSet). IsAmong l x.set) its_target.are.sets (set_in its_target.members x f.1)) in
      let was_of = of_group (sets_of (placed_in before its_group.zone)) its_group.name its_group.rtype y.set
      (subst (λ (l : List RecordSet). IsAmong l y.set) its_group.are.sets (set_in its_group.members y h.1)) in
      is.0 ∙ ap (λ (k : SetKey). k.name) (sym keys) ∙ sym was_of.0

  bodies : p.set.body ≡ q.set.body
  bodies =
      let its = on_body q.set.rtype q.set.body its_target.name its_target.rtype fed.on its_target.target in
      led.alias ∙ ap (λ n. body.Alias n true) (first_is.1.0 ∙ sym second_name) ∙ sym its.0

  front_long : length (option_to_list p.set.check) ≡ length (option_to_list q.set.check)
  front_long =
      let e = need ∙ refl in
      let sum = length-append front its_own.is.target in
      let one = ap (λ (l : List ℕ). length l) led.one in
      let mapped = length-map (option_to_list p.set.check) with_id in
      omega (arith, e, sum, one, mapped)

  check_feeds : (id : ℕ) → q.set.check ≡ Some id → Contains front (with_id id)
  check_feeds id is =
      let by = subst (λ c. IsFedByCheck index.ids index.numbers index.valves c fed.valve) is fed.its_check in
      let there = subst (λ l. slice_get l by.0.0 ≡ Some id) stands.ids by.0.1 in
      let feeds = subst (λ l. Contains l (valve_with index.ids index.numbers id)) feeders (by.1 stands.net stands.own stands.fits) in
      let low = valve_early ids index.numbers (ids_valves checks.list index.numbers stands.numbers) by.0.0 id there in
      elim (Contains-append_cases front its_own.is.target (with_id id)
      (subst (λ l. Contains (front ++ its_own.is.target) (valve_with l index.numbers id)) stands.ids feeds)) [
        | inl at ↦ at
        | inr last ↦ elim (in_cases its_target.group (with_id id) [] (subst (λ l. Contains l (with_id id)) led.one last)) [
          | inl same ↦ (let behind = its_group.behind in absurd (omega (arith, low, behind, same)))
          | inr none ↦ absurd (in_none (with_id id) none)
        ]
      ]

  pub stays_fed : StaysFed before ids index.numbers index.seats stands.net stands.own zone p q
  stays_fed = record {
    valve = its_own.valve;
    seat = its_own.seat;
    is = its_own.is;
    names_none = its_own.told ∙ alias_alone p.set (ap evaluates led.alias);
    on = fed.on;
    bodies = bodies;
    types = ap (λ (k : SetKey). k.rtype) (moves.keys zone p q was here slots);
    checks = same_check with_id p.set.check q.set.check front_long check_feeds;
  }
