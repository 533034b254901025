-- The valves that are built are those of the configuration.
use Rattle.std.proofs.Common.{◌⊎◌, ◌≡◌, ◌<◌, ◌≤◌, ◌+◌, ◌-◌, ℕ, suc, Bool, true, false, List, [], ◌∷◌, ◌++◌, length, map, arith, refl, ap, sym, ◌∙◌, inl, inr, Some, None, Option}
use Rattle.std.specs.Prelude.{◌==◌, ◌||◌, cond, is_some, slice_get}
use Rattle.std.specs.List.{AllByRecursion, filter}
use Rattle.std.specs.Option.{option_to_list}
use Rattle.std.proofs.lemmas.Bool.{cases_lt, false≢true, le-leb}
use Rattle.std.proofs.lemmas.List.{length-map}
use Rattle.std.proofs.lemmas.Bool.Decides.{Decides-and, Decides-eqb}
use Rattle.std.proofs.lemmas.Option.{slice_get_within}
use mathlib.Core.Path.{subst}
use Rattle.check_model.specs.declared.checks.Check.{Check}
use Rattle.dns_name.specs.OrderLaws.{same_labels-Decides}
use Rattle.health_valves.specs.Blueprint.{Drawn, feeders_in, net_in, own_in, own_of, condition_of}
use Rattle.health_valves.specs.declared.blueprint.Trigger.{Trigger}
use Rattle.health_model.specs.Nodes.{CheckNode, GroupNode, Node, SetNode}
use Rattle.health_model.specs.Statuses.{Report}
use Rattle.policy_select.proofs.Members.{one_named}
use Rattle.rdata_layout.specs.Types.{number_of}
use Rattle.rdata_layout.specs.declared.types.RType.{RType}
use Rattle.record_set.specs.Sets.{key_of}
use Rattle.record_set.specs.declared.sets.Body.{Body}
use Rattle.record_set.specs.declared.sets.Body.TheVariants as body
use Rattle.record_set.specs.declared.sets.RecordSet.{RecordSet}
use Rattle.policy_select.specs.Telling.{evaluates}
use Rattle.policy_select.proofs.MembersOfZoneList.{filled, one_of_key, placed_with, set_in}
use Rattle.policy_select.specs.Changes.{ref_in}
use Rattle.policy_select.specs.Zones.{AreZones, StandsAlone, Zone, placed_in}
use Rattle.policy_select.specs.SetRefRecord.{SetRef}
use Rattle.zone_model.proofs.Among.{among_at}
use Rattle.zone_model.proofs.Ordered.{one_number}
use Rattle.zone_model.specs.Slotted.{IsHere, Slotted, sets_of}
use Rattle.zone_model.specs.Zones.{IsAmong, IsRising, group, is_of_group}
use Rattle.policy_select.specs.Looking.{RefersTo}
use Rattle.policy_select.specs.Tables.{HaveSlotsApart}
use Rattle.health_planning.specs.Building.{AllListed, AllTell, AreTriggered, HasTarget, HasTargetValve, IsBuilt, IsListed, TellsCheck, check_trigger, group_trigger, number, set_trigger, spare_trigger}
use Rattle.health_planning.specs.Wired.{AreMembers, HasSlot, HaveValves, IsAlone, IsFirstIn, IsValveFor, IsGroupValve, IsSeated, IsSetValve, IsSpare, IsTarget, AreValvesOf, TellGroup, check_seat, valves_of, group_seat, ids_of, is_watched, only_check, own_part, plain_among, seat_of, set_seat, spare_condition, valve_with, with_valve, IsVacant}
use Rattle.health_planning.specs.declared.seats.Seat.{Seat}
use Rattle.health_planning.proofs.ListedOnce.{one_ref, own_is}
use Rattle.health_planning.proofs.Numbers.{number_or_none}

some_same : {X : Type 0} {x y : X} → Some x ≡ Some y → x ≡ y
some_same e = cc

-- ---- groups

passes : (f : RecordSet → Bool) (xs : List RecordSet) (x : RecordSet) → IsAmong (filter f xs) x
    → f x ≡ true
passes f [] x there = absurd there
passes f (y ∷ ys) x there = by (f y) refl (passes f ys x) there
  where
    by : (b : Bool) → f y ≡ b → (IsAmong (filter f ys) x → f x ≡ true)
        → IsAmong (cond b (y ∷ filter f ys) (filter f ys)) x → f x ≡ true
    by true e rest (inl same) = ap f (sym same) ∙ e
    by true e rest (inr more) = rest more
    by false e rest more = rest more

-- a set of a group has its name and type
pub of_group : (sets : List RecordSet) (name : List (List ℕ)) (rtype : RType) (set : RecordSet)
    → IsAmong (group sets name rtype) set → (name ≡ set.name) × (rtype ≡ set.rtype)
of_group sets name rtype set there =
    let both = (Decides-and _ _ (same_labels-Decides name set.name)
    (Decides-eqb (number_of rtype) (number_of set.rtype))).0 (passes (is_of_group name rtype) sets set there) in
    (both.0, one_number rtype set.rtype both.1)

-- and one of that name and type passes its test
pub passes_it : (name : List (List ℕ)) (rtype : RType) (set : RecordSet) → name ≡ set.name
    → rtype ≡ set.rtype → is_of_group name rtype set ≡ true
passes_it name rtype set name_is rtype_is = (Decides-and _ _ (same_labels-Decides name set.name)
    (Decides-eqb (number_of rtype) (number_of set.rtype))).1 (name_is, ap number_of rtype_is)

pub rising_in : (zones : List Zone) → AllByRecursion StandsAlone zones → (id : ℕ)
    → IsRising (sets_of (placed_in zones id))
rising_in [] each id = tt
rising_in (zone ∷ zones) each id = by (zone.id == id) (rising_in zones each.1 id)
  where
    by : (b : Bool) → IsRising (sets_of (placed_in zones id))
        → IsRising (sets_of (cond b zone.placed (placed_in zones id)))
    by true rest = each.0.sets.rising
    by false rest = rest

in_filter : (f : RecordSet → Bool) (xs : List RecordSet) (x : RecordSet) → IsAmong xs x → f x ≡ true
    → IsAmong (filter f xs) x
in_filter f [] x there on = absurd there
in_filter f (y ∷ ys) x there on = by (f y) refl there (λ later. in_filter f ys x later on)
  where
    by : (b : Bool) → f y ≡ b → IsAmong (y ∷ ys) x → (IsAmong ys x → IsAmong (filter f ys) x)
        → IsAmong (cond b (y ∷ filter f ys) (filter f ys)) x
    by true e (inl same) rest = inl same
    by true e (inr later) rest = inr (rest later)
    by false e (inl same) rest = absurd (false≢true (sym e ∙ ap f same ∙ on))
    by false e (inr later) rest = rest later

-- a set of a name and type is one of their group
pub in_members : (zones : List Zone) → AreZones zones → (zone : ℕ) (name : List (List ℕ)) (rtype : RType)
    (members : List Slotted) (p : Slotted) → AreMembers zones zone name rtype members
    → IsHere (placed_in zones zone) p → name ≡ p.set.name → rtype ≡ p.set.rtype → IsHere members p
in_members zones are_zones zone name rtype members p are here name_is rtype_is =
    let among = in_filter (is_of_group name rtype) (sets_of (placed_in zones zone)) p.set (set_in (placed_in zones zone) p here) (passes_it name rtype p.set name_is rtype_is) in
    let q = placed_with members p.set (subst (λ (l : List RecordSet). IsAmong l p.set) (sym are.sets) among) in
    let one = one_of_key (placed_in zones zone) (rising_in zones are_zones.each zone) q.0 p (are.here q.0 q.1) here (ap key_of q.2) in
    subst (IsHere members) one q.1

-- the first set of a group
record HasFirst (zones : List Zone) (zone : ℕ) (name : List (List ℕ)) (rtype : RType)
    (members : List Slotted) (slot : ℕ) : Type 0 where
  p : Slotted
  at : slice_get members 0 ≡ Some p
  slot_is : p.slot ≡ slot
  here : IsHere (placed_in zones zone) p
  name_is : name ≡ p.set.name
  rtype_is : rtype ≡ p.set.rtype

has_first : (zones : List Zone) (zone : ℕ) (name : List (List ℕ)) (rtype : RType)
    (members : List Slotted) (slot : ℕ) → AreMembers zones zone name rtype members
    → IsFirstIn members slot → HasFirst zones zone name rtype members slot
has_first zones zone name rtype members slot are (p, at, slot_is) =
    let m = among_at members 0 p at in
    let of = of_group (sets_of (placed_in zones zone)) name rtype p.set
    (subst (λ (l : List RecordSet). IsAmong l p.set) are.sets (set_in members p m)) in
    record {
      p = p;
      at = at;
      slot_is = slot_is;
      here = are.here p m;
      name_is = of.0;
      rtype_is = of.1;
    }

-- the first of some sets
pub record IsFirstOf (members : List Slotted) : Type 0 where
  pub p : Slotted
  pub at : slice_get members 0 ≡ Some p
  pub here : IsHere members p

pub first_of : (members : List Slotted) (p : Slotted) → IsHere members p → IsFirstOf members
first_of [] p m = absurd m
first_of (q ∷ members) p m = record { p = q; at = refl; here = inl refl }

pub first_here : (members : List Slotted) (slot : ℕ) → IsFirstIn members slot
    → HasSlot members slot
first_here members slot (p, at, is) = (p, among_at members 0 p at, is)

module _ (zones : List Zone) (are_zones : AreZones zones) where
  -- the first set of a group stands in one slot
  pub first_same : (zone : ℕ) (name : List (List ℕ)) (rtype : RType) (xs ys : List Slotted) (s t : ℕ)
      → AreMembers zones zone name rtype xs → IsFirstIn xs s
      → AreMembers zones zone name rtype ys → IsFirstIn ys t → s ≡ t
  first_same zone name rtype xs ys s t are_xs first_xs are_ys first_ys =
      let a = has_first zones zone name rtype xs s are_xs first_xs in
      let b = has_first zones zone name rtype ys t are_ys first_ys in
      let sets = set_at xs a.p a.at ∙ ap (λ (l : List RecordSet). slice_get l 0) (are_xs.sets ∙ sym are_ys.sets) ∙ sym (set_at ys b.p b.at) in
      let one = one_of_key (placed_in zones zone) (rising_in zones are_zones.each zone) a.p b.p a.here b.here (ap key_of (some_same sets)) in
      sym a.slot_is ∙ ap (λ (p : Slotted). p.slot) one ∙ b.slot_is
    where
      set_at : (l : List Slotted) (p : Slotted) → slice_get l 0 ≡ Some p
          → Some p.set ≡ slice_get (sets_of l) 0
      set_at [] p e = let no : ⊥ = cc in absurd no
      set_at (q ∷ l) p e = ap (λ (x : Slotted). Some x.set) (sym (some_same e))

  -- a set of a group is one of it, however its sets are listed
  pub member_there : (zone : ℕ) (name : List (List ℕ)) (rtype : RType) (xs ys : List Slotted)
      (p : Slotted) → AreMembers zones zone name rtype xs → IsHere xs p
      → AreMembers zones zone name rtype ys → IsHere ys p
  member_there zone name rtype xs ys p are_xs in_xs are_ys =
      let q = placed_with ys p.set
      (subst (λ (l : List RecordSet). IsAmong l p.set) (are_xs.sets ∙ sym are_ys.sets) (set_in xs p in_xs)) in
      let one = one_of_key (placed_in zones zone) (rising_in zones are_zones.each zone) q.0 p (are_ys.here q.0 q.1) (are_xs.here p in_xs) (ap key_of q.2) in
      subst (IsHere ys) one q.1

  module _ (apart : HaveSlotsApart zones) where
    -- groups with sets in one slot have one zone, name and type
    pub same_names : (zone other : ℕ) (name name_two : List (List ℕ)) (rtype rtype_two : RType)
        (xs ys : List Slotted) (p q : Slotted)
        → AreMembers zones zone name rtype xs → IsHere xs p
        → AreMembers zones other name_two rtype_two ys → IsHere ys q → p.slot ≡ q.slot
        → (other ≡ zone) × ((name_two ≡ name) × (rtype_two ≡ rtype))
    same_names zone other name name_two rtype rtype_two xs ys p q are_xs in_xs are_ys in_ys same =
        let a = of_group (sets_of (placed_in zones zone)) name rtype p.set
        (subst (λ (l : List RecordSet). IsAmong l p.set) are_xs.sets (set_in xs p in_xs)) in
        let b = of_group (sets_of (placed_in zones other)) name_two rtype_two q.set
        (subst (λ (l : List RecordSet). IsAmong l q.set) are_ys.sets (set_in ys q in_ys)) in
        let here = are_xs.here p in_xs in
        let there = are_ys.here q in_ys in
        let refs = one_ref zones (ref_in other q) (ref_in zone p) q.set p.set apart there here (sym same) in
        let sets = one_named zones (ref_in zone p) q.set p.set are_zones (subst (λ (r : SetRef). RefersTo zones r q.set) refs there) here in (
          ap (λ (r : SetRef). r.zone) refs,
          (b.0 ∙ ap (λ (s : RecordSet). s.name) sets ∙ sym a.0, b.1 ∙ ap (λ (s : RecordSet). s.rtype) sets ∙ sym a.1),
        )

    -- groups with sets in one slot are one
    pub same_group : (zone other : ℕ) (name name_two : List (List ℕ)) (rtype rtype_two : RType)
        (xs ys : List Slotted) (p q : Slotted)
        → AreMembers zones zone name rtype xs → IsHere xs p
        → AreMembers zones other name_two rtype_two ys → IsHere ys q → p.slot ≡ q.slot
        → AreMembers zones zone name rtype ys
    same_group zone other name name_two rtype rtype_two xs ys p q are_xs in_xs are_ys in_ys same =
        let one = same_names zone other name name_two rtype rtype_two xs ys p q are_xs in_xs are_ys in_ys same in
        subst (λ (z : ℕ). AreMembers zones z name rtype ys) one.0
        (subst (λ (n : List (List ℕ)). AreMembers zones other n rtype ys) one.1.0
        (subst (λ (r : RType). AreMembers zones other name_two r ys) one.1.1 are_ys))

-- a set that something decides and no target's health does names a check
named_check : (set : RecordSet) → evaluates set.body ≡ false → is_watched set ≡ true
    → (id : ℕ) × (set.check ≡ Some id)
named_check set off on = by set.check refl (sym (ap (λ (b : Bool). is_some set.check || b) off) ∙ on)
  where
    by : (check : Option ℕ) → set.check ≡ check → is_some set.check || false ≡ true
        → (id : ℕ) × (set.check ≡ Some id)
    by None is some = absurd (false≢true (sym (ap (λ (o : Option ℕ). is_some o || false) is) ∙ some))
    by (Some id) is some = (id, is)

-- and that is the only one
only_is : (set : RecordSet) (id : ℕ) → evaluates set.body ≡ false → set.check ≡ Some id → only_check set ≡ id
only_is set id off is = rw (off, is) refl

-- ---- all valves

pub ids_long : (list : List (ℕ × Check)) → length (ids_of list) ≡ length list
ids_long list = length-map list (λ (held : ℕ × Check). held.0)

module _ (zones : List Zone) (list : List (ℕ × Check)) (numbers : List ℕ) (refs : List SetRef)
    (seats : List Seat) (blueprint : Drawn) (are_zones : AreZones zones)
    (apart : HaveSlotsApart zones) (valves : HaveValves (length list) numbers)
    (built : IsBuilt zones list numbers refs seats blueprint.triggers blueprint.links) where
  -- a group with a valve
  group_there : (members : List Slotted) (slot valve : ℕ) → IsFirstIn members slot
      → group_seat seats slot ≡ suc valve → TellGroup seats members valve → 200 + length refs ≤ valve
      → slice_get blueprint.triggers valve ≡ Some (group_trigger (plain_among seats members))
      → feeders_in blueprint.links valve ≡ valves_of seats members
      → IsGroupValve seats (net_in blueprint) (own_in blueprint) members valve
  group_there members slot valve first seat each behind trigger fed =
      record {
        seat = (slot, (first, seat));
        each = each;
        behind = omega arith;
        within = slice_get_within blueprint.triggers valve (group_trigger (plain_among seats members)) trigger;
        condition = ap (λ (o : Option Trigger). condition_of o (feeders_in blueprint.links valve)) trigger
            ∙ ap (λ (l : List ℕ). record { need = 1; inverted = false; feeders = l }) fed;
        its_own = ap own_of trigger;
      }

  -- the valve of a target group
  record HasTargetIn (zone : ℕ) (name : List (List ℕ)) (rtype : RType) (slot : ℕ) : Type 0 where
    valve : ℕ
    seat : group_seat seats slot ≡ suc valve
    behind : 200 + length refs ≤ valve
    members : List Slotted
    each : TellGroup seats members valve
    first : IsFirstIn members slot
    are : AreMembers zones zone name rtype members
    trigger : slice_get blueprint.triggers valve ≡ Some (group_trigger (plain_among seats members))
    fed : feeders_in blueprint.links valve ≡ valves_of seats members

  target_in : (zone : ℕ) (name : List (List ℕ)) (rtype : RType) (members : List Slotted) (slot : ℕ)
      → AreMembers zones zone name rtype members → IsFirstIn members slot
      → HasTarget zones seats zone name rtype → HasTargetIn zone name rtype slot
  target_in zone name rtype members slot are first t =
      let slot_is = first_same zones are_zones zone name rtype t.members members t.slot slot t.are t.first are first in
      let g = built.groups.valves t.slot t.valve t.seat in
      let p = first_here t.members t.slot t.first in
      let q = g.1.here in
      let its = same_group zones are_zones apart zone g.1.zone name g.1.name rtype g.1.rtype t.members g.1.members p.0 q.0 t.are p.1 g.1.are q.1
      (p.2 ∙ sym q.2) in
      let f = first_of g.1.members q.0 q.1 in
      let f_is = first_same zones are_zones zone name rtype g.1.members members f.p.slot slot its (f.p, f.at, refl) are first in
      record {
        valve = t.valve;
        seat = ap (group_seat seats) (sym slot_is) ∙ t.seat;
        behind = g.0;
        members = g.1.members;
        each = g.1.each;
        first = subst (IsFirstIn g.1.members) f_is (f.p, f.at, refl);
        are = its;
        trigger = g.1.trigger;
        fed = g.1.fed;
      }

  -- what a target gives a set
  record HasTargetThere (zone : ℕ) (rtype : RType) (its : Body) (target : List ℕ) : Type 0 where
    are : IsTarget zones seats (net_in blueprint) (own_in blueprint) zone rtype its target
    as_many : number (evaluates its) ≡ length target

  target_there : (zone : ℕ) (rtype : RType) (its : Body) (target : List ℕ)
      → HasTargetValve zones seats zone rtype its target
      → ((name : List (List ℕ)) → its ≡ body.Alias name true → HasTarget zones seats zone name rtype)
      → HasTargetThere zone rtype its target
  target_there zone rtype (body.Values ttl values) target is has =
      record { are = is; as_many = sym (ap length is) }
  target_there zone rtype (body.Alias name evaluate) target (inl (off, is)) has =
      record { are = inl (off, is); as_many = ap number off ∙ sym (ap length is) }
  target_there zone rtype (body.Alias name evaluate) target (inr (on, (members, (slot, (are, first, is))))) has =
      let t = target_in zone name rtype members slot are first (has name (ap (body.Alias name) on)) in
      let target_is : target ≡ t.valve ∷ [] = is ∙ ap (λ (n : ℕ). with_valve n []) t.seat in
      record {
        are = inr (
          on,
          (
            t.valve,
            target_is,
            (
              t.members,
              t.are,
              group_there t.members slot t.valve t.first t.seat t.each t.behind t.trigger t.fed,
            ),
          ),
        );
        as_many = ap number on ∙ sym (ap length target_is);
      }

  checks_many : (check : Option ℕ) (target : List ℕ) (n : ℕ) → n ≡ length target
      → number (is_some check) + n
      ≡ length (map (valve_with (ids_of list) numbers) (option_to_list check) ++ target)
  checks_many None target n e = omega arith
  checks_many (Some id) target n e = omega arith

  -- the valve of a set that something decides
  record HasValve (zone : ℕ) (p : Slotted) : Type 0 where
    valve : ℕ
    seat : seat_of seats p.slot ≡ suc valve
    told : check_seat seats p.slot ≡ only_check p.set
    is : IsSetValve zones (ids_of list) numbers seats (net_in blueprint) (own_in blueprint) zone p.set valve

  valve_of : (zone : ℕ) (p : Slotted) → IsHere (placed_in zones zone) p
      → IsListed refs (ref_in zone p) → HasValve zone p
  valve_of zone p here k =
      let valve = 200 + k.0 in
      let g = built.sets k.0 (ref_in zone p) k.1 in
      let named = one_named zones (ref_in zone p) g.named p.set are_zones g.names here in
      let trigger = g.trigger ∙ ap (λ (s : RecordSet). Some (set_trigger s)) named in
      let feeds = built.fed k.0 (ref_in zone p) p.set k.1 here in
      let t = target_there zone p.set.rtype p.set.body feeds.0 feeds.1.0
      (λ name is. built.targets k.0 (ref_in zone p) p.set name k.1 here is) in
      record {
        valve = valve;
        seat = g.seat;
        told = g.told ∙ ap only_check named;
        is = record {
          behind = omega arith;
          within = slice_get_within blueprint.triggers valve (set_trigger p.set) trigger;
          target = feeds.0;
          its_target = t.are;
          condition = ap (λ (o : Option Trigger). condition_of o (feeders_in blueprint.links valve)) trigger
              ∙ ap (λ (l : List ℕ). record { need = number (is_some p.set.check) + number (evaluates p.set.body); inverted = false; feeders = l }) feeds.1.1
              ∙ ap (λ (n : ℕ). record { need = n; inverted = false; feeders = map (valve_with (ids_of list) numbers) (option_to_list p.set.check) ++ feeds.0 })
              (checks_many p.set.check feeds.0 (number (evaluates p.set.body)) t.as_many);
          its_own = ap own_of trigger;
        };
      }

  -- a set whose slot has a valve is listed, and one that something decides
  pub watched_there : (zone : ℕ) (p : Slotted) → IsHere (placed_in zones zone) p → (valve : ℕ)
      → seat_of seats p.slot ≡ suc valve
      → IsListed refs (ref_in zone p) × (is_watched p.set ≡ true)
  watched_there zone p here valve seat =
      let o = built.only p.slot valve seat in
      let g = built.sets o.0 o.1.0 o.1.2 in
      let ref_is = one_ref zones o.1.0 (ref_in zone p) g.named p.set apart g.names here o.1.3 in
      let named = one_named zones (ref_in zone p) g.named p.set are_zones (subst (λ (r : SetRef). RefersTo zones r g.named) ref_is g.names) here in
      ((o.0, o.1.2 ∙ ap Some ref_is), sym (ap is_watched named) ∙ g.watched)

  -- a valve that the seat of a set tells is its own
  pub set_valve : (zone : ℕ) (p : Slotted) (valve : ℕ) → IsHere (placed_in zones zone) p
      → seat_of seats p.slot ≡ suc valve
      → IsSetValve zones (ids_of list) numbers seats (net_in blueprint) (own_in blueprint) zone p.set valve
  set_valve zone p valve here seat =
      let g = valve_of zone p here (watched_there zone p here valve seat).0 in
      let other = g.seat in
      let same : g.valve ≡ valve = omega arith in
      subst (IsSetValve zones (ids_of list) numbers seats (net_in blueprint) (own_in blueprint) zone p.set) same g.is

  pub seated : AllListed zones refs → AllTell zones (ids_of list) numbers refs seats → (zone : ℕ) (p : Slotted) → IsHere (placed_in zones zone) p
      → IsSeated zones (ids_of list) numbers seats (net_in blueprint) (own_in blueprint) zone p
  seated all tell zone p here = elim (tell zone p here) [
    | inl listed ↦ by_own (valve_of zone p here listed)
    | inr told ↦ record {
      plain = told.plain;
      told = λ on. (by_check told (evaluates p.set.body) refl on).0;
      valved = λ on. (by_check told (evaluates p.set.body) refl on).1;
    }
  ]
    where
      by_own : HasValve zone p → IsSeated zones (ids_of list) numbers seats (net_in blueprint) (own_in blueprint) zone p
      by_own g = record {
        plain = λ off. absurd (false≢true (sym off ∙ (watched_there zone p here g.valve g.seat).1));
        told = λ on. g.told;
        valved = λ on. inr (g.valve, g.seat, g.is);
      }

      by_check : TellsCheck (ids_of list) numbers seats p → (b : Bool) → evaluates p.set.body ≡ b
          → is_watched p.set ≡ true
          → (check_seat seats p.slot ≡ only_check p.set)
          × (((id : ℕ) × (IsAlone p.set id × (set_seat seats p.slot ≡ suc (valve_with (ids_of list) numbers id))))
          ⊎ ((valve : ℕ) × (seat_of seats p.slot ≡ suc valve)
          × IsSetValve zones (ids_of list) numbers seats (net_in blueprint) (own_in blueprint) zone p.set valve))
      by_check told true on watched =
          let g = valve_of zone p here (all zone p here on) in
          (g.told, inr (g.valve, g.seat, g.is))
      by_check told false off watched =
          let id = named_check p.set off watched in
          let its = told.alone id.0 (off, id.1) in
          (its.0 ∙ sym (only_is p.set id.0 off id.1), inl (id.0, ((off, id.1), its.1)))

  -- the sets of a group with a valve that something decides have valves of their own
  members_own : AllListed zones refs → AllTell zones (ids_of list) numbers refs seats → (slot valve : ℕ)
      → group_seat seats slot ≡ suc valve → set_seat seats slot ≡ seat_of seats slot
  members_own all tell slot valve is =
      let g = (built.groups.valves slot valve is).1 in
      let p = g.here in
      let of = of_group (sets_of (placed_in zones g.zone)) g.name g.rtype p.0.set
      (subst (λ (l : List RecordSet). IsAmong l p.0.set) g.are.sets (set_in g.members p.0 p.1)) in
      let alias = g.led in
      let k = all g.zone alias.0 alias.1.0 (ap evaluates alias.1.1.0) in
      let within = slice_get_within refs k.0 (ref_in g.zone alias.0) k.1 in
      let listed = built.members k.0 (ref_in g.zone alias.0) alias.0.set g.name within k.1 alias.1.0 alias.1.1.0
      p.0 (g.are.here p.0 p.1) of.0 (alias.1.1.1 ∙ of.1) in
      subst (λ (n : ℕ). set_seat seats n ≡ seat_of seats n) p.2
      (by g.zone p.0 (g.are.here p.0 p.1) listed (is_watched p.0.set) refl)
    where
      own_same : (seat found : ℕ) → own_part seat ≡ suc found → seat ≡ own_part seat
      own_same seat found e = elim (cases_lt 200 seat) [
        | inl late ↦ sym (own_is seat late)
        | inr early ↦ (let none : own_part seat ≡ 0 = rw (le-leb seat 200 early) refl in absurd (omega arith))
      ]

      by : (zone : ℕ) (p : Slotted) → IsHere (placed_in zones zone) p
          → (is_watched p.set ≡ true → IsListed refs (ref_in zone p)) → (b : Bool) → is_watched p.set ≡ b
          → set_seat seats p.slot ≡ seat_of seats p.slot
      by zone p here listed true on =
          let g = valve_of zone p here (listed on) in
          own_same (set_seat seats p.slot) g.valve g.seat
      by zone p here listed false off =
          let none = (seated all tell zone p here).plain off in
          none ∙ sym (ap own_part none)

  -- each valve is that of a node, or spare
  pub nodes : (valve : ℕ) → valve < length blueprint.triggers → IsSpare numbers valve
      ⊎ (IsVacant (net_in blueprint) valve
      ⊎ ((node : Node) × IsValveFor zones list numbers seats (net_in blueprint) (own_in blueprint) valve node))
  nodes valve within = elim (cases_lt valve 200) [
    | inl early ↦ elim (number_or_none numbers valve) [
      | inl at ↦
          let many = valves.as_many in
          let within_list = slice_get_within numbers at.0 valve at.1 in
          let held = filled list at.0 (omega arith) in
          inr (inr (CheckNode held.0.0, (at.0, (held.0.1, (held.1, at.1)))))
      | inr none ↦ inl (early, none)
    ]
    | inr behind ↦ elim (cases_lt valve (200 + length refs)) [
      | inl early ↦ inr (inr (set_node valve behind early))
      | inr late ↦
          let slot = built.groups.all valve late within in
          let g = built.groups.valves slot.0 valve slot.1 in
          let f = first_of g.1.members g.1.here.0 g.1.here.1 in
          inr (inr (
            GroupNode g.1.zone g.1.name g.1.rtype,
            (
              g.1.members,
              (
                g.1.are,
                group_there g.1.members f.p.slot valve (f.p, f.at, refl) (g.1.each f.p f.here) g.1.each g.0 g.1.trigger g.1.fed,
              ),
            ),
          ))
    ]
  ]
    where
      set_node : (valve : ℕ) → 200 ≤ valve → valve < 200 + length refs
          → (node : Node) × IsValveFor zones list numbers seats (net_in blueprint) (own_in blueprint) valve node
      set_node valve past early =
          let k = valve - 200 in
          let is : 200 + k ≡ valve = omega arith in
          let ref = filled refs k (omega arith) in
          let g = built.sets k ref.0 ref.1 in
          (SetNode ref.0.zone g.named, (ref.0.slot, (g.names, g.seat ∙ ap suc is)))

  pub spare : (valve : ℕ) → IsSpare numbers valve → (net_in blueprint).condition valve ≡ spare_condition
  spare valve is =
      ap (λ (o : Option Trigger). condition_of o (feeders_in blueprint.links valve)) (built.spares valve is)
      ∙ ap (condition_of (Some spare_trigger)) (built.unfed valve is)

  pub wired : AllListed zones refs → AllTell zones (ids_of list) numbers refs seats → (reports : List Report) → AreTriggered reports list numbers blueprint.triggers
      → AreValvesOf zones list numbers seats (net_in blueprint) (own_in blueprint) reports
  wired all tell reports triggered = record {
    its_checks = λ place valve id check at numbered.
        let trigger = triggered place valve id check at numbered in
        record {
          within = slice_get_within blueprint.triggers valve (check_trigger reports id check) trigger;
          condition = ap (λ (o : Option Trigger). condition_of o (feeders_in blueprint.links valve)) trigger
              ∙ ap (condition_of (Some (check_trigger reports id check))) (built.children place valve id check at numbered);
          its_own = ap own_of trigger;
        };
    its_sets = seated all tell;
    its_nodes = nodes;
    spares = spare;
    many = let size = built.size in omega arith;
    its_groups = λ slot valve is.
        let g = built.groups.valves slot valve is in
        slice_get_within blueprint.triggers valve (group_trigger (plain_among seats g.1.members)) g.1.trigger;
    its_members = members_own all tell;
  }
