-- An index that stands for reports, after one more of them.
use Rattle.std.proofs.Common.{◌≡◌, ◌≢◌, ◌<◌, ◌≤◌, ℕ, zero, suc, Bool, List, [], ◌∷◌, length, set, length-set, arith, refl, ap, sym, ◌∙◌, inl, inr, Some, None, Option}
use Rattle.std.specs.Prelude.{slice_get}
use Rattle.std.proofs.lemmas.Bool.{cases_eq, eq-eqb, ne_eqb}
use Rattle.std.proofs.lemmas.List.Sums.{length-filter}
use mathlib.Core.Path.{subst}
use Rattle.check_model.specs.Checks.{Checks, check_with}
use Rattle.check_model.specs.declared.checks.Check.{Check}
use Rattle.check_model.specs.declared.checks.Check.TheVariants.{Endpoint, Calculated}
use Rattle.checker_state.specs.Laws.{FiftyAlone}
use Rattle.checker_state.specs.Standing.{Seen, numbers, passing_of, with_result}
use Rattle.checker_state.specs.Standing.{StandsFor as HasSeen}
use Rattle.checker_state.specs.View.{view_of}
use Rattle.health_valves.proofs.Times.{times_here}
use Rattle.health_valves.specs.Valves.{ValvesStandFor, Net, times, with_own}
use Rattle.health_valves.specs.Pass.{IsIdle, MeetAll}
use Rattle.health_valves.specs.declared.valves.Valves.{Valves}
use Rattle.health_model.proofs.Members.{filter_same}
use Rattle.health_model.specs.Laws.{OneMoreReport}
use Rattle.health_model.specs.Nodes.{CheckNode, GroupNode, Node, SetNode}
use Rattle.health_model.specs.Statuses.{Report, passing, results_of}
use Rattle.rdata_layout.specs.declared.types.RType.{RType}
use Rattle.record_set.specs.declared.sets.Body.{Body}
use Rattle.record_set.specs.declared.sets.Body.TheVariants as body
use Rattle.health_planning.specs.Zones.{Zone}
use Rattle.zone_model.specs.Slotted.{Slotted}
use Rattle.health_index.specs.Index.{Index, IsEndpoint, IsEndpointOf, IsIntact, Space, StandsFor, reported}
use Rattle.health_planning.specs.Building.{IsSeen}
use Rattle.health_planning.specs.Wired.{IsCheckValve, IsValveFor, IsGroupValve, IsSeated, IsTarget, check_own, ids_of, place_of}
use Rattle.health_planning.proofs.Places.{check_there, no_check, of_all, one_place}

-- ---- results that are the same, one by one

passing_same : (n : ℕ) (f g : ℕ → List Bool) → ((k : ℕ) → f k ≡ g k)
    → passing_of n f ≡ passing_of n g
passing_same n f g same =
    sym (length-filter (λ (k : ℕ). view_of n (f k)) numbers)
    ∙ ap length (filter_same (λ (k : ℕ). view_of n (f k)) (λ (k : ℕ). view_of n (g k)) numbers (λ k m. ap (view_of n) (same k)))
    ∙ length-filter (λ (k : ℕ). view_of n (g k)) numbers

seen_same : FiftyAlone → (before after : List Report) (id : ℕ) (check : Check) (its : Option Seen)
    → ((k : ℕ) → results_of before id k ≡ results_of after id k)
    → IsSeen before id check its → IsSeen after id check its
seen_same fifty before after id (Endpoint threshold inverted disabled) None same is = is
seen_same fifty before after id (Endpoint threshold inverted disabled) (Some seen) same is =
    fifty threshold (results_of before id) (results_of after id) seen (λ k b. same k) is
seen_same fifty before after id (Calculated threshold inverted disabled children) its same is = is

own_same : (before after : List Report) (id : ℕ) (check : Check)
    → ((k : ℕ) → results_of before id k ≡ results_of after id k)
    → check_own check (passing before id) ≡ check_own check (passing after id)
own_same before after id (Endpoint threshold inverted disabled) same =
    passing_same threshold (results_of before id) (results_of after id) same
own_same before after id (Calculated threshold inverted disabled children) same = refl

-- ---- valves of sets are not counted from outside

module _ (own : ℕ → ℕ) (place given : ℕ) (early : place < 200) where
  untouched : (valve : ℕ) → 200 ≤ valve → with_own place given own valve ≡ own valve
  untouched valve behind = rw (ne_eqb valve place (λ e. let b = early in omega arith)) refl

module _ (zones : List Zone) (list : List (ℕ × Check)) (index : Index) (net : Net) (own : ℕ → ℕ)
    (place given : ℕ) (early : place < 200) where
  abbrev now : ℕ → ℕ
  now = with_own place given own

  group_still : (members : List Slotted) (valve : ℕ)
      → IsGroupValve index.seats net own members valve
      → IsGroupValve index.seats net now members valve
  group_still members valve w = record {
    seat = w.seat;
    each = w.each;
    behind = w.behind;
    within = w.within;
    condition = w.condition;
    its_own = untouched own place given early valve w.behind ∙ w.its_own;
  }

  target_still : (zone : ℕ) (rtype : RType) (its : Body) (target : List ℕ)
      → IsTarget zones index.seats net own zone rtype its target
      → IsTarget zones index.seats net now zone rtype its target
  target_still zone rtype (body.Values ttl values) target is = is
  target_still zone rtype (body.Alias name evaluate) target (inl off) = inl off
  target_still zone rtype (body.Alias name evaluate) target (inr (on, (valve, is, (members, are, w)))) =
      inr (on, (valve, is, (members, are, group_still members valve w)))

  node_still : (valve : ℕ) (node : Node)
      → IsValveFor zones list index.numbers index.seats net own valve node
      → IsValveFor zones list index.numbers index.seats net now valve node
  node_still valve (CheckNode id) its = its
  node_still valve (SetNode zone set) its = its
  node_still valve (GroupNode zone name rtype) (members, (are, w)) =
      (members, (are, group_still members valve w))

  seated_still : (zone : ℕ) (p : Slotted)
      → IsSeated zones (ids_of list) index.numbers index.seats net own zone p
      → IsSeated zones (ids_of list) index.numbers index.seats net now zone p
  seated_still zone p w = record {
    plain = w.plain;
    told = w.told;
    valved = λ e. elim (w.valved e) [
      | inl alone ↦ inl alone
      | inr g ↦ inr (
        g.0,
        g.1,
        record {
          behind = g.2.behind;
          within = g.2.within;
          target = g.2.target;
          its_target = target_still zone p.set.rtype p.set.body g.2.target g.2.its_target;
          condition = g.2.condition;
          its_own = untouched own place given early g.0 g.2.behind ∙ g.2.its_own;
        },
      )
    ];
  }

-- ---- one more report

some_same : {X : Type 0} {x y : X} → Some x ≡ Some y → x ≡ y
some_same e = cc

set_at : {X : Type 0} (xs : List X) (k : ℕ) (x y : X) → slice_get (set xs k x) k ≡ Some y → y ≡ x
set_at [] k x y e = let no : ⊥ = cc in absurd no
set_at (z ∷ xs) zero x y e = sym (some_same e)
set_at (z ∷ xs) (suc k) x y e = set_at xs k x y e

set_beside : {X : Type 0} (xs : List X) (k n : ℕ) (x : X) → n ≢ k
    → slice_get (set xs k x) n ≡ slice_get xs n
set_beside [] k n x apart = refl
set_beside (z ∷ xs) zero zero x apart = absurd (apart refl)
set_beside (z ∷ xs) zero (suc n) x apart = refl
set_beside (z ∷ xs) (suc k) zero x apart = refl
set_beside (z ∷ xs) (suc k) (suc n) x apart = set_beside xs k n x (λ e. apart (ap suc e))

module _ (fifty : FiftyAlone) (more : OneMoreReport) (zones : List Zone) (checks : Checks)
    (reports : List Report) (index : Index) (stands : StandsFor zones checks reports index)
    (id checker : ℕ) (pass : Bool) (place valve : ℕ) (its now : Seen) (given : ℕ) (valves : Valves)
    (checker_within : checker < 50)
    (here : slice_get index.ids place ≡ Some id) (first : place_of index.ids id ≡ place)
    (numbered : slice_get index.numbers place ≡ Some valve) (endpoint : IsEndpointOf checks id)
    (seen_here : slice_get index.seen place ≡ Some (Some its))
    (takes : (n : ℕ) (results : ℕ → List Bool) → HasSeen n results its
    → HasSeen n (with_result checker pass results) now)
    (counts : (n : ℕ) (results : ℕ → List Bool) → HasSeen n results now
    → given ≡ passing_of n results)
    (fits : ValvesStandFor stands.net (with_own valve given stands.own) valves)
    (meet : MeetAll stands.net (with_own valve given stands.own) valves)
    (idle : IsIdle valves) (space : Space) where
  abbrev report : Report
  report = reported id checker pass

  abbrev after : Index
  after = record index { seen = set index.seen place (Some now); valves = valves; space = space }

  there : (check : Check) × (slice_get checks.list place ≡ Some (id, check))
      × (check_with checks.list id ≡ Some check)
  there = check_there checks.list id place (rw stands.ids at here) (rw stands.ids at first)

  -- what the checkers of this check saw, and how many of them pass
  its_check : (check : Check) → check_with checks.list id ≡ Some check
      → IsSeen reports id check (Some its)
      → IsSeen (report ∷ reports) id check (Some now)
      × (given ≡ check_own check (passing (report ∷ reports) id))
  its_check (Endpoint threshold inverted disabled) at is =
      let seen = fifty threshold (with_result checker pass (results_of reports id)) (results_of (report ∷ reports) id) now
      (λ k b. sym (more.its report reports k)) (takes threshold (results_of reports id) is) in
      (seen, counts threshold (results_of (report ∷ reports) id) seen)
  its_check (Calculated threshold inverted disabled children) at is =
      absurd (subst IsEndpoint at endpoint)

  here_now : IsSeen (report ∷ reports) id there.0 (Some now)
      × (given ≡ check_own there.0 (passing (report ∷ reports) id))
  here_now = its_check there.0 there.2 (stands.seen place id there.0 (Some its) there.1 seen_here)

  early : valve < 200
  early = stands.numbers.early place valve numbered

  -- another place has another number
  other_id : (p other : ℕ) (check : Check) → p ≢ place
      → slice_get checks.list p ≡ Some (other, check) → other ≢ id
  other_id p other check apart at same =
      apart (one_place checks.list p place id check there.0 stands.are_checks.rising
      (subst (λ (n : ℕ). slice_get checks.list p ≡ Some (n, check)) same at) there.1)

  others_same : (p other : ℕ) (check : Check) → p ≢ place
      → slice_get checks.list p ≡ Some (other, check)
      → (k : ℕ) → results_of reports other k ≡ results_of (report ∷ reports) other k
  others_same p other check apart at k =
      sym (more.others report reports other k (other_id p other check apart at))

  seen_now : (p other : ℕ) (check : Check) (found : Option Seen)
      → slice_get checks.list p ≡ Some (other, check)
      → slice_get (set index.seen place (Some now)) p ≡ Some found
      → IsSeen (report ∷ reports) other check found
  seen_now p other check found at is = elim (cases_eq p place) [
    | inl same ↦
        let same_held : ◌≡◌ {A = ℕ × Check} (other, check) (id, there.0) = some_same (sym at ∙ ap (slice_get checks.list) same ∙ there.1) in
        let found_is : found ≡ Some now = set_at index.seen place (Some now) found (ap (slice_get (set index.seen place (Some now))) (sym same) ∙ is) in
        rw (ap (λ (h : ℕ × Check). h.0) same_held, ap (λ (h : ℕ × Check). h.1) same_held, found_is) here_now.0
    | inr apart ↦
        seen_same fifty reports (report ∷ reports) other check found (others_same p other check apart at)
        (stands.seen p other check found at (sym (set_beside index.seen place p (Some now) apart) ∙ is))
  ]

  valve_now : (p at_valve other : ℕ) (check : Check) → slice_get checks.list p ≡ Some (other, check)
      → slice_get index.numbers p ≡ Some at_valve
      → IsCheckValve (ids_of checks.list) index.numbers stands.net (with_own valve given stands.own)
      (report ∷ reports) at_valve other check
  valve_now p at_valve other check at at_number =
      let w = stands.wired.its_checks p at_valve other check at at_number in
      record {
        within = w.within;
        condition = w.condition;
        its_own = elim (cases_eq at_valve valve) [
          | inl same ↦
              let places = stands.numbers.apart p place valve (at_number ∙ ap Some same) numbered in
              let same_held : ◌≡◌ {A = ℕ × Check} (other, check) (id, there.0) = some_same (sym at ∙ ap (slice_get checks.list) places ∙ there.1) in
              rw (ap (λ (h : ℕ × Check). h.0) same_held, ap (λ (h : ℕ × Check). h.1) same_held, eq-eqb at_valve valve same) here_now.1
          | inr apart ↦
              rw (ne_eqb at_valve valve apart) (w.its_own ∙ own_same reports (report ∷ reports) other check (others_same p other check
              (λ same. apart (some_same (sym at_number ∙ ap (slice_get index.numbers) same ∙ numbered))) at))
        ];
      }

  pub stands_after : StandsFor zones checks (report ∷ reports) after
  stands_after = record {
    are_zones = stands.are_zones;
    slots = stands.slots;
    are_checks = stands.are_checks;
    sound = stands.sound;
    are_reports = (
      (
        (of_all (λ (held : ℕ × Check). (1 ≤ held.0) × (held.0 < checks.next)) checks.list place (id, there.0) stands.are_checks.ids
            there.1).1,
        checker_within,
      ),
      stands.are_reports,
    );
    ids = stands.ids;
    numbers = stands.numbers;
    seen = seen_now;
    as_many = length-set index.seen place (Some now) ∙ stands.as_many;
    kin = stands.kin;
    listed = stands.listed;
    net = stands.net;
    own = with_own valve given stands.own;
    wired = record {
      its_checks = valve_now;
      its_sets = λ zone p in_zone. seated_still zones checks.list index stands.net stands.own valve given early zone p (stands.wired.its_sets zone p in_zone);
      its_nodes = λ other within.
          elim (stands.wired.its_nodes other within) [
            | inl spare ↦ inl spare
            | inr (inl vacant) ↦ inr (inl vacant)
            | inr (inr n) ↦
                inr (inr (n.0, node_still zones checks.list index stands.net stands.own valve given early other n.0 n.1))
          ];
      spares = stands.wired.spares;
      many = stands.wired.many;
      its_groups = stands.wired.its_groups;
      its_members = stands.wired.its_members;
    };
    told = stands.told;
    fits = fits;
    ends = stands.ends;
    meet = meet;
    idle = idle;
  }

  pub stands_taken : (seen : List (Option Seen)) → seen ≡ set index.seen place (Some now)
      → StandsFor zones checks (report ∷ reports) (record index { seen = seen; valves = valves; space = space })
  stands_taken seen is =
      subst (λ s. StandsFor zones checks (report ∷ reports) (record index { seen = s; valves = valves; space = space })) (sym is)
      stands_after

-- ---- which checks have checkers

module _ (zones : List Zone) (checks : Checks) (reports : List Report) (index : Index)
    (stands : StandsFor zones checks reports index) (id : ℕ) where
  pub not_there : ((place : ℕ) → slice_get index.ids place ≡ Some id → ⊥) → IsEndpointOf checks id → ⊥
  not_there none endpoint =
      subst IsEndpoint (no_check checks.list id (λ place is. none place (rw stands.ids is))) endpoint

  module _ (place : ℕ) (here : slice_get index.ids place ≡ Some id)
      (first : place_of index.ids id ≡ place) where
    pub at_place : (check : Check) × (slice_get checks.list place ≡ Some (id, check))
        × (check_with checks.list id ≡ Some check)
    at_place = check_there checks.list id place (rw stands.ids at here) (rw stands.ids at first)

    without : (check : Check) → IsEndpoint (Some check) → IsSeen reports id check None → ⊥
    without (Endpoint threshold inverted disabled) is none = none
    without (Calculated threshold inverted disabled children) is none = is

    pub none_seen : slice_get index.seen place ≡ Some None → IsEndpointOf checks id → ⊥
    none_seen is endpoint =
        without at_place.0 (subst IsEndpoint at_place.2 endpoint) (stands.seen place id at_place.0 None at_place.1 is)

    with_some : (check : Check) (its : Seen) → IsSeen reports id check (Some its)
        → IsEndpoint (Some check)
    with_some (Endpoint threshold inverted disabled) its is = tt
    with_some (Calculated threshold inverted disabled children) its is = let no_such : ⊥ = cc in absurd no_such

    pub some_seen : (its : Seen) → slice_get index.seen place ≡ Some (Some its)
        → IsEndpointOf checks id
    some_seen its is = subst IsEndpoint (sym at_place.2) (with_some at_place.0 its (stands.seen place id at_place.0 (Some its) at_place.1 is))

-- ---- valves that nothing feeds

never : (xs : List ℕ) → ((x : ℕ) → times x xs ≡ 0) → xs ≡ []
never [] none = refl
never (x ∷ rest) none = let a = none x in let b = times_here x rest in absurd (omega arith)

-- in each net for which valves stand, a valve has feeders where it has in another
pub alone_in_all : (one two : Net) (own own_too : ℕ → ℕ) (valves : Valves) (valve : ℕ) → valve < one.size
    → ValvesStandFor one own valves → ValvesStandFor two own_too valves → (one.condition valve).feeders ≡ []
    → (two.condition valve).feeders ≡ []
alone_in_all one two own own_too valves valve within f g none =
    let s = f.laid.size in
    let t = g.laid.size in
    never (two.condition valve).feeders
    (λ x. sym (g.laid.reversed x valve (omega arith)) ∙ f.laid.reversed x valve within ∙ ap (times x) none)

-- what stays of an index whose checkers at a place saw one more result
pub whole_after : (index : Index) (w : IsIntact index) (place valve given : ℕ) (its now : Seen) (valves : Valves)
    (space : Space)
    → slice_get index.seen place ≡ Some (Some its)
    → ValvesStandFor w.net (with_own valve given w.own) valves → IsIdle valves
    → IsIntact (record index { seen = set index.seen place (Some now); valves = valves; space = space })
whole_after index w place valve given its now valves space here fits idle = record {
  net = w.net;
  own = with_own valve given w.own;
  fits = fits;
  idle = idle;
  as_many = length-set index.seen place (Some now) ∙ w.as_many;
  apart = w.apart;
  numbers = w.numbers;
  within = w.within;
  seated = w.seated;
  given = w.given;
  alone = λ p other found is at. elim (cases_eq p place) [
    | inl same ↦ w.alone place other its here (ap (slice_get index.numbers) (sym same) ∙ at)
    | inr apart ↦ w.alone p other found (sym (set_beside index.seen place p (Some now) apart) ∙ is) at
  ];
  spare = w.spare;
}
