-- An index whose checks keep their numbers and their children, after they got other conditions.
use Rattle.std.proofs.Common.{◌≡◌, ◌≢◌, ◌≤◌, ◌<◌, ◌+◌, ℕ, suc, Bool, List, [], ◌∷◌, length, map, arith, refl, ap, sym, ◌∙◌, inl, inr, Some, None, Option}
use Rattle.std.specs.Prelude.{◌⊎◌, slice_get}
use Rattle.std.specs.List.{AllByRecursion}
use Rattle.std.proofs.lemmas.Bool.{cases_eq, cases_lt}
use Rattle.std.proofs.lemmas.Option.{slice_get_within}
use mathlib.Core.Path.{subst}
use Rattle.check_model.specs.Checks.{Checks, IsId, check_with, children_of}
use Rattle.check_model.specs.Checks.{IsSound as AreSoundChecks}
use Rattle.check_model.specs.declared.checks.Check.{Check}
use Rattle.check_model.specs.declared.checks.Check.TheVariants.{Endpoint, Calculated}
use Rattle.checker_state.specs.Standing.{Seen}
use Rattle.checker_state.specs.Standing.{StandsFor as HasSeen}
use Rattle.health_valves.proofs.Needs.{ends_alike, feeders_same, here, there}
use Rattle.health_valves.specs.Pass.{IsIdle}
use Rattle.health_valves.specs.Valves.{Condition, Net, ValvesStandFor, with_need}
use Rattle.health_valves.specs.declared.valves.Valves.{Valves}
use Rattle.health_model.specs.Nodes.{CheckNode, Node}
use Rattle.health_model.specs.Sound.{IsSound}
use Rattle.health_model.specs.Statuses.{Report, results_of}
use Rattle.health_planning.specs.Zones.{Zone}
use Rattle.health_planning.specs.Building.{IsSeen}
use Rattle.health_planning.specs.Later.{HasThreshold, IsLaterAt}
use Rattle.health_planning.specs.Wired.{IsCheckValve, IsSpare, IsValveFor, StandApart, check_need, check_own, ids_of, is_inverted, valve_with, watched_of, IsVacant}
use Rattle.health_planning.proofs.Built.{id_placed}
use Rattle.health_planning.proofs.MembersOfZoneList.{filled}
use Rattle.health_planning.proofs.Numbers.{number_or_none}
use Rattle.health_planning.proofs.Places.{id_at, of_all, one_place}
use Rattle.health_index.proofs.Behind.{node_now, seated_now}
use Rattle.health_index.proofs.Kindred.{IsParent, same_children}
use Rattle.health_index.specs.Following.{AreReshaped, IsFollowed, Reshapes}
use Rattle.health_index.specs.Index.{Index, IsEndpoint, IsIntact, Space}
use Rattle.health_index.specs.Index.{StandsFor}
use Rattle.health_index.specs.Kin.{kin_of}

some_same : {X : Type 0} {x y : X} → Some x ≡ Some y → x ≡ y
some_same e = cc

-- ---- numbers, one by one

pub same_ids : (ids : List ℕ) (list : List (ℕ × Check)) → length ids ≡ length list
    → ((place : ℕ) (held : ℕ × Check) → slice_get list place ≡ Some held
    → slice_get ids place ≡ Some held.0)
    → ids ≡ ids_of list
same_ids [] [] long each = refl
same_ids [] (held ∷ list) long each = absurd (omega arith)
same_ids (id ∷ ids) [] long each = absurd (omega arith)
same_ids (id ∷ ids) (held ∷ list) long each =
    both (some_same (each 0 held refl))
    (same_ids ids list (omega arith) (λ place other at. each (suc place) other at))
  where
    both : {i j : ℕ} {xs ys : List ℕ} → i ≡ j → xs ≡ ys → i ∷ xs ≡ j ∷ ys
    both e f = cc

-- ---- conditions, one by one

pub none_yet : (list : List (ℕ × Check)) (numbers : List ℕ) (net : Net) (own : ℕ → ℕ)
    (valves : Valves) → ValvesStandFor net own valves → Reshapes list numbers 0 net own valves valves
none_yet list numbers net own valves fits = record {
  now = net;
  reshaped = record {
    size = refl;
    feeders = λ n. refl;
    need = λ place valve held early at numbered. absurd (omega arith);
    inverted = λ place valve held early at numbered. absurd (omega arith);
    others = λ n none. refl;
  };
  fits = fits;
  meet = λ ends met. met;
}

module _ (list : List (ℕ × Check)) (numbers : List ℕ) (apart : StandApart numbers) (place valve : ℕ)
    (held : ℕ × Check) (before after : Net) (at : slice_get list place ≡ Some held)
    (numbered : slice_get numbers place ≡ Some valve)
    (is : AreReshaped list numbers place before after) where
  abbrev more : Net
  more = with_need valve (check_need held.1) (is_inverted held.1) after

  cond_here : more.condition valve
      ≡ record { need = check_need held.1; inverted = is_inverted held.1; feeders = (after.condition valve).feeders }
  cond_here = here valve (check_need held.1) (is_inverted held.1) after

  cond_there : (n : ℕ) → n ≢ valve → more.condition n ≡ after.condition n
  cond_there n differ = there valve (check_need held.1) (is_inverted held.1) after n differ

  -- the valve of another place is another
  other_valve : (k found : ℕ) → k ≢ place → slice_get numbers k ≡ Some found → found ≢ valve
  other_valve k found differ at_k same = differ (apart k place valve (at_k ∙ ap Some same) numbered)

  pub one_more : AreReshaped list numbers (place + 1) before more
  one_more = record {
    size = is.size;
    feeders = λ n. feeders_same valve (check_need held.1) (is_inverted held.1) after n ∙ is.feeders n;
    need = λ k found other early at_k numbered_k. elim (cases_eq k place) [
      | inl e ↦
          let same : held ≡ other = some_same (sym at ∙ ap (slice_get list) (sym e) ∙ at_k) in
          let found_is : found ≡ valve = some_same (sym numbered_k ∙ ap (slice_get numbers) e ∙ numbered) in
          ap (λ (n : ℕ). (more.condition n).need) found_is ∙ ap (λ (c : Condition). c.need) cond_here
          ∙ ap (λ (h : ℕ × Check). check_need h.1) same
      | inr differ ↦
          ap (λ (c : Condition). c.need) (cond_there found (other_valve k found differ numbered_k))
          ∙ is.need k found other (omega arith) at_k numbered_k
    ];
    inverted = λ k found other early at_k numbered_k. elim (cases_eq k place) [
      | inl e ↦
          let same : held ≡ other = some_same (sym at ∙ ap (slice_get list) (sym e) ∙ at_k) in
          let found_is : found ≡ valve = some_same (sym numbered_k ∙ ap (slice_get numbers) e ∙ numbered) in
          ap (λ (n : ℕ). (more.condition n).inverted) found_is ∙ ap (λ (c : Condition). c.inverted) cond_here
          ∙ ap (λ (h : ℕ × Check). is_inverted h.1) same
      | inr differ ↦
          ap (λ (c : Condition). c.inverted) (cond_there found (other_valve k found differ numbered_k))
          ∙ is.inverted k found other (omega arith) at_k numbered_k
    ];
    others = λ n none. cond_there n (λ e. none place (numbered ∙ ap Some (sym e))) ∙ is.others n none;
  }

pub one_more_as : (list : List (ℕ × Check)) (numbers : List ℕ) → StandApart numbers
    → (place valve : ℕ) (held : ℕ × Check) (before after : Net)
    (need : ℕ) (inverted : Bool) → need ≡ check_need held.1 → inverted ≡ is_inverted held.1
    → slice_get list place ≡ Some held → slice_get numbers place ≡ Some valve
    → AreReshaped list numbers place before after
    → AreReshaped list numbers (place + 1) before (with_need valve need inverted after)
one_more_as list numbers apart place valve held before after need inverted its_need its_inverted at numbered is =
    subst (λ (n : ℕ). AreReshaped list numbers (place + 1) before (with_need valve n inverted after)) (sym its_need)
    (subst (λ (i : Bool). AreReshaped list numbers (place + 1) before (with_need valve (check_need held.1) i after)) (sym its_inverted)
    (one_more list numbers apart place valve held before after at numbered is))

-- ---- one check

-- both are of endpoints with one threshold, or both are calculated with the same children
abbrev pub IsOther : (was check : Check) → Type 0
IsOther (Endpoint threshold inverted disabled) (Endpoint other its_inverted its_disabled) = threshold ≡ other
IsOther (Endpoint threshold inverted disabled) (Calculated other its_inverted its_disabled children) = ⊥
IsOther (Calculated threshold inverted disabled children) (Endpoint other its_inverted its_disabled) = ⊥
IsOther (Calculated threshold inverted disabled children) (Calculated other its_inverted its_disabled its_children) = children ≡ its_children

kept_threshold : (was : Check) (threshold : ℕ) (inverted disabled : Bool) → HasThreshold (Some was) threshold
    → IsOther was (Endpoint threshold inverted disabled)
kept_threshold (Endpoint other its_inverted its_disabled) threshold inverted disabled same = same
kept_threshold (Calculated other its_inverted its_disabled children) threshold inverted disabled none = absurd none

pub was_endpoint : (old : Checks) (id : ℕ) (was check : Check) → id < old.next
    → check_with old.list id ≡ Some was → IsEndpoint (Some check) → IsLaterAt old id check → IsOther was check
was_endpoint old id was (Calculated threshold inverted disabled children) early at endpoint later = absurd endpoint
was_endpoint old id was (Endpoint threshold inverted disabled) early at endpoint (inl late) = absurd (omega arith)
was_endpoint old id was (Endpoint threshold inverted disabled) early at endpoint (inr kept) =
    kept_threshold was threshold inverted disabled (subst (λ (o : Option Check). HasThreshold o threshold) at kept)

pub other_seen : (reports : List Report) (id : ℕ) (was check : Check) (its : Option Seen) → IsOther was check
    → IsSeen reports id was its → IsSeen reports id check its
other_seen reports id (Endpoint threshold inverted disabled) (Endpoint other its_inverted its_disabled) None same is = is
other_seen reports id (Endpoint threshold inverted disabled) (Endpoint other its_inverted its_disabled) (Some seen) same is =
    subst (λ (n : ℕ). HasSeen n (results_of reports id) seen) same is
other_seen reports id (Endpoint threshold inverted disabled) (Calculated other its_inverted its_disabled children) its none is = absurd none
other_seen reports id (Calculated threshold inverted disabled children) (Endpoint other its_inverted its_disabled) its none is = absurd none
other_seen reports id (Calculated threshold inverted disabled children) (Calculated other its_inverted its_disabled its_children) its same is = is

pub other_own : (passed : ℕ → ℕ) (was check : Check) → IsOther was check → check_own was passed ≡ check_own check passed
other_own passed (Endpoint threshold inverted disabled) (Endpoint other its_inverted its_disabled) same = ap passed same
other_own passed (Endpoint threshold inverted disabled) (Calculated other its_inverted its_disabled children) none = absurd none
other_own passed (Calculated threshold inverted disabled children) (Endpoint other its_inverted its_disabled) none = absurd none
other_own passed (Calculated threshold inverted disabled children) (Calculated other its_inverted its_disabled its_children) same = refl

pub children_kept : (was check : Check) → IsOther was check → children_of was ≡ children_of check
children_kept (Endpoint threshold inverted disabled) (Endpoint other its_inverted its_disabled) same = refl
children_kept (Endpoint threshold inverted disabled) (Calculated other its_inverted its_disabled children) none = absurd none
children_kept (Calculated threshold inverted disabled children) (Endpoint other its_inverted its_disabled) none = absurd none
children_kept (Calculated threshold inverted disabled children) (Calculated other its_inverted its_disabled its_children) same = same

-- a calculated check with these children is such a one
other_parent : (its : Check) (threshold : ℕ) (inverted disabled : Bool) (children : List ℕ) → IsParent its children
    → IsOther its (Calculated threshold inverted disabled children)
other_parent (Endpoint other its_inverted its_disabled) threshold inverted disabled children none = absurd none.0
other_parent (Calculated other its_inverted its_disabled its_children) threshold inverted disabled children is = is.1

-- where checks with the same kin follow of others, one that was there is such a one
pub was_other : (old new : Checks) → AreSoundChecks old → kin_of old.list ≡ kin_of new.list
    → (before place id : ℕ) (was check : Check) → slice_get old.list before ≡ Some (id, was)
    → slice_get new.list place ≡ Some (id, check) → IsLaterAt old id check → IsOther was check
was_other old new are same before place id was (Endpoint threshold inverted disabled) at at_new later =
    let below = of_all (λ (h : ℕ × Check). (1 ≤ h.0) × (h.0 < old.next)) old.list before (id, was) are.ids at in
    was_endpoint old id was (Endpoint threshold inverted disabled) below.1 (id_at old.list before id was are.rising at) tt later
was_other old new are same before place id was (Calculated threshold inverted disabled children) at at_new later =
    let found = same_children new.list old.list (sym same) place id (Calculated threshold inverted disabled children) tt at_new in
    let here = one_place old.list before found.0 id was found.1.0 are.rising at found.1.1.0 in
    let held : ◌≡◌ {A = ℕ × Check} (id, was) (id, found.1.0) = some_same (sym at ∙ ap (slice_get old.list) here ∙ found.1.1.0) in
    subst (λ (its : Check). IsOther its (Calculated threshold inverted disabled children)) (sym (ap (λ (h : ℕ × Check). h.1) held))
    (other_parent found.1.0 threshold inverted disabled children found.1.1.1)

abbrev condition : ℕ → Bool → List ℕ → Condition
condition need inverted feeders = record { need = need; inverted = inverted; feeders = feeders }

made : (c : Condition) (need : ℕ) (inverted : Bool) (feeders : List ℕ) → c.need ≡ need → c.inverted ≡ inverted
    → c.feeders ≡ feeders → c ≡ condition need inverted feeders
made c need inverted feeders a b d =
    ap (λ (n : ℕ). condition n c.inverted c.feeders) a
    ∙ ap (λ (i : Bool). condition need i c.feeders) b
    ∙ ap (condition need inverted) d

-- ---- the index

-- by two maps that agree on checks that are there, what feeds a valve is the same
pub feeders_as : (list : List (ℕ × Check)) (f g : ℕ → ℕ) (children : List ℕ) → AllByRecursion (IsId list) children
    → ((place id : ℕ) → slice_get (ids_of list) place ≡ Some id → f id ≡ g id) → map f children ≡ map g children
feeders_as list f g [] there same = refl
feeders_as list f g (id ∷ children) there same =
    let k = id_placed list id there.0 in
    both (same k.0 id k.1) (feeders_as list f g children there.1 same)
  where
    both : {i j : ℕ} {xs ys : List ℕ} → i ≡ j → xs ≡ ys → i ∷ xs ≡ j ∷ ys
    both e f = cc

module _ (zones : List Zone) (new : Checks) (reports : List Report) (index : Index)
    (f : IsFollowed zones new reports index) (are_new : AreSoundChecks new)
    (sound : IsSound (watched_of zones new)) (valves : Valves)
    (r : Reshapes new.list index.numbers (length new.list) f.net f.own index.valves valves)
    (idle : IsIdle valves) (space : Space) where
  -- valves behind those of checks keep their conditions
  others : (n : ℕ) → 200 ≤ n → r.now.condition n ≡ f.net.condition n
  others n past =
      r.reshaped.others n (λ place at. let early = f.numbers.early place n at in omega arith)

  valve_now : (place valve id : ℕ) (check : Check) → slice_get new.list place ≡ Some (id, check)
      → slice_get index.numbers place ≡ Some valve
      → IsCheckValve (ids_of new.list) index.numbers r.now f.own reports valve id check
  valve_now place valve id check at numbered =
      let within = slice_get_within new.list place (id, check) at in
      let early = f.numbers.early place valve numbered in
      let many = f.many in
      let size = r.reshaped.size in
      record {
        within = omega arith;
        condition = made (r.now.condition valve) (check_need check) (is_inverted check)
            (map (valve_with (ids_of new.list) index.numbers) (children_of check))
            (r.reshaped.need place valve (id, check) within at numbered) (r.reshaped.inverted place valve (id, check) within at numbered)
            (r.reshaped.feeders valve ∙ f.feeders place valve id check at numbered);
        its_own = f.owns place valve id check at numbered;
      }

  nodes_now : (valve : ℕ) → valve < r.now.size → IsSpare index.numbers valve ⊎ (IsVacant r.now valve
      ⊎ ((node : Node) × IsValveFor zones new.list index.numbers index.seats r.now f.own valve node))
  nodes_now valve within = elim (cases_lt valve 200) [
    | inl early ↦ elim (number_or_none index.numbers valve) [
      | inl at ↦
          let many = f.numbers.as_many in
          let among = slice_get_within index.numbers at.0 valve at.1 in
          let held = filled new.list at.0 (omega arith) in
          inr (inr (CheckNode held.0.0, (at.0, (held.0.1, (held.1, at.1)))))
      | inr none ↦ inl (early, none)
    ]
    | inr behind ↦
        inr (node_now zones new.list new.list index.numbers index.numbers index.seats f.net r.now f.own f.own r.reshaped.size others (λ n late. refl)
        f.sets (λ zone p id here is. refl) f.numbers.early f.nodes valve behind within)
  ]

  pub finished : StandsFor zones new reports (record index { valves = valves; space = space })
  finished = record {
    are_zones = f.are_zones;
    slots = f.slots;
    are_checks = are_new;
    sound = sound;
    are_reports = f.are_reports;
    ids = f.ids;
    numbers = f.numbers;
    seen = f.seen;
    as_many = f.as_many;
    kin = f.kin;
    listed = f.listed;
    net = r.now;
    own = f.own;
    wired = record {
      its_checks = valve_now;
      its_sets = seated_now zones new.list new.list index.numbers index.numbers index.seats f.net r.now f.own f.own r.reshaped.size others (λ n late. refl)
          f.sets (λ zone p id here is. refl);
      its_nodes = nodes_now;
      spares = λ valve is. r.reshaped.others valve is.1 ∙ f.spares valve is;
      many = let size = r.reshaped.size in let many = f.many in omega arith;
      its_groups = λ slot valve is.
          let size = r.reshaped.size in
          let b = f.groups slot valve (let e = is in omega arith) in
          omega arith;
      its_members = λ slot valve is. f.members slot valve (let e = is in omega arith);
    };
    told = f.told;
    fits = r.fits;
    ends = ends_alike f.net r.now r.reshaped.feeders f.ends;
    meet = r.meet f.ends f.meet;
    idle = idle;
  }

-- what holds of every index still does
pub whole_reshaped : (index : Index) (w : IsIntact index) (list : List (ℕ × Check)) (many : ℕ) (valves : Valves)
    (space : Space) → Reshapes list index.numbers many w.net w.own index.valves valves → IsIdle valves
    → IsIntact (record index { valves = valves; space = space })
whole_reshaped index w list many valves space r idle =
    let size = r.reshaped.size in
    record {
      net = r.now;
      own = w.own;
      fits = r.fits;
      idle = idle;
      as_many = w.as_many;
      apart = w.apart;
      numbers = w.numbers;
      within = λ place valve at. let b = w.within place valve at in omega arith;
      seated = λ slot valve is. let b = w.seated slot valve is in omega arith;
      given = w.given;
      alone = λ place valve its is at. r.reshaped.feeders valve ∙ w.alone place valve its is at;
      spare = λ valve is. r.reshaped.feeders valve ∙ w.spare valve is;
    }

-- what holds of an index holds where its lists are these
module _ (index : Index) (w : IsIntact index) (valves : Valves) (space : Space)
    (ids ids_now numbers numbers_now : List ℕ) (seen seen_now : List (Option Seen))
    (same : ids_now ≡ ids) (same_numbers : numbers_now ≡ numbers) (same_too : seen_now ≡ seen) where
  abbrev with_lists : (ids numbers : List ℕ) → List (Option Seen) → Index
  with_lists these those saw =
      record index { ids = these; numbers = those; seen = saw; valves = valves; space = space }

  pub intact_with : IsIntact (with_lists ids numbers seen) → IsIntact (with_lists ids_now numbers_now seen_now)
  intact_with is =
      subst (λ (l : List ℕ). IsIntact (with_lists l numbers_now seen_now)) (sym same)
      (subst (λ (l : List ℕ). IsIntact (with_lists ids l seen_now)) (sym same_numbers)
      (subst (λ (l : List (Option Seen)). IsIntact (with_lists ids numbers l)) (sym same_too) is))

  pub followed_with : (zones : List Zone) (new : Checks) (reports : List Report)
      → IsFollowed zones new reports (with_lists ids numbers seen)
      → IsFollowed zones new reports (with_lists ids_now numbers_now seen_now)
  followed_with zones new reports is =
      subst (λ (l : List ℕ). IsFollowed zones new reports (with_lists l numbers_now seen_now)) (sym same)
      (subst (λ (l : List ℕ). IsFollowed zones new reports (with_lists ids l seen_now)) (sym same_numbers)
      (subst (λ (l : List (Option Seen)). IsFollowed zones new reports (with_lists ids numbers l)) (sym same_too) is))
