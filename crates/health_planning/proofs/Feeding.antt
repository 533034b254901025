-- What feeds the valves of checks and of sets.
use Rattle.std.proofs.Common.{◌≡◌, ◌≢◌, ◌<◌, ◌≤◌, ◌+◌, ℕ, zero, suc, List, [], ◌∷◌, ◌++◌, append-nil, length, map, arith, refl, ap, ◌∙◌, inl, inr, Some, None, Option}
use Rattle.std.specs.Prelude.{slice_get, slice_index}
use Rattle.std.specs.List.{AllByRecursion}
use Rattle.std.specs.Option.{option_to_list}
use Rattle.std.proofs.lemmas.Option.{slice_get_within}
use Rattle.check_model.proofs.Members.{further}
use Rattle.check_model.specs.Checks.{children_of}
use Rattle.check_model.specs.declared.checks.Check.{Check}
use Rattle.health_valves.specs.Blueprint.{feeders_in}
use Rattle.health_valves.specs.declared.blueprint.Feeding.{Feeding}
use Rattle.rdata_layout.specs.declared.types.RType.{RType}
use Rattle.record_set.specs.declared.sets.Body.{Body}
use Rattle.record_set.specs.declared.sets.Body.TheVariants as body
use Rattle.record_set.specs.declared.sets.RecordSet.{RecordSet}
use Rattle.policy_select.specs.Zones.{Zone}
use Rattle.health_planning.specs.Building.{AreThere, AreWithin, FeedsSet, HasTargetValve, check_links, links_to}
use Rattle.health_planning.specs.Wired.{HaveValves, StandApart, group_seat, valve_with, with_valve}
use Rattle.health_planning.specs.declared.seats.Seat.{Seat}
use Rattle.health_planning.proofs.Numbers.{index_apart, number_early, valve_early}
use Rattle.health_planning.proofs.Grouped.{feeders_beside, feeders_more, feeders_to, to_within, within_more}

both : {X : Type 0} {a b c d : List X} → a ≡ b → c ≡ d → a ++ c ≡ b ++ d
both e f = cc

-- ---- links that come behind others

pub fed_here : (links : List Feeding) (valve : ℕ) (feeders : List ℕ) → feeders_in links valve ≡ []
    → feeders_in (links ++ links_to valve feeders) valve ≡ feeders
fed_here links valve feeders none =
    feeders_more links (links_to valve feeders) valve ∙ both none (feeders_to valve feeders)

pub fed_beside : (links : List Feeding) (valve other : ℕ) (feeders : List ℕ) → valve ≢ other
    → feeders_in (links ++ links_to valve feeders) other ≡ feeders_in links other
fed_beside links valve other feeders apart =
    feeders_more links (links_to valve feeders) other
    ∙ ap (λ (l : List ℕ). feeders_in links other ++ l) (feeders_beside valve other feeders apart)
    ∙ append-nil (feeders_in links other)

-- ---- checks

module _ (ids numbers : List ℕ) where
  pub none_before : (from valve : ℕ) (list : List (ℕ × Check))
      → ((place : ℕ) → place < length list → slice_index numbers (from + place) ≢ valve)
      → feeders_in (check_links ids numbers from list) valve ≡ []
  none_before from valve [] none = refl
  none_before from valve (held ∷ list) none =
      feeders_more (links_to (slice_index numbers from) (map (valve_with ids numbers) (children_of held.1))) (check_links ids numbers (suc from) list) valve
      ∙ both (feeders_beside (slice_index numbers from) valve (map (valve_with ids numbers) (children_of held.1)) first)
      (none_before (suc from) valve list rest)
    where
      first : slice_index numbers from ≢ valve
      first e =
          let here : from + 0 ≡ from = omega arith in
          none 0 (omega arith) (ap (slice_index numbers) here ∙ e)

      rest : (place : ℕ) → place < length list → slice_index numbers (suc from + place) ≢ valve
      rest place early e =
          let later : from + suc place ≡ suc from + place = omega arith in
          none (suc place) (omega arith) (ap (slice_index numbers) later ∙ e)

  -- what feeds the valve of a check
  pub children_fed : StandApart numbers → (from place id : ℕ) (list : List (ℕ × Check)) (check : Check)
      → from + length list ≤ length numbers → slice_get list place ≡ Some (id, check)
      → feeders_in (check_links ids numbers from list) (slice_index numbers (from + place))
      ≡ map (valve_with ids numbers) (children_of check)
  children_fed apart from place id [] check many e = let no : ⊥ = cc in absurd no
  children_fed apart from zero id (held ∷ list) check many e =
      let here : from + 0 ≡ from = omega arith in
      let its : held.1 ≡ check = ap (λ (h : ℕ × Check). h.1) (some_same e) in
      ap (λ (n : ℕ). feeders_in (check_links ids numbers from (held ∷ list)) (slice_index numbers n)) here
      ∙ feeders_more (links_to (slice_index numbers from) (map (valve_with ids numbers) (children_of held.1))) (check_links ids numbers (suc from) list) (slice_index numbers from)
      ∙ both (feeders_to (slice_index numbers from) (map (valve_with ids numbers) (children_of held.1)))
      (none_before (suc from) (slice_index numbers from) list
      (λ p early. index_apart numbers apart (suc from + p) from (omega arith) (omega arith) (λ same. omega arith)))
      ∙ append-nil (map (valve_with ids numbers) (children_of held.1))
      ∙ ap (λ (c : Check). map (valve_with ids numbers) (children_of c)) its
    where
      some_same : {X : Type 0} {x y : X} → Some x ≡ Some y → x ≡ y
      some_same e = cc
  children_fed apart from (suc place) id (held ∷ list) check many e =
      let later : from + suc place ≡ suc from + place = omega arith in
      let within = slice_get_within list place (id, check) e in
      ap (λ (n : ℕ). feeders_in (check_links ids numbers from (held ∷ list)) (slice_index numbers n)) later
      ∙ feeders_more (links_to (slice_index numbers from) (map (valve_with ids numbers) (children_of held.1))) (check_links ids numbers (suc from) list) (slice_index numbers (suc from + place))
      ∙ both (feeders_beside (slice_index numbers from) (slice_index numbers (suc from + place)) (map (valve_with ids numbers) (children_of held.1))
      (index_apart numbers apart from (suc from + place) (omega arith) (omega arith) (λ same. omega arith)))
      (children_fed apart (suc from) place id list check (omega arith) e)

  module _ (valves : HaveValves (length ids) numbers) where
    all_placed : (n : ℕ) (children : List ℕ) → 200 ≤ n → AreThere ids children
        → AllByRecursion (λ x. x < n) (map (valve_with ids numbers) children)
    all_placed n [] few there = tt
    all_placed n (child ∷ children) few there =
        let at = there child (zero, omega arith, refl) in
        let b = valve_early ids numbers valves at.0 child at.1 in
        (omega arith, all_placed n children few (λ x m. there x (further child children x m)))

    pub check_within : (from n : ℕ) (list : List (ℕ × Check)) → 200 ≤ n
        → from + length list ≤ length ids
        → ((place id : ℕ) (check : Check) → slice_get list place ≡ Some (id, check)
        → AreThere ids (children_of check))
        → AreWithin (check_links ids numbers from list) n
    check_within from n [] few long there = tt
    check_within from n (held ∷ list) few long there =
        let early = number_early ids numbers valves from (omega arith) in
        within_more (links_to (slice_index numbers from) (map (valve_with ids numbers) (children_of held.1))) (check_links ids numbers (suc from) list) n
        (to_within (slice_index numbers from) n (map (valve_with ids numbers) (children_of held.1)) (omega arith)
        (all_placed n (children_of held.1) few (there 0 held.0 held.1 refl)))
        (check_within (suc from) n list few (omega arith) (λ place id check at. there (suc place) id check at))

-- ---- sets

all_more : (P : ℕ → Type 0) (xs ys : List ℕ) → AllByRecursion P xs → AllByRecursion P ys
    → AllByRecursion P (xs ++ ys)
all_more P [] ys a b = b
all_more P (x ∷ xs) ys a b = (a.0, all_more P xs ys a.1 b)

module _ (zones : List Zone) (ids numbers : List ℕ) (valves : HaveValves (length ids) numbers)
    (seats : List Seat) (n : ℕ) (few : 200 ≤ n)
    (groups : (slot valve : ℕ) → group_seat seats slot ≡ suc valve → valve < n) where
  seat_within : (slot seat : ℕ) → group_seat seats slot ≡ seat
      → AllByRecursion (λ x. x < n) (with_valve seat [])
  seat_within slot zero e = tt
  seat_within slot (suc valve) e = (groups slot valve e, tt)

  target_within : (zone : ℕ) (rtype : RType) (its : Body) (target : List ℕ)
      → HasTargetValve zones seats zone rtype its target → AllByRecursion (λ x. x < n) target
  target_within zone rtype (body.Values ttl values) target is = rw is tt
  target_within zone rtype (body.Alias name evaluate) target (inl (off, is)) = rw is tt
  target_within zone rtype (body.Alias name evaluate) target (inr (on, (members, (slot, (are, first, is))))) =
      rw is (seat_within slot (group_seat seats slot) refl)

  check_placed : (check : Option ℕ)
      → ((id : ℕ) → check ≡ Some id → (place : ℕ) × (slice_get ids place ≡ Some id))
      → AllByRecursion (λ x. x < n) (map (valve_with ids numbers) (option_to_list check))
  check_placed None there = tt
  check_placed (Some id) there =
      let at = there id refl in
      let b = valve_early ids numbers valves at.0 id at.1 in
      (omega arith, tt)

  -- what feeds the valve of a set is there
  pub set_within : (zone : ℕ) (set : RecordSet) (feeders : List ℕ)
      → FeedsSet zones ids numbers seats zone set feeders
      → ((id : ℕ) → set.check ≡ Some id → (place : ℕ) × (slice_get ids place ≡ Some id))
      → AllByRecursion (λ x. x < n) feeders
  set_within zone set feeders (target, (is_target, is)) there =
      rw is (all_more (λ x. x < n) (map (valve_with ids numbers) (option_to_list set.check)) target
      (check_placed set.check there) (target_within zone set.rtype set.body target is_target))
