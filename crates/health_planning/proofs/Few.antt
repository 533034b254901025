-- There are no more valves and links than slots give room for.
use Rattle.std.proofs.Common.{◌≡◌, ◌≢◌, ◌<◌, ◌≤◌, ◌+◌, ◌-◌, ◌*◌, ℕ, zero, suc, Bool, true, false, List, [], ◌∷◌, ◌++◌, length, length-append, map, take, drop, arith, refl, ap, sym, ◌∙◌, inl, inr}
use Rattle.std.specs.Prelude.{◌==◌, Contains, cond, slice_index}
use Rattle.std.specs.List.{AllByRecursion}
use Rattle.std.proofs.lemmas.Bool.{cases_eq, cases_lt}
use Rattle.std.proofs.lemmas.List.{get_or_past, length-map}
use Rattle.std.proofs.lemmas.List.Elements.{Contains-append_cases}
use Rattle.check_model.specs.Checks.{IsBounded, children_of}
use Rattle.check_model.specs.declared.checks.Check.{Check}
use Rattle.check_model.specs.declared.checks.Check.TheVariants.{Endpoint, Calculated}
use Rattle.health_valves.proofs.Members.{in_head, in_tail}
use Rattle.health_valves.specs.Walk.{EachOnce}
use Rattle.health_valves.specs.declared.blueprint.Trigger.{Trigger}
use Rattle.health_valves.specs.declared.blueprint.Feeding.{Feeding}
use Rattle.health_model.proofs.Members.{first_or_rest, nothing_in}
use Rattle.policy_select.proofs.MembersOfZoneList.{filled, in_all}
use Rattle.policy_select.specs.Zones.{StandsAlone, Zone, placed_in}
use Rattle.policy_select.specs.SetRefRecord.{SetRef}
use Rattle.zone_model.specs.Slotted.{HaveOwnSlots, IsHere, Slotted}
use Rattle.zone_model.specs.Zones.{IsAmong}
use Rattle.health_planning.specs.Building.{AreGrouped, HaveOwnValves, check_links, links_to}
use Rattle.health_planning.specs.Rooms.{HaveValvesApart, children_among}
use Rattle.health_planning.specs.Wired.{valves_of, group_seat, own_part, plain_among, seat_of, valve_with, with_valve}
use Rattle.health_planning.specs.declared.seats.Seat.{Seat}
use Rattle.health_planning.proofs.Ending.{came_from, member_valve, no_more}
use Rattle.health_planning.proofs.Groups.{plain_few}

-- ---- no more than numbers below some number

abbrev upto : (n : ℕ) → List ℕ
upto zero = []
upto (suc n) = n ∷ upto n

upto_long : (n : ℕ) → length (upto n) ≡ n
upto_long zero = refl
upto_long (suc n) = ap suc (upto_long n)

in_upto : (n x : ℕ) → x < n → IsAmong (upto n) x
in_upto zero x below = absurd (omega arith)
in_upto (suc n) x below = elim (cases_eq x n) [
  | inl same ↦ inl (sym same)
  | inr apart ↦ inr (in_upto n x (omega arith))
]

upto_below : (n x : ℕ) → Contains (upto n) x → x < n
upto_below zero x m = absurd (nothing_in x m)
upto_below (suc n) x m = elim (first_or_rest n (upto n) x m) [
  | inl same ↦ omega arith
  | inr rest ↦ (let b = upto_below n x rest in omega arith)
]

upto_once : (n : ℕ) → EachOnce (upto n)
upto_once zero = tt
upto_once (suc n) = ((λ m. let b = upto_below n n m in omega arith), upto_once n)

-- numbers below one number that differ, each below another one
pub no_more_than : (R : ℕ → ℕ → Type 0) → ((a b x : ℕ) → R a x → R b x → a ≡ b) → (n m : ℕ)
    → ((a : ℕ) → a < n → (x : ℕ) × (R a x × (x < m))) → n ≤ m
no_more_than R own n m each =
    let few = no_more R own (upto n) (upto m) (upto_once n) (λ a at.
    let x = each a (upto_below n a at) in (x.0, (x.1.0, in_upto m x.0 x.1.1))) in
    let first = upto_long n in
    let last = upto_long m in
    omega arith

pub few_once : (n : ℕ) (walk : List ℕ) → EachOnce walk → ((x : ℕ) → Contains walk x → x < n)
    → length walk ≤ n
few_once n walk once below =
    let few = no_more (λ (a x : ℕ). a ≡ x) (λ a b x e f. e ∙ sym f) walk (upto n) once
    (λ a m. (a, (refl, in_upto n a (below a m)))) in
    let long = upto_long n in
    omega arith

pub once_both : (xs ys : List ℕ) → EachOnce xs → EachOnce ys
    → ((x : ℕ) → Contains ys x → Contains xs x → ⊥) → EachOnce (xs ++ ys)
once_both [] ys first last apart = last
once_both (x ∷ xs) ys first last apart = (
  (λ m. elim (Contains-append_cases xs ys x m) [
    | inl early ↦ first.0 early
    | inr late ↦ apart x late (in_head x xs)
  ]),
  once_both xs ys first.1 last (λ y late early. apart y late (in_tail x y xs early)),
)

-- ---- slots of sets and of groups

seat_within : (seats : List Seat) (slot valve : ℕ) → seat_of seats slot ≡ suc valve
    → slot < length seats
seat_within seats slot valve is = elim (cases_lt slot (length seats)) [
  | inl within ↦ within
  | inr past ↦
      let none = ap (λ (s : Seat). own_part s.set) (get_or_past seats slot (record { set = 0; group = 0; check = 0 }) past) in
      absurd (omega arith)
]

pub group_within : (seats : List Seat) (slot valve : ℕ) → group_seat seats slot ≡ suc valve
    → slot < length seats
group_within seats slot valve is = elim (cases_lt slot (length seats)) [
  | inl within ↦ within
  | inr past ↦
      let none = ap (λ (s : Seat). s.group) (get_or_past seats slot (record { set = 0; group = 0; check = 0 }) past) in
      absurd (omega arith)
]

pub few_listed : (zones : List Zone) (first : ℕ) (before : List Seat) (refs : List SetRef) (seats : List Seat)
    (triggers : List Trigger) → HaveOwnValves zones first before refs seats triggers
    → length refs ≤ length seats
few_listed zones first before refs seats triggers are =
    no_more_than (λ (k slot : ℕ). seat_of seats slot ≡ suc (first + k)) (λ a b slot e f. omega arith)
    (length refs) (length seats) (λ k early.
    let ref = filled refs k early in
    let g = are.valves k ref.0 ref.1 in
    (ref.0.slot, (g.seat, seat_within seats ref.0.slot (first + k) g.seat)))

-- no more valves than seats that tell them
pub few_valves : (from n : ℕ) (seats : List Seat)
    → ((valve : ℕ) → from ≤ valve → valve < n → (slot : ℕ) × (group_seat seats slot ≡ suc valve))
    → n ≤ from + length seats
few_valves from n seats all =
    let few = no_more_than (λ (k slot : ℕ). group_seat seats slot ≡ suc (from + k)) (λ a b slot e f. omega arith)
    (n - from) (length seats) (λ k early.
    let slot = all (from + k) (omega arith) (omega arith) in
    (slot.0, (slot.1, group_within seats slot.0 (from + k) slot.1))) in
    omega arith

pub few_grouped : (zones : List Zone) (from : ℕ) (seats : List Seat) (triggers : List Trigger)
    (links : List Feeding) → AreGrouped zones from seats triggers links
    → length triggers ≤ from + length seats
few_grouped zones from seats triggers links are = few_valves from (length triggers) seats are.all

-- ---- sets in slots of their own

own_drop : (n : ℕ) (placed : List Slotted) → HaveOwnSlots placed → HaveOwnSlots (drop n placed)
own_drop zero placed own = own
own_drop (suc n) [] own = tt
own_drop (suc n) (p ∷ placed) own = own_drop n placed own.1

all_take : (P : Slotted → Type 0) (n : ℕ) (placed : List Slotted) → AllByRecursion P placed
    → AllByRecursion P (take n placed)
all_take P zero placed all = tt
all_take P (suc n) [] all = tt
all_take P (suc n) (p ∷ placed) all = (all.0, all_take P n placed all.1)

own_take : (n : ℕ) (placed : List Slotted) → HaveOwnSlots placed → HaveOwnSlots (take n placed)
own_take zero placed own = tt
own_take (suc n) [] own = tt
own_take (suc n) (p ∷ placed) own =
    (all_take (λ q. p.slot ≢ q.slot) n placed own.0, own_take n placed own.1)

own_in : (zones : List Zone) → AllByRecursion StandsAlone zones → (id : ℕ)
    → HaveOwnSlots (placed_in zones id)
own_in [] each id = tt
own_in (zone ∷ zones) each id = by (zone.id == id) (own_in zones each.1 id)
  where
    by : (b : Bool) → HaveOwnSlots (placed_in zones id)
        → HaveOwnSlots (cond b zone.placed (placed_in zones id))
    by true rest = each.0.sets.own
    by false rest = rest

pub own_among : (zones : List Zone) (id start count : ℕ) → AllByRecursion StandsAlone zones
    → HaveOwnSlots (take count (drop start (placed_in zones id)))
own_among zones id start count each =
    own_take count (drop start (placed_in zones id)) (own_drop start (placed_in zones id) (own_in zones each id))

slots_once : (placed : List Slotted) → HaveOwnSlots placed
    → EachOnce (map (λ (p : Slotted). p.slot) placed)
slots_once [] own = tt
slots_once (p ∷ placed) own = (
  (λ m.
      let q = came_from (λ (r : Slotted). r.slot) placed p.slot m in
      in_all (λ r. p.slot ≢ r.slot) placed q.0 own.0 q.1 q.2),
  slots_once placed own.1,
)

-- no more sets than slots
pub few_placed : (placed : List Slotted) (n : ℕ) → HaveOwnSlots placed
    → ((p : Slotted) → IsHere placed p → p.slot < n) → length placed ≤ n
few_placed placed n own below =
    let few = few_once n (map (λ (p : Slotted). p.slot) placed) (slots_once placed own) (λ slot m.
    let p = came_from (λ (r : Slotted). r.slot) placed slot m in
    let b = below p.0 p.1 in
    let e = p.2 in
    omega arith) in
    let long = length-map placed (λ (p : Slotted). p.slot) in
    omega arith

pub few_plain : (seats : List Seat) (placed : List Slotted)
    → plain_among seats placed ≤ length placed
few_plain seats [] = omega arith
few_plain seats (p ∷ placed) =
    let one = plain_few (seat_of seats p.slot) in
    let rest = few_plain seats placed in
    omega arith

-- the valves of sets that differ do
pub valves_once : (seats : List Seat) → HaveValvesApart seats → (placed : List Slotted)
    → HaveOwnSlots placed → EachOnce (valves_of seats placed)
valves_once seats apart [] own = tt
valves_once seats apart (p ∷ placed) own =
    step (seat_of seats p.slot) refl (valves_once seats apart placed own.1)
  where
    step : (n : ℕ) → seat_of seats p.slot ≡ n → EachOnce (valves_of seats placed)
        → EachOnce (with_valve n (valves_of seats placed))
    step zero e once = once
    step (suc valve) e once = (
      (λ m.
          let q = member_valve seats placed valve m in
          in_all (λ r. p.slot ≢ r.slot) placed q.0 own.0 q.1 (apart p.slot q.0.slot valve e q.2)),
      once,
    )

-- a part of some sets has no more valves than all
pub valves_some : (seats : List Seat) (n : ℕ) (placed : List Slotted)
    → length (valves_of seats (take n placed)) ≤ length (valves_of seats placed)
valves_some seats zero placed = omega arith
valves_some seats (suc n) [] = omega arith
valves_some seats (suc n) (p ∷ placed) =
    step (seat_of seats p.slot) (valves_some seats n placed)
  where
    step : (m : ℕ) → length (valves_of seats (take n placed)) ≤ length (valves_of seats placed)
        → length (with_valve m (valves_of seats (take n placed)))
        ≤ length (with_valve m (valves_of seats placed))
    step zero few = few
    step (suc valve) few = omega arith

pub seat_few : (seat : ℕ) → length (with_valve seat []) ≤ 1
seat_few zero = omega arith
seat_few (suc valve) = omega arith

-- ---- children

few_children : (check : Check) → IsBounded check → length (children_of check) ≤ 255
few_children (Endpoint threshold inverted disabled) bounded = omega arith
few_children (Calculated threshold inverted disabled children) bounded =
    let b = bounded.1 in omega arith

pub children_few : (list : List (ℕ × Check))
    → AllByRecursion (λ (held : ℕ × Check). IsBounded held.1) list
    → children_among list ≤ length list * 255
children_few [] all = omega arith
children_few (held ∷ list) all =
    let first = few_children held.1 all.0 in
    let rest = children_few list all.1 in
    omega arith

pub links_long : (valve : ℕ) (feeders : List ℕ) → length (links_to valve feeders) ≡ length feeders
links_long valve feeders = length-map feeders (λ (x : ℕ). record { feeder = x; fed = valve })

pub check_links_long : (ids numbers : List ℕ) (place : ℕ) (list : List (ℕ × Check))
    → length (check_links ids numbers place list) ≡ children_among list
check_links_long ids numbers place [] = refl
check_links_long ids numbers place (held ∷ list) =
    let both = length-append (links_to (slice_index numbers place) (map (valve_with ids numbers) (children_of held.1))) (check_links ids numbers (suc place) list) in
    let links = links_long (slice_index numbers place) (map (valve_with ids numbers) (children_of held.1)) in
    let children = length-map (children_of held.1) (valve_with ids numbers) in
    let rest = check_links_long ids numbers (suc place) list in
    omega arith
