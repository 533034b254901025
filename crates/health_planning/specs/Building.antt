-- How the valves of a configuration are planned.
use Rattle.std.specs.Prelude.{◌≡◌, ◌≢◌, ◌≤◌, ◌<◌, ◌+◌, ◌^◌, ℕ, suc, Bool, true, false, if◌then◌else◌, is_some, List, [], ◌∷◌, ◌++◌, length, map, Option, None, Some, slice_get, slice_index, Contains, ◌⊎◌}
use Rattle.std.specs.List.{AllByRecursion}
use Rattle.std.specs.Option.{option_to_list}
use Rattle.check_model.specs.Checks.{children_of}
use Rattle.check_model.specs.declared.checks.Check.{Check}
use Rattle.check_model.specs.declared.checks.Check.TheVariants.{Endpoint, Calculated}
use Rattle.checker_state.specs.Standing.{Seen}
use Rattle.checker_state.specs.Standing.{StandsFor as HasSeen}
use Rattle.health_valves.specs.Blueprint.{feeders_in}
use Rattle.health_valves.specs.declared.blueprint.Feeding.{Feeding}
use Rattle.health_valves.specs.declared.blueprint.Trigger.{Trigger}
use Rattle.health_model.specs.Statuses.{Report, passing, results_of}
use Rattle.rdata_layout.specs.declared.types.RType.{RType}
use Rattle.record_set.specs.declared.sets.Body.{Body}
use Rattle.record_set.specs.declared.sets.Body.TheVariants as body
use Rattle.record_set.specs.declared.sets.RecordSet.{RecordSet}
use Rattle.policy_select.specs.Telling.{evaluates}
use Rattle.policy_select.specs.Changes.{ref_in}
use Rattle.policy_select.specs.Zones.{Zone, placed_in}
use Rattle.policy_select.specs.SetRefRecord.{SetRef}
use Rattle.zone_model.specs.Slotted.{IsHere, Slotted}
use Rattle.policy_select.specs.Looking.{RefersTo}
use Rattle.health_planning.specs.Wired.{AreMembers, HasSlot, IsFirstIn, IsLedTo, IsSpare, TellGroup, check_need, check_own, check_seat, valves_of, group_seat, IsAlone, ids_of, is_inverted, is_watched, only_check, plain_among, seat_of, set_seat, valve_with, with_valve}
use Rattle.health_planning.specs.declared.seats.Seat.{Seat}

-- some valves feed one
abbrev pub links_to : (valve : ℕ) → (feeders : List ℕ) → List Feeding
links_to valve feeders = map (λ (x : ℕ). record { feeder = x; fed = valve }) feeders

-- each link is between valves below this number
abbrev pub AreWithin : List Feeding → (n : ℕ) → Type 0
AreWithin links n =
    AllByRecursion (λ (link : Feeding). (link.feeder < n) × (link.fed < n)) links

-- ---- checks

-- what opens the valve of a check, and how many of its checkers pass
abbrev pub check_trigger : List Report → (id : ℕ) → Check → Trigger
check_trigger reports id check = record {
  need = check_need check;
  inverted = is_inverted check;
  own = check_own check (passing reports id);
}

-- a valve for a check that may come
abbrev pub spare_trigger : Trigger
spare_trigger = record { need = 0; inverted = false; own = 0 }

-- the valves of checks stand at their numbers
abbrev pub AreTriggered : List Report → List (ℕ × Check) → (numbers : List ℕ) → List Trigger
    → Type 0
AreTriggered reports list numbers triggers = (place valve id : ℕ) (check : Check)
    → slice_get list place ≡ Some (id, check) → slice_get numbers place ≡ Some valve
    → slice_get triggers valve ≡ Some (check_trigger reports id check)

-- few are counted at a valve from outside
abbrev pub IsSmallAt : List Trigger → (valve : ℕ) → Type 0
IsSmallAt triggers valve =
    (trigger : Trigger) × ((slice_get triggers valve ≡ Some trigger) × (trigger.own ≤ 255))

-- what the fifty checkers of a check saw; a calculated one has none
abbrev pub IsSeen : List Report → (id : ℕ) → Check → Option Seen → Type 0
IsSeen reports id (Endpoint threshold inverted disabled) None = ⊥
IsSeen reports id (Endpoint threshold inverted disabled) (Some seen) =
    HasSeen threshold (results_of reports id) seen
IsSeen reports id (Calculated threshold inverted disabled children) seen = seen ≡ None

-- what the checkers of each check saw
abbrev pub AreSeen : List Report → List (ℕ × Check) → List (Option Seen) → Type 0
AreSeen reports list seen = (place id : ℕ) (check : Check) (its : Option Seen)
    → slice_get list place ≡ Some (id, check) → slice_get seen place ≡ Some its
    → IsSeen reports id check its

-- those whose checkers are counted are of endpoints
abbrev pub AreOfEndpoints : List (ℕ × Check) → List (Option Seen) → Type 0
AreOfEndpoints list seen = (place : ℕ) (its : Seen) → slice_get seen place ≡ Some (Some its)
    → (id : ℕ) × ((check : Check) × ((slice_get list place ≡ Some (id, check))
    × (children_of check ≡ [])))

-- the links into the valves of checks, from one place on
abbrev pub check_links : (ids numbers : List ℕ) → (place : ℕ) → List (ℕ × Check) → List Feeding
check_links ids numbers place [] = []
check_links ids numbers place (held ∷ list) =
    links_to (slice_index numbers place) (map (valve_with ids numbers) (children_of held.1))
    ++ check_links ids numbers (suc place) list

-- each child stands among the numbers
abbrev pub AreThere : List ℕ → (children : List ℕ) → Type 0
AreThere ids children = (child : ℕ) → Contains children child
    → (place : ℕ) × (slice_get ids place ≡ Some child)

-- ---- sets

abbrev pub number : Bool → ℕ
number b = if b then 1 else 0

abbrev pub set_trigger : RecordSet → Trigger
set_trigger set = record {
  need = number (is_some set.check) + number (evaluates set.body);
  inverted = false;
  own = 0;
}

-- one of some references is to this slot
abbrev pub TellSlot : List SetRef → (slot : ℕ) → Type 0
TellSlot refs slot =
    (k : ℕ) × ((ref : SetRef) × ((slice_get refs k ≡ Some ref) × (ref.slot ≡ slot)))

-- what the seat in a slot tells of its set is as before
abbrev pub TellsOn : (before after : List Seat) → (slot : ℕ) → Type 0
TellsOn before after slot = (set_seat after slot ≡ set_seat before slot)
    × (check_seat after slot ≡ check_seat before slot)

-- the valve of a set that was listed
pub record HasSetValve (zones : List Zone) (seats : List Seat) (triggers : List Trigger) (ref : SetRef)
    (valve : ℕ) : Type 0 where
  pub named : RecordSet
  pub names : RefersTo zones ref named
  pub watched : is_watched named ≡ true
  pub seat : seat_of seats ref.slot ≡ suc valve
  pub told : check_seat seats ref.slot ≡ only_check named
  pub trigger : slice_get triggers valve ≡ Some (set_trigger named)

-- The listed sets have valves of their own, from one number on that is behind those of checks, and no other
-- slot has. What the seats of other sets told before they tell still.
pub record HaveOwnValves (zones : List Zone) (first : ℕ) (before : List Seat) (refs : List SetRef)
    (seats : List Seat) (triggers : List Trigger) : Type 0 where
  pub behind : 200 ≤ first
  pub size : length triggers ≡ first + length refs
  pub valves : (k : ℕ) (ref : SetRef) → slice_get refs k ≡ Some ref
      → HasSetValve zones seats triggers ref (first + k)
  pub only : (slot valve : ℕ) → seat_of seats slot ≡ suc valve
      → (k : ℕ) × ((ref : SetRef) × (valve ≡ first + k) × (slice_get refs k ≡ Some ref)
      × (ref.slot ≡ slot))
  pub others : (slot : ℕ) → TellSlot refs slot ⊎ TellsOn before seats slot
  pub no_group : (slot : ℕ) → group_seat seats slot ≡ 0

-- one of them is this one
abbrev pub IsListed : List SetRef → SetRef → Type 0
IsListed refs ref = (k : ℕ) × (slice_get refs k ≡ Some ref)

-- each evaluated alias is listed
abbrev pub AllListed : List Zone → List SetRef → Type 0
AllListed zones refs = (zone : ℕ) (p : Slotted) → IsHere (placed_in zones zone) p
    → evaluates p.set.body ≡ true → IsListed refs (ref_in zone p)

-- Where not all sets are asked whether they are evaluated aliases, these are among the ones that are: such
-- as are known, or came.
abbrev pub AreAsked : List Zone → (whole : Bool) → (known came : List SetRef) → Type 0
AreAsked zones whole known came = (zone : ℕ) (p : Slotted) → IsHere (placed_in zones zone) p
    → evaluates p.set.body ≡ true
    → (whole ≡ true) ⊎ (IsListed known (ref_in zone p) ⊎ IsListed came (ref_in zone p))

-- The sets of a group that something decides are listed.
abbrev pub TargetListed : List Zone → (zone : ℕ) → (name : List (List ℕ)) → RType → List SetRef → Type 0
TargetListed zones zone name rtype refs = (p : Slotted) → IsHere (placed_in zones zone) p
    → name ≡ p.set.name → rtype ≡ p.set.rtype → is_watched p.set ≡ true
    → IsListed refs (ref_in zone p)

-- So are those of the target groups of the first so many of some evaluated aliases.
abbrev pub TargetsListed : List Zone → (many : ℕ) → List SetRef → Type 0
TargetsListed zones many refs = (k : ℕ) (ref : SetRef) (named : RecordSet) (name : List (List ℕ))
    → k < many → slice_get refs k ≡ Some ref → RefersTo zones ref named
    → named.body ≡ body.Alias name true → TargetListed zones ref.zone name named.rtype refs

-- What the seat of a set tells where a check alone decides it, or nothing.
pub record TellsCheck (ids numbers : List ℕ) (seats : List Seat) (p : Slotted) : Type 0 where
  pub plain : is_watched p.set ≡ false → set_seat seats p.slot ≡ 0
  pub alone : (id : ℕ) → IsAlone p.set id → (check_seat seats p.slot ≡ id)
      × (set_seat seats p.slot ≡ suc (valve_with ids numbers id))

-- Each set is listed, or its seat tells that.
abbrev pub AllTell : List Zone → (ids numbers : List ℕ) → List SetRef → List Seat → Type 0
AllTell zones ids numbers refs seats = (zone : ℕ) (p : Slotted) → IsHere (placed_in zones zone) p
    → IsListed refs (ref_in zone p) ⊎ TellsCheck ids numbers seats p

-- ---- groups

abbrev pub group_trigger : (plains : ℕ) → Trigger
group_trigger plains = record { need = 1; inverted = false; own = plains }

-- The valve of the group that has a set in a slot: an evaluated alias leads to that group. No seat in
-- another slot tells it.
pub record HasGroupValve (zones : List Zone) (seats : List Seat) (triggers : List Trigger)
    (links : List Feeding) (slot valve : ℕ) : Type 0 where
  pub zone : ℕ
  pub name : List (List ℕ)
  pub rtype : RType
  pub members : List Slotted
  pub are : AreMembers zones zone name rtype members
  pub led : IsLedTo zones zone name rtype
  pub here : HasSlot members slot
  pub each : TellGroup seats members valve
  pub only : (other : ℕ) → group_seat seats other ≡ suc valve → HasSlot members other
  pub trigger : slice_get triggers valve ≡ Some (group_trigger (plain_among seats members))
  pub few : plain_among seats members ≤ 2 ^ 31
  pub fed : feeders_in links valve ≡ valves_of seats members

-- The groups with valves have valves of their own, from one number on, and these are all.
pub record AreGrouped (zones : List Zone) (from : ℕ) (seats : List Seat) (triggers : List Trigger)
    (links : List Feeding) : Type 0 where
  pub valves : (slot valve : ℕ) → group_seat seats slot ≡ suc valve
      → (from ≤ valve) × HasGroupValve zones seats triggers links slot valve
  pub all : (valve : ℕ) → from ≤ valve → valve < length triggers
      → (slot : ℕ) × (group_seat seats slot ≡ suc valve)

-- the valves of sets are below this number
abbrev pub AreBelow : List Seat → ℕ → Type 0
AreBelow seats n = (slot valve : ℕ) → seat_of seats slot ≡ suc valve → valve < n

-- What seats tell of sets is as before.
pub record SameSets (before after : List Seat) : Type 0 where
  pub valves : (slot : ℕ) → set_seat after slot ≡ set_seat before slot
  pub checks : (slot : ℕ) → check_seat after slot ≡ check_seat before slot

-- Some sets come to be seated at the valve of their group, given as one more; no other set is.
pub record AreSeated (members : List Slotted) (valve : ℕ) (before after : List Seat)
    : Type 0 where
  pub sets : SameSets before after
  pub size : length after ≡ length before
  pub each : (p : Slotted) → IsHere members p → group_seat after p.slot ≡ valve
  pub others : (slot : ℕ) → (HasSlot members slot → ⊥)
      → group_seat after slot ≡ group_seat before slot

-- the group of a target has a valve
pub record HasTarget (zones : List Zone) (seats : List Seat) (zone : ℕ) (name : List (List ℕ))
    (rtype : RType) : Type 0 where
  pub members : List Slotted
  pub are : AreMembers zones zone name rtype members
  pub slot : ℕ
  pub first : IsFirstIn members slot
  pub valve : ℕ
  pub seat : group_seat seats slot ≡ suc valve

-- the seat in a slot tells no valve but one of a check
abbrev pub IsFree : List Seat → (slot : ℕ) → Type 0
IsFree seats slot = (seat_of seats slot ≡ 0) × (group_seat seats slot ≡ 0)

-- One seat for each slot, and none tells a valve but one of a check.
pub record AreFree (slots : ℕ) (seats : List Seat) : Type 0 where
  pub size : length seats ≡ slots
  pub each : (slot : ℕ) → IsFree seats slot

-- A seat tells the valve of its set only in the slot of a listed set, and the valve of its group only
-- in that of a noted member.
pub record AreGiven (refs members : List SetRef) (seats : List Seat) : Type 0 where
  pub sets : (slot : ℕ) → seat_of seats slot ≢ 0 → TellSlot refs slot
  pub groups : (slot : ℕ) → group_seat seats slot ≢ 0 → TellSlot members slot

-- The members of groups with valves are noted, each of them once.
pub record AreNoted (members : List SetRef) (seats : List Seat) : Type 0 where
  pub all : (slot : ℕ) → group_seat seats slot ≢ 0 → TellSlot members slot
  pub each : (k : ℕ) (ref : SetRef) → slice_get members k ≡ Some ref
      → group_seat seats ref.slot ≢ 0
  pub once : (k n : ℕ) (one other : SetRef) → slice_get members k ≡ Some one
      → slice_get members n ≡ Some other → one.slot ≡ other.slot → k ≡ n

-- the seat in a slot tells nothing
abbrev pub IsBare : List Seat → (slot : ℕ) → Type 0
IsBare seats slot = (set_seat seats slot ≡ 0) × (group_seat seats slot ≡ 0)

-- all that the seat in a slot tells is as before
abbrev pub TellsAll : (before after : List Seat) → (slot : ℕ) → Type 0
TellsAll before after slot =
    TellsOn before after slot × (group_seat after slot ≡ group_seat before slot)

-- The seat in a slot tells of its set what it told; or nothing, where it told a valve of the set's own.
abbrev pub KeepsCheck : (before after : List Seat) → (slot : ℕ) → Type 0
KeepsCheck before after slot =
    TellsOn before after slot ⊎ ((seat_of before slot ≢ 0) × (set_seat after slot ≡ 0))

-- a set stands in the slot
abbrev pub HoldsSet : List Zone → (slot : ℕ) → Type 0
HoldsSet zones slot =
    (set : SetRef) × ((named : RecordSet) × (RefersTo zones set named × (set.slot ≡ slot)))

-- What the seat in a slot tells is as before; or a set stands there, and it tells no valve of its own.
abbrev pub SeatsCheck : List Zone → (before after : List Seat) → (slot : ℕ) → Type 0
SeatsCheck zones before after slot =
    TellsOn before after slot ⊎ (HoldsSet zones slot × (seat_of after slot ≡ 0))

-- Seats by which the valves of sets and groups can be planned anew. The sets that are told as known or come
-- are seated by the checks that alone decide them; so are all sets, where all are asked. Each other
-- seat that told the check which alone decides its set tells it still, and one that tells something is that
-- of a set, or tells what it told where none went.
pub record AreSeatedAnew (zones : List Zone) (ids numbers : List ℕ) (whole : Bool)
    (known gone came : List SetRef) (before after : List Seat) : Type 0 where
  pub all : whole ≡ true → (zone : ℕ) (p : Slotted) → IsHere (placed_in zones zone) p
      → TellsCheck ids numbers after p
  pub told : (ref : SetRef) (p : Slotted)
      → IsListed known ref ⊎ (IsListed gone ref ⊎ IsListed came ref)
      → IsHere (placed_in zones ref.zone) p → p.slot ≡ ref.slot → TellsCheck ids numbers after p
  pub stays : whole ≡ false → (zone : ℕ) (p : Slotted) → IsHere (placed_in zones zone) p
      → seat_of before p.slot ≡ 0 → (TellSlot gone p.slot → ⊥) → TellsCheck ids numbers before p
      → TellsCheck ids numbers after p
  pub here : (slot : ℕ) → set_seat after slot ≢ 0 → HoldsSet zones slot
      ⊎ ((whole ≡ false) × ((TellSlot gone slot → ⊥) × TellsOn before after slot))

-- Sets that went and came are seated by the checks that alone decide them, where they are there, beside others
-- whose seats tell what they told. No valve of a set's own comes by it, and nothing changes of groups.
pub record AreSeatedBeside (zones : List Zone) (ids numbers : List ℕ) (gone came : List SetRef)
    (before after : List Seat) : Type 0 where
  pub told : (ref : SetRef) (p : Slotted) → IsListed gone ref ⊎ IsListed came ref
      → IsHere (placed_in zones ref.zone) p → p.slot ≡ ref.slot → TellsCheck ids numbers after p
  pub stays : (zone : ℕ) (p : Slotted) → IsHere (placed_in zones zone) p
      → (TellSlot gone p.slot → ⊥) → TellsCheck ids numbers before p → TellsCheck ids numbers after p
  pub here : (slot : ℕ) → set_seat after slot ≢ 0 → HoldsSet zones slot
      ⊎ ((TellSlot gone slot → ⊥) × TellsOn before after slot)
  pub others : (slot : ℕ)
      → (TellSlot gone slot ⊎ TellSlot came slot) ⊎ TellsOn before after slot
  pub free : (slot : ℕ) → seat_of before slot ≡ 0 → seat_of after slot ≡ 0
  pub groups : (slot : ℕ) → group_seat after slot ≡ group_seat before slot

-- the seat in a slot
pub record IsSeatAt (seats : List Seat) (slot : ℕ) (seat : Seat) : Type 0 where
  pub set : seat.set ≡ set_seat seats slot
  pub group : seat.group ≡ group_seat seats slot
  pub check : seat.check ≡ check_seat seats slot

-- ---- what feeds the valves of sets

-- the valve of the target group, where its health counts and it has one
abbrev pub HasTargetValve : List Zone → List Seat → (zone : ℕ) → RType → Body → (target : List ℕ)
    → Type 0
HasTargetValve zones seats zone rtype (body.Values ttl values) target = target ≡ []
HasTargetValve zones seats zone rtype (body.Alias name evaluate) target =
    ((evaluate ≡ false) × (target ≡ []))
    ⊎ ((evaluate ≡ true) × ((members : List Slotted) × ((slot : ℕ)
    × (AreMembers zones zone name rtype members × IsFirstIn members slot
    × (target ≡ with_valve (group_seat seats slot) [])))))

-- the valves of its check and of its target group feed that of a set
abbrev pub FeedsSet : List Zone → (ids numbers : List ℕ) → List Seat → (zone : ℕ) → RecordSet
    → (feeders : List ℕ) → Type 0
FeedsSet zones ids numbers seats zone set feeders = (target : List ℕ)
    × (HasTargetValve zones seats zone set.rtype set.body target
    × (feeders ≡ map (valve_with ids numbers) (option_to_list set.check) ++ target))

-- links for that came to others
abbrev pub JoinsSet : List Zone → (ids numbers : List ℕ) → List Seat → (zone : ℕ) → RecordSet
    → (valve : ℕ) → (before after : List Feeding) → Type 0
JoinsSet zones ids numbers seats zone set valve before after = (feeders : List ℕ)
    × (FeedsSet zones ids numbers seats zone set feeders × (after ≡ before ++ links_to valve feeders))

-- ---- a blueprint that is done

-- The valves of all checks and spare ones, 200 in all, then of the listed sets, then of target groups, each
-- with what feeds it.
pub record IsBuilt (zones : List Zone) (list : List (ℕ × Check)) (numbers : List ℕ)
    (refs : List SetRef) (seats : List Seat) (triggers : List Trigger) (links : List Feeding)
    : Type 0 where
  pub children : (place valve id : ℕ) (check : Check) → slice_get list place ≡ Some (id, check)
      → slice_get numbers place ≡ Some valve
      → feeders_in links valve ≡ map (valve_with (ids_of list) numbers) (children_of check)
  pub spares : (valve : ℕ) → IsSpare numbers valve
      → slice_get triggers valve ≡ Some spare_trigger
  pub unfed : (valve : ℕ) → IsSpare numbers valve → feeders_in links valve ≡ []
  pub sets : (k : ℕ) (ref : SetRef) → slice_get refs k ≡ Some ref
      → HasSetValve zones seats triggers ref (200 + k)
  pub only : (slot valve : ℕ) → seat_of seats slot ≡ suc valve
      → (k : ℕ) × ((ref : SetRef) × (valve ≡ 200 + k) × (slice_get refs k ≡ Some ref)
      × (ref.slot ≡ slot))
  pub fed : (k : ℕ) (ref : SetRef) (named : RecordSet) → slice_get refs k ≡ Some ref
      → RefersTo zones ref named
      → FeedsSet zones (ids_of list) numbers seats ref.zone named (feeders_in links (200 + k))
  pub targets : (k : ℕ) (ref : SetRef) (named : RecordSet) (name : List (List ℕ))
      → slice_get refs k ≡ Some ref → RefersTo zones ref named → named.body ≡ body.Alias name true
      → HasTarget zones seats ref.zone name named.rtype
  pub members : TargetsListed zones (length refs) refs
  pub groups : AreGrouped zones (200 + length refs) seats triggers links
  pub within : AreWithin links (length triggers)
  pub size : 200 + length refs ≤ length triggers
