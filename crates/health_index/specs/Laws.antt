-- What it is to stand for a configuration and reports.
use Rattle.std.specs.Prelude.{◌≡◌, ◌≤◌, ◌<◌, ◌↔◌, ◌⊎◌, ◌^◌, ℕ, false, true, List, None, Some, length}
use Rattle.check_model.specs.Checks.{Checks}
use Rattle.check_model.specs.Checks.{IsSound as AreSoundChecks}
use Rattle.check_model.specs.Commands.{checks_after}
use Rattle.check_model.specs.declared.checks.Check.{Check}
use Rattle.check_model.specs.declared.checks.CheckCommand.{CheckCommand}
use Rattle.check_model.specs.declared.checks.CheckCommand.TheVariants.{Create, Update, Delete}
use Rattle.health_model.specs.Nodes.{IsNode, Node}
use Rattle.health_model.specs.Statuses.{Report}
use Rattle.health_planning.specs.Zones.{AreZones, Zone, placed_in}
use Rattle.health_planning.specs.DeltaRecord.{Delta}
use Rattle.health_planning.specs.Edits.{Edits, IsAllowed}
use Rattle.health_planning.specs.Looking.{RefersTo}
use Rattle.health_planning.specs.SetRefRecord.{SetRef}
use Rattle.health_planning.specs.Tables.{HaveSlotsApart, HaveSlotsBelow}
use Rattle.health_planning.specs.ZoneEditRecord.{ZoneEdit}
use Rattle.record_set.specs.declared.sets.Body.TheVariants as body
use Rattle.record_set.specs.declared.sets.RecordSet.{RecordSet}
use Rattle.zone_model.specs.Slotted.{IsHere, Slotted}
use Rattle.health_model.specs.Sound.{IsSound}
use Rattle.health_planning.specs.Later.{AreLater}
use Rattle.health_planning.specs.Wired.{IsLedTo, group_seat, is_watched, seat_of, set_seat, watched_of}
use Rattle.health_index.specs.Following.{IsOpenTo, IsWay}
use Rattle.health_index.specs.declared.following.Way.{Way}
use Rattle.health_index.specs.declared.following.Way.TheVariants as way
use Rattle.health_index.specs.Index.{AreNumbered, Index, IsEndpoint, IsEndpointOf, IsLaidFor, StandsFor, Tells}
use Rattle.health_index.specs.Kin.{kin_of}
use Rattle.health_index.specs.Founding.{ComesFirst, ComesFirstOwned}
use Rattle.health_index.specs.Leading.{ComesToLead}
use Rattle.health_index.specs.Room.{HasRoom, HasRoomForAlias, HasRoomForFirst, IsLaidAnew}
use Rattle.health_index.specs.Regrouping.{HasCome, HasGone, JoinsGroup, LeavesGroup, TellNoOther}
use Rattle.health_index.specs.Unfounding.{LeavesLast}
use Rattle.health_index.specs.Unleading.{LeavesValve}
use Rattle.health_index.specs.Values.{AreValues, MeetsIn}

-- An index tells the health of that for which it stands.
abbrev pub IndexTells : Type 0
IndexTells = (zones : List Zone) (checks : Checks) (reports : List Report) (index : Index)
    → StandsFor zones checks reports index → Tells zones checks reports index

-- In an index that is laid out for something each number is that of one node alone, and each node that
-- is worked out has one.
abbrev pub NodesAreNumbered : Type 0
NodesAreNumbered = (zones : List Zone) (checks : Checks) (reports : List Report) (index : Index)
    → IsLaidFor zones checks reports index → AreNumbered zones checks index

-- What an index has of its nodes are their values by their numbers.
abbrev pub NodesHaveValues : Type 0
NodesHaveValues = (zones : List Zone) (checks : Checks) (reports : List Report) (index : Index)
    → IsLaidFor zones checks reports index → AreValues zones checks index

-- An index stands for a configuration and reports where it is laid out for them and by its values each
-- node meets its local equation.
abbrev pub StandsWhereAllMeet : Type 0
StandsWhereAllMeet = (zones : List Zone) (checks : Checks) (reports : List Report) (index : Index)
    → StandsFor zones checks reports index
    ↔ (IsLaidFor zones checks reports index
    × ((n : Node) → IsNode (watched_of zones checks) n → MeetsIn zones checks reports index n))

-- A command on checks leaves what follows of them.
abbrev pub ChecksAreLater : Type 0
ChecksAreLater =
    (checks : Checks) (command : CheckCommand) → AreLater checks (checks_after checks command)

-- Where checks with the same kin follow of those for which an index stands, they can in place, by each way in
-- which they do.
abbrev pub ChecksCanFollow : Type 0
ChecksCanFollow = (zones : List Zone) (old new : Checks) (reports : List Report) (index : Index)
    → StandsFor zones old reports index → AreSoundChecks new → kin_of new.list ≡ kin_of old.list
    → (its : Way) → (its ≡ way.Other → ⊥) → IsWay index.ids new.list its
    → (index.kin ≡ kin_of new.list) × IsOpenTo its new.list index

-- The command is on the check of an endpoint, or leaves a calculated one its children.
abbrev pub KeepsChildren : Checks → CheckCommand → Type 0
KeepsChildren checks (Create check) = IsEndpoint (Some check)
KeepsChildren checks (Update id inverted disabled threshold children) =
    IsEndpointOf checks id ⊎ (children ≡ None)
KeepsChildren checks (Delete id) = IsEndpointOf checks id

-- An index can follow such checks in place, by one of the ways.
abbrev pub CanFollow : List (ℕ × Check) → Index → Type 0
CanFollow list index = (index.kin ≡ kin_of list)
    × ((its : Way) × (IsWay index.ids list its × IsOpenTo its list index))

-- An index that stands for checks can follow each such command on them.
abbrev pub CommandsCanFollow : Type 0
CommandsCanFollow = (zones : List Zone) (checks : Checks) (reports : List Report) (index : Index)
    (command : CheckCommand) → StandsFor zones checks reports index
    → AreSoundChecks (checks_after checks command) → KeepsChildren checks command
    → CanFollow (checks_after checks command).list index

-- Where one set went by an edit, from the target group of an evaluated alias, and nothing decided it, its seat
-- tells all that is wanted to count one set fewer there.
abbrev pub SetsCanLeave : Type 0
SetsCanLeave = (before after : List Zone) (checks : Checks) (reports : List Report) (index : Index)
    (made : ZoneEdit) (delta : Delta) (ref : SetRef) (p : Slotted)
    → StandsFor before checks reports index → AreZones after → IsAllowed before made
    → Edits before made after delta → HasGone delta ref → IsHere (placed_in before ref.zone) p
    → p.slot ≡ ref.slot → is_watched p.set ≡ false → IsLedTo before ref.zone p.set.name p.set.rtype
    → (valve : ℕ) × LeavesGroup after index.seats index.valves ref valve

-- Where one set came into such a group, and nothing decides it, a seat of that group tells where it is to be
-- counted. Zones have at most 2^29 slots where an index has room for them.
abbrev pub SetsCanJoin : Type 0
SetsCanJoin = (before after : List Zone) (checks : Checks) (reports : List Report) (index : Index)
    (made : ZoneEdit) (delta : Delta) (ref : SetRef) (set : RecordSet)
    → StandsFor before checks reports index → AreZones after → HaveSlotsApart after
    → IsAllowed before made → Edits before made after delta → HaveSlotsBelow before (2 ^ 29) → HasCome delta ref
    → RefersTo after ref set → is_watched set ≡ false → IsLedTo before ref.zone set.name set.rtype
    → (valve : ℕ) × (JoinsGroup after index.seats index.valves ref valve
    × TellNoOther after index.seats ref.zone set.name set.rtype valve)

-- Where an evaluated alias went by an edit, of a group to which none led, and another one leads where it led, its
-- seat and the valves tell all that is wanted to leave its valve without a node.
abbrev pub AliasesCanLeave : Type 0
AliasesCanLeave = (before after : List Zone) (checks : Checks) (reports : List Report) (index : Index)
    (made : ZoneEdit) (delta : Delta) (ref : SetRef) (p : Slotted) (name : List (List ℕ))
    → StandsFor before checks reports index → AreZones after → IsAllowed before made
    → Edits before made after delta → HasGone delta ref → IsHere (placed_in before ref.zone) p
    → p.slot ≡ ref.slot → p.set.body ≡ body.Alias name true
    → (IsLedTo before ref.zone p.set.name p.set.rtype → ⊥) → IsLedTo after ref.zone name p.set.rtype
    → (valve : ℕ) × LeavesValve after index.seats index.valves ref valve

-- Where none leads any more where such an alias led that went, its seat and the valves tell all that is wanted to leave
-- its valve without a node, and that of its target group.
abbrev pub LastCanLeave : Type 0
LastCanLeave = (before after : List Zone) (checks : Checks) (reports : List Report) (index : Index)
    (made : ZoneEdit) (delta : Delta) (ref : SetRef) (p : Slotted) (name : List (List ℕ))
    → StandsFor before checks reports index → AreZones after → IsAllowed before made
    → Edits before made after delta → HasGone delta ref → IsHere (placed_in before ref.zone) p
    → p.slot ≡ ref.slot → p.set.body ≡ body.Alias name true
    → (IsLedTo before ref.zone p.set.name p.set.rtype → ⊥) → (IsLedTo after ref.zone name p.set.rtype → ⊥)
    → (valve : ℕ) × ((group : ℕ) × LeavesLast after index.seats index.valves ref valve group)

-- Where an evaluated alias came by an edit, of a group to which none leads, and another one leads where it leads,
-- seats tell all that is wanted to give it a valve. The check that it names, if it names one, is there.
abbrev pub AliasesCanCome : Type 0
AliasesCanCome = (before after : List Zone) (checks : Checks) (reports : List Report) (index : Index)
    (made : ZoneEdit) (delta : Delta) (ref : SetRef) (set : RecordSet) (name : List (List ℕ))
    → StandsFor before checks reports index → AreZones after → HaveSlotsApart after
    → IsSound (watched_of after checks) → IsAllowed before made → Edits before made after delta
    → HasCome delta ref → RefersTo after ref set → set.body ≡ body.Alias name true
    → (IsLedTo before ref.zone set.name set.rtype → ⊥) → IsLedTo before ref.zone name set.rtype
    → (feeders : List ℕ) × ComesToLead after index.ids index.numbers index.seats index.valves ref feeders

-- Where such an alias came, and none leads where it leads, and nothing decides any set of its target group, seats tell
-- all that is wanted to give both a valve.
abbrev pub FirstCanCome : Type 0
FirstCanCome = (before after : List Zone) (checks : Checks) (reports : List Report) (index : Index)
    (made : ZoneEdit) (delta : Delta) (ref : SetRef) (set : RecordSet) (name : List (List ℕ))
    → StandsFor before checks reports index → AreZones after → HaveSlotsApart after
    → IsSound (watched_of after checks) → IsAllowed before made → Edits before made after delta
    → HasCome delta ref → RefersTo after ref set → set.body ≡ body.Alias name true
    → (IsLedTo before ref.zone set.name set.rtype → ⊥) → (IsLedTo before ref.zone name set.rtype → ⊥)
    → ((p : Slotted) → IsHere (placed_in after ref.zone) p → name ≡ p.set.name → set.rtype ≡ p.set.rtype
    → is_watched p.set ≡ false)
    → (members : List Slotted) × ((feeders : List ℕ)
    × ComesFirst after index.ids index.numbers index.seats index.valves ref members feeders)

-- The same, where each set of the target group has a valve of its own, or nothing decides it: so it is after the last alias
-- went that led to the group, and where the group is one of evaluated aliases.
abbrev pub FirstOwnedCanCome : Type 0
FirstOwnedCanCome = (before after : List Zone) (checks : Checks) (reports : List Report) (index : Index)
    (made : ZoneEdit) (delta : Delta) (ref : SetRef) (set : RecordSet) (name : List (List ℕ))
    → StandsFor before checks reports index → AreZones after → HaveSlotsApart after
    → IsSound (watched_of after checks) → IsAllowed before made → Edits before made after delta
    → HasCome delta ref → RefersTo after ref set → set.body ≡ body.Alias name true
    → (IsLedTo before ref.zone set.name set.rtype → ⊥) → (IsLedTo before ref.zone name set.rtype → ⊥)
    → ((p : Slotted) → IsHere (placed_in after ref.zone) p → name ≡ p.set.name → set.rtype ≡ p.set.rtype
    → set_seat index.seats p.slot ≡ seat_of index.seats p.slot)
    → (members : List Slotted) × ((feeders : List ℕ)
    × ComesFirstOwned after index.ids index.numbers index.seats index.valves ref members feeders)

-- There is room for one set more to be noted or listed, and for a valve of its own; and for one of its target group and
-- so many sets of that.
pub record HasRoomForMore (index : Index) (slots : ℕ) : Type 0 where
  pub noted : length index.members < index.space.members
  pub alias : HasRoomForAlias index slots
  pub first : (sets : ℕ) → sets ≤ slots → HasRoomForFirst index sets slots

-- Where all was laid out at once for zones, an index with room over so many slots, as these have too, has that for a set
-- that comes into a slot whose seat tells nothing.
abbrev pub AliasesHaveRoom : Type 0
AliasesHaveRoom = (before : List Zone) (index : Index) (slots : ℕ) (ref : SetRef)
    → IsLaidAnew before index → HaveSlotsBelow before slots → HasRoom index slots → ref.slot < slots
    → set_seat index.seats ref.slot ≡ 0 → group_seat index.seats ref.slot ≡ 0
    → HasRoomForMore index slots
