-- Laws over the definitions of this crate.
use Rattle.std.specs.Prelude.{◌≡◌, ℕ, List, Option}
use Rattle.record_set.specs.declared.sets.RecordSet.{RecordSet}
use Rattle.record_set.specs.declared.reasons.Reason.{Reason}
use Rattle.record_set.specs.Reasons.{IsFirst}
use Rattle.record_set.specs.Sameness.{Same}

-- A set has one first reason, or none.
abbrev pub OneFirstReason : Type 0
OneFirstReason =
    (set : RecordSet) (apex : List (List ℕ)) (reason other : Option Reason) → IsFirst reason set apex
    → IsFirst other set apex → reason ≡ other

-- Equal sets are equal both ways.
abbrev pub SameBothWays : Type 0
SameBothWays = (set other : RecordSet) → Same set other → Same other set
