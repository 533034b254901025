-- Marks at the places of a list of sets.
use Rattle.std.specs.Prelude.{◌≡◌, ◌↔◌, ◌+◌, ◌≤◌, ◌<◌, ℕ, List, length, Bool, true, slice_get, Option, None}
use Rattle.std.specs.Prelude.{Some}
use Rattle.alias_tree.specs.declared.targets.Target.{Target}

-- there is a mark at place i
abbrev pub IsMarked : List Bool → (i : ℕ) → Type 0
IsMarked marks i = slice_get marks i ≡ Some true

-- one of the target group's places is marked
abbrev pub IsMarkedWithin : List Bool → Target → Type 0
IsMarkedWithin marks target =
    (i : ℕ) × (target.start ≤ i) × (i < target.start + target.count) × IsMarked marks i

-- Of the next marks there is one at each place whose target group has a mark.
pub record AreLedOn (targets : List Target) (marks next : List Bool) : Type 0 where
  pub one_each : length next ≡ length targets
  pub each : (i : ℕ) (target : Target) → slice_get targets i ≡ Some target
      → IsMarked next i ↔ IsMarkedWithin marks target

-- the first place that is marked; None where none is
abbrev pub IsFirstMark : List Bool → Option ℕ → Type 0
IsFirstMark marks None = (i : ℕ) → IsMarked marks i → ⊥
IsFirstMark marks (Some first) = IsMarked marks first × ((i : ℕ) → i < first → IsMarked marks i → ⊥)
