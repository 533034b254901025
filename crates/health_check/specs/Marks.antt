-- Marks of checks, one for each, in the order in which the checks stand.
use Rattle.std.specs.Prelude.{ℕ, Bool, false, if◌then◌else◌, nat_eq, List, [], ◌∷◌, map, None, Some}
use Rattle.check_model.specs.declared.checks.Check.{Check}
use Rattle.check_model.specs.Checks.{check_with}
use Rattle.check_model.specs.Commands.{Given, is_calculated_there, starts_walk, updated_at}

-- whether the check of a number is calculated
abbrev pub is_calculated_in : List (ℕ × Check) → (id : ℕ) → Bool
is_calculated_in list id = is_calculated_there (check_with list id)

-- the mark of the check of a number; none where it isn't there
abbrev pub marked : (list : List (ℕ × Check)) → (marks : List Bool) → (id : ℕ) → Bool
marked [] marks id = false
marked (held ∷ list) [] id = false
marked (held ∷ list) (mark ∷ marks) id = if nat_eq id held.0 then mark else marked list marks id

-- children are given, and nothing else
abbrev pub children_given : List ℕ → Given
children_given children =
    record { inverted = None; disabled = None; threshold = None; children = Some children }

-- the checks, where the one of a number has these children
abbrev pub with_children : (id : ℕ) → (children : List ℕ) → List (ℕ × Check) → List (ℕ × Check)
with_children id children list = map (updated_at id (children_given children)) list

-- The check is marked where a walk of so many steps starts at it, among the checks after a command.
abbrev pub marks_of : (steps : ℕ) → (after list : List (ℕ × Check)) → List Bool
marks_of steps after list = map (λ (held : ℕ × Check). starts_walk steps after held.0) list
