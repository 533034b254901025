-- The choice among the sets of a multivalue answer group (Route 53 Developer Guide, "Multivalue answer routing"). A set is
-- named by its place in the group, from 0 on.
use Rattle.std.specs.Prelude.{ℕ, ◌%◌, Bool, List, ◌++◌, length, take, drop, nat_le, if◌then◌else◌}
use Rattle.considered_sets.specs.Considered.{places}

-- a list in cyclic order from a place on
abbrev pub cyclic_from : (place : ℕ) → List ℕ → List ℕ
cyclic_from place xs = drop place xs ++ take place xs

-- The chosen sets: the considered ones where they are at most eight, else eight consecutive ones of them in cyclic order
-- from place `word mod count` on (own).
abbrev pub chosen : (healthy : List Bool) → (word : ℕ) → List ℕ
chosen healthy word =
    if nat_le (length (places healthy)) 8 then places healthy
    else take 8 (cyclic_from (word % length (places healthy)) (places healthy))
