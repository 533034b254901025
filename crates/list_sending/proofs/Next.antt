-- The next of the sets of a page.
use Rattle.std.proofs.Common.{◌≡◌, ℕ, zero, suc, ◌+◌, ◌<◌, ◌≤◌, List, [], ◌∷◌, ◌++◌, length, drop, take, Bool, true, Some, ap, ◌∙◌, arith, refl}
use Rattle.std.specs.Prelude.{slice_get}
use Rattle.set_sending.specs.PiecesOfListWriting.{set_pieces, sets_pieces}
use Rattle.record_set.specs.declared.sets.RecordSet.{RecordSet}
use Rattle.config_zones.proofs.MembersOfZoneList.{filled, left_at}

pub next_set : (later : Bool) (zone : ℕ) (sets : List RecordSet) (place : ℕ) (set : RecordSet)
    → slice_get sets place ≡ Some set
    → sets_pieces later zone (drop place sets)
    ≡ set_pieces later zone set ++ sets_pieces true zone (drop (place + 1) sets)
next_set later zone sets place set at =
    ap (sets_pieces later zone) (left_at sets place set at)

-- what stands in front of a place stands in the list
pub in_front : {X : Type 0} (xs : List X) (end i : ℕ) → i < end
    → slice_get (take end xs) i ≡ slice_get xs i
in_front xs zero i lt = absurd (omega (arith, lt))
in_front [] (suc end) i lt = refl
in_front (x ∷ xs) (suc end) zero lt = refl
in_front (x ∷ xs) (suc end) (suc i) lt = in_front xs end i (omega (arith, lt))

-- the set at a place in front of another one
pub set_at : (sets : List RecordSet) (end i : ℕ) → i < end → end ≤ length sets
    → (set : RecordSet) × (slice_get sets i ≡ Some set) × (slice_get (take end sets) i ≡ Some set)
set_at sets end i lt within =
    let x = filled sets i (omega (arith, lt, within)) in (x.0, x.1, in_front sets end i lt ∙ x.1)
