-- Sets told by the octets of their keys.
use Rattle.std.specs.Prelude.{◌≡◌, ◌≢◌, ℕ, List, ◌++◌, drop, length, take, Option, None, Some}
use Rattle.std.specs.Prelude.{Result, Ok, Err}
use Rattle.std.specs.Borrow.{Bor}
use Rattle.std.specs.declared.cmp.Ordering.{Ordering}
use Rattle.std.specs.declared.cmp.Ordering.TheVariants.{Equal}
use Rattle.octets.specs.Numbers.{number_at}
use Rattle.set_search.specs.RTypeRecord.{RType}
use Rattle.set_search.specs.RecordSetRecord.{RecordSet}
use Rattle.set_scratch.specs.Heads.{key_octets, policy_front}
use Rattle.set_scratch.specs.Sets.{IsSet}
use Rattle.set_search.specs.Bounds.{group_cmp}

-- the octets begin with those that tell the key of a set
abbrev pub IsKeyFront : List ℕ → Type 0
IsKeyFront octets = (set : RecordSet) × (rest : List ℕ) × IsSet set × (octets ≡ key_octets set ++ rest)

-- The set is of this name and type, and its policy is told; or else which comes first.
abbrev pub IsPartedBy : RecordSet → (name : List (List ℕ)) → RType → (rest : List ℕ)
    → Result (Bor (List ℕ)) Ordering → Type 0
IsPartedBy set name rtype rest (Ok policy) =
    (group_cmp set name rtype ≡ Equal) × (policy.now ≡ policy_front set.routing ++ rest)
IsPartedBy set name rtype rest (Err order) = (group_cmp set name rtype ≡ order)
    × ((order ≡ Equal) → ⊥)

-- The octets begin with those that tell the key of this set.
abbrev pub BeginsWithKey : List ℕ → RecordSet → Type 0
BeginsWithKey octets set = (rest : List ℕ) × IsSet set × (octets ≡ key_octets set ++ rest)

-- The number in the two octets behind a piece, where the octets begin with that piece.
abbrev pub IsTypeBehind : (octets piece : List ℕ) → Option ℕ → Type 0
IsTypeBehind octets piece None = take (length piece) octets ≢ piece
IsTypeBehind octets piece (Some number) = (take (length piece) octets ≡ piece)
    × (number ≡ number_at (take 2 (drop (length piece) octets)) 0)
