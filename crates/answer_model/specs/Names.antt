-- Names at and below a name (RFC 1034, 3.1), and names that exist (RFC 4592, 2.2.2 and 3.3.1).
use Rattle.std.specs.Prelude.{ℕ, List, [], ◌∷◌, length, Bool, false, nat_le, ◌||◌, ◌&&◌}
use Rattle.std.specs.Prelude.{Option, None, Some, if◌then◌else◌}
use Rattle.std.specs.List.{list_any}
use Rattle.dns_name.specs.Labels.{wire}
use Rattle.dns_name.specs.Order.{same_labels}
use Rattle.dns_name.specs.Wildcard.{wildcard}
use Rattle.zone_model.specs.RecordSetRecord.{RecordSet}

-- the name is the other one, or its parent is at or below that
abbrev pub is_at_or_below : (name other : List (List ℕ)) → Bool
is_at_or_below [] other = same_labels [] other
is_at_or_below (label ∷ name) other =
    same_labels (label ∷ name) other || is_at_or_below name other

-- its parent is at or below the other one
abbrev pub is_below : (name other : List (List ℕ)) → Bool
is_below [] other = false
is_below (label ∷ name) other = is_at_or_below name other

-- A name exists where a set has it, or has a name below it: an empty non-terminal exists too.
abbrev pub exists : List RecordSet → (name : List (List ℕ)) → Bool
exists sets name = list_any (λ (set : RecordSet). is_at_or_below set.name name) sets

-- The closest encloser: the longest ancestor of a name that exists, or the root where none does.
abbrev pub closest : List RecordSet → (name : List (List ℕ)) → List (List ℕ)
closest sets [] = []
closest sets (label ∷ name) = if exists sets name then name else closest sets name

-- a name has at most 255 octets (RFC 1035, 2.3.4)
abbrev pub fits : (name : List (List ℕ)) → Bool
fits name = nat_le (length (wire name)) 255

abbrev pub if_exists : List RecordSet → (name : List (List ℕ)) → Option (List (List ℕ))
if_exists sets name = if fits name && exists sets name then Some name else None

-- The name of which the sets are taken for a name: itself where it exists; else the source of
-- synthesis, which is `*` below the closest encloser, where that exists. There is none else.
abbrev pub source : List RecordSet → (name : List (List ℕ)) → Option (List (List ℕ))
source sets name =
    if exists sets name then Some name else if_exists sets (wildcard ∷ closest sets name)
