-- The name at the front of octets, in lower case and without pointers (RFC 1035, 2.3.4 and 3.1).
use Rattle.std.specs.Prelude.{ℕ, zero, suc, ◌+◌, ◌-◌, List, [], ◌∷◌, length, drop, Bool, ◌&&◌}
use Rattle.std.specs.Prelude.{not, nat_le, nat_lt, Result, Ok, Err, if◌then◌else◌}
use Rattle.rdata_layout.specs.Stored.{labels_of}
use Rattle.octet_reading.specs.declared.names.NameRead.{NameRead}
use Rattle.octet_reading.specs.declared.names.NameRead.TheVariants.{Whole, Short, Broken}

-- an octet that is no capital letter
abbrev pub is_lower : ℕ → Bool
is_lower b = not (nat_le 0x41 b && nat_le b 0x5A)

-- What octets are for a name, where `need` octets of a label are still to come, and the name may
-- have `room` more behind them. A label has 1 to 63 octets; behind each there is room for one
-- octet more, the length 0 of the root's label.
abbrev pub name_read_from : (room need : ℕ) → List ℕ → NameRead
name_read_from room need [] = Short
name_read_from room zero (zero ∷ octets) = Whole (length octets)
name_read_from room zero (suc n ∷ octets) =
    if nat_lt n 63 && nat_le (n + 3) room then name_read_from (room - (n + 2)) (suc n) octets
    else Broken
name_read_from room (suc need) (b ∷ octets) = if is_lower b then name_read_from room need octets else Broken

-- a name has 255 octets or less
abbrev pub name_read : List ℕ → NameRead
name_read octets = name_read_from 255 0 octets

-- A name is one field. Where its octets end, but could go on to a name, octets are missing.
abbrev pub named : List ℕ → NameRead → Result (List (List ℕ) × List ℕ) ℕ
named octets (Whole left) = Ok (labels_of octets, drop (length octets - left) octets)
named octets Short = Err 0
named octets Broken = Err (length octets)

unfoldable pub name_at : List ℕ → Result (List (List ℕ) × List ℕ) ℕ
name_at octets = named octets (name_read octets)
