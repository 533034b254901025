-- The address of a text, where it spells one (RFC 1035, 3.4.1; RFC 4291, 2.2).
use Rattle.std.specs.Prelude.{ℕ, ◌+◌, ◌-◌, List, [], ◌∷◌, ◌++◌, length, replicate, Bool, true, false, ◌&&◌, ◌==◌, nat_lt, nat_le, if◌then◌else◌, Option, None, Some, option_map}
use Rattle.std.specs.Char.{is_digit}
use Rattle.std.specs.Fmt.{decimal}
use Rattle.std.specs.List.{list_all}
use Rattle.std.specs.Net.Addr.{octets_of, segments_of}
use Rattle.std.specs.Str.{bytes_eq}
use Rattle.std.specs.Str.Parse.{digits_value}

-- `.` and `:`
abbrev pub dot : ℕ
dot = 0x2E

abbrev pub colon : ℕ
colon = 0x3A

-- the pieces of a text between the marks in it: the first one, and those behind
abbrev pub pieces : (mark : ℕ) → List ℕ → List ℕ × List (List ℕ)
pieces mark [] = ([], [])
pieces mark (b ∷ rest) =
    let later = pieces mark rest in
    if b == mark then ([], later.0 ∷ later.1) else (b ∷ later.0, later.1)

-- the first octets or segments and those behind them, where both are there
abbrev pub joined : Option (List ℕ) → Option (List ℕ) → Option (List ℕ)
joined None others = None
joined (Some first) None = None
joined (Some first) (Some others) = Some (first ++ others)

-- so many of them, no more and no fewer
abbrev pub just : ℕ → Option (List ℕ) → Option (List ℕ)
just count None = None
just count (Some found) = if length found == count then Some found else None

-- a number of 0 to 255 in decimal digits, without leading zeros: the text that is written of it
abbrev pub octet_of_text : List ℕ → Option (List ℕ)
octet_of_text piece =
    if nat_lt (digits_value 10 piece) 256 && bytes_eq piece (decimal (digits_value 10 piece))
    then Some (digits_value 10 piece ∷ []) else None

abbrev pub octets_of_pieces : (first : List ℕ) → List (List ℕ) → Option (List ℕ)
octets_of_pieces first [] = octet_of_text first
octets_of_pieces first (next ∷ rest) = joined (octet_of_text first) (octets_of_pieces next rest)

-- An IPv4 address: four such numbers with dots between them.
unfoldable pub ipv4_of : List ℕ → Option (List ℕ)
ipv4_of text = just 4 (octets_of_pieces (pieces dot text).0 (pieces dot text).1)

-- a group: 1 to 4 hexadecimal digits, in either case
abbrev pub group_of : List ℕ → Option (List ℕ)
group_of piece =
    if nat_lt 0 (length piece) && nat_le (length piece) 4 && list_all (λ b. is_digit b 16) piece
    then Some (digits_value 16 piece ∷ []) else None

-- two groups as an IPv4 address
abbrev pub dotted_groups : List ℕ → Option (List ℕ)
dotted_groups piece = option_map segments_of (ipv4_of piece)

-- the first of two readings that gives something
abbrev pub or_else : Option (List ℕ) → Option (List ℕ) → Option (List ℕ)
or_else None other = other
or_else (Some found) other = Some found

-- the last piece: a group, or an IPv4 address where one may stand
abbrev pub last_groups : (may_be_dotted : Bool) → List ℕ → Option (List ℕ)
last_groups true piece = or_else (group_of piece) (dotted_groups piece)
last_groups false piece = group_of piece

abbrev pub groups_of_pieces : (may_be_dotted : Bool) (first : List ℕ) → List (List ℕ)
    → Option (List ℕ)
groups_of_pieces may_be_dotted first [] = last_groups may_be_dotted first
groups_of_pieces may_be_dotted first (next ∷ rest) =
    joined (group_of first) (groups_of_pieces may_be_dotted next rest)

-- groups with colons between them, or nothing
abbrev pub groups_of : (may_be_dotted : Bool) → List ℕ → Option (List ℕ)
groups_of may_be_dotted [] = Some []
groups_of may_be_dotted (b ∷ text) =
    groups_of_pieces may_be_dotted (pieces colon (b ∷ text)).0 (pieces colon (b ∷ text)).1

-- a byte in front of what stands before a place and behind it
abbrev pub behind_byte : ℕ → Option (List ℕ × List ℕ) → Option (List ℕ × List ℕ)
behind_byte b None = None
behind_byte b (Some sides) = Some (b ∷ sides.0, sides.1)

-- what stands before the first `::` of a text and behind it
abbrev pub sides_of : List ℕ → Option (List ℕ × List ℕ)
sides_of [] = None
sides_of (b ∷ []) = None
sides_of (b ∷ c ∷ rest) =
    if b == colon && c == colon then Some ([], rest) else behind_byte b (sides_of (c ∷ rest))

-- the groups on both sides of `::`, which stands for the zero groups that are missing of eight,
-- one at least
abbrev pub filled : Option (List ℕ) → Option (List ℕ) → Option (List ℕ)
filled None tail = None
filled (Some head) None = None
filled (Some head) (Some tail) =
    if nat_lt (length head + length tail) 8
    then Some (head ++ replicate (8 - length head - length tail) 0 ++ tail) else None

-- the eight groups of a text without `::`, and of one with it
abbrev pub eight_groups : (text : List ℕ) → Option (List ℕ × List ℕ) → Option (List ℕ)
eight_groups text None = just 8 (groups_of true text)
eight_groups text (Some sides) = filled (groups_of false sides.0) (groups_of true sides.1)

-- An IPv6 address: eight groups with colons between them, or fewer with one `::` for the missing
-- ones. The last two may be an IPv4 address in dotted decimal.
unfoldable pub ipv6_of : List ℕ → Option (List ℕ)
ipv6_of text = option_map octets_of (eight_groups text (sides_of text))
