-- The written texts of names: one text for each name (RFC 1035, 5.1; three octal digits as in the
-- guide to Route 53, DNS domain name format).
use Rattle.std.specs.Prelude.{ℕ, ◌+◌, ◌/◌, ◌%◌, List, [], ◌∷◌, ◌++◌, Bool, ◌&&◌, ◌||◌, ◌==◌}
use Rattle.std.specs.Prelude.{nat_le, if◌then◌else◌}
use Rattle.std.specs.List.{flat_map}
use Rattle.dns_name.specs.Text.{dot, backslash, root_text}

-- a to z, 0 to 9, `-` and `_`
abbrev pub is_plain : ℕ → Bool
is_plain b = (nat_le 0x61 b && nat_le b 0x7A) || (nat_le 0x30 b && nat_le b 0x39) || b == 0x2D
    || b == 0x5F

-- an octet: as it is where it is plain, else a backslash and three octal digits
abbrev pub text_of_octet : ℕ → List ℕ
text_of_octet b =
    if is_plain b then b ∷ []
    else backslash ∷ (0x30 + b / 64) ∷ (0x30 + b / 8 % 8) ∷ (0x30 + b % 8) ∷ []

-- a label and the dot behind it
abbrev pub text_of_label : List ℕ → List ℕ
text_of_label label = flat_map text_of_octet label ++ dot ∷ []

-- a name: its labels; the root is a dot alone
abbrev pub text_of : List (List ℕ) → List ℕ
text_of [] = root_text
text_of (label ∷ labels) = flat_map text_of_label (label ∷ labels)
