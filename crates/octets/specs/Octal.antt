-- An octet in three octal digits (the guide to Route 53, DNS domain name format).
use Rattle.std.specs.Prelude.{ℕ, ◌+◌, ◌-◌, ◌*◌, List, slice_index, Bool, ◌&&◌, nat_le}

abbrev pub is_octal_digit : ℕ → Bool
is_octal_digit b = nat_le 0x30 b && nat_le b 0x37

-- the number of the three octal digits at the front
abbrev pub octal_of : List ℕ → ℕ
octal_of rest =
    (slice_index rest 0 - 0x30) * 64 + (slice_index rest 1 - 0x30) * 8 + (slice_index rest 2 - 0x30)

-- three octal digits of value at most 255 stand at the front
abbrev pub has_octal : List ℕ → Bool
has_octal rest =
    is_octal_digit (slice_index rest 0) && is_octal_digit (slice_index rest 1)
    && is_octal_digit (slice_index rest 2)
    && nat_le (octal_of rest) 255
