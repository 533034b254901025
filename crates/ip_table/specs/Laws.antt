-- What the definitions of a location come to.
use Rattle.std.specs.Prelude.{◌≡◌, ℕ, ◌≤◌, List, Option}
use Rattle.address_text.specs.declared.address.IpAddress.{IpAddress}
use Rattle.ip_table.specs.Bits.{SharesFirst}
use Rattle.ip_table.specs.Location.{IsFound, IsScope, Locates, length_of}
use Rattle.ip_table.specs.Prefixes.{Prefix, IsPrefix}
use Rattle.ip_table.specs.Rows.{AreRows}

-- Any two addresses that share the first bits of the one's scope find the same row, or both none.
abbrev pub ScopeReaches : Type 0 → Type 0
ScopeReaches V =
    (rows : List (Prefix × V)) (a b : IpAddress) (found : Option (Prefix × V)) (scope : ℕ)
    → IsFound rows a found → IsScope rows a found scope → SharesFirst scope a b
    → IsFound rows b found

-- No smaller length has this that is at least the row's.
abbrev pub NoShorterReaches : Type 0 → Type 0
NoShorterReaches V =
    (rows : List (Prefix × V)) (a : IpAddress) (found : Option (Prefix × V)) (scope n : ℕ)
    → IsScope rows a found scope → length_of found ≤ n
    → ((b : IpAddress) → SharesFirst n a b → IsFound rows b found) → scope ≤ n

-- An address has one location among the rows of a table.
abbrev pub OneRowFound : Type 0 → Type 0
OneRowFound V =
    (rows : List (Prefix × V)) (a : IpAddress) (v w : Option V) (scope other : ℕ)
    → AreRows rows → Locates rows a v scope → Locates rows a w other → (v ≡ w) × (scope ≡ other)

-- Prefixes with the same bits are one prefix.
abbrev pub OnePrefix : Type 0
OnePrefix =
    (p q : Prefix) → IsPrefix p.address p.length → IsPrefix q.address q.length
    → p.length ≡ q.length → SharesFirst p.length p.address q.address → p ≡ q
