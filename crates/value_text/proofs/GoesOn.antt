-- Where a field stands.
use Rattle.std.proofs.Common.{◌≡◌, ℕ, suc, ◌+◌, ◌<◌, ◌≤◌, List, [], ◌∷◌, ap, arith, Bool, true, false, cond, Option, None, Some, length}
use Rattle.std.specs.Prelude.{◌==◌}
use Rattle.value_text.specs.declared.fields.Field.{Field}
use Rattle.value_text.specs.Fields.{quote, backslash, is_blank, plain_len, quoted_len, field_len, next_field}

plain_within : (text : List ℕ) → plain_len text ≤ length text
plain_within [] = omega arith
plain_within (b ∷ rest) = go (is_blank b) (plain_within rest)
  where
    go : (t : Bool) → plain_len rest ≤ length rest
        → cond t 0 (suc (plain_len rest)) ≤ length (b ∷ rest)
    go true h = omega arith
    go false h = omega (arith, h)

quoted_within : (escaped : Bool) (text : List ℕ) → quoted_len escaped text ≤ length text
quoted_within escaped [] = omega arith
quoted_within true (b ∷ rest) = omega (arith, quoted_within false rest)
quoted_within false (b ∷ rest) = go (b == quote) (quoted_within (b == backslash) rest)
  where
    go : (t : Bool) → quoted_len (b == backslash) rest ≤ length rest
        → cond t 1 (suc (quoted_len (b == backslash) rest)) ≤ length (b ∷ rest)
    go true h = omega arith
    go false h = omega (arith, h)

field_within : (b : ℕ) (rest : List ℕ)
    → (0 < field_len (b ∷ rest)) × (field_len (b ∷ rest) ≤ length (b ∷ rest))
field_within b rest = go (b == quote) (quoted_within false rest) (plain_within rest)
  where
    go : (t : Bool) → quoted_len false rest ≤ length rest → plain_len rest ≤ length rest
        → (0 < cond t (suc (quoted_len false rest)) (suc (plain_len rest)))
        × (cond t (suc (quoted_len false rest)) (suc (plain_len rest)) ≤ length (b ∷ rest))
    go true h k = (omega arith, omega (arith, h))
    go false h k = (omega arith, omega (arith, k))

abbrev field_of : Option Field → Field → Field
field_of None other = other
field_of (Some field) other = field

pub goes_on : (at : ℕ) (text : List ℕ) (field : Field) → next_field at text ≡ Some field
    → (at ≤ field.start)
    × (field.start < field.end) × (field.end ≤ at + length text)
goes_on at [] field e = absurd cc
goes_on at (b ∷ rest) field e = go (is_blank b) e (goes_on (at + 1) rest field)
  where
    go : (t : Bool)
        → cond t (next_field (at + 1) rest)
        (Some (record { start = at; end = at + field_len (b ∷ rest) })) ≡ Some field
        → (next_field (at + 1) rest ≡ Some field
        → (at + 1 ≤ field.start) × (field.start < field.end)
        × (field.end ≤ (at + 1) + length rest))
        → (at ≤ field.start) × (field.start < field.end) × (field.end ≤ at + length (b ∷ rest))
    go true h more = let m = more h in (omega (arith, m.0), m.1, omega (arith, m.2))
    go false h more =
        let start : at ≡ field.start = ap (λ o. (field_of o field).start) h in
        let end : at + field_len (b ∷ rest) ≡ field.end = ap (λ o. (field_of o field).end) h in
        let w = field_within b rest in
        (omega (arith, start), omega (arith, start, end, w.0), omega (arith, end, w.1))
