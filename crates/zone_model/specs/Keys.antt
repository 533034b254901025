-- The order of the keys of sets in a zone.
use Rattle.std.specs.Prelude.{ℕ, List, Option, None, Some}
use Rattle.std.specs.declared.cmp.Ordering.{Ordering}
use Rattle.std.specs.declared.cmp.Ordering.TheVariants.{Less, Equal, Greater}
use Rattle.std.specs.Cmp.Lexicographic.{slice_cmp}
use Rattle.std.specs.Ordering.{nat_cmp, ordering_then}
use Rattle.record_set.specs.Order.{zone_cmp}
use Rattle.record_set.specs.Types.{number_of}
use Rattle.record_set.specs.declared.sets.SetKey.{SetKey}

-- Identifiers by their bytes; a set without one comes first (own).
abbrev pub ident_cmp : (ident other : Option (List ℕ)) → Ordering
ident_cmp None None = Equal
ident_cmp None (Some other) = Less
ident_cmp (Some ident) None = Greater
ident_cmp (Some ident) (Some other) = slice_cmp nat_cmp ident other

-- Zone order: by name, then by the type's number, then by identifier (own).
abbrev pub key_cmp : (key other : SetKey) → Ordering
key_cmp key other =
    ordering_then
    (ordering_then (zone_cmp key.name other.name) (nat_cmp (number_of key.rtype) (number_of other.rtype)))
    (ident_cmp key.ident other.ident)
