-- Zone order.
use Rattle.std.specs.Prelude.{ℕ, List, reverse, Bool, nat_eq}
use Rattle.std.specs.declared.cmp.Ordering.{Ordering}
use Rattle.std.specs.Ordering.{nat_cmp}
use Rattle.std.specs.Cmp.Lexicographic.{pointwise, slice_cmp}

-- the same labels
abbrev pub same_labels : (labels others : List (List ℕ)) → Bool
same_labels labels others = pointwise (pointwise nat_eq) labels others

-- The order of names in a zone: label by label from the root, octets compared, a parent before
-- what is below it.
abbrev pub zone_cmp : (labels others : List (List ℕ)) → Ordering
zone_cmp labels others = slice_cmp (slice_cmp nat_cmp) (reverse labels) (reverse others)
