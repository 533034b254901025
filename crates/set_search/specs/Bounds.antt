-- Bounds in zone order.
use Rattle.std.specs.Prelude.{ℕ, List, Bool, not}
use Rattle.std.specs.declared.cmp.Ordering.{Ordering}
use Rattle.std.specs.Ordering.{is_lt, is_gt, nat_cmp, ordering_then}
use Rattle.zone_model.specs.OrderOfDnsName.{zone_cmp}
use Rattle.zone_model.specs.Types.{number_of}
use Rattle.zone_model.specs.RTypeRecord.{RType}
use Rattle.zone_model.specs.RecordSetRecord.{RecordSet}
use Rattle.zone_model.specs.Sets.{key_of}
use Rattle.zone_model.specs.Keys.{key_cmp}
use Rattle.set_search.specs.declared.bounds.Bound.{Bound}
use Rattle.set_search.specs.declared.bounds.Bound.TheVariants as bound

-- the order of a set's name and type and of another name and type
abbrev pub group_cmp : RecordSet → (name : List (List ℕ)) → RType → Ordering
group_cmp set name rtype = ordering_then (zone_cmp set.name name) (nat_cmp (number_of set.rtype)
    (number_of rtype))

-- whether a set stands before the bound
abbrev pub is_before : Bound → RecordSet → Bool
is_before (bound.From key) set = is_lt (key_cmp (key_of set) key)
is_before (bound.Past key) set = not (is_gt (key_cmp (key_of set) key))
is_before (bound.PastGroup name rtype) set = not (is_gt (group_cmp set name rtype))
