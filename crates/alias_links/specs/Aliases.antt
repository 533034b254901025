-- The aliases among sets, and those of them that stay.
use Rattle.std.specs.Prelude.{◌≡◌, Bool, true, false, not, ◌&&◌, List, Option, None, Some}
use Rattle.std.specs.List.{filter, list_any}
use Rattle.std.specs.Ordering.{is_eq}
use Rattle.record_set.specs.Sets.{key_of}
use Rattle.record_set.specs.declared.sets.RecordSet.{RecordSet}
use Rattle.record_set.specs.declared.sets.SetKey.{SetKey}
use Rattle.zone_table.specs.Telling.{is_alias}
use Rattle.zone_table.specs.Keys.{key_cmp}

abbrev pub is_alias_set : RecordSet → Bool
is_alias_set set = is_alias set.body

-- the aliases among the sets, in their order
abbrev pub aliases_of : List RecordSet → List RecordSet
aliases_of sets = filter is_alias_set sets

abbrev pub is_key_of : List SetKey → SetKey → Bool
is_key_of keys key = list_any (λ other. is_eq (key_cmp other key)) keys

-- an alias that isn't removed
abbrev pub stays : (remove : List SetKey) → RecordSet → Bool
stays remove set = is_alias_set set && not (is_key_of remove (key_of set))

-- the aliases among the sets that aren't removed
abbrev pub kept_of : (remove : List SetKey) → List RecordSet → List RecordSet
kept_of remove sets = filter (stays remove) sets

-- the set, where it passes
abbrev pub SetIf : (passes : Bool) → RecordSet → Option RecordSet → Type 0
SetIf passes set None = passes ≡ false
SetIf passes set (Some copy) = (copy ≡ set) × (passes ≡ true)
