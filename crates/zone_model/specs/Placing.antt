-- A set placed among those of a zone, taken away from them, and found by its key.
use Rattle.std.specs.Prelude.{◌≡◌, List, ◌∷◌, ◌++◌, Bool}
use Rattle.std.specs.List.{filter}
use Rattle.std.specs.Ordering.{is_lt, is_gt}
use Rattle.record_set.specs.declared.sets.RecordSet.{RecordSet}
use Rattle.record_set.specs.declared.sets.SetKey.{SetKey}
use Rattle.record_set.specs.Sets.{key_of}
use Rattle.zone_model.specs.Keys.{key_cmp}
use Rattle.zone_model.specs.Zones.{IsAmong}

-- whether the set's key comes before this one
abbrev pub comes_before : SetKey → RecordSet → Bool
comes_before key set = is_lt (key_cmp (key_of set) key)

-- whether the set's key comes behind this one
abbrev pub comes_behind : SetKey → RecordSet → Bool
comes_behind key set = is_gt (key_cmp (key_of set) key)

-- the sets without the one of this key
abbrev pub without : SetKey → List RecordSet → List RecordSet
without key sets = filter (comes_before key) sets ++ filter (comes_behind key) sets

-- The sets with this one at its place in zone order. The one with its key is gone.
abbrev pub placed : RecordSet → List RecordSet → List RecordSet
placed set sets = filter (comes_before (key_of set)) sets ++ set ∷ filter (comes_behind (key_of set)) sets

-- The kept set is the one of this key.
pub record IsSetOf (sets : List RecordSet) (key : SetKey) (kept : RecordSet) : Type 0 where
  pub there : IsAmong sets kept
  pub same_key : key_of kept ≡ key

-- a set of this key is there
abbrev pub IsThere : List RecordSet → SetKey → Type 0
IsThere sets key = (kept : RecordSet) × IsSetOf sets key kept
