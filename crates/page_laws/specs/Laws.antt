-- A list that starts somewhere in a zone (API Reference, ListResourceRecordSets).
use Rattle.std.specs.Prelude.{◌≡◌, ℕ, List, drop, length, None, Option, Some, false, unwrap_or}
use Rattle.std.specs.List.{filter}
use Rattle.rdata_layout.specs.declared.types.RType.TheVariants.{A}
use Rattle.record_set.specs.declared.sets.RecordSet.{RecordSet}
use Rattle.record_set.specs.declared.sets.SetKey.{SetKey}
use Rattle.reply_model.specs.Paging.{Start, from_start, is_before}
use Rattle.zone_model.specs.Placing.{comes_before}
use Rattle.zone_model.specs.Zones.{IsRising}

-- a type is given with a name alone, an identifier with a type alone
abbrev pub IsAsked : Start → Type 0
IsAsked start = (start.name ≡ None → start.rtype ≡ None) × (start.rtype ≡ None → start.ident ≡ None)

-- The key at which a list starts: where no type is given the one of the least number, which is A,
-- and where no identifier is given none, which comes first.
abbrev pub start_key : (name : List (List ℕ)) → Start → SetKey
start_key name start = record {
  name = name;
  rtype = unwrap_or start.rtype A;
  ident = start.ident;
}

-- Before a start without a name there is nothing. Before another one is what comes before its key.
abbrev pub IsPlace : Start → Option (List (List ℕ)) → RecordSet → Type 0
IsPlace start None set = is_before start set ≡ false
IsPlace start (Some name) set = is_before start set ≡ comes_before (start_key name start) set

abbrev pub StartsArePlaces : Type 0
StartsArePlaces = (start : Start) (set : RecordSet) → IsAsked start → IsPlace start start.name set

-- In zone order the sets of a list are those behind as many as are before its start.
abbrev pub PagesFollow : Type 0
PagesFollow = (start : Start) (sets : List RecordSet) → IsRising sets → IsAsked start
    → from_start start sets ≡ drop (length (filter (is_before start) sets)) sets
