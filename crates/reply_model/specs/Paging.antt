-- Which sets of a zone a list gives (API Reference, ListResourceRecordSets): those that are not
-- before a start, in zone order and at most so many, and the one from which it would go on.
use Rattle.std.specs.Prelude.{ℕ, List, Bool, true, false, not, take, slice_get}
use Rattle.std.specs.Prelude.{Option, None, Some}
use Rattle.std.specs.List.{filter}
use Rattle.std.specs.Ordering.{match_ordering, nat_cmp, ordering_then}
use Rattle.std.specs.declared.cmp.Ordering.{Ordering}
use Rattle.std.specs.declared.cmp.Ordering.TheVariants.{Equal}
use Rattle.dns_name.specs.Order.{zone_cmp}
use Rattle.config_model.specs.Types.{number_of}
use Rattle.config_model.specs.RTypeRecord.{RType}
use Rattle.config_model.specs.Sets.{ident_of}
use Rattle.config_model.specs.RecordSetRecord.{RecordSet}
use Rattle.config_model.specs.Keys.{ident_cmp}
use Rattle.serde_json.specs.Data.{Data}
use Rattle.reply_model.specs.Lists.{list_reply}

-- ---- a set compared with a start, of which what isn't given is as the set has it

abbrev pub name_part : (name : List (List ℕ)) (start : Option (List (List ℕ))) → Ordering
name_part name None = Equal
name_part name (Some start) = zone_cmp name start

abbrev pub type_part : RType → (start : Option RType) → Ordering
type_part rtype None = Equal
type_part rtype (Some start) = nat_cmp (number_of rtype) (number_of start)

abbrev pub ident_part : (ident : Option (List ℕ)) (start : Option (List ℕ)) → Ordering
ident_part ident None = Equal
ident_part ident (Some start) = ident_cmp ident (Some start)

-- Where a list starts: a name, a type and an identifier, each where it is given.
pub record Start : Type 0 where
  pub name : Option (List (List ℕ))
  pub rtype : Option RType
  pub ident : Option (List ℕ)

abbrev pub start_cmp : RecordSet → Start → Ordering
start_cmp set start = ordering_then
    (ordering_then (name_part set.name start.name) (type_part set.rtype start.rtype))
    (ident_part (ident_of set.routing) start.ident)

abbrev pub is_before : Start → RecordSet → Bool
is_before start set = match_ordering (start_cmp set start) true false false

-- ---- a page

-- the sets of a zone from a start on
abbrev pub from_start : Start → List RecordSet → List RecordSet
from_start start sets = filter (λ set. not (is_before start set)) sets

-- the sets that a list gives
abbrev pub page : Start → (items : ℕ) → (sets : List RecordSet) → List RecordSet
page start items sets = take items (from_start start sets)

-- the set from which it would go on, where it was cut
abbrev pub next_of : Start → (items : ℕ) → (sets : List RecordSet) → Option RecordSet
next_of start items sets = slice_get (from_start start sets) items

-- the reply to ListResourceRecordSets of a zone with these sets
abbrev pub page_reply : (zone : ℕ) → Start → (items : ℕ) → (sets : List RecordSet) → Data
page_reply zone start items sets =
    list_reply zone (page start items sets) (next_of start items sets)
