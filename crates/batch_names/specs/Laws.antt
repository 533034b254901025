-- A batch is decided name by name.
use Rattle.std.specs.Prelude.{◌≡◌, ◌↔◌, ℕ, List, Ok, Err}
use Rattle.batch_model.specs.RecordSetRecord.{RecordSet}
use Rattle.batch_model.specs.declared.batches.Change.{Change}
use Rattle.batch_model.specs.declared.refusals.BatchRefusal.{BatchRefusal}
use Rattle.batch_model.specs.Batches.{Prepares}
use Rattle.batch_model.specs.Rules.{MeetsAll, rules}
use Rattle.zone_table.specs.Sets.{IsZone}
use Rattle.batch_names.specs.Named.{named_in, unnamed_in}

-- In a zone that meets the rules for groups and names:
pub record NamesDecide : Type 0 where
  -- a batch is refused as it is on the sets of its names alone;
  pub refused : (sets : List RecordSet) (apex : List (List ℕ)) (changes : List Change)
      (why : BatchRefusal) → IsZone sets apex → MeetsAll rules sets apex
      → Prepares sets apex changes (Err why)
      ↔ Prepares (named_in changes sets) apex changes (Err why)
  -- and it makes those of its names what it makes of them alone, leaves all others as they are, and
  -- they stand together in zone order.
  pub made : (sets : List RecordSet) (apex : List (List ℕ)) (changes : List Change)
      (after : List RecordSet) → IsZone sets apex → MeetsAll rules sets apex
      → Prepares sets apex changes (Ok after)
      ↔ (Prepares (named_in changes sets) apex changes (Ok (named_in changes after))
      × (unnamed_in changes after ≡ unnamed_in changes sets) × IsZone after apex)
