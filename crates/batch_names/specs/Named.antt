-- The sets of the names that a batch names.
use Rattle.std.specs.Prelude.{ℕ, List, Bool, not}
use Rattle.std.specs.List.{filter, list_any}
use Rattle.dns_name.specs.Order.{same_labels}
use Rattle.batch_model.specs.RecordSetRecord.{RecordSet}
use Rattle.batch_model.specs.declared.batches.Change.{Change}

-- whether the set of a change has this name
abbrev pub names : List Change → (name : List (List ℕ)) → Bool
names changes name = list_any (λ (change : Change). same_labels change.set.name name) changes

-- the sets of the names that the changes name
abbrev pub named_in : List Change → List RecordSet → List RecordSet
named_in changes sets = filter (λ (set : RecordSet). names changes set.name) sets

-- all others
abbrev pub unnamed_in : List Change → List RecordSet → List RecordSet
unnamed_in changes sets = filter (λ (set : RecordSet). not (names changes set.name)) sets
