-- A hosted zone as definitions see it.
use Rattle.std.specs.Prelude.{ℕ, List}
use Rattle.record_set.specs.declared.sets.RecordSet.{RecordSet}

-- Its number, the name of its apex, and its sets in zone order.
pub record HostedZone : Type 0 where
  pub id : ℕ
  pub apex : List (List ℕ)
  pub sets : List RecordSet
