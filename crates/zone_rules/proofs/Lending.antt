-- As many sets are lent as there are.
use Rattle.std.proofs.Common.{◌≡◌, ◌<◌, ◌≤◌, ℕ, List, length, arith}
use Rattle.std.proofs.lemmas.List.{length-map}
use Rattle.std.specs.Borrow.{Bor}
use Rattle.batch_model.specs.RecordSetRecord.{RecordSet}
use Rattle.zone_rules.specs.Lent.{sets_lent}

pub as_many : (sets : List (Bor RecordSet)) → length (sets_lent sets) ≡ length sets
as_many sets = length-map sets (λ (set : Bor RecordSet). set.now)

pub inside : (sets : List (Bor RecordSet)) (i : ℕ) → i < length sets → i < length (sets_lent sets)
inside sets i lt = omega (arith, lt, as_many sets)

pub past : (sets : List (Bor RecordSet)) (i : ℕ) → length sets ≤ i → length (sets_lent sets) ≤ i
past sets i le = omega (arith, le, as_many sets)
