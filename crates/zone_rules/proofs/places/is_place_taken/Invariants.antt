use Rattle.std.proofs.Common.{◌≡◌, ◌<◌, ◌≤◌, ℕ, Some}
use Rattle.std.specs.Prelude.{slice_get}
use Rattle.batch_model.specs.RecordSetRecord.{RecordSet}
use Rattle.batch_model.specs.Rules.{AreRivals}
use Rattle.zone_rules.specs.Lent.{sets_lent}
use Rattle.zone_rules.proofs.places.is_place_taken.Given as goal

abbrev pub invariant-loop-k : goal.invariant-loop-k
invariant-loop-k l = (j : ℕ) (x y : RecordSet) → l.start ≤ j → j < l.k → slice_get (sets_lent l.sets) j ≡ Some x
    → slice_get (sets_lent l.sets) l.i ≡ Some y → AreRivals x.routing y.routing → ⊥
