use Rattle.std.proofs.Common.{◌≡◌, ◌<◌, ℕ, Some}
use Rattle.std.specs.Prelude.{slice_get}
use Rattle.rdata.specs.Datum.{Datum}
use Rattle.record_set.specs.Sameness.{times}
use Rattle.record_set.proofs.sameness.are_as_often.Given as goal

abbrev pub invariant-loop-value : goal.invariant-loop-value
invariant-loop-value l = (i : ℕ) (datum : Datum) → i < l.value-index
    → slice_get l.values i ≡ Some datum → times datum l.values ≡ times datum l.others
