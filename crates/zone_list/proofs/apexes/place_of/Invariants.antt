use Rattle.std.proofs.Common.{◌≡◌, ◌<◌, ℕ, Some}
use Rattle.std.specs.Prelude.{◌≢◌, slice_get}
use Rattle.zone_list.specs.declared.apexes.NamedZone.{NamedZone}
use Rattle.zone_list.proofs.apexes.place_of.Given as goal

abbrev pub invariant-loop-place : goal.invariant-loop-place
invariant-loop-place l =
    (k : ℕ) (apex : NamedZone) → k < l.place → slice_get l.list k ≡ Some apex → apex.id ≢ l.id
