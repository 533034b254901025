use Rattle.std.proofs.Common.{◌≡◌, ℕ, ◌+◌, ◌<◌, get_or}
use Rattle.std.specs.declared.cmp.Ordering.TheVariants.{Less}
use Rattle.cidr_blocks.specs.declared.places.CidrLocation.{CidrLocation}
use Rattle.cidr_blocks.specs.Places.{name_cmp}
use Rattle.cidr_blocks.proofs.judging.names_rise.Given as goal

abbrev pub invariant-loop-i : goal.invariant-loop-i
invariant-loop-i l = (k : ℕ) (other : CidrLocation) → k + 1 < l.i
    → name_cmp (get_or l.locations k other).name (get_or l.locations (k + 1) other).name ≡ Less
