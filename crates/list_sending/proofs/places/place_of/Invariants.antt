use Rattle.std.proofs.Common.{◌-◌}
use Rattle.set_search.specs.Found.{IsBracket}
use Rattle.set_search.specs.declared.bounds.Bound.TheVariants.{From}
use Rattle.list_sending.specs.Pages.{sets_in}
use Rattle.list_sending.proofs.places.place_of.Given as goal

abbrev pub invariant-loop-low : goal.invariant-loop-low
invariant-loop-low l = IsBracket (sets_in l.zones.zones l.zone) (From l.key) l.low l.high

abbrev pub decreases-loop-low : goal.decreases-loop-low
decreases-loop-low l = l.high - l.low
