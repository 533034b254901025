use Rattle.std.proofs.Common.{take}
use Rattle.std.specs.List.{All}
use Rattle.r53_io.specs.Script.{FitsDatagram}
use Rattle.r53_scenarios.proofs.running.all_fit.Given as goal

abbrev pub invariant-loop-arrival : goal.invariant-loop-arrival
invariant-loop-arrival l = All FitsDatagram (take l.arrival-index l.arrivals)
