use Rattle.std.proofs.Common.{take}
use Rattle.zone_list.specs.Found.{LongestOrNone}
use Rattle.zone_list.specs.Kept.{named_of}
use Rattle.zone_list.proofs.finding.longest.Given as goal

abbrev pub invariant-loop-zone : goal.invariant-loop-zone
invariant-loop-zone l = LongestOrNone (named_of (take l.zone-index l.list)) l.name l.found
