use Rattle.std.proofs.Common.{◌≡◌, drop}
use Rattle.r53_disk.specs.Images.{torn_after}
use Rattle.r53_disk.specs.Calls.{traces_of}
use Rattle.r53_disk.proofs.memory.replay.Given as goal

-- what the calls that are left do is what all do
abbrev pub invariant-loop-call : goal.invariant-loop-call
invariant-loop-call l =
    torn_after l.torn l.reading.items l.image.items (traces_of (drop l.call-index l.calls))
    ≡ torn_after l.torn l.fn.first l.fn.first (traces_of l.calls)
