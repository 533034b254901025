use Rattle.std.proofs.Common.{◌-◌, ◌≤◌, List, length}
use Rattle.dns_message.specs.Edns.{EdnsOption, first_body}
use Rattle.dns_message.specs.Walk.{HasFirst}
use Rattle.dns_message.proofs.OptionLists.{Stepped}
use Rattle.dns_message.proofs.options.subnet_among.Given as goal

abbrev pub invariant-loop-at : goal.invariant-loop-at
invariant-loop-at l = (l.at ≤ length l.body) × (done : List EdnsOption) × Stepped l.body l.at done
    × HasFirst l.body (first_body 8 done) l.found

abbrev pub decreases-loop-at : goal.decreases-loop-at
decreases-loop-at l = length l.body - l.at
