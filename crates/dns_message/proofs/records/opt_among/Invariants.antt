use Rattle.std.proofs.Common.{◌≡◌, ◌≤◌, List, length}
use Rattle.dns_message.specs.Edns.{opts_of}
use Rattle.dns_message.specs.Records.{AnyRecord}
use Rattle.dns_message.specs.Walk.{HasFound}
use Rattle.dns_message.proofs.Walking.{Passed}
use Rattle.dns_message.proofs.records.opt_among.Given as goal

abbrev pub invariant-loop : goal.invariant-loop
invariant-loop l = (l.at ≤ length l.octets) × (done : List AnyRecord) × (length done ≡ l.counter)
    × Passed l.octets l.at done × HasFound l.octets (opts_of done) l.found
