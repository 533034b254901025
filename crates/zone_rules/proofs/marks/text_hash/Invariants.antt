use Rattle.std.proofs.Common.{◌≡◌, drop}
use Rattle.zone_rules.specs.Marks.{text_hash}
use Rattle.zone_rules.proofs.marks.text_hash.Given as goal

abbrev pub invariant-loop-byte : goal.invariant-loop-byte
invariant-loop-byte l = text_hash l.mark_so_far (drop l.byte-index l.bytes)
    ≡ text_hash l.mark l.bytes
