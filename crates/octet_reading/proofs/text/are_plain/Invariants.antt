use Rattle.std.proofs.Common.{◌≡◌, drop}
use Rattle.std.specs.List.{list_all}
use Rattle.octet_reading.proofs.text.are_plain.Given as goal

abbrev pub invariant-loop-b : goal.invariant-loop-b
invariant-loop-b g l =
    list_all g.A.Alphabet.is_plain l.bytes ≡ list_all g.A.Alphabet.is_plain (drop l.b-index l.bytes)
