use Rattle.std.proofs.Common.{◌≡◌, true, drop}
use Rattle.std.specs.Prelude.{◌↔◌}
use Rattle.std.specs.List.{AllByRecursion}
use Rattle.rdata_layout.specs.Fields.{is_letter_or_digit}
use Rattle.rdata_layout.proofs.scan.are_plain.Given as goal

abbrev pub invariant-loop-b : goal.invariant-loop-b
invariant-loop-b l = AllByRecursion (λ b. is_letter_or_digit b ≡ true) l.octets
    ↔ AllByRecursion (λ b. is_letter_or_digit b ≡ true) (drop l.b-index l.octets)
