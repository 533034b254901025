use Rattle.std.proofs.Common.{◌≡◌, true, drop}
use Rattle.std.specs.Prelude.{◌↔◌}
use Rattle.std.specs.List.{AllByRecursion}
use Rattle.routing.specs.Texts.{is_of}
use Rattle.routing.proofs.alphabet.are_of.Given as goal

abbrev pub invariant-loop-b : goal.invariant-loop-b
invariant-loop-b l = AllByRecursion (λ b. is_of l.alphabet b ≡ true) l.bytes ↔ AllByRecursion
    (λ b. is_of l.alphabet b ≡ true) (drop l.b-index l.bytes)
