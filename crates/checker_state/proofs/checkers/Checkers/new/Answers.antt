use Rattle.std.proofs.Common.{◌≡◌, ℕ, true, [], arith, ap, map}
use Rattle.checker_state.specs.Standing.{numbers, kept}
use Rattle.checker_state.specs.declared.checker.Checker.{Checker}
use Rattle.checker_state.proofs.Standing.{seen}
use Rattle.checker_state.proofs.checkers.Checkers.new.Goals as goal

-- a checker without a result
fresh : (n : ℕ) → record { view = true; last = true; run = 0 } ≡ kept n []
fresh n = ap (λ (run : ℕ). record { view = true; last = true; run = run }) (omega arith)

pub returns : goal.returns
unfolding numbers
returns c =
    ap (λ (x : Checker). seen c.args.threshold (map (λ k. x) numbers)) (fresh c.args.threshold)
