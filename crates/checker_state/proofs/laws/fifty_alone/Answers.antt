use Rattle.std.proofs.Common.{ap, ◌∙◌}
use Rattle.checker_state.specs.Standing.{kept}
use Rattle.checker_state.proofs.Fifty.{same_fifty}
use Rattle.checker_state.proofs.Standing.{seen}
use Rattle.checker_state.proofs.laws.fifty_alone.Goals as goal

pub returns : goal.returns
returns c n results others it same stands =
    stands ∙ ap (seen n)
    (same_fifty (λ k. kept n (results k)) (λ k. kept n (others k))
    (λ k b. ap (kept n) (same k b)))
