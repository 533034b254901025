-- What is told of a reply, where there is one.
use Rattle.std.proofs.Common.{ℕ, Option, None, Some}
use Rattle.std.specs.Prelude.{IfSome}

pub if_some : {P Q : Type 0} (found : Option ℕ) → (P → Q) → IfSome found (λ n. P) → IfSome found (λ n. Q)
if_some None on its = tt
if_some (Some n) on its = on its
