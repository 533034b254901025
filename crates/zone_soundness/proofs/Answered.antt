-- What a test answered, against what it tests.
use Rattle.std.proofs.Common.{true, false, IsTrue, ◌↔◌, refl}
use Rattle.std.proofs.lemmas.Bool.{false≢true}

pub isnt : {P : Type 0} → (P → ⊥) → IsTrue false ↔ P
isnt never = (λ t. absurd (false≢true t), λ p. absurd (never p))

pub is : {P : Type 0} → P → IsTrue true ↔ P
is p = (λ t. p, λ q. refl)
