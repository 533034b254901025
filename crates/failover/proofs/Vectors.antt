-- The definitions at values from outside.
use Rattle.std.proofs.Common.{◌≡◌, true, false, List, [], ◌∷◌, refl}
use Rattle.failover.specs.Choice.{chosen}
use Rattle.routing.specs.declared.policies.Role.{Role}
use Rattle.routing.specs.declared.policies.Role.TheVariants.{Primary, Secondary}

-- a secondary, and then a primary
abbrev pair : List Role
pair = Secondary ∷ Primary ∷ []

both_healthy : chosen pair (true ∷ true ∷ []) ≡ 1
both_healthy = refl

primary_healthy : chosen pair (false ∷ true ∷ []) ≡ 1
primary_healthy = refl

secondary_healthy : chosen pair (true ∷ false ∷ []) ≡ 0
secondary_healthy = refl

none_healthy : chosen pair (false ∷ false ∷ []) ≡ 1
none_healthy = refl

secondary_alone : chosen (Secondary ∷ []) (false ∷ []) ≡ 0
secondary_alone = refl

primary_alone : chosen (Primary ∷ []) (false ∷ []) ≡ 0
primary_alone = refl
