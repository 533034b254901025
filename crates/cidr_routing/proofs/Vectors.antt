-- The definitions at values from outside.
use Rattle.std.proofs.Common.{◌≡◌, ℕ, true, false, Some, None, List, [], ◌∷◌, refl}
use Rattle.std.specs.Prelude.{codes}
use Rattle.cidr_routing.specs.Choice.{chosen}
use Rattle.cidr_routing.specs.Idents.{star}

star_text : codes "*" ≡ star
star_text = refl

-- sets for `*`, the lab and the office
abbrev group : List (List ℕ)
group = codes "*" ∷ codes "lab" ∷ codes "office" ∷ []

office : chosen group (true ∷ true ∷ true ∷ []) (Some (codes "office")) ≡ Some 2
office = refl

lab : chosen group (true ∷ true ∷ true ∷ []) (Some (codes "lab")) ≡ Some 1
lab = refl

no_block : chosen group (true ∷ true ∷ true ∷ []) None ≡ Some 0
no_block = refl

other_location : chosen group (true ∷ true ∷ true ∷ []) (Some (codes "Lab")) ≡ Some 0
other_location = refl

office_unhealthy : chosen group (true ∷ true ∷ false ∷ []) (Some (codes "office")) ≡ Some 0
office_unhealthy = refl

none_healthy : chosen group (false ∷ true ∷ false ∷ []) (Some (codes "office")) ≡ Some 2
none_healthy = refl

none_applies : chosen (codes "lab" ∷ []) (true ∷ []) (Some (codes "office")) ≡ None
none_applies = refl
