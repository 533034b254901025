-- The sets that apply to a client of whom a location is told.
use Rattle.std.proofs.Common.{◌≡◌, ℕ, Bool, Option, Some, None, List, slice_get, sym, ap, ◌∙◌}
use Rattle.cidr_routing.specs.Choice.{in_order, sets_of}
use Rattle.cidr_routing.specs.Idents.{star}
use Rattle.considered_sets.specs.Healthy.{asked}
use Rattle.considered_sets.proofs.InTurn.{first, later}

module _ (all : Bool) (healthy : List Bool) (locations : List (List ℕ)) (client : Option (List ℕ))
    (name : List ℕ) (is : client ≡ Some name) where
  pub of_location : (set : ℕ) → Some set ≡ slice_get (asked all healthy (sets_of name locations)) 0
      → Some set ≡ slice_get (asked all healthy (in_order client locations)) 0
  of_location set e = first all healthy (sets_of name locations) (sets_of star locations) set e
      ∙ ap (λ c. slice_get (asked all healthy (in_order c locations)) 0) (sym is)

  pub of_star : None ≡ slice_get (asked all healthy (sets_of name locations)) 0
      → slice_get (asked all healthy (sets_of star locations)) 0
      ≡ slice_get (asked all healthy (in_order client locations)) 0
  of_star none = later all healthy (sets_of name locations) (sets_of star locations) none
      ∙ ap (λ c. slice_get (asked all healthy (in_order c locations)) 0) (sym is)
