-- What stands above some nodes, and in which order it is worked out. `feeds x y` says that x feeds
-- y.
use Rattle.std.specs.Prelude.{◌≡◌, ◌<◌, ◌↔◌, ℕ, zero, suc, List, [], ◌∷◌}
use Rattle.std.specs.List.{Contains}

-- a path of k feeds leads from x to y
abbrev pub Leads : (ℕ → ℕ → Type 0) → ℕ → ℕ → ℕ → Type 0
Leads feeds zero x y = y ≡ x
Leads feeds (suc k) x y = (z : ℕ) × feeds x z × Leads feeds k z y

abbrev pub IsAbove : (ℕ → ℕ → Type 0) → ℕ → ℕ → Type 0
IsAbove feeds x y = (k : ℕ) × Leads feeds k x y

-- the cone of some nodes: these, what they feed, and so on
abbrev pub InCone : (ℕ → ℕ → Type 0) → List ℕ → ℕ → Type 0
InCone feeds starts y = (x : ℕ) × Contains starts x × IsAbove feeds x y

-- each node stands once
abbrev pub EachOnce : List ℕ → Type 0
EachOnce [] = Unit {0}
EachOnce (x ∷ rest) = (Contains rest x → ⊥) × EachOnce rest

-- each node stands before all that it feeds
abbrev pub FeedersFirst : (ℕ → ℕ → Type 0) → List ℕ → Type 0
FeedersFirst feeds [] = Unit {0}
FeedersFirst feeds (x ∷ rest) = ((y : ℕ) → feeds x y → Contains rest y) × FeedersFirst feeds rest

-- the cone of some nodes, each node once and before all that it feeds
pub record IsConeOf (feeds : ℕ → ℕ → Type 0) (starts walk : List ℕ) : Type 0 where
  pub members : (y : ℕ) → Contains walk y ↔ InCone feeds starts y
  pub once : EachOnce walk
  pub first : FeedersFirst feeds walk

-- each feed goes to a greater rank, and every rank is below the bound
pub record IsRanked (feeds : ℕ → ℕ → Type 0) (rank : ℕ → ℕ) (bound : ℕ) : Type 0 where
  pub rises : (x y : ℕ) → feeds x y → rank x < rank y
  pub below : (x : ℕ) → rank x < bound

-- every path of feeds ends before so many steps
unfoldable pub PathsEnd : (ℕ → ℕ → Type 0) → ℕ → Type 0
PathsEnd feeds n = (x y : ℕ) → Leads feeds n x y → ⊥

-- no path of feeds from these nodes has more nodes than this
unfoldable pub IsShallow : (ℕ → ℕ → Type 0) → ℕ → (ℕ → Type 0) → Type 0
IsShallow feeds zero these = (x : ℕ) → these x → ⊥
IsShallow feeds (suc n) these = (x : ℕ) → these x → IsShallow feeds n (feeds x)

-- where each feed goes to a greater rank, no path has as many steps as there are ranks
abbrev pub RanksEndPaths : Type 0
RanksEndPaths = (fed : ℕ → List ℕ) (rank : ℕ → ℕ) (bound : ℕ)
    → IsRanked (λ x. Contains (fed x)) rank bound → PathsEnd (λ x. Contains (fed x)) bound
