-- A walk along the bits of a prefix meets the row that has it.
use Rattle.std.proofs.Common.{◌≡◌, ℕ, ◌<◌, List, length, ap, ◌∙◌, subst, arith}
use Rattle.ip_table.specs.declared.tree.Fork.{Fork}
use Rattle.ip_table.specs.Bits.{width_of}
use Rattle.ip_table.specs.Prefixes.{Prefix}
use Rattle.ip_table.specs.Trees.{prefix_at, fork_at, here, child, bit_behind, IsTree, StandsBelow, AllStand, AllPrefixes, HasPrefix}
use Rattle.ip_table.proofs.Walks.{Here, On, ways}

-- in an empty tree there is none
pub not_there : (prefixes : List Prefix) (forks : List Fork) (prefix : Prefix) → length forks ≡ 0
    → AllStand prefixes forks (width_of prefix.address) (length prefixes)
    → HasPrefix prefixes prefix → ⊥
not_there prefixes forks prefix none all has =
    let s = all has.0 has.1 (ap (λ (q : Prefix). width_of q.address) has.2)
    (λ e. absurd (omega (arith, has.1))) in
    absurd (omega (arith, none, s.within))

-- a row with the prefix that is not here stands further on
pub stands_on : (prefixes : List Prefix) (forks : List Fork) (prefix : Prefix)
    → AllPrefixes prefixes
    → IsTree prefixes forks (width_of prefix.address)
    → (at : ℕ) → at < length forks → (here prefixes forks at ≡ prefix → ⊥) → (row : ℕ)
    → prefix_at prefixes row ≡ prefix → StandsBelow forks at row
    → (0 < child (fork_at forks at) (bit_behind (fork_at forks at).depth prefix.address))
    × StandsBelow forks (child (fork_at forks at) (bit_behind (fork_at forks at).depth prefix.address))
    row
stands_on prefixes forks prefix all tree at h other row same s =
    let next =
    λ (q : Prefix). child (fork_at forks at) (bit_behind (fork_at forks at).depth q.address) in
    elim (ways prefixes forks (width_of prefix.address) all tree at row h s) [
      | Here is ↦ absurd (other (ap (prefix_at prefixes) is ∙ same))
      | On some stands ↦
          (subst (λ q. 0 < next q) same some, subst (λ q. StandsBelow forks (next q) row) same stands)
    ]
