-- What a walk has seen at one more fork, and where it goes on.
use Rattle.std.specs.Prelude.{◌≡◌, ℕ, ◌-◌, ◌<◌, ◌⊎◌, List, length}
use Rattle.address_text.specs.declared.address.IpAddress.{IpAddress}
use Rattle.ip_table.specs.declared.tree.Fork.{Fork}
use Rattle.ip_table.specs.declared.tree.Walked.{Walked}
use Rattle.ip_table.specs.declared.walk.Visited.{Visited}
use Rattle.ip_table.specs.Bits.{width_of}
use Rattle.ip_table.specs.Prefixes.{Prefix}
use Rattle.ip_table.specs.Trees.{prefix_at, fork_at, IsTrueOf, IsDone, StandsBelow, GoesOn}

pub record IsVisit (prefixes : List Prefix) (forks : List Fork) (address : IpAddress) (at : ℕ)
    (walked : Walked) (visited : Visited) : Type 0 where
  pub goes : 0 < visited.next → GoesOn prefixes forks address at visited.next
  -- the place of the bit behind the first ones there
  pub place : 0 < visited.next → visited.place ≡ 255 - (fork_at forks visited.next).depth
  pub sound : IsTrueOf prefixes address visited.walked
  -- A row that was ahead is ahead still, or done.
  pub each : (row : ℕ) → row < length prefixes
      → width_of (prefix_at prefixes row).address ≡ width_of address
      → StandsBelow forks at row ⊎ IsDone prefixes address walked row
      → ((0 < visited.next) × StandsBelow forks visited.next row)
      ⊎ IsDone prefixes address visited.walked row
