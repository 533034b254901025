-- How a table keeps its rows: prefixes and values side by side, and a tree for each family.
use Rattle.std.specs.Prelude.{◌≡◌, ℕ, ◌≤◌, List, length}
use Rattle.ip_table.specs.declared.tree.Fork.{Fork}
use Rattle.ip_table.specs.Prefixes.{Prefix}
use Rattle.ip_table.specs.Trees.{AllPrefixes, AreApart, IsTree, AllStand}

pub record IsTable (ps : List Prefix) (count : ℕ) (n4 n6 : List Fork) : Type 0 where
  pub prefixes : AllPrefixes ps
  pub apart : AreApart ps
  pub few : length ps ≤ 100000
  pub values : count ≡ length ps
  pub v4 : IsTree ps n4 32
  pub v6 : IsTree ps n6 128
  pub all_v4 : AllStand ps n4 32 (length ps)
  pub all_v6 : AllStand ps n6 128 (length ps)
  pub few_v4 : length n4 ≤ length ps
  pub few_v6 : length n6 ≤ length ps
