use Rattle.std.proofs.Common.{◌≡◌, drop}
use Rattle.zone_table.specs.Changes.{with_all}
use Rattle.zone_table.specs.Sets.{IsRising}
use Rattle.alias_links.specs.Aliases.{aliases_of}
use Rattle.alias_links.proofs.aliases.place_aliases.Given as goal

abbrev pub invariant-loop-i : goal.invariant-loop-i
invariant-loop-i l = record {
  rising : IsRising l.aliases.items;
  rest : with_all (aliases_of (drop l.i l.add)) l.aliases.items
      ≡ with_all (aliases_of l.add) l.fn.aliases.items;
}
