use Rattle.std.proofs.Common.{◌≡◌, ◌≤◌, length, take}
use Rattle.std.specs.List.{AllByRecursion}
use Rattle.zone_list.specs.Octets.{set_octets}
use Rattle.zone_list.specs.Steps.{cells_in_all}
use Rattle.zone_table.proofs.needs.sizes_of.Given as goal

abbrev pub invariant-loop-set : goal.invariant-loop-set
invariant-loop-set l = record {
  cells : l.cells ≡ cells_in_all (take l.set-index l.add);
  most : AllByRecursion (λ set. length (set_octets set) ≤ l.most) (take l.set-index l.add);
}
