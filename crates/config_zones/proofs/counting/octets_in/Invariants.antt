use Rattle.std.proofs.Common.{◌≡◌, ◌≤◌, ◌*◌, length, take}
use Rattle.std.specs.List.{sum_by}
use Rattle.config_edits.specs.Octets.{set_octets}
use Rattle.config_zones.proofs.counting.octets_in.Given as goal

abbrev pub invariant-loop-i : goal.invariant-loop-i
invariant-loop-i l = record {
  so_far : l.octets ≡ sum_by (λ set. length (set_octets set)) (take l.i l.sets);
  few : l.octets ≤ 65536 * l.i;
}
