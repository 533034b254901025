use Rattle.std.proofs.Common.{length}
use Rattle.std.specs.Prelude.{◌≢◌, ◌↔◌}
use Rattle.zone_changes.specs.Zones.{IsAmong}
use Rattle.zone_list.specs.declared.apexes.NamedZone.{NamedZone}
use Rattle.zone_list.specs.Apexes.{AreInOrder}
use Rattle.zone_list.proofs.apexes.take.Given as goal

abbrev pub invariant-loop-place : goal.invariant-loop-place
invariant-loop-place l = record {
  order : AreInOrder l.list.items;
  others : (other : NamedZone) → other.id ≢ l.id → IsAmong l.list.items other ↔ IsAmong l.fn.list.items other;
}

abbrev pub decreases-loop-place : goal.decreases-loop-place
decreases-loop-place l = length l.list.items
