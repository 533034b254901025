use Rattle.std.proofs.Common.{◌≡◌, ◌≤◌, List, length}
use Rattle.std.specs.Prelude.{vec_capacity, vec_len}
use Rattle.check_model.specs.Checks.{Checks}
use Rattle.health_planning.specs.Building.{AreOfEndpoints, AreSeen}
use Rattle.health_planning.specs.Later.{EachIsLater, Knows}
use Rattle.health_model.specs.Statuses.{Report}
use Rattle.health_planning.proofs.building.list_seen.Given as goal

abbrev pub invariant-loop-place : goal.invariant-loop-place
invariant-loop-place l = record {
  within : l.place ≤ length l.list;
  size : length l.into.items ≡ l.place;
  len : vec_len l.into ≡ l.place;
  room : vec_capacity l.into ≡ vec_capacity l.fn.into;
  seen : (old : Checks) (reports : List Report) → Knows old reports l.ids l.seen
      → EachIsLater old l.list → AreSeen reports l.list l.into.items;
  kinds : AreOfEndpoints l.list l.into.items;
}
