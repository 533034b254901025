use Rattle.std.proofs.Common.{◌≤◌, ◌-◌, length, take}
use Rattle.std.specs.Option.{option_copied}
use Rattle.answer_model.specs.Choice.{each}
use Rattle.answer_model.specs.Policies.{place_of}
use Rattle.policy_select.specs.Groups.{flags_in, sets_in}
use Rattle.policy_select.specs.Nearby.{AreNoted}
use Rattle.policy_select.proofs.lists.note_near.Given as goal

abbrev pub invariant-loop-i : goal.invariant-loop-i
invariant-loop-i g l = record {
  within : l.from ≤ l.group.length;
  few : l.count ≤ l.from;
  room : l.count ≤ length l.places;
  noted : AreNoted (option_copied l.client) (take l.from (each place_of l.first (sets_in l.zones.zones l.group)))
      (take l.from (flags_in l.zones.zones (g.V.HealthView.test l.view) l.group))
      (take l.count l.places) (take l.count l.healthy) (take l.count l.sets);
}

abbrev pub decreases-loop-i : goal.decreases-loop-i
decreases-loop-i g l = l.group.length - l.from
