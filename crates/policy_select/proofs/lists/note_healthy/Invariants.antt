use Rattle.std.proofs.Common.{◌≡◌, take}
use Rattle.policy_select.specs.Groups.{flags_in}
use Rattle.policy_select.proofs.lists.note_healthy.Given as goal

abbrev pub invariant-loop-i : goal.invariant-loop-i
invariant-loop-i g l =
    take l.i l.healthy ≡ take l.i (flags_in l.zones.zones (g.V.HealthView.test l.view) l.group)
