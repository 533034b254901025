use Rattle.std.proofs.Common.{sym}
use Rattle.alias_links.specs.After.{changed_in}
use Rattle.batch_commands.proofs.Linked.{all_led, no_target_at, target_at}
use Rattle.batch_commands.proofs.links.target_refusal.Goals as goal

pub returns-then-are_led : goal.returns-then-are_led
returns-then-are_led c =
    sym (all_led
    (changed_in c.args.zones.now.zones c.args.zone c.args.remove.now c.args.add.now)
    (c.are_led.ensures c.if-are_led.true))

pub returns-in-Some : goal.returns-in-Some
returns-in-Some c =
    sym (target_at
    (changed_in c.args.zones.now.zones c.args.zone c.args.remove.now c.args.add.now)
    c.in-Some.key c.in-Some.ensures)

pub returns-in-None : goal.returns-in-None
returns-in-None c =
    sym (no_target_at
    (changed_in c.args.zones.now.zones c.args.zone c.args.remove.now c.args.add.now)
    c.in-None.ensures)
