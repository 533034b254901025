use Rattle.std.proofs.Common.{◌≡◌, Ok, subst}
use Rattle.cidr_commands.specs.Commands.{outcome}
use Rattle.cidr_commands.specs.Stored.{Stored}
use Rattle.cidr_routing.proofs.collections.Collections.after.Goals as goal

pub stored-requires : goal.stored-requires
stored-requires c =
    let next = c.self.inside.next in
    let after : Stored = record { next = c.in-Ok.next; list = c.in-Ok.list.items } in
    c.commands_keep_sound.ensures (record { next = next; list = c.self.inside.list.items })
    c.args.command.now c.args.used.now after c.self.invariant.0 c.requires.names
    (subst (λ list. outcome (record { next = next; list = list }) c.args.command.now c.args.used.now
    ≡ Ok after) c.deref.ensures.value c.in-Ok.ensures.ok)
