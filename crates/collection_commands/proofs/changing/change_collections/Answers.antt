use Rattle.collection_commands.proofs.Changed.{made_whole}
use Rattle.collection_commands.proofs.changing.change_collections.Goals as goal

pub returns-in-Ok-after : goal.returns-in-Ok-after
returns-in-Ok-after c = λ checks next.
    made_whole c.args.zones.now c.args.command.now checks next c.collections.result.now
    c.collections.ensures c.in-Ok.used.items c.in-Ok.ensures c.as_slice.result.now
    c.as_slice.ensures.value c.in-Ok-after.after c.in-Ok-after.ensures
