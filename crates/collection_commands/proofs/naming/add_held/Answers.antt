use Rattle.std.proofs.Common.{◌≡◌}
use Rattle.config_zones.proofs.Rest.{held_so}
use Rattle.record_set.specs.declared.sets.RecordSet.{RecordSet}
use Rattle.collection_commands.proofs.Named.{its_policy}
use Rattle.collection_commands.proofs.naming.add_held.Goals as goal

pub named_by-requires : goal.named_by-requires
named_by-requires c =
    let one = c.requires in
    its_policy one.0 one.2 c.routing.result
    (held_so (λ (s : RecordSet). c.routing.result ≡ s.routing) c.args.scratch.now one.0 one.1
    c.routing.ensures)
