use Rattle.std.proofs.Common.{◌≡◌, ap, length}
use Rattle.config_zones.proofs.Rest.{held_so}
use Rattle.record_set.specs.declared.sets.RecordSet.{RecordSet}
use Rattle.config_zones.specs.Octets.{set_octets}
use Rattle.batch_commands.proofs.Counted.{loads_it, names_it, some_next}
use Rattle.batch_commands.proofs.sizes.octets_of_key.Goals as goal

pub unreachable-requires : goal.unreachable-requires
unreachable-requires c =
    some_next c.args.zones.now.zones c.well_formed-2.ensures c.args.zone c.args.key.now c.requires
    c.in_default.ensures

pub unreachable-requires-then-not-load : goal.unreachable-requires-then-not-load
unreachable-requires-then-not-load c =
    let next = c.in-Some.ensures in
    c.if-not-load.ensures.0 next.1.2.0
    (names_it c.args.zones.now.zones c.well_formed-2.ensures c.args.zone c.args.key.now c.requires
    c.in-Some.set next)

pub returns : goal.returns
returns c =
    let it = loads_it c.args.zones.now.zones c.well_formed-2.ensures c.args.zone c.args.key.now
    c.requires c.in-Some.set c.in-Some.ensures c.load.new.into c.if-not-load.ensures in (
      it.0,
      it.1,
      ap length (held_so (λ (s : RecordSet). c.bytes.result.now ≡ set_octets s) c.load.new.into
          it.0 it.2 c.bytes.ensures),
    )
