use Rattle.std.proofs.Common.{◌≡◌}
use Rattle.zone_commands.specs.Configured.{config_of}
use Rattle.r53_state.proofs.Written.{of_it}
use Rattle.r53_state.specs.States.{config_in}
use Rattle.r53_state.proofs.config.Config.snapshot.Goals as goal

pub returns-clause-own : goal.returns-clause-own
returns-clause-own c =
    let told = config_of c.zones.result.now c.checks.result.now.checks c.next_zone.result in
    let same : told ≡ config_in c.args.self.now = cc in
    of_it c.sound_have_snapshots.ensures (config_in c.args.self.now) told
    c.well_formed-2.ensures same c.write_snapshot.result (λ octets. octets.items)
    c.write_snapshot.ensures.spelled
