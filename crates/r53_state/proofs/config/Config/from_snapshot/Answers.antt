use Rattle.std.proofs.Common.{◌∙◌, ap}
use Rattle.zone_commands.specs.Configured.{config_of}
use Rattle.r53_state.specs.States.{config_in}
use Rattle.r53_state.proofs.config.Config.from_snapshot.Goals as goal

pub returns-in-Ok-restore-clause-comes_back : goal.returns-in-Ok-restore-clause-comes_back
returns-in-Ok-restore-clause-comes_back c = λ config is.
    ap config_in c.in-Ok-restore.ensures
    ∙ c.one_configuration.ensures c.args.octets.now
    (config_of c.in-Ok.read.0 c.in-Ok.read.1.checks c.in-Ok.read.2) config
    c.in-Ok.ensures.found.snapshot is.snapshot
