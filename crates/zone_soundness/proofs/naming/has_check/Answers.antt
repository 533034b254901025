use Rattle.std.proofs.Common.{ap}
use Rattle.std.specs.Option.{option_copied}
use Rattle.zone_soundness.proofs.Answered.{is}
use Rattle.zone_soundness.proofs.There.{check_there}
use Rattle.zone_soundness.proofs.naming.has_check.Goals as goal

pub returns-in-Some-get : goal.returns-in-Some-get
returns-in-Some-get c =
    is (check_there c.args.checks.now.checks.list c.args.named c.in-Some.id
    (option_copied c.get.result) c.in-Some.is c.get.ensures.check _
    (ap option_copied c.in-Some-get.is))
