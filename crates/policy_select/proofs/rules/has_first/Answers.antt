use Rattle.std.proofs.Common.{arith}
use Rattle.policy_select.specs.Groups.{sets_in}
use Rattle.policy_select.proofs.Targets.{as_many, first_there}
use Rattle.policy_select.proofs.rules.has_first.Goals as goal

pub returns : goal.returns
returns c =
    let many = as_many c.args.zones.now.zones c.args.group c.requires.group in
    let some = c.requires.some in
    first_there (sets_in c.args.zones.now.zones c.args.group) (omega (arith, many, some))
