use Rattle.std.proofs.Common.{arith}
use Rattle.policy_select.specs.Zones.{placed_in}
use Rattle.health_planning.proofs.Unwatched.{none_evaluates}
use Rattle.health_planning.proofs.listing.has_aliases.Goals as goal

pub returns : goal.returns
returns c none p here =
    let aliases = c.aliases-aliases.ensures in
    let no_aliases = c.if-aliases-gt0.false in
    none_evaluates (placed_in c.args.zones.now.zones c.args.zone) p (omega (arith, aliases, no_aliases)) here
