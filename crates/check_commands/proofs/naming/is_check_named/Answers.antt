use Rattle.check_commands.proofs.Looked.{used_or_not}
use Rattle.check_commands.proofs.naming.is_check_named.Goals as goal

pub returns-in-Some : goal.returns-in-Some
returns-in-Some c =
    used_or_not c.args.zones.now.zones c.args.uses.now c.args.id c.well_formed-2.ensures c.requires.known
    c.in-Some.used c.in-Some.ensures
