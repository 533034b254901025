use Rattle.std.proofs.Common.{◌+◌, ◌*◌}
use Rattle.query_engine.proofs.steps.+look_up.Given as goal

abbrev pub decreases-look_up : goal.decreases-look_up
decreases-look_up g l = 2 * l.most + 1

abbrev pub decreases-follow_cname : goal.decreases-follow_cname
decreases-follow_cname g l = 2 * l.most
