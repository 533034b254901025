use Rattle.std.proofs.Common.{◌+◌, ◌*◌}
use Rattle.policy_select.proofs.descent.+descend_from.Given as goal

abbrev pub decreases-descend_from : goal.decreases-descend_from
decreases-descend_from g l = 2 * l.most + 1

abbrev pub decreases-descend_on : goal.decreases-descend_on
decreases-descend_on g l = 2 * l.most
