use Rattle.std.proofs.Common.{subst}
use Rattle.zone_soundness.proofs.Answered.{is}
use Rattle.alias_tree.specs.Firsts.{IsFirstPlace}
use Rattle.config_model.specs.Walks.{IsTooDeep}
use Rattle.zone_soundness.proofs.Firsts.{none_of}
use Rattle.zone_soundness.proofs.together.are_shallow.Goals as goal

pub returns-in-None : goal.returns-in-None
returns-in-None c =
    is (none_of (IsTooDeep c.args.sets.now) c.args.sets.now
    (subst (IsFirstPlace (IsTooDeep c.args.sets.now) c.args.sets.now) c.in-None.is
    c.in_ok-walk_of_17.ensures))
