use Rattle.std.proofs.Common.{subst}
use Rattle.r53_state.specs.States.{State, StayReady}
use Rattle.r53_state.proofs.config.Config.prepare.Goals as goal

pub returns-in-Ok-Some-clause-others : goal.returns-in-Ok-Some-clause-others
returns-in-Ok-Some-clause-others c =
    subst (λ (s : State). StayReady s c.make_ready.new.self) c.self.view_is
    c.make_ready.ensures.others

pub returns-in-Ok-None-clause-others : goal.returns-in-Ok-None-clause-others
returns-in-Ok-None-clause-others c =
    subst (λ (s : State). StayReady s c.make_room.new.self) c.self.view_is
    c.make_room.ensures.others
