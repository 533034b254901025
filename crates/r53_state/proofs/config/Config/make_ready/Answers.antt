use Rattle.std.proofs.Common.{subst}
use Rattle.r53_state.specs.States.{State, StayReady}
use Rattle.r53_state.proofs.Staying.{edit_ready, others_ready}
use Rattle.r53_state.proofs.config.Config.make_ready.Goals as goal

pub returns-clause-ready : goal.returns-clause-ready
returns-clause-ready c =
    edit_ready c.args.self.now c.self.inside.zones c.ready.new.self c.self.inside.checks
    c.self.inside.next_zone c.self.inside.told c.self.view_is c.ready.ensures.zones
    c.ready.ensures.collections c.args.command c.requires.bounded c.requires.kind c.args.edit
    c.requires.edit c.in-Ok-ready.ready c.in-Ok-ready.ensures.made c.in-Ok-ready.ensures.ready

pub returns-in_default-clause-others : goal.returns-in_default-clause-others
returns-in_default-clause-others c =
    let state : State = record {
      table = c.self.inside.zones;
      checks = c.self.inside.checks;
      next_zone = c.self.inside.next_zone;
      told = c.self.inside.told;
    } in
    subst (λ (s : State). StayReady s state) c.self.view_is (λ prepared ready. ready)

pub returns-in_default-ready-clause-others : goal.returns-in_default-ready-clause-others
returns-in_default-ready-clause-others c =
    others_ready c.args.self.now c.self.inside.zones c.ready.new.self c.self.inside.checks
    c.self.inside.next_zone c.self.inside.told c.self.view_is c.ready.ensures.zones
    c.ready.ensures.collections c.ready.ensures.others

pub returns-clause-others : goal.returns-clause-others
returns-clause-others c =
    others_ready c.args.self.now c.self.inside.zones c.ready.new.self c.self.inside.checks
    c.self.inside.next_zone c.self.inside.told c.self.view_is c.ready.ensures.zones
    c.ready.ensures.collections c.ready.ensures.others
