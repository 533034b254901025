use Rattle.zone_soundness.proofs.Answered.{is, isnt}
use Rattle.config_model.specs.Walks.{HasNoTarget}
use Rattle.zone_soundness.proofs.Firsts.{none_of, not_none}
use Rattle.zone_soundness.proofs.together.are_led.Goals as goal

pub returns-in-Some : goal.returns-in-Some
returns-in-Some c =
    isnt (not_none (HasNoTarget c.args.sets.now) c.args.sets.now c.in-Some.field-0
    c.in-Some.ensures)

pub returns-in-None : goal.returns-in-None
returns-in-None c = is (none_of (HasNoTarget c.args.sets.now) c.args.sets.now c.in-None.ensures)
