use Rattle.answer_model.specs.Choice.{chosen}
use Rattle.answer_model.specs.Clients.{client_with}
use Rattle.policy_select.specs.Groups.{flags_in, sets_in}
use Rattle.policy_select.proofs.Choosing.{holds_front, places_are}
use Rattle.policy_select.proofs.descent.choose_at.Goals as goal

pub load_first-requires-clause-there : goal.load_first-requires-clause-there
load_first-requires-clause-there g c =
    places_are c.chosen_are_of_group.ensures c.args.zones.now.zones
    (g.V.HealthView.test c.args.view.now) c.args.group
    (client_with c.args.tables.now c.args.zones.now.collections.list c.args.client).rows c.args.word
    c.choose-selected.result c.choose-selected.ensures.selected c.requires.group

pub load_first-requires-clause-front : goal.load_first-requires-clause-front
load_first-requires-clause-front g c = λ held.
    (let zones = c.args.zones.now.zones in
    holds_front zones c.args.group
    (chosen (sets_in zones c.args.group)
    (flags_in zones (g.V.HealthView.test c.args.view.now) c.args.group)
    (client_with c.args.tables.now c.args.zones.now.collections.list c.args.client).rows c.args.word)
    c.choose-selected.result c.choose-selected.new.scratch c.choose-selected.ensures.selected
    (c.choose-selected.ensures.held held))

pub returns-clause-places : goal.returns-clause-places
returns-clause-places g c =
    places_are c.chosen_are_of_group.ensures c.args.zones.now.zones
    (g.V.HealthView.test c.args.view.now) c.args.group
    (client_with c.args.tables.now c.args.zones.now.collections.list c.args.client).rows c.args.word
    c.choose-selected.result c.choose-selected.ensures.selected c.requires.group
