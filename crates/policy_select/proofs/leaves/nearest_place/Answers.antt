use Rattle.std.proofs.Common.{take}
use Rattle.std.specs.Option.{option_copied}
use Rattle.answer_model.specs.Choice.{each}
use Rattle.answer_model.specs.Policies.{place_of}
use Rattle.policy_select.specs.Groups.{flags_in, sets_in}
use Rattle.policy_select.proofs.Nearby.{chosen_noted}
use Rattle.policy_select.proofs.leaves.nearest_place.Goals as goal

pub returns-clause-nearest : goal.returns-clause-nearest
returns-clause-nearest g c =
    let zones = c.args.zones.now.zones in
    let count = c.in-Listed.count in
    chosen_noted (option_copied c.args.location) (each place_of c.args.first.now (sets_in zones c.args.group))
    (flags_in zones (g.V.HealthView.test c.args.view.now) c.args.group) (take count c.note_near.new.places)
    (take count c.note_near.new.healthy) (take count c.note_near.new.sets) c.choose_place-nearest.result
    c.place_noted.result c.in-Listed.ensures.noted c.choose_place-nearest.ensures.chosen c.place_noted.ensures
