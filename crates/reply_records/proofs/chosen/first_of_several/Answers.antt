use Rattle.policy_select.proofs.Targets.{of_one_type}
use Rattle.policy_select.specs.Groups.{sets_in}
use Rattle.reply_records.specs.Chosen.{sets_of_places}
use Rattle.reply_records.proofs.Joined.{sets_among, several_start}
use Rattle.reply_records.proofs.chosen.first_of_several.Goals as goal

pub returns-then-hold_valued : goal.returns-then-hold_valued
returns-then-hold_valued c =
    let zones = c.args.zones.now.zones in
    let all = sets_in zones c.args.group in
    let places = c.args.places.now in
    several_start (sets_of_places zones c.args.group places) c.hold_valued.new.scratch
    c.least_ttl-ttl.result
    (λ a b at_a at_b. of_one_type c.types_have_their_own_number.ensures zones c.args.group
    c.requires.group a b (sets_among all places a at_a) (sets_among all places b at_b))
    c.least_ttl-ttl.ensures c.if-hold_valued.ensures
