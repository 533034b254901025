use Rattle.std.proofs.Common.{◌∙◌, get_or, sym}
use Rattle.policy_select.specs.Groups.{sets_in}
use Rattle.policy_select.proofs.Looked.{number_at}
use Rattle.reply_records.proofs.Joined.{least_is}
use Rattle.reply_records.proofs.joint.least_ttl.Goals as goal

pub returns : goal.returns
returns c = λ set others are.
    let all = sets_in c.args.zones.now.zones c.args.group in
    let places = c.args.places.now in
    let read = c.load_member.ensures in
    least_is all places (get_or places 0 0) read.some.0 set others c.ttl_of-least.result
    c.loop-place.least c.loop-place.place-index
    (number_at places 0 c.requires.some) (sym read.loaded ∙ read.some.1)
    (c.ttl_of-least.ensures read.some.0 read.some.1) c.loop-place.invariant
    c.loop-place-test.false are
