use Rattle.std.proofs.Common.{◌∙◌, get_or, sym}
use Rattle.policy_select.specs.Groups.{sets_in}
use Rattle.policy_select.proofs.Looked.{number_at}
use Rattle.reply_records.proofs.Joined.{have_not, have_so}
use Rattle.reply_records.proofs.joint.is_in_sets.Goals as goal

pub returns-then-has_value : goal.returns-then-has_value
returns-then-has_value c =
    let all = sets_in c.args.zones.now.zones c.args.group in
    let places = c.args.places.now in
    let i = c.loop-place.place-index in
    let read = c.load_member.ensures in
    sym (have_so all places i (get_or places i 0) read.some.0 c.args.rdata.now
    (number_at places i c.loop-place-test.true) (sym read.loaded ∙ read.some.1)
    (sym (c.has_value.ensures read.some.0 read.some.1) ∙ c.if-has_value.true))
    ∙ c.loop-place.invariant

pub loop-place-preserved : goal.loop-place-preserved
loop-place-preserved c =
    let all = sets_in c.args.zones.now.zones c.args.group in
    let places = c.args.places.now in
    let i = c.loop-place.place-index in
    let read = c.load_member.ensures in
    sym (have_not all places i (get_or places i 0) read.some.0 c.args.rdata.now
    (number_at places i c.loop-place-test.true) (sym read.loaded ∙ read.some.1)
    (sym (c.has_value.ensures read.some.0 read.some.1) ∙ c.if-has_value.false))
    ∙ c.loop-place.invariant
