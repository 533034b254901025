use Rattle.std.proofs.Common.{◌<◌, ◌∙◌, arith, get_or, length, sym}
use Rattle.policy_select.specs.Records.{data_of}
use Rattle.policy_select.specs.Groups.{sets_in}
use Rattle.policy_select.proofs.Looked.{number_at}
use Rattle.reply_records.proofs.Joined.{valued_at}
use Rattle.reply_records.proofs.chosen.hold_valued.Goals as goal

pub returns-then-count_of-gt0 : goal.returns-then-count_of-gt0
returns-then-count_of-gt0 c =
    let all = sets_in c.args.zones.now.zones c.args.group in
    let places = c.args.places.now in
    let read = c.load_member.ensures in
    let counted = c.count_of.ensures.count read.some.0 read.some.1 in
    let some = c.if-count_of-gt0.true in
    let filled : 0 < length (data_of read.some.0.body) = omega (arith, counted, some) in
    valued_at all places c.loop-place.place-index (get_or places c.loop-place.place-index 0)
    read.some.0 c.load_member.new.scratch
    (number_at places c.loop-place.place-index c.loop-place-test.true)
    (sym read.loaded ∙ read.some.1) read.some.1 filled c.loop-place.invariant
