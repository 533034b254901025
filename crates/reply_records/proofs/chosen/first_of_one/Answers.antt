use Rattle.std.proofs.Common.{◌<◌, arith, length}
use Rattle.policy_select.specs.Records.{data_of}
use Rattle.reply_records.proofs.Joined.{starts_one}
use Rattle.reply_records.proofs.chosen.first_of_one.Goals as goal

pub returns : goal.returns
returns c = λ set held.
    let counted = c.count_of.ensures.count set held in
    let some = c.if-count_of-eq0.false in
    let filled : 0 < length (data_of set.body) = omega (arith, counted, some) in
    starts_one c.args.scratch.now set c.ttl_of.result held filled (c.ttl_of.ensures set held)
