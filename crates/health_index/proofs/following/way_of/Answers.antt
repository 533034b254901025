use Rattle.std.proofs.Common.{◌<◌, length, arith}
use Rattle.std.proofs.lemmas.Bool.{false≢true}
use Rattle.health_index.proofs.Agreed.{no_more, none_same, not_fewer}
use Rattle.health_index.proofs.following.way_of.Goals as goal

pub returns-then-list-ids : goal.returns-then-list-ids
returns-then-list-ids c =
    let a = c.agreeing-same.ensures in
    let apart = c.if-same-ids.false in
    let within = a.ids in
    let early : c.agreeing-same.result < length c.args.ids.now = omega arith in (
      none_same c.args.ids.now c.args.list.now c.agreeing-same.result a.end early,
      (
        no_more c.args.ids.now c.args.list.now c.agreeing-same.result a.end early,
        λ gone fewer. let long = fewer.1.0 in c.if-list-ids.true (omega arith),
      ),
    )

pub returns : goal.returns
returns c =
    let a = c.agreeing-same.ensures in
    let apart = c.if-same-ids.false in
    let within = a.ids in
    let early : c.agreeing-same.result < length c.args.ids.now = omega arith in (
      none_same c.args.ids.now c.args.list.now c.agreeing-same.result a.end early,
      (
        no_more c.args.ids.now c.args.list.now c.agreeing-same.result a.end early,
        λ gone fewer.
            false≢true (c.if-agree_behind.ensures.1 (not_fewer c.args.ids.now c.args.list.now c.agreeing-same.result a.end early gone fewer)),
      ),
    )
