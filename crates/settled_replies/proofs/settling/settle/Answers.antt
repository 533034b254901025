use Rattle.std.proofs.Common.{refl}
use Rattle.dns_message.specs.declared.query.QueryRead.TheVariants as read
use Rattle.query_engine.specs.Asking.{served_by}
use Rattle.query_engine.specs.Served.{hosted_of}
use Rattle.settled_replies.proofs.Lasting.{answers_all, if_some, settled_all}
use Rattle.settled_replies.proofs.Cases.{fail, no_bad, no_query, none_found, of_query}
use Rattle.settled_replies.proofs.settling.settle.Goals as goal

pub returns-in-Query-clause-answers : goal.returns-in-Query-clause-answers
returns-in-Query-clause-answers g c =
    let zones = hosted_of c.args.zones.now.zones in
    if_some c.settle_query.result (λ its healthy agrees. answers_all zones c.args.zones.now.collections.list healthy
    c.args.tables.now c.args.packet.now c.read_over.new.query its.0 c.settle_query.new.reply.bytes
    c.in-Query.ensures.judges (its.1 healthy agrees) its.2) c.settle_query.ensures.settled

pub returns-in-Query-clause-settled : goal.returns-in-Query-clause-settled
returns-in-Query-clause-settled g c =
    let zones = hosted_of c.args.zones.now.zones in
    if_some c.settle_query.result (λ its healthy agrees. settled_all zones c.args.zones.now.collections.list healthy
    c.args.tables.now c.args.packet.now c.read_over.new.query its.0 c.settle_query.new.reply.bytes
    c.in-Query.ensures.judges (its.1 healthy agrees) its.2) c.settle_query.ensures.settled

pub returns-in-Silent-clause-exact : goal.returns-in-Silent-clause-exact
returns-in-Silent-clause-exact g c = λ healthy agrees.
    let served = served_by c.args.zones.now.zones c.args.zones.now.collections.list healthy c.args.tables.now in
    fail none_found (no_query c.one_judgement.ensures served c.args.packet.now read.Silent c.in-Silent.ensures.judges refl)

pub returns-in-Bad-clause-exact : goal.returns-in-Bad-clause-exact
returns-in-Bad-clause-exact g c = λ healthy agrees.
    let served = served_by c.args.zones.now.zones c.args.zones.now.collections.list healthy c.args.tables.now in
    fail none_found (no_bad c.one_judgement.ensures served c.args.packet.now _ _ _ _ c.in-Bad.ensures.judges)

pub returns-in-BadVersion-clause-exact : goal.returns-in-BadVersion-clause-exact
returns-in-BadVersion-clause-exact g c = λ healthy agrees.
    let served = served_by c.args.zones.now.zones c.args.zones.now.collections.list healthy c.args.tables.now in
    fail none_found (no_query c.one_judgement.ensures served c.args.packet.now (read.BadVersion c.read_over.new.query)
    c.in-BadVersion.ensures.judges refl)

pub returns-in-Query-clause-exact : goal.returns-in-Query-clause-exact
returns-in-Query-clause-exact g c = λ healthy agrees.
    let served = served_by c.args.zones.now.zones c.args.zones.now.collections.list healthy c.args.tables.now in
    of_query c.one_judgement.ensures served c.args.packet.now c.read_over.new.query c.in-Query.ensures.judges
    (c.settle_query.ensures.exact healthy agrees)
