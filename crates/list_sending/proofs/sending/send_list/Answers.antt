use Rattle.std.proofs.Common.{subst, sym}
use Rattle.session_model.specs.Replies.{list_text_of}
use Rattle.whole_writing.specs.Output.{OutputOf}
use Rattle.list_sending.proofs.sending.send_list.Goals as goal

pub returns-in-Some-clause-writes : goal.returns-in-Some-clause-writes
returns-in-Some-clause-writes g c = λ held is.
    let zones = c.args.zones.now.zones in
    let found = c.zones_are_found.ensures.found zones c.args.asked.now.zone c.in-Some.field-0
    c.well_formed-2.ensures c.in-Some.ensures in
    subst (λ z. OutputOf held (g.K.Sink.held c.send_page.new.out) c.send_page.result
    (list_text_of c.args.asked.now z)) (sym found) (c.send_page.ensures.writes held is)
