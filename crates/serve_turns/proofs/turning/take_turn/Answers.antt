use Rattle.std.proofs.Common.{◌∙◌, ap, refl, sym, take}
use Rattle.std.specs.Prelude.{if◌then◌else◌}
use Rattle.session_model.specs.TurnsRecord.{Turns}
use Rattle.serve_turns.proofs.Going.{stays}
use Rattle.serve_turns.proofs.Packets.{turned as packet_turned}
use Rattle.serve_turns.proofs.Reports.{turned as report_turned}
use Rattle.session_model.specs.Serving.{reported_too, unknown_too}
use Rattle.serve_turns.specs.Settled.{Serves}
use Rattle.serve_turns.proofs.turning.take_turn.Goals as goal

pub returns-in-Dns-clause-leaves : goal.returns-in-Dns-clause-leaves
returns-in-Dns-clause-leaves g c = λ before old arrivals stands_for stands.
    let came = c.in-Dns.ensures.gives arrivals stands.coming in
    packet_turned c.answer.result c.args.tables.now before c.in-Dns.peer
    (take c.in-Dns.len c.receive.new.into) came.0 came.3.1 old arrivals came.1 came.2
    (λ engine. Serves engine c.args.tables.now c.answer.new.store c.answer.new.replies)
    (record {
      words = g.R.Rng.stream c.answer.new.words;
      turns = c.answer.new.turns;
      coming = g.L.Link.coming c.answer.new.link;
      sent = g.L.Link.sent c.answer.new.link;
    })
    (c.answer.ensures.leaves before old came.1 stands_for (record {
      words = stands.words;
      turns = stands.turns;
      coming = came.4;
      sent = c.in-Dns.ensures.sent ∙ stands.sent;
    }))

pub returns-in-Report-clause-leaves : goal.returns-in-Report-clause-leaves
returns-in-Report-clause-leaves g c = λ before old arrivals stands_for stands.
    let came = c.in-Report.ensures.gives arrivals stands.coming in
    report_turned c.args.tables.now before old arrivals came.1 came.0 c.front.result.now
    (c.front.ensures ∙ came.3.1) came.2
    (λ engine. Serves engine c.args.tables.now c.observe-taken.new.store c.observe-taken.new.replies)
    (record {
      words = g.R.Rng.stream c.args.words.now;
      turns = c.count_report.new.turns;
      coming = g.L.Link.coming c.receive.new.self;
      sent = g.L.Link.sent c.receive.new.self;
    })
    c.observe-taken.result (c.observe-taken.ensures.taken old.engine c.args.tables.now stands_for)
    (record {
      words = stands.words;
      turns = refl;
      coming = came.4;
      sent = c.in-Report.ensures.sent ∙ stands.sent;
    })
    (c.count_report.ensures ∙ ap (λ (t : Turns). if c.observe-taken.result then reported_too t
    else unknown_too t) (sym stands.turns))

pub returns-in-Quiet-clause-reports : goal.returns-in-Quiet-clause-reports
returns-in-Quiet-clause-reports g c = stays c.args.store.now c.args.store.now refl

pub returns-in-Closed-clause-reports : goal.returns-in-Closed-clause-reports
returns-in-Closed-clause-reports g c = stays c.args.store.now c.args.store.now refl

pub returns-in-Failed-clause-reports : goal.returns-in-Failed-clause-reports
returns-in-Failed-clause-reports g c = stays c.args.store.now c.args.store.now refl
