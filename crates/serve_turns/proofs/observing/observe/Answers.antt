use Rattle.std.proofs.Common.{◌∷◌, subst, sym}
use Rattle.health_model.specs.Statuses.{Report}
use Rattle.session_model.specs.Engine.{Engine}
use Rattle.session_model.specs.ReportedRecord.TheVariants as reported
use Rattle.r53_core.specs.Stores.{StandsFor}
use Rattle.serve_turns.proofs.Going.{reported_so}
use Rattle.serve_turns.proofs.Health.{settled_still}
use Rattle.serve_turns.proofs.Reports.{no_check, no_checker}
use Rattle.serve_turns.specs.Settled.{AreSettled, Serves}
use Rattle.serve_turns.proofs.observing.observe.Goals as goal

pub returns-then-not-is_same_status-clause-taken : goal.returns-then-not-is_same_status-clause-taken
returns-then-not-is_same_status-clause-taken c = λ engine tables serves.
    let its = c.in-Taken.ensures.reports engine serves.stands in (
      c.in-Some.seen,
      (sym c.in-Some.ensures.same, its.1.0),
      record {
        stands = subst (λ (e : Engine). StandsFor e c.take_once.new.store) its.1.2 its.2;
        settled = λ kept keeps. absurd (c.clear.ensures kept keeps);
      },
    )

pub returns-else-not-is_same_status-clause-taken : goal.returns-else-not-is_same_status-clause-taken
returns-else-not-is_same_status-clause-taken c = λ engine tables serves.
    let its = c.in-Taken.ensures.reports engine serves.stands in
    let seen = c.in-Some.seen in
    let report : Report = record { check = seen.id; checker = seen.checker; pass = seen.pass } in
    let stands = subst (λ (e : Engine). StandsFor e c.take_once.new.store) its.1.2 its.2 in (
      seen,
      (sym c.in-Some.ensures.same, its.1.0),
      record {
        stands = stands;
        settled = settled_still engine tables report c.args.replies.now its.1.0 c.check_status-before.result
            c.check_status.result (c.check_status-before.ensures engine serves.stands)
            (c.check_status.ensures (record engine { reports = report ∷ engine.reports }) stands)
            (c.is_same_status.ensures c.if-not-is_same_status.false) serves.settled;
      },
    )

pub returns-in-NoSuchHealthCheck-clause-taken : goal.returns-in-NoSuchHealthCheck-clause-taken
returns-in-NoSuchHealthCheck-clause-taken c = λ engine tables serves.
    let its = c.in-NoSuchHealthCheck.ensures.reports engine serves.stands in
    no_check engine its.0 c.args.datagram.now c.in-Some.seen
    (λ after. Serves after tables c.take_once.new.store c.args.replies.now) (sym c.in-Some.ensures.same)
    (record {
      stands = its.2;
      settled = subst (λ (e : Engine). AreSettled e tables c.args.replies.now) (sym its.1.1) serves.settled;
    })
    its.1

pub returns-in-BadChecker-clause-taken : goal.returns-in-BadChecker-clause-taken
returns-in-BadChecker-clause-taken c = λ engine tables serves.
    let its = c.in-BadChecker.ensures.reports engine serves.stands in
    no_checker engine its.0 c.args.datagram.now c.in-Some.seen
    (λ after. Serves after tables c.take_once.new.store c.args.replies.now) (sym c.in-Some.ensures.same)
    (record {
      stands = its.2;
      settled = subst (λ (e : Engine). AreSettled e tables c.args.replies.now) (sym its.1.2) serves.settled;
    })
    its.1 c.in-Some.ensures.checker

pub returns-then-not-is_same_status-clause-reports : goal.returns-then-not-is_same_status-clause-reports
returns-then-not-is_same_status-clause-reports c = λ engine stands.
    let its = c.in-Taken.ensures.reports engine stands in
    reported_so engine its.0 c.in-Some.seen reported.Taken c.take_once.new.store its.1 its.2

pub returns-else-not-is_same_status-clause-reports : goal.returns-else-not-is_same_status-clause-reports
returns-else-not-is_same_status-clause-reports c = λ engine stands.
    let its = c.in-Taken.ensures.reports engine stands in
    reported_so engine its.0 c.in-Some.seen reported.Taken c.take_once.new.store its.1 its.2

pub returns-in-NoSuchHealthCheck-clause-reports : goal.returns-in-NoSuchHealthCheck-clause-reports
returns-in-NoSuchHealthCheck-clause-reports c = λ engine stands.
    let its = c.in-NoSuchHealthCheck.ensures.reports engine stands in
    reported_so engine its.0 c.in-Some.seen reported.NoSuchHealthCheck c.take_once.new.store its.1
    its.2

pub returns-in-BadChecker-clause-reports : goal.returns-in-BadChecker-clause-reports
returns-in-BadChecker-clause-reports c = λ engine stands.
    let its = c.in-BadChecker.ensures.reports engine stands in
    reported_so engine its.0 c.in-Some.seen reported.BadChecker c.take_once.new.store its.1 its.2
