use Rattle.std.proofs.Common.{◌≡◌, ◌∙◌, List, Option, Some, ap, subst, sym, Bool, ℕ, true}
use Rattle.serve_turns.specs.LineRecord.TheVariants as line
use Rattle.line_server.proofs.Network.{already, bound, came}
use Rattle.line_server.specs.Leaving.{CameTo}
use Rattle.line_server.specs.Standing.{IsBound}
use Rattle.serve_turns.specs.ServingOfSessionModel.{Datagram}
use Rattle.serve_turns.specs.Steps.{LineSteps}
use Rattle.line_server.proofs.binding.bind_ports.Goals as goal

pub returns-then-bound-clause-leaves : goal.returns-then-bound-clause-leaves
returns-then-bound-clause-leaves g c = λ around old held before is given holds was.
    came c.send_outcome.result c.sent.result (sym c.sent.ensures)
    (LineSteps around (line.Bind c.args.ports) old) (λ (sent : Option (List Datagram)). sent ≡ Some before)
    (IsBound old c.args.bound.now) held before (g.K.Sink.held c.send_outcome.new.out)
    (g.L.Link.sent c.args.link.now)
    (subst (λ (b : Bool). CameTo c.send_outcome.result (LineSteps around (line.Bind c.args.ports) old)
    (IsBound old b) held before (g.K.Sink.held c.send_outcome.new.out)
    (g.L.Link.sent c.args.link.now)) is
    (already around c.args.ports old held before (g.K.Sink.held c.send_outcome.new.out)
    (g.L.Link.sent c.args.link.now) was c.send_outcome.result (is ∙ c.if-bound.true)
    (c.send_outcome.ensures.writes held holds)))

pub returns-in-Ports-clause-leaves : goal.returns-in-Ports-clause-leaves
returns-in-Ports-clause-leaves g c = λ around old held before is given holds was.
    came c.send_outcome-in-Ports.result c.sent-in-Ports.result (sym c.sent-in-Ports.ensures)
    (LineSteps around (line.Bind c.args.ports) old) (λ (sent : Option (List Datagram)). sent ≡ Some before)
    (IsBound old true) held before (g.K.Sink.held c.send_outcome-in-Ports.new.out)
    (g.L.Link.sent c.bind.new.self)
    (bound around c.args.ports old held before (g.K.Sink.held c.send_outcome-in-Ports.new.out)
    (g.L.Link.sent c.bind.new.self) (c.in-Ports.ensures.sent ∙ was) c.send_outcome-in-Ports.result
    (is ∙ c.if-bound.false)
    (record { queries = c.in-Ports.queries; reports = c.in-Ports.reports })
    (ap (λ (p : ℕ × ℕ). record { queries = p.0; reports = p.1 })
    (c.in-Ports.ensures.gives around.given given))
    (c.send_outcome-in-Ports.ensures.writes held holds))
