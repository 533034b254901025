use Rattle.std.proofs.Common.{List, ℕ, subst, ◌∙◌}
use Rattle.dump_sending.proofs.Hosted.{held_type}
use Rattle.set_sending.specs.Passing.{PassesOn}
use Rattle.dump_sending.proofs.sets.send_at.Goals as goal

pub returns-clause-passes : goal.returns-clause-passes
returns-clause-passes g c = λ set at.
    let is = c.hold_at.ensures.held ∙ at in
    let one = c.hold_at.ensures.spelled in
    let of_type = held_type c.hold_at.new.scratch set one.0 is one.1 one.2 in
    subst (λ (line : List ℕ). PassesOn (g.K.Sink.held c.args.out.now) c.args.text.now.items
    (g.K.Sink.held c.send_held.new.out) c.send_held.new.text.items c.send_held.result line)
    (c.set_lines_are_whole.ensures c.args.zone set of_type) (c.send_held.ensures.passes set is)
