use Rattle.std.proofs.Common.{arith, ap, ◌∙◌, take, drop}
use Rattle.line_splitting.proofs.Windows.{grown}
use Rattle.line_splitting.proofs.window.Window.take_from.Goals as goal

pub returns-in-Bytes-clause-takes : goal.returns-in-Bytes-clause-takes
returns-in-Bytes-clause-takes g c = λ left h.
    grown left c.args.self.now.waiting c.move_to_front-len.new.buffer c.read_behind.new.buffer _ _
    c.in-Bytes.n c.move_to_front-len.result c.self.inside.buffer.len
    (ap (λ j. take j c.move_to_front-len.new.buffer) c.move_to_front-len.ensures.len
    ∙ c.move_to_front-len.ensures.front ∙ ap (λ b. drop c.self.inside.start (take c.self.inside.end b)) c.as_mut_slice-buffer.ensures.value
    ∙ ap (λ w. w.waiting) c.self.view_is)
    (omega (arith, c.in-Bytes.ensures.grows.1, c.in-Bytes.ensures.size))
    (c.in-Bytes.ensures.size ∙ c.move_to_front-len.ensures.size
    ∙ c.as_mut_slice-buffer.ensures.len) (c.in-Bytes.ensures.takes left h)
