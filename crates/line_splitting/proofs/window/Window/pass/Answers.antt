use Rattle.std.proofs.Common.{ap, arith}
use Rattle.line_splitting.proofs.Windows.{passed}
use Rattle.line_splitting.proofs.window.Window.pass.Goals as goal

pub returns : goal.returns
returns c =
    let i = c.self.invariant in
    passed c.args.self.now c.self.inside.buffer.items c.self.inside.start c.self.inside.end
    c.args.line c.args.gone (ap (λ w. w.waiting) c.self.view_is) (omega (arith, i.2)) (omega (arith, i.0, i.3))
    c.requires.line
