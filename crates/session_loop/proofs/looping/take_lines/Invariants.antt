use Rattle.line_splitting.specs.Reading.{steps}
use Rattle.session_loop.proofs.Loop.{Going}
use Rattle.session_loop.proofs.looping.take_lines.Given as goal

abbrev pub invariant-loop-ended : goal.invariant-loop-ended
invariant-loop-ended g l = Going g.S.Source.left g.S.Source.faults g.D.Disk.reading g.D.Disk.images
    g.D.Disk.faults g.L.Link.ports g.L.Link.coming g.L.Link.sent g.L.Link.faults g.R.Rng.stream
    g.K.Sink.held g.K.Sink.faults l.fn.reader l.reader l.fn.server l.server l.fn.input l.input l.fn.a
    l.a l.fn.b l.b l.fn.link l.link l.fn.words l.words l.fn.out l.out

abbrev pub decreases-loop-ended : goal.decreases-loop-ended
decreases-loop-ended g l = steps l.reader
