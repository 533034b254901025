use Rattle.session_run.proofs.Opened.{from_fresh}
use Rattle.session_run.proofs.running.go_on.Goals as goal

pub returns-clause-leaves : goal.returns-clause-leaves
returns-clause-leaves g c = λ around start left held before same stands files ports has tells was.
    from_fresh g.D.Disk.images c.take_lines.new.a c.take_lines.new.b around start held before
    (g.S.Source.left c.take_lines.new.input) (g.L.Link.coming c.take_lines.new.link)
    (g.R.Rng.stream c.take_lines.new.words) (g.K.Sink.held c.take_lines.new.out)
    (g.L.Link.sent c.take_lines.new.link) c.fresh_reader.ensures c.take_lines.result
    c.args.reader.now c.requires.reader left
    (c.take_lines.ensures.leaves around start left held before same stands files ports has tells was)
