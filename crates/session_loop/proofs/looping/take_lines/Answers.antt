use Rattle.std.proofs.Common.{◌∙◌, ◌++◌, [], Some, ap, arith, refl, sym}
use Rattle.session_loop.proofs.Files.{files_join, one_more}
use Rattle.session_loop.proofs.Joining.{ends_join, goes_join}
use Rattle.session_loop.proofs.Loop.{at_first}
use Rattle.session_loop.proofs.looping.take_lines.Goals as goal

pub loop-ended-init : goal.loop-ended-init
loop-ended-init g c = record {
  stands = c.requires.stands;
  holds = λ held. held;
  makes = λ engine stands. (engine, ([], refl), stands);
  tables = refl;
  same_ports = refl;
  in_counts = omega arith;
  a_counts = omega arith;
  b_counts = omega arith;
  link_counts = omega arith;
  out_counts = omega arith;
  goes = λ around start left held before same stands files ports has tells was.
      at_first around c.args.reader.now left (g.S.Source.left c.args.input.now) start
      c.args.server.now (g.L.Link.coming c.args.link.now) (g.R.Rng.stream c.args.words.now) held
      before (g.K.Sink.held c.args.out.now) (g.L.Link.sent c.args.link.now) has stands tells was;
}

pub loop-ended-preserved : goal.loop-ended-preserved
loop-ended-preserved g c = record {
  stands = c.in-None.ensures.stands refl;
  holds = λ held. c.in-None.ensures.holds (c.loop-ended.invariant.holds held) refl;
  makes = λ engine stands.
      let so_far = c.loop-ended.invariant.makes engine stands in
      let its = c.in-None.ensures.made refl so_far.0 so_far.2 in
      (its.0, one_more engine.config so_far.0.config its.0.config so_far.1 its.1, its.2);
  tables = c.take_next.ensures.tables ∙ c.loop-ended.invariant.tables;
  same_ports = c.take_next.ensures.ports ∙ c.loop-ended.invariant.same_ports;
  in_counts = omega (arith, c.loop-ended.invariant.in_counts, c.take_next.ensures.in_counts);
  a_counts = omega (arith, c.loop-ended.invariant.a_counts, c.take_next.ensures.a_counts);
  b_counts = omega (arith, c.loop-ended.invariant.b_counts, c.take_next.ensures.b_counts);
  link_counts = omega (arith, c.loop-ended.invariant.link_counts, c.take_next.ensures.link_counts);
  out_counts = omega (arith, c.loop-ended.invariant.out_counts, c.take_next.ensures.out_counts);
  goes = λ around start left held before same stands files ports has tells was.
      let so_far = c.loop-ended.invariant.goes around start left held before same stands files ports has tells was in
      goes_join around c.args.reader.now c.loop-ended.reader left
      (g.S.Source.left c.loop-ended.input) start c.loop-ended.server (g.L.Link.coming c.loop-ended.link)
      (g.R.Rng.stream c.loop-ended.words) held before (g.K.Sink.held c.loop-ended.out)
      (g.L.Link.sent c.loop-ended.link) so_far
      c.take_next.new.reader (g.S.Source.left c.take_next.new.input) c.take_next.new.server (g.L.Link.coming c.take_next.new.link)
      (g.R.Rng.stream c.take_next.new.words) (g.K.Sink.held c.take_next.new.out) (g.L.Link.sent c.take_next.new.link)
      (c.in-None.ensures.leaves around so_far.session.new so_far.rest (held ++ so_far.session.output)
      (before ++ so_far.session.sent) (same ∙ sym c.loop-ended.invariant.tables) so_far.stands
      (c.loop-ended.invariant.holds files) (c.loop-ended.invariant.same_ports ∙ ports) so_far.has
      so_far.told.replies so_far.told.datagrams);
}

pub returns-in-Some-clause-leaves : goal.returns-in-Some-clause-leaves
returns-in-Some-clause-leaves g c = λ around start left held before same stands files ports has tells was.
    let so_far = c.loop-ended.invariant.goes around start left held before same stands files ports has tells was in
    ends_join around c.args.reader.now c.loop-ended.reader left
    (g.S.Source.left c.loop-ended.input) start c.loop-ended.server (g.L.Link.coming c.loop-ended.link)
    (g.R.Rng.stream c.loop-ended.words) held before (g.K.Sink.held c.loop-ended.out)
    (g.L.Link.sent c.loop-ended.link) so_far
    g.D.Disk.images c.take_next.new.a c.take_next.new.b (g.S.Source.left c.take_next.new.input)
    (g.L.Link.coming c.take_next.new.link) (g.R.Rng.stream c.take_next.new.words)
    (g.K.Sink.held c.take_next.new.out) (g.L.Link.sent c.take_next.new.link) c.in-Some.ended
    (λ is. c.take_next.ensures.going (c.in-Some.is ∙ ap Some is))
    (c.in-Some.ensures.leaves around so_far.session.new so_far.rest (held ++ so_far.session.output)
    (before ++ so_far.session.sent) (same ∙ sym c.loop-ended.invariant.tables) so_far.stands
    (c.loop-ended.invariant.holds files) (c.loop-ended.invariant.same_ports ∙ ports) so_far.has
    so_far.told.replies so_far.told.datagrams)

pub returns-in-Some-clause-files : goal.returns-in-Some-clause-files
returns-in-Some-clause-files g c = λ engine stands held.
    let so_far = c.loop-ended.invariant.makes engine stands in
    files_join g.D.Disk.images c.take_next.new.a c.take_next.new.b c.in-Some.ended engine.config
    so_far.0.config so_far.1
    (c.in-Some.ensures.files so_far.0 so_far.2 (c.loop-ended.invariant.holds held))
