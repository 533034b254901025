use Rattle.std.proofs.Common.{ap, sym, ◌∙◌, arith, ◌<◌}
use Rattle.line_splitting.proofs.Turns.{at_limit, reads_on, read_nearer, failed_nearer, took}
use Rattle.line_splitting.proofs.reader.LineReader.read_on.Goals as goal

pub returns-then-self-eq0-clause-answers : goal.returns-then-self-eq0-clause-answers
returns-then-self-eq0-clause-answers g c =
    at_limit c.args.self.now c.requires.no_end (sym (ap (λ r. r.ended) c.self.view_is)
    ∙ c.if-self.false)
    (sym (ap (λ r. r.budget) c.self.view_is) ∙ c.if-self-eq0.true)

pub returns-in-Bytes-clause-answers : goal.returns-in-Bytes-clause-answers
returns-in-Bytes-clause-answers g c =
    let e = sym (ap (λ r. r.ended) c.self.view_is) ∙ c.if-self.false in
    let some : 0 < c.args.self.now.budget =
    omega (arith, c.if-self-eq0.false, ap (λ r. r.budget) c.self.view_is) in (
      reads_on c.args.self.now c.requires.no_end e some,
      read_nearer c.args.self.now c.make_room.new.self _ c.take_from.new.self c.in-Bytes.n
          c.make_room.ensures c.self-2.view_is e c.in-Bytes.ensures.grows.1 c.in-Bytes.ensures.grows.0,
    )

pub returns-in-Failed-clause-answers : goal.returns-in-Failed-clause-answers
returns-in-Failed-clause-answers g c =
    let e = sym (ap (λ r. r.ended) c.self.view_is) ∙ c.if-self.false in
    let some : 0 < c.args.self.now.budget =
    omega (arith, c.if-self-eq0.false, ap (λ r. r.budget) c.self.view_is) in (
      reads_on c.args.self.now c.requires.no_end e some,
      failed_nearer c.args.self.now c.make_room.new.self _ c.take_from.new.self
          c.make_room.ensures c.self-2.view_is c.in-Failed.ensures.grows,
    )

pub returns-in-Bytes-clause-leaves : goal.returns-in-Bytes-clause-leaves
returns-in-Bytes-clause-leaves g c = λ left h.
    let e = sym (ap (λ r. r.ended) c.self.view_is) ∙ c.if-self.false in
    let some : 0 < c.args.self.now.budget =
    omega (arith, c.if-self-eq0.false, ap (λ r. r.budget) c.self.view_is) in
    took c.args.self.now c.make_room.new.self _ c.take_from.new.self left _ c.in-Bytes.n
    c.make_room.ensures c.self-2.view_is e some c.in-Bytes.ensures.grows.0
    (c.in-Bytes.ensures.takes left h)
