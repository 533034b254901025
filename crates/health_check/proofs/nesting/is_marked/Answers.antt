use Rattle.std.proofs.Common.{false, sym, arith}
use Rattle.std.proofs.lemmas.Option.{slice_get_within}
use Rattle.health_check.proofs.Marked.{mark_at, no_mark}
use Rattle.health_check.proofs.nesting.is_marked.Goals as goal

pub returns-in-Some : goal.returns-in-Some
returns-in-Some c =
    let found = c.in-Some.ensures in
    let lt = slice_get_within c.args.list.now c.in-Some.place (c.args.id, found.0) found.1 in
    let le = c.requires.marks in
    sym (mark_at c.args.list.now c.args.marks.now c.requires.rising c.in-Some.place c.args.id
    found.0 false found.1 (omega (arith, lt, le)))

pub returns-in-None : goal.returns-in-None
returns-in-None c = sym (no_mark c.args.list.now c.args.marks.now c.args.id c.in-None.ensures)
