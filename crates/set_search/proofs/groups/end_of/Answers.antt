use Rattle.std.proofs.Common.{◌+◌, ◌∙◌, arith, sym}
use Rattle.std.proofs.lemmas.Option.{slice_get_within}
use Rattle.set_search.proofs.Beside.{ends_before, ends_last}
use Rattle.set_search.proofs.Lookups.{filled}
use Rattle.set_search.proofs.groups.end_of.Goals as goal

pub overflow_add-next : goal.overflow_add-next
overflow_add-next g c =
    let member = c.requires.member in
    let within = slice_get_within (g.S.SetList.sets c.args.sets.now) c.args.place member.0 member.1 in
    let size = c.count-size.ensures in
    omega (arith, within, size)

pub returns-then-next-size : goal.returns-then-next-size
returns-then-next-size g c =
    let size = c.count-size.ensures in
    let last = c.if-next-size.true in
    ends_last c.args.name.now c.args.rtype (g.S.SetList.sets c.args.sets.now) c.requires.rising
    c.args.place c.requires.member (omega (arith, size, last))

pub returns-then-are_told_apart : goal.returns-then-are_told_apart
returns-then-are_told_apart g c =
    let sets = g.S.SetList.sets c.args.sets.now in
    let size = c.count-size.ensures in
    let more = c.if-next-size.false in
    let member = c.requires.member in
    let y = filled sets (c.args.place + 1) (omega (arith, size, more)) in
    (ends_before c.args.name.now c.args.rtype sets c.requires.rising c.args.place member
    (c.args.place + 1) y.0 (omega arith) y.1
    (λ is. c.are_told_apart.ensures c.if-are_told_apart.true member.0 y.0 member.1 y.1
    (member.2.0 ∙ sym is.0))).bracket
