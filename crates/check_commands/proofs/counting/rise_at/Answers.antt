use Rattle.std.proofs.Common.{◌≡◌, ◌+◌, ◌∙◌, ap, sym, arith}
use Rattle.check_commands.proofs.Sums.{raised, read_at, with_count}
use Rattle.check_commands.specs.declared.counting.CheckUse.{CheckUse}
use Rattle.check_commands.proofs.counting.rise_at.Goals as goal

pub returns-clause-more : goal.returns-clause-more
returns-clause-more c = λ yes other.
    let p = c.requires.place in
    let uses = c.args.uses.now.items in
    let read = ap (λ (u : CheckUse). u.count)
    (read_at uses c.args.place p.0 c.index-one.result.now p.1 c.index-one.ensures) in
    let sum = c.in-Some.ensures in
    let count : p.0.count + 1 ≡ c.in-Some.count = omega (arith, sum, read) in
    with_count uses c.args.place c.args.check c.in-Some.count (p.0.count + 1) (sym count) other
    ∙ raised uses c.args.place c.args.check p.0 p.1 p.2 other
