use Rattle.std.proofs.Common.{◌≡◌, ◌∙◌, ap, sym, arith, ℕ}
use Rattle.std.specs.Prelude.{◌==◌}
use Rattle.check_commands.specs.Counts.{counted, one_if, told_at}
use Rattle.check_commands.proofs.Sums.{times_set}
use Rattle.check_commands.proofs.named.put.Goals as goal

pub returns-then-not-turn-clause-counted : goal.returns-then-not-turn-clause-counted
returns-then-not-turn-clause-counted c = λ check some.
    ap (counted check) (c.turn.ensures.same c.if-not-turn.true)
    ∙ (c.requires.counted check some ∙ sym (c.reach.ensures.times check some))

pub returns-clause-counted : goal.returns-clause-counted
returns-clause-counted c = λ check some.
    let there = c.reach.ensures.there c.if-not-reach.false in
    let len = c.reach.new.list.ok.0 in
    let now = times_set c.reach.new.list.items c.args.slot c.args.check check
    (omega (arith, there, len)) in
    let was : one_if (told_at c.reach.new.list.items c.args.slot == check)
    ≡ one_if (c.told-was.result == check) =
    ap (λ (n : ℕ). one_if (n == check)) (c.reach.ensures.told c.args.slot
    ∙ sym (c.told-was.ensures ∙ ap (λ l. told_at l c.args.slot) c.deref.ensures.value)) in
    let turned = c.turn.ensures.turned c.if-not-turn.false check some in
    let before = c.requires.counted check some in
    let same = c.reach.ensures.times check some in
    omega (arith, now, was, turned, before, same)
