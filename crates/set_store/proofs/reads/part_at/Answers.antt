use Rattle.std.proofs.Common.{◌-◌, arith, ap, ◌∙◌, length, min}
use Rattle.set_store.proofs.Policies.{none_behind, part_filled}
use Rattle.set_store.proofs.reads.part_at.Goals as goal

pub returns-then-offset-size : goal.returns-then-offset-size
returns-then-offset-size c octets holds =
    let size = c.size_at-size.ensures octets holds in
    let test = c.if-offset-size.true in
    c.front.ensures
    ∙ none_behind octets c.args.offset (length c.args.buffer.now) (omega (arith, size, test))

pub returns : goal.returns
returns c octets holds =
    let size = c.size_at-size.ensures octets holds in
    let test = c.if-offset-size.false in
    c.front-2.ensures
    ∙ part_filled c.min-count.result c.args.offset octets c.args.buffer.now _ c.copy_part.new.into
    (omega (arith, size, test))
    (c.min-count.ensures
    ∙ ap (λ n. min (n - c.args.offset) (length c.args.buffer.now)) size)
    (c.copy_part.ensures octets holds)
