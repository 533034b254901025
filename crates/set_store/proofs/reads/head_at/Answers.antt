use Rattle.std.proofs.Common.{min, take, length, ap, ◌∙◌, arith}
use Rattle.set_store.proofs.Reading.{filled}
use Rattle.set_store.proofs.reads.head_at.Goals as goal

pub returns : goal.returns
returns c octets holds =
    let size = c.size_at.ensures octets holds in
    let count = c.min-count.ensures in
    c.front.ensures
    ∙ filled c.min-count.result octets c.args.buffer.now _ c.copy_at.new.into (omega (arith, size, count))
    (omega (arith, count))
    (c.copy_at.ensures octets holds)
    ∙ ap (λ n. take n octets) (count ∙ ap (λ n. min n (length c.args.buffer.now)) size)
