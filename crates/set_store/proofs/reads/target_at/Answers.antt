use Rattle.std.proofs.Common.{subst, sym, arith}
use Rattle.set_store.specs.Stored.{Spells}
use Rattle.set_store.proofs.reads.target_at.Goals as goal

pub whole_at-requires : goal.whole_at-requires
whole_at-requires c =
    let it = c.requires in
    let size = c.size_at.ensures it.0 it.1 in
    let test = c.if-size_at-le-FEW.true in
    (it.0, it.1, omega (arith, size, test))

pub returns-then-size_at-le-FEW : goal.returns-then-size_at-le-FEW
returns-then-size_at-le-FEW c octets set holds spells =
    c.target_in.ensures set (subst (λ o. Spells o set) (sym (c.whole_at.ensures octets holds)) spells)
