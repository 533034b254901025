use Rattle.std.proofs.Common.{length, ap, subst, sym, arith}
use Rattle.set_store.specs.Stored.{Spells}
use Rattle.set_store.proofs.reads.is_long_alias.Goals as goal

pub whole_at-requires : goal.whole_at-requires
whole_at-requires c =
    let it = c.requires in
    let room = c.room_in.ensures in
    let short = it.2.1.has_spelling.short in
    let same = ap length it.2.1.same in
    (it.0, it.1, omega (arith, room, short, same))

pub returns : goal.returns
returns c octets set holds spells =
    c.is_alias_in.ensures set (subst (λ o. Spells o set) (sym (c.whole_at.ensures octets holds)) spells)
