use Rattle.std.proofs.Common.{◌≤◌, List, ℕ, length, subst, ◌∙◌}
use Rattle.set_store.proofs.Whole.{all_of, one_held}
use Rattle.set_store.proofs.reads.whole_at.Goals as goal

pub head_at-requires : goal.head_at-requires
head_at-requires c = let it = c.requires in (it.0, it.1)

pub returns : goal.returns
returns c octets holds =
    let it = c.requires in
    let same = one_held c.args.region.now.held c.args.slots.now.items c.args.slot it.0 octets it.1 holds in
    c.head_at.ensures octets holds
    ∙ all_of octets (length c.args.buffer.now)
    (subst (λ (o : List ℕ). length o ≤ length c.args.buffer.now) same it.2)
