use Rattle.std.proofs.Common.{◌≡◌, ◌<◌, ◌∙◌, List, sym, ap, subst, arith}
use Rattle.ip_table.specs.declared.tree.Fork.{Fork}
use Rattle.ip_table.specs.Bits.{width_of}
use Rattle.ip_table.specs.Prefixes.{Prefix}
use Rattle.ip_table.specs.Trees.{IsCarried, prefix_at, fork_at}
use Rattle.ip_table.proofs.Placing.{carried_on, goes_deeper}
use Rattle.ip_table.proofs.place.settle.Goals as goal

pub returns-clause-carried : goal.returns-clause-carried
returns-clause-carried c =
    let width = width_of (prefix_at c.args.prefixes.now c.args.carried).address in
    subst (λ r. IsCarried c.args.prefixes.now c.put_row.new.forks.items width c.args.at r)
    (sym c.put_row.ensures.taken)
    (carried_on c.args.prefixes.now c.args.forks.now.items width c.args.at c.args.carried
    c.requires.prefixes c.requires.carried
    c.put_row.new.forks.items c.put_row.ensures.items)

pub returns-clause-deeper : goal.returns-clause-deeper
returns-clause-deeper c =
    let width = width_of (prefix_at c.args.prefixes.now c.args.carried).address in
    let short : (prefix_at c.args.prefixes.now c.args.carried).length
    ≡ (fork_at c.args.forks.now.items c.args.at).depth = omega (
      arith,
      c.if-fork_of-length.false,
      c.requires.carried.long,
      c.length.ensures.value,
      ap (λ (p : Prefix). p.length) c.prefix_of.ensures,
      ap (λ (n : Fork). n.depth) (c.fork_of.ensures
          ∙ ap (λ (ns : List Fork). fork_at ns c.args.at) c.deref.ensures.value),
    ) in
    subst (λ r. (fork_at c.put_row.new.forks.items c.args.at).depth <
    (prefix_at c.args.prefixes.now r).length) (sym c.put_row.ensures.taken)
    (goes_deeper c.args.prefixes.now c.args.forks.now.items width c.args.at c.args.carried
    c.requires.prefixes c.requires.carried
    c.put_row.new.forks.items c.put_row.ensures.items c.requires.apart short)
