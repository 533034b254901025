use Rattle.std.proofs.Common.{◌≡◌, ◌<◌, ◌∙◌, length, sym, ap, subst, arith}
use Rattle.std.proofs.lemmas.Bool.{false≢true}
use Rattle.std.proofs.lemmas.Bool.Decides.{nat_tests}
use Rattle.ip_table.specs.declared.tree.Fork.{Fork}
use Rattle.ip_table.specs.Bits.{width_of, number_of}
use Rattle.ip_table.specs.Prefixes.{Prefix}
use Rattle.ip_table.specs.Trees.{StandsBelow, IsChild, here, prefix_at, fork_at, child, bit_behind}
use Rattle.ip_table.proofs.Finding.{not_there, stands_on}
use Rattle.ip_table.proofs.Walks.{shallow}
use Rattle.ip_table.proofs.walk.is_there.Goals as goal
use Rattle.ip_table.proofs.walk.is_there.Goals.{After-child_of-next}

pub returns-then-is_empty : goal.returns-then-is_empty
returns-then-is_empty c = (
  λ t. absurd (false≢true t),
  λ has. absurd
      (not_there c.args.prefixes.now c.args.forks.now c.args.prefix (grind (arith, nat_tests))
      c.requires.all has),
)

-- the row that stands here has another prefix
other : (c : After-child_of-next)
    → here c.args.prefixes.now c.args.forks.now c.loop-prefix.at ≡ c.args.prefix → ⊥
other c same =
    let row : c.prefix_of.result ≡ here c.args.prefixes.now c.args.forks.now c.loop-prefix.at =
    c.prefix_of.ensures
    ∙ ap (λ (n : Fork). prefix_at c.args.prefixes.now n.row) c.fork_of-fork.ensures in
    absurd (false≢true (sym c.if-is_same.false ∙ c.is_same.ensures.1 (row ∙ same)))

next_is : (c : After-child_of-next)
    → c.child_of-next.result ≡ child (fork_at c.args.forks.now c.loop-prefix.at)
    (bit_behind (fork_at c.args.forks.now c.loop-prefix.at).depth c.args.prefix.address)
next_is c =
    c.child_of-next.ensures
    ∙ ap (child c.fork_of-fork.result)
    (c.bit_of.ensures c.args.prefix.address (c.number_of-number.ensures
    ∙ ap number_of c.address.ensures.value))
    ∙ ap (λ (n : Fork). child n (bit_behind n.depth c.args.prefix.address)) c.fork_of-fork.ensures

kid : (c : After-child_of-next) → 0 < c.child_of-next.result
    → IsChild c.args.prefixes.now c.args.forks.now c.loop-prefix.at
    (bit_behind (fork_at c.args.forks.now c.loop-prefix.at).depth c.args.prefix.address)
    c.child_of-next.result
kid c some =
    let bit = bit_behind (fork_at c.args.forks.now c.loop-prefix.at).depth c.args.prefix.address in
    let low : bit < 2 = omega arith in
    subst (λ i. IsChild c.args.prefixes.now c.args.forks.now c.loop-prefix.at bit i)
    (sym (next_is c))
    ((c.requires.tree.each c.loop-prefix.at c.loop-prefix.invariant.within).children bit low
    (subst (λ i. 0 < i) (next_is c) some))

pub returns-then-next-eq0 : goal.returns-then-next-eq0
returns-then-next-eq0 c =
    let s = (goal.at.returns-then-next-eq0 c).After-child_of-next in (
      λ t. absurd (false≢true t),
      λ has. absurd (omega (
        arith,
        sym (next_is s) ∙ c.if-next-eq0.true,
        (stands_on c.args.prefixes.now c.args.forks.now c.args.prefix c.requires.prefixes
            c.requires.tree c.loop-prefix.at
            c.loop-prefix.invariant.within (other s) has.0 has.2
            (c.loop-prefix.invariant.ahead has.0 has.1 has.2)).0,
      )),
    )

pub loop-prefix-init : goal.loop-prefix-init
loop-prefix-init c =
    let some : 0 < length c.args.forks.now = grind (arith, nat_tests) in
    record {
      within = some;
      ahead = λ row h same. c.requires.all row h (ap (λ (q : Prefix). width_of q.address) same)
          (λ e. absurd (omega arith));
    }

pub loop-prefix-preserved : goal.loop-prefix-preserved
loop-prefix-preserved c =
    let s = (goal.at.loop-prefix-preserved c).After-child_of-next in
    record {
      within = (kid s (omega arith)).within;
      ahead = λ row h same. subst (λ i. StandsBelow c.args.forks.now i row) (sym (next_is s))
          (stands_on c.args.prefixes.now c.args.forks.now c.args.prefix c.requires.prefixes
          c.requires.tree c.loop-prefix.at
          c.loop-prefix.invariant.within (other s) row same
          (c.loop-prefix.invariant.ahead row h same)).1;
    }

pub loop-prefix-smaller : goal.loop-prefix-smaller
loop-prefix-smaller c =
    let s = (goal.at.loop-prefix-smaller c).After-child_of-next in
    let next = kid s (omega arith) in
    omega (
      arith,
      next.deeper,
      shallow c.args.prefixes.now c.args.forks.now (width_of c.args.prefix.address)
          c.requires.prefixes c.requires.tree
          c.child_of-next.result next.within,
    )
