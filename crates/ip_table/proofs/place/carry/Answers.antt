use Rattle.std.proofs.Common.{◌≡◌, ◌∙◌, ◌<◌, ◌≤◌, ◌↔◌, ℕ, List, sym, ap, subst, arith}
use Rattle.ip_table.specs.declared.tree.Fork.{Fork}
use Rattle.ip_table.specs.Bits.{width_of, number_of, first_bits}
use Rattle.ip_table.specs.Prefixes.{Prefix}
use Rattle.ip_table.specs.Trees.{prefix_at, fork_at, here, child, bit_behind, leaf, linked, pair_of}
use Rattle.ip_table.proofs.Placing.{Fits, is_grown, leaf_fits, between_fits, further}
use Rattle.ip_table.proofs.place.carry.Goals as goal

pub returns-then-next-eq0-clause-added : goal.returns-then-next-eq0-clause-added
returns-then-next-eq0-clause-added c = λ zero.
    let ps = c.args.prefixes.now in
    let forks = c.args.forks.now.items in
    let own = prefix_at ps c.args.carried in
    let fork_is : c.fork_of-fork.result ≡ fork_at forks c.args.above =
    c.fork_of-fork.ensures
    ∙ ap (λ (ns : List Fork). fork_at ns c.args.above) c.deref.ensures.value in
    let bit_is : c.bit_of-bit.result ≡ bit_behind (fork_at forks c.args.above).depth own.address =
    c.bit_of-bit.ensures own.address
    (c.number_of.ensures
    ∙ ap number_of (c.address-2.ensures.value
    ∙ ap (λ (p : Prefix). p.address) c.prefix_of-prefix.ensures))
    ∙ ap (λ (n : Fork). bit_behind n.depth own.address) fork_is in
    let free : child (fork_at forks c.args.above) c.bit_of-bit.result ≡ 0 =
    sym (c.child_of-next.ensures ∙ ap (λ (n : Fork). child n c.bit_of-bit.result) fork_is)
    ∙ c.if-next-eq0.true in
    let own_is : c.address.result ≡ own.address =
    c.address.ensures.value ∙ ap (λ (p : Prefix). p.address) c.prefix_of-prefix.ensures in
    let start = c.start_below-start.result in
    let up : start ≤ (fork_at forks c.args.above).depth =
    omega (arith, c.start_below-start.ensures.up, ap (λ (n : Fork). n.depth) fork_is) in
    let flat : width_of own.address ≡ 32 → start ≡ 0 =
    λ v4. c.start_below-start.ensures.flat (ap width_of own_is ∙ v4) in
    let leaf_is : c.leaf.result ≡ leaf ps start own.length c.args.carried =
    c.leaf.ensures
    ∙ ap (λ l. leaf ps start l c.args.carried)
    (c.length.ensures.value ∙ ap (λ (p : Prefix). p.length) c.prefix_of-prefix.ensures) in
    is_grown ps forks (width_of own.address) c.args.above c.args.carried c.requires.prefixes
    c.requires.carried c.bit_of-bit.result bit_is
    c.leaf.result
    (subst (λ n. Fits ps forks c.args.above c.bit_of-bit.result c.args.carried n) (sym leaf_is)
    (leaf_fits ps forks (width_of own.address) c.args.above c.args.carried c.requires.prefixes
    c.requires.carried start c.start_below-start.ensures.low up flat c.bit_of-bit.result free
    c.requires.deeper))
    c.add_fork.new.forks.items c.add_fork.ensures.items

pub returns-then-depth-below-clause-added : goal.returns-then-depth-below-clause-added
returns-then-depth-below-clause-added c = λ zero.
    let ps = c.args.prefixes.now in
    let forks = c.args.forks.now.items in
    let own = prefix_at ps c.args.carried in
    let fork_is : c.fork_of-fork.result ≡ fork_at forks c.args.above =
    c.fork_of-fork.ensures
    ∙ ap (λ (ns : List Fork). fork_at ns c.args.above) c.deref.ensures.value in
    let bit_is : c.bit_of-bit.result ≡ bit_behind (fork_at forks c.args.above).depth own.address =
    c.bit_of-bit.ensures own.address
    (c.number_of.ensures
    ∙ ap number_of (c.address-2.ensures.value
    ∙ ap (λ (p : Prefix). p.address) c.prefix_of-prefix.ensures))
    ∙ ap (λ (n : Fork). bit_behind n.depth own.address) fork_is in
    let next_is : c.child_of-next.result ≡ child (fork_at forks c.args.above) c.bit_of-bit.result =
    c.child_of-next.ensures ∙ ap (λ (n : Fork). child n c.bit_of-bit.result) fork_is in
    let some : 0 < c.child_of-next.result = omega arith in
    let below_is : c.fork_of-below.result ≡ fork_at forks c.child_of-next.result =
    c.fork_of-below.ensures
    ∙ ap (λ (ns : List Fork). fork_at ns c.child_of-next.result) c.deref-2.ensures.value in
    let same = subst (λ (n : Fork). (m : ℕ) → m ≤ 128
    → (m ≤ c.shared_with-depth.result
    ↔ ((m ≤ own.length)
    × (first_bits m (prefix_at ps n.row).address ≡ first_bits m own.address)))) below_is
    c.shared_with-depth.ensures in
    let own_is : c.address.result ≡ own.address =
    c.address.ensures.value ∙ ap (λ (p : Prefix). p.address) c.prefix_of-prefix.ensures in
    let start = c.start_below-start.result in
    let up : start ≤ (fork_at forks c.args.above).depth =
    omega (arith, c.start_below-start.ensures.up, ap (λ (n : Fork). n.depth) fork_is) in
    let flat : width_of own.address ≡ 32 → start ≡ 0 =
    λ v4. c.start_below-start.ensures.flat (ap width_of own_is ∙ v4) in
    let between_is : c.between.result
    ≡ linked (leaf ps start c.shared_with-depth.result c.args.carried)
    (bit_behind c.shared_with-depth.result (here ps forks c.child_of-next.result).address)
    (pair_of c.child_of-next.result (fork_at forks c.child_of-next.result).depth) =
    c.between.ensures
    ∙ ap (λ (n : Fork).
    linked (leaf ps start c.shared_with-depth.result c.args.carried)
    (bit_behind c.shared_with-depth.result (prefix_at ps n.row).address)
    (pair_of c.child_of-next.result n.depth)) below_is in
    is_grown ps forks (width_of own.address) c.args.above c.args.carried c.requires.prefixes
    c.requires.carried c.bit_of-bit.result bit_is
    c.between.result
    (subst (λ n. Fits ps forks c.args.above c.bit_of-bit.result c.args.carried n) (sym between_is)
    (between_fits ps forks (width_of own.address) c.args.above c.args.carried c.requires.prefixes
    c.requires.carried c.bit_of-bit.result
    c.child_of-next.result c.shared_with-depth.result
    bit_is next_is some c.requires.deeper same
    start c.start_below-start.ensures.low up flat
    (omega (arith, c.if-depth-below.true, ap (λ (n : Fork). n.depth) below_is))))
    c.add_fork-then-depth-below.new.forks.items c.add_fork-then-depth-below.ensures.items

pub returns-clause-on : goal.returns-clause-on
returns-clause-on c = λ on.
    let ps = c.args.prefixes.now in
    let forks = c.args.forks.now.items in
    let own = prefix_at ps c.args.carried in
    let fork_is : c.fork_of-fork.result ≡ fork_at forks c.args.above =
    c.fork_of-fork.ensures
    ∙ ap (λ (ns : List Fork). fork_at ns c.args.above) c.deref.ensures.value in
    let bit_is : c.bit_of-bit.result ≡ bit_behind (fork_at forks c.args.above).depth own.address =
    c.bit_of-bit.ensures own.address
    (c.number_of.ensures
    ∙ ap number_of (c.address-2.ensures.value
    ∙ ap (λ (p : Prefix). p.address) c.prefix_of-prefix.ensures))
    ∙ ap (λ (n : Fork). bit_behind n.depth own.address) fork_is in
    let next_is : c.child_of-next.result ≡ child (fork_at forks c.args.above) c.bit_of-bit.result =
    c.child_of-next.ensures ∙ ap (λ (n : Fork). child n c.bit_of-bit.result) fork_is in
    let some : 0 < c.child_of-next.result = omega arith in
    let below_is : c.fork_of-below.result ≡ fork_at forks c.child_of-next.result =
    c.fork_of-below.ensures
    ∙ ap (λ (ns : List Fork). fork_at ns c.child_of-next.result) c.deref-2.ensures.value in
    let same = subst (λ (n : Fork). (m : ℕ) → m ≤ 128
    → (m ≤ c.shared_with-depth.result
    ↔ ((m ≤ own.length)
    × (first_bits m (prefix_at ps n.row).address ≡ first_bits m own.address)))) below_is
    c.shared_with-depth.ensures in
    further ps forks (width_of own.address) c.args.above c.args.carried c.requires.prefixes
    c.requires.carried c.bit_of-bit.result
    c.child_of-next.result c.shared_with-depth.result
    bit_is next_is some c.requires.deeper same
    (omega (arith, c.if-depth-below.false, ap (λ (n : Fork). n.depth) below_is))
