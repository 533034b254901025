use Rattle.std.proofs.Common.{◌≡◌, ◌/◌, ◌%◌, ◌+◌, ◌-◌, ◌<◌, ◌⊎◌, max, refl, ap, subst, inl, inr, arith}
use Rattle.std.proofs.lemmas.Bool.{cases_lt}
use Rattle.ip_table.specs.declared.tree.Fork.{Fork}
use Rattle.ip_table.specs.Bits.{width_of, first_bits}
use Rattle.ip_table.specs.Trees.{fork_at, here, child, bit_behind, IsDone}
use Rattle.ip_table.proofs.Visits.{same_way, not_here, next_pair, other_pair, turned, past_deep, visited}
use Rattle.ip_table.proofs.walk.visit.Goals as goal

pub returns-then-shared-place-lt255 : goal.returns-then-shared-place-lt255
returns-then-shared-place-lt255 c =
    let same =
    same_way c.args.prefixes.now c.args.forks.now c.args.address (width_of c.args.address)
    c.args.at (c.requires.tree.each c.args.at c.requires.at) c.args.fork c.requires.fork
    c.args.shared c.requires.shared in
    turned c.args.prefixes.now c.args.forks.now c.args.address c.requires.prefixes c.requires.tree
    c.args.at c.requires.at c.with_apart.result
    (subst (λ (n : Fork). IsDone c.args.prefixes.now c.args.address c.with_apart.result n.row)
    c.requires.fork c.with_apart.ensures.done)
    (λ e. absurd (omega (arith, same.1 e, c.if-shared-place-lt255.true, c.requires.depth, c.requires.place)))
    c.args.walked c.with_apart.ensures.sound c.with_apart.ensures.keeps

pub returns-then-shared-from : goal.returns-then-shared-from
returns-then-shared-from c =
    let ps = c.args.prefixes.now in
    let fs = c.args.forks.now in
    let a = c.args.address in
    let d = (fork_at fs c.args.at).depth in
    let fork = c.requires.tree.each c.args.at c.requires.at in
    let way : first_bits d (here ps fs c.args.at).address ≡ first_bits d a =
    (same_way ps fs a (width_of a) c.args.at fork c.args.fork c.requires.fork c.args.shared
    c.requires.shared).0 (omega (arith, c.if-shared-place-lt255.false, c.requires.depth, c.requires.place)) in
    let done : IsDone ps a c.with_apart-then-shared-from.result (fork_at fs c.args.at).row =
    subst (λ (n : Fork). IsDone ps a c.with_apart-then-shared-from.result n.row) c.requires.fork
    c.with_apart-then-shared-from.ensures.done in
    let deep : d < c.with_apart-then-shared-from.result.past =
    past_deep ps fs a c.requires.prefixes c.requires.tree c.args.at c.requires.at way
    c.with_apart-then-shared-from.result done
    (not_here ps fs a (width_of a) c.args.at fork c.args.fork c.requires.fork c.args.shared
    c.requires.shared (omega (arith, c.if-shared-from.true, c.from.ensures))) in
    let other = child (fork_at fs c.args.at) (1 - bit_behind d a) in
    let past : ((c.with_apart-then-shared-from.result.past ≡ max c.with_apart-then-shared-from.result.past (d + 1)) × (0 < other))
    ⊎ ((c.with_apart-then-shared-from.result.past ≡ c.with_apart-then-shared-from.result.past) × (other ≡ 0)) =
    elim (cases_lt 0 other) [
      | inl some ↦ inl (omega (arith, deep), some)
      | inr none ↦ inr (refl, omega (arith, none))
    ] in
    let pair = next_pair fs a c.args.at c.args.fork c.requires.fork c.args.on c.args.depth
    c.requires.depth c.requires.on c.word_of-child_pair.result c.word_of-child_pair.ensures in
    visited ps fs a c.requires.prefixes c.requires.tree c.args.at c.requires.at way
    c.with_apart-then-shared-from.result c.with_apart-then-shared-from.result other (c.word_of-child_pair.result / 256) refl
    (ap (λ w. w / 256) pair) refl refl past c.args.walked (c.word_of-child_pair.result % 256)
    (ap (λ w. w % 256) pair) c.with_apart-then-shared-from.ensures.sound done c.with_apart-then-shared-from.ensures.keeps

pub returns : goal.returns
returns c =
    let ps = c.args.prefixes.now in
    let fs = c.args.forks.now in
    let a = c.args.address in
    let d = (fork_at fs c.args.at).depth in
    let way : first_bits d (here ps fs c.args.at).address ≡ first_bits d a =
    (same_way ps fs a (width_of a) c.args.at (c.requires.tree.each c.args.at c.requires.at)
    c.args.fork c.requires.fork c.args.shared
    c.requires.shared).0 (omega (arith, c.if-shared-place-lt255.false, c.requires.depth, c.requires.place)) in
    let done : IsDone ps a c.with_row-here.result (fork_at fs c.args.at).row =
    subst (λ (n : Fork). IsDone ps a c.with_row-here.result n.row) c.fork_of-row.ensures
    c.with_row-here.ensures.done in
    let past : ((c.with_other.result.past ≡ max c.with_row-here.result.past (d + 1))
    × (0 < c.other_word.result / 256))
    ⊎ ((c.with_other.result.past ≡ c.with_row-here.result.past) × (c.other_word.result / 256 ≡ 0)) =
    subst (λ k. ((c.with_other.result.past ≡ max c.with_row-here.result.past (k + 1))
    × (0 < c.other_word.result / 256))
    ⊎ ((c.with_other.result.past ≡ c.with_row-here.result.past) × (c.other_word.result / 256 ≡ 0)))
    c.requires.depth c.with_other.ensures.past in
    let pair = next_pair fs a c.args.at c.args.fork c.requires.fork c.args.on c.args.depth
    c.requires.depth c.requires.on c.word_of-child_pair.result c.word_of-child_pair.ensures in
    let other = other_pair fs a c.args.at c.args.fork c.requires.fork c.args.on c.args.depth
    c.requires.depth c.requires.on c.other_word.result
    (c.other_word.ensures c.args.on c.word_of-child_pair.ensures) in
    visited ps fs a c.requires.prefixes c.requires.tree c.args.at c.requires.at way
    c.with_row-here.result c.with_other.result (c.other_word.result / 256)
    (c.word_of-child_pair.result / 256)
    (ap (λ w. w / 256) other) (ap (λ w. w / 256) pair) c.with_other.ensures.found
    c.with_other.ensures.long past c.args.walked (c.word_of-child_pair.result % 256)
    (ap (λ w. w % 256) pair) c.with_row-here.ensures.sound done c.with_row-here.ensures.keeps
