use Rattle.std.proofs.Common.{◌≡◌, ℕ, ◌+◌, ◌-◌, ◌/◌, ◌^◌, ◌≤◌, ◌↔◌, ◌∙◌, ap, subst, arith}
use Rattle.ip_table.specs.Bits.{first_bits}
use Rattle.ip_table.specs.Trees.{prefix_at, window}
use Rattle.ip_table.proofs.FirstBits.{shared_within}
use Rattle.ip_table.proofs.walk.shared_at_first.Goals as goal

pub returns-clause-same : goal.returns-clause-same
returns-clause-same c = λ n h.
    let r = c.shared_before.result in
    let a = c.args.address in
    let own = (prefix_at c.args.prefixes.now c.args.fork.row).address in
    let ours : c.args.fork.window ≡ window 0 own =
    c.requires.window ∙ ap (λ s. window s own) c.requires.flat in
    shared_within 0 own a (omega arith)
    (subst (λ s. first_bits s own ≡ first_bits s a) c.requires.flat c.requires.meets) r
    (subst (λ w. (m : ℕ) → m ≤ 32
    → (0 + m ≤ r ↔ (w / 2 ^ (32 - m) ≡ window 0 a / 2 ^ (32 - m)))) ours
    (subst (λ w. (m : ℕ) → m ≤ 32
    → (0 + m ≤ r ↔ (c.args.fork.window / 2 ^ (32 - m) ≡ w / 2 ^ (32 - m)))) c.requires.first
    c.shared_before.ensures.same))
    n (omega (arith, h, c.requires.few))
