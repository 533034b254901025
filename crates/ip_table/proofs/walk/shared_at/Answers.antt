use Rattle.std.proofs.Common.{◌≡◌, ℕ, ◌+◌, ◌-◌, ◌/◌, ◌^◌, ◌≤◌, ◌↔◌, sym, ◌∙◌, subst, arith}
use Rattle.ip_table.specs.Trees.{prefix_at, window}
use Rattle.ip_table.proofs.FirstBits.{shared_windows, same_windows}
use Rattle.ip_table.proofs.Walks.{width_low}
use Rattle.ip_table.proofs.walk.shared_at.Goals as goal

pub returns-then-fork-window-clause-same : goal.returns-then-fork-window-clause-same
returns-then-fork-window-clause-same c = λ n h.
    let d = c.args.fork.start in
    let r = c.shared_before.result in
    let own = (prefix_at c.args.prefixes.now c.args.fork.row).address in
    let theirs = c.window_of-window.ensures c.args.address c.requires.number in
    shared_windows d own c.args.address c.requires.low c.requires.meets
    r
    (subst (λ w. (m : ℕ) → m ≤ 32
    → (d + m ≤ r ↔ (w / 2 ^ (32 - m) ≡ window d c.args.address / 2 ^ (32 - m))))
    c.requires.window
    (subst (λ w. (m : ℕ) → m ≤ 32
    → (d + m ≤ r ↔ (c.args.fork.window / 2 ^ (32 - m) ≡ w / 2 ^ (32 - m)))) theirs
    c.shared_before.ensures.same))
    (λ e. c.if-fork-window.true (c.requires.window ∙ e ∙ sym theirs))
    n (omega (arith, h, c.requires.prefix.within, width_low own))

pub returns-then-fork-clause-same : goal.returns-then-fork-clause-same
returns-then-fork-clause-same c = λ n h.
    let own = (prefix_at c.args.prefixes.now c.args.fork.row).address in
    let theirs = c.window_of-window.ensures c.args.address c.requires.number in (
      λ few. same_windows c.args.fork.start n own c.args.address c.requires.low c.requires.meets
          (sym c.requires.window ∙ c.if-fork-window.false
          ∙ theirs) (omega (arith, few, c.if-fork.true)),
      λ e. omega (arith, h, c.requires.long),
    )
