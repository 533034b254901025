use Rattle.std.proofs.Common.{◌≡◌, ap, subst, arith, ℕ, List}
use Rattle.check_commands.specs.Counts.{counted, times}
use Rattle.check_commands.proofs.Sums.{told_times, times_told}
use Rattle.check_commands.proofs.named.NamedChecks.is_told.Goals as goal

pub returns : goal.returns
returns c =
    let check = c.args.check in
    let list = c.args.self.now in
    let counts : counted check c.self.inside.uses.items ≡ times check list =
    subst (λ (l : List ℕ). counted check c.self.inside.uses.items ≡ times check l) c.self.view_is
    (c.self.invariant check c.requires.some) in
    let uses : counted check c.deref.result.now ≡ counted check c.self.inside.uses.items =
    ap (counted check) c.deref.ensures.value in (
      λ yes.
          let some = c.is_counted.ensures.0 yes in
          times_told check list (omega (arith, some, uses, counts)),
      λ told.
          let some = told_times list told.0 check c.requires.some told.1 in
          c.is_counted.ensures.1 (omega (arith, some, uses, counts)),
    )
