use Rattle.std.proofs.Common.{◌≡◌, ◌<◌, ◌^◌, sym, subst, inl, inr, arith}
use Rattle.ip_table.specs.Bits.{width_of, first_bits}
use Rattle.ip_table.specs.Trees.{IsTrueOf, fork_at, here}
use Rattle.ip_table.proofs.FirstBits.{no_bits}
use Rattle.ip_table.proofs.Octets.{number_low}
use Rattle.ip_table.proofs.Sums.{sound_nothing, finish}
use Rattle.ip_table.proofs.Walks.{shallow}
use Rattle.ip_table.proofs.walk.walk.Goals as goal

pub loop-address-init : goal.loop-address-init
loop-address-init c =
    let a = c.args.address in
    let root = c.requires.tree.each 0 c.requires.some in
    let own = (here c.args.prefixes.now c.args.forks.now 0).address in
    record {
      within = c.requires.some;
      level = omega (arith, c.requires.tree.root);
      meets = subst (λ n. first_bits n own ≡ first_bits n a) (sym c.requires.tree.begin)
          (no_bits own a
          (number_low own
          (c.requires.prefixes (fork_at c.args.forks.now 0).row root.row).octets)
          (subst (λ n. n < 2 ^ 128) c.number_of-number.ensures (omega arith)));
      sound = subst (λ s. IsTrueOf c.args.prefixes.now a s) (sym c.nothing-walked.ensures)
          (sound_nothing c.args.prefixes.now a);
      each = λ row h family. inl (c.requires.all row h family (λ e. absurd (omega arith)));
    }

pub returns-then-visited-eq0 : goal.returns-then-visited-eq0
returns-then-visited-eq0 c =
    let e = c.at_fork-visited.ensures in
    finish _ c.args.forks.now _ c.at_fork-visited.result.next _ c.if-visited-eq0.true e.sound
    (λ row h family. e.each row h family (c.loop-address.invariant.each row h family))

pub loop-address-smaller : goal.loop-address-smaller
loop-address-smaller c =
    let goes = c.at_fork-visited.ensures.goes (omega arith) in
    omega (
      arith,
      goes.deeper,
      shallow c.args.prefixes.now c.args.forks.now (width_of c.args.address) c.requires.prefixes
          c.requires.tree
          c.at_fork-visited.result.next goes.within,
    )

pub loop-address-preserved : goal.loop-address-preserved
loop-address-preserved c =
    let e = c.at_fork-visited.ensures in
    let goes = e.goes (omega arith) in
    record {
      within = goes.within;
      level = e.place (omega arith);
      meets = goes.meets;
      sound = e.sound;
      each = λ row h family.
          elim (e.each row h family (c.loop-address.invariant.each row h family)) [
            | inl ahead ↦ inl ahead.1
            | inr done ↦ inr done
          ];
    }
