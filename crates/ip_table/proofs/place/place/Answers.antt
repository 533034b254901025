use Rattle.std.proofs.Common.{◌≡◌, refl, sym, subst, arith}
use Rattle.ip_table.specs.Bits.{first_bits}
use Rattle.ip_table.specs.Trees.{prefix_at, fork_at, here}
use Rattle.ip_table.proofs.FirstBits.{no_bits}
use Rattle.ip_table.proofs.Octets.{number_low}
use Rattle.ip_table.proofs.place.place.Goals as goal

pub loop-row-init : goal.loop-row-init
loop-row-init c =
    let ps = c.args.prefixes.now in
    let forks = c.args.forks.now.items in
    let own = (prefix_at ps c.args.row).address in
    let root = c.requires.tree.each 0 c.requires.some in
    record {
      carried = record {
        tree = c.requires.tree;
        within = c.requires.row;
        family = refl;
        fresh = c.requires.fresh;
        inside = c.requires.some;
        steps = 0;
        leads = refl;
        bits = subst (λ d. first_bits d (here ps forks 0).address
            ≡ first_bits d own) (sym c.requires.tree.root)
            (no_bits _ own
            (number_low _ (c.requires.prefixes (fork_at forks 0).row root.row).octets)
            (number_low own (c.requires.prefixes c.args.row c.requires.row).octets));
        long = omega (arith, c.requires.tree.root);
        others = c.requires.others;
      };
      long = refl;
      len = refl;
      room = refl;
    }
