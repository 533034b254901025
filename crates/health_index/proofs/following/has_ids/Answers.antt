use Rattle.std.proofs.Common.{ℕ, arith, length}
use mathlib.Core.Path.{subst}
use Rattle.std.proofs.lemmas.Bool.{eq-eqb, eqb-true}
use Rattle.health_index.specs.Following.{HaveIds}
use Rattle.health_index.proofs.Kept.{agrees_all}
use Rattle.health_index.proofs.following.has_ids.Goals as goal

pub returns : goal.returns
returns c =
    let a = c.agreeing.ensures in
    let same_len = c.if-list-ids.false in (
      λ t. (
        omega arith,
        subst (λ (n : ℕ). HaveIds c.args.ids.now n c.args.list.now) (eqb-true c.agreeing.result (length c.args.ids.now) t) a.same,
      ),
      λ same. eq-eqb c.agreeing.result (length c.args.ids.now) (agrees_all c.args.ids.now c.args.list.now c.agreeing.result a.ids a.end same),
    )
