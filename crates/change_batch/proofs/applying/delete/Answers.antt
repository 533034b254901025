use Rattle.std.proofs.Common.{◌∙◌, sym, subst, arith}
use Rattle.set_search.specs.Sets.{key_of}
use Rattle.batch_limits.specs.Changing.{Makes, IsThereAsGiven}
use Rattle.set_search.specs.Found.{FindsAt}
use Rattle.change_batch.proofs.Told.{removed}
use Rattle.zone_rules.specs.Lent.{sets_lent}
use Rattle.change_batch.proofs.applying.delete.Goals as goal

pub returns-clause-ok : goal.returns-clause-ok
returns-clause-ok c =
    let given = c.args.change.now.set in
    let sets = sets_lent c.args.sets.now.items in
    let found : FindsAt sets (key_of given) c.in-Ok.place = c.in-Ok.ensures in
    let there : IsThereAsGiven sets given =
    subst (λ s. IsThereAsGiven (sets_lent s) given) c.as_slice.ensures.value
    (c.is_as_given.ensures.0 c.if-not-is_as_given.false) in
    let not_protected = c.if-is_protected.false in (
      c.requires.inside,
      subst (λ a. Makes a given sets c.args.apex.now (sets_lent c.take_away.new.sets.items))
          (sym c.requires.action) (
            there,
            (λ h. let t = c.is_protected.ensures.1 h in grind (arith, t, not_protected)),
            c.take_away.ensures ∙ removed sets (key_of given) c.in-Ok.place found,
          ),
    )
