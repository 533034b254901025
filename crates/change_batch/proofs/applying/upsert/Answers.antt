use Rattle.std.proofs.Common.{◌∙◌, sym, subst}
use Rattle.set_search.specs.Sets.{key_of}
use Rattle.batch_limits.specs.Changing.{Makes}
use Rattle.set_search.specs.Found.{FindsAt}
use Rattle.change_batch.proofs.Told.{put_in_place}
use Rattle.zone_rules.specs.Lent.{sets_lent}
use Rattle.change_batch.proofs.applying.upsert.Goals as goal

pub returns-in-Ok-clause-ok : goal.returns-in-Ok-clause-ok
returns-in-Ok-clause-ok c =
    let given = c.args.change.now.set in
    let sets = sets_lent c.args.sets.now.items in
    let found : FindsAt sets (key_of given) c.in-Ok.place = c.in-Ok.ensures in (
      c.requires.inside,
      subst (λ a. Makes a given sets c.args.apex.now (sets_lent c.replace_at.new.sets.items))
          (sym c.requires.action)
          (c.replace_at.ensures ∙ put_in_place sets given c.in-Ok.place found),
    )
