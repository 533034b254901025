use Rattle.std.proofs.Common.{◌≡◌, List, Some, subst}
use Rattle.std.specs.Prelude.{slice_get}
use Rattle.check_model.specs.Commands.{given_by}
use Rattle.health_check.proofs.Places.{Held, changed_at}
use Rattle.health_check.proofs.steps.update.Goals as goal

pub returns-clause-items : goal.returns-clause-items
returns-clause-items c =
    let found = c.in-Some.ensures in
    let changes = c.args.changes in
    changed_at c.args.id c.args.list.now.items c.requires.rising c.in-Some.place found.0
    (subst (λ (l : List Held). slice_get l c.in-Some.place ≡ Some (c.args.id, found.0))
    c.deref.ensures.value found.1)
    (given_by changes.inverted changes.disabled changes.threshold changes.children)
    c.index_mut.result.now c.change.new.check c.index_mut.ensures.value c.change.ensures
