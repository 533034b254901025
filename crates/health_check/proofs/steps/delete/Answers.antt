use Rattle.std.proofs.Common.{◌≡◌, ◌∙◌, List, Some, subst}
use Rattle.std.specs.Prelude.{slice_get}
use Rattle.health_check.proofs.Places.{Held, taken_at}
use Rattle.health_check.proofs.steps.delete.Goals as goal

pub returns-clause-items : goal.returns-clause-items
returns-clause-items c =
    let found = c.in-Some.ensures in
    c.remove.ensures.by_index.2
    ∙ taken_at c.args.id c.args.list.now.items c.requires.rising c.in-Some.place found.0
    (subst (λ (l : List Held). slice_get l c.in-Some.place ≡ Some (c.args.id, found.0))
    c.deref.ensures.value found.1)
