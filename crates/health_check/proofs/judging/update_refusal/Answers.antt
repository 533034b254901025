use Rattle.std.proofs.Common.{ℕ, List, get_or, ap, ◌∙◌}
use Rattle.std.proofs.lemmas.Option.{get_or_from_slice_get}
use Rattle.check_model.specs.Commands.{children_rules, first_of}
use Rattle.health_check.specs.Marks.{with_children}
use Rattle.health_check.proofs.Places.{Held}
use Rattle.health_check.proofs.Refusing.{children_given, nothing_given, wrong_is}
use Rattle.health_check.proofs.judging.update_refusal.Goals as goal

pub returns-in-Some-children : goal.returns-in-Some-children
returns-in-Some-children c next given threshold children =
    let list = c.args.list.now in
    let id = c.args.id in
    let found = c.in-Some.ensures in
    let seen = c.index-list-place.result in
    let its = c.in-Some-children.children in
    c.given_refusal.ensures
    ∙ ap (λ (l : List ℕ). first_of (children_rules list (with_children id l list) l))
    c.as_slice.ensures
    ∙ children_given next list c.requires.rising id given found.0 found.2
    (wrong_is given found.0 (get_or list c.in-Some.place seen).1 c.args.threshold
    c.is_some.result c.is_wrong_member.result c.args.children.now
    (ap (λ (h : Held). h.1) (get_or_from_slice_get list c.in-Some.place (id, found.0) seen found.1))
    threshold children c.is_some.ensures
    (c.is_wrong_member.ensures) ∙ c.if-is_wrong_member.false) its
    (children ∙ c.in-Some-children.is)

pub returns-in-None : goal.returns-in-None
returns-in-None c next given threshold children =
    let list = c.args.list.now in
    let id = c.args.id in
    let found = c.in-Some.ensures in
    let seen = c.index-list-place.result in
    nothing_given next list c.requires.rising id given found.0 found.2
    (wrong_is given found.0 (get_or list c.in-Some.place seen).1 c.args.threshold
    c.is_some.result c.is_wrong_member.result c.args.children.now
    (ap (λ (h : Held). h.1) (get_or_from_slice_get list c.in-Some.place (id, found.0) seen found.1))
    threshold children c.is_some.ensures
    (c.is_wrong_member.ensures) ∙ c.if-is_wrong_member.false)
    (children ∙ c.in-None.is)
