use Rattle.std.proofs.Common.{◌≡◌, [], ◌∷◌, List, ℕ, None, ap, ◌∙◌, sym, subst}
use Rattle.std.specs.List.{list_any}
use Rattle.check_model.specs.Commands.{first_missing, first_of, has_repeated, missing, refuse_if, starts_walk}
use Rattle.check_model.specs.declared.refusals.CheckRefusal.TheVariants.{ChildRepeated}
use Rattle.health_check.specs.Marks.{with_children}
use Rattle.health_check.proofs.Refusing.{ended, taken, too_deep, too_many}
use Rattle.health_check.proofs.judging.create_refusal.Goals as goal

pub returns-then-starts_deep : goal.returns-then-starts_deep
returns-then-starts_deep c =
    let list = c.args.list.now in
    let check = c.args.check.now in
    too_deep (record { next = c.args.next; list = list }) c.requires check
    (subst (λ (l : List ℕ). first_of (refuse_if (has_repeated l) ChildRepeated
    ∷ missing (first_missing list l) ∷ []) ≡ None) c.children_of-children.ensures
    (sym c.named_refusal.ensures ∙ c.in_default.is))
    c.starts_deep.result
    (c.starts_deep.ensures ∙ ap (list_any (starts_walk 3 (with_children 0 [] list)))
    c.children_of-children.ensures)
    c.if-starts_deep.true

pub returns-then-list-ge-MAX_CHECKS : goal.returns-then-list-ge-MAX_CHECKS
returns-then-list-ge-MAX_CHECKS c =
    let list = c.args.list.now in
    let check = c.args.check.now in
    too_many (record { next = c.args.next; list = list }) c.requires check
    (subst (λ (l : List ℕ). first_of (refuse_if (has_repeated l) ChildRepeated
    ∷ missing (first_missing list l) ∷ []) ≡ None) c.children_of-children.ensures
    (sym c.named_refusal.ensures ∙ c.in_default.is))
    c.starts_deep.result
    (c.starts_deep.ensures ∙ ap (list_any (starts_walk 3 (with_children 0 [] list)))
    c.children_of-children.ensures)
    c.if-starts_deep.false c.if-list-ge-MAX_CHECKS.true

pub returns-then-next-eq-LAST : goal.returns-then-next-eq-LAST
returns-then-next-eq-LAST c =
    let list = c.args.list.now in
    let check = c.args.check.now in
    ended (record { next = c.args.next; list = list }) c.requires check
    (subst (λ (l : List ℕ). first_of (refuse_if (has_repeated l) ChildRepeated
    ∷ missing (first_missing list l) ∷ []) ≡ None) c.children_of-children.ensures
    (sym c.named_refusal.ensures ∙ c.in_default.is))
    c.starts_deep.result
    (c.starts_deep.ensures ∙ ap (list_any (starts_walk 3 (with_children 0 [] list)))
    c.children_of-children.ensures)
    c.if-starts_deep.false c.if-list-ge-MAX_CHECKS.false c.if-next-eq-LAST.true

pub returns : goal.returns
returns c =
    let list = c.args.list.now in
    let check = c.args.check.now in
    taken (record { next = c.args.next; list = list }) c.requires check
    (subst (λ (l : List ℕ). first_of (refuse_if (has_repeated l) ChildRepeated
    ∷ missing (first_missing list l) ∷ []) ≡ None) c.children_of-children.ensures
    (sym c.named_refusal.ensures ∙ c.in_default.is))
    c.starts_deep.result
    (c.starts_deep.ensures ∙ ap (list_any (starts_walk 3 (with_children 0 [] list)))
    c.children_of-children.ensures)
    c.if-starts_deep.false c.if-list-ge-MAX_CHECKS.false c.if-next-eq-LAST.false
