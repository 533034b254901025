use Rattle.std.proofs.Common.{length, ap, sym, subst, ◌∙◌, arith}
use Rattle.std.specs.Prelude.{Contains}
use Rattle.std.proofs.lemmas.List.{length-set}
use Rattle.cell_lists.specs.Lists.{Lists, list_at}
use Rattle.cell_lists.specs.Linked.{head_at}
use Rattle.cell_lists.specs.declared.links.Head.{Head}
use Rattle.cell_lists.proofs.Linking.{taken_as_told, cell_inside, some_count, front_in, next_inside, owner_there, taken_long}
use Rattle.cell_lists.proofs.lists.CellLists.take.Goals as goal

pub head_at-head-requires : goal.head_at-head-requires
head_at-head-requires c =
    let told = ap (λ (s : Lists). s.lists) c.self.view_is in
    let there = owner_there _ _ _ c.args.owner c.args.cell c.self.invariant
    (subst (λ l. Contains (list_at l c.args.owner) c.args.cell) (sym told) c.requires) in
    omega (arith, c.deref.ensures.len)

pub unlink-requires-clause-cell : goal.unlink-requires-clause-cell
unlink-requires-clause-cell c =
    let told = ap (λ (s : Lists). s.lists) c.self.view_is in
    cell_inside _ _ _ c.args.owner c.args.cell c.self.invariant
    (subst (λ l. Contains (list_at l c.args.owner) c.args.cell) (sym told) c.requires)

pub unlink-requires-clause-some : goal.unlink-requires-clause-some
unlink-requires-clause-some c =
    let told = ap (λ (s : Lists). s.lists) c.self.view_is in
    rw (c.head_at-head.ensures, c.deref.ensures.value) (some_count _ _ _ c.args.owner c.args.cell c.self.invariant
    (subst (λ l. Contains (list_at l c.args.owner) c.args.cell) (sym told) c.requires))

pub unlink-requires-clause-front : goal.unlink-requires-clause-front
unlink-requires-clause-front c ne =
    let told = ap (λ (s : Lists). s.lists) c.self.view_is in
    let head = c.head_at-head.ensures ∙ ap (λ h. head_at h c.args.owner) c.deref.ensures.value in
    c.self.invariant.apart.within c.args.owner _ (front_in _ _ _ c.args.owner c.args.cell c.self.invariant
    (subst (λ l. Contains (list_at l c.args.owner) c.args.cell) (sym told) c.requires)
    (λ e. ne (ap (λ (h : Head). h.first) head ∙ e)))

pub unlink-requires-clause-behind : goal.unlink-requires-clause-behind
unlink-requires-clause-behind c =
    let told = ap (λ (s : Lists). s.lists) c.self.view_is in
    c.self.invariant.apart.within c.args.owner _ (next_inside _ _ _ c.args.owner c.args.cell c.self.invariant
    (subst (λ l. Contains (list_at l c.args.owner) c.args.cell) (sym told) c.requires))

pub invariant_of-self : goal.invariant_of-self
invariant_of-self c =
    let told = ap (λ (s : Lists). s.lists) c.self.view_is in
    (taken_as_told _ _ _ _ _ _ c.args.owner c.args.cell _ _ c.self.invariant told c.requires
    (c.head_at-head.ensures ∙ ap (λ h. head_at h c.args.owner) c.deref.ensures.value) c.unlink.ensures.head c.unlink.ensures.next c.unlink.ensures.before).now.intact

pub returns-clause-taken : goal.returns-clause-taken
returns-clause-taken c =
    let told = ap (λ (s : Lists). s.lists) c.self.view_is in
    let cells = ap (λ (s : Lists). s.cells) c.self.view_is in
    let room = ap (λ (s : Lists). s.owners_room) c.self.view_is in
    let cells_room = ap (λ (s : Lists). s.cells_room) c.self.view_is in
    let lists = (taken_as_told _ _ _ _ _ _ c.args.owner c.args.cell _ _ c.self.invariant told c.requires
    (c.head_at-head.ensures ∙ ap (λ h. head_at h c.args.owner) c.deref.ensures.value) c.unlink.ensures.head c.unlink.ensures.next c.unlink.ensures.before).now.lists in
    let long = ap length c.unlink.ensures.next ∙ taken_long c.head_at-head.result c.self.inside.next.items c.self.inside.before.items c.args.cell in
    let heads = length-set c.self.inside.heads.items c.args.owner c.unlink.result in
    cc

pub returns-clause-free : goal.returns-clause-free
returns-clause-free c =
    let told = ap (λ (s : Lists). s.lists) c.self.view_is in
    let lists = (taken_as_told _ _ _ _ _ _ c.args.owner c.args.cell _ _ c.self.invariant told c.requires
    (c.head_at-head.ensures ∙ ap (λ h. head_at h c.args.owner) c.deref.ensures.value) c.unlink.ensures.head c.unlink.ensures.next c.unlink.ensures.before).free in
    lists

pub returns-clause-here : goal.returns-clause-here
returns-clause-here c =
    let told = ap (λ (s : Lists). s.lists) c.self.view_is in
    (taken_as_told _ _ _ _ _ _ c.args.owner c.args.cell _ _ c.self.invariant told c.requires
    (c.head_at-head.ensures ∙ ap (λ h. head_at h c.args.owner) c.deref.ensures.value) c.unlink.ensures.head c.unlink.ensures.next c.unlink.ensures.before).now.here

pub returns-clause-others : goal.returns-clause-others
returns-clause-others c =
    let told = ap (λ (s : Lists). s.lists) c.self.view_is in
    (taken_as_told _ _ _ _ _ _ c.args.owner c.args.cell _ _ c.self.invariant told c.requires
    (c.head_at-head.ensures ∙ ap (λ h. head_at h c.args.owner) c.deref.ensures.value) c.unlink.ensures.head c.unlink.ensures.next c.unlink.ensures.before).now.others
