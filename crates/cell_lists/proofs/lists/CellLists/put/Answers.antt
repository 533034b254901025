use Rattle.std.proofs.Common.{length, ap, sym, subst, ◌∙◌, arith}
use Rattle.std.proofs.lemmas.List.{length-set}
use Rattle.cell_lists.specs.Lists.{Lists, IsFree}
use Rattle.cell_lists.specs.Linked.{head_at}
use Rattle.cell_lists.proofs.Linking.{put_as_told, behind_inside, count_fits}
use Rattle.cell_lists.proofs.lists.CellLists.put.Goals as goal

pub link-requires-clause-behind : goal.link-requires-clause-behind
link-requires-clause-behind c =
    let told = ap (λ (s : Lists). s.lists) c.self.view_is in
    let cells = ap (λ (s : Lists). s.cells) c.self.view_is in
    let long = ap length told in
    let heads = c.self.invariant.linked.long in
    rw (c.head_at-head.ensures, c.deref.ensures.value) (behind_inside _ _ _ c.args.owner c.args.cell c.self.invariant (omega arith) (omega arith)
    (subst (λ l. IsFree l c.args.cell) (sym told) c.requires.free))

pub link-requires-clause-few : goal.link-requires-clause-few
link-requires-clause-few c =
    let told = ap (λ (s : Lists). s.lists) c.self.view_is in
    let cells = ap (λ (s : Lists). s.cells) c.self.view_is in
    let long = ap length told in
    let heads = c.self.invariant.linked.long in
    rw (c.head_at-head.ensures, c.deref.ensures.value) (count_fits _ _ _ c.args.owner c.args.cell c.self.invariant (omega arith) (omega arith)
    (subst (λ l. IsFree l c.args.cell) (sym told) c.requires.free))

pub invariant_of-self : goal.invariant_of-self
invariant_of-self c =
    let told = ap (λ (s : Lists). s.lists) c.self.view_is in
    let cells = ap (λ (s : Lists). s.cells) c.self.view_is in
    (put_as_told _ _ _ _ _ _ c.args.owner c.args.cell _ _ c.self.invariant told c.requires.owner (omega arith) c.requires.free
    (c.head_at-head.ensures ∙ ap (λ h. head_at h c.args.owner) c.deref.ensures.value) c.link.ensures.head c.link.ensures.next c.link.ensures.before).intact

pub returns-clause-put : goal.returns-clause-put
returns-clause-put c =
    let told = ap (λ (s : Lists). s.lists) c.self.view_is in
    let cells = ap (λ (s : Lists). s.cells) c.self.view_is in
    let room = ap (λ (s : Lists). s.owners_room) c.self.view_is in
    let cells_room = ap (λ (s : Lists). s.cells_room) c.self.view_is in
    let lists = (put_as_told _ _ _ _ _ _ c.args.owner c.args.cell _ _ c.self.invariant told c.requires.owner (omega arith) c.requires.free
    (c.head_at-head.ensures ∙ ap (λ h. head_at h c.args.owner) c.deref.ensures.value) c.link.ensures.head c.link.ensures.next c.link.ensures.before).lists in
    let long = ap length c.link.ensures.next ∙ length-set _ _ _ in
    let heads = length-set c.self.inside.heads.items c.args.owner c.link.result in
    cc

pub returns-clause-here : goal.returns-clause-here
returns-clause-here c =
    let told = ap (λ (s : Lists). s.lists) c.self.view_is in
    let cells = ap (λ (s : Lists). s.cells) c.self.view_is in
    (put_as_told _ _ _ _ _ _ c.args.owner c.args.cell _ _ c.self.invariant told c.requires.owner (omega arith) c.requires.free
    (c.head_at-head.ensures ∙ ap (λ h. head_at h c.args.owner) c.deref.ensures.value) c.link.ensures.head c.link.ensures.next c.link.ensures.before).here

pub returns-clause-others : goal.returns-clause-others
returns-clause-others c =
    let told = ap (λ (s : Lists). s.lists) c.self.view_is in
    let cells = ap (λ (s : Lists). s.cells) c.self.view_is in
    (put_as_told _ _ _ _ _ _ c.args.owner c.args.cell _ _ c.self.invariant told c.requires.owner (omega arith) c.requires.free
    (c.head_at-head.ensures ∙ ap (λ h. head_at h c.args.owner) c.deref.ensures.value) c.link.ensures.head c.link.ensures.next c.link.ensures.before).others
