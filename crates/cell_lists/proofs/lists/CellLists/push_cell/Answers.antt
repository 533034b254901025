use Rattle.std.proofs.Common.{ap, subst, ◌∙◌, arith}
use Rattle.std.specs.Prelude.{Contains}
use Rattle.cell_lists.specs.Lists.{Lists, list_at}
use Rattle.cell_lists.specs.Linked.{lists_in}
use Rattle.cell_lists.proofs.Linking.{cell_more}
use Rattle.cell_lists.proofs.lists.CellLists.push_cell.Goals as goal

pub invariant_of-self : goal.invariant_of-self
invariant_of-self c =
    let cells = ap (λ (s : Lists). s.cells) c.self.view_is in
    let room = ap (λ (s : Lists). s.cells_room) c.self.view_is in
    rw (c.push_reserved.ensures.items, c.push_reserved-2.ensures.items) (cell_more _ _ _ c.self.invariant (omega arith)).0

pub returns-clause-lists : goal.returns-clause-lists
returns-clause-lists c =
    let lists = ap (λ (s : Lists). s.lists) c.self.view_is in
    let room = ap (λ (s : Lists). s.cells_room) c.self.view_is in
    ap (lists_in c.self.inside.heads.items) c.push_reserved.ensures.items
    ∙ (cell_more _ _ _ c.self.invariant (omega arith)).1 ∙ lists

pub returns-clause-free : goal.returns-clause-free
returns-clause-free c owner at =
    let cells = ap (λ (s : Lists). s.cells) c.self.view_is in
    let room = ap (λ (s : Lists). s.cells_room) c.self.view_is in
    let same = ap (lists_in c.self.inside.heads.items) c.push_reserved.ensures.items
    ∙ (cell_more _ _ _ c.self.invariant (omega arith)).1 in
    let below = c.self.invariant.apart.within owner c.args.self.now.cells
    (subst (λ l. Contains (list_at l owner) c.args.self.now.cells) same at) in
    omega arith
