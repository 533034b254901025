use Rattle.std.proofs.Common.{length, ap, sym, subst, ◌∙◌, arith}
use Rattle.std.specs.Prelude.{slice_index, Contains}
use Rattle.cell_lists.specs.Lists.{Lists, list_at}
use Rattle.cell_lists.proofs.Linking.{behind_as_told}
use Rattle.cell_lists.proofs.lists.CellLists.behind.Goals as goal

pub link_at-requires : goal.link_at-requires
link_at-requires c =
    let told = ap (λ (s : Lists). s.lists) c.self.view_is in
    let below = c.self.invariant.apart.within c.args.owner c.args.cell
    (subst (λ l. Contains (list_at l c.args.owner) c.args.cell) (sym told) c.requires) in
    let long = ap length c.deref.ensures.value in
    omega arith

pub returns : goal.returns
returns c k stands below =
    c.link_at.ensures ∙ ap (λ l. slice_index l c.args.cell) c.deref.ensures.value
    ∙ behind_as_told _ _ _ c.args.self.now.lists c.args.owner c.args.cell k c.self.invariant
    (ap (λ (s : Lists). s.lists) c.self.view_is) stands below
