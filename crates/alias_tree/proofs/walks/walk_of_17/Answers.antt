use Rattle.std.proofs.Common.{◌≡◌, ap, sym, subst, ◌∙◌, length, drop}
use Rattle.std.proofs.lemmas.List.{take_at}
use Rattle.alias_tree.specs.Starts.{AreStarts}
use Rattle.alias_tree.specs.Targets.{AreTargets, AreWithin}
use Rattle.alias_tree.proofs.LinkByLink.{first_start, inside}
use Rattle.alias_tree.proofs.walks.walk_of_17.Goals as goal

pub lengthen-requires-clause-within : goal.lengthen-requires-clause-within
lengthen-requires-clause-within c =
    let sets = c.args.sets.now in
    let aimed : AreTargets sets c.deref.result.now =
    subst (λ l. AreTargets sets l) (sym c.deref.ensures.value) c.in_ok-targets.ensures in
    let size : length c.as_mut_slice.result.now ≡ length sets =
    ap length c.as_mut_slice.ensures.value ∙ c.in_ok-starts.ensures.one_each in
    subst (λ n. AreWithin c.deref.result.now n) (sym size) (inside sets c.deref.result.now aimed)

pub returns : goal.returns
returns c =
    let sets = c.args.sets.now in
    let given = c.in_ok-starts.starts in
    let starts = c.lengthen.new.starts in
    let deep : AreStarts sets 17 starts =
    c.lengthen.ensures sets
    (subst (λ l. AreTargets sets l) (sym c.deref.ensures.value) c.in_ok-targets.ensures)
    (subst (λ l. AreStarts sets 1 l) (sym c.as_mut_slice.ensures.value) c.in_ok-starts.ensures) in
    let size : length starts ≡ given.len =
    deep.one_each ∙ sym c.in_ok-starts.ensures.one_each ∙ sym given.ok.0 in
    let written = take_at starts (drop (length starts) given.items) given.len size in
    first_start sets c.deref-2.result.now
    (subst (λ l. AreStarts sets 17 l) (sym (c.deref-2.ensures.value ∙ written)) deep)
    c.first_marked.result c.first_marked.ensures
