use Rattle.std.proofs.Common.{ℕ, List, ap, subst, sym, ◌∙◌}
use Rattle.std.proofs.lemmas.Option.{slice_get_within}
use Rattle.set_search.specs.Labels.{wire}
use Rattle.set_store.specs.Stored.{IsKept, Slots}
use Rattle.set_store.specs.Tags.{tag_of}
use Rattle.set_store.proofs.Reading.{found}
use Rattle.set_store.proofs.store.SetSlots.past_name.Goals as goal

pub past_tag-requires-clause-slots : goal.past_tag-requires-clause-slots
past_tag-requires-clause-slots c k at there =
    let kept = c.requires.used k at there in
    let it = found c.self.inside.region.held c.self.inside.slots.items c.self.inside.free
    c.self.inside.spare c.self.invariant c.written_reads_back.ensures at kept.0
    (subst (λ (s : Slots). IsKept s.slots at kept.0) (sym c.self.view_is) kept.1) in
    slice_get_within c.self.inside.slots.items at it.there.0 it.there.1

pub returns-clause-apart : goal.returns-clause-apart
returns-clause-apart c slot other kept another at at_too is is_too = λ same.
    (let one = found c.self.inside.region.held c.self.inside.slots.items c.self.inside.free
    c.self.inside.spare c.self.invariant c.written_reads_back.ensures slot kept
    (subst (λ (s : Slots). IsKept s.slots slot kept) (sym c.self.view_is) is) in
    let two = found c.self.inside.region.held c.self.inside.slots.items c.self.inside.free
    c.self.inside.spare c.self.invariant c.written_reads_back.ensures other another
    (subst (λ (s : Slots). IsKept s.slots other another) (sym c.self.view_is) is_too) in
    let told = two.there.4 another.set two.spelled
    ∙ (ap (λ (n : List (List ℕ)). tag_of (wire n)) (sym same) ∙ sym (one.there.4 kept.set one.spelled)) in
    c.past_tag.ensures.apart slot one.there.0 at one.there.1 other two.there.0 at_too two.there.1 told)
