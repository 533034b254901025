use Rattle.std.proofs.Common.{◌≡◌, ℕ, List, ap, subst, sym, ◌∙◌, arith}
use Rattle.set_search.specs.Labels.{wire}
use Rattle.set_store.specs.Stored.{IsKept, Slots}
use Rattle.set_store.specs.Tags.{tag_of}
use Rattle.set_store.proofs.Reading.{found}
use Rattle.set_store.proofs.store.SetSlots.are_told_apart.Goals as goal

pub returns : goal.returns
returns c apart kept another is is_too = λ same.
    (let one = found c.self.inside.region.held c.self.inside.slots.items c.self.inside.free
    c.self.inside.spare c.self.invariant c.written_reads_back.ensures c.args.slot kept
    (subst (λ (s : Slots). IsKept s.slots c.args.slot kept) (sym c.self.view_is) is) in
    let two = found c.self.inside.region.held c.self.inside.slots.items c.self.inside.free
    c.self.inside.spare c.self.invariant c.written_reads_back.ensures c.args.other another
    (subst (λ (s : Slots). IsKept s.slots c.args.other another) (sym c.self.view_is) is_too) in
    let its_tag = c.tag_at.ensures one.there.0 one.there.1 ∙ one.there.4 kept.set one.spelled in
    let others = c.tag_at-2.ensures two.there.0 two.there.1 ∙ two.there.4 another.set two.spelled in
    let told : c.tag_at.result ≡ c.tag_at-2.result =
    its_tag ∙ (ap (λ (n : List (List ℕ)). tag_of (wire n)) same ∙ sym others) in
    grind (arith, apart, told))
