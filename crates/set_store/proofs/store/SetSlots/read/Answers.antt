use Rattle.std.proofs.Common.{◌≡◌, subst, sym, ◌∙◌}
use Rattle.set_store.specs.Stored.{IsKept, Kept, Spells, Slots}
use Rattle.set_store.proofs.Reading.{found}
use Rattle.set_store.proofs.Whole.{if_ok}
use Rattle.set_store.proofs.store.SetSlots.read.Goals as goal

pub octets_at-requires : goal.octets_at-requires
octets_at-requires c =
    let kept = c.requires in
    let f = found c.self.inside.region.held c.self.inside.slots.items c.self.inside.free c.self.inside.spare
    c.self.invariant
    c.written_reads_back.ensures c.args.slot kept.0 (subst (λ
    (s : Slots). IsKept s.slots c.args.slot kept.0) (sym c.self.view_is) kept.1) in
    (f.octets, f.there)

pub set_of-requires : goal.set_of-requires
set_of-requires c =
    let kept = c.requires in
    let f = found c.self.inside.region.held c.self.inside.slots.items c.self.inside.free c.self.inside.spare
    c.self.invariant
    c.written_reads_back.ensures c.args.slot kept.0 (subst (λ
    (s : Slots). IsKept s.slots c.args.slot kept.0) (sym c.self.view_is) kept.1) in (
      kept.0.set,
      subst (λ o. Spells o kept.0.set) (sym (c.deref.ensures.value
          ∙ c.in_ok-octets.ensures f.octets f.there)) f.spelled,
    )

pub returns : goal.returns
returns c =
    if_ok _ (λ set. (kept : Kept) → IsKept c.args.self.now.slots c.args.slot kept
    → set ≡ kept.set) c.set_of.result
    (λ set told kept is.
    (let f = found c.self.inside.region.held c.self.inside.slots.items c.self.inside.free c.self.inside.spare
    c.self.invariant
    c.written_reads_back.ensures c.args.slot kept (subst (λ (s : Slots). IsKept s.slots c.args.slot kept)
    (sym c.self.view_is) is) in
    told kept.set
    (subst (λ o. Spells o kept.set) (sym (c.deref.ensures.value
    ∙ c.in_ok-octets.ensures f.octets f.there)) f.spelled)))
    c.set_of.ensures
