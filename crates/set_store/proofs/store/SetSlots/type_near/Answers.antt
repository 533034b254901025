use Rattle.std.proofs.Common.{subst, sym}
use Rattle.set_store.specs.Stored.{IsKept, Slots}
use Rattle.set_store.proofs.Reading.{found}
use Rattle.set_store.proofs.store.SetSlots.type_near.Goals as goal

pub type_near-requires : goal.type_near-requires
type_near-requires c =
    let kept = c.requires in
    let f = found c.self.inside.region.held c.self.inside.slots.items c.self.inside.free c.self.inside.spare
    c.self.invariant
    c.written_reads_back.ensures c.args.slot kept.0 (subst (λ
    (s : Slots). IsKept s.slots c.args.slot kept.0) (sym c.self.view_is) kept.1) in
    (f.octets, f.there, (kept.0.set, f.spelled))

pub returns : goal.returns
returns c kept is =
    let f = found c.self.inside.region.held c.self.inside.slots.items c.self.inside.free c.self.inside.spare
    c.self.invariant
    c.written_reads_back.ensures c.args.slot kept (subst (λ (s : Slots). IsKept s.slots c.args.slot kept)
    (sym c.self.view_is) is) in
    c.type_near.ensures f.octets kept.set f.there f.spelled
