use Rattle.std.proofs.Common.{ap, ◌∙◌, length, subst, sym, take}
use Rattle.set_store.specs.Stored.{IsKept, Slots}
use Rattle.set_store.proofs.Policies.{at_policy}
use Rattle.set_store.proofs.Reading.{found}
use Rattle.set_store.proofs.store.SetSlots.policy.Goals as goal

pub part_at-requires : goal.part_at-requires
part_at-requires c =
    let kept = c.requires in
    let f = found c.self.inside.region.held c.self.inside.slots.items c.self.inside.free c.self.inside.spare
    c.self.invariant
    c.written_reads_back.ensures c.args.slot kept.0 (subst (λ
    (s : Slots). IsKept s.slots c.args.slot kept.0) (sym c.self.view_is) kept.1) in
    (f.octets, f.there)

pub returns : goal.returns
returns c kept is place =
    let f = found c.self.inside.region.held c.self.inside.slots.items c.self.inside.free c.self.inside.spare
    c.self.invariant
    c.written_reads_back.ensures c.args.slot kept (subst (λ (s : Slots). IsKept s.slots c.args.slot kept)
    (sym c.self.view_is) is) in
    record {
      is = f.spelled.is;
      has_spelling = f.spelled.has_spelling;
      same =
          c.part_at.ensures f.octets f.there
          ∙ ap (take (length c.args.buffer.now))
          (at_policy kept.set f.octets c.args.at f.spelled place);
    }
