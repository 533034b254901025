use Rattle.std.proofs.Common.{◌-◌, ◌%◌, ap, ◌∙◌, drop, subst, sym, take}
use Rattle.set_store.specs.Stored.{IsKept, Slots}
use Rattle.set_store.proofs.Reading.{found}
use Rattle.set_store.proofs.store.SetSlots.pieces.Goals as goal

pub pieces_at-requires : goal.pieces_at-requires
pieces_at-requires c =
    let kept = c.requires in
    let f = found c.self.inside.region.held c.self.inside.slots.items c.self.inside.free c.self.inside.spare
    c.self.invariant
    c.written_reads_back.ensures c.args.slot kept.0 (subst (λ
    (s : Slots). IsKept s.slots c.args.slot kept.0) (sym c.self.view_is) kept.1) in
    (f.octets, f.there)

pub returns : goal.returns
returns c kept is =
    let f = found c.self.inside.region.held c.self.inside.slots.items c.self.inside.free c.self.inside.spare
    c.self.invariant
    c.written_reads_back.ensures c.args.slot kept (subst (λ (s : Slots). IsKept s.slots c.args.slot kept)
    (sym c.self.view_is) is) in
    record {
      is = f.spelled.is;
      has_spelling = f.spelled.has_spelling;
      same =
          c.pieces_at.ensures f.octets f.there
          ∙ ap (λ o. take (64 - c.args.place % 32) (drop c.args.place o)) f.spelled.same;
    }
