use Rattle.std.proofs.Common.{◌∙◌, List, ap, length, subst, sym}
use Rattle.std.proofs.lemmas.List.{with_items_is}
use Rattle.zone_list.specs.Kept.{AreIntact, Listed, zones_in}
use Rattle.zone_table.specs.Apexes.{KnowsNames, Notes}
use Rattle.zone_finding.specs.Counted.{AreCounted}
use Rattle.zone_table.specs.Edits.{Edits, IsReady, Prepared}
use Rattle.zone_table.specs.Tables.{Table}
use Rattle.zone_table.proofs.Apexes.{noted}
use Rattle.zone_finding.proofs.Naming.{with_sets}
use Rattle.zone_table.proofs.Rooms.{ready_for}
use Rattle.zone_table.proofs.zones.Zones.edit.Goals as goal

pub make-delta-requires-clause-ready : goal.make-delta-requires-clause-ready
make-delta-requires-clause-ready c =
    ready_for c.self.inside.store c.self.inside.list c.self.inside.collections c.self.inside.edits c.args.ready
    (subst (λ (t : Table). IsReady t c.args.ready) (sym c.self.view_is) c.requires)

pub invariant_of-self : goal.invariant_of-self
invariant_of-self c =
    let s = c.self.inside in
    let slots = c.make-delta.new.store.slots in
    let made = c.make-delta.new.list in
    let settled = c.settle.ensures ∙ c.deref_mut.ensures.value in
    let same = with_items_is made c.settle.new.list (ap (λ (l : List Listed). length l) settled ∙ sym made.ok.0)
    ∙ settled in
    let notes : Notes s.apexes c.args.ready.made c.note_name.new.apexes =
    subst (λ (r : Prepared). Notes s.apexes r.made c.note_name.new.apexes) c.ready.view_is
    c.note_name.ensures in (
      subst (λ (l : List Listed). AreIntact slots l) (sym same) c.make-delta.ensures.kept,
      subst (λ (l : List Listed). AreCounted c.make-delta.new.store l c.make-delta.new.octets) (sym same)
          c.make-delta.ensures.counted,
      subst (λ (l : List Listed). KnowsNames c.note_name.new.apexes (zones_in slots l)) (sym same)
          (noted (zones_in s.store.slots s.list.items) (zones_in slots made.items) c.args.ready.made
          c.make-delta.result c.make-delta.ensures.edits
          (subst (λ (t : Table). IsReady t c.args.ready) (sym c.self.view_is) c.requires).allowed
          (with_sets slots made.items c.make-delta.ensures.kept.listed) s.apexes c.note_name.new.apexes
          c.self.invariant.2 notes),
    )

pub returns-clause-edits : goal.returns-clause-edits
returns-clause-edits c =
    let slots = c.make-delta.new.store.slots in
    let made = c.make-delta.new.list in
    let settled = c.settle.ensures ∙ c.deref_mut.ensures.value in
    let same = with_items_is made c.settle.new.list (ap (λ (l : List Listed). length l) settled ∙ sym made.ok.0)
    ∙ settled in
    subst (λ (l : List Listed). Edits c.args.self.now.zones c.args.ready.made (zones_in slots l)
    c.make-delta.result) (sym same)
    (subst (λ (t : Table). Edits t.zones c.args.ready.made (zones_in slots made.items) c.make-delta.result)
    c.self.view_is c.make-delta.ensures.edits)
