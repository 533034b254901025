use Rattle.std.proofs.Common.{◌≡◌, ◌≤◌, ◌∙◌, List, ℕ, ap, length, sym, subst}
use Rattle.std.specs.List.{AllByRecursion}
use Rattle.zone_list.specs.RecordSetRecord.{RecordSet}
use Rattle.zone_list.specs.SetKeyRecord.{SetKey}
use Rattle.zone_list.specs.Octets.{set_octets}
use Rattle.zone_list.specs.Kept.{zones_in}
use Rattle.zone_table.specs.declared.edits.ZoneEdit.{ZoneEdit}
use Rattle.zone_table.specs.declared.edits.ZoneEdit.TheVariants.{Change}
use Rattle.zone_table.specs.Edits.{IsAllowed, Prepared}
use Rattle.zone_table.specs.Needs.{NeedsNone}
use Rattle.zone_table.proofs.making.make.Goals as goal

pub change-delta-requires-clause-allowed : goal.change-delta-requires-clause-allowed
change-delta-requires-clause-allowed c =
    let zones = zones_in c.args.store.now.slots c.args.list.now.items in
    let made : c.args.ready.made ≡ Change c.in-Change.zone c.in-Change.remove c.in-Change.add =
    sym (ap (λ (r : Prepared). r.made) c.ready.view_is) ∙ c.in-Change.is in
    subst (λ (ks : List SetKey). IsAllowed zones
    (Change c.in-Change.zone ks c.as_slice-in-Change.result.now)) (sym c.as_slice.ensures)
    (subst (λ (ss : List RecordSet). IsAllowed zones (Change c.in-Change.zone c.in-Change.remove ss))
    (sym c.as_slice-in-Change.ensures)
    (subst (λ (m : ZoneEdit). IsAllowed zones m) made c.requires.ready.allowed))

pub change-delta-requires-clause-buffer : goal.change-delta-requires-clause-buffer
change-delta-requires-clause-buffer c =
    let made : c.args.ready.made ≡ Change c.in-Change.zone c.in-Change.remove c.in-Change.add =
    sym (ap (λ (r : Prepared). r.made) c.ready.view_is) ∙ c.in-Change.is in
    let room : NeedsNone c.args.store.now c.args.list.now c.args.ready
    (Change c.in-Change.zone c.in-Change.remove c.in-Change.add) =
    subst (λ (m : ZoneEdit). NeedsNone c.args.store.now c.args.list.now c.args.ready m) made
    c.requires.ready.room in
    let size : c.args.ready.buffer ≡ length c.as_mut_slice.result.now =
    sym (ap (λ (r : Prepared). r.buffer) c.ready.view_is)
    ∙ ap (λ (b : List ℕ). length b) (sym c.as_mut_slice.ensures.value) in
    subst (λ (ss : List RecordSet). AllByRecursion (λ set. length (set_octets set)
    ≤ length c.as_mut_slice.result.now) ss) (sym c.as_slice-in-Change.ensures)
    (subst (λ (n : ℕ). AllByRecursion (λ set. length (set_octets set) ≤ n) c.in-Change.add) size
    room.2.buffer)
