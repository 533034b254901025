use Rattle.std.proofs.Common.{◌≡◌, List, length, ap, subst, sym, ◌∙◌, arith}
use Rattle.std.specs.Prelude.{get_or, slice_get}
use Rattle.std.proofs.lemmas.List.{length-map}
use Rattle.std.proofs.lemmas.Option.{slice_get-get_or}
use Rattle.set_store.specs.RecordSetRecord.{RecordSet}
use Rattle.set_store.specs.Slotted.{Slotted}
use Rattle.set_store.specs.Stored.{IsKept}
use Rattle.zone_order.specs.Orders.{set_in, slotted_at, slotted_of}
use Rattle.zone_order.proofs.Slots.{kept_at, one_at}
use Rattle.zone_order.proofs.views.ZoneSetsSetList.past_name.Goals as goal

pub past_name-requires-clause-place : goal.past_name-requires-clause-place
past_name-requires-clause-place c =
    let slots = c.self.inside.store.now.slots in
    let order = c.self.inside.order.now in
    let size : length c.args.self.now ≡ length order =
    ap (λ (sets : List RecordSet). length sets) (sym c.self.view_is)
    ∙ (length-map (slotted_of slots c.self.inside.zone order) (λ (p : Slotted). p.set)
    ∙ length-map order (slotted_at (set_in slots c.self.inside.zone))) in
    let inside = c.requires in
    omega (arith, size, inside)

pub past_name-requires-clause-used : goal.past_name-requires-clause-used
past_name-requires-clause-used c k slot at =
    let kept = kept_at c.self.inside.store.now.slots c.self.inside.zone c.self.inside.order.now
    c.self.invariant k slot at in
    (record { zone = c.self.inside.zone; set = kept.0 }, kept.1)

pub returns : goal.returns
returns c =
    let slots = c.self.inside.store.now.slots in
    let zone = c.self.inside.zone in
    let order = c.self.inside.order.now in
    let place = c.args.place in
    let high = c.past_name.result in
    let size : length c.args.self.now ≡ length order =
    ap (λ (sets : List RecordSet). length sets) (sym c.self.view_is)
    ∙ (length-map (slotted_of slots zone order) (λ (p : Slotted). p.set)
    ∙ length-map order (slotted_at (set_in slots zone))) in
    let given = c.requires in
    let within = c.past_name.ensures.within in
    record {
      above = c.past_name.ensures.above;
      within = omega (arith, within, size);
      apart = λ inside it another at at_too.
          (let here = slice_get-get_or order place 0 (omega (arith, given, size)) in
          let there = slice_get-get_or order high 0 (omega (arith, inside, size)) in
          let one = kept_at slots zone order c.self.invariant place (get_or order place 0) here in
          let two = kept_at slots zone order c.self.invariant high (get_or order high 0) there in
          let same : one.0 ≡ it = one_at (slice_get c.args.self.now place) one.0 it
          (ap (λ (sets : List RecordSet). slice_get sets place) (sym c.self.view_is) ∙ one.2) at in
          let same_too : two.0 ≡ another = one_at (slice_get c.args.self.now high) two.0 another
          (ap (λ (sets : List RecordSet). slice_get sets high) (sym c.self.view_is) ∙ two.2) at_too in
          c.past_name.ensures.apart (get_or order place 0) (get_or order high 0)
          (record { zone = zone; set = it }) (record { zone = zone; set = another }) here there
          (subst (λ s. IsKept slots (get_or order place 0) (record { zone = zone; set = s })) same
          one.1)
          (subst (λ s. IsKept slots (get_or order high 0) (record { zone = zone; set = s })) same_too
          two.1));
    }
