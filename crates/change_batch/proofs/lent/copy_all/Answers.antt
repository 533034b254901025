use Rattle.std.proofs.Common.{◌<◌, ◌++◌, ◌∷◌, [], length, take, ap, ◌∙◌, sym, arith}
use Rattle.std.proofs.lemmas.List.{length-map, take_more}
use Rattle.std.proofs.lemmas.Option.{get_or_from_slice_get}
use Rattle.std.specs.Borrow.{Bor}
use Rattle.set_search.specs.RecordSetRecord.{RecordSet}
use Rattle.zone_rules.specs.Lent.{sets_lent}
use Rattle.change_batch.proofs.lent.copy_all.Goals as goal

pub loop-place-preserved : goal.loop-place-preserved
loop-place-preserved c =
    let sets = sets_lent c.args.sets.now in
    let place = c.loop-place.place in
    let own = c.set_at.result.now in
    let all = length-map c.args.sets.now (λ (set : Bor RecordSet). set.now) in
    let within : place < length sets = omega (arith, c.loop-place-test.true, all) in
    c.in_ok-push.ensures.items
    ∙ (ap (λ front. front ++ c.in_ok-copy.field-0 ∷ []) c.loop-place.invariant
    ∙ (ap (λ copy. take place sets ++ copy ∷ [])
    (c.in_ok-copy.ensures ∙ sym (get_or_from_slice_get sets place own own c.set_at.ensures))
    ∙ sym (take_more sets place own within)))
