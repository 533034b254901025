use Rattle.std.proofs.Common.{◌++◌, List, ℕ, arith, refl, ap, sym, ◌∙◌}
use Rattle.std.proofs.lemmas.Option.{slice_get_read}
use Rattle.health_index.specs.Kin.{its_kin}
use Rattle.health_index.proofs.Kindred.{one_more}
use Rattle.health_index.proofs.kin.list_kin.Goals as goal

pub loop-held-preserved : goal.loop-held-preserved
loop-held-preserved c =
    let i = c.loop-held.invariant in
    let held = c.held-item.result in
    let at = slice_get_read c.args.list.now _ c.loop-held.held-index held refl c.loop-held-test.true c.held-item.is in
    record {
      items = c.push_kin.ensures.kin ∙ ap (λ (l : List ℕ). l ++ its_kin held.0 held.1) i.items ∙ sym (one_more c.args.list.now c.loop-held.held-index held at);
      few = let few = i.few in let more = c.push_kin.ensures.few in omega arith;
      room = c.push_kin.ensures.room ∙ i.room;
    }
