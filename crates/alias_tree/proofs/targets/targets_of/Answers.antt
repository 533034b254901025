use Rattle.std.proofs.Common.{◌≡◌, ◌∷◌, [], Some, refl, sym, subst}
use Rattle.std.specs.Prelude.{slice_get}
use Rattle.std.proofs.lemmas.List.{length-append}
use Rattle.std.proofs.lemmas.Option.{slice_get_read}
use Rattle.alias_tree.proofs.LinkByLink.{one_more}
use Rattle.alias_tree.proofs.targets.targets_of.Goals as goal

pub loop-i-preserved : goal.loop-i-preserved
loop-i-preserved c =
    let sets = c.args.sets.now in
    let targets = c.loop-i.targets.items in
    let set = c.index-sets-i in
    let so_far = c.loop-i.invariant.one_each in
    let here : slice_get sets c.loop-i.i ≡ Some set.result =
    slice_get_read sets _ c.loop-i.i set.result refl c.loop-i-test.true set.is in
    let items = c.in_ok-push.ensures.items in
    let size = length-append targets (c.target_of.result ∷ []) in
    record {
      one_each = cc;
      each = λ j other target at_other at_target.
          one_more sets targets set.result c.target_of.result c.loop-i.invariant.each
          (subst (λ k. slice_get sets k ≡ Some set.result) (sym so_far) here)
          c.target_of.ensures j other target at_other
          (subst (λ l. slice_get l j ≡ Some target) items at_target);
    }
