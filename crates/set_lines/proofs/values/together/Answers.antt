use Rattle.std.proofs.Common.{arith, ap, ◌∙◌, ◌++◌, ◌∷◌, [], refl, sym, append_assoc, ◌+◌}
use Rattle.std.proofs.lemmas.List.{length_push}
use Rattle.set_lines.specs.declared.values.Counted.{Counted}
use Rattle.set_lines.proofs.Together.{map_push, sum_push, one_more, all_together}
use Rattle.set_lines.proofs.values.together.Goals as goal

pub loop-counted-init : goal.loop-counted-init
loop-counted-init c = record {
  values = c.new-values.ensures.items;
  sum = refl;
  all = c.into_iter-counted-iterator.ensures.into_iter_gives.0;
  small = omega arith;
}

pub overflow_add-sum : goal.overflow_add-sum
overflow_add-sum c =
    let all = ap (λ rest. c.loop-counted.yielded ++ rest) (sym c.in-Some.ensures.steps.0)
    ∙ c.loop-counted.invariant.all in
    let n = one_more c.loop-counted.yielded c.next.new.self.rest.items c.args.list.items c.in-Some.counted all in
    omega (arith, c.widened-sum.ensures.small, c.loop-counted.invariant.small, n, c.requires)

pub loop-counted-preserved : goal.loop-counted-preserved
loop-counted-preserved c = record {
  values = c.in_ok-push.ensures.items
      ∙ ap (λ vs. vs ++ c.in-Some.counted.datum ∷ []) c.loop-counted.invariant.values
      ∙ sym (map_push (λ (x : Counted). x.datum) c.loop-counted.yielded c.in-Some.counted);
  sum = ap (λ n. c.loop-counted.sum + n) c.widened-sum.ensures.same
      ∙ ap (λ n. n + c.in-Some.counted.characters) c.loop-counted.invariant.sum
      ∙ sym (sum_push (λ (x : Counted). x.characters) c.loop-counted.yielded c.in-Some.counted);
  all = append_assoc c.loop-counted.yielded (c.in-Some.counted ∷ []) c.next.new.self.rest.items
      ∙ ap (λ rest. c.loop-counted.yielded ++ rest) (sym c.in-Some.ensures.steps.0)
      ∙ c.loop-counted.invariant.all;
  small = omega (
    arith,
    c.widened-sum.ensures.small,
    c.loop-counted.invariant.small,
    length_push c.loop-counted.yielded c.in-Some.counted,
  );
}

pub returns : goal.returns
returns c =
    let rest = c.loop-counted.counted-iterator.rest in
    all_together c.from_vec.result c.loop-counted.sum c.loop-counted.yielded rest.items
    c.args.list.items (c.from_vec.ensures ∙ c.loop-counted.invariant.values)
    c.loop-counted.invariant.sum c.loop-counted.invariant.all
    (sym rest.ok.0 ∙ c.in-None.ensures.steps.0)
