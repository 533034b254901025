use Rattle.std.proofs.Common.{◌∷◌, [], length, length-append, arith, ap, refl, sym, ◌∙◌, inl, inr}
use Rattle.std.proofs.lemmas.Option.{slice_get_within}
use Rattle.health_planning.proofs.Lists.{in_more}
use Rattle.health_index.proofs.valve_numbers.list_numbers.Goals as goal

pub loop-place-init : goal.loop-place-init
loop-place-init c =
    let len = c.args.numbers.now.ok.0 in
    let none = ap length c.requires.empty in
    record {
      within = omega arith;
      size = none;
      len = omega arith;
      each = λ place valve at. let no : ⊥ = grind (arith, at, c.requires.empty) in absurd no;
      room = refl;
    }

pub loop-place-preserved : goal.loop-place-preserved
loop-place-preserved c =
    let i = c.loop-place.invariant in
    let items = c.loop-place.numbers.items in
    let more = c.push_reserved.ensures.items in
    let longer = ap length more ∙ length-append items (c.loop-place.place ∷ []) in
    let size = i.size in
    record {
      within = omega (arith, c.loop-place-test.true);
      size = omega arith;
      len = let len = i.len in let one = c.push_reserved.ensures.len in omega arith;
      each = λ place valve at. elim (in_more items c.loop-place.place valve place (rw more at at)) [
        | inl before ↦ i.each place valve before
        | inr last ↦ (let is = last.0 in let same = last.1 in omega arith)
      ];
      room = c.push_reserved.ensures.capacity ∙ i.room;
    }

pub returns-clause-valves : goal.returns-clause-valves
returns-clause-valves c =
    let i = c.loop-place.invariant in
    let size = i.size in
    let within = i.within in
    let end = c.loop-place-test.false in
    record {
      as_many = omega arith;
      apart = λ k n id at_k at_n. sym (i.each k id at_k) ∙ i.each n id at_n;
      early = λ place valve at.
          let is = i.each place valve at in
          let b = slice_get_within c.loop-place.numbers.items place valve at in
          let few = c.requires.few in
          omega arith;
    }
