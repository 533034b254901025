use Rattle.std.proofs.Common.{◌≡◌, ◌∙◌, sym, refl, subst, below_more, arith}
use Rattle.std.proofs.lemmas.Bool.{false≢true}
use Rattle.std.proofs.lemmas.Option.{slice_get_read}
use Rattle.zone_soundness.proofs.Answered.{is, isnt}
use Rattle.record_set.specs.Sets.{key_of}
use Rattle.record_set.specs.declared.sets.RecordSet.{RecordSet}
use Rattle.config_model.proofs.Among.{among_at}
use Rattle.zone_soundness.proofs.Firsts.{none_of}
use Rattle.zone_soundness.proofs.placing.has_key.Goals as goal

pub returns-then-is_same_key : goal.returns-then-is_same_key
returns-then-is_same_key c =
    let sets = c.args.sets.now in
    let set = c.index-sets-i in
    is (
      set.result,
      record {
        there = among_at sets c.loop-i.i set.result
            (slice_get_read sets _ c.loop-i.i set.result refl c.loop-i-test.true set.is);
        same_key = sym c.key.ensures ∙ c.is_same_key.ensures.0 c.if-is_same_key.true;
      },
    )

pub loop-i-preserved : goal.loop-i-preserved
loop-i-preserved c =
    let sets = c.args.sets.now in
    let set = c.index-sets-i in
    let here = slice_get_read sets _ c.loop-i.i set.result refl c.loop-i-test.true set.is in
    below_more _ _ c.loop-i.invariant (λ h.
    let at = h.1 in
    let same : h.0 ≡ set.result = grind (arith, at, here) in
    false≢true (sym c.if-is_same_key.false ∙ c.is_same_key.ensures.1
    (c.key.ensures ∙ subst (λ (s : RecordSet). key_of s ≡ c.args.key.now) same h.2)))

pub returns : goal.returns
returns c =
    let test = c.loop-i-test.false in
    isnt (λ there. none_of (λ (set : RecordSet). key_of set ≡ c.args.key.now) c.args.sets.now
    (λ i lt. c.loop-i.invariant i (omega (arith, lt, test))) there.0 there.1.there there.1.same_key)
