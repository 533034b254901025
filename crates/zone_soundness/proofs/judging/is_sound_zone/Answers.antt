use Rattle.std.proofs.Common.{◌∙◌, sym}
use Rattle.std.proofs.lemmas.Bool.{false≢true}
use Rattle.zone_soundness.proofs.Answered.{isnt}
use Rattle.zone_soundness.proofs.Whole.{each_sound, laid_out, of_ok, together, whole}
use Rattle.zone_soundness.proofs.judging.is_sound_zone.Goals as goal

pub returns-then-not-is_laid_out : goal.returns-then-not-is_laid_out
returns-then-not-is_laid_out c = λ id.
    isnt (λ sound. false≢true (sym c.if-not-is_laid_out.true ∙ c.is_laid_out.ensures.1
    (laid_out c.refusals_are_told.ensures c.args.checks.now.checks.list c.args.collections.now.list
    c.args.apex.now c.args.sets.now id sound)))

pub returns-then-not-are_sound_sets : goal.returns-then-not-are_sound_sets
returns-then-not-are_sound_sets c = λ id.
    isnt (λ sound. false≢true (sym c.if-not-are_sound_sets.true ∙ c.are_sound_sets.ensures.1
    (each_sound c.refusals_are_told.ensures c.args.checks.now.checks.list
    c.args.collections.now.list c.args.apex.now c.args.sets.now id sound)))

pub returns : goal.returns
returns c =
    let told = c.refusals_are_told.ensures in
    let checks = c.args.checks.now.checks.list in
    let collections = c.args.collections.now.list in
    let apex = c.args.apex.now in
    let sets = c.args.sets.now in
    of_ok c.are_together.result c.are_together.ensures (λ are is id. (
      λ t. whole told checks collections apex sets id
          (c.are_sound_sets.ensures.0 c.if-not-are_sound_sets.false)
          (c.is_laid_out.ensures.0 c.if-not-is_laid_out.false) (is.0 t),
      λ sound. is.1 (together told checks collections apex sets id sound),
    ))
