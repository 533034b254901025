use Rattle.std.proofs.Common.{◌∙◌, sym}
use Rattle.std.proofs.lemmas.Bool.{false≢true}
use Rattle.zone_soundness.proofs.Answered.{isnt}
use Rattle.zone_soundness.proofs.setting.is_sound_set.Goals as goal

pub returns-then-not-ends_with : goal.returns-then-not-ends_with
returns-then-not-ends_with c =
    isnt (λ sound. false≢true (sym c.if-not-ends_with.true ∙ c.ends_with.ensures.1 sound.inside))

pub returns-then-not-is_allowed : goal.returns-then-not-is_allowed
returns-then-not-is_allowed c =
    isnt (λ sound. false≢true (sym c.if-not-is_allowed.true ∙ c.is_allowed.ensures.1 sound.allowed))

pub returns-then-not-has_spelling : goal.returns-then-not-has_spelling
returns-then-not-has_spelling c =
    isnt (λ sound. false≢true (sym c.if-not-has_spelling.true
    ∙ c.has_spelling.ensures.1 sound.spelled))

pub returns-then-not-has_check : goal.returns-then-not-has_check
returns-then-not-has_check c =
    isnt (λ sound. false≢true (sym c.if-not-has_check.true ∙ c.has_check.ensures.1 sound.check))

pub returns : goal.returns
returns c = (
  λ t. record {
    parts = c.well_formed-2.ensures;
    inside = c.ends_with.ensures.0 c.if-not-ends_with.false;
    allowed = c.is_allowed.ensures.0 c.if-not-is_allowed.false;
    spelled = c.has_spelling.ensures.0 c.if-not-has_spelling.false;
    check = c.has_check.ensures.0 c.if-not-has_check.false;
    places = c.has_places.ensures.0 t;
  },
  λ sound. c.has_places.ensures.1 sound.places,
)
