use Rattle.std.proofs.Common.{◌≡◌, ◌+◌, ℕ, arith, refl, ap, sym, ◌∙◌, inl, inr, Some}
use Rattle.std.specs.Prelude.{slice_get}
use Rattle.std.proofs.lemmas.Bool.{cases_lt, false≢true}
use Rattle.std.proofs.lemmas.Option.{slice_get_read, slice_get_within}
use Rattle.check_model.specs.declared.checks.Check.{Check}
use Rattle.health_index.proofs.following.agree_behind.Goals as goal

some_same : {X : Type 0} {x y : X} → Some x ≡ Some y → x ≡ y
some_same e = cc

pub returns-then-not-has_at : goal.returns-then-not-has_at
returns-then-not-has_at c =
    let at = slice_get_read c.args.list.now _ c.loop-place.place c.index-list-place.result refl c.loop-place-test.true c.index-list-place.is in
    let past = c.loop-place.auto.place in (
      λ no place held past there. absurd (false≢true no),
      λ all.
          c.if-not-has_at.ensures.1 (all c.loop-place.place c.index-list-place.result past at
          ∙ ap (λ (h : ℕ × Check). Some h.0) c.index-list-place.is),
    )

pub loop-place-preserved : goal.loop-place-preserved
loop-place-preserved c k held past early at = elim (cases_lt k c.loop-place.place) [
  | inl before ↦ c.loop-place.invariant k held past before at
  | inr late ↦
      let same : k ≡ c.loop-place.place = omega arith in
      let there = slice_get_read c.args.list.now _ c.loop-place.place c.index-list-place.result refl c.loop-place-test.true c.index-list-place.is in
      let is : c.index-list-place.result ≡ held = some_same (sym there ∙ ap (slice_get c.args.list.now) (sym same) ∙ at) in
      ap (λ (n : ℕ). slice_get c.args.ids.now (n + 1)) same ∙ c.if-not-has_at.ensures.0 refl
      ∙ ap (λ (h : ℕ × Check). Some h.0) (sym c.index-list-place.is)
      ∙ ap (λ (h : ℕ × Check). Some h.0) is
]

pub returns : goal.returns
returns c = (
  λ yes place held past at.
      let within = slice_get_within c.args.list.now place held at in
      let end = c.loop-place-test.false in
      c.loop-place.invariant place held past (omega arith) at,
  λ all. refl,
)
