use Rattle.std.proofs.Common.{◌≡◌, Some, sym, ap, ◌∙◌, arith}
use Rattle.std.specs.Prelude.{slice_get}
use Rattle.zone_model.specs.RecordSetRecord.{RecordSet}
use Rattle.set_search.specs.declared.bounds.Bound.TheVariants as bound
use Rattle.std.proofs.lemmas.Option.{slice_get_within}
use Rattle.set_search.specs.Bounds.{is_before}
use Rattle.set_search.proofs.Lookups.{filled, key_between, past_itself}
use Rattle.set_search.proofs.searching.has_key.Goals as goal

pub returns-then-place-count : goal.returns-then-place-count
returns-then-place-count g c =
    let count = c.count.ensures in
    let past = c.if-place-count.true in (
      (λ h. absurd (grind (arith, h))),
      λ x. absurd (let inside = slice_get_within (g.S.SetList.sets c.args.sets.now) c.args.place x.0 x.1 in
          omega (arith, count, past, inside)),
    )

pub returns : goal.returns
returns g c =
    let sets = g.S.SetList.sets c.args.sets.now in
    let n = c.args.place in
    let count = c.count.ensures in
    let inside = c.if-place-count.false in
    let x = filled sets n (omega (arith, count, inside)) in
    let answer : (set : RecordSet) → slice_get sets n ≡ Some set
    → c.is_before.result ≡ is_before (bound.Past c.args.key.now) set =
    λ set at. c.is_before.ensures set at ∙ ap (λ b. is_before b set) c.behind_key.ensures in (
      (λ h. (
        x.0,
        x.1,
        key_between c.args.key.now x.0 (c.requires.behind n x.0 (omega arith) x.1) (sym
            (answer x.0 x.1) ∙ h),
      )),
      λ y. answer y.0 y.1 ∙ past_itself c.args.key.now y.0 y.2,
    )
