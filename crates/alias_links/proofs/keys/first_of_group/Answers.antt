use Rattle.std.proofs.Common.{◌≡◌, ◌∙◌, ◌<◌, length, refl, sym, subst, true, arith, inl, inr}
use Rattle.std.specs.Prelude.{slice_get, Some}
use Rattle.std.proofs.lemmas.Bool.{false≢true}
use Rattle.std.proofs.lemmas.Option.{slice_get_read}
use Rattle.record_set.specs.declared.sets.RecordSet.{RecordSet}
use Rattle.zone_table.proofs.Among.{among_at}
use Rattle.zone_table.proofs.Lists.{some_one}
use Rattle.zone_table.specs.Sets.{is_of_group}
use Rattle.alias_links.proofs.Looping.{last_or}
use Rattle.alias_links.proofs.keys.first_of_group.Goals as goal

pub returns-then-is_of_group-clause-some : goal.returns-then-is_of_group-clause-some
returns-then-is_of_group-clause-some c =
    let sets = c.args.sets.now in
    let set = c.index-sets-place in
    let within : c.loop-place.place < length sets = omega (arith, c.loop-place-test.true, c.requires) in
    let at = slice_get_read sets _ c.loop-place.place set.result refl within set.is in (
      set.result,
      among_at sets c.loop-place.place set.result at,
      sym c.is_of_group.ensures ∙ c.if-is_of_group.true,
    )

pub loop-place-preserved : goal.loop-place-preserved
loop-place-preserved c = λ j set from lt at is.
    (let sets = c.args.sets.now in
    let own = c.index-sets-place in
    let place = c.loop-place.place in
    let within : place < length sets = omega (arith, c.loop-place-test.true, c.requires) in
    let here = slice_get_read sets _ place own.result refl within own.is in
    elim (last_or j place lt) [
      | inl less ↦ c.loop-place.invariant j set from less at is
      | inr e ↦
          (let same : set ≡ own.result =
          some_one set own.result (sym at ∙ subst (λ n. slice_get sets n ≡ Some own.result) (sym e) here) in
          let no : is_of_group c.args.name.now c.args.rtype own.result ≡ true =
          subst (λ (s : RecordSet). is_of_group c.args.name.now c.args.rtype s ≡ true) same is in
          false≢true (sym c.if-is_of_group.false ∙ (c.is_of_group.ensures ∙ no)))
    ])

pub returns-clause-none : goal.returns-clause-none
returns-clause-none c = λ j set from lt at is.
    (let past = c.loop-place-test.false in
    c.loop-place.invariant j set from (omega (arith, past, lt)) at is)
