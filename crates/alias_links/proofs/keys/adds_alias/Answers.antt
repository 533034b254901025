use Rattle.std.proofs.Common.{◌≡◌, ◌∙◌, refl, sym, true}
use Rattle.std.proofs.lemmas.Bool.{false≢true}
use Rattle.std.proofs.lemmas.Option.{slice_get_read}
use Rattle.record_set.specs.declared.sets.RecordSet.{RecordSet}
use Rattle.zone_table.proofs.Among.{among_at}
use Rattle.alias_links.specs.Aliases.{is_alias_set}
use Rattle.alias_links.proofs.Aliased.{alias_test}
use Rattle.alias_links.proofs.Looping.{none_at_all, one_more}
use Rattle.alias_links.proofs.keys.adds_alias.Goals as goal

pub returns-then-is_alias : goal.returns-then-is_alias
returns-then-is_alias c =
    let sets = c.args.sets.now in
    let set = c.index-sets-i in
    let at = slice_get_read sets _ c.loop-i.i set.result refl c.loop-i-test.true set.is in (
      λ e. (
        set.result,
        among_at sets c.loop-i.i set.result at,
        (alias_test set.result.body).0 (sym c.is_alias.ensures ∙ c.if-is_alias.true),
      ),
      λ has. refl,
    )

pub loop-i-preserved : goal.loop-i-preserved
loop-i-preserved c =
    let sets = c.args.sets.now in
    let set = c.index-sets-i in
    one_more (λ (s : RecordSet). is_alias_set s ≡ true) sets c.loop-i.i set.result
    (slice_get_read sets _ c.loop-i.i set.result refl c.loop-i-test.true set.is)
    (λ e. false≢true (sym c.if-is_alias.false ∙ (c.is_alias.ensures ∙ e))) c.loop-i.invariant

pub returns : goal.returns
returns c = (
  λ e. absurd (false≢true e),
  λ has. absurd (none_at_all (λ (s : RecordSet). is_alias_set s ≡ true) c.args.sets.now c.loop-i.i
      c.loop-i-test.false c.loop-i.invariant has.0 has.1 ((alias_test has.0.body).1 has.2)),
)
