use Rattle.std.proofs.Common.{◌≡◌, ◌∙◌, refl, sym, true}
use Rattle.std.proofs.lemmas.Bool.{false≢true}
use Rattle.std.proofs.lemmas.Option.{slice_get_read}
use Rattle.record_set.specs.Reasons.{IsAlias}
use Rattle.record_set.specs.declared.sets.RecordSet.{RecordSet}
use Rattle.zone_table.proofs.Among.{among_at}
use Rattle.zone_table.specs.Sets.{is_of_group}
use Rattle.alias_links.proofs.Changing.{in_filter, of_filter}
use Rattle.alias_links.proofs.Looping.{none_at_all, one_more}
use Rattle.alias_links.proofs.ending.adds_alias_to.Goals as goal

pub returns-then-is_alias_of : goal.returns-then-is_alias_of
returns-then-is_alias_of c =
    let sets = c.args.sets.now in
    let set = c.index-sets-i in
    let at = slice_get_read sets _ c.loop-i.i set.result refl c.loop-i-test.true set.is in
    let both = c.is_alias_of.ensures.0 c.if-is_alias_of.true in (
      λ e. (
        set.result,
        in_filter (is_of_group c.args.name.now c.args.rtype) sets set.result
            (among_at sets c.loop-i.i set.result at) both.1,
        both.0,
      ),
      λ has. refl,
    )

pub loop-i-preserved : goal.loop-i-preserved
loop-i-preserved c =
    let sets = c.args.sets.now in
    let set = c.index-sets-i in
    one_more (λ (s : RecordSet). IsAlias s.body × (is_of_group c.args.name.now c.args.rtype s ≡ true))
    sets c.loop-i.i set.result
    (slice_get_read sets _ c.loop-i.i set.result refl c.loop-i-test.true set.is)
    (λ both. false≢true (sym c.if-is_alias_of.false ∙ c.is_alias_of.ensures.1 both)) c.loop-i.invariant

pub returns : goal.returns
returns c = (
  λ e. absurd (false≢true e),
  λ has. (let is = of_filter (is_of_group c.args.name.now c.args.rtype) c.args.sets.now has.0 has.1 in
      absurd (none_at_all
      (λ (s : RecordSet). IsAlias s.body × (is_of_group c.args.name.now c.args.rtype s ≡ true))
      c.args.sets.now c.loop-i.i c.loop-i-test.false c.loop-i.invariant has.0 is.0 (has.2, is.1))),
)
