use Rattle.std.proofs.Common.{◌≡◌, ◌∙◌, refl, sym}
use Rattle.std.proofs.lemmas.Bool.{false≢true}
use Rattle.std.proofs.lemmas.Option.{slice_get_read}
use Rattle.record_set.specs.Reasons.{IsAlias}
use Rattle.record_set.specs.declared.sets.RecordSet.{RecordSet}
use Rattle.zone_table.proofs.Among.{among_at}
use Rattle.alias_links.specs.After.{sets_in}
use Rattle.alias_links.specs.Laws.{EndsWalks}
use Rattle.alias_links.proofs.Looping.{all_have, one_more_has}
use Rattle.alias_links.proofs.ending.all_end_walks.Goals as goal

pub returns-then-not-ends_walks : goal.returns-then-not-ends_walks
returns-then-not-ends_walks c =
    let add = c.args.add.now in
    let set = c.index-add-i in
    let at = slice_get_read add _ c.loop-i.i set.result refl c.loop-i-test.true set.is in (
      λ e. absurd (false≢true e),
      λ all. absurd (false≢true (sym c.if-not-ends_walks.true
          ∙ c.ends_walks.ensures.1 (all set.result (among_at add c.loop-i.i set.result at)))),
    )

pub loop-i-preserved : goal.loop-i-preserved
loop-i-preserved c =
    let add = c.args.add.now in
    let set = c.index-add-i in
    one_more_has (λ (s : RecordSet). IsAlias s.body
    → EndsWalks (sets_in c.args.zones.now.zones c.args.zone) add s) add c.loop-i.i set.result
    (slice_get_read add _ c.loop-i.i set.result refl c.loop-i-test.true set.is)
    (c.ends_walks.ensures.0 c.if-not-ends_walks.false) c.loop-i.invariant

pub returns : goal.returns
returns c = (
  λ e. all_have (λ (s : RecordSet). IsAlias s.body
      → EndsWalks (sets_in c.args.zones.now.zones c.args.zone) c.args.add.now s) c.args.add.now c.loop-i.i
      c.loop-i-test.false c.loop-i.invariant,
  λ all. refl,
)
