use Rattle.std.proofs.Common.{List, refl, subst}
use Rattle.std.proofs.lemmas.Option.{slice_get_read}
use Rattle.record_set.specs.declared.sets.RecordSet.{RecordSet}
use Rattle.zone_table.specs.Walks.{HasNoTarget}
use Rattle.alias_links.specs.After.{changed_in}
use Rattle.alias_links.specs.Leasts.{LeastOrNone}
use Rattle.alias_links.proofs.Kept.{all_taken, least_more}
use Rattle.alias_links.proofs.missing.missing_added.Goals as goal

pub loop-i-preserved : goal.loop-i-preserved
loop-i-preserved c =
    let add = c.args.add.now in
    let set = c.index-add-i in
    let after = changed_in c.args.zones.now.zones c.args.zone c.args.remove.now add in
    least_more (HasNoTarget after) add c.loop-i.i set.result c.loop-i.least
    c.missing_one-found.result c.lesser-least.result
    (slice_get_read add _ c.loop-i.i set.result refl c.loop-i-test.true set.is)
    c.loop-i.invariant c.missing_one-found.ensures c.lesser-least.ensures

pub returns : goal.returns
returns c =
    let add = c.args.add.now in
    let after = changed_in c.args.zones.now.zones c.args.zone c.args.remove.now add in
    subst (λ (l : List RecordSet). LeastOrNone (HasNoTarget after) l c.loop-i.least)
    (all_taken add c.loop-i.i c.loop-i-test.false) c.loop-i.invariant
