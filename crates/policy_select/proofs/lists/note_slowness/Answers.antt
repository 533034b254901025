use Rattle.std.proofs.Common.{◌≡◌, ◌∙◌, Some, ap, arith, sym}
use Rattle.std.specs.Prelude.{slice_get}
use Rattle.std.specs.Option.{option_copied, option_map, unwrap_or}
use Rattle.std.proofs.lemmas.Option.{slice_get-map}
use Rattle.answer_model.specs.Policies.{region_of}
use Rattle.geo_latency.specs.Regions.{slowness}
use Rattle.zone_table.specs.RecordSetRecord.{RecordSet}
use Rattle.policy_select.specs.Groups.{sets_in}
use Rattle.policy_select.specs.Soonest.{slow_each}
use Rattle.policy_select.proofs.Noted.{all_noted, few_sets, noted_more}
use Rattle.policy_select.proofs.lists.note_slowness.Goals as goal

pub loop-i-preserved : goal.loop-i-preserved
loop-i-preserved c =
    let client = option_copied c.args.client in
    let first = c.args.first.now in
    let sets = sets_in c.args.zones.now.zones c.args.group in
    let f = λ (s : RecordSet). slowness client (unwrap_or (region_of s.routing) first) in
    let it = c.slowness_of_member.ensures in
    let said : slice_get (slow_each client first sets) c.loop-i.i ≡ Some c.slowness_of_member.result =
    slice_get-map f sets c.loop-i.i ∙ ap (option_map f) it.1 ∙ ap Some (sym it.2) in
    let within = c.loop-i-test.true in
    let long = c.loop-i.auto.slow in
    let room = c.requires.room in
    noted_more (slow_each client first sets) c.loop-i.slow c.loop-i.i c.slowness_of_member.result
    (omega (arith, within, long, room)) said c.loop-i.invariant

pub returns-clause-noted : goal.returns-clause-noted
returns-clause-noted c =
    let client = option_copied c.args.client in
    let first = c.args.first.now in
    let behind = c.loop-i-test.false in
    let before = c.loop-i.auto.i-end in
    all_noted (λ (s : RecordSet). slowness client (unwrap_or (region_of s.routing) first))
    (sets_in c.args.zones.now.zones c.args.group) c.loop-i.slow c.loop-i.i c.args.group.length
    (omega (arith, behind, before))
    (few_sets c.args.zones.now.zones c.args.group) c.loop-i.invariant
