use Rattle.std.proofs.Common.{arith, length-set, refl}
use Rattle.std.specs.Option.{unwrap_or}
use Rattle.answer_model.specs.Choice.{each}
use Rattle.answer_model.specs.Policies.{region_of}
use Rattle.zone_table.specs.RecordSetRecord.{RecordSet}
use Rattle.policy_select.specs.Groups.{sets_in}
use Rattle.policy_select.proofs.Noted.{all_noted, few_sets, first_noted, noted_more, said_at}
use Rattle.policy_select.proofs.lists.note_regions.Goals as goal

pub loop-i-init : goal.loop-i-init
loop-i-init c =
    let some = c.requires.some in
    let room = c.requires.room in
    first_noted region_of c.args.first.now (sets_in c.args.zones.now.zones c.args.group)
    c.args.regions.now (omega (arith, some, room)) c.requires.first

pub loop-i-preserved : goal.loop-i-preserved
loop-i-preserved c =
    let first = c.args.first.now in
    let sets = sets_in c.args.zones.now.zones c.args.group in
    let it = c.region_of_member.ensures in
    let said = said_at region_of first sets c.loop-i.i it.0 it.0.routing c.region_of_member.result it.1 refl
    it.2 in
    let within = c.loop-i-test.true in
    let long = c.loop-i.auto.regions in
    let size = length-set c.args.regions.now 0 c.args.first.now in
    let room = c.requires.room in
    noted_more (each region_of first sets) c.loop-i.regions c.loop-i.i c.region_of_member.result
    (omega (arith, within, long, size, room)) said c.loop-i.invariant

pub returns-clause-noted : goal.returns-clause-noted
returns-clause-noted c =
    let first = c.args.first.now in
    let behind = c.loop-i-test.false in
    let before = c.loop-i.auto.i-end in
    all_noted (λ (s : RecordSet). unwrap_or (region_of s.routing) first)
    (sets_in c.args.zones.now.zones c.args.group) c.loop-i.regions c.loop-i.i c.args.group.length
    (omega (arith, behind, before))
    (few_sets c.args.zones.now.zones c.args.group) c.loop-i.invariant
