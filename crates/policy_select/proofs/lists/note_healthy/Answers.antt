use Rattle.std.proofs.Common.{arith}
use Rattle.zone_table.specs.Slotted.{Slotted}
use Rattle.policy_select.specs.Groups.{flags_in, members_of}
use Rattle.policy_select.proofs.Noted.{all_noted, few_members, noted_more}
use Rattle.policy_select.proofs.Policies.{in_slots}
use Rattle.policy_select.proofs.lists.note_healthy.Goals as goal

pub is_member_healthy-requires-clause-within : goal.is_member_healthy-requires-clause-within
is_member_healthy-requires-clause-within g c =
    in_slots c.args.zones.now.zones c.args.group c.args.slots.now c.loop-i.i c.requires.group
    c.requires.slots c.loop-i-test.true

pub loop-i-preserved : goal.loop-i-preserved
loop-i-preserved g c =
    let within = c.loop-i-test.true in
    let long = c.loop-i.auto.healthy in
    let room = c.requires.room in
    noted_more (flags_in c.args.zones.now.zones (g.V.HealthView.test c.args.view.now) c.args.group)
    c.loop-i.healthy c.loop-i.i c.is_member_healthy.result
    (omega (arith, within, long, room)) c.is_member_healthy.ensures c.loop-i.invariant

pub returns-clause-noted : goal.returns-clause-noted
returns-clause-noted g c =
    let behind = c.loop-i-test.false in
    let before = c.loop-i.auto.i-end in
    all_noted
    (λ (p : Slotted). g.V.HealthView.test c.args.view.now
    (record { zone = c.args.group.zone; slot = p.slot }))
    (members_of c.args.zones.now.zones c.args.group) c.loop-i.healthy c.loop-i.i c.args.group.length
    (omega (arith, behind, before))
    (few_members c.args.zones.now.zones c.args.group) c.loop-i.invariant
