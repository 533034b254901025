use Rattle.std.proofs.Common.{◌≡◌, ◌+◌, ◌∙◌, Bool, Some, arith, length-set, refl, sym, subst, take}
use Rattle.std.proofs.lemmas.List.{length-map}
use Rattle.std.specs.Prelude.{slice_get}
use Rattle.std.specs.Option.{option_copied, unwrap_or}
use Rattle.answer_model.specs.Choice.{each}
use Rattle.answer_model.specs.Policies.{place_of}
use Rattle.zone_table.specs.RecordSetRecord.{RecordSet}
use Rattle.policy_select.specs.Groups.{flags_in, sets_in}
use Rattle.policy_select.specs.Nearby.{AreNoted, TellsNear}
use Rattle.policy_select.proofs.Choosing.{same_length}
use Rattle.policy_select.proofs.Front.{first_settled}
use Rattle.policy_select.proofs.Nearby.{all_are_enough, elsewhere, noted_on, passed_to, set_passed}
use Rattle.policy_select.proofs.Noted.{few_sets, said_at}
use Rattle.policy_select.proofs.Settled.{settled}
use Rattle.policy_select.proofs.lists.note_near.Goals as goal

pub loop-i-smaller-in_default-near_place_of_member : goal.loop-i-smaller-in_default-near_place_of_member
loop-i-smaller-in_default-near_place_of_member g c =
    let found = c.in-Some.ensures.found in
    omega (arith, found.0, found.1)

pub loop-i-preserved-in_default-near_place_of_member :
    goal.loop-i-preserved-in_default-near_place_of_member
loop-i-preserved-in_default-near_place_of_member g c =
    let client = option_copied c.args.client in
    let first = c.args.first.now in
    let sets = sets_in c.args.zones.now.zones c.args.group in
    let test = g.V.HealthView.test c.args.view.now in
    let flags = flags_in c.args.zones.now.zones test c.args.group in
    let l = c.loop-i in
    let country = c.country_of-country.result in
    let many = same_length c.args.zones.now.zones test c.args.group in
    let i = c.in-Some.i in
    let found = c.in-Some.ensures.found in
    let few = l.invariant.few in
    let it = c.near_place_of_member.ensures in
    let other = subst (TellsNear country (unwrap_or (place_of it.0.routing) first))
    c.in_default-near_place_of_member.is it.2 in
    record {
      within = omega (arith, found.1);
      few = omega (arith, few, found.0);
      room = l.invariant.room;
      noted =
          set_passed client first sets flags l.places l.healthy l.sets i l.count it.0 it.1
          (passed_to client country c.country_of-country.ensures first sets flags many l.places l.healthy l.sets
          l.count l.from i found.0 (c.in-Some.ensures.passed first) l.invariant.noted)
          many
          (elsewhere client country (unwrap_or (place_of it.0.routing) first) c.country_of-country.ensures other);
    }

pub loop-i-smaller : goal.loop-i-smaller
loop-i-smaller g c =
    let found = c.in-Some.ensures.found in
    omega (arith, found.0, found.1)

pub loop-i-preserved : goal.loop-i-preserved
loop-i-preserved g c =
    let client = option_copied c.args.client in
    let first = c.args.first.now in
    let sets = sets_in c.args.zones.now.zones c.args.group in
    let test = g.V.HealthView.test c.args.view.now in
    let flags = flags_in c.args.zones.now.zones test c.args.group in
    let l = c.loop-i in
    let country = c.country_of-country.result in
    let many = same_length c.args.zones.now.zones test c.args.group in
    let i = c.in-Some.i in
    let found = c.in-Some.ensures.found in
    let few = l.invariant.few in
    let room = l.invariant.room in
    let more = c.if-count-places.false in
    let it = c.near_place_of_member.ensures in
    let says = subst (TellsNear country (unwrap_or (place_of it.0.routing) first))
    c.in-Some-near_place_of_member.is it.2 in
    let long_places = l.auto.places in
    let long_healthy = l.auto.healthy in
    let long_sets = l.auto.sets in
    let room_healthy = c.requires.healthy in
    let room_sets = c.requires.sets in
    let n = l.count in
    let place = c.in-Some-near_place_of_member.place in
    let flag = c.is_member_healthy-is_healthy.result in
    let noted =
    noted_on client country c.country_of-country.ensures first sets flags many l.places l.healthy l.sets n l.from i
    it.0 place flag it.1 says c.is_member_healthy-is_healthy.ensures
    (omega (arith, room, more))
    (omega (arith, room, more, long_places, long_healthy, room_healthy))
    (omega (arith, room, more, long_places, long_sets, room_sets))
    found.0 (c.in-Some.ensures.passed first) l.invariant.noted in
    let size = length-set l.places n place in
    record {
      within = omega (arith, found.1);
      few = omega (arith, few, found.0);
      room = omega (arith, room, more, size);
      noted = noted;
    }

pub returns-then-settles_at-clause-found : goal.returns-then-settles_at-clause-found
returns-then-settles_at-clause-found g c =
    let client = option_copied c.args.client in
    let first = c.args.first.now in
    let sets = sets_in c.args.zones.now.zones c.args.group in
    let test = g.V.HealthView.test c.args.view.now in
    let flags = flags_in c.args.zones.now.zones test c.args.group in
    let l = c.loop-i in
    let many = same_length c.args.zones.now.zones test c.args.group in
    let i = c.in-Some.i in
    let none = c.settles_at.ensures.none c.if-settles_at.true in
    first_settled client c.country_of-country.result c.country_of-country.ensures first sets flags many l.from i
    c.in-Some.ensures.found.0 (c.in-Some.ensures.passed first)
    (subst
    (λ n. AreNoted client (take l.from (each place_of first sets)) (take l.from flags) (take n l.places)
    (take n l.healthy) (take n l.sets)) none l.invariant.noted)
    (c.settles_at.ensures.settled c.if-settles_at.true first)
    (c.settles_at.ensures.healthy c.if-settles_at.true)

pub returns-then-settles-clause-noted : goal.returns-then-settles-clause-noted
returns-then-settles-clause-noted g c =
    let client = option_copied c.args.client in
    let first = c.args.first.now in
    let sets = sets_in c.args.zones.now.zones c.args.group in
    let test = g.V.HealthView.test c.args.view.now in
    let flags = flags_in c.args.zones.now.zones test c.args.group in
    let l = c.loop-i in
    let country = c.country_of-country.result in
    let many = same_length c.args.zones.now.zones test c.args.group in
    let i = c.in-Some.i in
    let found = c.in-Some.ensures.found in
    let few = l.invariant.few in
    let room = l.invariant.room in
    let more = c.if-count-places.false in
    let it = c.near_place_of_member.ensures in
    let says = subst (TellsNear country (unwrap_or (place_of it.0.routing) first))
    c.in-Some-near_place_of_member.is it.2 in
    let long_places = l.auto.places in
    let long_healthy = l.auto.healthy in
    let long_sets = l.auto.sets in
    let room_healthy = c.requires.healthy in
    let room_sets = c.requires.sets in
    let n = l.count in
    let place = c.in-Some-near_place_of_member.place in
    let flag = c.is_member_healthy-is_healthy.result in
    let noted =
    noted_on client country c.country_of-country.ensures first sets flags many l.places l.healthy l.sets n l.from i
    it.0 place flag it.1 says c.is_member_healthy-is_healthy.ensures
    (omega (arith, room, more))
    (omega (arith, room, more, long_places, long_healthy, room_healthy))
    (omega (arith, room, more, long_places, long_sets, room_sets))
    found.0 (c.in-Some.ensures.passed first) l.invariant.noted in
    let all = each place_of first sets in
    let true_flag = subst (λ (b : Bool). slice_get flags i ≡ Some b) (c.settles.ensures.healthy c.if-settles.true)
    c.is_member_healthy-is_healthy.ensures in (
      i + 1,
      noted,
      settled client place all flags i (c.settles.ensures.settles c.if-settles.true)
          (many ∙ sym (length-map sets (λ (s : RecordSet). unwrap_or (place_of s.routing) first)))
          (said_at place_of first sets i it.0 it.0.routing place it.1 refl says) true_flag,
    )

pub returns-clause-noted : goal.returns-clause-noted
returns-clause-noted g c =
    let client = option_copied c.args.client in
    let first = c.args.first.now in
    let sets = sets_in c.args.zones.now.zones c.args.group in
    let test = g.V.HealthView.test c.args.view.now in
    let flags = flags_in c.args.zones.now.zones test c.args.group in
    let l = c.loop-i in
    let country = c.country_of-country.result in
    let many = same_length c.args.zones.now.zones test c.args.group in
    all_are_enough client country c.country_of-country.ensures first sets flags many l.places l.healthy l.sets
    l.count c.args.group.length (few_sets c.args.zones.now.zones c.args.group)
    (passed_to client country c.country_of-country.ensures first sets flags many l.places l.healthy l.sets
    l.count l.from c.args.group.length l.invariant.within (c.in_default.ensures.passed first) l.invariant.noted)
