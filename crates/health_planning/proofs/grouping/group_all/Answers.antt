use Rattle.std.proofs.Common.{◌≡◌, length, arith, sym, refl, ◌∙◌, inl, inr, ap}
use Rattle.std.proofs.lemmas.Bool.{cases_lt}
use Rattle.std.proofs.lemmas.Option.{get_or_from_slice_get, slice_get-get_or, slice_get_within}
use mathlib.Core.Path.{subst}
use Rattle.policy_select.specs.SetRefRecord.{SetRef}
use Rattle.policy_select.specs.Looking.{RefersTo}
use Rattle.health_planning.specs.Building.{HasTarget}
use Rattle.health_planning.proofs.Given.{none_noted}
use Rattle.health_planning.proofs.Grouped.{target_on}
use Rattle.health_planning.proofs.Roomy.{can_start}
use Rattle.health_planning.specs.Wired.{own_part}
use Rattle.health_planning.proofs.grouping.group_all.Goals as goal

pub loop-set-init : goal.loop-set-init
loop-set-init c = record {
  slots = c.requires.slots;
  below = c.requires.below;
  within = c.requires.within;
  grouped = can_start c.args.zones.now.zones c.args.seats.now.items c.args.blueprint.now c.requires.below c.requires.apart c.requires.none c.requires.room
      c.requires.links_room c.requires.few;
  kept = record { valves = refl; links = refl };
  all = λ k set named name before at names is. absurd (omega arith);
  sets = record { valves = λ slot. refl; checks = λ slot. refl };
  triggers = λ n trigger at. at;
  feeders = λ valve early. refl;
  more = omega arith;
  noted = rw c.requires.none_noted (none_noted c.args.seats.now.items c.requires.none);
  members_room = c.requires.members_room;
}

pub loop-set-preserved : goal.loop-set-preserved
loop-set-preserved c =
    let zones = c.args.zones.now.zones in
    let i = c.loop-set.invariant in
    let o = c.group_one.ensures in
    let grown = i.more in
    let more = o.more in
    record {
      slots = o.size ∙ i.slots;
      below = λ slot valve is. let b = i.below slot valve (sym (ap own_part (o.sets.valves slot)) ∙ is) in omega arith;
      within = o.within;
      grouped = o.grouped (length c.args.blueprint.now.triggers) (length c.args.blueprint.now.links) i.grouped;
      kept =
          let valves = i.kept.valves in
          let more_valves = o.kept.valves in
          let links = i.kept.links in
          let more_links = o.kept.links in
          record { valves = omega arith; links = omega arith };
      all = λ k set named name before at names is. elim (cases_lt k c.loop-set.set-index) [
        | inl early ↦ target_on zones _ _ set.zone name named.rtype o.goes_on (i.all k set named name early at names is)
        | inr late ↦
            let k_is : k ≡ c.loop-set.set-index = omega arith in
            let e = get_or_from_slice_get c.args.refs.now c.loop-set.set-index set (record { zone = 0; slot = 0 }) (rw k_is at at) in
            subst (λ (s : SetRef). HasTarget zones c.group_one.new.seats.items s.zone name named.rtype) e
            (o.here named name (subst (λ (s : SetRef). RefersTo zones s named) (sym e) names) is)
      ];
      sets = record {
        valves = λ slot. o.sets.valves slot ∙ i.sets.valves slot;
        checks = λ slot. o.sets.checks slot ∙ i.sets.checks slot;
      };
      triggers = λ n trigger at. o.triggers n trigger (i.triggers n trigger at);
      feeders = λ valve early. o.feeders valve (omega arith) ∙ i.feeders valve early;
      more = omega arith;
      noted = o.noted;
      members_room =
          let size = o.size in
          let same = o.members_room in
          let was = i.members_room in
          omega arith;
    }

pub returns-clause-all : goal.returns-clause-all
returns-clause-all c k set named name at names is =
    let b = slice_get_within c.args.refs.now k set at in
    let end = c.loop-set-test.false in
    c.loop-set.invariant.all k set named name (omega arith) at names is

pub group_one-requires-clause-told : goal.group_one-requires-clause-told
group_one-requires-clause-told c named names =
    let here = slice_get-get_or c.args.refs.now c.loop-set.set-index (record { zone = 0; slot = 0 }) c.loop-set-test.true in
    c.loop-set.invariant.sets.checks _ ∙ c.requires.told c.loop-set.set-index _ named here names

pub group_one-requires-clause-room : goal.group_one-requires-clause-room
group_one-requires-clause-room c =
    (length c.args.blueprint.now.triggers, (length c.args.blueprint.now.links, c.loop-set.invariant.grouped))
