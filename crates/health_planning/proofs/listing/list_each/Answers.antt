use Rattle.std.proofs.Common.{◌≡◌, arith, ap, sym, ◌∙◌, inl, inr}
use mathlib.Core.Path.{subst}
use Rattle.std.proofs.lemmas.Bool.{cases_lt}
use Rattle.policy_select.specs.Changes.{ref_in}
use Rattle.zone_model.proofs.Among.{place_of}
use Rattle.std.proofs.lemmas.Option.{slice_get_within}
use Rattle.policy_select.specs.Zones.{placed_in}
use Rattle.policy_select.specs.Looking.{IsSetAt}
use Rattle.health_planning.specs.Building.{IsListed}
use Rattle.policy_select.specs.Telling.{evaluates}
use Rattle.record_set.specs.declared.sets.RecordSet.{RecordSet}
use Rattle.health_planning.proofs.ListedOnce.{slot_below, told_at}
use Rattle.health_planning.proofs.listing.list_each.Goals as goal

pub list_alias-requires-clause-slot : goal.list_alias-requires-clause-slot
list_alias-requires-clause-slot c =
    let t = told_at c.args.zones.now.zones c.args.zone c.loop-i.i c.in-Some.set
    (subst (IsSetAt c.args.zones.now.zones c.args.zone c.loop-i.i) c.in-Some.is c.at.ensures) in
    let b = slot_below c.args.zones.now.zones c.args.zones.now.slots c.in-Some.set t.set c.slots_within.ensures.within t.names in
    let slots = c.loop-i.invariant.slots in
    omega arith

pub loop-i-preserved : goal.loop-i-preserved
loop-i-preserved c =
    let zones = c.args.zones.now.zones in
    let i = c.loop-i.invariant in
    let o = c.list_alias.ensures in
    let t = told_at zones c.args.zone c.loop-i.i c.in-Some.set (subst (IsSetAt zones c.args.zone c.loop-i.i) c.in-Some.is c.at.ensures) in
    record {
      within = omega (arith, c.loop-i-test.true, c.count-i-end.ensures);
      slots = o.size ∙ i.slots;
      ready = (i.ready.0, (i.ready.1.0, o.listed i.ready.0 i.ready.1.0 i.ready.1.1));
      listed = λ first before are. o.listed first before (i.listed first before are);
      goes_on = λ k ref at. o.goes_on k ref (i.goes_on k ref at);
      triggers = λ n trigger at. o.triggers n trigger (i.triggers n trigger at);
      links = o.links ∙ i.links;
      room = o.room;
      kept =
          let valves = i.kept.valves in
          let more = o.kept.valves in
          let links = i.kept.links in
          let more_links = o.kept.links in
          record { valves = omega arith; links = omega arith };
      all = λ k p before at watched. elim (cases_lt k c.loop-i.i) [
        | inl early ↦ (let l = i.all k p early at watched in (l.0, o.goes_on l.0 (ref_in c.args.zone p) l.1))
        | inr late ↦
            let k_is : k ≡ c.loop-i.i = omega arith in
            let its = t.its p (rw k_is at at) in
            subst (IsListed c.list_alias.new.refs.items) (sym its.1) (o.here t.set t.names (sym (ap (λ (x : RecordSet). evaluates x.body) its.0) ∙ watched))
      ];
    }

pub returns-clause-all : goal.returns-clause-all
returns-clause-all c p here watched =
    let zones = c.args.zones.now.zones in
    let k = place_of (placed_in zones c.args.zone) p here in
    let b = slice_get_within (placed_in zones c.args.zone) k.0 p k.1 in
    let end = c.loop-i-test.false in
    let count = c.count-i-end.ensures in
    c.loop-i.invariant.all k.0 p (omega arith) k.1 watched
