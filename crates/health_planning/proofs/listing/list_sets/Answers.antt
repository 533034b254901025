use Rattle.std.proofs.Common.{◌≡◌, arith, refl, ◌∙◌, inl, inr}
use mathlib.Core.Path.{subst}
use Rattle.std.proofs.lemmas.Bool.{cases_lt}
use Rattle.policy_select.specs.Changes.{ref_in}
use Rattle.policy_select.specs.Found.{NextZoneOrNone}
use Rattle.health_planning.proofs.ListedOnce.{its_zone, up_to}
use Rattle.policy_select.proofs.MembersOfZoneList.{in_all}
use Rattle.policy_select.specs.Zones.{StandsAlone}
use Rattle.health_planning.proofs.listing.list_sets.Goals as goal

pub loop-next-init : goal.loop-next-init
loop-next-init c = record {
  slots = c.requires.slots;
  ready = c.requires.listed;
  listed = λ first before are. are;
  goes_on = λ k ref at. at;
  triggers = λ n trigger at. at;
  links = refl;
  room = c.requires.room;
  kept = record { valves = refl; links = refl };
  all = λ id p to here watched.
      let z = its_zone c.args.zones.now.zones id p here in
      let n = (in_all StandsAlone c.args.zones.now.zones z.0 c.well_formed-2.ensures.each z.1.0).numbered in
      let e = z.1.1 in
      absurd (omega arith);
}

pub returns-clause-all : goal.returns-clause-all
returns-clause-all c id p here watched =
    let none = subst (NextZoneOrNone c.args.zones.now.zones c.loop-next.zone) c.in_default.is c.zone_after.ensures in
    c.loop-next.invariant.all id p (up_to c.args.zones.now.zones id c.loop-next.zone p none here) here watched

pub loop-next-preserved : goal.loop-next-preserved
loop-next-preserved c =
    let zones = c.args.zones.now.zones in
    let i = c.loop-next.invariant in
    let o = c.list_zone.ensures in
    let next = subst (NextZoneOrNone zones c.loop-next.zone) c.in-Some.is c.zone_after.ensures in
    record {
      slots = o.size ∙ i.slots;
      ready = (i.ready.0, (i.ready.1.0, o.listed i.ready.0 i.ready.1.0 i.ready.1.1));
      listed = λ first before are. o.listed first before (i.listed first before are);
      goes_on = λ k ref at. o.goes_on k ref (i.goes_on k ref at);
      triggers = λ n trigger at. o.triggers n trigger (i.triggers n trigger at);
      links = o.links ∙ i.links;
      room = o.room;
      kept =
          let valves = i.kept.valves in
          let more = o.kept.valves in
          let links = i.kept.links in
          let more_links = o.kept.links in
          record { valves = omega arith; links = omega arith };
      all = λ id p to here watched. elim (cases_lt c.loop-next.zone id) [
        | inl past ↦
            let z = its_zone zones id p here in
            let its = z.1.1 in
            let least = next.least z.0 z.1.0 (omega arith) in
            let same : id ≡ c.in-Some.next = omega arith in
            rw same (o.all p (rw same at here) watched)
        | inr before ↦ (let l = i.all id p (omega arith) here watched in (l.0, o.goes_on l.0 (ref_in id p) l.1))
      ];
    }
