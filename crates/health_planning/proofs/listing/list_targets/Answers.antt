use Rattle.std.proofs.Common.{◌≡◌, arith, ap, refl, sym, ◌∙◌, inl, inr, Some}
use Rattle.std.specs.Prelude.{slice_get}
use mathlib.Core.Path.{subst}
use Rattle.std.proofs.lemmas.Bool.{cases_lt}
use Rattle.std.proofs.lemmas.Option.{slice_get_read, slice_get_within}
use Rattle.policy_select.proofs.MembersOfZoneList.{filled}
use Rattle.policy_select.specs.Changes.{ref_in}
use Rattle.policy_select.specs.Looking.{RefersTo}
use Rattle.policy_select.specs.SetRefRecord.{SetRef}
use Rattle.health_planning.specs.Building.{TargetListed}
use Rattle.health_planning.proofs.Few.{few_listed}
use Rattle.health_planning.proofs.listing.list_targets.Goals as goal

some_same : {X : Type 0} {x y : X} → Some x ≡ Some y → x ≡ y
some_same e = cc

pub loop-k-init : goal.loop-k-init
loop-k-init c = record {
  within = omega arith;
  slots = c.requires.slots;
  same_size = refl;
  ready = c.requires.listed;
  listed = λ first before are. are;
  goes_on = λ k ref at. at;
  triggers = λ n trigger at. at;
  links = refl;
  room = c.requires.room;
  kept = record { valves = refl; links = refl };
  members = λ k ref named name early at. absurd (omega arith);
}

pub loop-k-preserved : goal.loop-k-preserved
loop-k-preserved c =
    let zones = c.args.zones.now.zones in
    let i = c.loop-k.invariant in
    let o = c.list_target.ensures in
    let within = c.loop-k-test.true in
    let len = c.loop-k.refs.ok.0 in
    let set = c.index-set.result.now in
    let at = slice_get_read c.loop-k.refs.items _ c.loop-k.k set refl (omega arith) c.index-set.ensures in
    let there = slice_get_within c.list_target.new.refs.items c.loop-k.k set (o.goes_on c.loop-k.k set at) in
    record {
      within = omega arith;
      slots = o.size ∙ i.slots;
      same_size = o.size ∙ i.same_size;
      ready = (i.ready.0, (i.ready.1.0, o.listed i.ready.0 i.ready.1.0 i.ready.1.1));
      listed = λ first before are. o.listed first before (i.listed first before are);
      goes_on = λ k ref at. o.goes_on k ref (i.goes_on k ref at);
      triggers = λ n trigger at. o.triggers n trigger (i.triggers n trigger at);
      links = o.links ∙ i.links;
      room = o.room;
      kept =
          let valves = i.kept.valves in
          let more = o.kept.valves in
          let links = i.kept.links in
          let more_links = o.kept.links in
          record { valves = omega arith; links = omega arith };
      members = λ k ref named name early at_new names is. elim (cases_lt k c.loop-k.k) [
        | inl before ↦
            let old = filled c.loop-k.refs.items k (omega arith) in
            let same : old.0 ≡ ref = some_same (sym (o.goes_on k old.0 old.1) ∙ at_new) in
            let was = i.members k ref named name before (old.1 ∙ ap Some same) names is in
            λ p here name_is rtype_is watched.
            let l = was p here name_is rtype_is watched in
            (l.0, o.goes_on l.0 (ref_in ref.zone p) l.1)
        | inr late ↦
            let k_is : k ≡ c.loop-k.k = omega arith in
            let same : set ≡ ref = some_same (sym (o.goes_on c.loop-k.k set at) ∙ ap (slice_get c.list_target.new.refs.items) (sym k_is) ∙ at_new) in
            subst (λ (s : SetRef). TargetListed zones s.zone name named.rtype c.list_target.new.refs.items) same
            (o.members named name (subst (λ (s : SetRef). RefersTo zones s named) (sym same) names) is)
      ];
    }

pub returns-clause-members : goal.returns-clause-members
returns-clause-members c k ref named name early at =
    let end = c.loop-k-test.false in
    let len = c.loop-k.refs.ok.0 in
    c.loop-k.invariant.members k ref named name (omega arith) at

pub loop-k-smaller : goal.loop-k-smaller
loop-k-smaller c =
    let i = c.loop-k.invariant in
    let size = c.list_target.ensures.size in
    let within = c.loop-k-test.true in
    let len = c.loop-k.refs.ok.0 in
    let few = few_listed c.args.zones.now.zones i.ready.0 i.ready.1.0 c.loop-k.refs.items c.loop-k.seats.items c.loop-k.blueprint.triggers i.ready.1.1 in
    omega arith
