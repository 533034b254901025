use Rattle.std.proofs.Common.{◌≡◌, arith, sym, ◌∙◌, inl, inr}
use mathlib.Core.Path.{subst}
use Rattle.std.proofs.lemmas.Bool.{cases_lt}
use Rattle.std.proofs.lemmas.Option.{get_or_from_slice_get, slice_get_within}
use Rattle.policy_select.specs.SetRefRecord.{SetRef}
use Rattle.policy_select.specs.Looking.{RefersTo}
use Rattle.health_planning.specs.Building.{IsListed}
use Rattle.health_planning.proofs.listing.list_those.Goals as goal

pub loop-set-preserved : goal.loop-set-preserved
loop-set-preserved c =
    let zones = c.args.zones.now.zones in
    let i = c.loop-set.invariant in
    let o = c.list_known.ensures in
    record {
      slots = o.size ∙ i.slots;
      same_size = o.size ∙ i.same_size;
      ready = (i.ready.0, (i.ready.1.0, o.listed i.ready.0 i.ready.1.0 i.ready.1.1));
      listed = λ first before are. o.listed first before (i.listed first before are);
      goes_on = λ k ref at. o.goes_on k ref (i.goes_on k ref at);
      triggers = λ n trigger at. o.triggers n trigger (i.triggers n trigger at);
      links = o.links ∙ i.links;
      room = o.room;
      kept =
          let valves = i.kept.valves in
          let more = o.kept.valves in
          let links = i.kept.links in
          let more_links = o.kept.links in
          record { valves = omega arith; links = omega arith };
      all = λ k set named before at names watched. elim (cases_lt k c.loop-set.set-index) [
        | inl early ↦ (let l = i.all k set named early at names watched in (l.0, o.goes_on l.0 set l.1))
        | inr late ↦
            let k_is : k ≡ c.loop-set.set-index = omega arith in
            let e = get_or_from_slice_get c.args.those.now c.loop-set.set-index set (record { zone = 0; slot = 0 }) (rw k_is at at) in
            subst (IsListed c.list_known.new.refs.items) e
            (o.here named (subst (λ (s : SetRef). RefersTo zones s named) (sym e) names) watched)
      ];
    }

pub returns-clause-all : goal.returns-clause-all
returns-clause-all c k set named at names watched =
    let b = slice_get_within c.args.those.now k set at in
    let end = c.loop-set-test.false in
    c.loop-set.invariant.all k set named (omega arith) at names watched
