use Rattle.std.proofs.Common.{◌≡◌, ℕ, arith, ap, sym, ◌∙◌, inl, inr, Some}
use Rattle.std.specs.Prelude.{slice_get}
use mathlib.Core.Path.{subst}
use Rattle.std.proofs.lemmas.Bool.{cases_lt}
use Rattle.std.proofs.lemmas.Option.{slice_get_within}
use Rattle.policy_select.specs.Changes.{ref_in}
use Rattle.policy_select.specs.Groups.{members_of}
use Rattle.policy_select.specs.SetRefRecord.{SetRef}
use Rattle.zone_model.proofs.Among.{place_of}
use Rattle.zone_model.specs.Slotted.{Slotted}
use Rattle.health_planning.specs.Building.{IsListed}
use Rattle.health_planning.specs.Wired.{is_watched}
use Rattle.policy_select.proofs.Noted.{few_members}
use Rattle.health_planning.proofs.Groups.{member_at}
use Rattle.health_planning.proofs.ListedOnce.{slot_below}
use Rattle.health_planning.proofs.listing.list_members.Goals as goal

some_same : {X : Type 0} {x y : X} → Some x ≡ Some y → x ≡ y
some_same e = cc

ref_is : (ref : SetRef) (zone slot : ℕ) → ref.zone ≡ zone → ref.slot ≡ slot
    → ref ≡ record { zone = zone; slot = slot }
ref_is ref zone slot a b =
    ap (λ (z : ℕ). record { zone = z; slot = ref.slot }) a ∙ ap (λ (n : ℕ). record { zone = zone; slot = n }) b

pub list_one-requires-clause-slot : goal.list_one-requires-clause-slot
list_one-requires-clause-slot c =
    let zones = c.args.zones.now.zones in
    let m = member_at zones c.args.group c.loop-i.i c.member.result c.loop-i-test.true c.member.ensures in
    let b = slot_below zones c.args.zones.now.slots c.member.result m.p.set c.slots_within.ensures.within m.names in
    let slots = c.loop-i.invariant.slots in
    omega arith

pub loop-i-preserved : goal.loop-i-preserved
loop-i-preserved c =
    let zones = c.args.zones.now.zones in
    let i = c.loop-i.invariant in
    let o = c.list_one.ensures in
    let m = member_at zones c.args.group c.loop-i.i c.member.result c.loop-i-test.true c.member.ensures in
    record {
      within = omega (arith, c.loop-i-test.true);
      slots = o.size ∙ i.slots;
      same_size = o.size ∙ i.same_size;
      ready = (i.ready.0, (i.ready.1.0, o.listed i.ready.0 i.ready.1.0 i.ready.1.1));
      listed = λ first before are. o.listed first before (i.listed first before are);
      goes_on = λ k ref at. o.goes_on k ref (i.goes_on k ref at);
      triggers = λ n trigger at. o.triggers n trigger (i.triggers n trigger at);
      links = o.links ∙ i.links;
      room = o.room;
      kept =
          let valves = i.kept.valves in
          let more = o.kept.valves in
          let links = i.kept.links in
          let more_links = o.kept.links in
          record { valves = omega arith; links = omega arith };
      all = λ k p before at watched. elim (cases_lt k c.loop-i.i) [
        | inl early ↦ (let l = i.all k p early at watched in (l.0, o.goes_on l.0 (ref_in c.args.group.zone p) l.1))
        | inr late ↦
            let k_is : k ≡ c.loop-i.i = omega arith in
            let same : m.p ≡ p = some_same (sym m.at ∙ ap (slice_get (members_of zones c.args.group)) (sym k_is) ∙ at) in
            let ref = ref_is c.member.result c.args.group.zone p.slot c.member.ensures.zone (sym m.slot ∙ ap (λ (q : Slotted). q.slot) same) in
            subst (IsListed c.list_one.new.refs.items) ref
            (o.here m.p.set m.names (ap (λ (q : Slotted). is_watched q.set) same ∙ watched))
      ];
    }

pub returns-clause-all : goal.returns-clause-all
returns-clause-all c p here watched =
    let members = members_of c.args.zones.now.zones c.args.group in
    let k = place_of members p here in
    let b = slice_get_within members k.0 p k.1 in
    let end = c.loop-i-test.false in
    let long = few_members c.args.zones.now.zones c.args.group in
    c.loop-i.invariant.all k.0 p (omega arith) k.1 watched
