use Rattle.std.proofs.Common.{◌≡◌, ◌∙◌, ℕ, ap, sym, true}
use Rattle.std.specs.Prelude.{not}
use mathlib.Core.Path.{subst}
use Rattle.std.proofs.lemmas.Bool.{false≢true}
use Rattle.policy_select.proofs.Members.{one_named}
use Rattle.policy_select.specs.Changes.{ref_in}
use Rattle.policy_select.specs.Groups.{members_of}
use Rattle.policy_select.specs.Looking.{Targets, Watches}
use Rattle.policy_select.specs.Telling.{evaluates, target_of}
use Rattle.record_set.specs.declared.sets.RecordSet.{RecordSet}
use Rattle.health_planning.specs.Building.{IsListed}
use Rattle.health_planning.proofs.Groups.{members_are, told_target}
use Rattle.health_planning.proofs.Wiring.{in_members}
use Rattle.health_planning.proofs.listing.list_target.Goals as goal

pub returns-then-not-watch-clause-members : goal.returns-then-not-watch-clause-members
returns-then-not-watch-clause-members c named name names is =
    let zones = c.args.zones.now.zones in
    let w = subst (Watches zones c.args.set) c.in-Some.is c.watch.ensures in
    let same = one_named zones c.args.set w.0 named c.well_formed-2.ensures w.1 names in
    let on : c.in-Some.watch.evaluates ≡ true = ap (λ x. x.evaluates) w.2 ∙ ap (λ (s : RecordSet). evaluates s.body) same ∙ ap evaluates is in
    absurd (false≢true (ap not (sym on) ∙ c.if-not-watch.true))

pub returns-clause-members : goal.returns-clause-members
returns-clause-members c named name names is p here name_is rtype_is watched =
    let zones = c.args.zones.now.zones in
    let t = subst (Targets zones c.args.set) c.in-Some-target.is c.target.ensures in
    let same = one_named zones c.args.set t.0 named c.well_formed-2.ensures t.1 names in
    let target = told_target named name _ is (ap target_of (sym same) ∙ t.2) in
    let are = members_are zones c.find_group-group.result c.args.set.zone c.in-Some-target.target.0 c.in-Some-target.target.1
    c.find_group-group.ensures.zone c.find_group-group.ensures.sets in
    let m = in_members zones c.well_formed-2.ensures c.args.set.zone c.in-Some-target.target.0 c.in-Some-target.target.1
    (members_of zones c.find_group-group.result) p are here (sym target.0 ∙ name_is) (sym target.1 ∙ rtype_is) in
    subst (λ (z : ℕ). IsListed c.list_members.new.refs.items (ref_in z p)) c.find_group-group.ensures.zone
    (c.list_members.ensures.all p m watched)
