use Rattle.std.proofs.Common.{◌≡◌, ℕ, ◌+◌, ◌∙◌, Some, refl, sym, subst, arith}
use Rattle.std.specs.Prelude.{slice_get}
use Rattle.std.proofs.lemmas.Bool.{false≢true}
use Rattle.record_set.specs.Reasons.{IsAlias}
use Rattle.record_set.specs.declared.sets.RecordSet.{RecordSet}
use Rattle.alias_links.specs.After.{sets_in}
use Rattle.alias_links.proofs.Aliased.{alias_test}
use Rattle.alias_links.proofs.Grouped.{filled_at, member_at, place_in}
use Rattle.alias_links.proofs.Looping.{one_more_from}
use Rattle.alias_links.proofs.ending.has_alias_in.Goals as goal

pub returns-then-is_alias_at : goal.returns-then-is_alias_at
returns-then-is_alias_at c =
    let sets = sets_in c.args.zones.now.zones c.args.zone in
    let g = c.group-group.result in
    let is = c.group-group.ensures.sets in
    let one = filled_at sets c.args.name.now c.args.rtype g.start g.length is c.loop-i.i
    c.loop-i-test.true in
    let here = subst (λ (z : ℕ). slice_get (sets_in c.args.zones.now.zones z) (g.start + c.loop-i.i)
    ≡ Some one.0) (sym c.group-group.ensures.zone) one.1 in (
      λ e. (
        one.0,
        member_at sets c.args.name.now c.args.rtype g.start g.length is c.loop-i.i one.0
            c.loop-i-test.true one.1,
        (alias_test one.0.body).0 (sym (c.is_alias_at.ensures one.0 here) ∙ c.if-is_alias_at.true),
      ),
      λ has. refl,
    )

pub loop-i-preserved : goal.loop-i-preserved
loop-i-preserved c =
    let sets = sets_in c.args.zones.now.zones c.args.zone in
    let g = c.group-group.result in
    let one = filled_at sets c.args.name.now c.args.rtype g.start g.length
    c.group-group.ensures.sets c.loop-i.i c.loop-i-test.true in
    let here = subst (λ (z : ℕ). slice_get (sets_in c.args.zones.now.zones z) (g.start + c.loop-i.i)
    ≡ Some one.0) (sym c.group-group.ensures.zone) one.1 in
    one_more_from (λ (s : RecordSet). IsAlias s.body) sets g.start c.loop-i.i one.0 one.1
    (λ alias. false≢true (sym c.if-is_alias_at.false
    ∙ (c.is_alias_at.ensures one.0 here ∙ (alias_test one.0.body).1 alias)))
    c.loop-i.invariant

pub returns : goal.returns
returns c =
    let sets = sets_in c.args.zones.now.zones c.args.zone in
    let g = c.group-group.result in (
      λ e. absurd (false≢true e),
      λ has. (let at = place_in sets c.args.name.now c.args.rtype g.start g.length
          c.group-group.ensures.sets has.0 has.1 in
          let lt = at.1 in
          let all = c.loop-i-test.false in
          absurd (c.loop-i.invariant at.0 has.0 (omega (arith, lt, all)) at.2 has.2)),
    )
