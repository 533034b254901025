use Rattle.std.proofs.Common.{◌≡◌, ◌+◌, ◌-◌, ◌<◌, arith, subst}
use Rattle.set_search.specs.declared.bounds.Bound.TheVariants as bound
use Rattle.set_search.specs.Found.{IsBracket}
use Rattle.set_search.proofs.Beside.{ends_before, ends_later, ends_past}
use Rattle.set_search.proofs.Lookups.{filled}
use Rattle.set_search.proofs.groups.end_behind.Goals as goal

pub returns-then-high-place-lt2 : goal.returns-then-high-place-lt2
returns-then-high-place-lt2 g c =
    let sets = g.S.SetList.sets c.args.sets.now in
    let high = c.past_name-high.result in
    let past = c.past_name-high.ensures in
    let above = past.above in
    let near = c.if-high-place-lt2.true in
    let ends = ends_past c.args.name.now c.args.rtype sets c.requires.rising c.args.place
    c.requires.member high past in
    let e : c.args.place + 1 ≡ high = omega (arith, above, near) in
    subst (λ n. IsBracket sets (bound.PastGroup c.args.name.now c.args.rtype) n high) e ends.bracket

pub returns-then-is_of : goal.returns-then-is_of
returns-then-is_of g c =
    let sets = g.S.SetList.sets c.args.sets.now in
    let high = c.past_name-high.result in
    let past = c.past_name-high.ensures in
    let above = past.above in
    let within = past.within in
    let below : high - 1 < high = omega (arith, above) in
    let y = filled sets (high - 1) (omega (arith, above, within)) in
    let ends = ends_past c.args.name.now c.args.rtype sets c.requires.rising c.args.place
    c.requires.member high past in
    let e : high - 1 + 1 ≡ high = omega (arith, above) in
    subst (λ n. IsBracket sets (bound.PastGroup c.args.name.now c.args.rtype) n high) e
    (ends_later c.args.name.now c.args.rtype sets c.requires.rising c.args.place high (high - 1) below
    ends (y.0, y.1, (c.is_of.ensures y.0 y.1).0 c.if-is_of.true)).bracket

pub end_round-last-requires-clause-ends : goal.end_round-last-requires-clause-ends
end_round-last-requires-clause-ends g c =
    let sets = g.S.SetList.sets c.args.sets.now in
    let high = c.past_name-high.result in
    let past = c.past_name-high.ensures in
    let above = past.above in
    let within = past.within in
    let far = c.if-high-place-lt2.false in
    let y = filled sets (high - 1) (omega (arith, above, within)) in
    ends_before c.args.name.now c.args.rtype sets c.requires.rising c.args.place c.requires.member
    (high - 1) y.0 (omega (arith, above, far)) y.1
    (λ is. let t = (c.is_of.ensures y.0 y.1).1 is in let f = c.if-is_of.false in grind (arith, t, f))
