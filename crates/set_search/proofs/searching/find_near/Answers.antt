use Rattle.std.proofs.Common.{arith, subst}
use Rattle.set_search.specs.Found.{IsCount}
use Rattle.set_search.proofs.Lookups.{found, not_found}
use Rattle.set_search.proofs.searching.find_near.Goals as goal

pub returns-then-has_key : goal.returns-then-has_key
returns-then-has_key g c =
    let sets = g.S.SetList.sets c.args.sets.now in
    let n = c.count_before-place.result in
    let x = c.has_key.ensures.0 c.if-has_key.true in
    found sets c.args.key.now c.requires n
    x.0 (subst (λ b. IsCount sets b n) c.before_key.ensures c.count_before-place.ensures) x.1 x.2

pub returns : goal.returns
returns g c =
    let sets = g.S.SetList.sets c.args.sets.now in
    let n = c.count_before-place.result in
    not_found sets c.args.key.now c.requires n
    (subst (λ b. IsCount sets b n) c.before_key.ensures c.count_before-place.ensures)
    (λ x at same. (let no = c.has_key.ensures.1 (x, at, same) in let f = c.if-has_key.false in grind
    (arith, no, f)))
