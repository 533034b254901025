use Rattle.std.proofs.Common.{◌≡◌, ◌∙◌, ℕ, List, [], ◌∷◌, ◌++◌, length, ap, sym, subst, arith}
use Rattle.std.proofs.lemmas.Bool.Decides.{nat_tests}
use Rattle.ip_table.specs.declared.tree.Fork.{Fork}
use Rattle.ip_table.specs.Bits.{width_of}
use Rattle.ip_table.specs.Prefixes.{Prefix}
use Rattle.ip_table.specs.Trees.{prefix_at, leaf, AllStand, IsTree}
use Rattle.ip_table.proofs.Growth.{last, longer, all_prefixes, are_apart, tree_on, others_on}
use Rattle.ip_table.proofs.Placing.{alone}
use Rattle.ip_table.proofs.place.add_row.Goals as goal

pub place-requires-clause-prefixes : goal.place-requires-clause-prefixes
place-requires-clause-prefixes c =
    all_prefixes c.args.prefixes.now.items c.args.prefix c.deref-2.result.now
    (c.deref-2.ensures.value ∙ c.push_reserved.ensures.items)
    c.requires.prefixes c.requires.prefix

pub place-requires-clause-apart : goal.place-requires-clause-apart
place-requires-clause-apart c =
    are_apart c.args.prefixes.now.items c.args.prefix c.deref-2.result.now (c.deref-2.ensures.value
    ∙ c.push_reserved.ensures.items)
    c.requires.apart c.requires.absent

-- the prefix of the row that was added
last_is : (ps new : List Prefix) (p : Prefix) (row : ℕ) → length ps ≡ row → new ≡ ps ++ p ∷ []
    → prefix_at new row ≡ p
last_is ps new p row end is = subst (λ n. prefix_at new n ≡ p) end (last ps p new is)

pub place-requires-clause-tree : goal.place-requires-clause-tree
place-requires-clause-tree c =
    let new = c.deref-2.result.now in
    let is = c.deref-2.ensures.value ∙ c.push_reserved.ensures.items in
    subst (λ (p : Prefix). IsTree new c.args.forks.now.items (width_of p.address))
    (sym (last_is c.args.prefixes.now.items new c.args.prefix c.len-row.result
    (omega (arith, c.len-row.ensures, c.args.prefixes.now.ok.0)) is))
    (tree_on c.args.prefixes.now.items c.args.prefix new is c.args.forks.now.items
    (width_of c.args.prefix.address) c.requires.tree)

pub place-requires-clause-others : goal.place-requires-clause-others
place-requires-clause-others c =
    let new = c.deref-2.result.now in
    let is = c.deref-2.ensures.value ∙ c.push_reserved.ensures.items in
    let end : length c.args.prefixes.now.items ≡ c.len-row.result =
    omega (arith, c.len-row.ensures, c.args.prefixes.now.ok.0) in
    subst (λ (p : Prefix). AllStand new c.args.forks.now.items (width_of p.address)
    c.len-row.result)
    (sym (last_is c.args.prefixes.now.items new c.args.prefix c.len-row.result end is))
    (subst (λ n. AllStand new c.args.forks.now.items (width_of c.args.prefix.address) n) end
    (others_on c.args.prefixes.now.items c.args.prefix new is c.args.forks.now.items
    (width_of c.args.prefix.address) c.requires.all))

pub returns-then-is_empty-clause-grown : goal.returns-then-is_empty-clause-grown
returns-then-is_empty-clause-grown c =
    let ps = c.args.prefixes.now.items in
    let new = c.push_reserved.new.self.items in
    let is = c.push_reserved.ensures.items in
    let width = width_of c.args.prefix.address in
    let none : length c.args.forks.now.items ≡ 0 =
    grind (arith, nat_tests, c.args.forks.now.ok.0) in
    let end : length ps ≡ c.len-row.result =
    omega (arith, c.len-row.ensures, c.args.prefixes.now.ok.0) in
    alone new c.args.forks.now.items c.push_reserved-then-is_empty.new.self.items width
    c.len-row.result none
    (subst (λ n. AllStand new c.args.forks.now.items width n) end
    (others_on ps c.args.prefix new is c.args.forks.now.items width c.requires.all))
    (omega (arith, end, longer ps c.args.prefix new is))
    (ap (λ (p : Prefix). width_of p.address) (last_is ps new c.args.prefix c.len-row.result end is))
    (c.push_reserved-then-is_empty.ensures.items
    ∙ ap (λ (n : Fork). c.args.forks.now.items ++ n ∷ [])
    (c.leaf.ensures
    ∙ ap (λ (qs : List Prefix). leaf qs 0 0 c.len-row.result) c.deref.ensures.value))
