use Rattle.std.proofs.Common.{List, ℕ, arith, subst}
use Rattle.zone_table.specs.Changes.{CanChange}
use Rattle.zone_table.specs.Zones.{placed_in}
use Rattle.zone_allowed.proofs.allowed.is_change_allowed.Goals as goal

pub returns : goal.returns
returns c =
    let at = c.in-Some.ensures in (
      λ new. (
        (at.0, at.1, at.2),
        λ other others.
            subst (λ (name : List (List ℕ)). CanChange name
            (placed_in c.args.zones.now.zones c.args.zone) c.args.remove.now c.args.add.now)
            (c.one_apex.ensures c.args.zones.now.zones c.args.zone c.in-Some.apex other
            c.well_formed-2.ensures at others)
            (record {
              there = c.are_there.ensures.0 (let f = c.if-not-are_there.false in grind (arith, f));
              added = c.can_be_added.ensures.0
                  (let f = c.if-not-can_be_added.false in grind (arith, f));
              new = c.are_new.ensures.0 new;
            }),
      ),
      λ allowed. c.are_new.ensures.1 (allowed.1 c.in-Some.apex at).new,
    )

pub returns-then-not-are_there : goal.returns-then-not-are_there
returns-then-not-are_there c = (
  λ h. absurd (grind (arith, h)),
  λ allowed. absurd
      (let there = c.are_there.ensures.1 (allowed.1 c.in-Some.apex c.in-Some.ensures).there in
      let f = c.if-not-are_there.true in grind (arith, there, f)),
)

pub returns-then-not-can_be_added : goal.returns-then-not-can_be_added
returns-then-not-can_be_added c = (
  λ h. absurd (grind (arith, h)),
  λ allowed. absurd
      (let added = c.can_be_added.ensures.1 (allowed.1 c.in-Some.apex c.in-Some.ensures).added in
      let f = c.if-not-can_be_added.true in grind (arith, added, f)),
)
