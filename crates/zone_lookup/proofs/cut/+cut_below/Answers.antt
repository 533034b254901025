use Rattle.std.proofs.Common.{◌<◌, ◌≡◌, ◌+◌, arith, length, sym, subst, List, ℕ}
use Rattle.zone_lookup.proofs.Cutting.{as_cut, at_named, first_below, from_parent, under_name}
use Rattle.zone_lookup.specs.Cuts.{IsCut}
use Rattle.zone_lookup.specs.Served.{zone_of}
use Rattle.zone_lookup.proofs.cut.+cut_below.Goals as goal

pub returns-then-labels-eq1 : goal.returns-then-labels-eq1
returns-then-labels-eq1 t c =
    let zones = c.args.zones.now.zones in
    let zone = zone_of zones c.args.zone c.args.apex.now in
    let name = c.args.name.now in
    let counted = c.requires.labels in
    let one = c.if-labels-eq1.true in
    let longer : length name ≡ length c.args.apex.now + 1 = omega (arith, counted, one) in
    as_cut zones zone name c.group_of.result c.group_of.ensures
    (first_below c.cuts_are_nearest.ensures c.names_exist.ensures.below zone name
    c.requires.inside longer)

pub cut_below-requires : goal.cut_below-requires
cut_below-requires t c =
    let some = c.if-labels-eq0.false in
    let named = c.in-Some.ensures.some in
    let filled : 0 < c.args.labels = omega (arith, some) in
    let less = c.decreases in (
      omega (arith, some, less),
      under_name c.args.name.now c.args.apex.now named.0
          c.in-Some.parent c.args.labels named.1 c.requires.inside c.requires.labels filled,
    )

pub returns-in-Some-cut_below : goal.returns-in-Some-cut_below
returns-in-Some-cut_below t c =
    let zones = c.args.zones.now.zones in
    let zone = zone_of zones c.args.zone c.args.apex.now in
    let named = c.in-Some.ensures.some in
    subst (λ (n : List (List ℕ)). IsCut zones zone n c.in-Some-cut_below.cut) (sym named.1)
    (from_parent zones zone named.0 c.in-Some.parent c.in-Some-cut_below.cut
    c.in-Some-cut_below.ensures)

pub returns-in-None : goal.returns-in-None
returns-in-None t c =
    let zones = c.args.zones.now.zones in
    let zone = zone_of zones c.args.zone c.args.apex.now in
    let some = c.if-labels-eq0.false in
    let named = c.in-Some.ensures.some in
    let filled : 0 < c.args.labels = omega (arith, some) in
    as_cut zones zone c.args.name.now c.group_of-in-None.result c.group_of-in-None.ensures
    (at_named c.cuts_are_nearest.ensures c.names_exist.ensures.below zone c.args.name.now named.0
    c.in-Some.parent c.args.labels named.1 c.requires.inside c.requires.labels filled
    c.in-None.ensures)
