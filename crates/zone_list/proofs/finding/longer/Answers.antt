use Rattle.std.proofs.Common.{◌≡◌, ◌++◌, ◌∷◌, [], ◌∙◌, List, ℕ, length, ap, sym, subst, arith}
use Rattle.zone_changes.specs.Suffix.{EndsWith}
use Rattle.zone_list.specs.Kept.{named}
use Rattle.zone_list.specs.Found.{IsAsLong, IsLongest}
use Rattle.zone_list.proofs.Listing.{passed_by, no_longer, now_longest}
use Rattle.zone_list.proofs.finding.longer.Goals as goal

pub returns-then-not-ends_with : goal.returns-then-not-ends_with
returns-then-not-ends_with c =
    let no = c.if-not-ends_with.true in
    passed_by c.args.name.now (named c.args.zone.now)
    (λ h. (let t =
    c.ends_with.ensures.1
    (subst (λ (a : List (List ℕ)). EndsWith c.args.name.now a) (sym c.apex-apex.ensures) h) in
    grind (arith, t, no))) c.args.found

pub returns-then-is_as_long : goal.returns-then-is_as_long
returns-then-is_as_long c =
    let labels : c.labels-labels.result ≡ length (named c.args.zone.now).apex = c.labels-labels.ensures
    ∙ ap length c.apex-apex.ensures in
    no_longer c.args.name.now (named c.args.zone.now) c.args.found
    (subst (λ n. IsAsLong c.args.found n) labels (c.is_as_long.ensures.0 c.if-is_as_long.true))

pub returns : goal.returns
returns c =
    let labels : c.labels-labels.result ≡ length (named c.args.zone.now).apex = c.labels-labels.ensures
    ∙ ap length c.apex-apex.ensures in
    let no = c.if-is_as_long.false in
    let ends = c.if-not-ends_with.false in
    let above : EndsWith c.args.name.now (named c.args.zone.now).apex =
    subst (λ (a : List (List ℕ)). EndsWith c.args.name.now a) c.apex-apex.ensures
    (c.ends_with.ensures.0 (grind (arith, ends))) in
    λ zones found.
    subst (λ n. IsLongest (zones ++ (named c.args.zone.now) ∷ []) c.args.name.now n
    c.labels-labels.result) (sym c.id.ensures)
    (subst (λ n. IsLongest (zones ++ (named c.args.zone.now) ∷ []) c.args.name.now
    (named c.args.zone.now).id n) (sym labels)
    (now_longest c.args.name.now (named c.args.zone.now) above c.args.found
    (λ h. (let t = c.is_as_long.ensures.1 (subst (λ n. IsAsLong c.args.found n) (sym labels) h) in
    grind (arith, t, no))) zones found))
