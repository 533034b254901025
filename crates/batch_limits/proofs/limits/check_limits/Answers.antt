use Rattle.std.proofs.Common.{◌≢◌, [], length, subst, ap, arith, inr}
use Rattle.batch_model.specs.Batches.{IsValid}
use Rattle.batch_limits.specs.Tests.{IsFirstInvalidOrNone}
use Rattle.batch_limits.proofs.Valid.{all_valid}
use Rattle.batch_limits.proofs.limits.check_limits.Goals as goal

pub returns-then-has_long_set : goal.returns-then-has_long_set
returns-then-has_long_set c =
    let empty = c.is_empty.ensures in
    let not_empty = c.if-is_empty.false in
    let filled : c.args.changes.now ≢ [] =
    (λ e. let n = ap length e in grind (arith, n, empty, not_empty)) in
    let valid : IsValid c.args.changes.now c.args.apex.now =
    all_valid c.args.changes.now c.args.apex.now filled
    (subst (λ r. IsFirstInvalidOrNone c.args.changes.now c.args.apex.now r) c.in_default.is
    c.first_invalid.ensures) in
    let few = c.if-has_too_many_values.false in (
      valid,
      (λ h. let t = c.has_too_many_values.ensures.1 h in grind (arith, t, few)),
      inr (c.has_long_set.ensures.0 c.if-has_long_set.true),
    )

pub returns : goal.returns
returns c =
    let empty = c.is_empty.ensures in
    let not_empty = c.if-is_empty.false in
    let filled : c.args.changes.now ≢ [] =
    (λ e. let n = ap length e in grind (arith, n, empty, not_empty)) in
    let valid : IsValid c.args.changes.now c.args.apex.now =
    all_valid c.args.changes.now c.args.apex.now filled
    (subst (λ r. IsFirstInvalidOrNone c.args.changes.now c.args.apex.now r) c.in_default.is
    c.first_invalid.ensures) in
    let few = c.if-has_too_many_values.false in
    let short = c.if-has_too_many_characters.false in
    let none_long = c.if-has_long_set.false in
    record {
      valid = valid;
      values = λ h. let t = c.has_too_many_values.ensures.1 h in grind (arith, t, few);
      characters = λ h. let t = c.has_too_many_characters.ensures.1 h in grind (arith, t, short);
      octets = λ h. let t = c.has_long_set.ensures.1 h in grind (arith, t, none_long);
    }
