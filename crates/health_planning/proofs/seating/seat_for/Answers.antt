use Rattle.std.proofs.Common.{◌≡◌, ◌∙◌, arith, ap, sym, Some}
use mathlib.Core.Path.{subst}
use Rattle.health_planning.specs.Wired.{IsValveWith, valve_with}
use Rattle.health_planning.proofs.Numbers.{valve_early}
use Rattle.health_planning.proofs.Groups.{alone_told}
use Rattle.health_planning.proofs.Told.{only_alone}
use Rattle.health_planning.proofs.seating.seat_for.Goals as goal

pub returns-then-only-eq0-clause-alone : goal.returns-then-only-eq0-clause-alone
returns-then-only-eq0-clause-alone c named id is alone =
    let only = c.only_check-only.ensures named is ∙ only_alone named id alone in
    let at = c.requires.there id (ap (λ x. x.check) is ∙ alone.1) in
    let least = c.requires.least at.0 id at.1 in
    let none = c.if-only-eq0.true in
    absurd (omega arith)

pub returns-in_default-clause-alone : goal.returns-in_default-clause-alone
returns-in_default-clause-alone c named id is alone =
    let only = c.only_check-only.ensures named is ∙ only_alone named id alone in
    let at = c.requires.there id (ap (λ x. x.check) is ∙ alone.1) in
    let none = subst (IsValveWith c.args.ids.now c.args.numbers.now c.only_check-only.result) c.in_default.is c.valve_with.ensures in
    absurd (none at.0 (at.1 ∙ ap Some (sym only)))

pub returns-clause-alone : goal.returns-clause-alone
returns-clause-alone c named id is alone =
    let only = c.only_check-only.ensures named is ∙ only_alone named id alone in
    let valve = (subst (IsValveWith c.args.ids.now c.args.numbers.now c.only_check-only.result) c.in-Some.is c.valve_with.ensures).1 in
    let same : c.in-Some.valve ≡ valve_with c.args.ids.now c.args.numbers.now id =
    valve ∙ ap (valve_with c.args.ids.now c.args.numbers.now) only in
    (only, omega arith)

pub overflow_add-result : goal.overflow_add-result
overflow_add-result c =
    let named = c.requires.named in
    let told = c.only_check-only.ensures named.0 named.1 in
    let alone = alone_told named.0 (λ none. c.if-only-eq0.false (told ∙ none)) in
    let at = c.requires.there c.only_check-only.result (ap (λ x. x.check) named.1 ∙ alone.1 ∙ ap Some (sym told)) in
    let valve = (subst (IsValveWith c.args.ids.now c.args.numbers.now c.only_check-only.result) c.in-Some.is c.valve_with.ensures).1 in
    let early = valve_early c.args.ids.now c.args.numbers.now c.requires.valves at.0 c.only_check-only.result at.1 in
    omega arith

pub returns-clause-early : goal.returns-clause-early
returns-clause-early c =
    let named = c.requires.named in
    let told = c.only_check-only.ensures named.0 named.1 in
    let alone = alone_told named.0 (λ none. c.if-only-eq0.false (told ∙ none)) in
    let at = c.requires.there c.only_check-only.result (ap (λ x. x.check) named.1 ∙ alone.1 ∙ ap Some (sym told)) in
    let valve = (subst (IsValveWith c.args.ids.now c.args.numbers.now c.only_check-only.result) c.in-Some.is c.valve_with.ensures).1 in
    let early = valve_early c.args.ids.now c.args.numbers.now c.requires.valves at.0 c.only_check-only.result at.1 in
    omega arith
