use Rattle.std.proofs.Common.{◌≡◌, ◌∙◌, ap, refl, sym, true, Option, Some, None, ℕ}
use Rattle.std.specs.Prelude.{◌||◌, is_some, not}
use mathlib.Core.Path.{subst}
use Rattle.std.proofs.lemmas.Bool.{false≢true}
use Rattle.policy_select.proofs.Members.{one_named}
use Rattle.policy_select.specs.Looking.{Watches}
use Rattle.policy_select.specs.Telling.{evaluates}
use Rattle.record_set.specs.declared.sets.RecordSet.{RecordSet}
use Rattle.health_planning.proofs.listing.list_alias.Goals as goal

or_true : (check : Option ℕ) → is_some check || true ≡ true
or_true None = refl
or_true (Some id) = refl

pub returns-then-not-watch-clause-here : goal.returns-then-not-watch-clause-here
returns-then-not-watch-clause-here c named names on =
    let zones = c.args.zones.now.zones in
    let w = subst (Watches zones c.args.set) c.in-Some.is c.watch.ensures in
    let same = one_named zones c.args.set w.0 named c.well_formed-2.ensures w.1 names in
    let told : c.in-Some.watch.evaluates ≡ true = ap (λ x. x.evaluates) w.2 ∙ ap (λ (s : RecordSet). evaluates s.body) same ∙ on in
    absurd (false≢true (ap not (sym told) ∙ c.if-not-watch.true))

pub returns-clause-here : goal.returns-clause-here
returns-clause-here c named names on =
    c.list_one.ensures.here named names (ap (λ b. is_some named.check || b) on ∙ or_true named.check)
