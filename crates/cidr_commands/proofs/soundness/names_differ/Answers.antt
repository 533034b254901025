use Rattle.std.proofs.Common.{◌≢◌, ◌∙◌, sym, subst}
use Rattle.std.specs.List.{AllByRecursion}
use Rattle.std.proofs.lemmas.Bool.{false≢true}
use Rattle.cidr_commands.specs.Stored.{NamesDiffer}
use Rattle.cidr_commands.proofs.Ids.{Held}
use Rattle.cidr_commands.proofs.InTurn.{ends, goes_on}
use Rattle.cidr_commands.proofs.soundness.names_differ.Goals as goal

pub returns-then-not-have_other_names : goal.returns-then-not-have_other_names
returns-then-not-have_other_names c =
    ends NamesDiffer
    (λ (held : Held). AllByRecursion (λ (other : Held). other.1.name ≢ held.1.name))
    (λ held list p. p)
    (λ held list q p. (q, p)) c.args.list.now c.loop-i.i c.index-list-i.result c.loop-i-test.true
    c.loop-i.invariant
    (λ q. false≢true (sym c.if-not-have_other_names.true ∙ c.have_other_names.ensures.1
    (subst (AllByRecursion _) (sym c.behind.ensures) q)))

pub loop-i-preserved : goal.loop-i-preserved
loop-i-preserved c =
    goes_on NamesDiffer
    (λ (held : Held). AllByRecursion (λ (other : Held). other.1.name ≢ held.1.name))
    (λ held list p. p)
    (λ held list q p. (q, p)) c.args.list.now c.loop-i.i c.index-list-i.result c.loop-i-test.true
    c.loop-i.invariant
    (subst (AllByRecursion _) c.behind.ensures
    (c.have_other_names.ensures.0 c.if-not-have_other_names.false))
