use Rattle.std.proofs.Common.{List, Option, map, ℕ, refl, subst}
use Rattle.std.specs.Prelude.{IfNone, IfSome}
use Rattle.std.specs.String.{string_bytes}
use Rattle.r53_cli.proofs.Forms.{none_is_not_once}
use Rattle.r53_cli.proofs.Running.{few, starved}
use Rattle.r53_cli.specs.Forms.{HasNoForm, IsForm}
use Rattle.r53_cli.specs.Sessions.{IsOnceForm}
use Rattle.r53_cli.specs.declared.form.Form.{Form}
use Rattle.r53_cli.specs.declared.form.Form.TheVariants as form
use Rattle.r53_cli.proofs.program.run.Goals as goal

pub run_form-requires : goal.run_form-requires
run_form-requires g c = record {
  few = few (map string_bytes c.args.args.now) c.in-Ok-Some.form
      (subst (λ (found : Option Form). IfSome found (IsForm (map string_bytes c.args.args.now)))
      c.in-Ok-Some.field-0-is c.in-Ok-Some.ensures.some);
}

pub returns-in-Ok-None-clause-usage : goal.returns-in-Ok-None-clause-usage
returns-in-Ok-None-clause-usage g c = λ usage. subst (λ (found : Option Form). IfNone found (HasNoForm (map string_bytes c.args.args.now)))
    c.in-Ok-None.field-0-is c.in-Ok-None.ensures.none

pub returns-in-Ok-None-clause-leaves : goal.returns-in-Ok-None-clause-leaves
returns-in-Ok-None-clause-leaves g c = λ its is. absurd ((subst (λ (found : Option Form). IfNone found (HasNoForm (map string_bytes c.args.args.now)))
    c.in-Ok-None.field-0-is c.in-Ok-None.ensures.none) its is)

pub returns-in-Ok-None-clause-complete : goal.returns-in-Ok-None-clause-complete
returns-in-Ok-None-clause-complete g c = λ asked bytes told limit input output.
    absurd (none_is_not_once (map string_bytes c.args.args.now) (subst (λ (found : Option Form). IfNone found (HasNoForm (map string_bytes c.args.args.now)))
    c.in-Ok-None.field-0-is c.in-Ok-None.ensures.none) asked.0 asked.1)

pub returns-in-Ok-Some-clause-usage : goal.returns-in-Ok-Some-clause-usage
returns-in-Ok-Some-clause-usage g c = λ usage. absurd (c.run_form.ensures.built usage)

pub returns-in-Ok-Some-clause-refused : goal.returns-in-Ok-Some-clause-refused
returns-in-Ok-Some-clause-refused g c = λ none. absurd (none c.in-Ok-Some.form (subst (λ (found : Option Form). IfSome found (IsForm (map string_bytes c.args.args.now)))
    c.in-Ok-Some.field-0-is c.in-Ok-Some.ensures.some))

pub returns-in-Ok-Some-clause-complete : goal.returns-in-Ok-Some-clause-complete
returns-in-Ok-Some-clause-complete g c = λ asked bytes told limit input output.
    c.run_form.ensures.complete
    (subst (λ (f : Form). IsOnceForm f)
    (c.one_form.ensures (map string_bytes c.args.args.now) (form.Once asked.0) c.in-Ok-Some.form
    asked.1 (subst (λ (found : Option Form). IfSome found (IsForm (map string_bytes c.args.args.now)))
    c.in-Ok-Some.field-0-is c.in-Ok-Some.ensures.some)) tt) bytes told limit input output
