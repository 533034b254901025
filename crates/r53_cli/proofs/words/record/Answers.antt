use Rattle.std.proofs.Common.{List, ℕ, Option, ap, sym, ◌∙◌, subst}
use Rattle.std.specs.Prelude.{IfNone}
use Rattle.rdata.specs.Datum.{Datum}
use Rattle.dns_name.specs.Text.{name_of_text}
use Rattle.r53_cli.specs.Once.{IsAddress}
use Rattle.r53_cli.proofs.words.record.Goals as goal

pub returns-in_default-clause-none : goal.returns-in_default-clause-none
returns-in_default-clause-none c = λ once s.
    c.in_default.ensures.none once.name (ap name_of_text c.as_bytes.ensures.value ∙ s.name_is)

pub returns-in-Ok-None-clause-none : goal.returns-in-Ok-None-clause-none
returns-in-Ok-None-clause-none c = λ once s.
    let never : (address : Datum) → IsAddress c.as_bytes-2.result.now address → ⊥ =
    subst (λ (found : Option Datum). IfNone found ((address : Datum)
    → IsAddress c.as_bytes-2.result.now address → ⊥)) c.in-Ok-None.field-0-is
    c.in-Ok-None.ensures.none in
    never once.address
    (subst (λ (text : List ℕ). IsAddress text once.address) (sym c.as_bytes-2.ensures.value)
    s.address_is)
