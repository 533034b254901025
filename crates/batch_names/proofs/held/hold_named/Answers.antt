use Rattle.std.proofs.Common.{◌≡◌, ◌∙◌, sym, ap}
use Rattle.std.proofs.lemmas.Bool.{false≢true}
use Rattle.batch_model.specs.RecordSetRecord.{RecordSet}
use Rattle.zone_table.proofs.Lists.{some_one}
use Rattle.batch_names.proofs.held.hold_named.Goals as goal

pub returns-then-not-has_name : goal.returns-then-not-has_name
returns-then-not-has_name c = λ set at same.
    false≢true (sym c.if-not-has_name.true ∙ c.has_name.ensures.1 (set, at, same))

pub returns : goal.returns
returns c =
    let here = c.if-not-hold_at.ensures in
    let named = c.has_name.ensures.0 c.if-not-has_name.false in
    let same : here.0 ≡ named.0 = some_one here.0 named.0 (sym here.1 ∙ named.1) in (
      here.0,
      here.1,
      here.2,
      here.3,
      ap (λ (s : RecordSet). s.name) same ∙ named.2,
    )
