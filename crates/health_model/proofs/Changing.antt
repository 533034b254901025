-- What a command changes of equations, and reports of checks that there were.
use Rattle.std.proofs.Common.{Bool, cond, [], ◌∷◌, Option, ap, ◌∙◌, refl, arith}
use Rattle.std.specs.Prelude.{nat_eq, ◌&&◌}
use Rattle.std.specs.List.{list_any}
use Rattle.std.proofs.lemmas.Bool.{ne_eqb}
use Rattle.check_model.specs.declared.checks.Check.{Check}
use Rattle.zone_model.specs.RecordSetRecord.{RecordSet}
use Rattle.health_model.specs.Laws.{NewCheckHasNone, OneCheckChanges, OnlyGroupsChange}
use Rattle.health_model.specs.Nodes.{CheckNode, GroupNode, SetNode}
use Rattle.health_model.specs.Statuses.{passing, results_of, value_there}

pub new_has_none : NewCheckHasNone
new_has_none next [] checker are = refl
new_has_none next (report ∷ reports) checker are =
    let low = are.0.0 in
    ap (λ (b : Bool). cond (b && nat_eq checker report.checker)
    (report.pass ∷ results_of reports next checker) (results_of reports next checker))
    (ne_eqb next report.check (λ e. omega (arith, low, e)))
    ∙ new_has_none next reports checker are.1

pub one_check : OneCheckChanges
one_check watched checks id same reports v (CheckNode other) apart =
    ap (λ (found : Option Check). value_there found (passing reports other)
    (λ child. v (CheckNode child))) (same other (λ e. apart (ap CheckNode e)))
one_check watched checks id same reports v (SetNode zone one) apart = refl
one_check watched checks id same reports v (GroupNode zone name rtype) apart = refl

pub only_groups : OnlyGroupsChange
only_groups watched zones reports v (CheckNode id) same = refl
only_groups watched zones reports v (SetNode zone one) same = refl
only_groups watched zones reports v (GroupNode zone name rtype) same =
    ap (list_any (λ (one : RecordSet). v (SetNode zone one))) (same zone name rtype refl)
