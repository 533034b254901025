use Rattle.std.proofs.Common.{◌≡◌, subst, sym}
use Rattle.std.specs.Prelude.{IfSome}
use Rattle.std.specs.Option.{option_copied}
use Rattle.set_search.specs.Bounds.{is_before}
use Rattle.set_search.specs.Stops.{bound_of}
use Rattle.set_search.specs.declared.bounds.Stop.{Stop}
use Rattle.set_store.proofs.Beside.{by_from, by_group, by_past}
use Rattle.set_store.proofs.siblings.is_before_by_name.Goals as goal

pub returns-in-From : goal.returns-in-From
returns-in-From c octets set holds spells =
    let found = c.is_named_before.result in
    subst (λ (s : Stop). IfSome found (λ before. before ≡ is_before (bound_of s) set)) (sym c.in-From.is)
    (by_from set (record {
      name = c.in-From.name.now;
      rtype = c.in-From.field-1;
      ident = option_copied c.in-From.field-2;
    }) found (c.is_named_before.ensures octets set holds spells))

pub returns-in-Past : goal.returns-in-Past
returns-in-Past c octets set holds spells =
    let found = c.is_named_before-in-Past.result in
    subst (λ (s : Stop). IfSome found (λ before. before ≡ is_before (bound_of s) set)) (sym c.in-Past.is)
    (by_past set (record {
      name = c.in-Past.name.now;
      rtype = c.in-Past.field-1;
      ident = option_copied c.in-Past.field-2;
    }) found (c.is_named_before-in-Past.ensures octets set holds spells))

pub returns-in-PastGroup : goal.returns-in-PastGroup
returns-in-PastGroup c octets set holds spells =
    let found = c.is_named_before-in-PastGroup.result in
    subst (λ (s : Stop). IfSome found (λ before. before ≡ is_before (bound_of s) set))
    (sym c.in-PastGroup.is)
    (by_group set c.in-PastGroup.name.now c.in-PastGroup.field-1 found
    (c.is_named_before-in-PastGroup.ensures octets set holds spells))
