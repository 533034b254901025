use Rattle.std.proofs.Common.{◌≡◌, ◌∙◌, None, ap, sym, subst}
use Rattle.std.specs.Prelude.{not}
use Rattle.std.specs.Ordering.{is_gt, is_lt}
use Rattle.std.specs.Option.{option_copied}
use Rattle.set_search.specs.Bounds.{is_before}
use Rattle.set_search.specs.Stops.{bound_of}
use Rattle.set_search.specs.declared.bounds.Stop.{Stop}
use Rattle.set_store.proofs.Alike.{from_typed, none_copied, past_typed}
use Rattle.set_store.proofs.siblings.is_before_by_type.Goals as goal

pub returns-in_ok-order-in-From : goal.returns-in_ok-order-in-From
returns-in_ok-order-in-From c octets set holds spells =
    let told = c.in_ok-order-in-From.ensures octets set holds spells in
    let none : option_copied c.in-From.ident ≡ None =
    none_copied c.in-From.ident (sym c.is_some.ensures ∙ c.if-is_some.false) in
    c.is_lt.ensures
    ∙ subst (λ (s : Stop). is_lt c.in_ok-order-in-From.order ≡ is_before (bound_of s) set)
    (sym c.in-From.is)
    (from_typed set (record {
      name = c.in-From.name.now;
      rtype = c.in-From.rtype;
      ident = option_copied c.in-From.ident;
    }) c.in_ok-order-in-From.order none told.0 told.1)

pub returns-in_ok-order-in-PastGroup : goal.returns-in_ok-order-in-PastGroup
returns-in_ok-order-in-PastGroup c octets set holds spells =
    let told = c.in_ok-order-in-PastGroup.ensures octets set holds spells in
    ap not c.is_gt.ensures
    ∙ subst (λ (s : Stop). not (is_gt c.in_ok-order-in-PastGroup.order)
    ≡ is_before (bound_of s) set) (sym c.in-PastGroup.is)
    (past_typed set c.in-PastGroup.name.now c.in-PastGroup.rtype c.in_ok-order-in-PastGroup.order
    told.0 told.1)
