use Rattle.std.proofs.Common.{◌∙◌, ap}
use Rattle.std.specs.Ordering.{nat_cmp}
use Rattle.set_search.specs.Types.{number_of}
use Rattle.set_store.proofs.siblings.type_order.Goals as goal

pub returns : goal.returns
returns c octets set holds spells =
    let told = c.in_ok-own.ensures octets set holds spells in (
      told.0,
      c.cmp.ensures ∙ ap (λ n. nat_cmp n c.number.result) told.1
          ∙ ap (nat_cmp (number_of set.rtype)) c.number.ensures,
    )
