use Rattle.std.proofs.Common.{List, ℕ, sym, subst}
use Rattle.config_model.specs.Layout.{IsLayout}
use Rattle.config_model.specs.RTypeRecord.TheVariants.{Ns}
use Rattle.config_edits.proofs.Values.{ns_layout}
use Rattle.config_edits.proofs.opening.ns_value.Goals as goal

pub value_of-requires : goal.value_of-requires
value_of-requires c =
    subst (λ (l : List ℕ). IsLayout Ns l) (sym c.octets.ensures.spelled)
    (ns_layout c.args.server.now c.octets.ensures.name)
