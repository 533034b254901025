-- The order of keys is a total order, and its ties are equal keys.
use Rattle.std.specs.Prelude.{◌≡◌}
use Rattle.std.specs.Cmp.{IsTotalOrder}
use Rattle.std.specs.declared.cmp.Ordering.TheVariants.{Equal}
use Rattle.record_set.specs.declared.sets.SetKey.{SetKey}
use Rattle.zone_model.specs.Keys.{key_cmp}

pub record KeysAreOrdered : Type 0 where
  pub total : IsTotalOrder key_cmp
  pub ties : (key other : SetKey) → key_cmp key other ≡ Equal → key ≡ other
