-- The octets of one name.
use Rattle.std.specs.Prelude.{◌≡◌, ℕ, ◌≤◌, List, length}
use Rattle.std.specs.List.{AllByRecursion}
use Rattle.dns_name.specs.Labels.{wire, IsRawLabel}
use Rattle.dns_name.specs.Stored.{labels_of, IsLowerLabel}

-- These octets are a name on the wire in lower case, whole and with nothing behind it.
pub record IsWire (octets : List ℕ) : Type 0 where
  pub each : AllByRecursion IsRawLabel (labels_of octets)
  pub lower : AllByRecursion IsLowerLabel (labels_of octets)
  pub spelled : octets ≡ wire (labels_of octets)
  pub fits : length octets ≤ 255
