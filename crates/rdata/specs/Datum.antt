-- What contracts see of a value.
use Rattle.std.specs.Prelude.{ℕ, List}
use Rattle.field_text.specs.RTypeRecord.{RType}

-- its type, and its octets on the wire with names uncompressed and in lower case
pub record Datum : Type 0 where
  pub rtype : RType
  pub wire : List ℕ
