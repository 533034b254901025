use Rattle.std.proofs.Common.{ℕ, ◌≤◌, List, length, drop}
use Rattle.std.specs.Prelude.{◌↔◌}
use Rattle.rdata_layout.specs.declared.fields.Field.{Field}
use Rattle.rdata_layout.specs.declared.fields.Tail.{Tail}
use Rattle.rdata_layout.specs.Layout.{AreFields}
use Rattle.rdata_layout.proofs.layout.are_fields.Given as goal

-- The whole is all fields and the tail exactly where the rest is what is left of them.
pub record IsPassed (fields : List Field) (tail : Tail) (octets : List ℕ) (passed at : ℕ) : Type 0
  where
    pub within : at ≤ length octets
    pub same : AreFields fields tail octets ↔ AreFields (drop passed fields) tail (drop at octets)

abbrev pub invariant-loop-field : goal.invariant-loop-field
invariant-loop-field l = IsPassed l.fields l.tail l.octets l.field-index l.at
