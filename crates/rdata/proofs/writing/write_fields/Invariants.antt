use Rattle.std.proofs.Common.{◌≡◌, ℕ, ◌*◌, ◌≤◌, List, [], length, take, drop}
use Rattle.field_text.specs.FieldRecord.{Field}
use Rattle.field_text.specs.TailRecord.{Tail}
use Rattle.field_text.specs.Layout.{AreFields}
use Rattle.rdata.specs.Written.{field_texts, joined_from}
use Rattle.rdata.proofs.writing.write_fields.Given as goal

-- The fields before a place are written, and those behind it and the tail are left.
pub record AreWritten (kinds : List Field) (tail : Tail) (octets old into : List ℕ)
    (passed at end : ℕ) : Type 0 where
  pub within : at ≤ length octets
  pub fields : AreFields (drop passed kinds) tail (drop at octets)
  pub written : joined_from (take end into) (field_texts (drop passed kinds) tail (drop at octets))
      ≡ joined_from [] (field_texts kinds tail octets)
  pub kept : drop end into ≡ drop end old
  pub room : end ≤ 4 * at
  pub size : length into ≡ length old

abbrev pub invariant-loop-kind : goal.invariant-loop-kind
invariant-loop-kind l = AreWritten l.kinds l.tail l.octets l.fn.into l.into l.kind-index l.at l.end
