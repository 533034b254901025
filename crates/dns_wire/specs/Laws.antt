-- Laws over the definitions of this crate.
use Rattle.std.specs.Prelude.{◌≡◌, ℕ, ◌<◌, ◌≤◌, List, [], ◌∷◌, ◌++◌, length, Bool, true, false}
use Rattle.std.specs.List.{AllByRecursion}
use Rattle.rdata_layout.specs.Names.{IsName}
use Rattle.rdata_layout.specs.Layout.{IsLayout}
use Rattle.dns_message.specs.Question.{IsQuestion}
use Rattle.dns_wire.specs.declared.reply.Section.{Section}
use Rattle.dns_wire.specs.Draft.{Follows, with_record, with_records}
use Rattle.dns_wire.specs.Header.{FitsRcode}
use Rattle.dns_wire.specs.Message.{Message, Record, octets_of, records_of, octets_within, without_records}
use Rattle.dns_wire.specs.Reading.{Reads}

-- a record whose owner is a name, and whose data are a value of its type
pub record IsProper (r : Record) : Type 0 where
  pub owner : IsName r.owner
  pub rdata : IsLayout r.rtype r.rdata

-- A reply that isn't truncated is read as it was meant.
abbrev pub WholeRepliesRead : Type 0
WholeRepliesRead =
    (m : Message) (limit : ℕ)
    → length (octets_of false m) ≤ limit
    → FitsRcode m.rcode m.opt
    → IsQuestion m.name m.question
    → AllByRecursion IsProper (records_of m)
    → Reads (octets_within m limit) false m

-- A reply that is truncated is read as the same without its records, and with TC.
abbrev pub CutRepliesRead : Type 0
CutRepliesRead =
    (m : Message) (limit : ℕ)
    → limit < length (octets_of false m)
    → FitsRcode m.rcode m.opt
    → IsQuestion m.name m.question
    → Reads (octets_within m limit) true (without_records m)

-- Octets are read as one reply at most, with one TC.
abbrev pub OneReading : Type 0
OneReading =
    (message : List ℕ) (truncated other_truncated : Bool) (m other : Message)
    → Reads message truncated m → Reads message other_truncated other → (truncated ≡ other_truncated) × (m ≡ other)

-- Records that are added one after another to a section, where none stands in a later one, are added as a list.
pub record RecordsAddUp : Type 0 where
  pub none : (section : Section) (m : Message) → with_records section [] m ≡ m
  pub one_more : (section : Section) (records : List Record) (r : Record) (m : Message)
      → with_record section r (with_records section records m) ≡ with_records section (records ++ r ∷ []) m
  pub more : (section : Section) (records others : List Record) (m : Message)
      → with_records section others (with_records section records m) ≡ with_records section (records ++ others) m
  pub follows : (section : Section) (records : List Record) (m : Message)
      → Follows section m → Follows section (with_records section records m)
