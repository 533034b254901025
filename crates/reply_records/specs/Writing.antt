-- Records that are written into a reply.
use Rattle.std.specs.Prelude.{◌≡◌, List}
use Rattle.dns_wire.specs.Draft.{Draft, Follows, StandsFor, with_records}
use Rattle.dns_wire.specs.Message.{Message, Record}
use Rattle.dns_wire.specs.declared.reply.Section.{Section}

-- A reply to a query stands here, without a record in a later section.
abbrev pub TakesRecords : Section → Draft → Type 0
TakesRecords section d = (m : Message) × StandsFor m d × Follows section m

-- The reply has these records more at the end of a section, and is otherwise as it was.
pub record Writes (section : Section) (records : List Record) (old new : Draft) : Type 0 where
  pub stands : (m : Message) → StandsFor m old → Follows section m
      → StandsFor (with_records section records m) new
  pub edns : new.edns ≡ old.edns
  pub room : new.room ≡ old.room
