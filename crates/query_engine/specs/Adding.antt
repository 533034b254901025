-- Sections that are written into a reply.
use Rattle.std.specs.Prelude.{◌≡◌, ◌++◌}
use Rattle.dns_wire.specs.Draft.{Draft, Follows, StandsFor}
use Rattle.dns_wire.specs.Message.{Message}
use Rattle.dns_wire.specs.declared.reply.Section.TheVariants.{Answer}
use Rattle.zone_lookup.specs.Sections.{Sections}

-- the reply with the records of these sections
abbrev pub with_sections : Sections → Message → Message
with_sections s m = record m {
  answers = m.answers ++ s.answers;
  authorities = m.authorities ++ s.authorities;
  additionals = m.additionals ++ s.additionals;
}

-- The reply has the records of these sections more, and is otherwise as it was.
pub record WritesAll (s : Sections) (old new : Draft) : Type 0 where
  pub stands : (m : Message) → StandsFor m old → Follows Answer m
      → StandsFor (with_sections s m) new
  pub edns : new.edns ≡ old.edns
  pub room : new.room ≡ old.room
