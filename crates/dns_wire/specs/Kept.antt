-- What a reply keeps true of its buffer.
use Rattle.std.specs.Prelude.{◌≡◌, ℕ, ◌+◌, ◌*◌, ◌≤◌, Option}
use Rattle.dns_message.specs.Whole.{IsSubnetOrNone, subnet_of}
use Rattle.dns_message.specs.declared.query.Edns.{Edns}

-- The most octets of one record: its owner, 10, and its data.
abbrev pub most_of_record : ℕ
most_of_record = 4265

-- The room is that of a message, the buffer has one record more, the octets are within the room, and each record has ten
-- octets at least. A client subnet that is told is one.
pub record IsIntact (room buffer len question_end records : ℕ) (edns : Option Edns) : Type 0 where
  pub least : 512 ≤ room
  pub most : room ≤ 65535
  pub spare : buffer ≡ room + most_of_record
  pub within : len ≤ room
  pub question : question_end ≤ len
  pub short : question_end ≤ 271
  pub counted : 10 * records ≤ len
  pub subnet : IsSubnetOrNone (subnet_of edns)
