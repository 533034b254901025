-- What each step of writing a reply leaves of the draft.
use Rattle.std.specs.Prelude.{ℕ, ◌+◌, ◌%◌, List, ◌++◌, length, take, drop, Bool, true, nat_le, if◌then◌else◌}
use Rattle.dns_wire.specs.declared.header.Header.{Header}
use Rattle.dns_wire.specs.declared.reply.Section.{Section}
use Rattle.dns_wire.specs.declared.reply.Section.TheVariants.{Answer, Authority, Additional}
use Rattle.dns_wire.specs.Draft.{Draft, opt_of}
use Rattle.dns_wire.specs.Header.{header_octets}
use Rattle.dns_wire.specs.Message.{Record, opt_count, record_octets}

-- without its records
abbrev pub emptied : Draft → Draft
emptied d = record d { is_truncated = true; answers = 0; authorities = 0; additionals = 0; bytes = take d.question_end d.bytes }

-- one record more in a section
abbrev pub counted : Section → Draft → Draft
counted Answer d = record d { answers = d.answers + 1 }
counted Authority d = record d { authorities = d.authorities + 1 }
counted Additional d = record d { additionals = d.additionals + 1 }

-- with one record more where it fits
abbrev pub recorded : Section → Record → Draft → Draft
recorded section r d =
    if d.is_truncated then d
    else (if nat_le (length d.bytes + length (record_octets d.name r)) d.room then record (counted section d) { bytes = d.bytes ++ record_octets d.name r }
    else emptied d)

-- within so many octets, where so many more will follow
abbrev pub limited : (limit more : ℕ) → Draft → Draft
limited limit more d = if nat_le (length d.bytes + more) limit then d else emptied d

-- with these octets behind
abbrev pub closed : (opt : List ℕ) → Draft → Draft
closed opt d = record d { bytes = d.bytes ++ opt }

-- its header
abbrev pub header_of : Draft → (aa : Bool) (rcode : ℕ) → Header
header_of d aa rcode = record {
  id = d.id;
  opcode = 0;
  aa = aa;
  tc = d.is_truncated;
  rd = d.rd;
  rcode = rcode % 16;
  qdcount = 1;
  ancount = d.answers;
  nscount = d.authorities;
  arcount = d.additionals + opt_count (opt_of d.edns 0);
}

-- with its header
abbrev pub ended : Draft → (aa : Bool) (rcode : ℕ) → Draft
ended d aa rcode = record d { bytes = header_octets (header_of d aa rcode) ++ drop 12 d.bytes }
