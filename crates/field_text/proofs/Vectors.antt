-- Fields of records in RFC 1035, RFC 2782, RFC 3596, RFC 4592, RFC 5952 and RFC 8659, and texts
-- that spell none.
use Rattle.std.proofs.Common.{◌≡◌, ℕ, List, [], ◌∷◌, refl, sym, ◌∙◌, codes, None, Err, arith}
use Rattle.std.specs.Fmt.{digits}
use Rattle.std.proofs.lemmas.Bool.{true≢false}
use Rattle.std.proofs.lemmas.Option.{none-some}
use Rattle.rdata_layout.specs.Text.{name_of_text}
use Rattle.rdata_layout.specs.NameFaultRecord.{NameFault}
use Rattle.rdata_layout.specs.NameFaultRecord.TheVariants.{EmptyLabel}
use Rattle.rdata_layout.specs.declared.fields.Field.{Field}
use Rattle.rdata_layout.specs.declared.fields.Field.TheVariants as field
use Rattle.value_text.specs.Numbers.{number}
use Rattle.address_text.proofs.Vectors as Addresses
use Rattle.field_text.specs.Spelling.{Spells}
use Rattle.field_text.specs.Written.{text_of_field}

abbrev SpellsNone : Field → List ℕ → Type 0
SpellsNone kind text = (octets : List ℕ) → Spells kind text octets → ⊥

no_name : (text : List ℕ) (fault : NameFault) → name_of_text text ≡ Err fault
    → SpellsNone field.Name text
no_name text fault e octets h = let both = sym e ∙ h.1 in absurd (cc)

no_octet : (text : List ℕ) → number 255 text ≡ None → SpellsNone field.Number8 text
no_octet text e octets h = none-some h.0 (sym e ∙ h.1)

no_number : (text : List ℕ) → number 65535 text ≡ None → SpellsNone field.Number16 text
no_number text e octets h = none-some h.0 (sym e ∙ h.1)

no_long_number : (text : List ℕ) → number 4294967295 text ≡ None → SpellsNone field.Number32 text
no_long_number text e octets h = none-some h.0 (sym e ∙ h.1)

-- names: the first of RFC 1035, 4.1.4, in lower case and with a dot at its end
pub read_name : Spells field.Name (codes "F.ISI.ARPA") (1 ∷ 0x66 ∷ 3 ∷ 0x69 ∷ 0x73 ∷ 0x69 ∷ 4 ∷ 0x61
    ∷ 0x72 ∷ 0x70 ∷ 0x61 ∷ 0 ∷ [])
read_name = (codes "f" ∷ codes "isi" ∷ codes "arpa" ∷ [], refl, refl)

pub written_name : text_of_field field.Name (1 ∷ 0x66 ∷ 3 ∷ 0x69 ∷ 0x73 ∷ 0x69 ∷ 4 ∷ 0x61 ∷ 0x72
    ∷ 0x70 ∷ 0x61 ∷ 0 ∷ []) ≡ codes "f.isi.arpa."
written_name = refl

-- the wildcard of RFC 4592, 2.1.1, as itself and as an escape; it is written as an escape
pub read_wildcard : Spells field.Name (codes "*.example.com")
    (1 ∷ 0x2A ∷ 7 ∷ 0x65 ∷ 0x78 ∷ 0x61 ∷ 0x6D ∷ 0x70 ∷ 0x6C ∷ 0x65 ∷ 3 ∷ 0x63 ∷ 0x6F ∷ 0x6D ∷ 0
    ∷ [])
read_wildcard = (codes "*" ∷ codes "example" ∷ codes "com" ∷ [], refl, refl)

pub read_escaped_wildcard : Spells field.Name (codes "\\052.example.com")
    (1 ∷ 0x2A ∷ 7 ∷ 0x65 ∷ 0x78 ∷ 0x61 ∷ 0x6D ∷ 0x70 ∷ 0x6C ∷ 0x65 ∷ 3 ∷ 0x63 ∷ 0x6F ∷ 0x6D ∷ 0
    ∷ [])
read_escaped_wildcard = (codes "*" ∷ codes "example" ∷ codes "com" ∷ [], refl, refl)

pub written_wildcard : text_of_field field.Name (1 ∷ 0x2A ∷ 7 ∷ 0x65 ∷ 0x78 ∷ 0x61 ∷ 0x6D ∷ 0x70
    ∷ 0x6C ∷ 0x65 ∷ 3 ∷ 0x63 ∷ 0x6F ∷ 0x6D ∷ 0 ∷ [])
    ≡ codes "\\052.example.com."
written_wildcard = refl

-- the root, as the target of an SRV record without a service (RFC 2782)
pub read_root : Spells field.Name (codes ".") (0 ∷ [])
read_root = ([], refl, refl)

pub written_root : text_of_field field.Name (0 ∷ []) ≡ codes "."
written_root = refl

-- no names: an empty label, and nothing
pub empty_label : SpellsNone field.Name (codes "a..b")
empty_label = no_name (codes "a..b") (EmptyLabel 2) refl

pub no_text : SpellsNone field.Name []
no_text = no_name [] (EmptyLabel 0) refl

-- the numbers of the SOA record in RFC 1035, 5.3
pub serial : Spells field.Number32 (codes "20") (0 ∷ 0 ∷ 0 ∷ 0x14 ∷ [])
serial = (20, refl, refl)

pub refresh : Spells field.Number32 (codes "7200") (0 ∷ 0 ∷ 0x1C ∷ 0x20 ∷ [])
refresh = (7200, refl, refl)

pub expire : Spells field.Number32 (codes "3600000") (0 ∷ 0x36 ∷ 0xEE ∷ 0x80 ∷ [])
expire = (3600000, refl, refl)

pub written_expire : text_of_field field.Number32 (0 ∷ 0x36 ∷ 0xEE ∷ 0x80 ∷ []) ≡ codes "3600000"
unfolding digits
written_expire = refl

-- priority and port of an SRV record in RFC 2782; leading zeros are let through, and none is
-- written
pub priority : Spells field.Number16 (codes "0") (0 ∷ 0 ∷ [])
priority = (0, refl, refl)

pub port : Spells field.Number16 (codes "9") (0 ∷ 9 ∷ [])
port = (9, refl, refl)

pub port_with_zeros : Spells field.Number16 (codes "0009") (0 ∷ 9 ∷ [])
port_with_zeros = (9, refl, refl)

pub written_port : text_of_field field.Number16 (0 ∷ 9 ∷ []) ≡ codes "9"
unfolding digits
written_port = refl

-- the flags of a CAA record (RFC 8659, 4.1.1)
pub critical : Spells field.Number8 (codes "128") (0x80 ∷ [])
critical = (128, refl, refl)

pub written_flags : text_of_field field.Number8 (0 ∷ []) ≡ codes "0"
unfolding digits
written_flags = refl

-- the highest numbers, and those above
pub highest_8 : Spells field.Number8 (codes "255") (0xFF ∷ [])
highest_8 = (255, refl, refl)

pub highest_16 : Spells field.Number16 (codes "65535") (0xFF ∷ 0xFF ∷ [])
highest_16 = (65535, refl, refl)

pub highest_32 : Spells field.Number32 (codes "4294967295") (0xFF ∷ 0xFF ∷ 0xFF ∷ 0xFF ∷ [])
highest_32 = (4294967295, refl, refl)

pub written_highest_32 : text_of_field field.Number32 (0xFF ∷ 0xFF ∷ 0xFF ∷ 0xFF ∷ [])
    ≡ codes "4294967295"
unfolding digits
written_highest_32 = refl

pub above_8 : SpellsNone field.Number8 (codes "256")
above_8 = no_octet (codes "256") refl

pub above_16 : SpellsNone field.Number16 (codes "65536")
above_16 = no_number (codes "65536") refl

pub above_32 : SpellsNone field.Number32 (codes "4294967296")
above_32 = no_long_number (codes "4294967296") refl

-- no numbers: a sign, a blank, nothing
pub plus_sign : SpellsNone field.Number16 (codes "+1")
plus_sign = no_number (codes "+1") refl

pub minus_sign : SpellsNone field.Number16 (codes "-1")
minus_sign = no_number (codes "-1") refl

pub blank : SpellsNone field.Number16 (codes "1 ")
blank = no_number (codes "1 ") refl

pub no_digits : SpellsNone field.Number16 (codes "")
no_digits = no_number (codes "") refl

-- tags of RFC 8659, 4.2 to 4.4, and the longest
pub issue : Spells field.Tag (codes "issue") (5 ∷ 0x69 ∷ 0x73 ∷ 0x73 ∷ 0x75 ∷ 0x65 ∷ [])
issue = (
  record {
    filled = omega arith;
    short = omega arith;
    plain =
        (refl, (refl, (refl, (refl, (refl, tt)))));
  },
  refl,
)

pub issuewild : Spells field.Tag (codes "issuewild") (9 ∷ 0x69 ∷ 0x73 ∷ 0x73 ∷ 0x75 ∷ 0x65 ∷ 0x77
    ∷ 0x69 ∷ 0x6C ∷ 0x64 ∷ [])
issuewild = (
  record {
    filled = omega arith;
    short = omega arith;
    plain =
        (refl, (refl, (refl, (refl, (refl, (refl, (refl, (refl, (refl, tt)))))))));
  },
  refl,
)

pub fifteen_letters : Spells field.Tag (codes "abcdefghijklmno")
    (0x0F ∷ 0x61 ∷ 0x62 ∷ 0x63 ∷ 0x64 ∷ 0x65 ∷ 0x66 ∷ 0x67 ∷ 0x68 ∷ 0x69 ∷ 0x6A ∷ 0x6B ∷ 0x6C ∷ 0x6D
    ∷ 0x6E ∷ 0x6F ∷ [])
fifteen_letters = (
  record {
    filled = omega arith;
    short = omega arith;
    plain = (
      refl,
      (
        refl,
        (
          refl,
          (
            refl,
            (
              refl,
              (
                refl,
                (refl, (refl, (refl, (refl, (refl, (refl, (refl, (refl, (refl, tt))))))))),
              ),
            ),
          ),
        ),
      ),
    );
  },
  refl,
)

pub written_issue : text_of_field field.Tag (5 ∷ codes "issue") ≡ codes "issue"
written_issue = refl

-- no tags: 16 letters, a hyphen, nothing
pub sixteen_letters : SpellsNone field.Tag (codes "abcdefghijklmnop")
sixteen_letters octets h = omega (arith, h.0.short)

pub hyphen : SpellsNone field.Tag (codes "a-b")
hyphen octets h = true≢false (sym h.0.plain.1.0)

pub no_letters : SpellsNone field.Tag []
no_letters octets h = omega (arith, h.0.filled)

-- addresses: RFC 3596, 2.5, and one that RFC 5952, 4.1, shortens
pub query_example : Spells field.Ipv6 (codes "4321:0:1:2:3:4:567:89ab")
    (0x43 ∷ 0x21 ∷ 0 ∷ 0 ∷ 0 ∷ 1 ∷ 0 ∷ 2 ∷ 0 ∷ 3 ∷ 0 ∷ 4 ∷ 5 ∷ 0x67 ∷ 0x89 ∷ 0xAB ∷ [])
query_example = Addresses.query_example

pub shortened : text_of_field field.Ipv6 (0x20 ∷ 1 ∷ 0x0D ∷ 0xB8 ∷ 0 ∷ 0 ∷ 0 ∷ 0 ∷ 0 ∷ 0 ∷ 0 ∷ 0 ∷ 0
    ∷ 0 ∷ 0 ∷ 1 ∷ []) ≡ codes "2001:db8::1"
shortened = Addresses.leading_zeros

pub three_colons : SpellsNone field.Ipv6 (codes "1:::2")
three_colons = Addresses.three_colons

pub leading_zero : SpellsNone field.Ipv4 (codes "192.0.02.1")
leading_zero = Addresses.leading_zero

pub above_255 : SpellsNone field.Ipv4 (codes "256.0.0.1")
above_255 = Addresses.above_255
