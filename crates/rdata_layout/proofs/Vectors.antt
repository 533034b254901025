-- Numbers of types, the data of records of each type, and values at their bounds, from the RFCs
-- that define the types.
use Rattle.std.proofs.Common.{◌≡◌, ℕ, ◌≤◌, List, [], ◌∷◌, ◌++◌, length, replicate, refl, arith, ap, ◌∙◌, codes, map, false}
use Rattle.rdata_layout.specs.declared.types.RType.TheVariants.{A, Ns, Cname, Soa, Ptr, Mx, Txt, Aaaa, Srv, Spf, Caa}
use Rattle.rdata_layout.specs.declared.fields.Field.TheVariants.{Ipv4, Ipv6, Name, Number8, Number16, Number32, Tag}
use Rattle.rdata_layout.specs.declared.fields.Tail.TheVariants.{Nothing, Strings, Value}
use Rattle.rdata_layout.specs.Fields.{IsTag, is_letter_or_digit}
use Rattle.rdata_layout.specs.Layout.{fields_of, tail_of, IsLayout}
use Rattle.rdata_layout.specs.Types.{number_of}
use Rattle.rdata_layout.proofs.Fronts.{back_is, same_front}

-- TYPE values (RFC 1035, 3.2.2): A NS CNAME SOA PTR MX TXT
pub first_numbers : map number_of (A ∷ Ns ∷ Cname ∷ Soa ∷ Ptr ∷ Mx ∷ Txt ∷ [])
    ≡ 1 ∷ 2 ∷ 5 ∷ 6 ∷ 12 ∷ 15 ∷ 16 ∷ []
first_numbers = refl

-- AAAA (RFC 3596, 2.1), SRV (RFC 2782), SPF (RFC 4408, 3.1.1), CAA (RFC 8659, 7)
pub later_numbers : map number_of (Aaaa ∷ Srv ∷ Spf ∷ Caa ∷ []) ≡ 28 ∷ 33 ∷ 99 ∷ 257 ∷ []
later_numbers = refl

-- A RDATA format (RFC 1035, 3.4.1): ADDRESS, a 32 bit Internet address
pub address : fields_of A ≡ Ipv4 ∷ []
address = refl

-- NS, CNAME and PTR RDATA format (RFC 1035, 3.3.11, 3.3.1 and 3.3.12): NSDNAME, CNAME and PTRDNAME,
-- a <domain-name>
pub name_server : fields_of Ns ≡ Name ∷ []
name_server = refl

pub canonical_name : fields_of Cname ≡ Name ∷ []
canonical_name = refl

pub pointer : fields_of Ptr ≡ Name ∷ []
pointer = refl

-- SOA RDATA format (RFC 1035, 3.3.13): MNAME and RNAME; SERIAL, REFRESH, RETRY, EXPIRE and MINIMUM,
-- of 32 bits each
pub authority : fields_of Soa ≡ Name ∷ Name ∷ Number32 ∷ Number32 ∷ Number32 ∷ Number32 ∷ Number32
    ∷ []
authority = refl

-- MX RDATA format (RFC 1035, 3.3.9): PREFERENCE of 16 bits, EXCHANGE
pub exchange : fields_of Mx ≡ Number16 ∷ Name ∷ []
exchange = refl

-- AAAA data format (RFC 3596, 2.2): a 128 bit IPv6 address
pub long_address : fields_of Aaaa ≡ Ipv6 ∷ []
long_address = refl

-- SRV (RFC 2782): Priority, Weight and Port, of 16 bits each, and Target
pub service : fields_of Srv ≡ Number16 ∷ Number16 ∷ Number16 ∷ Name ∷ []
service = refl

-- CAA (RFC 8659, 4.1): Flags of one octet, Tag Length and Tag, and Value
pub authorization : fields_of Caa ≡ Number8 ∷ Tag ∷ []
authorization = refl

-- TXT RDATA format (RFC 1035, 3.3.14): TXT-DATA, one or more <character-string>s; SPF is of that
-- format (RFC 4408, 3.1.1)
pub text : fields_of Txt ≡ []
text = refl

pub policy : fields_of Spf ≡ []
policy = refl

pub tails : map tail_of (A ∷ Ns ∷ Cname ∷ Soa ∷ Ptr ∷ Mx ∷ Txt ∷ Aaaa ∷ Srv ∷ Spf ∷ Caa ∷ [])
    ≡ Nothing ∷ Nothing ∷ Nothing ∷ Nothing ∷ Nothing ∷ Nothing ∷ Strings ∷ Nothing ∷ Nothing
    ∷ Strings ∷ Value ∷ []
tails = refl

-- tags (RFC 8659, 4.1): capital letters and digits are of them, 15 octets are the most
pub capitals_and_digits : IsTag (codes "AZaz09")
capitals_and_digits =
    record {
      filled = omega arith;
      short = omega arith;
      plain =
          (refl, (refl, (refl, (refl, (refl, (refl, tt))))));
    }

pub fifteen_octets : IsTag (replicate 15 0x5A)
fifteen_octets = record {
  filled = omega arith;
  short = omega arith;
  plain = (
    refl,
    (
      refl,
      (
        refl,
        (
          refl,
          (
            refl,
            (refl, (refl, (refl, (refl, (refl, (refl, (refl, (refl, (refl, (refl, tt)))))))))),
          ),
        ),
      ),
    ),
  );
}

pub sixteen_octets : IsTag (replicate 16 0x5A) → ⊥
sixteen_octets tag = omega (arith, tag.short)

-- no letters and no digits: the neighbours of each range, and the hyphen
pub neighbours : map is_letter_or_digit (0x2D ∷ 0x2F ∷ 0x3A ∷ 0x40 ∷ 0x5B ∷ 0x60 ∷ 0x7B ∷ [])
    ≡ replicate 7 false
neighbours = refl

-- what stands behind flags and a tag is the value, which has no length of its own
value_behind : (flags : ℕ) (tag value : List ℕ) → IsLayout Caa (flags ∷ length tag ∷ (tag ++ value))
    → length value ≤ 255
value_behind flags tag value layout =
    let (piece, rest, one, split, (second, behind, (other, is_tag, framed), cut, short)) =
    layout.fields in
    let whole : length tag ∷ (tag ++ value) ≡ rest =
    back_is (flags ∷ length tag ∷ (tag ++ value)) piece rest 1 split one in
    let same = same_front tag other value behind (whole ∙ cut ∙ ap (λ t. t ++ behind) framed) in
    omega (arith, short, ap length same.1)

issue : IsTag (codes "issue")
issue = record {
  filled = omega arith;
  short = omega arith;
  plain =
      (refl, (refl, (refl, (refl, (refl, tt)))));
}

-- a value of 255 octets on the wire, and one of 256
pub value_of_255 : IsLayout Caa (0 ∷ 5 ∷ (codes "issue" ++ replicate 255 0x61))
value_of_255 = record {
  short = omega arith;
  fields = (
    0 ∷ [],
    5 ∷ (codes "issue" ++ replicate 255 0x61),
    refl,
    refl,
    (5 ∷ codes "issue", replicate 255 0x61, (codes "issue", issue, refl), refl, omega arith),
  );
}

pub value_of_256 : IsLayout Caa (0 ∷ 5 ∷ (codes "issue" ++ replicate 256 0x61)) → ⊥
value_of_256 layout = omega (arith, value_behind 0 (codes "issue") (replicate 256 0x61) layout)
