-- Texts and their values: from RFC 1035, 5.1 and 5.3, RFC 3596, RFC 8659, 4.2, and worked by hand.
use Rattle.std.proofs.Common.{◌≡◌, [], ◌∷◌, ◌++◌, replicate, refl, codes, Ok, Err}
use Rattle.std.specs.Fmt.{digits}
use Rattle.field_text.specs.AddressOfText.{ipv4_of, ipv6_of}
use Rattle.field_text.specs.RTypeRecord.TheVariants.{A, Mx, Txt, Aaaa, Caa}
use Rattle.rdata.specs.ValueOfText.{value_of_text}
use Rattle.rdata.specs.declared.faults.ValueFault.TheVariants.{BadField, MissingField, SurplusField, TooLong}

pub exchange : value_of_text Mx (codes "10 mail.example.com")
    ≡ Ok (0 ∷ 10 ∷ 4 ∷ 0x6D ∷ 0x61 ∷ 0x69 ∷ 0x6C ∷ 7 ∷ 0x65 ∷ 0x78 ∷ 0x61 ∷ 0x6D ∷ 0x70 ∷ 0x6C
    ∷ 0x65 ∷ 3 ∷ 0x63 ∷ 0x6F ∷ 0x6D ∷ 0 ∷ [])
unfolding value_of_text
exchange = refl

pub address : value_of_text A (codes "192.0.2.1") ≡ Ok (192 ∷ 0 ∷ 2 ∷ 1 ∷ [])
unfolding value_of_text ipv4_of digits
address = refl

pub blanks_around : value_of_text A (0x20 ∷ 0x09 ∷ codes "192.0.2.1" ++ 0x20 ∷ [])
    ≡ Ok (192 ∷ 0 ∷ 2 ∷ 1 ∷ [])
unfolding value_of_text ipv4_of digits
blanks_around = refl

pub long_address : value_of_text Aaaa (codes "2001:db8::1")
    ≡ Ok (0x20 ∷ 1 ∷ 0x0D ∷ 0xB8 ∷ 0 ∷ 0 ∷ 0 ∷ 0 ∷ 0 ∷ 0 ∷ 0 ∷ 0 ∷ 0 ∷ 0 ∷ 0 ∷ 1 ∷ [])
unfolding value_of_text ipv6_of
long_address = refl

-- `"a""b"`: two strings, of one octet each
pub two_strings : value_of_text Txt (0x22 ∷ 0x61 ∷ 0x22 ∷ 0x22 ∷ 0x62 ∷ 0x22 ∷ [])
    ≡ Ok (1 ∷ 0x61 ∷ 1 ∷ 0x62 ∷ [])
unfolding value_of_text
two_strings = refl

-- `0 issue ";"` (RFC 8659, 4.2)
pub issuer : value_of_text Caa (codes "0 issue " ++ 0x22 ∷ 0x3B ∷ 0x22 ∷ [])
    ≡ Ok (0 ∷ 5 ∷ 0x69 ∷ 0x73 ∷ 0x73 ∷ 0x75 ∷ 0x65 ∷ 0x3B ∷ [])
unfolding value_of_text
issuer = refl

-- the first fault from the left, with its place
pub number_above_255 : value_of_text A (codes "256.0.0.1") ≡ Err (BadField 0)
unfolding value_of_text ipv4_of digits
number_above_255 = refl

pub no_exchange : value_of_text Mx (codes "10") ≡ Err (MissingField 2)
unfolding value_of_text
no_exchange = refl

pub bad_before_missing : value_of_text Mx (codes "ten") ≡ Err (BadField 0)
unfolding value_of_text
bad_before_missing = refl

pub field_more : value_of_text A (codes "192.0.2.1 x") ≡ Err (SurplusField 10)
unfolding value_of_text ipv4_of digits
field_more = refl

pub no_string : value_of_text Txt [] ≡ Err (MissingField 0)
unfolding value_of_text
no_string = refl

pub bare_string : value_of_text Txt (codes "a") ≡ Err (BadField 0)
unfolding value_of_text
bare_string = refl

-- 4,001 bytes are too long, whatever they spell
pub too_long : value_of_text Txt (replicate 4001 0x20) ≡ Err TooLong
unfolding value_of_text
too_long = refl
