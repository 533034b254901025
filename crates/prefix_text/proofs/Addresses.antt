-- The address of a text, by the version whose text it is.
use Rattle.std.proofs.Common.{◌≡◌, ℕ, Option, Some, None, List, refl, sym, ap, ◌∙◌}
use Rattle.std.specs.Net.Grammar.{IsDotted}
use Rattle.ip_table.specs.AddressOfText.{ipv4_of, ipv6_of}
use Rattle.ip_table.specs.LawsOfAddressText.{Ipv4OfText, Ipv6OfText}
use Rattle.ip_table.specs.Spelling.{SpellsIpv6}
use Rattle.ip_table.specs.IpAddressRecord.TheVariants.{V4, V6}
use Rattle.prefix_text.specs.Prefixes.{address_of_text, known}

none_is : (o : Option (List ℕ)) → ((octets : List ℕ) → o ≡ Some octets → ⊥) → o ≡ None
none_is None never = refl
none_is (Some octets) never = absurd (never octets refl)

module _ (law4 : Ipv4OfText) (law6 : Ipv6OfText) (text : List ℕ)
    (not4 : (octets : List ℕ) → IsDotted text octets → ⊥) where
  no_ipv4 : ipv4_of text ≡ None
  no_ipv4 = none_is (ipv4_of text) (λ octets e. not4 octets ((law4 text octets).0 e))

  pub an_ipv6 : (octets : List ℕ) → SpellsIpv6 text octets → Some (V6 octets) ≡ address_of_text text
  an_ipv6 octets is = rw (no_ipv4, (law6 text octets).1 is) refl

  pub neither : ((octets : List ℕ) → SpellsIpv6 text octets → ⊥) → None ≡ address_of_text text
  neither not6 =
      rw (no_ipv4, none_is (ipv6_of text) (λ octets e. not6 octets ((law6 text octets).0 e))) refl
