-- Lines of the tables and what they say, from outside.
use Rattle.std.proofs.Common.{◌≡◌, ℕ, true, false, Some, None, List, [], ◌∷◌, ◌++◌, length, map, arith, refl}
use Rattle.std.specs.Prelude.{codes}
use Rattle.std.specs.Fmt.{digits}
use Rattle.std.proofs.lemmas.Bool.{and_right, lt-ltb, le-ltb}
use Rattle.prefix_text.specs.AddressOfText.{ipv4_of, ipv6_of}
use Rattle.prefix_text.specs.IpAddressRecord.TheVariants.{V4, V6}
use Rattle.geo_latency.specs.Lines.{are_latencies, said}
use Rattle.geo_latency.specs.Tables.{has_prefix, is_free, outcome}
use Rattle.geo_latency.specs.declared.lines.Line.TheVariants as line
use Rattle.geo_latency.specs.declared.location.Location.{Location}
use Rattle.geo_latency.specs.declared.tables.TableLine.TheVariants.{Added, Skipped, Bad}
use Rattle.geo_latency.specs.declared.tables.Tables.{Tables}
use Rattle.prefix_text.specs.Bits.{number_of}
use Rattle.prefix_text.specs.PrefixesOfIpTable.{Prefix}
use Rattle.routing.specs.declared.policies.Continent.TheVariants.{As, Eu, Na}

-- lines that are skipped
empty : said [] ≡ line.Skipped
empty = refl

separator : said (codes "#") ≡ line.Skipped
separator = refl

comment : said (codes "#geo 192.0.2.0/24 NA US -") ≡ line.Skipped
comment = refl

-- a comment of 4,096 bytes, and a line of one more
longest_comment : (rest : List ℕ) → length rest ≡ 4095 → said (0x23 ∷ rest) ≡ line.Skipped
longest_comment rest e = rw (le-ltb 4096 (length (0x23 ∷ rest)) (omega (arith, e))) refl

too_long : (text : List ℕ) → length text ≡ 4097 → said text ≡ line.Bad
too_long text e = rw (lt-ltb 4096 (length text) (omega (arith, e))) refl

-- 192.0.2.0/24
abbrev net : Prefix
net = record { address = V4 (192 ∷ 0 ∷ 2 ∷ 0 ∷ []); length = 24 }

-- rows of places
in_texas : said (codes "geo 192.0.2.0/24 NA US TX")
    ≡ line.Place net (record {
      continent = Na;
      country = Some (codes "US");
      subdivision = Some (codes "TX");
    })
unfolding ipv4_of digits number_of
in_texas = refl

in_the_country : said (codes "geo 192.0.2.0/24 NA US -")
    ≡ line.Place net (record { continent = Na; country = Some (codes "US"); subdivision = None })
unfolding ipv4_of digits number_of
in_the_country = refl

everywhere : said (codes "geo 0.0.0.0/0 AS - -")
    ≡ line.Place (record { address = V4 (0 ∷ 0 ∷ 0 ∷ 0 ∷ []); length = 0 })
    (record { continent = As; country = None; subdivision = None })
unfolding ipv4_of digits number_of
everywhere = refl

of_version_6 : said (codes "geo 2001:db8::/32 EU DE -")
    ≡ line.Place (record {
      address = V6 (0x20 ∷ 0x01 ∷ 0x0D ∷ 0xB8 ∷ 0 ∷ 0 ∷ 0 ∷ 0 ∷ 0 ∷ 0 ∷ 0 ∷ 0 ∷ 0 ∷ 0 ∷ 0 ∷ 0 ∷ []);
      length = 32;
    })
    (record { continent = Eu; country = Some (codes "DE"); subdivision = None })
unfolding ipv6_of ipv4_of digits number_of
of_version_6 = refl

-- rows of latencies
of_two_regions : said (codes "lat 192.0.2.0/24 b=20,a=0")
    ≡ line.Latency net ((codes "b", 20) ∷ (codes "a", 0) ∷ [])
unfolding ipv4_of digits number_of
of_two_regions = refl

of_one_region : said (codes "lat 192.0.2.0/24 us-east-1=4294967295")
    ≡ line.Latency net ((codes "us-east-1", 4294967295) ∷ [])
unfolding ipv4_of digits number_of
of_one_region = refl

-- how many regions
abbrev few : List ℕ → List (List ℕ × ℕ)
few names = map (λ b. (b ∷ [], 7)) names

no_regions : are_latencies [] ≡ false
no_regions = refl

most_regions : are_latencies (few (codes "abcdefghijklmnopqrstuvwxyz012345")) ≡ true
most_regions = refl

more_regions : are_latencies (few (codes "abcdefghijklmnopqrstuvwxyz0123456")) ≡ false
more_regions = refl

-- a bit behind the length
host_bits : said (codes "geo 192.0.2.1/24 NA US -") ≡ line.Bad
unfolding ipv4_of ipv6_of digits number_of
host_bits = refl

-- spaces
space_in_front : said (codes " geo 192.0.2.0/24 NA US -") ≡ line.Bad
unfolding ipv4_of ipv6_of digits number_of
space_in_front = refl

two_spaces : said (codes "geo  192.0.2.0/24 NA US -") ≡ line.Bad
unfolding ipv4_of ipv6_of digits number_of
two_spaces = refl

two_spaces_later : said (codes "geo 192.0.2.0/24 NA  US -") ≡ line.Bad
unfolding ipv4_of ipv6_of digits number_of
two_spaces_later = refl

space_behind : said (codes "geo 192.0.2.0/24 NA US - ") ≡ line.Bad
unfolding ipv4_of ipv6_of digits number_of
space_behind = refl

space_before_comment : said (codes " # geo") ≡ line.Bad
unfolding ipv4_of ipv6_of digits number_of
space_before_comment = refl

-- fields
field_missing : said (codes "geo 192.0.2.0/24 NA US") ≡ line.Bad
unfolding ipv4_of ipv6_of digits number_of
field_missing = refl

prefix_alone : said (codes "geo 192.0.2.0/24") ≡ line.Bad
unfolding ipv4_of ipv6_of digits number_of
prefix_alone = refl

word_alone : said (codes "geo") ≡ line.Bad
unfolding ipv4_of ipv6_of digits number_of
word_alone = refl

other_word_alone : said (codes "lat") ≡ line.Bad
unfolding ipv4_of ipv6_of digits number_of
other_word_alone = refl

field_more : said (codes "geo 192.0.2.0/24 NA US - -") ≡ line.Bad
unfolding ipv4_of ipv6_of digits number_of
field_more = refl

other_kind : said (codes "geo 192.0.2.0/24 a=20") ≡ line.Bad
unfolding ipv4_of ipv6_of digits number_of
other_kind = refl

-- the first word
unknown_word : said (codes "loc 192.0.2.0/24 NA US -") ≡ line.Bad
unfolding ipv4_of ipv6_of digits number_of
unknown_word = refl

capital_word : said (codes "GEO 192.0.2.0/24 NA US -") ≡ line.Bad
unfolding ipv4_of ipv6_of digits number_of
capital_word = refl

word_goes_on : said (codes "geos 192.0.2.0/24 NA US -") ≡ line.Bad
unfolding ipv4_of ipv6_of digits number_of
word_goes_on = refl

-- codes
small_continent : said (codes "geo 192.0.2.0/24 na US -") ≡ line.Bad
unfolding ipv4_of ipv6_of digits number_of
small_continent = refl

small_country : said (codes "geo 192.0.2.0/24 NA us -") ≡ line.Bad
unfolding ipv4_of ipv6_of digits number_of
small_country = refl

small_subdivision : said (codes "geo 192.0.2.0/24 NA US tx") ≡ line.Bad
unfolding ipv4_of ipv6_of digits number_of
small_subdivision = refl

no_continent : said (codes "geo 192.0.2.0/24 - US -") ≡ line.Bad
unfolding ipv4_of ipv6_of digits number_of
no_continent = refl

long_country : said (codes "geo 192.0.2.0/24 NA USA -") ≡ line.Bad
unfolding ipv4_of ipv6_of digits number_of
long_country = refl

long_subdivision : said (codes "geo 192.0.2.0/24 NA US TEXA") ≡ line.Bad
unfolding ipv4_of ipv6_of digits number_of
long_subdivision = refl

subdivision_alone : said (codes "geo 192.0.2.0/24 NA - TX") ≡ line.Bad
unfolding ipv4_of ipv6_of digits number_of
subdivision_alone = refl

-- prefixes
no_prefix : said (codes "geo NA US -") ≡ line.Bad
unfolding ipv4_of ipv6_of digits number_of
no_prefix = refl

no_length : said (codes "geo 192.0.2.0 NA US -") ≡ line.Bad
unfolding ipv4_of ipv6_of digits number_of
no_length = refl

length_above : said (codes "geo 192.0.2.0/33 NA US -") ≡ line.Bad
unfolding ipv4_of ipv6_of digits number_of
length_above = refl

length_with_zero : said (codes "geo 192.0.2.0/024 NA US -") ≡ line.Bad
unfolding ipv4_of ipv6_of digits number_of
length_with_zero = refl

three_octets : said (codes "geo 192.0.2/24 NA US -") ≡ line.Bad
unfolding ipv4_of ipv6_of digits number_of
three_octets = refl

-- latencies
region_twice : said (codes "lat 198.51.100.0/24 a=20,a=30") ≡ line.Bad
unfolding ipv4_of ipv6_of digits number_of
region_twice = refl

region_twice_later : said (codes "lat 198.51.100.0/24 a=20,b=5,a=20") ≡ line.Bad
unfolding ipv4_of ipv6_of digits number_of
region_twice_later = refl

no_region : said (codes "lat 198.51.100.0/24 =20") ≡ line.Bad
unfolding ipv4_of ipv6_of digits number_of
no_region = refl

no_equals : said (codes "lat 198.51.100.0/24 a") ≡ line.Bad
unfolding ipv4_of ipv6_of digits number_of
no_equals = refl

no_number : said (codes "lat 198.51.100.0/24 a=") ≡ line.Bad
unfolding ipv4_of ipv6_of digits number_of
no_number = refl

two_numbers : said (codes "lat 198.51.100.0/24 a=1=1") ≡ line.Bad
unfolding ipv4_of ipv6_of digits number_of
two_numbers = refl

number_with_zero : said (codes "lat 198.51.100.0/24 a=020") ≡ line.Bad
unfolding ipv4_of ipv6_of digits number_of
number_with_zero = refl

number_above : said (codes "lat 198.51.100.0/24 a=4294967296") ≡ line.Bad
unfolding ipv4_of ipv6_of digits number_of
number_above = refl

minus : said (codes "lat 198.51.100.0/24 a=-1") ≡ line.Bad
unfolding ipv4_of ipv6_of digits number_of
minus = refl

capital_region : said (codes "lat 198.51.100.0/24 A=20") ≡ line.Bad
unfolding ipv4_of ipv6_of digits number_of
capital_region = refl

comma_behind : said (codes "lat 198.51.100.0/24 a=20,") ≡ line.Bad
unfolding ipv4_of ipv6_of digits number_of
comma_behind = refl

comma_in_front : said (codes "lat 198.51.100.0/24 ,a=20") ≡ line.Bad
unfolding ipv4_of ipv6_of digits number_of
comma_in_front = refl

two_commas : said (codes "lat 198.51.100.0/24 a=20,,b=20") ≡ line.Bad
unfolding ipv4_of ipv6_of digits number_of
two_commas = refl

no_latencies : said (codes "lat 198.51.100.0/24") ≡ line.Bad
unfolding ipv4_of ipv6_of digits number_of
no_latencies = refl

empty_latencies : said (codes "lat 198.51.100.0/24 ") ≡ line.Bad
unfolding ipv4_of ipv6_of digits number_of
empty_latencies = refl

space_for_comma : said (codes "lat 198.51.100.0/24 a=20 b=20") ≡ line.Bad
unfolding ipv4_of ipv6_of digits number_of
space_for_comma = refl

latency_host_bits : said (codes "lat 198.51.100.1/24 a=20") ≡ line.Bad
unfolding ipv4_of ipv6_of digits number_of
latency_host_bits = refl

latency_of_place : said (codes "lat 192.0.2.0/24 NA US -") ≡ line.Bad
unfolding ipv4_of ipv6_of digits number_of
latency_of_place = refl

-- other bytes
tab : said (codes "geo" ++ 0x09 ∷ codes "192.0.2.0/24 NA US -") ≡ line.Bad
tab = refl

return_behind : said (codes "geo 192.0.2.0/24 NA US -" ++ 0x0D ∷ []) ≡ line.Bad
unfolding ipv4_of ipv6_of digits number_of
return_behind = refl

return_behind_number : said (codes "lat 192.0.2.0/24 a=20" ++ 0x0D ∷ []) ≡ line.Bad
unfolding ipv4_of ipv6_of digits number_of
return_behind_number = refl

return_alone : said (0x0D ∷ []) ≡ line.Bad
return_alone = refl

-- tables with a place of 192.0.2.0/24
abbrev asia : Location
asia = record { continent = As; country = None; subdivision = None }

abbrev one : Tables
one = record {
  places = (net, asia) ∷ [];
  latencies = [];
}

again : outcome one (codes "geo 192.0.2.0/24 NA US -") ≡ (Bad, one)
unfolding ipv4_of digits number_of
again = refl

half : outcome one (codes "geo 192.0.2.0/25 AS - -") ≡ (
  Added,
  record one {
    places = (net, asia) ∷ (record net { length = 25 }, asia) ∷ [];
  },
)
unfolding ipv4_of digits number_of
half = refl

other_table : outcome one (codes "lat 192.0.2.0/24 a=20")
    ≡ (Added, record one { latencies = (net, (codes "a", 20) ∷ []) ∷ [] })
unfolding ipv4_of digits number_of
other_table = refl

nothing_added : outcome one (codes "# end") ≡ (Skipped, one)
nothing_added = refl

bad_line : outcome one (codes "geo 192.0.2.0/24 NA US") ≡ (Bad, one)
unfolding ipv4_of digits number_of
bad_line = refl

-- how many rows
last_row : (rows : List (Prefix × ℕ)) (prefix : Prefix) → has_prefix rows prefix ≡ false
    → length rows ≡ 99999 → is_free rows prefix ≡ true
last_row rows prefix fresh e = rw (fresh, lt-ltb (length rows) 100000 (omega (arith, e))) refl

full : (rows : List (Prefix × ℕ)) (prefix : Prefix) → length rows ≡ 100000
    → is_free rows prefix ≡ false
full rows prefix e = and_right _ _ (le-ltb (length rows) 100000 (omega (arith, e)))
