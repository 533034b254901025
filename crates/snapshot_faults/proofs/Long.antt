-- Sets that are longer than sets may be: reading a snapshot stops there, where it would go on else.
use Rattle.std.proofs.Common.{◌≡◌, ℕ, ◌+◌, ◌<◌, ◌^◌, List, [], ◌∷◌, ◌++◌, length, arith, ap, ◌∙◌, sym, refl, append_assoc, length-append, Err}
use Rattle.std.specs.Prelude.{⊤}
use Rattle.std.specs.List.{flat_map}
use Rattle.octets.specs.Numbers.{two_octets, four_octets}
use Rattle.rdata_layout.specs.Names.{AreOctets}
use Rattle.octet_reading.specs.Rules.{IsReadAs}
use Rattle.octet_reading.proofs.Base.{two_read}
use Rattle.set_fields.proofs.Fields.{fields_are_read}
use Rattle.set_reading.proofs.Whole.{written_reads_back, sets_are_told}
use Rattle.set_reading.specs.Labels.{wire}
use Rattle.set_reading.specs.Names.{IsName}
use Rattle.set_reading.specs.Octets.{set_octets}
use Rattle.set_reading.specs.RecordSetRecord.{RecordSet}
use Rattle.set_reading.specs.Reading as sets
use Rattle.command_codec.specs.Reading.{set_at}
use Rattle.command_codec.proofs.Fields.{set_read}
use Rattle.snapshot_octets.specs.Configs.{Config}
use Rattle.snapshot_octets.specs.Hosted.{HostedZone}
use Rattle.snapshot_octets.specs.Octets.{IsVersion, IsSpelledSet, IsSpelledZone, zone_octets}
use Rattle.snapshot_octets.specs.Reading.{hosted, zone_at, configured, config_at, versioned_at}
use Rattle.snapshot_octets.proofs.Fields.{version_read, zone_read}
use Rattle.fault_places.specs.Fields.{spelling}
use Rattle.command_faults.proofs.Checks.{number_part}
use Rattle.command_faults.proofs.Commands.{set_part}
use Rattle.command_faults.proofs.Long.{BeginsLong, Agree, sets_agree, long_is_told}
use Rattle.snapshot_faults.specs.Snapshots.{front_fields, octets_before, HasLongSetAt}
use Rattle.snapshot_faults.proofs.Among.{Differs, BehindLong, ListLong, seen_differs, behind_differs, list_differs}
use Rattle.snapshot_faults.proofs.Snapshots.{head_part, any_zone_at, zone_part, Fronts, IsFront, fronts_octets, fronts_part, any_config_at, any_front_at}

-- ---- sets, zones and snapshots

sets_read : IsReadAs IsSpelledSet set_octets set_at
sets_read = set_read (written_reads_back fields_are_read) (sets_are_told fields_are_read)

zones_read : IsReadAs IsSpelledZone zone_octets zone_at
zones_read = zone_read (written_reads_back fields_are_read) (sets_are_told fields_are_read)

set_differs : Differs BeginsLong set_at sets.set_at
set_differs = record { agrees = sets_agree; told = long_is_told }

abbrev SetsLong : List ℕ → ℕ → Type 0
SetsLong octets left =
    ListLong (λ n. ⊤) four_octets IsSpelledSet set_octets BeginsLong octets left

abbrev IsHead : ℕ × List (List ℕ) → Type 0
IsHead p = ⊤ × IsName p.1

abbrev head_octets : ℕ × List (List ℕ) → List ℕ
head_octets p = four_octets p.0 ++ wire p.1

abbrev ZoneLong : List ℕ → ℕ → Type 0
ZoneLong octets left = BehindLong IsHead head_octets (λ p. SetsLong) octets left

zone_differs : Differs ZoneLong zone_at any_zone_at
unfolding zone_at
zone_differs =
    seen_differs hosted
    (behind_differs head_part.reads
    (λ p h. list_differs sets_read set_part.reads set_differs number_part.reads))

abbrev ZonesLong : List ℕ → ℕ → Type 0
ZonesLong octets left =
    ListLong (λ n. n < 2 ^ 16) two_octets IsSpelledZone zone_octets ZoneLong octets left

abbrev ConfigLong : (version : ℕ) → List ℕ → ℕ → Type 0
ConfigLong version octets left =
    BehindLong (IsFront version) (fronts_octets version) (λ p. ZonesLong) octets left

config_differs : (version : ℕ) → Differs (ConfigLong version) (config_at version)
    (any_config_at version)
unfolding config_at
config_differs version =
    seen_differs configured
    (behind_differs (fronts_part version).reads
    (λ p h. list_differs zones_read zone_part.reads zone_differs two_read))

abbrev FrontLong : List ℕ → ℕ → Type 0
FrontLong octets left =
    BehindLong IsVersion (λ version. version ∷ []) ConfigLong octets left

front_differs : Differs FrontLong versioned_at any_front_at
unfolding versioned_at
front_differs = behind_differs version_read (λ version h. config_differs version)

pub front_agrees : (octets : List ℕ) → AreOctets octets
    → Agree (FrontLong octets) (versioned_at octets) (any_front_at octets)
front_agrees = front_differs.agrees

-- ---- the same by places

abbrev config_of : Fronts → List HostedZone → Config
config_of p zones = configured (p, zones)

abbrev in_zone : ℕ × List (List ℕ) → List RecordSet → HostedZone
in_zone head sets = hosted (head, sets)

spelled_front : (version : ℕ) (p : Fronts) (zones : List HostedZone)
    → spelling (front_fields (version, config_of p zones)) ≡ version ∷ fronts_octets version p
spelled_front version p zones = ap (λ t. version ∷ t) ((fronts_part version).spells p)

pieces : (a b c d e f g inner : List ℕ)
    → (a ++ b ++ c ++ d ++ e ++ f ++ g) ++ inner
    ≡ a ++ (b ++ (c ++ ((d ++ e) ++ (f ++ (g ++ inner)))))
pieces a b c d e f g inner =
    let rest = f ++ (g ++ inner) in
    append_assoc (a ++ b ++ c ++ d ++ e ++ f) g inner
    ∙ append_assoc (a ++ b ++ c ++ d ++ e) f (g ++ inner)
    ∙ ap (λ t. t ++ rest) (append_assoc (a ++ b ++ c) d e)
    ∙ append_assoc (a ++ b ++ c) (d ++ e) rest
    ∙ append_assoc (a ++ b) c ((d ++ e) ++ rest)
    ∙ append_assoc a b (c ++ ((d ++ e) ++ rest))

regrouped : (version : ℕ) (p : Fronts) (zones : List HostedZone) (count : ℕ)
    (head : ℕ × List (List ℕ)) (sets : List RecordSet) (many : ℕ) (inner : List ℕ)
    → octets_before version (config_of p zones) count (in_zone head sets) many ++ inner
    ≡ version ∷ (fronts_octets version p ++ (two_octets count ++ (flat_map zone_octets zones
    ++ (head_octets head ++ (four_octets many ++ (flat_map set_octets sets ++ inner))))))
regrouped version p zones count head sets many inner =
    pieces (spelling (front_fields (version, config_of p zones))) (two_octets count)
    (flat_map zone_octets zones) (four_octets head.0) (wire head.1) (four_octets many)
    (flat_map set_octets sets) inner
    ∙ ap (λ t. t ++ (two_octets count ++ (flat_map zone_octets zones
    ++ (head_octets head ++ (four_octets many ++ (flat_map set_octets sets ++ inner))))))
    (spelled_front version p zones)

abbrev pub LongAt : List ℕ → ℕ → Type 0
LongAt octets left = (place : ℕ) × HasLongSetAt octets place × (place + left ≡ length octets)

pub long_of : (octets : List ℕ) (left : ℕ) → FrontLong octets left → LongAt octets left
long_of octets left f =
    let c = f.long in
    let z = c.long in
    let a = z.among in
    let h = a.long in
    let s = h.long in
    let b = s.among in
    let l = b.long in
    let config = config_of c.head a.items in
    let zone = in_zone h.head b.items in
    let front = octets_before f.head config z.count zone s.count in
    let parts : octets ≡ front ++ (set_octets l.set ++ l.rest) =
    f.parts
    ∙ ap (λ t. f.head ∷ t) (c.parts
    ∙ ap (λ t. fronts_octets f.head c.head ++ t) (z.parts
    ∙ ap (λ t. two_octets z.count ++ t) (a.parts
    ∙ ap (λ t. flat_map zone_octets a.items ++ t) (h.parts
    ∙ ap (λ t. head_octets h.head ++ t) (s.parts
    ∙ ap (λ t. four_octets s.count ++ t) (b.parts
    ∙ ap (λ t. flat_map set_octets b.items ++ t) l.parts))))))
    ∙ sym (regrouped f.head c.head a.items z.count h.head b.items s.count
    (set_octets l.set ++ l.rest)) in (
      length front,
      record {
        version = f.head;
        config = config;
        zones = z.count;
        zone = zone;
        sets = s.count;
        set = l.set;
        rest = l.rest;
        has = record {
          known = f.is_head;
          next = c.is_head.0.0.1;
          checks = c.is_head.0.1;
          collections = c.is_head.1;
          zones = record { count = omega (arith, a.fewer, z.is_count); each = a.each };
        };
        few = z.is_count;
        fewer = a.fewer;
        is_zone = record { name = h.is_head.1; sets = b.each };
        fewer_sets = b.fewer;
        is = l.is;
        long = l.long;
        parts = parts;
        behind = refl;
      },
      omega (
        arith,
        ap length parts,
        length-append front (set_octets l.set ++ l.rest),
        l.from,
        ap length l.parts,
      ),
    )

-- the numbers, the checks and the collections of a configuration
abbrev fronts_of : Config → Fronts
fronts_of config = (
  (((config.next_zone, config.checks.next), config.collections.next), config.checks.list),
  config.collections.list,
)

pub long_is_front : (octets : List ℕ) (place : ℕ) → HasLongSetAt octets place
    → (left : ℕ) × (versioned_at octets ≡ Err left) × (place + left ≡ length octets)
long_is_front octets place h =
    let p = fronts_of h.config in
    let head : ℕ × List (List ℕ) = (h.zone.id, h.zone.apex) in
    let inner = set_octets h.set ++ h.rest in
    let front = octets_before h.version h.config h.zones h.zone h.sets in
    let of_sets = flat_map set_octets h.zone.sets ++ inner in
    let of_zone = head_octets head ++ (four_octets h.sets ++ of_sets) in
    let of_zones = two_octets h.zones ++ (flat_map zone_octets h.config.zones ++ of_zone) in (
      length inner,
      front_differs.told octets (length inner) (record {
        head = h.version;
        is_head = h.has.known;
        inner = fronts_octets h.version p ++ of_zones;
        long = record {
          head = p;
          is_head = ((((tt, tt), h.has.next), h.has.checks), h.has.collections);
          inner = of_zones;
          long = record {
            count = h.zones;
            is_count = h.few;
            inner = flat_map zone_octets h.config.zones ++ of_zone;
            among = record {
              items = h.config.zones;
              each = h.has.zones.each;
              fewer = h.fewer;
              inner = of_zone;
              long = record {
                head = head;
                is_head = (tt, h.is_zone.name);
                inner = four_octets h.sets ++ of_sets;
                long = record {
                  count = h.sets;
                  is_count = tt;
                  inner = of_sets;
                  among = record {
                    items = h.zone.sets;
                    each = h.is_zone.sets;
                    fewer = h.fewer_sets;
                    inner = inner;
                    long = record {
                      set = h.set;
                      rest = h.rest;
                      is = h.is;
                      long = h.long;
                      parts = refl;
                      from = refl;
                    };
                    parts = refl;
                  };
                  parts = refl;
                };
                parts = refl;
              };
              parts = refl;
            };
            parts = refl;
          };
          parts = refl;
        };
        parts = h.parts
            ∙ regrouped h.version p h.config.zones h.zones head h.zone.sets h.sets inner;
      }),
      omega (arith, ap length h.parts, length-append front inner, h.behind),
    )
