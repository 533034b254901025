-- What the parts that were read say of the whole.
use Rattle.std.proofs.Common.{◌≡◌, ℕ, suc, ◌+◌, ◌-◌, ◌<◌, ◌≤◌, Bool, true, false, List, []}
use Rattle.std.proofs.Common.{◌∷◌}
use Rattle.std.proofs.Common.{◌++◌, length, drop, arith, ap, ◌∙◌, sym, refl, subst, cond, eqb}
use Rattle.std.proofs.Common.{None, Some, Result, Ok, Err}
use Rattle.std.proofs.lemmas.List.{append-nil, drop_all, length-drop}
use Rattle.std.proofs.lemmas.Bool.{eqb-true}
use Rattle.std.specs.Prelude.{◌≢◌, IsErr}
use Rattle.dns_name.specs.Names.{AreOctets}
use Rattle.octet_reading.specs.Readers.{alone, by_place, so_many}
use Rattle.octet_reading.specs.Reading.{◌>>=◌}
use Rattle.snapshot_octets.specs.Configs.{Config}
use Rattle.snapshot_octets.specs.LawsOfSetReading as set_laws
use Rattle.snapshot_octets.specs.Reading.{read, zone_at}
use Rattle.snapshot_reading.specs.Laws.{AreZones, IsReadTo, SnapshotsReadInParts}
use Rattle.snapshot_reading.specs.Parts.{Begun, front_at, with_zones}
use Rattle.snapshot_reading.specs.Places.{found_at}
use Rattle.snapshot_reading.proofs.Joining.{in_parts, with_these, zones_behind}
use Rattle.snapshot_reading.proofs.Leaving.{front_leaves, zone_leaves}
use Rattle.snapshot_reading.proofs.Finding.{place_within, read_there, refused_there}
use Rattle.snapshot_octets.specs.Hosted.{HostedZone}

-- ---- zones one behind another

-- one zone more behind them
one_more : (octets : List ℕ) (at : ℕ) (zones : List HostedZone) (end : ℕ) (zone : HostedZone)
    (next : ℕ) → AreZones octets at zones end → found_at zone_at octets end ≡ Some (zone, next)
    → AreZones octets at (zones ++ zone ∷ []) next
one_more octets at [] end zone next are e =
    (next, subst (λ n. found_at zone_at octets n ≡ Some (zone, next)) (sym are) e, refl)
one_more octets at (first ∷ zones) end zone next are e =
    (are.0, are.1, one_more octets are.0 zones end zone next are.2 e)

-- no place that was read to is behind the last octet's end
zones_within : (octets : List ℕ) (at : ℕ) (zones : List HostedZone) (end : ℕ)
    → AreZones octets at zones end → at ≤ length octets → end ≤ length octets
zones_within octets at [] end e within = omega (arith, e, within)
zones_within octets at (zone ∷ zones) end each within =
    zones_within octets each.0 zones end each.2
    (place_within (length octets) (zone_at (drop at octets)) zone each.0 each.1)

read_within : (octets : List ℕ) (begun : Begun) (zones : List HostedZone) (at : ℕ)
    → IsReadTo octets begun zones at → at ≤ length octets
read_within octets begun zones at to =
    zones_within octets to.start zones at to.each
    (place_within (length octets) (front_at octets) begun to.start to.front)

abbrev Zones : Type 0
Zones = Result (List HostedZone × List ℕ) ℕ

-- zones in front of those that are read
abbrev behind : List HostedZone → List HostedZone × List ℕ → Zones
behind zones y = Ok (zones ++ y.0, y.1)

abbrev front_of : List HostedZone → Zones → Zones
front_of zones r = r >>= behind zones

abbrev one_behind : HostedZone → List HostedZone × List ℕ → Zones
one_behind zone y = Ok (zone ∷ y.0, y.1)

none_in_front : (r : Zones) → r ≡ front_of [] r
none_in_front (Ok y) = refl
none_in_front (Err left) = refl

one_in_front : (zone : HostedZone) (zones : List HostedZone) (r : Zones)
    → (front_of zones r >>= one_behind zone) ≡ front_of (zone ∷ zones) r
one_in_front zone zones (Ok y) = refl
one_in_front zone zones (Err left) = refl

abbrev after : ℕ → HostedZone × List ℕ → Zones
after n first = so_many zone_at n first.1 >>= one_behind first.0

-- how many zones there are with more behind them
abbrev counted : List HostedZone → ℕ → ℕ
counted [] more = more
counted (zone ∷ zones) more = suc (counted zones more)

counted_is : (zones : List HostedZone) (more : ℕ) → counted zones more ≡ length zones + more
counted_is [] more = omega arith
counted_is (zone ∷ zones) more = omega (arith, counted_is zones more)

module _ (written : set_laws.WrittenReadsBack) (told : set_laws.SetsAreTold) (octets : List ℕ)
    (are : AreOctets octets) where
  -- so many zones, and more behind them
  zones_and_more : (at : ℕ) (zones : List HostedZone) (end : ℕ) → AreZones octets at zones end
      → (more : ℕ) → so_many zone_at (counted zones more) (drop at octets)
      ≡ front_of zones (so_many zone_at more (drop end octets))
  zones_and_more at [] end e more =
      ap (λ n. so_many zone_at more (drop n octets)) e
      ∙ none_in_front (so_many zone_at more (drop end octets))
  zones_and_more at (zone ∷ zones) end each more =
      let first = read_there zone_at (zone_leaves written told) octets at zone each.0 are each.1 in
      ap (λ r. r >>= after (counted zones more)) first
      ∙ ap (λ r. r >>= one_behind zone) (zones_and_more each.0 zones end each.2 more)
      ∙ one_in_front zone zones (so_many zone_at more (drop end octets))

  -- ---- the whole

  abbrev whole_of : Result (Config × List ℕ) ℕ → Result Config ℕ
  whole_of r = by_place (length octets) (r >>= alone)

  module _ (begun : Begun) (zones : List HostedZone) (at : ℕ)
      (to : IsReadTo octets begun zones at) where
    behind_front : (more : ℕ) → length zones + more ≡ begun.zones
        → read octets ≡ whole_of (front_of zones (so_many zone_at more (drop at octets))
        >>= with_these begun)
    behind_front more e =
        in_parts octets
        ∙ ap (λ r. whole_of (r >>= zones_behind))
        (read_there front_at front_leaves octets 0 begun to.start are to.front)
        ∙ ap (λ n. whole_of (so_many zone_at n (drop to.start octets) >>= with_these begun))
        (sym (counted_is zones more ∙ e))
        ∙ ap (λ r. whole_of (r >>= with_these begun))
        (zones_and_more to.start zones at to.each more)

    all_zones : length zones ≡ begun.zones
        → read octets ≡ by_place (length octets) (alone (with_zones begun zones, drop at octets))
    all_zones e =
        behind_front 0 (omega (arith, e))
        ∙ ap (λ list. by_place (length octets) (alone (with_zones begun list, drop at octets)))
        (append-nil zones)

    no_zone : length zones < begun.zones → found_at zone_at octets at ≡ None → IsErr (read octets)
    no_zone fewer e =
        let r = refused_there zone_at octets at e in
        let more = begun.zones - length zones - 1 in
        let count : length zones + suc more ≡ begun.zones = omega (arith, fewer) in
        let is : read octets ≡ Err (length octets - r.0) =
        behind_front (suc more) count
        ∙ ap (λ s. whole_of (front_of zones (s >>= after more)
        >>= with_these begun)) r.1 in
        subst (λ s. IsErr s) (sym is) refl

    left_over : length zones ≡ begun.zones → at ≢ length octets → IsErr (read octets)
    left_over e other =
        subst (λ s. IsErr s) (sym (all_zones e)) (by (eqb (length (drop at octets)) 0) refl)
      where
        by : (b : Bool) → eqb (length (drop at octets)) 0 ≡ b
            → IsErr (by_place (length octets)
            (cond b (Ok (with_zones begun zones)) (Err (length (drop at octets)))))
        by true f =
            let none = eqb-true (length (drop at octets)) 0 f in
            let within = read_within octets begun zones at to in
            absurd (other (omega (arith, none, length-drop at octets, within)))
        by false f = refl

  ends : (begun : Begun) (zones : List HostedZone) → IsReadTo octets begun zones (length octets)
      → length zones ≡ begun.zones → read octets ≡ Ok (with_zones begun zones)
  ends begun zones to e =
      all_zones begun zones (length octets) to e
      ∙ ap (λ rest. by_place (length octets) (alone (with_zones begun zones, rest)))
      (drop_all (length octets) octets (omega arith))

no_front : (octets : List ℕ) → found_at front_at octets 0 ≡ None → IsErr (read octets)
no_front octets e =
    let r = refused_there front_at octets 0 e in
    let is : read octets ≡ Err (length octets - r.0) =
    in_parts octets
    ∙ ap (λ s. by_place (length octets) ((s >>= zones_behind) >>= alone)) r.1 in
    subst (λ s. IsErr s) (sym is) refl

pub snapshots_read_in_parts : set_laws.WrittenReadsBack → set_laws.SetsAreTold
    → SnapshotsReadInParts
snapshots_read_in_parts written told = record {
  begins = λ octets begun at e. record { start = at; front = e; each = refl };
  goes_on = λ octets begun zones at zone next to e. record {
    start = to.start;
    front = to.front;
    each = one_more octets to.start zones at zone next to.each e;
  };
  ends = λ octets begun zones are to e. ends written told octets are begun zones to e;
  no_front = no_front;
  no_zone = λ octets begun zones at are to fewer e.
      no_zone written told octets are begun zones at to fewer e;
  left_over = λ octets begun zones at are to e other.
      left_over written told octets are begun zones at to e other;
}
