-- A set among its octets, and what is kept of it.
use Rattle.std.proofs.Common.{◌≡◌, ℕ, zero, suc, ◌+◌, ◌-◌, ◌<◌, ◌≤◌, List, [], ◌++◌, length, take, drop}
use Rattle.std.proofs.Common.{arith, ap, ◌∙◌, sym, subst, append_assoc, length-append, length-drop, Some}
use Rattle.std.proofs.lemmas.List.{append-nil, length-take-le}
use Rattle.std.proofs.Math.Seq.{drop-append_seam, take-append_seam}
use Rattle.octets.specs.Numbers.{two_octets}
use Rattle.set_parts.specs.Labels.{wire}
use Rattle.set_parts.specs.Names.{IsName}
use Rattle.set_parts.specs.Types.{number_of}
use Rattle.set_parts.specs.RoutingRecord.{Routing}
use Rattle.set_parts.specs.RecordSetRecord.{RecordSet}
use Rattle.set_parts.specs.Octets.{body_octets, check_octets, head_octets, most_octets, routing_octets}
use Rattle.set_parts.specs.Octets.{set_octets, HasSpelling}
use Rattle.set_parts.specs.LawsOfSetReading.{WrittenReadsBack}
use Rattle.set_parts.specs.Reading.{read}
use Rattle.set_parts.specs.Sets.{IsRouting, IsSet}
use Rattle.set_scratch.specs.Kept.{AreAt, AreOf, IsIntact, most_values}
use Rattle.set_scratch.specs.Spelling.{Spells, from_body, from_type, held_of, set_of, set_read}
use Rattle.set_scratch.specs.declared.places.Places.{Places}

-- a set's octets part by part
pub parted : (set : RecordSet) → set_octets set ≡ head_octets set ++ from_body set
parted set = append_assoc (head_octets set) (body_octets set.body) (check_octets set.check)

pub named : (set : RecordSet) → set_octets set ≡ wire set.name ++ from_type set
named set =
    let name = wire set.name in
    let type = two_octets (number_of set.rtype) in
    let policy = routing_octets set.routing in
    parted set ∙ append_assoc (name ++ type) policy (from_body set)
    ∙ append_assoc name type (policy ++ from_body set)

-- some octets stand before the body
some_before : (set : RecordSet) → 0 < length (set_octets set)
some_before set =
    omega (
      arith,
      ap length (parted set),
      length-append (head_octets set) (from_body set),
      length-append (wire set.name ++ two_octets (number_of set.rtype)) (routing_octets set.routing),
      length-append (wire set.name) (two_octets (number_of set.rtype)),
    )

-- What stands behind the name, and what stands behind the policy.
module _ (octets typed answers : List ℕ) (set : RecordSet) (spelled : Spells octets set)
    (behind : (labels : List (List ℕ)) (rest : List ℕ) → IsName labels → octets ≡ wire labels ++ rest
    → typed ≡ rest)
    (later : (routing : Routing) (rest : List ℕ) → IsRouting routing
    → drop 2 typed ≡ routing_octets routing ++ rest → answers ≡ rest) where
  from : typed ≡ from_type set
  from = behind set.name (from_type set) spelled.is.name (spelled.same ∙ named set)

  whole : answers ≡ from_body set
  whole = later set.routing (from_body set) spelled.is.routing (ap (drop 2) from)

  pub name_ends : length octets - length typed ≡ length (wire set.name)
  name_ends = omega (
    arith,
    ap length from,
    ap length (spelled.same ∙ named set),
    length-append (wire set.name) (from_type set),
  )

  pub within : length answers ≤ length octets
  within = omega (
    arith,
    ap length whole,
    ap length (spelled.same ∙ parted set),
    length-append (head_octets set) (from_body set),
  )

  pub begins : length octets - length answers ≡ length (head_octets set)
  begins = omega (
    arith,
    ap length whole,
    ap length (spelled.same ∙ parted set),
    length-append (head_octets set) (from_body set),
  )

  pub stands : drop (length octets - length answers) octets ≡ body_octets set.body ++ check_octets set.check
  stands =
      ap (λ n. drop n octets) begins ∙ ap (drop (length (head_octets set))) (spelled.same ∙ parted set)
      ∙ drop-append_seam (head_octets set) (from_body set)

pub respelled : {octets others : List ℕ} → {set : RecordSet} → octets ≡ others → Spells others set
    → Spells octets set
respelled e spelled =
    record { is = spelled.is; has_spelling = spelled.has_spelling; same = e ∙ spelled.same }

-- The set that octets are.
module _ (back : WrittenReadsBack) where
  set_is : (octets : List ℕ) (set : RecordSet) → Spells octets set → set_of octets ≡ set
  unfolding set_of
  set_is octets set spelled =
      ap (λ o. set_read (read o)) (spelled.same ∙ sym (append-nil (set_octets set)))
      ∙ ap set_read (back set [] spelled.is spelled.has_spelling)

  pub held_is : (octets : List ℕ) (len : ℕ) (set : RecordSet) → Spells (take len octets) set
      → held_of octets len ≡ Some set
  held_is octets zero set spelled = absurd (omega (arith, ap length spelled.same, some_before set))
  held_is octets (suc n) set spelled = ap Some (set_is (take (suc n) octets) set spelled)

  pub kept : (octets starts : List ℕ) (places : Places) (room : ℕ) (set : RecordSet)
      → length octets ≡ most_octets → most_values ≤ room → places.len ≤ length octets
      → Spells (take places.len octets) set → AreAt set places starts
      → IsIntact octets places starts room
  kept octets starts places room set size room_for_all used spelled at = record {
    size = size;
    room_for_all = room_for_all;
    used = used;
    of_set =
        subst (AreOf octets places starts) (sym (held_is octets places.len set spelled)) (spelled, at);
  }

  pub kept_front : (octets front starts : List ℕ) (len room : ℕ) (places : Places) (set : RecordSet)
      → length octets ≡ most_octets → most_values ≤ room → len ≤ length octets → front ≡ take len octets
      → Spells front set → AreAt set places starts
      → IsIntact octets places starts room × (held_of octets places.len ≡ Some set)
  kept_front octets front starts len room places set size room_for_all used is spelled at =
      let same : places.len ≡ len =
      at.len ∙ ap length (sym spelled.same) ∙ ap length is ∙ length-take-le len octets used in
      let here : Spells (take places.len octets) set =
      respelled (ap (λ n. take n octets) same ∙ sym is) spelled in (
        kept octets starts places room set size room_for_all (omega (arith, same, used)) here at,
        held_is octets places.len set here,
      )

  -- the octets of a set that were written to the front
  pub kept_written : (octets others front starts : List ℕ) (len room : ℕ) (places : Places) (set : RecordSet)
      → len ≡ 0 + length (set_octets set) → octets ≡ set_octets set ++ drop len others
      → length others ≡ most_octets → most_values ≤ room → front ≡ take len octets
      → IsSet set → HasSpelling set → (Spells front set → AreAt set places starts)
      → IsIntact octets places starts room × (held_of octets places.len ≡ Some set)
  kept_written octets others front starts len room places set end filled size enough is set_is spelling at =
      let long : len ≡ length (set_octets set) = omega (arith, end) in
      let same : take len octets ≡ set_octets set =
      ap (λ n. take n octets) long ∙ ap (take (length (set_octets set))) filled
      ∙ take-append_seam (set_octets set) (drop len others) in
      let total : length octets ≡ length others =
      omega (
        arith,
        long,
        size,
        spelling.short,
        ap length filled,
        length-append (set_octets set) (drop len others),
        length-drop len others,
      ) in
      let spelled : Spells front set = record { is = set_is; has_spelling = spelling; same = is ∙ same } in
      kept_front octets front starts len room places set (total ∙ size) enough
      (omega (arith, long, total, size, spelling.short)) is spelled (at spelled)
