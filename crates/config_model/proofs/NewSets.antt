-- The two sets of a new zone are those of a sound zone.
use Rattle.std.proofs.Common.{◌≡◌, ℕ, zero, suc, ◌+◌, ◌*◌, ◌<◌, ◌≤◌, true, false, List, [], ◌∷◌}
use Rattle.std.proofs.Common.{◌++◌, length, map, inl, inr, ap, ◌∙◌, sym, refl, subst, arith, None}
use Rattle.std.proofs.Common.{Some, Less, Equal}
use Rattle.std.specs.Prelude.{not, slice_get}
use Rattle.std.specs.List.{AllByRecursion, flat_map, list_any}
use Rattle.std.specs.Cmp.{tied_itself}
use Rattle.std.specs.Ordering.{ordering_then}
use Rattle.std.specs.Str.{bytes_eq}
use Rattle.std.proofs.lemmas.Bool.{false≢true, or_parts}
use Rattle.std.proofs.lemmas.List.{length-append, length-map}
use Rattle.std.proofs.lemmas.Slice.Eq.{bytes_eq-Decides}
use Rattle.command_octets.specs.Rules.{MeetsAll, OnePolicy, CnameAlone, OwnPlace, GroupSize}
use Rattle.command_octets.specs.Rules.{NoneBreaksBefore, rules}
use Rattle.check_model.specs.declared.checks.Check.{Check}
use Rattle.command_octets.specs.CollectionRecord.{Collection}
use Rattle.set_reading.specs.Labels.{wire}
use Rattle.set_reading.specs.LawsOfDnsName.{OneNameOfAWire}
use Rattle.set_reading.specs.Names.{IsName}
use Rattle.set_reading.specs.Order.{same_labels}
use Rattle.set_reading.specs.OrderLaws.{same_labels-Decides, zone_cmp_total}
use Rattle.set_reading.specs.Wildcard.{wildcard}
use Rattle.set_reading.specs.Datum.{Datum}
use Rattle.set_reading.specs.Types.{number_of}
use Rattle.set_reading.specs.RTypeRecord.{RType}
use Rattle.set_reading.specs.RTypeRecord.TheVariants.{Ns, Soa, Cname}
use Rattle.set_reading.specs.Reasons.{IsAlias, IsFirst}
use Rattle.set_reading.specs.SetsOfRecordSet.{key_of}
use Rattle.set_reading.specs.BodyRecord.TheVariants.{Values}
use Rattle.set_reading.specs.RecordSetRecord.{RecordSet}
use Rattle.set_reading.specs.RoutingRecord.TheVariants.{Simple, Cidr}
use Rattle.octets.specs.Numbers.{four_octets, two_octets}
use Rattle.set_reading.specs.Octets.{HasSpelling, body_octets, set_octets, value_octets}
use Rattle.command_octets.specs.Keys.{key_cmp}
use Rattle.command_octets.specs.Walks.{IsWalk}
use Rattle.command_octets.specs.Zones.{AreOneGroup, IsAmong, IsZone, is_of_group}
use Rattle.config_model.specs.NewZones.{first_server, hostmaster, is_repeated, is_zone_name}
use Rattle.config_model.specs.NewZones.{new_ns_set, new_soa_set, new_zone, server_value, soa_value}
use Rattle.config_model.specs.Sound.{IsSoundZone}
use Rattle.config_model.specs.Told.{AreInOrder, RefusalsAreTold}
use Rattle.config_model.proofs.Ended.{count_less}
use Rattle.config_model.proofs.Members.{any_of}
use Rattle.config_model.proofs.NewParts.{ns_parts, soa_parts}

-- ---- servers that differ

-- a value of these is that of a server
value_at : (servers : List (List (List ℕ))) (k : ℕ) (value : Datum)
    → slice_get (map server_value servers) k ≡ Some value
    → (server : List (List ℕ)) × IsAmong servers server × (server_value server ≡ value)
value_at [] k value e = absurd (grind (arith, e))
value_at (server ∷ servers) zero value e = (server, inl refl, grind (arith, e))
value_at (server ∷ servers) (suc k) value e =
    let rest = value_at servers k value e in (rest.0, inr rest.1, rest.2)

named_at : (servers : List (List (List ℕ))) (server : List (List ℕ)) → AllByRecursion IsName servers
    → IsAmong servers server → IsName server
named_at [] server names there = absurd there
named_at (x ∷ servers) server names (inl e) = subst IsName e names.0
named_at (x ∷ servers) server names (inr there) = named_at servers server names.1 there

module _ (law : OneNameOfAWire) where
  not_repeated : (servers : List (List (List ℕ))) → AllByRecursion IsName servers
      → is_repeated servers ≡ false → (j k : ℕ) → j < k → k < length (map server_value servers)
      → slice_get (map server_value servers) j ≡ slice_get (map server_value servers) k → ⊥
  not_repeated [] names e j k lt within same = absurd (omega (arith, within))
  not_repeated (x ∷ servers) names e zero zero lt within same = absurd (omega (arith, lt))
  not_repeated (x ∷ servers) names e (suc j) zero lt within same = absurd (omega (arith, lt))
  not_repeated (x ∷ servers) names e zero (suc k) lt within same =
      let own = or_parts (list_any (same_labels x) servers) (is_repeated servers) e in
      let other = value_at servers k (server_value x) (sym same) in
      let one : other.0 ≡ x = law other.0 x (named_at servers other.0 names.1 other.1).raw
      names.0.raw (ap (λ (value : Datum). value.wire) other.2) in
      false≢true (sym own.0 ∙ any_of (same_labels x) servers other.0 other.1
      ((same_labels-Decides x other.0).1 (sym one)))
  not_repeated (x ∷ servers) names e (suc j) (suc k) lt within same =
      let own = or_parts (list_any (same_labels x) servers) (is_repeated servers) e in
      not_repeated servers names.1 own.1 j k (omega (arith, lt)) (omega (arith, within)) same

-- ---- how many octets a simple set has

simple_length : (name : List (List ℕ)) (rtype : RType) (ttl : ℕ) (values : List Datum)
    → length (set_octets (record {
      name = name;
      rtype = rtype;
      routing = Simple;
      body = Values ttl values;
      check = None;
    }))
    ≡ length (wire name) + 11 + length (flat_map value_octets values)
simple_length name rtype ttl values =
    let two = two_octets (number_of rtype) in
    let body = body_octets (Values ttl values) in
    let a : length ((((wire name ++ two) ++ (0 ∷ [])) ++ body) ++ (0 ∷ []))
    ≡ length (((wire name ++ two) ++ (0 ∷ [])) ++ body) + 1 =
    length-append (((wire name ++ two) ++ (0 ∷ [])) ++ body) (0 ∷ []) in
    let b : length (((wire name ++ two) ++ (0 ∷ [])) ++ body)
    ≡ length ((wire name ++ two) ++ (0 ∷ [])) + length body =
    length-append ((wire name ++ two) ++ (0 ∷ [])) body in
    let c : length ((wire name ++ two) ++ (0 ∷ [])) ≡ length (wire name ++ two) + 1 =
    length-append (wire name ++ two) (0 ∷ []) in
    let d : length (wire name ++ two) ≡ length (wire name) + 2 = length-append (wire name) two in
    let e : length body ≡ suc (6 + length (flat_map value_octets values)) =
    ap suc (length-append (four_octets ttl ++ two_octets (length values))
    (flat_map value_octets values)) in
    omega (arith, a, b, c, d, e)

-- ---- two sets of two types

module _ (apex : List (List ℕ)) (servers : List (List (List ℕ))) where
  abbrev ns : RecordSet
  ns = new_ns_set apex servers

  abbrev soa : RecordSet
  soa = new_soa_set apex servers

  abbrev both : List RecordSet
  both = ns ∷ soa ∷ []

  in_order : key_cmp (key_of ns) (key_of soa) ≡ Less
  in_order = ap (λ o. ordering_then (ordering_then o Less) Equal) (tied_itself zone_cmp_total apex)

  are_zone : IsZone both apex
  are_zone = record {
    rising = ((in_order, tt), (tt, tt));
    inside = (([], refl), (([], refl), tt));
  }

  -- whatever both have, each of them has
  of_both : (P : RecordSet → Type 0) → P ns → P soa → (set : RecordSet) → IsAmong both set → P set
  of_both P p q set (inl e) = subst P e p
  of_both P p q set (inr (inl e)) = subst P e q
  of_both P p q set (inr (inr there)) = absurd there

  -- and no two of them are of one group
  apart : (at i : ℕ) (x y : RecordSet) → at < i → slice_get both at ≡ Some x
      → slice_get both i ≡ Some y → AreOneGroup x y → ⊥
  apart at zero x y lt a b one = absurd (omega (arith, lt))
  apart zero (suc zero) x y lt a b one =
      let first : ns ≡ x = grind (arith, a) in
      let second : soa ≡ y = grind (arith, b) in
      let types : Ns ≡ Soa = ap (λ (s : RecordSet). s.rtype) first ∙ one.rtype
      ∙ sym (ap (λ (s : RecordSet). s.rtype) second) in
      grind (arith, types)
  apart (suc at) (suc zero) x y lt a b one = absurd (omega (arith, lt))
  apart at (suc (suc i)) x y lt a b one = absurd (grind (arith, b))

  meets : MeetsAll rules both apex
  meets = (policies, (cnames, (places, (sizes, tt))))
    where
      policies : NoneBreaksBefore OnePolicy both apex (length both)
      policies i lt (set, there, breaks) =
          apart breaks.at i breaks.set_before set breaks.earlier breaks.there there breaks.one_group

      cnames : NoneBreaksBefore CnameAlone both apex (length both)
      cnames i lt (set, there, ((cname, among, name, is), other)) =
          of_both (λ s. s.rtype ≡ Cname → ⊥) (λ e. grind (arith, e)) (λ e. grind (arith, e)) cname
          among is

      places : NoneBreaksBefore OwnPlace both apex (length both)
      places i lt (set, there, breaks) =
          apart breaks.at i breaks.other set breaks.earlier breaks.there there breaks.one_group

      sizes : NoneBreaksBefore GroupSize both apex (length both)
      sizes i lt (set, there, full) =
          let few = count_less (is_of_group set.name set.rtype) both in omega (arith, few, full)

  ordered : (checks : List (ℕ × Check)) (collections : List (ℕ × Collection))
      → AreInOrder checks collections both
  ordered checks collections = record {
    checks_there = λ set id there named.
        absurd (of_both (λ s. s.check ≡ Some id → ⊥) (λ e. grind (arith, e)) (λ e. grind (arith, e))
        set there named);
    places_there = λ set ident id location there named.
        absurd (of_both (λ s. s.routing ≡ Cidr ident id location → ⊥) (λ e. grind (arith, e))
        (λ e. grind (arith, e)) set there named);
    targets_there = λ set there none.
        of_both (λ s. IsAlias s.body → ⊥) (λ is. is) (λ is. is) set there none.0;
    not_too_deep = λ set there deep.
        of_both (λ s. IsAlias s.body → ⊥) (λ is. is) (λ is. is) set there
        (alias_of set deep.0 deep.1);
    few = omega arith;
  }
    where
      alias_of : (set : RecordSet) (walk : List RecordSet) → IsWalk both (set ∷ walk)
          → IsAlias set.body
      alias_of set [] w = w.1
      alias_of set (next ∷ walk) w = w.1

  -- ---- each is allowed

  module _ (law : OneNameOfAWire) (four : length servers ≡ 4)
      (names : AllByRecursion IsName servers) (differ : is_repeated servers ≡ false)
      (named : is_zone_name apex ≡ true) where
    many : length (map server_value servers) ≡ 4
    many = length-map servers server_value ∙ four

    not_wildcard : (rest : List (List ℕ)) → apex ≡ wildcard ∷ rest → ⊥
    not_wildcard rest e =
        let told : not (bytes_eq wildcard wildcard) ≡ true = ap is_zone_name (sym e) ∙ named in
        let same : not (bytes_eq wildcard wildcard) ≡ false =
        ap not ((bytes_eq-Decides wildcard wildcard).1 refl) in
        false≢true (sym same ∙ told)

    ns_allowed : IsFirst None ns apex
    ns_allowed = (
      λ e. (let none = ap length e in omega (arith, none, many)),
      (
        λ more. omega (arith, more, many),
        (
          λ r. not_repeated law servers names differ r.first r.second r.apart r.within r.equal,
          (
            λ one. elim one.0 [ inl e ↦ grind (arith, e) | inr e ↦ grind (arith, e) ],
            (
              λ is. (let e = is.0 in grind (arith, e)),
              (
                λ which. elim which [
                  | inl routed ↦ elim routed.1 [ inl other ↦ other refl | inr alias ↦ alias ]
                  | inr several ↦ several.0
                ],
                (λ is. not_wildcard is.1.0 is.1.1, tt),
              ),
            ),
          ),
        ),
      ),
    )

    soa_allowed : IsFirst None soa apex
    soa_allowed = (
      λ e. grind (arith, e),
      (
        λ more. omega (arith, more),
        (
          λ r. (let lt = r.apart in let within = r.within in omega (arith, lt, within)),
          (
            λ one. (let more = one.1 in omega (arith, more)),
            (
              λ is. is.1 refl,
              (
                λ which. elim which [
                  | inl routed ↦ elim routed.1 [ inl other ↦ other refl | inr alias ↦ alias ]
                  | inr several ↦ several.0
                ],
                (λ is. (let e = is.0 in grind (arith, e)), tt),
              ),
            ),
          ),
        ),
      ),
    )

    -- ---- and has a spelling

    values_short : (list : List (List (List ℕ))) → AllByRecursion IsName list
        → length (flat_map value_octets (map server_value list)) ≤ 257 * length list
    values_short [] all = omega arith
    values_short (server ∷ list) all =
        let front = length-append (value_octets (server_value server))
        (flat_map value_octets (map server_value list)) in
        let fits = all.0.raw.fits in
        let rest = values_short list all.1 in
        omega (arith, front, fits, rest)

    of_ns : (list : List (List (List ℕ)))
        → AllByRecursion (λ (value : Datum). value.rtype ≡ Ns) (map server_value list)
    of_ns [] = tt
    of_ns (server ∷ list) = (refl, of_ns list)

    ns_short : IsName apex → length (set_octets ns) ≤ 65536
    ns_short name =
        let whole = simple_length apex Ns 172800 (map server_value servers) in
        let values = values_short servers names in
        let fits = name.raw.fits in
        omega (arith, whole, values, fits, four)

    ns_spelled : IsName apex → HasSpelling ns
    ns_spelled name = record {
      routing = tt;
      body = (omega arith, (let n = many in omega (arith, n)));
      of_type = of_ns servers;
      short = ns_short name;
    }

    first_named : (list : List (List (List ℕ))) → AllByRecursion IsName list
        → length (wire (first_server list)) ≤ 255
    first_named [] all = omega arith
    first_named (server ∷ list) all = all.0.raw.fits

    soa_short : IsName apex → length (set_octets soa) ≤ 65536
    soa_short name =
        let whole = simple_length apex Soa 900 (soa_value (first_server servers) ∷ []) in
        let value = length-append (value_octets (soa_value (first_server servers))) [] in
        let wires = length-append (wire (first_server servers))
        (wire hostmaster ++ (four_octets 1 ++ (four_octets 7200 ++ (four_octets 900
        ++ (four_octets 1209600 ++ four_octets 86400))))) in
        let first = first_named servers names in
        let fits = name.raw.fits in
        omega (arith, whole, value, wires, first, fits)

    soa_spelled : IsName apex → HasSpelling soa
    soa_spelled name = record {
      routing = tt;
      body = (omega arith, omega arith);
      of_type = (refl, tt);
      short = soa_short name;
    }

    pub sound_zone : (told : RefusalsAreTold) → IsName apex → (id : ℕ)
        → (checks : List (ℕ × Check)) (collections : List (ℕ × Collection))
        → IsSoundZone checks collections (new_zone id apex servers)
    sound_zone told name id checks collections = record {
      name = named;
      sets = are_zone;
      ns = (ns, record { there = inl refl; same_key = refl });
      soa = (soa, record { there = inr (inl refl); same_key = refl });
      parts = (ns_parts apex servers name names, (soa_parts apex servers name names four, tt));
      allowed = (ns_allowed, (soa_allowed, tt));
      spelled = (ns_spelled name, (soa_spelled name, tt));
      rules = meets;
      last = (told.none checks collections both).1 (ordered checks collections);
    }
