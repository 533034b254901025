-- The rules for groups and names see of a set its name, its type and its policy without a weight.
use Rattle.std.proofs.Common.{◌≡◌, ℕ, ◌<◌, List, [], ◌∷◌, map, length, Bool, true, false, cond, set}
use Rattle.std.proofs.Common.{zero, suc}
use Rattle.std.proofs.Common.{Some, None, refl, sym, ap, ◌∙◌, subst, inl, inr, arith, ◌&&◌}
use Rattle.std.specs.Prelude.{Option, slice_get, ◌==◌, ◌↔◌}
use Rattle.std.specs.List.{filter}
use Rattle.std.specs.Option.{option_map}
use Rattle.std.proofs.lemmas.Option.{slice_get-map, slice_get_within}
use Rattle.dns_name.specs.Order.{same_labels}
use Rattle.record_set.specs.RTypeRecord.{RType}
use Rattle.record_set.specs.RoutingRecord.{Routing}
use Rattle.record_set.specs.RoutingRecord.TheVariants as routing
use Rattle.record_set.specs.Types.{number_of}
use Rattle.record_set.specs.declared.sets.RecordSet.{RecordSet}
use Rattle.config_model.proofs.Among.{among_at, place_of}
use Rattle.config_model.specs.Zones.{AreOneGroup, group, is_of_group}
use Rattle.change_batch.specs.Rules.{Rule, OnePolicy, CnameAlone, OwnPlace, GroupSize, Breaks, AreRivals}
use Rattle.change_batch.specs.Rules.{BreaksAt, HasCname, HasCnameConflict, HasOtherType, MeetsAll}
use Rattle.change_batch.specs.Rules.{NoneBreaksBefore, policy_of}
use Rattle.batch_edits.specs.Replacing.{seen}

some_one : {X : Type 0} (x y : X) → Some x ≡ Some y → x ≡ y
some_one x y e = grind (arith, e)

-- what the sets beside it see of a set
abbrev pub face : RecordSet → List (List ℕ) × RType × Routing
face set = (set.name, set.rtype, seen set.routing)

name_of : (set other : RecordSet) → face set ≡ face other → set.name ≡ other.name
name_of set other e = ap (λ (f : List (List ℕ) × RType × Routing). f.0) e

type_of : (set other : RecordSet) → face set ≡ face other → set.rtype ≡ other.rtype
type_of set other e = ap (λ (f : List (List ℕ) × RType × Routing). f.1) e

routing_of : (set other : RecordSet) → face set ≡ face other
    → seen set.routing ≡ seen other.routing
routing_of set other e = ap (λ (f : List (List ℕ) × RType × Routing). f.2) e

-- ---- weights

policy_seen : (r : Routing) → policy_of (seen r) ≡ policy_of r
policy_seen routing.Simple = refl
policy_seen (routing.Weighted ident weight) = refl
policy_seen (routing.Failover ident role) = refl
policy_seen (routing.Geolocation ident place) = refl
policy_seen (routing.Latency ident region) = refl
policy_seen (routing.Multivalue ident) = refl
policy_seen (routing.Cidr ident collection location) = refl

same_policy : (r s : Routing) → seen r ≡ seen s → policy_of r ≡ policy_of s
same_policy r s e = sym (policy_seen r) ∙ ap policy_of e ∙ policy_seen s

no_rival : (r : Routing) (ident : List ℕ) (weight : ℕ)
    → AreRivals r (routing.Weighted ident weight) → ⊥
no_rival routing.Simple ident weight h = h
no_rival (routing.Weighted a b) ident weight h = h
no_rival (routing.Failover a b) ident weight h = h
no_rival (routing.Geolocation a b) ident weight h = h
no_rival (routing.Latency a b) ident weight h = h
no_rival (routing.Multivalue a) ident weight h = h
no_rival (routing.Cidr a b c) ident weight h = h

seen_first : (r s : Routing) → AreRivals r s ↔ AreRivals (seen r) s
seen_first routing.Simple s = ((λ h. h), (λ h. h))
seen_first (routing.Weighted a b) s = ((λ h. h), (λ h. h))
seen_first (routing.Failover a b) s = ((λ h. h), (λ h. h))
seen_first (routing.Geolocation a b) s = ((λ h. h), (λ h. h))
seen_first (routing.Latency a b) s = ((λ h. h), (λ h. h))
seen_first (routing.Multivalue a) s = ((λ h. h), (λ h. h))
seen_first (routing.Cidr a b c) s = ((λ h. h), (λ h. h))

seen_second : (r s : Routing) → AreRivals r s ↔ AreRivals r (seen s)
seen_second r routing.Simple = ((λ h. h), (λ h. h))
seen_second r (routing.Weighted a b) =
    ((λ h. absurd (no_rival r a b h)), (λ h. absurd (no_rival r a 0 h)))
seen_second r (routing.Failover a b) = ((λ h. h), (λ h. h))
seen_second r (routing.Geolocation a b) = ((λ h. h), (λ h. h))
seen_second r (routing.Latency a b) = ((λ h. h), (λ h. h))
seen_second r (routing.Multivalue a) = ((λ h. h), (λ h. h))
seen_second r (routing.Cidr a b c) = ((λ h. h), (λ h. h))

rivals_too : (r s t u : Routing) → seen r ≡ seen t → seen s ≡ seen u → AreRivals r s
    → AreRivals t u
rivals_too r s t u e f rivals =
    (seen_first t u).1
    ((seen_second (seen t) u).1
    (subst (λ x. AreRivals (seen t) x) f
    (subst (λ x. AreRivals x (seen s)) e
    ((seen_second (seen r) s).0 ((seen_first r s).0 rivals)))))

-- ---- sets that show the same

-- the set at the same place of a list that shows the same
facing : (sets others : List RecordSet) → map face sets ≡ map face others → (i : ℕ)
    (set : RecordSet) → slice_get sets i ≡ Some set
    → (other : RecordSet) × (slice_get others i ≡ Some other) × (face other ≡ face set)
facing sets others same i set there = by (slice_get others i) refl
  where
    found : option_map face (slice_get others i) ≡ Some (face set)
    found =
        sym (slice_get-map face others i)
        ∙ ap (λ (f : List (List (List ℕ) × RType × Routing)). slice_get f i) (sym same)
        ∙ slice_get-map face sets i
        ∙ ap (option_map face) there

    by : (o : Option RecordSet) → slice_get others i ≡ o
        → (other : RecordSet) × (slice_get others i ≡ Some other) × (face other ≡ face set)
    by None e =
        let none : option_map face None ≡ Some (face set) = ap (option_map face) (sym e) ∙ found in
        absurd (grind (arith, none))
    by (Some other) e =
        (other, e, some_one (face other) (face set) (ap (option_map face) (sym e) ∙ found))

grouped : (set other x y : RecordSet) → face x ≡ face set → face y ≡ face other
    → AreOneGroup set other → AreOneGroup x y
grouped set other x y e f one = record {
  name = name_of x set e ∙ one.name ∙ sym (name_of y other f);
  rtype = type_of x set e ∙ one.rtype ∙ sym (type_of y other f);
}

-- whether what is seen is of a name and type
abbrev is_face_of : (name : List (List ℕ)) → RType → List (List ℕ) × RType × Routing → Bool
is_face_of name rtype f = same_labels name f.0 && number_of rtype == number_of f.1

faces_in : (name : List (List ℕ)) (rtype : RType) (sets : List RecordSet)
    → length (group sets name rtype) ≡ length (filter (is_face_of name rtype) (map face sets))
faces_in name rtype [] = refl
faces_in name rtype (set ∷ sets) = by (faces_in name rtype sets) (is_of_group name rtype set)
  where
    by : length (group sets name rtype)
        ≡ length (filter (is_face_of name rtype) (map face sets))
        → (b : Bool)
        → length (cond b (set ∷ group sets name rtype) (group sets name rtype))
        ≡ length (cond b (face set ∷ filter (is_face_of name rtype) (map face sets))
        (filter (is_face_of name rtype) (map face sets)))
    by rest true = ap suc rest
    by rest false = rest

-- ---- a rule at one set

module _ (sets others : List RecordSet) (same : map face sets ≡ map face others)
    (apex : List (List ℕ)) where
  has_cname : (name : List (List ℕ)) → HasCname sets name → HasCname others name
  has_cname name (set, there, its_name, its_type) =
      let k = place_of sets set there in
      let it = facing sets others same k.0 set k.1 in (
        it.0,
        among_at others k.0 it.0 it.1,
        name_of it.0 set it.2 ∙ its_name,
        type_of it.0 set it.2 ∙ its_type,
      )

  has_other : (name : List (List ℕ)) → HasOtherType sets name → HasOtherType others name
  has_other name (set, there, its_name, its_type) =
      let k = place_of sets set there in
      let it = facing sets others same k.0 set k.1 in (
        it.0,
        among_at others k.0 it.0 it.1,
        name_of it.0 set it.2 ∙ its_name,
        λ e. its_type (sym (type_of it.0 set it.2) ∙ e),
      )

  has_conflict : (name : List (List ℕ)) → HasCnameConflict sets apex name
      → HasCnameConflict others apex name
  has_conflict name (cname, inl other) = (has_cname name cname, inl (has_other name other))
  has_conflict name (cname, inr e) = (has_cname name cname, inr e)

  as_many : (name : List (List ℕ)) (rtype : RType)
      → length (group sets name rtype) ≡ length (group others name rtype)
  as_many name rtype =
      faces_in name rtype sets
      ∙ ap (λ (f : List (List (List ℕ) × RType × Routing)). length (filter
      (is_face_of name rtype) f))
      same
      ∙ sym (faces_in name rtype others)

  breaks_too : (rule : Rule) (i : ℕ) (set : RecordSet) → slice_get sets i ≡ Some set
      → Breaks rule sets apex i set → BreaksAt rule others apex i
  breaks_too OnePolicy i set there b =
      let it = facing sets others same i set there in
      let before = facing sets others same b.at b.set_before b.there in (
        it.0,
        it.1,
        record {
          at = b.at;
          earlier = b.earlier;
          set_before = before.0;
          there = before.1;
          one_group = grouped b.set_before set before.0 it.0 before.2 it.2 b.one_group;
          nearest = λ k other low high at_k one.
              let back = facing others sets (sym same) k other at_k in
              b.nearest k back.0 low high back.1
              (grouped other it.0 back.0 set back.2 (sym it.2) one);
          differs = λ e. b.differs
              (sym (same_policy before.0.routing b.set_before.routing
              (routing_of before.0 b.set_before before.2))
              ∙ e
              ∙ same_policy it.0.routing set.routing (routing_of it.0 set it.2));
        },
      )
  breaks_too CnameAlone i set there b =
      let it = facing sets others same i set there in (
        it.0,
        it.1,
        subst (λ n. HasCnameConflict others apex n) (sym (name_of it.0 set it.2))
            (has_conflict set.name b),
      )
  breaks_too OwnPlace i set there b =
      let it = facing sets others same i set there in
      let other = facing sets others same b.at b.other b.there in (
        it.0,
        it.1,
        record {
          at = b.at;
          earlier = b.earlier;
          other = other.0;
          there = other.1;
          one_group = grouped b.other set other.0 it.0 other.2 it.2 b.one_group;
          one_place = rivals_too b.other.routing set.routing other.0.routing it.0.routing
              (sym (routing_of other.0 b.other other.2)) (sym (routing_of it.0 set it.2)) b.one_place;
        },
      )
  breaks_too GroupSize i set there b =
      let it = facing sets others same i set there in
      let name = name_of it.0 set it.2 in
      let rtype = type_of it.0 set it.2 in
      let many = as_many set.name set.rtype in (
        it.0,
        it.1,
        subst (λ n. 100 < length (group others n it.0.rtype)) (sym name)
            (subst (λ t. 100 < length (group others set.name t)) (sym rtype)
            (omega (arith, b, many))),
      )

-- ---- all sets

-- where no set shows anything else, the same rules are met
module _ (sets others : List RecordSet) (same : map face sets ≡ map face others)
    (apex : List (List ℕ)) where
  none_breaks : (rule : Rule) → NoneBreaksBefore rule sets apex (length sets)
      → NoneBreaksBefore rule others apex (length others)
  none_breaks rule none i lt (set, there, b) =
      let back = breaks_too others sets (sym same) apex rule i set there b in
      none i (slice_get_within sets i back.0 back.1) back

  pub meets_too : (some : List Rule) → MeetsAll some sets apex → MeetsAll some others apex
  meets_too [] meets = tt
  meets_too (rule ∷ some) meets = (none_breaks rule meets.0, meets_too some meets.1)

-- one set in the place of another that shows the same
pub faces_stay : (sets : List RecordSet) (i : ℕ) (old new : RecordSet)
    → slice_get sets i ≡ Some old → face old ≡ face new → map face sets ≡ map face (set sets i new)
faces_stay [] i old new there same = absurd (grind (arith, there))
faces_stay (x ∷ sets) zero old new there same =
    ap (λ (f : List (List ℕ) × RType × Routing). f ∷ map face sets)
    (ap face (some_one x old there) ∙ same)
faces_stay (x ∷ sets) (suc i) old new there same =
    ap (λ (fs : List (List (List ℕ) × RType × Routing)). face x ∷ fs)
    (faces_stay sets i old new there same)
