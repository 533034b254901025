-- What is known of the set that is held.
use Rattle.std.proofs.Common.{◌≡◌, ℕ, zero, suc, ◌+◌, ◌<◌, List, [], ◌∷◌, ◌++◌, length, take, drop, map}
use Rattle.std.proofs.Common.{arith, ap, ◌∙◌, sym, refl, subst, drop-drop, Option, None, Some}
use Rattle.std.specs.Prelude.{IfSome, slice_get}
use Rattle.std.specs.List.{AllByRecursion, flat_map}
use Rattle.std.proofs.Math.Seq.{drop-append_seam}
use Rattle.set_parts.specs.Datum.{Datum}
use Rattle.set_parts.specs.Layout.{IsLayout}
use Rattle.set_parts.specs.RTypeRecord.{RType}
use Rattle.set_parts.specs.Values.{IsInLayout}
use Rattle.set_parts.specs.RecordSetRecord.{RecordSet}
use Rattle.set_parts.specs.BodyRecord.{Body}
use Rattle.set_parts.specs.BodyRecord.TheVariants as body
use Rattle.set_parts.specs.Octets.{body_octets, check_octets, head_octets, value_octets, AreOfType}
use Rattle.set_parts.specs.Sets.{IsBody}
use Rattle.set_scratch.specs.Bodies.{values_of, wires_of}
use Rattle.set_scratch.specs.Holding.{HasValue}
use Rattle.set_scratch.specs.Kept.{AreAt, AreOf, starts_of}
use Rattle.set_scratch.specs.Spelling.{Spells, from_body}
use Rattle.set_scratch.specs.declared.places.Places.{Places}
use Rattle.set_scratch.proofs.Found.{parted, respelled}
use Rattle.set_scratch.proofs.Placed.{starts_long}

-- a fact of the set that is held follows from another
pub each_held : {P Q : RecordSet → Type 0} → (held : Option RecordSet) → IfSome held P
    → ((set : RecordSet) → P set → Q set) → IfSome held Q
each_held None is then = tt
each_held (Some set) is then = then set is

pub told : (octets starts : List ℕ) (places : Places) (held now : Option RecordSet) → held ≡ now
    → AreOf octets places starts held
    → IfSome now (λ set. Spells (take places.len octets) set × AreAt set places starts)
told octets starts places held now same are = told_of now (subst (AreOf octets places starts) same are)
  where
    told_of : (now : Option RecordSet) → AreOf octets places starts now
        → IfSome now (λ set. Spells (take places.len octets) set × AreAt set places starts)
    told_of None are = tt
    told_of (Some set) are = are

-- the values have places
pub has_start : (octets starts : List ℕ) (places : Places) (i : ℕ) (now : Option RecordSet)
    → IfSome now (λ set. Spells (take places.len octets) set × AreAt set places starts)
    → HasValue now i → i < length starts
has_start octets starts places i None is has = absurd has
has_start octets starts places i (Some set) is has =
    omega (arith, has, ap length is.1.values, starts_long (places.body + 7) (values_of set.body))

-- where the values of a body stand
stand_in : (octets : List ℕ) (at : ℕ) (what : Body) (after : List ℕ)
    → drop at octets ≡ body_octets what ++ after
    → (rest : List ℕ) × (drop (at + 7) octets ≡ flat_map value_octets (values_of what) ++ rest)
stand_in octets at (body.Values ttl values) after there =
    (after, sym (drop-drop 7 at octets) ∙ ap (drop 7) there)
stand_in octets at (body.Alias target evaluate) after there = (drop (at + 7) octets, refl)

values_stand : (octets : List ℕ) (set : RecordSet) (at : ℕ) → Spells octets set
    → at ≡ length (head_octets set)
    → (rest : List ℕ) × (drop (at + 7) octets ≡ flat_map value_octets (values_of set.body) ++ rest)
values_stand octets set at spelled is =
    stand_in octets at set.body (check_octets set.check)
    (ap (λ n. drop n octets) is ∙ ap (drop (length (head_octets set))) (spelled.same ∙ parted set)
    ∙ drop-append_seam (head_octets set) (from_body set))

-- values of the type are in its layout
laid_out : (type : RType) (values : List Datum) (i : ℕ) (wire : List ℕ)
    → AllByRecursion (λ value. value.rtype ≡ type) values → AllByRecursion IsInLayout values
    → slice_get (map (λ (value : Datum). value.wire) values) i ≡ Some wire → IsLayout type wire
laid_out type [] i wire are layouts is = absurd cc
laid_out type (value ∷ values) zero wire are layouts is =
    let same : value.wire ≡ wire = cc in
    subst (IsLayout type) same (subst (λ t. IsLayout t value.wire) are.0 layouts.0)
laid_out type (value ∷ values) (suc i) wire are layouts is = laid_out type values i wire are.1 layouts.1 is

in_layout : (type : RType) (what : Body) (i : ℕ) (wire : List ℕ) → AreOfType type what → IsBody what
    → slice_get (wires_of what) i ≡ Some wire → IsLayout type wire
in_layout type (body.Values ttl values) i wire are is there = laid_out type values i wire are is there
in_layout type (body.Alias target evaluate) i wire are is there = absurd cc

-- a value that is read at its place is the set's
pub value_told : (octets front starts : List ℕ) (places : Places) (i : ℕ) (wire : List ℕ)
    (now : Option RecordSet) → front ≡ take places.len octets
    → ((at : ℕ) (values : List Datum) (after : List ℕ) → starts ≡ starts_of at values
    → drop at front ≡ flat_map value_octets values ++ after
    → slice_get (map (λ (value : Datum). value.wire) values) i ≡ Some wire)
    → IfSome now (λ set. Spells (take places.len octets) set × AreAt set places starts)
    → IfSome now (λ set. (slice_get (wires_of set.body) i ≡ Some wire) × IsLayout set.rtype wire)
value_told octets front starts places i wire None same reads is = tt
value_told octets front starts places i wire (Some set) same reads is =
    let spelled = respelled same is.0 in
    let stand = values_stand front set places.body spelled is.1.body in
    let there = reads (places.body + 7) (values_of set.body) stand.0 is.1.values stand.1 in
    (there, in_layout set.rtype set.body i wire spelled.has_spelling.of_type spelled.is.body there)
