-- Octets of a set, told part by part.
use Rattle.std.proofs.Common.{◌≡◌, ℕ, zero, suc, ◌+◌, ◌<◌, ◌≤◌, List, [], ◌∷◌, ◌++◌, length, drop, Bool, Option, None, Some}
use Rattle.std.proofs.Common.{arith, ap, sym, ◌∙◌, refl, append_assoc}
use Rattle.std.specs.List.{flat_map}
use Rattle.std.proofs.lemmas.List.{append-nil}
use Rattle.set_parts.specs.Datum.{Datum}
use Rattle.set_parts.specs.RTypeRecord.{RType}
use Rattle.set_parts.specs.BodyRecord.{Body}
use Rattle.set_parts.specs.BodyRecord.TheVariants as body
use Rattle.set_parts.specs.RecordSetRecord.{RecordSet}
use Rattle.set_parts.specs.Octets.{set_octets, value_octets}
use Rattle.set_scratch.specs.Bodies.{alias_of}
use Rattle.set_scratch.specs.Spelling.{Spells}
use Rattle.set_scratch.specs.Telling.{target_in}

-- nothing stands behind the set
pub alone : (octets : List ℕ) (set : RecordSet) → Spells octets set → octets ≡ set_octets set ++ []
alone octets set spells = spells.same ∙ sym (append-nil (set_octets set))

pub some_target : (rtype : RType) (what : Body) (told : List (List ℕ) × Bool)
    → Some told ≡ alias_of what → Some (told.0, rtype) ≡ target_in rtype what
some_target rtype (body.Values ttl values) told e = absurd cc
some_target rtype (body.Alias to evaluate) told e =
    ap (λ (name : List (List ℕ)). Some (name, rtype)) (first told (to, evaluate) e)
  where
    first : (x y : List (List ℕ) × Bool) → Some x ≡ Some y → x.0 ≡ y.0
    first x y f = let same : x ≡ y = cc in ap (λ (p : List (List ℕ) × Bool). p.0) same

pub no_target : (rtype : RType) (what : Body) → None ≡ alias_of what → None ≡ target_in rtype what
no_target rtype (body.Values ttl values) e = refl
no_target rtype (body.Alias to evaluate) e = absurd cc

-- ---- values one after another

-- the values that are left
next : (values : List Datum) (i : ℕ) → i < length values
    → (value : Datum) × (drop i values ≡ value ∷ drop (i + 1) values)
next [] i lt = absurd (omega (arith, lt))
next (value ∷ values) zero lt = (value, refl)
next (value ∷ values) (suc i) lt =
    let rest = next values i (omega (arith, lt)) in
    (rest.0, rest.1 ∙ ap (λ n. rest.0 ∷ drop n (value ∷ values)) (let e : suc (i + 1) ≡ suc i + 1 = omega arith in e))

pub none_left : (values : List Datum) (i : ℕ) → length values ≤ i → drop i values ≡ []
none_left [] zero le = refl
none_left [] (suc i) le = refl
none_left (value ∷ values) zero le = absurd (omega (arith, le))
none_left (value ∷ values) (suc i) le = none_left values i (omega (arith, le))

pub one_behind : (values : List Datum) (i : ℕ) (rest left behind : List ℕ) → i < length values
    → left ≡ flat_map value_octets (drop i values) ++ rest
    → ((value : Datum) (after : List ℕ) → left ≡ value_octets value ++ after → behind ≡ after)
    → behind ≡ flat_map value_octets (drop (i + 1) values) ++ rest
one_behind values i rest left behind lt is passes =
    let one = next values i lt in
    let others = flat_map value_octets (drop (i + 1) values) in
    passes one.0 (others ++ rest) (is ∙ (ap (λ vs. flat_map value_octets vs ++ rest) one.1
    ∙ append_assoc (value_octets one.0) others rest))
