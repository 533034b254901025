-- Fields and strings at the front of octets.
use Rattle.std.proofs.Common.{◌≡◌, ℕ, ◌+◌, ◌<◌, ◌≤◌, List, [], ◌∷◌, ◌++◌, length, take, drop, get_or, arith, ap, ◌∙◌, sym, refl, length-append, length-drop, drop-drop, add-one, subst}
use Rattle.std.specs.Prelude.{◌↔◌}
use Rattle.std.specs.List.{flat_map, AllByRecursion}
use Rattle.std.proofs.lemmas.List.{take-append-drop, length-take-le}
use Rattle.std.proofs.Math.Seq.{take-append_seam, drop-append_seam, drop-cons}
use Rattle.dns_name.specs.Labels.{wire}
use Rattle.dns_name.specs.Names.{IsName}
use Rattle.dns_name.specs.Wire.{BeginsWithName}
use Rattle.dns_name.proofs.Steps.{lowered_same}
use Rattle.rdata_layout.specs.declared.fields.Field.{Field}
use Rattle.rdata_layout.specs.declared.fields.Tail.{Tail}
use Rattle.rdata_layout.specs.Fields.{IsField, IsTag}
use Rattle.rdata_layout.specs.Layout.{string_octets, IsShort, AreStrings, AreFields}

-- a name in front of octets, in lower case, is the name that they begin with
pub begins : (octets rest : List ℕ) (labels : List (List ℕ)) → IsName labels
    → octets ≡ wire labels ++ rest
    → BeginsWithName octets labels (length (wire labels))
begins octets rest labels name e = record {
  raw = labels;
  rest = rest;
  name = name.raw;
  spelled = e;
  size = refl;
  same = sym (lowered_same labels name.lower);
}

-- a front of equal length is the same front
pub front_is : (octets front rest : List ℕ) (n : ℕ) → octets ≡ front ++ rest → length front ≡ n
    → take n octets ≡ front
front_is octets front rest n e h = ap (λ k. take k octets) (sym h) ∙ ap (take (length front)) e
    ∙ take-append_seam front rest

pub back_is : (octets front rest : List ℕ) (n : ℕ) → octets ≡ front ++ rest → length front ≡ n
    → drop n octets ≡ rest
back_is octets front rest n e h = ap (λ k. drop k octets) (sym h) ∙ ap (drop (length front)) e
    ∙ drop-append_seam front rest

-- the string that octets begin with
pub string_in_front : (octets : List ℕ) → 0 < length octets → get_or octets 0 0 < 256
    → get_or octets 0 0 < length octets
    → (string : List ℕ) × (rest : List ℕ) × IsShort string × (octets ≡ string_octets string ++ rest)
    × (get_or octets 0 0 + 1 ≡ length string + 1)
string_in_front [] some byte fits = absurd (omega arith)
string_in_front (n ∷ octets) some byte fits =
    let size : length (take n octets) ≡ n = length-take-le n octets (omega arith) in
    let whole : n ∷ octets ≡ length (take n octets) ∷ (take n octets ++ drop n octets) =
    cc (size, take-append-drop n octets) in
    (take n octets, drop n octets, omega (arith, size), whole, omega (arith, size))

-- a tag behind its length
pub tag_in_front : (octets tag : List ℕ) (n : ℕ)
    → (string : List ℕ) × (rest : List ℕ) × IsShort string × (octets ≡ string_octets string ++ rest)
    × (n ≡ length string + 1)
    → tag ≡ drop 1 (take n octets) → IsTag tag
    → take n octets ≡ length tag ∷ tag
tag_in_front octets tag n s e t =
    let front : take n octets ≡ string_octets s.0 =
    front_is octets (string_octets s.0) s.1 n s.3 (omega (arith, s.4)) in
    let same : tag ≡ s.0 = e ∙ ap (drop 1) front in
    front ∙ ap string_octets (sym same)

-- strings in front of one list are one, and so is what stands behind them
pub same_front : (string other rest others : List ℕ)
    → string_octets string ++ rest ≡ string_octets other ++ others
    → (string ≡ other) × (rest ≡ others)
same_front string other rest others e =
    let size : length string ≡ length other = ap (λ l. get_or l 0 0) e in
    let whole : string ++ rest ≡ other ++ others = ap (drop 1) e in (
      sym (take-append_seam string rest)
          ∙ front_is (string ++ rest) other others (length string) whole (sym size),
      sym (drop-append_seam string rest)
          ∙ back_is (string ++ rest) other others (length string) whole (sym size),
    )

-- strings are left behind the first one
behind_first : (octets string rest : List ℕ) (strings : List (List ℕ))
    → octets ≡ string_octets string ++ rest → AllByRecursion IsShort strings
    → octets ≡ flat_map string_octets strings → AreStrings rest
behind_first octets string rest [] e each spelled =
    absurd (omega (arith, ap length (sym e ∙ spelled), length-append (string_octets string) rest))
behind_first octets string rest (other ∷ strings) e each spelled =
    record {
      strings = strings;
      each = each.1;
      spelled =
          (same_front string other rest (flat_map string_octets strings) (sym e ∙ spelled)).1;
    }

-- octets that begin with a string are strings exactly where the rest is
pub string_passes : (octets string rest : List ℕ) → IsShort string
    → octets ≡ string_octets string ++ rest → AreStrings octets ↔ AreStrings rest
string_passes octets string rest short e = (
  λ a. behind_first octets string rest a.strings e a.each a.spelled,
  λ a. record {
    strings = string ∷ a.strings;
    each = (short, a.each);
    spelled = e
        ∙ ap (λ l. string_octets string ++ l) a.spelled;
  },
)

-- octets that are strings begin with one
no_front : (octets : List ℕ) (strings : List (List ℕ)) → 0 < length octets
    → octets ≡ flat_map string_octets strings
    → ((string rest : List ℕ) → octets ≡ string_octets string ++ rest → ⊥) → ⊥
no_front octets [] some e none = omega (arith, ap length e)
no_front octets (string ∷ strings) some e none = none string (flat_map string_octets strings) e

pub no_strings : (octets rest : List ℕ) (at : ℕ) → at < length octets → rest ≡ drop at octets
    → ((string behind : List ℕ) → rest ≡ string_octets string ++ behind → ⊥)
    → AreStrings (drop at octets) → ⊥
no_strings octets rest at some e none a =
    no_front rest a.strings (omega (arith, ap length e, length-drop at octets)) (e ∙ a.spelled) none

-- octets that begin with a field are this field and others exactly where the rest is the others
pub field_passes : (first : Field) (fields : List Field) (end : Tail) (octets : List ℕ) (n : ℕ)
    → n ≤ length octets → IsField first (take n octets)
    → ((piece rest : List ℕ) → IsField first piece → octets ≡ piece ++ rest → length piece ≡ n)
    → AreFields (first ∷ fields) end octets ↔ AreFields fields end (drop n octets)
field_passes first fields end octets n within is only = (
  λ a. subst (λ l. AreFields fields end l)
      (sym (back_is octets a.0 a.1 n a.3 (only a.0 a.1 a.2 a.3))) a.4,
  λ a. (take n octets, drop n octets, is, sym (take-append-drop n octets), a),
)

-- a step over a string at a place
pub string_step : (octets rest : List ℕ) (at n : ℕ) → at ≤ length octets → rest ≡ drop at octets
    → (string : List ℕ) × (behind : List ℕ) × IsShort string
    × (rest ≡ string_octets string ++ behind) × (n ≡ length string + 1)
    → AreStrings octets ↔ AreStrings (drop at octets)
    → (at + n ≤ length octets) × (AreStrings octets ↔ AreStrings (drop (at + n) octets))
string_step octets rest at n within e s same =
    let later : drop (at + n) octets ≡ s.1 = sym (drop-drop n at octets) ∙ ap (drop n) (sym e)
    ∙ back_is rest (string_octets s.0) s.1 n s.3
    (omega (arith, s.4)) in
    let passes : AreStrings (drop at octets)
    ↔ AreStrings s.1 =
    subst (λ l. AreStrings l ↔ AreStrings s.1) e (string_passes rest s.0 s.1 s.2 s.3) in
    let further : AreStrings (drop at octets) ↔ AreStrings (drop (at + n) octets) =
    subst (λ l. AreStrings (drop at octets) ↔ AreStrings l) (sym later) passes in (
      omega (
        arith,
        s.4,
        ap length s.3,
        ap length e,
        length-drop at octets,
        length-append (string_octets s.0) s.1,
      ),
      (λ a. further.0 (same.0 a), λ a. same.1 (further.1 a)),
    )

-- a step over a field at a place
pub field_step : (fields : List Field) (end : Tail) (octets rest : List ℕ) (passed at n : ℕ)
    (none : Field)
    → passed < length fields → at ≤ length octets → rest ≡ drop at octets → n ≤ length rest
    → IsField (get_or fields passed none) (take n rest)
    → ((piece behind : List ℕ) → IsField (get_or fields passed none) piece → rest ≡ piece ++ behind
    → length piece ≡ n)
    → AreFields fields end octets ↔ AreFields (drop passed fields) end (drop at octets)
    → (at + n ≤ length octets)
    × (AreFields fields end octets
    ↔ AreFields (drop (passed + 1) fields) end (drop (at + n) octets))
field_step fields end octets rest passed at n none some within e fits is only same =
    let first : drop passed fields ≡ get_or fields passed none ∷ drop (passed + 1) fields =
    drop-cons fields passed none some
    ∙ ap (λ k. get_or fields passed none ∷ drop k fields) (sym (add-one passed)) in
    let later : drop n rest ≡ drop (at + n) octets = ap (drop n) e ∙ drop-drop n at octets in
    let passes =
    field_passes (get_or fields passed none) (drop (passed + 1) fields) end rest n fits is only
    in
    let here : AreFields (drop passed fields) end (drop at octets)
    ↔ AreFields (drop (passed + 1) fields) end (drop n rest) =
    subst (λ l. AreFields (drop passed fields) end l
    ↔ AreFields (drop (passed + 1) fields) end (drop n rest)) e
    (subst (λ fs. AreFields fs end rest
    ↔ AreFields (drop (passed + 1) fields) end (drop n rest)) (sym first) passes) in
    let there =
    subst (λ l. AreFields (drop passed fields) end (drop at octets)
    ↔ AreFields (drop (passed + 1) fields) end l) later here in (
      omega (arith, ap length e, length-drop at octets),
      (λ a. there.0 (same.0 a), λ a. same.1 (there.1 a)),
    )
