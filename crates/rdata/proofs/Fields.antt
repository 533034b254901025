-- The fields of a text from a place on.
use Rattle.std.proofs.Common.{◌≡◌, ℕ, zero, suc, ◌+◌, ◌≤◌, List, [], ◌∷◌, length, drop, arith, ap, sym, ◌∙◌, refl, Option, None, Some, length-drop, subst}
use Rattle.field_text.specs.FieldRecordOfValueText.{Field}
use Rattle.field_text.specs.FieldsOfValueText.{next_field}
use Rattle.field_text.specs.LawsOfValueText.{FieldsGoOn}
use Rattle.rdata.specs.TextFields.{AreTheFields}

-- a text's fields from a place on, where the next one is this
pub record Begins (text : List ℕ) (field : Field) (fields : List Field) : Type 0 where
  pub rest : List Field
  pub whole : fields ≡ field ∷ rest
  pub are : AreTheFields text field.end rest

abbrev field_of : Option Field → Field → Field
field_of None other = other
field_of (Some field) other = field

pub begins : (text : List ℕ) (at : ℕ) (field : Field) (fields : List Field)
    → next_field at (drop at text) ≡ Some field → AreTheFields text at fields
    → Begins text field fields
begins text at field [] next are = absurd cc
begins text at field (first ∷ rest) next are =
    let same : first ≡ field = ap (λ o. field_of o field) (sym are.0 ∙ next) in
    record {
      rest = rest;
      whole = ap (λ f. f ∷ rest) same;
      are =
          subst (λ f. AreTheFields text f.end rest) same are.1;
    }

pub none_left : (text : List ℕ) (at : ℕ) (fields : List Field) → next_field at (drop at text) ≡ None
    → AreTheFields text at fields → fields ≡ []
none_left text at [] next are = refl
none_left text at (first ∷ rest) next are = absurd cc

-- every text has its fields
pub the_fields : FieldsGoOn → (text : List ℕ) (n at : ℕ) → length text ≤ at + n
    → (fields : List Field) × AreTheFields text at fields
the_fields go text zero at h = ([], go_nil (drop at text) refl)
  where
    go_nil : (rest : List ℕ) → drop at text ≡ rest → next_field at (drop at text) ≡ None
    go_nil [] e = ap (next_field at) e
    go_nil (b ∷ rest) e = absurd (omega (arith, ap length e, length-drop at text))
the_fields go text (suc n) at h = next (the_fields go text n) (next_field at (drop at text)) refl
  where
    next : ((later : ℕ) → length text ≤ later + n
        → (fields : List Field) × AreTheFields text later fields) → (o : Option Field)
        → next_field at (drop at text) ≡ o → (fields : List Field) × AreTheFields text at fields
    next more None e = ([], e)
    next more (Some field) e =
        let g = go at (drop at text) field e in
        let rest = more field.end (omega (arith, h, g.0, g.1)) in
        (field ∷ rest.0, (e, rest.1))
