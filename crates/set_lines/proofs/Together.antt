-- Values and the sum of their characters, one more at a time; and texts that are too long.
use Rattle.std.proofs.Common.{◌≡◌, ℕ, ◌+◌, ◌<◌, List, [], ◌∷◌, ◌++◌, length, map, Err, ap, refl, sym, ◌∙◌, arith, length-append, ◌≤◌, append-nil}
use Rattle.std.specs.List.{sum_by}
use Rattle.std.proofs.lemmas.List.{map-append}
use Rattle.std.proofs.lemmas.List.Sums.{sum_by-append}
use Rattle.std.specs.Prelude.{if◌then◌else◌}
use Rattle.std.proofs.lemmas.Bool.{lt-ltb}
use Rattle.rdata_layout.specs.declared.types.RType.{RType}
use Rattle.rdata_layout.specs.Layout.{fields_of, tail_of}
use Rattle.batch_model.specs.ValueOfText.{value_of_text, fields_give, fields_from}
use Rattle.batch_model.specs.ValueFaultRecord.TheVariants.{TooLong}
use Rattle.line_reading.specs.Reading.{bad}
use Rattle.line_faults.specs.declared.member.Member.{Member}
use Rattle.line_faults.specs.declared.fault.LineReason.TheVariants.{BadValue}
use Rattle.batch_model.specs.Datum.{Datum}
use Rattle.set_lines.specs.Values.{value_of, or_bad_value, together}
use Rattle.set_lines.specs.declared.values.Counted.{Counted}
use Rattle.set_lines.specs.declared.values.Valued.{Valued}

pub map_push : {A B : Type 0} (f : A → B) (xs : List A) (x : A)
    → map f (xs ++ x ∷ []) ≡ map f xs ++ f x ∷ []
map_push f xs x = map-append f xs (x ∷ [])

pub sum_push : {A : Type 0} (f : A → ℕ) (xs : List A) (x : A)
    → sum_by f (xs ++ x ∷ []) ≡ sum_by f xs + f x
sum_push f xs x = let e = sum_by-append f xs (x ∷ []) in omega (arith, e)

-- one more of those that are taken is within all
pub one_more : {A : Type 0} (taken rest all : List A) (x : A) → taken ++ (x ∷ rest) ≡ all
    → length taken + 1 ≤ length all
one_more taken rest all x e =
    omega (arith, length-append taken (x ∷ rest), ap length e)

none_left : {A : Type 0} (xs : List A) → length xs ≡ 0 → xs ≡ []
none_left [] e = refl
none_left (x ∷ xs) e = absurd (omega (arith, e))

-- all were taken
pub all_together : (values : List Datum) (n : ℕ) (taken rest all : List Counted)
    → values ≡ map (λ (c : Counted). c.datum) taken
    → n ≡ sum_by (λ (c : Counted). c.characters) taken
    → taken ++ rest ≡ all → length rest ≡ 0
    → ◌≡◌ {A = Valued} (record { values = values; characters = n }) (together all)
all_together values n taken rest all v s e none =
    let is : taken ≡ all =
    sym (append-nil taken) ∙ ap (λ r. taken ++ r) (sym (none_left rest none)) ∙ e in
    ap (λ vs. record { values = vs; characters = n })
    (v ∙ ap (map (λ (c : Counted). c.datum)) is)
    ∙ ap (λ k. record { values = map (λ (c : Counted). c.datum) all; characters = k })
    (s ∙ ap (sum_by (λ (c : Counted). c.characters)) is)

long : (rtype : RType) (text : List ℕ) → 4000 < length text → value_of_text rtype text ≡ Err TooLong
unfolding value_of_text
long rtype text h =
    ap (λ t. if t then Err TooLong
    else fields_give text (fields_of rtype) (tail_of rtype) (fields_from 0 0 text))
    (lt-ltb 4000 (length text) h)

pub too_long : (member : Member) (rtype : RType) (text : List ℕ) → 4000 < length text
    → value_of member rtype text ≡ bad BadValue member
too_long member rtype text h = ap (or_bad_value member rtype (length text)) (long rtype text h)
