-- Texts without a field.
use Rattle.std.proofs.Common.{◌≡◌, ℕ, ◌+◌, List, [], ◌∷◌, ap, ◌∙◌, refl, Bool, true, false, cond, None, Some}
use Rattle.std.specs.Prelude.{All}
use Rattle.std.proofs.lemmas.List.Elements.{All-nil, All-cons, All-head, All-tail}
use Rattle.value_text.specs.Fields.{is_blank, field_len, next_field}

abbrev IsBlank : ℕ → Type 0
IsBlank b = is_blank b ≡ true

pub no_field : (at : ℕ) (text : List ℕ) → All IsBlank text → next_field at text ≡ None
no_field at [] h = refl
no_field at (b ∷ rest) h =
    ap (λ t. cond t (next_field (at + 1) rest)
    (Some (record { start = at; end = at + field_len (b ∷ rest) }))) (All-head IsBlank b rest h)
    ∙ no_field (at + 1) rest (All-tail IsBlank b rest h)

pub all_blank : (at : ℕ) (text : List ℕ) → next_field at text ≡ None → All IsBlank text
all_blank at [] h = All-nil IsBlank
all_blank at (b ∷ rest) h = at_byte (is_blank b) refl h (all_blank (at + 1) rest)
  where
    at_byte : (t : Bool) → is_blank b ≡ t
        → cond t (next_field (at + 1) rest)
        (Some (record { start = at; end = at + field_len (b ∷ rest) })) ≡ None
        → (next_field (at + 1) rest ≡ None → All IsBlank rest) → All IsBlank (b ∷ rest)
    at_byte true e g more = All-cons IsBlank b rest e (more g)
    at_byte false e g more = absurd (cc)
