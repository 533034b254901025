-- The texts of a value's fields, with a space between.
use Rattle.std.proofs.Common.{◌≡◌, ℕ, zero, suc, ◌/◌, ◌%◌, ◌<◌, List, [], ◌∷◌, ◌++◌, length, take, arith, ap, ◌∙◌, sym, refl}
use Rattle.std.proofs.Common.{Bool, false, map, append-nil, append_assoc, length-append}
use Rattle.std.specs.Prelude.{◌==◌}
use Rattle.std.specs.List.{flat_map}
use Rattle.std.specs.Fmt.{digits, decimal, digits_onto, digit_glyph}
use Rattle.std.proofs.lemmas.Bool.{cond_both}
use Rattle.dns_name.specs.Labels.{wire}
use Rattle.dns_name.specs.Stored.{labels_of}
use Rattle.dns_name.specs.Written as names
use Rattle.value_text.specs.Strings.{string_text}
use Rattle.rdata.specs.RTypeRecord.{RType}
use Rattle.rdata.specs.RTypeRecord.TheVariants.{A, Ns, Cname, Soa, Ptr, Mx, Txt, Aaaa, Srv, Spf, Caa}
use Rattle.rdata.specs.Layout.{fields_of, tail_of}
use Rattle.rdata.specs.Written.{strings_of, field_texts, joined_from, text_of}
use Rattle.text_meanings.specs.Names.{between}

-- behind a text that isn't empty
joined_behind : (b : ℕ) (before : List ℕ) (texts : List (List ℕ))
    → joined_from (b ∷ before) texts ≡ (b ∷ before) ++ flat_map (λ next. 0x20 ∷ next) texts
joined_behind b before [] = sym (append-nil (b ∷ before))
joined_behind b before (text ∷ texts) =
    let later = flat_map (λ next. 0x20 ∷ next) texts in
    joined_behind b ((before ++ 0x20 ∷ []) ++ text) texts
    ∙ ap (λ t. b ∷ t) (append_assoc (before ++ 0x20 ∷ []) text later
    ∙ append_assoc before (0x20 ∷ []) (text ++ later))

-- The first of texts isn't empty, or is the only one.
abbrev BeginsFilled : List (List ℕ) → Type 0
BeginsFilled [] = Unit {0}
BeginsFilled (text ∷ []) = Unit {0}
BeginsFilled (text ∷ next ∷ texts) = 0 < length text

joined : (texts : List (List ℕ)) → BeginsFilled texts → joined_from [] texts ≡ between 0x20 texts
joined [] h = refl
joined (text ∷ []) h = sym (append-nil text)
joined ([] ∷ next ∷ texts) h = absurd (omega arith)
joined ((b ∷ text) ∷ next ∷ texts) h = joined_behind b text (next ∷ texts)

-- digits are never none
onto_some : (k base : ℕ) (upper : Bool) (n : ℕ) (acc : List ℕ) → 0 < length acc
    → 0 < length (digits_onto k base upper n acc)
onto_some zero base upper n acc h = h
onto_some (suc k) base upper n acc h =
    cond_both (n / base == 0) (digit_glyph upper (n % base) ∷ acc)
    (digits_onto k base upper (n / base) (digit_glyph upper (n % base) ∷ acc))
    (λ t. 0 < length t) (λ e. omega arith)
    (λ e. onto_some k base upper (n / base) (digit_glyph upper (n % base) ∷ acc) (omega arith))

some_digits : (k base : ℕ) (upper : Bool) (n : ℕ)
    → 0 < length (digits_onto (suc k) base upper n [])
some_digits k base upper n =
    cond_both (n / base == 0) (digit_glyph upper (n % base) ∷ [])
    (digits_onto k base upper (n / base) (digit_glyph upper (n % base) ∷ []))
    (λ t. 0 < length t) (λ e. omega arith)
    (λ e. onto_some k base upper (n / base) (digit_glyph upper (n % base) ∷ []) (omega arith))

some_decimal : (n : ℕ) → 0 < length (decimal n)
unfolding digits
some_decimal n = some_digits 63 10 false n

some_name : (labels : List (List ℕ)) → 0 < length (names.text_of labels)
some_name [] = omega arith
some_name (label ∷ labels) =
    omega (
      arith,
      length-append (names.text_of_label label) (flat_map names.text_of_label labels),
      length-append (flat_map names.text_of_octet label) (0x2E ∷ []),
    )

filled_strings : (strings : List (List ℕ)) → BeginsFilled (map string_text strings)
filled_strings [] = tt
filled_strings (string ∷ []) = tt
filled_strings (string ∷ next ∷ strings) = omega arith

filled : (rtype : RType) (octets : List ℕ)
    → BeginsFilled (field_texts (fields_of rtype) (tail_of rtype) octets)
filled A octets = tt
filled Ns octets = tt
filled Cname octets = tt
filled Soa octets = some_name (labels_of (take (length (wire (labels_of octets))) octets))
filled Ptr octets = tt
filled Mx octets = some_decimal _
filled Txt octets = filled_strings (strings_of octets)
filled Aaaa octets = tt
filled Srv octets = some_decimal _
filled Spf octets = filled_strings (strings_of octets)
filled Caa octets = some_decimal _

-- The written text of a value is its fields' texts with a space between.
pub text_joined : (rtype : RType) (octets : List ℕ)
    → text_of rtype octets ≡ between 0x20 (field_texts (fields_of rtype) (tail_of rtype) octets)
text_joined rtype octets =
    joined (field_texts (fields_of rtype) (tail_of rtype) octets) (filled rtype octets)
