-- The words of lines are identifiers, regions, places and names.
use Rattle.std.proofs.Common.{◌≡◌, ℕ, inl, inr, List, [], ◌∷◌, length, Bool, true, false, cond, ◌&&◌, ◌||◌, Option, None, Some, arith, refl, subst, sym}
use Rattle.std.specs.Prelude.{codes, is_some, nat_le}
use Rattle.std.specs.List.{AllByRecursion, list_all}
use Rattle.std.specs.Str.{bytes_eq}
use Rattle.std.proofs.lemmas.Bool.{leb-true}
use Rattle.std.proofs.lemmas.Slice.Eq.{bytes_eq-Decides}
use Rattle.line_words.specs.Words.{ident_of_text, is_location, location_of_text, plain}
use Rattle.routing.specs.Texts.{IsIdent, IsLocation, IsText, is_location_byte, is_printable}

-- ---- texts

all_plain : (is_plain : ℕ → Bool) (s : List ℕ) → list_all is_plain s ≡ true
    → AllByRecursion (λ b. is_plain b ≡ true) s
all_plain is_plain [] e = tt
all_plain is_plain (b ∷ s) e =
    go (all_plain is_plain s) (is_plain b) (list_all is_plain s) refl refl e
  where
    go : (list_all is_plain s ≡ true → AllByRecursion (λ b. is_plain b ≡ true) s)
        → (first rest : Bool) → is_plain b ≡ first → list_all is_plain s ≡ rest
        → (first && rest) ≡ true
        → AllByRecursion (λ b. is_plain b ≡ true) (b ∷ s)
    go later true true f r h = (f, later r)
    go later true false f r h = absurd cc
    go later false true f r h = absurd cc
    go later false false f r h = absurd cc

pub plain_is : (is_plain : ℕ → Bool) (most : ℕ) (s text : List ℕ)
    → plain is_plain most s ≡ Some text → IsText is_plain most text
plain_is is_plain most s text e =
    go (nat_le 1 (length s)) (nat_le (length s) most) (list_all is_plain s) refl refl refl e
  where
    go : (filled short each : Bool) → nat_le 1 (length s) ≡ filled → nat_le (length s) most ≡ short
        → list_all is_plain s ≡ each
        → cond ((filled && short) && each) (Some s) None ≡ Some text
        → IsText is_plain most text
    go true true true f g a h =
        let same : s ≡ text = cc in
        let one = leb-true 1 (length s) f in
        subst (IsText is_plain most) same (record {
          filled = omega (arith, one);
          short = leb-true (length s) most g;
          plain = all_plain is_plain s a;
        })
    go true true false f g a h = absurd cc
    go true false each f g a h = absurd cc
    go false short each f g a h = absurd cc

pub ident_is : (s text : List ℕ) → ident_of_text s ≡ Some text → IsIdent text
ident_is = plain_is is_printable 128

same_text : (is_plain : ℕ → Bool) (most : ℕ) (s text : List ℕ)
    → plain is_plain most s ≡ Some text → s ≡ text
same_text is_plain most s text e =
    go ((nat_le 1 (length s) && nat_le (length s) most) && list_all is_plain s) e
  where
    go : (t : Bool) → cond t (Some s) None ≡ Some text → s ≡ text
    go true h = cc
    go false h = absurd cc

-- ---- locations

-- a text that sets may name as a location, which is an identifier too
abbrev pub IsNamed : List ℕ → Type 0
IsNamed text = IsIdent text × IsLocation text

is_a_location : (s : List ℕ) → is_location s ≡ true → IsLocation s
is_a_location s e = go (bytes_eq s (codes "*")) (plain is_location_byte 16 s) refl refl e
  where
    go : (star : Bool) (name : Option (List ℕ)) → bytes_eq s (codes "*") ≡ star
        → plain is_location_byte 16 s ≡ name
        → (star || is_some name) ≡ true
        → IsLocation s
    go true name b p h = inr ((bytes_eq-Decides s (codes "*")).0 b)
    go false (Some text) b p h =
        let same = same_text is_location_byte 16 s text p in
        inl (subst (IsText is_location_byte 16) (sym same) (plain_is is_location_byte 16 s text p))
    go false None b p h = absurd cc

pub location_is : (s text : List ℕ) → location_of_text s ≡ Some text → IsNamed text
location_is s text e = go (is_location s) refl e
  where
    go : (t : Bool) → is_location s ≡ t → cond t (ident_of_text s) None ≡ Some text → IsNamed text
    go true b h =
        (ident_is s text h, subst IsLocation (same_text is_printable 128 s text h) (is_a_location s b))
    go false b h = absurd cc
