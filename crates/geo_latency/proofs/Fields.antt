-- Fields that are no subdivision, or no region.
use Rattle.std.proofs.Common.{◌≡◌, ◌&&◌, ℕ, Bool, true, false, List, [], ◌∷◌, length, None, Some, refl, sym}
use Rattle.std.specs.Prelude.{nat_lt, nat_le, codes}
use Rattle.std.specs.List.{AllByRecursion, list_all}
use Rattle.std.specs.Str.{bytes_eq}
use Rattle.std.proofs.lemmas.Bool.{le-leb, leb-true, lt-ltb, ltb-true}
use Rattle.geo_latency.specs.Rows.{is_region, is_subdivision, region_of_text, subdivision_of_text}
use Rattle.routing.specs.Texts.{IsRegion, IsSubdivision, IsText, is_region_byte, is_subdivision_byte}

both : (a b : Bool) → a && b ≡ true → (a ≡ true) × (b ≡ true)
both true true e = (refl, refl)
both true false e = absurd (let no : ⊥ = cc in no)
both false b e = absurd (let no : ⊥ = cc in no)

all_are : (p : ℕ → Bool) (text : List ℕ) → list_all p text ≡ true
    → AllByRecursion (λ b. p b ≡ true) text
all_are p [] e = tt
all_are p (b ∷ text) e = let r = both (p b) (list_all p text) e in (r.0, all_are p text (r.1))

text_is : (p : ℕ → Bool) (most : ℕ) (text : List ℕ)
    → nat_lt 0 (length text) && nat_le (length text) most && list_all p text ≡ true
    → IsText p most text
text_is p most text e =
    let r = both (nat_lt 0 (length text) && nat_le (length text) most) (list_all p text) e in
    let s = both (nat_lt 0 (length text)) (nat_le (length text) most) (r.0) in
    record {
      filled = ltb-true 0 (length text) (s.0);
      short = leb-true (length text) most (s.1);
      plain = all_are p text (r.1);
    }

pub no_part : (text : List ℕ) → false ≡ bytes_eq text (codes "-") → (IsSubdivision text → ⊥)
    → None ≡ subdivision_of_text text
no_part text no_dash never = go (is_subdivision text) refl where
  go : (v : Bool) → is_subdivision text ≡ v → None ≡ subdivision_of_text text
  go true e = absurd (never (text_is is_subdivision_byte 3 text e))
  go false e = rw (sym no_dash, e) refl

pub no_region : (text : List ℕ) → (IsRegion text → ⊥) → None ≡ region_of_text text
no_region text never = go (is_region text) refl where
  go : (v : Bool) → is_region text ≡ v → None ≡ region_of_text text
  go true e = absurd (never (text_is is_region_byte 32 text e))
  go false e = rw e refl

all_pass : (p : ℕ → Bool) (text : List ℕ) → AllByRecursion (λ b. p b ≡ true) text
    → list_all p text ≡ true
all_pass p [] is = refl
all_pass p (b ∷ text) is = rw (is.0) (all_pass p text (is.1))

pub a_region : (text : List ℕ) → IsRegion text → Some text ≡ region_of_text text
a_region text is =
    rw (
      lt-ltb 0 (length text) is.filled,
      le-leb (length text) 32 is.short,
      all_pass is_region_byte text is.plain,
    ) refl
