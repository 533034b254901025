-- The fields of a row of a place.
use Rattle.std.proofs.Common.{◌≡◌, ◌+◌, ◌&&◌, ◌==◌, ℕ, Bool, true, false, Option, Some, None, List, [], ◌∷◌, take, drop, refl, sym, ap, ◌∙◌, if◌then◌else◌}
use Rattle.std.specs.Prelude.{codes}
use Rattle.std.specs.List.{list_all}
use Rattle.std.specs.Str.{bytes_eq}
use Rattle.std.proofs.lemmas.Bool.{and_right, eqb-true}
use Rattle.std.proofs.lemmas.Slice.Eq.{bytes_eq-Decides}
use Rattle.geo_latency.proofs.Cuts.{first_part, one_part}
use Rattle.geo_latency.specs.Lines.{parts, place_fields, place_row}
use Rattle.geo_latency.specs.Rows.{behind_continent, continent_of_text, country_of_text, in_continent, located, location_of_text, subdivision_of_text}
use Rattle.geo_latency.specs.declared.lines.Line.TheVariants.{Bad}
use Rattle.prefix_text.specs.PrefixesOfIpTable.{Prefix}
use Rattle.prefix_text.specs.Marks.{place_from, place_of}
use Rattle.prefix_text.specs.Prefixes.{prefix_of_text}
use Rattle.routing.specs.declared.policies.Continent.{Continent}
use Rattle.routing.specs.Texts.{is_subdivision_byte}

-- a byte that passes no test is in none of which all bytes pass
spaced : (b k at : ℕ) (rest : List ℕ) → Some at ≡ place_from 0x20 k (b ∷ rest)
    → (Some at ≡ place_from 0x20 (k + 1) rest → list_all is_subdivision_byte rest ≡ false)
    → list_all is_subdivision_byte (b ∷ rest) ≡ false
spaced b k at rest e known = go (b == 0x20) refl where
  go : (v : Bool) → b == 0x20 ≡ v → list_all is_subdivision_byte (b ∷ rest) ≡ false
  go true is = rw (eqb-true b 0x20 is) refl
  go false is =
      and_right (is_subdivision_byte b) (list_all is_subdivision_byte rest)
      (known (e ∙ ap (λ v. if v then Some k else place_from 0x20 (k + 1) rest) is))

has_space : (k at : ℕ) (text : List ℕ) → Some at ≡ place_from 0x20 k text
    → list_all is_subdivision_byte text ≡ false
has_space k at [] e = absurd (let no : ⊥ = cc in no)
has_space k at (b ∷ rest) e = spaced b k at rest e (has_space (k + 1) at rest)

no_subdivision : (at : ℕ) (text : List ℕ) → Some at ≡ place_of 0x20 text
    → subdivision_of_text text ≡ None
no_subdivision at text e = go (bytes_eq text (codes "-")) refl where
  go : (v : Bool) → bytes_eq text (codes "-") ≡ v → subdivision_of_text text ≡ None
  go true is =
      let same : text ≡ codes "-" = (bytes_eq-Decides text (codes "-")).0 is in
      let none : Some at ≡ None = e ∙ ap (place_of 0x20) same in
      absurd (let no : ⊥ = cc in no)
  go false is = rw (is, has_space 0 at text e) (nothing _) where
    nothing : (v : Bool) → (if v && false then Some (Some text) else None) ≡ None
    nothing true = refl
    nothing false = refl

not_located : (continent : Option Continent) (country : Option (Option (List ℕ)))
    → located continent country None ≡ None
not_located None country = refl
not_located (Some continent) None = refl
not_located (Some continent) (Some country) = refl

no_row : (prefix : Option Prefix) → place_row prefix None ≡ Bad
no_row None = refl
no_row (Some prefix) = refl

module _ (prefix : List ℕ) where
  third : (continent country text : List ℕ) (o : Option ℕ) → o ≡ place_of 0x20 text
      → place_fields (prefix ∷ continent ∷ country ∷ parts 0x20 text)
      ≡ place_row (prefix_of_text prefix)
      (located (continent_of_text continent) (country_of_text country) (subdivision_of_text text))
  third continent country text None e =
      ap (λ fs. place_fields (prefix ∷ continent ∷ country ∷ fs)) (one_part 0x20 text e)
  third continent country text (Some at) e =
      ap (λ fs. place_fields (prefix ∷ continent ∷ country ∷ fs)) (first_part 0x20 at text e)
      ∙ sym (ap (λ s. place_row (prefix_of_text prefix)
      (located (continent_of_text continent) (country_of_text country) s)) (no_subdivision at text e)
      ∙ ap (place_row (prefix_of_text prefix))
      (not_located (continent_of_text continent) (country_of_text country))
      ∙ no_row (prefix_of_text prefix))

  second : (continent text : List ℕ) (o : Option ℕ) → o ≡ place_of 0x20 text
      → place_fields (prefix ∷ continent ∷ parts 0x20 text)
      ≡ place_row (prefix_of_text prefix) (in_continent (continent_of_text continent) text o)
  second continent text None e =
      ap (λ fs. place_fields (prefix ∷ continent ∷ fs)) (one_part 0x20 text e)
      ∙ sym (no_row (prefix_of_text prefix))
  second continent text (Some at) e =
      ap (λ fs. place_fields (prefix ∷ continent ∷ fs)) (first_part 0x20 at text e)
      ∙ third continent (take at text) (drop (at + 1) text) _ refl

  first : (text : List ℕ) (o : Option ℕ) → o ≡ place_of 0x20 text
      → place_fields (prefix ∷ parts 0x20 text)
      ≡ place_row (prefix_of_text prefix) (behind_continent text o)
  first text None e =
      ap (λ fs. place_fields (prefix ∷ fs)) (one_part 0x20 text e) ∙ sym (no_row (prefix_of_text prefix))
  first text (Some at) e =
      ap (λ fs. place_fields (prefix ∷ fs)) (first_part 0x20 at text e)
      ∙ second (take at text) (drop (at + 1) text) _ refl

  -- the fields of a place are its text, cut at the spaces
  pub placed : (text : List ℕ) → place_fields (prefix ∷ parts 0x20 text)
      ≡ place_row (prefix_of_text prefix) (location_of_text text)
  placed text = first text (place_of 0x20 text) refl
