-- A text at its first separator.
use Rattle.std.proofs.Common.{◌≡◌, ◌+◌, ◌==◌, ℕ, suc, Bool, true, false, Option, Some, None, List, [], ◌∷◌, take, drop, arith, refl, sym, ap, ◌∙◌, if◌then◌else◌, add-one, subst}
use Rattle.prefix_text.specs.AddressOfText.{pieces}
use Rattle.geo_latency.specs.Lines.{parts}
use Rattle.prefix_text.specs.Marks.{place_from, place_of}

abbrev joined : (v : Bool) → ℕ → List ℕ × List (List ℕ) → List ℕ × List (List ℕ)
joined v b later = if v then ([], later.0 ∷ later.1) else (b ∷ later.0, later.1)

step_none : (v : Bool) (b k : ℕ) (rest : List ℕ) (o : Option ℕ) (later : List ℕ × List (List ℕ))
    → (None ≡ o → later ≡ (rest, [])) → None ≡ (if v then Some k else o)
    → joined v b later ≡ (b ∷ rest, [])
step_none true b k rest o later known e = absurd (let no : ⊥ = cc in no)
step_none false b k rest o later known e = ap (λ p. (b ∷ p.0, p.1)) (known e)

no_mark : (separator k : ℕ) (text : List ℕ) → None ≡ place_from separator k text
    → pieces separator text ≡ (text, [])
no_mark separator k [] e = refl
no_mark separator k (b ∷ rest) e =
    step_none (b == separator) b k rest (place_from separator (k + 1) rest) (pieces separator rest)
    (no_mark separator (k + 1) rest) e

-- the pieces of a text with its first separator at a place
record Cut (separator k p : ℕ) (text : List ℕ) (found : List ℕ × List (List ℕ)) : Type 0 where
  at : ℕ
  is : p ≡ k + at
  cut : found ≡ (take at text, parts separator (drop (suc at) text))

step_some : (v : Bool) (separator b k p : ℕ) (rest : List ℕ) (o : Option ℕ)
    → (Some p ≡ o → Cut separator (k + 1) p rest (pieces separator rest))
    → Some p ≡ (if v then Some k else o) → Cut separator k p (b ∷ rest) (joined v b (pieces separator rest))
step_some true separator b k p rest o known e = record {
  at = 0;
  is = let same : p ≡ k = cc in omega arith;
  cut = refl;
}
step_some false separator b k p rest o known e =
    let later = known e in
    record {
      at = suc later.at;
      is = omega (arith, later.is);
      cut = ap (λ q. (b ∷ q.0, q.1)) later.cut;
    }

a_mark : (separator k p : ℕ) (text : List ℕ) → Some p ≡ place_from separator k text
    → Cut separator k p text (pieces separator text)
a_mark separator k p [] e = absurd (let no : ⊥ = cc in no)
a_mark separator k p (b ∷ rest) e =
    step_some (b == separator) separator b k p rest (place_from separator (k + 1) rest)
    (a_mark separator (k + 1) p rest) e

-- a text without the separator is one piece
pub one_part : (separator : ℕ) (text : List ℕ) → None ≡ place_of separator text → parts separator text ≡ text ∷ []
one_part separator text e = ap (λ p. p.0 ∷ p.1) (no_mark separator 0 text e)

-- the piece before the first separator, and those behind it
pub first_part : (separator at : ℕ) (text : List ℕ) → Some at ≡ place_of separator text
    → parts separator text ≡ take at text ∷ parts separator (drop (at + 1) text)
first_part separator at text e =
    let c = a_mark separator 0 at text e in
    let same : c.at ≡ at = omega (arith, c.is) in
    ap (λ p. p.0 ∷ p.1) c.cut
    ∙ subst (λ n. take c.at text ∷ parts separator (drop (suc c.at) text)
    ≡ take n text ∷ parts separator (drop (n + 1) text)) same
    (ap (λ n. take c.at text ∷ parts separator (drop n text)) (sym (add-one c.at)))
