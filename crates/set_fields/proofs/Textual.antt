-- Letters and texts.
use Rattle.std.proofs.Common.{◌≡◌, inl, inr, ℕ, suc, ◌+◌, ◌≤◌, ap, ◌∙◌, Bool, true, false, List, [], ◌∷◌}
use Rattle.std.proofs.Common.{◌++◌, length, drop, arith, sym, refl, subst, cond, Result, Ok, Err}
use Rattle.std.specs.Prelude.{◌==◌, ◌&&◌}
use Rattle.std.specs.List.{AllByRecursion}
use Rattle.std.proofs.Math.Bool.{and-false}
use Rattle.std.proofs.lemmas.Bool.{true_from_ne_false, eqb-true, and_from, and_parts}
use Rattle.octet_reading.specs.Readers.{text_at}
use Rattle.octet_reading.specs.Rules.{IsReadAs}
use Rattle.octet_reading.proofs.Base.{read_as}
use Rattle.octet_reading.proofs.Digits.{ok_is}
use Rattle.octet_reading.proofs.Found.{IsBytes}
use Rattle.octet_reading.specs.NamesOfDnsName.{AreOctets}
use Rattle.octet_reading.proofs.Plain.{text_read}
use Rattle.octet_reading.proofs.Rules.{alike}
use Rattle.octet_reading.proofs.Within.{Within, ok_within, err_within, cond_within, drop_within}
use Rattle.set_octets.specs.Texts.{IsText, IsIdent, IsLocation, is_printable, is_location_byte}
use Rattle.set_octets.specs.Octets.{text_octets, is_capital, AreCapitals}
use Rattle.set_fields.specs.Laws.{IsCountry}
use Rattle.set_fields.specs.Texts.{begins_with_star, location_at, country_at}

-- a text of an alphabet
pub texts_read : (is_plain : ℕ → Bool) (most : ℕ)
    → IsReadAs (IsText is_plain most) text_octets (text_at is_plain most)
texts_read is_plain most = alike (text_read is_plain most)
    (λ text is. (record { filled = is.filled; short = is.short; plain = is.plain }, refl))
    (λ text is. record { filled = is.filled; short = is.short; plain = is.plain })

-- a text that was read is one
pub are_octets : (octets : List ℕ) → IsBytes octets → AreOctets octets
are_octets [] bytes = tt
are_octets (b ∷ octets) bytes = (bytes 0, are_octets octets (λ i. bytes (suc i)))

pub text_stands : (is_plain : ℕ → Bool) (most : ℕ) (octets text rest : List ℕ) → IsBytes octets
    → text_at is_plain most octets ≡ Ok (text, rest)
    → IsText is_plain most text
text_stands is_plain most octets text rest bytes e =
    ((texts_read is_plain most).stands octets text rest (are_octets octets bytes) e).1

-- a test that lets through
kept : {A : Type 0} (b : Bool) (left : ℕ) (x y : A) → cond b (Ok x) (Err left) ≡ Ok y
    → (b ≡ true) × (x ≡ y)
kept true left x y e = (refl, ok_is x y e)
kept false left x y e = absurd cc

both_fail : {A : Type 0} (b : Bool) (left other : ℕ) (x : A) → cond b (Err left) (Err other) ≡ Ok x
    → ⊥
both_fail true left other x e = cc
both_fail false left other x e = cc

country_stands : (octets : List ℕ) (x : List ℕ × List ℕ) → country_at octets ≡ Ok x
    → (octets ≡ x.0 ++ x.1) × IsCountry x.0
unfolding country_at
country_stands [] x e = absurd cc
country_stands (a ∷ []) x e = absurd (both_fail (is_capital a) 0 1 x e)
country_stands (a ∷ b ∷ rest) x e =
    let k = kept (is_capital a && is_capital b) (length rest + 2) (a ∷ b ∷ [], rest) x e in
    let p = and_parts (is_capital a) (is_capital b) k.0 in
    subst (λ (y : List ℕ × List ℕ). (a ∷ b ∷ rest ≡ y.0 ++ y.1)
    × IsCountry y.0) k.1 (refl, record { two = refl; capital = (p.0, (p.1, tt)) })

country_from : (letters rest : List ℕ) → length letters ≡ 2 → AreCapitals letters
    → country_at (letters ++ rest) ≡ Ok (letters, rest)
unfolding country_at
country_from [] rest two are = absurd (omega (arith, two))
country_from (a ∷ []) rest two are = absurd (omega (arith, two))
country_from (a ∷ b ∷ []) rest two are = let h =
    and_from (is_capital a) (is_capital b) are.0 are.1.0 in rw h refl
country_from (a ∷ b ∷ d ∷ letters) rest two are = absurd (omega (arith, two))

country_again : (letters rest : List ℕ) → IsCountry letters
    → country_at (letters ++ rest) ≡ Ok (letters, rest)
country_again letters rest is = country_from letters rest is.two is.capital

country_within : (octets : List ℕ) → Within (length octets) (country_at octets)
unfolding country_at
country_within [] = err_within (omega arith)
country_within (a ∷ []) = cond_within _ _ _ (err_within (omega arith)) (err_within (omega arith))
country_within (a ∷ b ∷ rest) =
    cond_within _ _ _ (ok_within (omega arith)) (err_within (omega arith))

pub country_read : IsReadAs IsCountry (λ letters. letters) country_at
country_read = read_as country_again (λ octets x bytes e. country_stands octets x e) country_within

-- the text `*` behind its length
star_is : (octets : List ℕ) → begins_with_star octets ≡ true → octets ≡ 1 ∷ 0x2A ∷ drop 2 octets
star_is [] e = absurd cc
star_is (n ∷ []) e = absurd cc
star_is (n ∷ b ∷ rest) e =
    let p = and_parts (n == 1) (b == 0x2A) e in
    let one = eqb-true n 1 p.0 in
    let star = eqb-true b 0x2A p.1 in
    cc

-- no name begins as that text does
no_star : (text rest : List ℕ) → IsText is_location_byte 16 text
    → begins_with_star (text_octets text ++ rest) ≡ false
no_star [] rest is = absurd (omega (arith, is.filled))
no_star (b ∷ text) rest is = by_byte (b == 0x2A) refl
  where
    by_byte : (t : Bool) → (b == 0x2A) ≡ t
        → begins_with_star (text_octets (b ∷ text) ++ rest) ≡ false
    by_byte false e = rw e (and-false (length (b ∷ text) == 1))
    by_byte true e =
        let star = eqb-true b 0x2A e in
        let plain : is_location_byte 0x2A ≡ true =
        subst (λ k. is_location_byte k ≡ true) star is.plain.0 in
        absurd cc

-- each name is an identifier
location_printable : (b : ℕ) → is_location_byte b ≡ true → is_printable b ≡ true
location_printable b e =
    true_from_ne_false (is_printable b) (λ h. let k : ⊥ = grind (arith, h, e) in k)

all_printable : (text : List ℕ) → AllByRecursion (λ b. is_location_byte b ≡ true) text
    → AllByRecursion (λ b. is_printable b ≡ true) text
all_printable [] are = tt
all_printable (b ∷ text) are = (location_printable b are.0, all_printable text are.1)

pub location_ident : (text : List ℕ) → IsLocation text → IsIdent text
location_ident text (inl is) =
    record {
      filled = is.filled;
      short = omega (arith, is.short);
      plain =
          all_printable text is.plain;
    }
location_ident text (inr e) =
    rw e (record { filled = omega arith; short = omega arith; plain = (refl, tt) })

location_names : IsReadAs (IsText is_location_byte 16) text_octets (text_at is_location_byte 16)
location_names = texts_read is_location_byte 16

location_again : (text rest : List ℕ) → IsLocation text
    → location_at (text_octets text ++ rest) ≡ Ok (text, rest)
unfolding location_at
location_again text rest (inl is) = rw (no_star text rest is) (location_names.again text rest is)
location_again text rest (inr e) =
    subst (λ t. location_at (text_octets t ++ rest) ≡ Ok (t, rest)) (sym e) refl

-- the text `*`, and what stands behind it
abbrev star_of : List ℕ → Result (List ℕ × List ℕ) ℕ
star_of octets = Ok (0x2A ∷ [], drop 2 octets)

-- either the one text or the others
either : {A : Type 0} (b : Bool) (x y : A) (P : A → Type 0) → (b ≡ true → P x) → (b ≡ false → P y)
    → P (cond b x y)
either true x y P h k = h refl
either false x y P h k = k refl

star_left : (octets text rest : List ℕ) → star_of octets ≡ Ok (text, rest)
    → (0x2A ∷ [] ≡ text) × (drop 2 octets ≡ rest)
star_left octets text rest e =
    let same = ok_is (0x2A ∷ [], drop 2 octets) (text, rest) e in
    (ap (λ (p : List ℕ × List ℕ). p.0) same, ap (λ (p : List ℕ × List ℕ). p.1) same)

pub location_read : IsReadAs IsLocation text_octets location_at
unfolding location_at
location_read = record {
  again = location_again;
  stands = λ octets text rest are e.
      either (begins_with_star octets) (star_of octets) (text_at is_location_byte 16 octets)
      (λ r. r ≡ Ok (text, rest) → (octets ≡ text_octets text ++ rest) × IsLocation text)
      (λ star f.
      let s = star_left octets text rest f in (
        star_is octets star ∙ ap (λ t. 1 ∷ 0x2A ∷ t) s.1
            ∙ ap (λ t. text_octets t ++ rest) s.0,
        inr (sym s.0),
      ))
      (λ star f. let s = location_names.stands octets text rest are f in (s.0, inl s.1)) e;
  left = λ octets text rest e.
      either (begins_with_star octets) (star_of octets) (text_at is_location_byte 16 octets)
      (λ r. r ≡ Ok (text, rest) → length rest ≤ length octets)
      (λ star f. omega (arith, ap length (star_left octets text rest f).1, drop_within 2 octets))
      (λ star f. location_names.left octets text rest f) e;
  fault = λ octets left e.
      either (begins_with_star octets) (star_of octets) (text_at is_location_byte 16 octets)
      (λ r. r ≡ Err left → left ≤ length octets)
      (λ star f. absurd (let k : star_of octets ≡ Err left = f in cc))
      (λ star f. location_names.fault octets left f) e;
}

pub location_stands : (octets text rest : List ℕ) → IsBytes octets
    → location_at octets ≡ Ok (text, rest) → IsIdent text
location_stands octets text rest bytes e =
    location_ident text (location_read.stands octets text rest (are_octets octets bytes) e).1
