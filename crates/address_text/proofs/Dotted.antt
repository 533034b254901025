-- Four numbers with dots between them.
use Rattle.std.proofs.Common.{◌≡◌, ℕ, ◌<◌, ◌≤◌, List, [], ◌∷◌, ◌++◌, length, decimal, nat_lt, true, false, Option, None, Some, ◌==◌, eqb-true, ltb-true, lt-ltb, lit≤, arith, refl, sym, ap, ap₂, ◌∙◌, subst, append-nil, append_assoc}
use Rattle.std.specs.Prelude.{◌↔◌}
use Rattle.std.proofs.lemmas.Bool.{and_parts}
use Rattle.std.proofs.lemmas.Fmt.{decimal_is_IsNumeral}
use Rattle.std.proofs.lemmas.Option.{none-some, cond_some}
use Rattle.std.proofs.lemmas.Slice.Eq.{bytes_eq-Decides}
use Rattle.std.specs.Char.{digit_value}
use Rattle.std.specs.List.{AllByRecursion}
use Rattle.std.specs.Net.Grammar.{IsDotted}
use Rattle.std.specs.Str.{bytes_eq}
use Rattle.std.specs.Str.Parse.{AllDigits, digits_value}
use Rattle.address_text.specs.AddressOfText.{pieces, joined, just, dot, octet_of_text, octets_of_pieces, ipv4_of}
use Rattle.address_text.proofs.Split.{behind_marks, put_together, IsPlain, at_mark, alone, digits_plain, plain_both, joins}

-- one number
pub record IsNumberOf (piece octets : List ℕ) : Type 0 where
  pub n : ℕ
  pub fits : n < 256
  pub written : piece ≡ decimal n
  pub is : octets ≡ n ∷ []

octet_sound : (piece octets : List ℕ) → octet_of_text piece ≡ Some octets → IsNumberOf piece octets
octet_sound piece octets e =
    let n = digits_value 10 piece in
    let (test, is) = cond_some _ _ _ e in
    let (low, same) = and_parts (nat_lt n 256) (bytes_eq piece (decimal n)) test in
    record {
      n = n;
      fits = ltb-true n 256 low;
      written =
          (bytes_eq-Decides piece (decimal n)).0 same;
      is = sym is;
    }

octet_complete : (n : ℕ) → n < 256 → octet_of_text (decimal n) ≡ Some (n ∷ [])
octet_complete n fits =
    let value : digits_value 10 (decimal n) ≡ n = (decimal_is_IsNumeral n (omega arith)).1 in
    let same : bytes_eq (decimal n) (decimal n) ≡ true =
    (bytes_eq-Decides (decimal n) (decimal n)).1 refl in
    rw (value, lt-ltb n 256 fits, same) refl

-- numbers with a dot in front of each
abbrev behind_dots : List ℕ → List ℕ
behind_dots [] = []
behind_dots (n ∷ numbers) = dot ∷ (decimal n ++ behind_dots numbers)

record AreNumbers (first : List ℕ) (rest : List (List ℕ)) (octets : List ℕ) : Type 0 where
  n : ℕ
  numbers : List ℕ
  are : octets ≡ n ∷ numbers
  fit : AllByRecursion (λ b. b < 256) (n ∷ numbers)
  written : first ++ behind_marks dot rest ≡ decimal n ++ behind_dots numbers

numbers_sound : (first : List ℕ) (rest : List (List ℕ)) (octets : List ℕ)
    → octets_of_pieces first rest ≡ Some octets → AreNumbers first rest octets
numbers_sound first [] octets e =
    let o = octet_sound first octets e in
    record {
      n = o.n;
      numbers = [];
      are = o.is;
      fit = (o.fits, tt);
      written =
          ap (λ l. l ++ []) o.written;
    }
numbers_sound first (next ∷ rest) octets e =
    let j = joins (octet_of_text first) (octets_of_pieces next rest) octets e in
    let o = octet_sound first j.front j.first_is in
    let later = numbers_sound next rest j.back j.others_are in
    record {
      n = o.n;
      numbers = later.n ∷ later.numbers;
      are = j.whole ∙ ap₂ (λ x y. x ++ y) o.is later.are;
      fit = (o.fits, later.fit);
      written = ap₂ (λ x y. x ++ dot ∷ y) o.written later.written;
    }

pub just_some : (count : ℕ) (o : Option (List ℕ)) (found : List ℕ) → just count o ≡ Some found
    → (o ≡ Some found) × (length found ≡ count)
just_some count None found e = absurd (none-some found e)
just_some count (Some other) found e =
    let (test, same) = cond_some _ _ _ e in
    (ap Some same, ap length (sym same) ∙ eqb-true (length other) count test)

-- four of them
four : (text octets : List ℕ) (first : List ℕ) (rest : List (List ℕ))
    → text ≡ first ++ behind_marks dot rest → AreNumbers first rest octets
    → length octets ≡ 4 → IsDotted text octets
four text octets first rest e a size = go a.numbers a.are a.fit (e ∙ a.written)
  where
    go : (numbers : List ℕ) → octets ≡ a.n ∷ numbers → AllByRecursion (λ b. b < 256) (a.n ∷ numbers)
        → text ≡ decimal a.n ++ behind_dots numbers
        → IsDotted text octets
    go [] are fit written = absurd (omega (arith, size, ap length are))
    go (b ∷ []) are fit written = absurd (omega (arith, size, ap length are))
    go (b ∷ c ∷ []) are fit written = absurd (omega (arith, size, ap length are))
    go (b ∷ c ∷ d ∷ []) are fit written = record {
      a = a.n;
      b = b;
      c = c;
      d = d;
      fit = (fit.0, fit.1.0, fit.1.1.0, fit.1.1.1.0);
      value = are;
      spelled = written ∙ simp (append_assoc, append-nil);
    }
    go (b ∷ c ∷ d ∷ x ∷ numbers) are fit written = absurd (omega (arith, size, ap length are))

ipv4_sound : (text octets : List ℕ) → ipv4_of text ≡ Some octets → IsDotted text octets
unfolding ipv4_of
ipv4_sound text octets e =
    let first = (pieces dot text).0 in
    let rest = (pieces dot text).1 in
    let (read, size) = just_some 4 (octets_of_pieces first rest) octets e in
    four text octets first rest (put_together dot text) (numbers_sound first rest octets read) size

decimal_plain : (mark n : ℕ) → 10 ≤ digit_value mark → n < 256 → IsPlain mark (decimal n)
decimal_plain mark n low fits =
    digits_plain 10 mark low (decimal n) (decimal_is_IsNumeral n (omega arith)).0.1

-- the octets that pieces give
abbrev gives : List ℕ → Option (List ℕ)
gives text = octets_of_pieces (pieces dot text).0 (pieces dot text).1

one_more : (n : ℕ) (rest : List ℕ) → n < 256
    → gives (decimal n ++ dot ∷ rest) ≡ joined (Some (n ∷ [])) (gives rest)
one_more n rest fits =
    ap (λ (p : List ℕ × List (List ℕ)). octets_of_pieces p.0 p.1)
    (at_mark dot (decimal n) rest (decimal_plain dot n (lit≤ tt) fits))
    ∙ ap (λ o. joined o (gives rest)) (octet_complete n fits)

last_one : (n : ℕ) → n < 256 → gives (decimal n) ≡ Some (n ∷ [])
last_one n fits =
    ap (λ (p : List ℕ × List (List ℕ)). octets_of_pieces p.0 p.1)
    (alone dot (decimal n) (decimal_plain dot n (lit≤ tt) fits))
    ∙ octet_complete n fits

ipv4_complete : (text octets : List ℕ) → IsDotted text octets → ipv4_of text ≡ Some octets
unfolding ipv4_of
ipv4_complete text octets h =
    let whole : text ≡ decimal h.a
    ++ dot ∷ (decimal h.b ++ dot ∷ (decimal h.c ++ dot ∷ decimal h.d)) = h.spelled
    ∙ simp append_assoc in
    let third = one_more h.c (decimal h.d) h.fit.2
    ∙ ap (λ o. joined (Some (h.c ∷ [])) o) (last_one h.d h.fit.3) in
    let second = one_more h.b (decimal h.c ++ dot ∷ decimal h.d) h.fit.1
    ∙ ap (λ o. joined (Some (h.b ∷ [])) o) third in
    let first = one_more h.a (decimal h.b ++ dot ∷ (decimal h.c ++ dot ∷ decimal h.d)) h.fit.0
    ∙ ap (λ o. joined (Some (h.a ∷ [])) o) second in
    ap (just 4) (ap gives whole ∙ first) ∙ ap Some (sym h.value)

pub ipv4 : (text octets : List ℕ) → (ipv4_of text ≡ Some octets) ↔ IsDotted text octets
ipv4 text octets = (ipv4_sound text octets, ipv4_complete text octets)

-- its bytes are digits and dots, so that none is a colon
pub dotted_plain : (mark : ℕ) (text octets : List ℕ) → 10 ≤ digit_value mark → (dot == mark) ≡ false
    → IsDotted text octets → IsPlain mark text
dotted_plain mark text octets low other h =
    let d = λ (n : ℕ) (fits : n < 256). decimal_plain mark n low fits in
    let last = d h.d h.fit.3 in
    let third = plain_both mark (decimal h.c) (dot ∷ decimal h.d) (d h.c h.fit.2) (other, last) in
    let second =
    plain_both mark (decimal h.b) (dot ∷ (decimal h.c ++ dot ∷ decimal h.d)) (d h.b h.fit.1)
    (other, third) in
    let first =
    plain_both mark (decimal h.a) (dot
    ∷ (decimal h.b ++ dot ∷ (decimal h.c ++ dot ∷ decimal h.d))) (d h.a h.fit.0) (
      other,
      second,
    ) in
    subst (IsPlain mark) (sym (h.spelled ∙ simp append_assoc)) first

digit_behind : (front rest : List ℕ) (b : ℕ) → AllDigits 16 (front ++ b ∷ rest) → digit_value b < 16
digit_behind [] rest b h = h.0
digit_behind (c ∷ front) rest b h = digit_behind front rest b h.1

-- one is a dot, and no digit
pub dotted_has_dot : (text octets : List ℕ) → IsDotted text octets → AllDigits 16 text → ⊥
dotted_has_dot text octets h digits =
    let rest = decimal h.b ++ dot ∷ (decimal h.c ++ dot ∷ decimal h.d) in
    let whole : text ≡ decimal h.a ++ dot ∷ rest = h.spelled ∙ simp append_assoc in
    let small : digit_value dot < 16 =
    digit_behind (decimal h.a) rest dot (subst (AllDigits 16) whole digits) in
    omega (arith, small)
