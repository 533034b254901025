-- Fields of values' texts, and the faults of such texts, each at its place.
use Rattle.std.proofs.Common.{◌≡◌, ℕ, ◌+◌, List, [], ◌∷◌, ◌++◌, map, arith, refl, codes, Bool, true, inl, inr, Err}
use Rattle.std.proofs.Math.ListN.{replicate}
use Rattle.std.specs.Prelude.{nat_eq, nat_lt, ◌&&◌, not}
use Rattle.std.specs.List.{AllByRecursion, AllZip}
use Rattle.std.proofs.lemmas.Bool.{and_parts, not-true, eqb-false, ltb-true}
use Rattle.field_text.specs.FieldRecord.TheVariants as field
use Rattle.rdata.specs.RTypeRecord.TheVariants.{A, Mx}
use Rattle.rdata.specs.declared.faults.ValueFault.TheVariants.{BadField, MissingField, SurplusField, TooLong}
use Rattle.text_meanings.specs.Characters.{backslash}
use Rattle.text_meanings.specs.Strings.{quote}
use Rattle.text_meanings.specs.Fields.{IsBlank, AreUnits, EndsField, IsField, FieldText, HasFields}
use Rattle.text_meanings.specs.Kinds.{IsDigit, SpellsNumber}
use Rattle.text_meanings.specs.Names.{IsTextOf}
use Rattle.text_meanings.specs.Values.{Gives}
use Rattle.text_meanings.specs.Values.Form.{OfKind}

-- bytes that are no space and no tab
abbrev seen : List ℕ → Bool
seen [] = true
seen (b ∷ more) = not (nat_eq b 0x20) && not (nat_eq b 0x09) && seen more

no_blanks : (bytes : List ℕ) → seen bytes ≡ true → AllByRecursion (λ b. IsBlank b → ⊥) bytes
no_blanks [] h = tt
no_blanks (b ∷ more) h =
    let p = and_parts (not (nat_eq b 0x20) && not (nat_eq b 0x09)) (seen more) h in
    let q = and_parts (not (nat_eq b 0x20)) (not (nat_eq b 0x09)) p.0 in (
      λ k. elim k [
        | inl e ↦ eqb-false b 0x20 (not-true (nat_eq b 0x20) q.0) e
        | inr e ↦ eqb-false b 0x09 (not-true (nat_eq b 0x09) q.1) e
      ],
      no_blanks more p.1,
    )

plain_field : (b : ℕ) (more rest : List ℕ) → seen (b ∷ more) ≡ true → not (nat_eq b 0x22) ≡ true
    → EndsField rest → IsField (b ∷ more) rest
plain_field b more rest h k ends = inl (record {
  first = b;
  more = more;
  all = refl;
  no_quote = eqb-false b 0x22 (not-true (nat_eq b 0x22) k);
  no_blank = no_blanks (b ∷ more) h;
  ends = ends;
})

abbrev at : ℕ → List ℕ → FieldText
at place bytes = record { place = place; bytes = bytes }

-- numbers, with leading zeros too, and what is none
abbrev small_digits : List ℕ → Bool
small_digits [] = true
small_digits (digit ∷ digits) = nat_lt digit 10 && small_digits digits

abbrev digits_are : (digits : List ℕ) → List ℕ
digits_are digits = map (λ digit. 0x30 + digit) digits

all_digits : (digits : List ℕ) → small_digits digits ≡ true → AllZip IsDigit (digits_are digits) digits
all_digits [] h = tt
all_digits (digit ∷ digits) h =
    let p = and_parts (nat_lt digit 10) (small_digits digits) h in
    ((ltb-true digit 10 p.0, refl), all_digits digits p.1)

pub ten : SpellsNumber 65535 (codes "10") 10
ten = record {
  digits = 1 ∷ 0 ∷ [];
  each = all_digits (1 ∷ 0 ∷ []) refl;
  some = omega arith;
  value = refl;
  small = omega arith;
}

pub leading_zeros : SpellsNumber 255 (codes "000255") 255
leading_zeros = record {
  digits = 0 ∷ 0 ∷ 0 ∷ 2 ∷ 5 ∷ 5 ∷ [];
  each = all_digits (0 ∷ 0 ∷ 0 ∷ 2 ∷ 5 ∷ 5 ∷ []) refl;
  some = omega arith;
  value = refl;
  small = omega arith;
}

-- the largest number of four octets
pub largest : SpellsNumber 4294967295 (codes "4294967295") 4294967295
largest = record {
  digits = 4 ∷ 2 ∷ 9 ∷ 4 ∷ 9 ∷ 6 ∷ 7 ∷ 2 ∷ 9 ∷ 5 ∷ [];
  each = all_digits (4 ∷ 2 ∷ 9 ∷ 4 ∷ 9 ∷ 6 ∷ 7 ∷ 2 ∷ 9 ∷ 5 ∷ []) refl;
  some = omega arith;
  value = refl;
  small = omega arith;
}

no_digit : (n : ℕ) → SpellsNumber 65535 (codes "x") n → ⊥
no_digit n s = go s.digits s.each
  where
    go : (digits : List ℕ) → AllZip IsDigit (codes "x") digits → ⊥
    go [] h = h
    go (digit ∷ []) h = omega (arith, h.0.0, h.0.1)
    go (digit ∷ next ∷ digits) h = h.1

letter_a : IsTextOf (codes "a.") (codes "a" ∷ [])
letter_a = record {
  spelled = record {
    texts = codes "a" ∷ [];
    each = (
      record {
        pieces = codes "a" ∷ [];
        each = (
          inl (
            record {
              above_space = omega arith;
              below_delete = omega arith;
              no_dot = λ e. omega arith;
              no_backslash = λ e. omega arith;
            },
            refl,
          ),
          tt,
        );
        together = refl;
      },
      tt,
    );
    together = inr refl;
  };
  name = record {
    each = (record { filled = omega arith; short = omega arith }, tt);
    fits = omega arith;
  };
}

-- the mail exchange of RFC 1035, 5.3, with six spaces, and with a tab at the end
pub mail_exchange : HasFields 0 (codes "10      VENERA" ++ 0x09 ∷ []) (at 0 (codes "10")
    ∷ at 8 (codes "VENERA") ∷ [])
mail_exchange = (
  [],
  codes "      VENERA" ++ 0x09 ∷ [],
  tt,
  refl,
  refl,
  plain_field 0x31 (codes "0") (codes "      VENERA" ++ 0x09 ∷ []) refl refl (inl refl),
  (
    codes "      ",
    0x09 ∷ [],
    (inl refl, (inl refl, (inl refl, (inl refl, (inl refl, (inl refl, tt)))))),
    refl,
    refl,
    plain_field 0x56 (codes "ENERA") (0x09 ∷ []) refl refl (inr refl),
    (inr refl, tt),
  ),
)

one_letter : (b : ℕ) → (b ≡ quote → ⊥) → (b ≡ backslash → ⊥) → AreUnits (b ∷ [])
one_letter b q s =
    record { pieces = (b ∷ []) ∷ []; each = (inl (b, q, s, refl), tt); together = refl }

-- `"a""b"` is two fields
pub two_strings : HasFields 0 (0x22 ∷ 0x61 ∷ 0x22 ∷ 0x22 ∷ 0x62 ∷ 0x22 ∷ []) (at 0 (0x22 ∷ 0x61 ∷ 0x22
    ∷ []) ∷ at 3 (0x22 ∷ 0x62 ∷ 0x22 ∷ []) ∷ [])
two_strings = (
  [],
  0x22 ∷ 0x62 ∷ 0x22 ∷ [],
  tt,
  refl,
  refl,
  inr (inl (record {
    inside = codes "a";
    units = one_letter 0x61 (λ e. omega arith) (λ e. omega arith);
    all = refl;
  })),
  (
    [],
    [],
    tt,
    refl,
    refl,
    inr (inl (record {
      inside = codes "b";
      units = one_letter 0x62 (λ e. omega arith) (λ e. omega arith);
      all = refl;
    })),
    tt,
  ),
)

-- `"\" ` has no end, and its blank is its own; so has `"\`
pub no_closing_quote : HasFields 0 (0x22 ∷ 0x5C ∷ 0x22 ∷ 0x20 ∷ []) (at 0 (0x22 ∷ 0x5C ∷ 0x22 ∷ 0x20
    ∷ []) ∷ [])
no_closing_quote = (
  [],
  [],
  tt,
  refl,
  refl,
  inr (inr (record {
    inside = 0x5C ∷ 0x22 ∷ 0x20 ∷ [];
    units = record {
      pieces = (0x5C ∷ 0x22 ∷ []) ∷ (0x20 ∷ []) ∷ [];
      each = (inr (0x22, refl), (inl (0x20, (λ e. omega arith), (λ e. omega arith), refl), tt));
      together = refl;
    };
    all = inl refl;
    last = refl;
  })),
  tt,
)

pub backslash_at_the_end : HasFields 0 (0x22 ∷ 0x5C ∷ []) (at 0 (0x22 ∷ 0x5C ∷ []) ∷ [])
backslash_at_the_end = (
  [],
  [],
  tt,
  refl,
  refl,
  inr (inr (record {
    inside = [];
    units = record { pieces = []; each = tt; together = refl };
    all = inr refl;
    last = refl;
  })),
  tt,
)

-- an MX value whose number is none, where the name is missing, too
pub bad_number : Gives Mx (codes " x") (Err (BadField 1))
bad_number = inr (
  omega arith,
  at 1 (codes "x") ∷ [],
  (codes " ", [], (inl refl, tt), refl, refl, plain_field 0x78 [] [] refl refl tt, tt),
  (
    0,
    OfKind field.Number16,
    codes "x",
    record {
      before = [];
      field = at 1 (codes "x");
      after = [];
      octets = [];
      split = refl;
      fine = refl;
      number_is = refl;
      place = refl;
      bytes_are = refl;
    },
    refl,
    λ octets s. no_digit s.0 s.1,
  ),
)

-- one without a name: the fault stands behind the last blank
pub no_name : Gives Mx (codes "10 ") (Err (MissingField 3))
no_name = inr (
  omega arith,
  at 0 (codes "10") ∷ [],
  (
    [],
    codes " ",
    tt,
    refl,
    refl,
    plain_field 0x31 (codes "0") (codes " ") refl refl (inl refl),
    (inl refl, tt),
  ),
  (
    omega arith,
    refl,
    0 ∷ 10 ∷ [],
    (OfKind field.Number16, 0 ∷ 10 ∷ [], [], refl, (10, ten, refl), refl, refl),
  ),
)

-- one with a field too many
pub one_too_many : Gives Mx (codes "10 a. b") (Err (SurplusField 6))
one_too_many = inr (
  omega arith,
  at 0 (codes "10") ∷ at 3 (codes "a.") ∷ at 6 (codes "b") ∷ [],
  (
    [],
    codes " a. b",
    tt,
    refl,
    refl,
    plain_field 0x31 (codes "0") (codes " a. b") refl refl (inl refl),
    (
      codes " ",
      codes " b",
      (inl refl, tt),
      refl,
      refl,
      plain_field 0x61 (codes ".") (codes " b") refl refl (inl refl),
      (codes " ", [], (inl refl, tt), refl, refl, plain_field 0x62 [] [] refl refl tt, tt),
    ),
  ),
  (
    2,
    codes "b",
    record {
      before = at 0 (codes "10") ∷ at 3 (codes "a.") ∷ [];
      field = at 6 (codes "b");
      after = [];
      octets = 0 ∷ 10 ∷ 1 ∷ 0x61 ∷ 0 ∷ [];
      split = refl;
      fine = (
        OfKind field.Number16,
        0 ∷ 10 ∷ [],
        1 ∷ 0x61 ∷ 0 ∷ [],
        refl,
        (10, ten, refl),
        (OfKind field.Name, 1 ∷ 0x61 ∷ 0 ∷ [], [], refl, (codes "a" ∷ [], letter_a, refl), refl, refl),
        refl,
      );
      number_is = refl;
      place = refl;
      bytes_are = refl;
    },
    refl,
  ),
)

-- 4,001 blanks
pub too_long : Gives A (replicate 4001 0x20) (Err TooLong)
too_long = inl (omega arith, refl)
