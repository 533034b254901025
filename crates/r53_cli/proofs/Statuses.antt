-- The lines of statuses: each is read back.
use Rattle.std.proofs.Common.{◌≡◌, ℕ, ◌^◌, ◌<◌, List, [], ◌∷◌, ◌++◌, drop, ap, ◌∙◌, sym, refl, cond}
use Rattle.std.specs.Prelude.{slice_index, ◌==◌}
use Rattle.std.specs.Fmt.{decimal}
use Rattle.std.specs.Str.Parse.{digits_value}
use Rattle.std.proofs.lemmas.Fmt.{decimal_is_IsNumeral}
use Rattle.zone_journal.specs.declared.answers.Side.{Side}
use Rattle.zone_journal.specs.declared.answers.Side.TheVariants as side
use Rattle.r53_cli.specs.declared.status.Status.{Status}
use Rattle.r53_cli.specs.declared.status.Status.TheVariants.{Done, Usage, NotAStore, AlreadyAStore, BadTables, ReadFault, WriteFault, DiskFault, LinkFault, OutOfMemory, InputTooLong}
use Rattle.r53_cli.specs.Status.{IsNumbered, text_of}

-- a line without its line feed
abbrev front : List ℕ → List ℕ
front [] = []
front (x ∷ []) = []
front (x ∷ y ∷ rest) = x ∷ front (y ∷ rest)

front_is : (text : List ℕ) → front (text ++ 0x0A ∷ []) ≡ text
front_is [] = refl
front_is (x ∷ []) = refl
front_is (x ∷ y ∷ rest) = ap (λ t. x ∷ t) (front_is (y ∷ rest))

-- the number that ends a line
abbrev number_at : ℕ → List ℕ → ℕ
number_at at line = digits_value 10 (front (drop at line))

number_is : (n : ℕ) → n < 2 ^ 64 → digits_value 10 (front (decimal n ++ 0x0A ∷ [])) ≡ n
number_is n small = ap (digits_value 10) (front_is (decimal n)) ∙ (decimal_is_IsNumeral n small).1

abbrev side_at : ℕ → List ℕ → Side
side_at at line = cond (slice_index line at == 0x61) side.A side.B

-- by the sixth octet
abbrev status_of : List ℕ → Status
status_of line =
    cond (slice_index line 5 == 0x75) Usage
    (cond (slice_index line 5 == 0x6E) (NotAStore (side_at 23 line) (number_at 31 line))
    (cond (slice_index line 5 == 0x61) (AlreadyAStore (side_at 27 line))
    (cond (slice_index line 5 == 0x62) (BadTables (number_at 22 line))
    (cond (slice_index line 5 == 0x72) ReadFault
    (cond (slice_index line 5 == 0x77) WriteFault
    (cond (slice_index line 5 == 0x64) DiskFault
    (cond (slice_index line 5 == 0x6C) LinkFault
    (cond (slice_index line 5 == 0x6F) OutOfMemory
    (cond (slice_index line 5 == 0x69) InputTooLong Done)))))))))

read_back : (status : Status) → IsNumbered status → status_of (text_of status) ≡ status
read_back Done h = refl
read_back Usage h = refl
read_back (NotAStore side.A place) h = ap (NotAStore side.A) (number_is place h)
read_back (NotAStore side.B place) h = ap (NotAStore side.B) (number_is place h)
read_back (AlreadyAStore side.A) h = refl
read_back (AlreadyAStore side.B) h = refl
read_back (BadTables line) h = ap BadTables (number_is line h)
read_back ReadFault h = refl
read_back WriteFault h = refl
read_back DiskFault h = refl
read_back LinkFault h = refl
read_back OutOfMemory h = refl
read_back InputTooLong h = refl

-- a line is that of one status
pub one_status : (status other : Status) → IsNumbered status → IsNumbered other
    → text_of status ≡ text_of other → status ≡ other
one_status status other h k same =
    sym (read_back status h) ∙ (ap status_of same ∙ read_back other k)
