-- Numbers, names and values by hand.
use Rattle.std.proofs.Common.{◌≡◌, ℕ, ◌+◌, ◌<◌, ◌^◌, [], ◌∷◌, ◌++◌, Bool, refl, map, true, false, None, Some, Ok, Err}
use Rattle.std.specs.Prelude.{nat_le, ◌&&◌, ⊤}
use Rattle.octets.specs.Numbers.{four_octets}
use Rattle.rdata_layout.specs.declared.types.RType.TheVariants.{A, Ns, Mx, Txt, Caa}
use Rattle.octet_reading.specs.Layouts.{is_layout}
use Rattle.octet_reading.specs.Names.{name_at}
use Rattle.octet_reading.specs.Readers.{in_turn, list_at, optional_at, tested, meaning, numbered, kinds, text_at, limited, whole}
use Rattle.octet_reading.specs.Reading.{octet_at, two_at, four_at, flag_at}
use Rattle.octet_reading.specs.Rules.{IsReadAs, AreListable, WhereSome, list_octets, optional_octets, flag_octet}
use Rattle.octet_reading.proofs.Base.{four_read, flag_read}
use Rattle.octet_reading.proofs.Composed.{in_turn_read}
use Rattle.octet_reading.proofs.Optional.{list_read, optional_read}

pub numbers : (two_at (0x12 ∷ 0x34 ∷ 0x56 ∷ []) ≡ Ok (0x1234, 0x56 ∷ []))
    × (four_at (0x12 ∷ 0x34 ∷ 0x56 ∷ 0x78 ∷ []) ≡ Ok (0x12345678, []))
    × (four_at (1 ∷ 2 ∷ 3 ∷ []) ≡ Err 0)
numbers = (refl, refl, refl)

pub flags : map flag_at ((0 ∷ []) ∷ (1 ∷ 7 ∷ []) ∷ (2 ∷ 7 ∷ 8 ∷ []) ∷ [] ∷ [])
    ≡ Ok (false, []) ∷ Ok (true, 7 ∷ []) ∷ Err 3 ∷ Err 0 ∷ []
flags = refl

-- the root; ab.c; a label that is cut off; one of 64 octets; one with a capital letter, though it
-- is cut off
pub names : map name_at ((0 ∷ 9 ∷ []) ∷ (2 ∷ 0x61 ∷ 0x62 ∷ 1 ∷ 0x63 ∷ 0 ∷ []) ∷ (2 ∷ 0x61 ∷ [])
    ∷ (64 ∷ []) ∷ (3 ∷ 0x61 ∷ 0x42 ∷ []) ∷ [])
    ≡ Ok ([], 9 ∷ []) ∷ Ok ((0x61 ∷ 0x62 ∷ []) ∷ (0x63 ∷ []) ∷ [], []) ∷ Err 0 ∷ Err 1 ∷ Err 3 ∷ []
unfolding name_at
names = refl

-- an A value of three octets; an NS value with an octet behind the name; an MX value; a TXT value
-- without strings, and one
-- with two; a CAA value without a tag
pub layouts : (is_layout A (192 ∷ 0 ∷ 2 ∷ []) ≡ false)
    × (is_layout Ns (1 ∷ 0x61 ∷ 0 ∷ 0 ∷ []) ≡ false)
    × (is_layout Mx (0 ∷ 10 ∷ 1 ∷ 0x61 ∷ 0 ∷ []) ≡ true) × (is_layout Txt [] ≡ false)
    × (is_layout Txt (1 ∷ 0x61 ∷ 0 ∷ []) ≡ true)
    × (is_layout Caa (0 ∷ 0 ∷ []) ≡ false)
unfolding is_layout
layouts = (refl, refl, refl, refl, refl, refl)

-- two fields in turn: the fault of the second, and both
pub pairs : map (in_turn octet_at two_at) ((7 ∷ []) ∷ (7 ∷ 1 ∷ []) ∷ (7 ∷ 1 ∷ 2 ∷ 9 ∷ []) ∷ [])
    ≡ Err 0 ∷ Err 0 ∷ Ok ((7, 258), 9 ∷ []) ∷ []
pairs = refl

-- an empty list; two octets and one behind them; a list that is cut off
pub lists : map (list_at octet_at) ((0 ∷ 0 ∷ []) ∷ (0 ∷ 2 ∷ 7 ∷ 8 ∷ 9 ∷ []) ∷ (0 ∷ 2 ∷ 7 ∷ [])
    ∷ (0 ∷ []) ∷ [])
    ≡ Ok ([], []) ∷ Ok (7 ∷ 8 ∷ [], 9 ∷ []) ∷ Err 0 ∷ Err 0 ∷ []
lists = refl

-- no part, a part, one that is cut off, and a flag that is none
pub optional : map (optional_at two_at) ((0 ∷ 1 ∷ []) ∷ (1 ∷ 1 ∷ 2 ∷ []) ∷ (1 ∷ 1 ∷ [])
    ∷ (2 ∷ 1 ∷ 2 ∷ []) ∷ [])
    ≡ Ok (None, 1 ∷ []) ∷ Ok (Some 258, []) ∷ Err 0 ∷ Err 3 ∷ []
optional = refl

-- a number of at most 256 in two octets
pub most : map (tested (λ n. nat_le n 256) two_at) ((1 ∷ 0 ∷ 9 ∷ []) ∷ (1 ∷ 1 ∷ 9 ∷ []) ∷ [])
    ≡ Ok (256, 9 ∷ []) ∷ Err 3 ∷ []
most = refl

-- false as 1 and true as 2
pub meanings : map (meaning (numbered (λ b. flag_octet b + 1) (false ∷ true ∷ [])) octet_at)
    ((1 ∷ []) ∷ (2 ∷ 9 ∷ []) ∷ (3 ∷ 9 ∷ []) ∷ [] ∷ [])
    ≡ Ok (false, []) ∷ Ok (true, 9 ∷ []) ∷ Err 2 ∷ Err 0 ∷ []
meanings = refl

-- kind 1 with an octet, kind 4 with two; another kind; a kind that is cut off
pub of_kinds : map (kinds ((1, octet_at) ∷ (4, two_at) ∷ [])) ((1 ∷ 7 ∷ []) ∷ (4 ∷ 1 ∷ 2 ∷ 9 ∷ [])
    ∷ (2 ∷ 7 ∷ []) ∷ (4 ∷ 1 ∷ []) ∷ [])
    ≡ Ok (7, []) ∷ Ok (258, 9 ∷ []) ∷ Err 2 ∷ Err 0 ∷ []
of_kinds = refl

-- texts of a to z with at most three bytes: one; an empty one; one that is too long, though it is
-- cut off; one with a byte
-- that isn't plain, though it is cut off; one that is cut off
pub texts : map (text_at (λ b. nat_le 0x61 b && nat_le b 0x7A) 3)
    ((2 ∷ 0x61 ∷ 0x7A ∷ 9 ∷ []) ∷ (0 ∷ 0x61 ∷ []) ∷ (4 ∷ 0x61 ∷ []) ∷ (3 ∷ 0x61 ∷ 0x60 ∷ [])
    ∷ (3 ∷ 0x61 ∷ []) ∷ [])
    ≡ Ok (0x61 ∷ 0x7A ∷ [], 9 ∷ []) ∷ Err 2 ∷ Err 2 ∷ Err 3 ∷ Err 0 ∷ []
unfolding text_at
texts = refl

-- at most two octets in all: a list of none; one of one octet, which has three
pub limit : map (limited 2 (list_at octet_at)) ((0 ∷ 0 ∷ 9 ∷ []) ∷ (0 ∷ 1 ∷ 7 ∷ 9 ∷ []) ∷ [])
    ≡ Ok ([], 9 ∷ []) ∷ Err 4 ∷ []
limit = refl

-- a flag as a whole: one; a flag of 2; an octet behind it; nothing
pub flag_alone : map (whole flag_at) ((1 ∷ []) ∷ (2 ∷ []) ∷ (1 ∷ 0 ∷ []) ∷ [] ∷ [])
    ≡ Ok true ∷ Err 0 ∷ Err 1 ∷ Err 0 ∷ []
flag_alone = refl

-- The rules at work: an optional number, as the check of a set; an optional list of numbers, as the
-- children of a check;
-- and a list of pairs.
pub optional_number : IsReadAs (WhereSome (λ n. n < 2 ^ 32)) (optional_octets four_octets)
    (optional_at four_at)
optional_number = optional_read four_read

pub optional_list : IsReadAs (WhereSome (AreListable (λ n. n < 2 ^ 32)))
    (optional_octets (list_octets four_octets)) (optional_at (list_at four_at))
optional_list = optional_read (list_read four_read)

pub list_of_pairs : IsReadAs (AreListable (λ (p : ℕ × Bool). (p.0 < 2 ^ 32) × ⊤))
    (list_octets (λ p. four_octets p.0 ++ flag_octet p.1 ∷ []))
    (list_at (in_turn four_at flag_at))
list_of_pairs = list_read (in_turn_read four_read flag_read)
