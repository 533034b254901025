-- The definitions of commands at values from outside.
use Rattle.std.proofs.Common.{◌≡◌, ◌≢◌, ◌≤◌, ◌<◌, ◌+◌, ◌/◌, ◌%◌, ℕ, zero, suc, Bool, true, false, get_or, ap, Some, None, List, [], ◌∷◌, length, Ok, Err, replicate, refl, arith}
use Rattle.std.specs.List.{AllByRecursion}
use Rattle.std.specs.Prelude.{codes, nat_le, ◌==◌, ◌&&◌, ◌||◌}
use Rattle.std.proofs.lemmas.Bool.{le-leb}
use Rattle.cidr_changes.specs.IpAddressRecord.TheVariants.{V4}
use Rattle.cidr_changes.specs.Prefixes.{Prefix}
use Rattle.cidr_changes.specs.Texts.{is_location_byte}
use Rattle.cidr_changes.specs.declared.changes.CidrChange.{CidrChange}
use Rattle.cidr_changes.specs.declared.faults.CidrFault.TheVariants.{CollectionExists, BlockLength, IdsEnded, TooManyCidrCollections, NoSuchCidrCollection, CidrCollectionInUse, CidrLocationInUse}
use Rattle.cidr_changes.specs.CidrLocationRecord.{CidrLocation}
use Rattle.cidr_changes.specs.CollectionRecord.{Collection}
use Rattle.cidr_changes.specs.Places.{IsCollection, rows_of}
use Rattle.cidr_commands.specs.declared.command.CidrCommand.TheVariants.{Create, Change, Delete}
use Rattle.cidr_commands.specs.Commands.{HasNames, outcome, create_refusal}
use Rattle.cidr_commands.specs.Stored.{IdsRise, IsSound, NamesDiffer, Stored, collection_with}
use Rattle.cidr_commands.proofs.Kept.{without_blocks}

abbrev none : Stored
none = record { next = 1; list = [] }

abbrev empty : (name : List ℕ) → Collection
empty name = record { name = name; locations = [] }

abbrev v4 : (a b c d length : ℕ) → Prefix
v4 a b c d length = record { address = V4 (a ∷ b ∷ c ∷ d ∷ []); length = length }

abbrev office : CidrLocation
office = record { name = codes "office"; blocks = v4 198 51 100 0 24 ∷ [] }

-- c1 with one block, and c3 with none; a second collection was deleted
abbrev two : Stored
two = record {
  next = 4;
  list = (1, record { name = codes "sites"; locations = office ∷ [] })
      ∷ (3, empty (codes "more")) ∷ [];
}

first_one : outcome none (Create (codes "sites")) []
    ≡ Ok (record { next = 2; list = (1, empty (codes "sites")) ∷ [] })
first_one = refl

next_one : outcome two (Create (codes "Sites")) []
    ≡ Ok (record {
      next = 5;
      list = (1, record { name = codes "sites"; locations = office ∷ [] })
          ∷ (3, empty (codes "more")) ∷ (4, empty (codes "Sites")) ∷ [];
    })
next_one = refl

name_taken : outcome two (Create (codes "more")) [] ≡ Err CollectionExists
name_taken = refl

-- 100 collections are the most; a name that is taken comes before that, and that before the numbers
hundred_one : create_refusal (record { next = 101; list = replicate 100 (1, empty (codes "more")) })
    (codes "sites") ≡ Some TooManyCidrCollections
hundred_one = refl

hundred : create_refusal (record { next = 100; list = replicate 99 (1, empty (codes "more")) })
    (codes "sites") ≡ None
hundred = refl

taken_first : create_refusal
    (record { next = 4294967295; list = replicate 100 (1, empty (codes "more")) }) (codes "more")
    ≡ Some CollectionExists
taken_first = refl

many_next : create_refusal
    (record { next = 4294967295; list = replicate 100 (1, empty (codes "more")) }) (codes "sites")
    ≡ Some TooManyCidrCollections
many_next = refl

ended : create_refusal (record { next = 4294967295; list = [] }) (codes "sites") ≡ Some IdsEnded
ended = refl

last_number : outcome (record { next = 4294967294; list = [] }) (Create (codes "sites")) []
    ≡ Ok (record { next = 4294967295; list = (4294967294, empty (codes "sites")) ∷ [] })
last_number = refl

-- changes of a collection that isn't there, and of one that is
abbrev takes : (location : List ℕ) → List Prefix → CidrChange
takes location blocks = record { put = false; location = location; blocks = blocks }

not_there : outcome two (Change 2 (takes (codes "office") (v4 0 0 0 0 0 ∷ []) ∷ [])) []
    ≡ Err (NoSuchCidrCollection 2)
not_there = refl

in_use : outcome two (Change 1 (takes (codes "office") (v4 198 51 100 0 24 ∷ []) ∷ []))
    ((1, codes "office") ∷ []) ≡ Err (CidrLocationInUse (codes "office"))
in_use = refl

long_block : outcome two (Change 1 (takes (codes "office") (v4 198 51 100 0 25 ∷ []) ∷ [])) []
    ≡ Err BlockLength
long_block = refl

star_block : outcome two (Change 1 (takes (codes "office") (v4 0 0 0 0 0 ∷ []) ∷ [])) []
    ≡ Err BlockLength
star_block = refl

taken : outcome two (Change 1 (takes (codes "office") (v4 198 51 100 0 24 ∷ []) ∷ [])) []
    ≡ Ok (record {
      next = 4;
      list = (1, empty (codes "sites")) ∷ (3, empty (codes "more")) ∷ [];
    })
taken = refl

-- the end of a collection: without a block, and named by no set
ends : outcome two (Delete 3) ((1, codes "*") ∷ [])
    ≡ Ok (record {
      next = 4;
      list = (1, record { name = codes "sites"; locations = office ∷ [] }) ∷ [];
    })
ends = refl

has_a_block : outcome two (Delete 1) [] ≡ Err CidrCollectionInUse
has_a_block = refl

has_a_set : outcome two (Delete 3) ((3, codes "*") ∷ []) ≡ Err CidrCollectionInUse
has_a_set = refl

ended_before : outcome two (Delete 2) ((2, codes "*") ∷ []) ≡ Err (NoSuchCidrCollection 2)
ended_before = refl

at_a_number : collection_with 3 two.list ≡ Some (empty (codes "more"))
at_a_number = refl

at_no_number : collection_with 2 two.list ≡ None
at_no_number = refl

-- as many letters a
abbrev letters : ℕ → List ℕ
letters n = replicate n 0x61

are_plain : (n : ℕ) → AllByRecursion (λ b. is_location_byte b ≡ true) (letters n)
are_plain zero = tt
are_plain (suc n) = (refl, are_plain n)

-- the names of a command: 64 bytes of a collection, 16 of a location, which `*` isn't
name_64 : HasNames (Create (letters 64))
name_64 = record { filled = omega arith; short = omega arith; plain = are_plain 64 }

name_65 : HasNames (Create (letters 65)) → ⊥
name_65 name = let short = name.short in absurd (omega (arith, short))

location_16 : HasNames (Change 1 (takes (letters 16) [] ∷ []))
location_16 = (
  record {
    name = record { filled = omega arith; short = omega arith; plain = are_plain 16 };
    prefixes = tt;
  },
  tt,
)

location_17 : HasNames (Change 1 (takes (letters 17) [] ∷ [])) → ⊥
location_17 named = let short = named.0.name.short in absurd (omega (arith, short))

no_location : HasNames (Change 1 (takes (codes "*") [] ∷ [])) → ⊥
no_location named =
    let plain : is_location_byte 0x2A ≡ true = named.0.name.plain.0 in
    let no : ⊥ = cc in no

-- the least and the greatest number of the next collection
next_1 : IsSound (record { next = 1; list = [] })
next_1 = record {
  few = omega arith;
  from = omega arith;
  to = omega arith;
  ids = tt;
  rising = tt;
  names = tt;
  each = tt;
}

next_0 : IsSound (record { next = 0; list = [] }) → ⊥
next_0 sound = let from = sound.from in absurd (omega (arith, from))

next_last : IsSound (record { next = 4294967295; list = [] })
next_last = record {
  few = omega arith;
  from = omega arith;
  to = omega arith;
  ids = tt;
  rising = tt;
  names = tt;
  each = tt;
}

next_past : IsSound (record { next = 4294967296; list = [] }) → ⊥
next_past sound = let to = sound.to in absurd (omega (arith, to))

-- two letters for each number below 26 * 26: aa, ab and on
abbrev name_of : ℕ → List ℕ
name_of k = (0x61 + k / 26) ∷ (0x61 + k % 26) ∷ []

one_number : (a b : ℕ) → name_of a ≡ name_of b → a ≡ b
one_number a b same =
    let first : 0x61 + a / 26 ≡ 0x61 + b / 26 = ap (λ (l : List ℕ). get_or l 0 0) same in
    let second : 0x61 + a % 26 ≡ 0x61 + b % 26 = ap (λ (l : List ℕ). get_or l 1 0) same in
    omega (arith, first, second)

-- so many collections without a block, with these names
abbrev some : (count k : ℕ) → List (ℕ × Collection)
some zero k = []
some (suc count) k = (k + 1, empty (name_of k)) ∷ some count (k + 1)

counted : (count k : ℕ) → length (some count k) ≡ count
counted zero k = refl
counted (suc count) k = ap suc (counted count (k + 1))

are_above : (count k m : ℕ) → m ≤ k
    → AllByRecursion (λ (other : ℕ × Collection). m < other.0) (some count k)
are_above zero k m le = tt
are_above (suc count) k m le = (omega (arith, le), are_above count (k + 1) m (omega (arith, le)))

rise : (count k : ℕ) → IdsRise (some count k)
rise zero k = tt
rise (suc count) k = (are_above count (k + 1) (k + 1) (omega arith), rise count (k + 1))

others : (count k j : ℕ) → j < k
    → AllByRecursion (λ (other : ℕ × Collection). other.1.name ≢ name_of j) (some count k)
others zero k j lt = tt
others (suc count) k j lt = (
  λ e. let same = one_number k j e in absurd (omega (arith, same, lt)),
  others count (k + 1) j (omega (arith, lt)),
)

differ : (count k : ℕ) → NamesDiffer (some count k)
differ zero k = tt
differ (suc count) k = (others count (k + 1) k (omega arith), differ count (k + 1))

have_ids : (count k next : ℕ) → k + count < next
    → AllByRecursion (λ (held : ℕ × Collection). (1 ≤ held.0) × (held.0 < next)) (some count k)
have_ids zero k next lt = tt
have_ids (suc count) k next lt =
    ((omega arith, omega (arith, lt)), have_ids count (k + 1) next (omega (arith, lt)))

letter_by : (b : ℕ) (capital from to : Bool) → from ≡ true → to ≡ true
    → capital || (from && to) || (nat_le 0x30 b && nat_le b 0x39) || b == 0x5F || b == 0x2D ≡ true
letter_by b capital false to f t = absurd (let no : ⊥ = cc in no)
letter_by b capital true false f t = absurd (let no : ⊥ = cc in no)
letter_by b true true true f t = refl
letter_by b false true true f t = refl

letter : (b : ℕ) → 0x61 ≤ b → b ≤ 0x7A → is_location_byte b ≡ true
letter b from to =
    letter_by b (nat_le 0x41 b && nat_le b 0x5A) (nat_le 0x61 b) (nat_le b 0x7A)
    (le-leb 0x61 b from) (le-leb b 0x7A to)

are_collections : (count k : ℕ) → k + count ≤ 100
    → AllByRecursion (λ (held : ℕ × Collection). IsCollection held.1) (some count k)
are_collections zero k le = tt
are_collections (suc count) k le = (
  without_blocks (name_of k) (record {
    filled = omega arith;
    short = omega arith;
    plain = (
      letter (0x61 + k / 26) (omega arith) (omega (arith, le)),
      (letter (0x61 + k % 26) (omega arith) (omega arith), tt),
    );
  }),
  are_collections count (k + 1) (omega (arith, le)),
)

-- a hundred collections, and no more
a_hundred : (count : ℕ) → count ≤ 100
    → IsSound (record { next = count + 1; list = some count 0 })
a_hundred count le = record {
  few = (let e = counted count 0 in omega (arith, e, le));
  from = omega arith;
  to = omega (arith, le);
  ids = have_ids count 0 (count + 1) (omega arith);
  rising = rise count 0;
  names = differ count 0;
  each = are_collections count 0 (omega (arith, le));
}

a_hundred_one : (s : Stored) → length s.list ≡ 101 → IsSound s → ⊥
a_hundred_one s count sound = let few = sound.few in absurd (omega (arith, count, few))

-- a thousand blocks of a collection among them are the most
a_thousand_one : (id : ℕ) (c : Collection) (next : ℕ) → length (rows_of c.locations) ≡ 1001
    → IsSound (record { next = next; list = (id, c) ∷ [] }) → ⊥
a_thousand_one id c next count sound =
    let few = sound.each.0.few in absurd (omega (arith, count, few))
