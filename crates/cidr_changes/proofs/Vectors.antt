-- The definitions at values from outside.
use Rattle.std.proofs.Common.{◌≡◌, ℕ, true, false, Some, None, List, [], ◌∷◌, Result, Ok, Err, replicate, refl}
use Rattle.std.specs.Prelude.{codes}
use Rattle.cidr_blocks.specs.IpAddressRecord.TheVariants.{V4, V6}
use Rattle.cidr_blocks.specs.Prefixes.{Prefix}
use Rattle.cidr_changes.specs.declared.changes.CidrChange.{CidrChange}
use Rattle.cidr_changes.specs.declared.faults.CidrFault.{CidrFault}
use Rattle.cidr_changes.specs.declared.faults.CidrFault.TheVariants.{BlockLength, CidrBlockInUse, TooManyCidrBlocks, CidrLocationInUse}
use Rattle.cidr_blocks.specs.declared.places.CidrLocation.{CidrLocation}
use Rattle.cidr_blocks.specs.declared.places.Collection.{Collection}
use Rattle.cidr_changes.specs.Changed.{changed_collection, last_refusal}

abbrev v4 : (a b c d length : ℕ) → Prefix
v4 a b c d length = record { address = V4 (a ∷ b ∷ c ∷ d ∷ []); length = length }

-- 2001:db8::, with so many bits
abbrev v6 : (length : ℕ) → Prefix
v6 length = record {
  address = V6 (0x20 ∷ 0x01 ∷ 0x0D ∷ 0xB8 ∷ 0 ∷ 0 ∷ 0 ∷ 0 ∷ 0 ∷ 0 ∷ 0 ∷ 0 ∷ 0 ∷ 0 ∷ 0 ∷ 0 ∷ []);
  length = length;
}

-- `lab` 198.51.0.0/16 and `office` 198.51.100.0/24
abbrev lab : CidrLocation
lab = record { name = codes "lab"; blocks = v4 198 51 0 0 16 ∷ [] }

abbrev office : CidrLocation
office = record { name = codes "office"; blocks = v4 198 51 100 0 24 ∷ [] }

abbrev both : Collection
both = record { name = codes "sites"; locations = lab ∷ office ∷ [] }

abbrev of : List CidrLocation → Result Collection CidrFault
of locations = Ok (record { name = codes "sites"; locations = locations })

abbrev puts : (location : List ℕ) → List Prefix → CidrChange
puts location blocks = record { put = true; location = location; blocks = blocks }

abbrev takes : (location : List ℕ) → List Prefix → CidrChange
takes location blocks = record { put = false; location = location; blocks = blocks }

abbrev office_used : List (ℕ × List ℕ)
office_used = (1, codes "office") ∷ []

-- locations by name, however they come; blocks in their order
made : changed_collection (record { name = codes "sites"; locations = [] })
    (puts (codes "office") (v4 198 51 100 0 24 ∷ [])
    ∷ puts (codes "lab") (v6 32 ∷ v4 198 51 0 0 24 ∷ v4 198 51 0 0 16 ∷ []) ∷ []) 1 []
    ≡ of (record { name = codes "lab"; blocks = v4 198 51 0 0 16 ∷ v4 198 51 0 0 24 ∷ v6 32 ∷ [] }
    ∷ office ∷ [])
made = refl

no_change : changed_collection both [] 1 [] ≡ of (lab ∷ office ∷ [])
no_change = refl

-- a put of a block that stands there, and one put twice
put_again : changed_collection both
    (puts (codes "lab") (v4 198 51 0 0 16 ∷ v4 203 0 113 0 24 ∷ v4 203 0 113 0 24 ∷ []) ∷ []) 1 []
    ≡ of (record { name = codes "lab"; blocks = v4 198 51 0 0 16 ∷ v4 203 0 113 0 24 ∷ [] }
    ∷ office ∷ [])
put_again = refl

-- a removal of a block that doesn't stand there: of no location, and of another one
took_nothing : changed_collection both
    (takes (codes "lab") (v4 203 0 113 0 24 ∷ v4 198 51 100 0 24 ∷ []) ∷ []) 1 office_used
    ≡ of (lab ∷ office ∷ [])
took_nothing = refl

-- a location without a block goes
took_last : changed_collection both (takes (codes "office") (v4 198 51 100 0 24 ∷ []) ∷ []) 1 []
    ≡ of (lab ∷ [])
took_last = refl

-- taken from one location and put under another, in turn
moved : changed_collection both
    (takes (codes "office") (v4 198 51 100 0 24 ∷ []) ∷ puts (codes "lab") (v4 198 51 100 0 24 ∷ [])
    ∷ []) 1 []
    ≡ of (record { name = codes "lab"; blocks = v4 198 51 0 0 16 ∷ v4 198 51 100 0 24 ∷ [] } ∷ [])
moved = refl

elsewhere : changed_collection both
    (puts (codes "lab") (v4 198 51 100 0 24 ∷ []) ∷ takes (codes "office") (v4 198 51 100 0 24 ∷ [])
    ∷ []) 1 []
    ≡ Err CidrBlockInUse
elsewhere = refl

-- names differ by the case of a letter
other_case : changed_collection both (puts (codes "Office") (v4 198 51 100 0 24 ∷ []) ∷ []) 1 []
    ≡ Err CidrBlockInUse
other_case = refl

-- the length comes first within a change, and an earlier change before a later one
length_first : changed_collection both
    (puts (codes "lab") (v4 198 51 100 0 24 ∷ v4 198 51 100 0 25 ∷ []) ∷ []) 1 []
    ≡ Err BlockLength
length_first = refl

change_by_change : changed_collection both
    (puts (codes "lab") (v4 198 51 100 0 24 ∷ []) ∷ puts (codes "lab") (v4 0 0 0 0 0 ∷ []) ∷ [])
    1 []
    ≡ Err CidrBlockInUse
change_by_change = refl

length_of_removal : changed_collection both (takes (codes "lab") (v4 0 0 0 0 0 ∷ []) ∷ []) 1 []
    ≡ Err BlockLength
length_of_removal = refl

-- a location in use keeps a block
in_use : changed_collection both (takes (codes "office") (v4 198 51 100 0 24 ∷ []) ∷ []) 1
    office_used
    ≡ Err (CidrLocationInUse (codes "office"))
in_use = refl

used_elsewhere : changed_collection both (takes (codes "office") (v4 198 51 100 0 24 ∷ []) ∷ []) 1
    ((2, codes "office") ∷ (1, codes "*") ∷ [])
    ≡ of (lab ∷ [])
used_elsewhere = refl

-- the least by bytes is told: a capital letter comes before a small one
least_told : changed_collection both
    (takes (codes "office") (v4 198 51 100 0 24 ∷ []) ∷ takes (codes "lab") (v4 198 51 0 0 16 ∷ [])
    ∷ []) 1
    ((1, codes "office") ∷ (1, codes "lab") ∷ (1, codes "Yard") ∷ (1, codes "laboratory") ∷ [])
    ≡ Err (CidrLocationInUse (codes "Yard"))
least_told = refl

shorter_told : changed_collection both
    (takes (codes "lab") (v4 198 51 0 0 16 ∷ []) ∷ []) 1
    ((1, codes "laboratory") ∷ (1, codes "lab") ∷ [])
    ≡ Err (CidrLocationInUse (codes "lab"))
shorter_told = refl

-- the bound of 1,000 blocks, and that it comes before a location in use
many : last_refusal 1 office_used (replicate 1001 (v4 198 51 0 0 16, codes "lab"))
    ≡ Some TooManyCidrBlocks
many = refl

as_many : last_refusal 1 [] (replicate 1000 (v4 198 51 0 0 16, codes "lab")) ≡ None
as_many = refl
