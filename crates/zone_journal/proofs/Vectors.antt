-- The files of a store with nothing in it, and of that store after an entry and a compaction, byte
-- by byte.
use Rattle.std.proofs.Common.{◌≡◌, [], ◌∷◌, ◌++◌, refl}
use Rattle.file_building.specs.Layout.{front}
use Rattle.zone_journal.specs.Compacting.{next_place}
use Rattle.zone_journal.specs.Making.{empty_snapshot, store_over}

-- 015235335a4a3031 0000000000000001 0000000d 02000000010000000100000000 00
pub empty : store_over []
    ≡ 0x01 ∷ 0x52 ∷ 0x35 ∷ 0x33 ∷ 0x5a ∷ 0x4a ∷ 0x30 ∷ 0x31
    ∷ 0 ∷ 0 ∷ 0 ∷ 0 ∷ 0 ∷ 0 ∷ 0 ∷ 1 ∷ 0 ∷ 0 ∷ 0 ∷ 13
    ∷ 2 ∷ 0 ∷ 0 ∷ 0 ∷ 1 ∷ 0 ∷ 0 ∷ 0 ∷ 1 ∷ 0 ∷ 0 ∷ 0 ∷ 0 ∷ 0 ∷ []
empty = refl

-- the same with generation 2 and the entry 020401030000: 0100000006 020401030000 before the closed
-- gate
pub compacted : front 2 empty_snapshot ((2 ∷ 4 ∷ 1 ∷ 3 ∷ 0 ∷ 0 ∷ []) ∷ []) ++ 0 ∷ []
    ≡ 0x01 ∷ 0x52 ∷ 0x35 ∷ 0x33 ∷ 0x5a ∷ 0x4a ∷ 0x30 ∷ 0x31
    ∷ 0 ∷ 0 ∷ 0 ∷ 0 ∷ 0 ∷ 0 ∷ 0 ∷ 2 ∷ 0 ∷ 0 ∷ 0 ∷ 13
    ∷ 2 ∷ 0 ∷ 0 ∷ 0 ∷ 1 ∷ 0 ∷ 0 ∷ 0 ∷ 1 ∷ 0 ∷ 0 ∷ 0 ∷ 0
    ∷ 1 ∷ 0 ∷ 0 ∷ 0 ∷ 6 ∷ 2 ∷ 4 ∷ 1 ∷ 3 ∷ 0 ∷ 0 ∷ 0 ∷ []
compacted = refl

-- a piece of a file of 70,034 bytes, of which all are left: 65,536 bytes from byte 1 on
pub a_whole_piece : next_place 1 70034 ≡ 65537
a_whole_piece = refl

-- the next one copies all but the two gates
pub the_rest : next_place 65537 4498 ≡ 70033
the_rest = refl
