-- A file byte by byte: generation 1, the snapshot 7, and the entry 8 9.
use Rattle.std.proofs.Common.{◌≡◌, [], ◌∷◌, ◌++◌, refl}
use Rattle.gate_journal.specs.Layout.{front, generation_of}
use Rattle.gate_journal.specs.Closing.{closed_file}

pub file : front 1 (7 ∷ []) ((8 ∷ 9 ∷ []) ∷ []) ++ 0 ∷ [] ≡ 1 ∷ 0x52 ∷ 0x35 ∷ 0x33 ∷ 0x5a ∷ 0x4a
    ∷ 0x30 ∷ 0x31 ∷ 0 ∷ 0 ∷ 0 ∷ 0 ∷ 0 ∷ 0 ∷ 0 ∷ 1 ∷ 0 ∷ 0 ∷ 0 ∷ 1 ∷ 7 ∷ 1 ∷ 0 ∷ 0 ∷ 0 ∷ 2 ∷ 8 ∷ 9
    ∷ 0 ∷ []
file = refl

pub generation : generation_of (1 ∷ 0x52 ∷ 0x35 ∷ 0x33 ∷ 0x5a ∷ 0x4a ∷ 0x30 ∷ 0x31 ∷ 0 ∷ 0 ∷ 0 ∷ 0
    ∷ 0 ∷ 0 ∷ 1 ∷ 2 ∷ []) ≡ 258
generation = refl

-- an open gate is closed, a closed one stays whatever it reads, and an empty file gets one
pub closes_open : closed_file (1 ∷ 5 ∷ []) ≡ 0 ∷ 5 ∷ []
closes_open = refl

pub leaves_closed : closed_file (9 ∷ 5 ∷ []) ≡ 9 ∷ 5 ∷ []
leaves_closed = refl

pub closes_empty : closed_file [] ≡ 0 ∷ []
closes_empty = refl
