-- What writing a piece whole leaves in a sink, where that tells what it holds.
use Rattle.std.specs.Prelude.{◌≡◌, ℕ, ◌<◌, List, ◌++◌, length, take, Option, Some}
use Rattle.whole_writing.specs.declared.output.Output.{Output}
use Rattle.whole_writing.specs.declared.output.Output.TheVariants as output

-- the whole of the piece, or a first part that isn't the whole
abbrev pub OutputOf : (held : List ℕ) (after : Option (List ℕ)) → Output → (piece : List ℕ) → Type 0
OutputOf held after output.Whole piece = after ≡ Some (held ++ piece)
OutputOf held after output.Failed piece =
    (n : ℕ) × (n < length piece) × (after ≡ Some (held ++ take n piece))

-- ---- laws

-- A piece that is written behind a whole one is the end of the two as one.
abbrev pub PiecesJoin : Type 0
PiecesJoin = (held first second : List ℕ) (after : Option (List ℕ)) (result : Output)
    → OutputOf (held ++ first) after result second → OutputOf held after result (first ++ second)

-- A part of the first piece is a part of the two as one.
abbrev pub FirstPieceFails : Type 0
FirstPieceFails = (held first second : List ℕ) (after : Option (List ℕ))
    → OutputOf held after output.Failed first → OutputOf held after output.Failed (first ++ second)
