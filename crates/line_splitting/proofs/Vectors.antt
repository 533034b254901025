-- Lines at values from outside.
use Rattle.std.proofs.Common.{◌≡◌, [], ◌∷◌, ◌++◌, ◌*◌, true, refl}
use Rattle.std.specs.Prelude.{codes}
use Rattle.line_splitting.specs.Lines.{Line, lines, most_bytes, input_limit, ended_pieces, events_of}

-- an empty line, a line of blanks, and a last line without its end
pub four_lines : lines (codes "{\"Bind\":1}" ++ 10 ∷ 10 ∷ 32 ∷ 9 ∷ 13 ∷ 10 ∷ (32 ∷ 120 ∷ 9 ∷ 121 ∷ []))
    ≡ Line (codes "{\"Bind\":1}") ∷ Line (32 ∷ 120 ∷ 9 ∷ 121 ∷ []) ∷ []
four_lines = refl

-- an input that goes on: its last piece is no line yet
pub goes_on : events_of (ended_pieces true (97 ∷ 10 ∷ 98 ∷ [])) ≡ Line (97 ∷ []) ∷ []
goes_on = refl

pub ends_with_a_line : lines (97 ∷ 10 ∷ []) ≡ Line (97 ∷ []) ∷ []
ends_with_a_line = refl

-- a vertical tab is no blank
pub vertical_tab : lines (11 ∷ 10 ∷ []) ≡ Line (11 ∷ []) ∷ []
vertical_tab = refl

pub one_megabyte : most_bytes ≡ 1024 * 1024
one_megabyte = refl

pub one_terabyte : input_limit ≡ 1024 * 1024 * 1024 * 1024
one_terabyte = refl
