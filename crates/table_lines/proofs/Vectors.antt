-- Inputs at values from outside.
use Rattle.std.proofs.Common.{◌≡◌, ◌*◌, true, false, [], ◌∷◌, ◌++◌, Ok, Err, refl}
use Rattle.std.specs.Prelude.{codes}
use Rattle.table_lines.specs.Input.{most_octets, no_rows, octets_from}
use Rattle.table_lines.specs.declared.reading.TablesFault.TheVariants as fault

pub four_thousand : most_octets ≡ 4 * 1024
four_thousand = refl

-- an input of nothing, one of lines that are skipped, and one that ends with 0x0A
pub nothing : octets_from false no_rows 1 [] ≡ Ok no_rows
nothing = refl

pub skipped : octets_from false no_rows 1 (codes "# places" ++ 10 ∷ 10 ∷ codes "#") ≡ Ok no_rows
skipped = refl

pub ended : octets_from false no_rows 1 (codes "#" ++ 10 ∷ []) ≡ Ok no_rows
ended = refl

-- the first bad line is told, and a skipped one counted
pub third_line : octets_from false no_rows 1 (codes "#" ++ 10 ∷ 10 ∷ codes "geo" ++ 10 ∷ codes "lat")
    ≡ Err (fault.Bad 3)
third_line = refl

-- the last line may lack its 0x0A
pub last_line : octets_from false no_rows 1 (codes "#" ++ 10 ∷ codes "geo") ≡ Err (fault.Bad 2)
last_line = refl

-- the begin of a line is none yet
pub begun_line : octets_from true no_rows 1 (codes "#" ++ 10 ∷ codes "geo") ≡ Err fault.TooLong
begun_line = refl
