-- One piece of a line at a time: where it ends, what is kept of it, and what it comes to.
use Rattle.std.specs.Prelude.{ℕ, suc, List, [], ◌∷◌, Option, None, Some, ◌==◌, if◌then◌else◌, option_map}
use Rattle.line_splitting.specs.Lines.{Event, Line, TooLong, is_blank}
use Rattle.line_splitting.specs.declared.judging.Dropped.{Dropped}
use Rattle.line_splitting.specs.declared.judging.Dropped.TheVariants as dropped
use Rattle.line_splitting.specs.declared.judging.Told.{Told}
use Rattle.line_splitting.specs.declared.judging.Told.TheVariants as told

-- the place of the first 0x0A
abbrev pub end_place : List ℕ → Option ℕ
end_place [] = None
end_place (b ∷ bytes) = if b == 10 then Some 0 else option_map suc (end_place bytes)

-- what was told of a piece that ends its line, as events
abbrev pub as_events : Told → (piece : List ℕ) → List Event
as_events told.Nothing piece = []
as_events told.Line piece = Line piece ∷ []
as_events told.TooLong piece = TooLong ∷ []

-- what is dropped of a line that is too long, or blank so far, with this piece of it
abbrev pub dropped_with : Dropped → (piece : List ℕ) → Dropped
dropped_with dropped.Text piece = dropped.Text
dropped_with dropped.Blanks piece = if is_blank piece then dropped.Blanks else dropped.Text
dropped_with dropped.Nothing piece = if is_blank piece then dropped.Blanks else dropped.Text
