-- The tables that an input says: one outcome, by its pieces.
use Rattle.std.proofs.Common.{◌≡◌, ℕ, ◌+◌, ◌<◌, ◌≤◌, Bool, true, false, List, [], ◌∷◌, length, take, Option, Err, Ok, arith, ap, ◌∙◌, sym, refl, inl, inr}
use Rattle.std.specs.Prelude.{if◌then◌else◌, Result}
use Rattle.std.proofs.lemmas.Bool.{lt-leb}
use Rattle.std.proofs.lemmas.Bool.Decides.{leb_tells}
use Rattle.std.proofs.lemmas.List.{take_all}
use Rattle.geo_latency.specs.Tables.{outcome}
use Rattle.geo_latency.specs.declared.tables.Tables.{Tables}
use Rattle.line_splitting.specs.Lines.{first_piece, more_pieces, pieces}
use Rattle.table_lines.specs.Input.{Gives, is_bad, octets_from, pieces_from, tables_of}
use Rattle.table_lines.specs.Laws.{IsTold, lines_from}
use Rattle.table_lines.specs.Turns.{limited}
use Rattle.table_lines.specs.declared.reading.TablesFault.{TablesFault}
use Rattle.table_lines.specs.declared.reading.TablesFault.TheVariants as fault

-- an answer that neither the source nor the memory gave is that of the definition
pub told : (input : List ℕ) (after : Option (List ℕ)) (answer : Result Tables TablesFault)
    → Gives input after answer → IsTold answer → tables_of input ≡ answer
told input after (Ok tables) reads is_told = reads.0
told input after (Err (fault.Bad number)) reads is_told = reads
told input after (Err fault.TooLong) reads is_told = reads.0
told input after (Err fault.ReadFault) reads is_told = absurd (is_told.0 refl)
told input after (Err fault.OutOfMemory) reads is_told = absurd (is_told.1 refl)

-- where the input ends, all pieces are lines
pieces_are_lines : (tables : Tables) (number : ℕ) (line : List ℕ) (more : List (List ℕ))
    → pieces_from false tables number line more ≡ lines_from tables number (line ∷ more)
pieces_are_lines tables number line [] = refl
pieces_are_lines tables number line (next ∷ more) =
    ap (λ r. if is_bad (outcome tables line).0 then Err (fault.Bad number) else r)
    (pieces_are_lines (outcome tables line).1 (number + 1) next more)

pub whole : (most : ℕ) (tables : Tables) (input : List ℕ) → length input < most
    → limited most tables input ≡ lines_from tables 1 (pieces input)
whole most tables input h =
    ap (λ g. octets_from g tables 1 (take most input)) (lt-leb most (length input) h)
    ∙ ap (octets_from false tables 1) (take_all most input (omega (arith, h)))
    ∙ pieces_are_lines tables 1 (first_piece input) (more_pieces input)

unless : (bad : Bool) (number : ℕ) (r : Result Tables TablesFault) → (r ≡ Err fault.TooLong → ⊥)
    → (if bad then Err (fault.Bad number) else r) ≡ Err fault.TooLong → ⊥
unless true number r h e = absurd cc
unless false number r h e = h e

ends : (tables : Tables) (number : ℕ) (line : List ℕ) (more : List (List ℕ))
    → pieces_from false tables number line more ≡ Err fault.TooLong → ⊥
ends tables number line [] e =
    unless (is_bad (outcome tables line).0) number (Ok (outcome tables line).1) (λ e. absurd cc) e
ends tables number line (next ∷ more) e =
    unless (is_bad (outcome tables line).0) number
    (pieces_from false (outcome tables line).1 (number + 1) next more)
    (ends (outcome tables line).1 (number + 1) next more) e

-- what is too long doesn't end within the limit
pub too_long : (most : ℕ) (tables : Tables) (input : List ℕ)
    → limited most tables input ≡ Err fault.TooLong → most ≤ length input
too_long most tables input e = elim (leb_tells most (length input)) [
  | inl enough ↦ enough.1
  | inr short ↦ absurd (ends tables 1 (first_piece (take most input)) (more_pieces (take most input))
      (ap (λ g. octets_from g tables 1 (take most input)) (sym short.0) ∙ e))
]
