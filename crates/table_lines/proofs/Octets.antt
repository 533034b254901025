-- What comes of octets, by the line in front of them.
use Rattle.std.proofs.Common.{◌≡◌, ℕ, suc, ◌+◌, ◌<◌, ◌≤◌, Bool, true, false, List, [], ◌∷◌, ◌++◌}
use Rattle.std.proofs.Common.{length, take, drop, None, Some, Err, Ok, arith, ap, ◌∙◌, sym, refl, append-nil, length-append}
use Rattle.std.specs.Prelude.{if◌then◌else◌, Result}
use Rattle.std.proofs.lemmas.Bool.{lt-ltb, le-ltb}
use Rattle.geo_latency.specs.Tables.{outcome}
use Rattle.geo_latency.specs.declared.tables.Tables.{Tables}
use Rattle.geo_latency.specs.declared.tables.TableLine.{TableLine}
use Rattle.line_splitting.specs.Judging.{end_place}
use Rattle.line_splitting.specs.Lines.{first_piece, more_pieces}
use Rattle.line_splitting.proofs.Pieces.{pieces_at, pieces_open}
use Rattle.table_lines.specs.Input.{is_bad, last_piece, octets_from, pieces_from}
use Rattle.table_lines.specs.Turns.{GoesOn, IsBadIn}
use Rattle.table_lines.specs.declared.reading.TablesFault.{TablesFault}
use Rattle.table_lines.specs.declared.reading.TablesFault.TheVariants as fault

-- what comes of a line and those behind it, by its answer
abbrev behind_line : (goes_on : Bool) → (number : ℕ) → TableLine × Tables → (next : List ℕ)
    → (more : List (List ℕ)) → Result Tables TablesFault
behind_line goes_on number answered next more =
    if is_bad answered.0 then Err (fault.Bad number)
    else pieces_from goes_on answered.1 (number + 1) next more

-- a line whose 0x0A stands at place k of the octets, and its answer
module _ (old new : Tables) (waiting line : List ℕ) (k : ℕ) (answer : TableLine)
    (is_end : Some k ≡ end_place waiting) (is_line : line ≡ take k waiting)
    (answered : (answer, new) ≡ outcome old line) where
  cut : (goes_on : Bool) (number : ℕ) (x : List ℕ)
      → octets_from goes_on old number (waiting ++ x)
      ≡ behind_line goes_on number (answer, new) (first_piece (drop (suc k) waiting ++ x))
      (more_pieces (drop (suc k) waiting ++ x))
  cut goes_on number x =
      let p = pieces_at waiting x k (sym is_end) in
      let a : outcome old (take k waiting) ≡ (answer, new) = ap (outcome old) (sym is_line) ∙ sym answered in
      ap (λ f. pieces_from goes_on old number f (more_pieces (waiting ++ x))) p.0
      ∙ ap (pieces_from goes_on old number (take k waiting)) p.1
      ∙ ap (λ a. behind_line goes_on number a (first_piece (drop (suc k) waiting ++ x))
      (more_pieces (drop (suc k) waiting ++ x))) a

  pub line_added : is_bad answer ≡ false → (number : ℕ)
      → GoesOn old number waiting new (number + 1) (drop (k + 1) waiting)
  line_added good number goes_on x =
      let behind : suc k ≡ k + 1 = omega arith in
      cut goes_on number x
      ∙ ap (λ b. if b then Err (fault.Bad number)
      else octets_from goes_on new (number + 1) (drop (suc k) waiting ++ x)) good
      ∙ ap (λ j. octets_from goes_on new (number + 1) (drop j waiting ++ x)) behind

  pub line_refused : is_bad answer ≡ true → (number : ℕ) → IsBadIn old number waiting number
  line_refused bad number goes_on x =
      cut goes_on number x
      ∙ ap (λ b. if b then Err (fault.Bad number)
      else octets_from goes_on new (number + 1) (drop (suc k) waiting ++ x)) bad

-- a piece that is longer than a line may be, whatever stands behind it
too_long_is_bad : (tables : Tables) (line : List ℕ) → 4096 < length line
    → is_bad (outcome tables line).0 ≡ true
too_long_is_bad tables line h = rw (lt-ltb 4096 (length line) h) refl

long_piece : (goes_on : Bool) (tables : Tables) (number : ℕ) (piece : List ℕ) (more : List (List ℕ))
    → 4096 < length piece → pieces_from goes_on tables number piece more ≡ Err (fault.Bad number)
long_piece false tables number piece [] h =
    ap (λ b. if b then Err (fault.Bad number) else Ok (outcome tables piece).1)
    (too_long_is_bad tables piece h)
long_piece true tables number piece [] h =
    ap (λ b. if b then Err (fault.Bad number) else Err fault.TooLong) (lt-ltb 4096 (length piece) h)
long_piece goes_on tables number piece (next ∷ more) h =
    ap (λ b. if b then Err (fault.Bad number)
    else pieces_from goes_on (outcome tables piece).1 (number + 1) next more)
    (too_long_is_bad tables piece h)

-- the begin of a line, without a 0x0A
module _ (waiting : List ℕ) (is_open : end_place waiting ≡ None) where
  pub open_refused : 4096 < length waiting → (tables : Tables) (number : ℕ)
      → IsBadIn tables number waiting number
  open_refused h tables number goes_on x =
      let p = pieces_open waiting x is_open in
      ap (λ f. pieces_from goes_on tables number f (more_pieces (waiting ++ x))) p.0
      ∙ long_piece goes_on tables number (waiting ++ first_piece x) (more_pieces (waiting ++ x))
      (omega (arith, h, length-append waiting (first_piece x)))

  -- nothing stands behind it
  pub last_of : (goes_on : Bool) (tables : Tables) (number : ℕ)
      → octets_from goes_on tables number (waiting ++ []) ≡ last_piece goes_on tables number waiting
  last_of goes_on tables number =
      let p = pieces_open waiting [] is_open in
      ap (λ f. pieces_from goes_on tables number f (more_pieces (waiting ++ []))) p.0
      ∙ ap (pieces_from goes_on tables number (waiting ++ [])) p.1
      ∙ ap (last_piece goes_on tables number) (append-nil waiting)

  pub cut_short : length waiting ≤ 4096 → (tables : Tables) (number : ℕ)
      → octets_from true tables number (waiting ++ []) ≡ Err fault.TooLong
  cut_short h tables number =
      last_of true tables number
      ∙ ap (λ b. if b then Err (fault.Bad number) else Err fault.TooLong)
      (le-ltb 4096 (length waiting) h)
