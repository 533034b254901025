-- A reading on its way: what comes of the whole input is what comes of what waits and what is left.
use Rattle.std.proofs.Common.{◌≡◌, ℕ, ◌+◌, ◌-◌, ◌<◌, ◌≤◌, true, false, List, [], ◌++◌, length, take}
use Rattle.std.proofs.Common.{drop, Option, Some, None, Err, arith, ap, ◌∙◌, sym, append_assoc, length-drop, drop-drop, take-take}
use Rattle.std.specs.Prelude.{nat_le}
use Rattle.std.proofs.lemmas.Bool.{le-leb, lt-leb}
use Rattle.std.proofs.lemmas.List.{take_all, drop_all, drop-take, take-append-drop, length-take-le}
use Rattle.geo_latency.specs.declared.tables.Tables.{Tables}
use Rattle.line_splitting.specs.Judging.{end_place}
use Rattle.line_splitting.specs.Waiting.{AddsIn}
use Rattle.table_lines.specs.Input.{last_piece, octets_from}
use Rattle.table_lines.specs.Turns.{IsReadSoFar, GoesOn, IsBadIn, IsUnended, TakesLast, AddsAll, limited}
use Rattle.table_lines.specs.declared.reading.Added.{Added}
use Rattle.table_lines.specs.declared.reading.Added.TheVariants as added
use Rattle.table_lines.specs.declared.reading.TablesFault.TheVariants as fault
use Rattle.table_lines.proofs.Octets.{last_of, cut_short}

-- nothing is read yet
pub at_start : (most : ℕ) (old : Tables) (input : List ℕ) (after : Option (List ℕ)) (read : ℕ)
    → read ≡ 0 → after ≡ Some input → IsReadSoFar most old input after read old 1 []
at_start most old input after read none is = record {
  within = omega (arith, none);
  rest = is ∙ ap (λ i. Some (drop i input)) (sym none);
  comes = ap (λ i. octets_from (nat_le most (length input)) old 1 (drop i (take most input))) (sym none);
}

-- the next n octets, in front of all others that may be read
next_octets : (most read n : ℕ) (xs : List ℕ) → read + n ≤ most
    → drop read (take most xs) ≡ take n (drop read xs) ++ drop (read + n) (take most xs)
next_octets most read n xs h =
    let m : most ≡ read + (most - read) = omega arith in
    let ys : drop read (take most xs) ≡ take (most - read) (drop read xs) =
    ap (λ j. drop read (take j xs)) m ∙ drop-take read (most - read) xs in
    let front : take n (drop read (take most xs)) ≡ take n (drop read xs) =
    ap (take n) ys ∙ take-take n (most - read) (drop read xs) (omega arith) in
    sym (take-append-drop n (drop read (take most xs)))
    ∙ ap (λ t. t ++ drop n (drop read (take most xs))) front
    ∙ ap (λ d. take n (drop read xs) ++ d) (drop-drop n read (take most xs))

module _ (most : ℕ) (old : Tables) (input : List ℕ) (before : Option (List ℕ)) (read : ℕ)
    (tables : Tables) (number : ℕ) (waiting : List ℕ)
    (stands : IsReadSoFar most old input before read tables number waiting) where
  -- a read of n octets, which stand behind those that waited
  module _ (after : Option (List ℕ)) (n at : ℕ) (buffer_before buffer : List ℕ)
      (is_waiting : take at buffer_before ≡ waiting) (budget : read + n ≤ most)
      (adds : (left : List ℕ) → before ≡ Some left → AddsIn left after n at buffer_before buffer) where
    came : limited most old input
        ≡ octets_from (nat_le most (length input)) tables number
        (take (at + n) buffer ++ drop (read + n) (take most input))
    came =
        let a = adds (drop read input) stands.rest in
        let octets : take (at + n) buffer ≡ waiting ++ take n (drop read input) =
        a.bytes ∙ ap (λ w. w ++ take n (drop read input)) is_waiting in
        let rest = drop (read + n) (take most input) in
        stands.comes
        ∙ ap (octets_from (nat_le most (length input)) tables number)
        (ap (λ d. waiting ++ d) (next_octets most read n input budget)
        ∙ sym (append_assoc waiting (take n (drop read input)) rest)
        ∙ ap (λ w. w ++ rest) (sym octets))

    pub goes_on : (new : Tables) (next now : ℕ) (behind : List ℕ) → now ≡ read + n
        → GoesOn tables number (take (at + n) buffer) new next behind
        → IsReadSoFar most old input after now new next behind
    goes_on new next now behind is_now lines =
        let a = adds (drop read input) stands.rest in
        let w = stands.within in
        let inside = a.within in
        record {
          within = omega (arith, is_now, w, inside, length-drop read input);
          rest = a.rest ∙ ap Some (drop-drop n read input ∙ ap (λ j. drop j input) (sym is_now));
          comes = came
              ∙ lines (nat_le most (length input)) (drop (read + n) (take most input))
              ∙ ap (λ j. octets_from (nat_le most (length input)) new next (behind ++ drop j (take most input)))
              (sym is_now);
        }

    pub is_bad : (bad : ℕ) → IsBadIn tables number (take (at + n) buffer) bad
        → limited most old input ≡ Err (fault.Bad bad)
    is_bad bad h = came ∙ h (nat_le most (length input)) (drop (read + n) (take most input))

    -- the source ended, and what waits is the last line
    pub ended : (answer : Added) (new : Tables) → n ≡ 0 → read < most → end_place waiting ≡ None
        → TakesLast tables waiting number answer new
        → AddsAll most old input after answer new
    ended answer new none going is_open takes =
        let a = adds (drop read input) stands.rest in
        let over : drop read input ≡ [] = a.at_end none in
        let w = stands.within in
        let short : length input < most =
        omega (arith, going, w, length-drop read input, ap length over) in
        let no_more : drop read (take most input) ≡ [] =
        ap (drop read) (take_all most input (omega (arith, short))) ∙ over in
        let comes : limited most old input ≡ last_piece false tables number waiting =
        stands.comes
        ∙ ap (λ g. octets_from g tables number (waiting ++ drop read (take most input)))
        (lt-leb most (length input) short)
        ∙ ap (λ x. octets_from false tables number (waiting ++ x)) no_more
        ∙ last_of waiting is_open false tables number in
        let left : after ≡ Some [] = a.rest ∙ ap (λ j. Some (drop j (drop read input))) none ∙ ap Some over in
        by_answer answer comes left takes
      where
        by_answer : (answer : Added) → limited most old input ≡ last_piece false tables number waiting
            → after ≡ Some [] → TakesLast tables waiting number answer new
            → AddsAll most old input after answer new
        by_answer added.Whole comes left takes = (comes ∙ takes, left)
        by_answer (added.Bad bad) comes left takes = comes ∙ takes
        by_answer added.OutOfMemory comes left takes = takes
        by_answer added.TooLong comes left takes = absurd takes
        by_answer added.ReadFault comes left takes = absurd takes

  -- as many octets as may be were read
  pub at_limit : read ≡ most → IsUnended waiting
      → (limited most old input ≡ Err fault.TooLong) × (before ≡ Some (drop most input))
  at_limit all is_open =
      let w = stands.within in
      let enough : most ≤ length input = omega (arith, all, w) in
      let no_more : drop read (take most input) ≡ [] =
      drop_all read (take most input) (omega (arith, all, length-take-le most input enough)) in (
        stands.comes
            ∙ ap (λ g. octets_from g tables number (waiting ++ drop read (take most input)))
            (le-leb most (length input) enough)
            ∙ ap (λ x. octets_from true tables number (waiting ++ x)) no_more
            ∙ cut_short waiting is_open.0 is_open.1 tables number,
        stands.rest ∙ ap (λ j. Some (drop j input)) all,
      )
