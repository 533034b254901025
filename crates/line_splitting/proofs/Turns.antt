-- Turns of a reader: what is to come before and after each step.
use Rattle.std.proofs.Common.{◌≡◌, ℕ, zero, suc, ◌+◌, ◌*◌, ◌-◌, ◌<◌, ◌≤◌, Bool, true, false, List, [], ◌∷◌, ◌++◌, length, take, drop, Option, None, Some, arith, ap, ◌∙◌, sym, refl, ◌==◌, append-nil, length-append, append_assoc, length-drop, add-one, subst}
use Rattle.std.specs.Prelude.{if◌then◌else◌, not, ◌&&◌, nat_le, nat_lt, IsTrue, ◌↔◌}
use Rattle.line_splitting.specs.Lines.{Event, Line, TooLong, is_blank_byte, is_blank, events_of_line, first_piece, more_pieces, pieces, events_of, but_last, ended_pieces, most_bytes}
use Rattle.line_splitting.specs.Judging.{end_place, as_events, dropped_with}
use Rattle.line_splitting.specs.Reading.{Reader, ending, begun, to_come, is_over_limit, events, waiting_whole, whole, is_begun, steps, IsOver, ReadsMore, Took, TookNothing, Leaves}
use Rattle.line_splitting.specs.declared.reader.Next.{Next}
use Rattle.line_splitting.specs.declared.reader.Next.TheVariants as next
use Rattle.std.proofs.Math.Dec.{eqb-suc-zero}
use Rattle.std.proofs.lemmas.Bool.{leb-true, le-leb, lt-ltb, false_from_ne_true}
use Rattle.line_splitting.specs.Waiting.{Waiting, Adds}
use Rattle.std.proofs.Math.Seq.{take-length, take-add}
use Rattle.std.proofs.lemmas.List.{drop_all}
use Rattle.line_splitting.specs.Steps.{DropsBlanks, Takes, HasRoom}
use Rattle.line_splitting.specs.declared.judging.Dropped.{Dropped}
use Rattle.line_splitting.specs.declared.judging.Dropped.TheVariants as dropped
use Rattle.line_splitting.specs.declared.judging.Told.{Told}
use Rattle.line_splitting.specs.declared.judging.Told.TheVariants as told
use Rattle.line_splitting.proofs.Pieces.{pieces_open, pieces_at, end_within}

true_not_false : true ≡ false → ⊥
true_not_false e = absurd cc

pub begun_nothing : (ps : List (List ℕ)) → events_of ps ≡ begun dropped.Nothing ps
begun_nothing [] = refl
begun_nothing (p ∷ ps) = refl

-- A line that ends at place k comes first, and the rest comes behind it.
first_line : (d : Dropped) (c : Bool) (w x : List ℕ) (k : ℕ) → end_place w ≡ Some k
    → begun d (ended_pieces c (w ++ x))
    ≡ ending d (take k w) ++ begun dropped.Nothing (ended_pieces c (drop (suc k) w ++ x))
first_line d false w x k e =
    let p = pieces_at w x k e in
    ap (λ f. ending d f ++ events_of (more_pieces (w ++ x))) p.0
    ∙ ap (λ m. ending d (take k w) ++ events_of m) p.1
first_line d true w x k e =
    let p = pieces_at w x k e in
    ap (λ m. begun d (but_last (first_piece (w ++ x) ∷ m))) p.1
    ∙ ap (λ f. ending d f ++ events_of (but_last (pieces (drop (suc k) w ++ x)))) p.0
    ∙ ap (λ es. ending d (take k w) ++ es) (begun_nothing (but_last (pieces (drop (suc k) w ++ x))))

first_ready : (d : Dropped) (c : Bool) (w : List ℕ) (k : ℕ) → end_place w ≡ Some k
    → begun d (ended_pieces c w)
    ≡ ending d (take k w) ++ begun dropped.Nothing (ended_pieces c (drop (suc k) w))
first_ready d c w k e = ap (λ v. begun d (ended_pieces c v)) (sym (append-nil w))
    ∙ first_line d c w [] k e
    ∙ ap (λ v. ending d (take k w) ++ begun dropped.Nothing (ended_pieces c v))
    (append-nil (drop (suc k) w))

-- the reader after the line that ends at place k
abbrev pub past : Reader → ℕ → Reader
past r k = record {
  line = take k r.waiting;
  waiting = drop (suc k) r.waiting;
  dropped = dropped.Nothing;
  ended = r.ended;
  budget = r.budget;
}

nearer_past : (r : Reader) (k : ℕ) → k < length r.waiting → steps (past r k) < steps r
nearer_past r k h = let d = length-drop (suc k) r.waiting in omega (arith, d, h)

pub takes_line : (r : Reader) (k : ℕ) (t : Told) → Some k ≡ end_place r.waiting
    → ending r.dropped (take k r.waiting) ≡ as_events t (take k r.waiting) → Takes r t (past r k)
takes_line r k told.Nothing e h =
    let n = nearer_past r k (end_within r.waiting k (sym e)) in
    record {
      ready = sym (first_ready r.dropped (not r.ended) r.waiting k (sym e)
          ∙ ap (λ es. es ++ waiting_whole (past r k)) h);
      events = λ left. sym (
          first_line r.dropped (is_over_limit r left) r.waiting (to_come r left) k (sym e)
          ∙ ap (λ es. es ++ events (past r k) left) h);
      whole = λ going seen. sym (
          first_line r.dropped (not r.ended) r.waiting seen k (sym e)
          ∙ ap (λ es. es ++ whole (past r k) seen) h);
      ended = refl;
      budget = refl;
      nearer = omega (arith, n);
    }
takes_line r k told.Line e h = record {
  ready = first_ready r.dropped (not r.ended) r.waiting k (sym e)
      ∙ ap (λ es. es ++ waiting_whole (past r k)) h;
  events = λ left. first_line r.dropped (is_over_limit r left) r.waiting (to_come r left) k (sym e)
      ∙ ap (λ es. es ++ events (past r k) left) h;
  whole = λ going seen. first_line r.dropped (not r.ended) r.waiting seen k (sym e)
      ∙ ap (λ es. es ++ whole (past r k) seen) h;
  ended = refl;
  budget = refl;
  nearer = nearer_past r k (end_within r.waiting k (sym e));
}
takes_line r k told.TooLong e h = record {
  ready = first_ready r.dropped (not r.ended) r.waiting k (sym e)
      ∙ ap (λ es. es ++ waiting_whole (past r k)) h;
  events = λ left. first_line r.dropped (is_over_limit r left) r.waiting (to_come r left) k (sym e)
      ∙ ap (λ es. es ++ events (past r k) left) h;
  whole = λ going seen. first_line r.dropped (not r.ended) r.waiting seen k (sym e)
      ∙ ap (λ es. es ++ whole (past r k) seen) h;
  ended = refl;
  budget = refl;
  nearer = nearer_past r k (end_within r.waiting k (sym e));
}

-- one step after another
pub after_rest : (old mid : Reader) (t : Told) (new : Reader) → DropsBlanks old mid → Takes mid t new
    → Takes old t new
after_rest old mid told.Nothing new r s = record {
  ready = s.ready ∙ r.ready;
  events = λ left. s.events left ∙ r.events left;
  whole = λ going seen. s.whole (r.ended ∙ going) seen ∙ r.whole going seen;
  ended = s.ended ∙ r.ended;
  budget = s.budget ∙ r.budget;
  nearer = omega (arith, r.nearer, s.nearer);
}
after_rest old mid told.Line new r s = record {
  ready = sym r.ready ∙ s.ready;
  events = λ left. sym (r.events left) ∙ s.events left;
  whole = λ going seen. sym (r.whole going seen) ∙ s.whole (r.ended ∙ going) seen;
  ended = s.ended ∙ r.ended;
  budget = s.budget ∙ r.budget;
  nearer = omega (arith, r.nearer, s.nearer);
}
after_rest old mid told.TooLong new r s = record {
  ready = sym r.ready ∙ s.ready;
  events = λ left. sym (r.events left) ∙ s.events left;
  whole = λ going seen. sym (r.whole going seen) ∙ s.whole (r.ended ∙ going) seen;
  ended = s.ended ∙ r.ended;
  budget = s.budget ∙ r.budget;
  nearer = omega (arith, r.nearer, s.nearer);
}

pub rests_still : (r : Reader) → DropsBlanks r r
rests_still r = record {
  ready = refl;
  events = λ left. refl;
  whole = λ going seen. refl;
  ended = refl;
  budget = refl;
  nearer = omega arith;
}

-- the reader with what waits in a window
abbrev pub with_window : Waiting → Dropped → Bool → ℕ → Reader
with_window w d ended budget = record {
  line = w.line;
  waiting = w.waiting;
  dropped = d;
  ended = ended;
  budget = budget;
}

pub line_taken : (v now : Reader) (w : Waiting) (k : ℕ) (t : Told) (piece : List ℕ) → v ≡ now
    → w ≡ record { line = take k v.waiting; waiting = drop (k + 1) v.waiting }
    → Some k ≡ end_place now.waiting → piece ≡ take k v.waiting
    → ending v.dropped piece ≡ as_events t piece
    → Takes now t (with_window w dropped.Nothing v.ended v.budget)
line_taken v now w k t piece e is place p h =
    subst (λ r. Takes r t (with_window w dropped.Nothing v.ended v.budget)) e
    (subst (λ x. Takes v t (with_window x dropped.Nothing v.ended v.budget))
    (sym (is
    ∙ ap (λ j. record { line = take k v.waiting; waiting = drop j v.waiting }) (add-one k)))
    (takes_line v k t (place ∙ ap (λ r. end_place r.waiting) (sym e))
    (subst (λ q. ending v.dropped q ≡ as_events t q) p h)))

last_piece : (d : Dropped) (w : List ℕ) → end_place w ≡ None → begun d (pieces w) ≡ ending d w
last_piece d w h =
    let p = pieces_open w [] h in
    ap (λ v. begun d (pieces v)) (sym (append-nil w))
    ∙ ap (λ f. ending d f ++ events_of (more_pieces (w ++ []))) (p.0 ∙ append-nil w)
    ∙ ap (λ m. ending d w ++ events_of m) p.1
    ∙ append-nil (ending d w)

-- the reader after the last line
abbrev pub at_end : Reader → Reader
at_end r = record {
  line = r.waiting;
  waiting = [];
  dropped = dropped.Nothing;
  ended = r.ended;
  budget = r.budget;
}

last_ready : (r : Reader) → end_place r.waiting ≡ None → r.ended ≡ true
    → waiting_whole r ≡ ending r.dropped r.waiting ++ waiting_whole (at_end r)
last_ready r h e =
    ap (λ b. begun r.dropped (ended_pieces (not b) r.waiting)) e ∙ last_piece r.dropped r.waiting h
    ∙ sym (append-nil _)
    ∙ ap (λ b. ending r.dropped r.waiting ++ begun dropped.Nothing (ended_pieces (not b) [])) (sym e)

last_events : (r : Reader) (left : List ℕ) → end_place r.waiting ≡ None → r.ended ≡ true
    → events r left ≡ ending r.dropped r.waiting ++ events (at_end r) left
last_events r left h e =
    ap (λ b. begun r.dropped (ended_pieces (not b && nat_le r.budget (length left))
    (r.waiting ++ (if b then [] else take r.budget left)))) e
    ∙ ap (λ v. begun r.dropped (pieces v)) (append-nil r.waiting)
    ∙ last_piece r.dropped r.waiting h
    ∙ sym (append-nil _)
    ∙ ap (λ b. ending r.dropped r.waiting ++ begun dropped.Nothing
    (ended_pieces (not b && nat_le r.budget (length left))
    ([] ++ (if b then [] else take r.budget left)))) (sym e)

-- what is told of no bytes is nothing, unless some were dropped
told_none : (d : Dropped) (w : List ℕ) (event : Event) → ending d w ≡ event ∷ []
    → 1 ≤ length w + is_begun d
told_none dropped.Nothing [] event h = absurd cc
told_none dropped.Blanks w event h = omega arith
told_none dropped.Text w event h = omega arith
told_none dropped.Nothing (b ∷ w) event h = omega arith

pub takes_last : (r : Reader) (t : Told) → end_place r.waiting ≡ None → r.ended ≡ true
    → ending r.dropped r.waiting ≡ as_events t r.waiting → Takes r t (at_end r)
takes_last r told.Nothing h e is = record {
  ready = sym (last_ready r h e ∙ ap (λ es. es ++ waiting_whole (at_end r)) is);
  events = λ left. sym (last_events r left h e ∙ ap (λ es. es ++ events (at_end r) left) is);
  whole = λ going seen. absurd (true_not_false (sym e ∙ going));
  ended = refl;
  budget = refl;
  nearer = omega arith;
}
takes_last r told.Line h e is = record {
  ready = last_ready r h e ∙ ap (λ es. es ++ waiting_whole (at_end r)) is;
  events = λ left. last_events r left h e ∙ ap (λ es. es ++ events (at_end r) left) is;
  whole = λ going seen. absurd (true_not_false (sym e ∙ going));
  ended = refl;
  budget = refl;
  nearer = omega (arith, told_none r.dropped r.waiting _ is);
}
takes_last r told.TooLong h e is = record {
  ready = last_ready r h e ∙ ap (λ es. es ++ waiting_whole (at_end r)) is;
  events = λ left. last_events r left h e ∙ ap (λ es. es ++ events (at_end r) left) is;
  whole = λ going seen. absurd (true_not_false (sym e ∙ going));
  ended = refl;
  budget = refl;
  nearer = omega (arith, told_none r.dropped r.waiting _ is);
}

pub last_taken : (v now : Reader) (w : Waiting) (n : ℕ) (t : Told) (piece : List ℕ) → v ≡ now
    → w ≡ record { line = take n v.waiting; waiting = drop n v.waiting } → n ≡ length piece
    → end_place now.waiting ≡ None → IsTrue now.ended → piece ≡ v.waiting
    → ending v.dropped piece ≡ as_events t piece
    → Takes now t (with_window w dropped.Nothing v.ended v.budget)
last_taken v now w n t piece e is len none ended p h =
    let m : n ≡ length v.waiting = len ∙ ap length p in
    let line : take n v.waiting ≡ v.waiting = ap (λ j. take j v.waiting) m
    ∙ take-length v.waiting in
    let rest : drop n v.waiting ≡ [] = drop_all n v.waiting (omega arith) in
    let whole : w ≡ record { line = v.waiting; waiting = [] } =
    is ∙ ap (λ l. record { line = l; waiting = drop n v.waiting }) line
    ∙ ap (λ x. record { line = v.waiting; waiting = x }) rest in
    subst (λ r. Takes r t (with_window w dropped.Nothing v.ended v.budget)) e
    (subst (λ x. Takes v t (with_window x dropped.Nothing v.ended v.budget)) (sym whole)
    (takes_last v t (ap (λ r. end_place r.waiting) e ∙ none) (ap (λ r. r.ended) e ∙ ended)
    (subst (λ q. ending v.dropped q ≡ as_events t q) p h)))

none_whole : (d : Dropped) (w : List ℕ) → end_place w ≡ None → begun d (but_last (pieces w)) ≡ []
none_whole d w h = ap (λ v. begun d (but_last (pieces v))) (sym (append-nil w))
    ∙ ap (λ m. begun d (but_last (first_piece (w ++ []) ∷ m))) ((pieces_open w [] h).1)

ready_open : (r : Reader) → end_place r.waiting ≡ None → r.ended ≡ false → waiting_whole r ≡ []
ready_open r h e =
    ap (λ b. begun r.dropped (ended_pieces (not b) r.waiting)) e ∙ none_whole r.dropped r.waiting h

-- the limit is reached
limit_events : (r : Reader) (left : List ℕ) → end_place r.waiting ≡ None → r.ended ≡ false
    → r.budget ≡ 0 → events r left ≡ []
limit_events r left h e z =
    ap (λ b. begun r.dropped (ended_pieces (not b && nat_le r.budget (length left))
    (r.waiting ++ (if b then [] else take r.budget left)))) e
    ∙ ap (λ n. begun r.dropped (ended_pieces (nat_le n (length left)) (r.waiting ++ take n left))) z
    ∙ ap (λ c. begun r.dropped (ended_pieces c (r.waiting ++ []))) (le-leb 0 (length left) (omega arith))
    ∙ ap (λ v. begun r.dropped (but_last (pieces v))) (append-nil r.waiting)
    ∙ none_whole r.dropped r.waiting h

pub at_limit : (r : Reader) → end_place r.waiting ≡ None → r.ended ≡ false → r.budget ≡ 0
    → IsOver r r × (r.ended ≡ false) × (r.budget ≡ 0)
at_limit r h e z = (
  record {
    none_ready = ready_open r h e;
    none_left = λ left. limit_events r left h e z;
    none_after = λ left. limit_events r left h e z;
    ended = refl;
    budget = refl;
  },
  e,
  z,
)

pub reads_on : (r : Reader) → end_place r.waiting ≡ None → r.ended ≡ false → 0 < r.budget
    → ReadsMore r
reads_on r h e z = record { ready = ready_open r h e; going = e; budget = z }

-- what was dropped tells as much as what stood there
blank_both : (w x : List ℕ) → is_blank (w ++ x) ≡ (is_blank w && is_blank x)
blank_both [] x = refl
blank_both (b ∷ w) x = blank_more (is_blank_byte b) (is_blank w) (is_blank x) (blank_both w x)
  where
    blank_more : (t u v : Bool) {all : Bool} → all ≡ (u && v) → (t && all) ≡ ((t && u) && v)
    blank_more true u v e = e
    blank_more false u v e = refl

too_long : (line : List ℕ) (blank : Bool) → most_bytes < length line → is_blank line ≡ blank
    → events_of_line line ≡ (if blank then [] else TooLong ∷ [])
too_long line blank h e =
    let l : nat_lt most_bytes (length line) ≡ true = lt-ltb most_bytes (length line) h in
    ap (λ t. if is_blank line then [] else if t then TooLong ∷ [] else Line line ∷ []) l
    ∙ ap (λ t. if t then [] else TooLong ∷ []) e

told_dropped : (d : Dropped) (w x : List ℕ) → (d ≡ dropped.Nothing → most_bytes < length w)
    → ending d (w ++ x) ≡ ending (dropped_with d w) x
told_dropped dropped.Text w x h = refl
told_dropped dropped.Blanks w x h =
    ap (λ t. if t then [] else TooLong ∷ []) (blank_both w x) ∙ either (is_blank w)
  where
    either : (t : Bool) → (if t && is_blank x then [] else TooLong ∷ [])
        ≡ ending (if t then dropped.Blanks else dropped.Text) x
    either true = refl
    either false = refl
told_dropped dropped.Nothing w x h =
    let n = h refl in
    too_long (w ++ x) (is_blank w && is_blank x) (omega (arith, n, length-append w x)) (blank_both w x)
    ∙ either (is_blank w)
  where
    either : (t : Bool) → (if t && is_blank x then [] else TooLong ∷ [])
        ≡ ending (if t then dropped.Blanks else dropped.Text) x
    either true = refl
    either false = refl

same_rest : (d e : Dropped) (c : Bool) (p q : List ℕ) (ps : List (List ℕ)) → ending d p ≡ ending e q
    → begun d (if c then but_last (p ∷ ps) else p ∷ ps)
    ≡ begun e (if c then but_last (q ∷ ps) else q ∷ ps)
same_rest d e false p q ps h = ap (λ es. es ++ events_of ps) h
same_rest d e true p q [] h = refl
same_rest d e true p q (n ∷ ps) h = ap (λ es. es ++ events_of (but_last (n ∷ ps))) h

as_if : (c : Bool) (bytes : List ℕ)
    → ended_pieces c bytes ≡ (if c then but_last (pieces bytes) else pieces bytes)
as_if true bytes = refl
as_if false bytes = refl

dropped_events : (d : Dropped) (c : Bool) (w x : List ℕ) → end_place w ≡ None
    → (d ≡ dropped.Nothing → most_bytes < length w)
    → begun (dropped_with d w) (ended_pieces c x) ≡ begun d (ended_pieces c (w ++ x))
dropped_events d c w x none h =
    let p = pieces_open w x none in
    ap (begun (dropped_with d w)) (as_if c x)
    ∙ sym (same_rest d (dropped_with d w) c (w ++ first_piece x) (first_piece x) (more_pieces x)
    (told_dropped d w (first_piece x) h))
    ∙ ap (λ ps. begun d (if c then but_last ps else ps))
    (ap (λ f. f ∷ more_pieces x) (sym p.0) ∙ ap (λ m. first_piece (w ++ x) ∷ m) (sym p.1))
    ∙ ap (begun d) (sym (as_if c (w ++ x)))

begun_once : (d : Dropped) → is_begun d ≤ 1
begun_once dropped.Nothing = omega arith
begun_once dropped.Blanks = omega arith
begun_once dropped.Text = omega arith

begun_or_long : (d : Dropped) (w : List ℕ) → (d ≡ dropped.Nothing → most_bytes < length w)
    → 1 ≤ length w + is_begun d
begun_or_long dropped.Nothing w h = let n = h refl in omega (arith, n)
begun_or_long dropped.Blanks w h = omega arith
begun_or_long dropped.Text w h = omega arith

room : (r : Reader) (w : Waiting) → w.waiting ≡ [] → end_place r.waiting ≡ None
    → (r.dropped ≡ dropped.Nothing → most_bytes < length r.waiting)
    → HasRoom r (with_window w (dropped_with r.dropped r.waiting) r.ended r.budget)
room r w e none h =
    let l : length w.waiting ≡ 0 = ap length e in
    record {
      events = λ left.
          ap (λ v. begun (dropped_with r.dropped r.waiting)
          (ended_pieces (is_over_limit r left) (v ++ to_come r left))) e
          ∙ dropped_events r.dropped (is_over_limit r left) r.waiting (to_come r left) none h;
      whole = λ seen.
          ap (λ v. begun (dropped_with r.dropped r.waiting) (ended_pieces (not r.ended) (v ++ seen))) e
          ∙ dropped_events r.dropped (not r.ended) r.waiting seen none h;
      ended = refl;
      budget = refl;
      nearer = omega (
        arith,
        l,
        begun_once (dropped_with r.dropped r.waiting),
        begun_or_long r.dropped r.waiting h,
      );
      room = omega (arith, l);
    }

pub room_made : (v now : Reader) (w : Waiting) (n : ℕ) (d : Dropped) (piece : List ℕ) → v ≡ now
    → n ≡ length piece → piece ≡ v.waiting
    → w ≡ record { line = take 0 v.waiting; waiting = drop n v.waiting }
    → d ≡ dropped_with v.dropped piece → (v.dropped ≡ dropped.Nothing → most_bytes < n)
    → end_place now.waiting ≡ None → HasRoom now (with_window w d v.ended v.budget)
room_made v now w n d piece e len p is dis h none =
    let m : n ≡ length v.waiting = len ∙ ap length p in
    let rest : w.waiting ≡ [] = ap (λ x. x.waiting) is ∙ drop_all n v.waiting (omega (arith, m)) in
    subst (λ r. HasRoom r (with_window w d v.ended v.budget)) e
    (subst (λ x. HasRoom v (with_window w x v.ended v.budget))
    (sym (dis ∙ ap (dropped_with v.dropped) p))
    (room v w rest (ap (λ r. end_place r.waiting) e ∙ none)
    (λ q. let l = h q in omega (arith, l, m))))

same_bool : (x y : Bool) → (x ≡ true → y ≡ true) → (y ≡ true → x ≡ true) → x ≡ y
same_bool true true f g = refl
same_bool true false f g = sym (f refl)
same_bool false true f g = g refl
same_bool false false f g = refl

le_less : (b l n : ℕ) → n ≤ b → n ≤ l → nat_le (b - n) (l - n) ≡ nat_le b l
le_less b l n h k = same_bool _ _
    (λ e. let m = leb-true (b - n) (l - n) e in le-leb b l (omega (arith, m)))
    (λ e. let m = leb-true b l e in le-leb (b - n) (l - n) (omega (arith, m)))

none_below : (b : ℕ) → nat_le (suc b) 0 ≡ false
none_below b = false_from_ne_true _ (λ e. let m = leb-true (suc b) 0 e in omega (arith, m))

abbrev read_with : Dropped → (new left : List ℕ) → (n b : ℕ) → (ended : Bool) → List Event
read_with d new left n b ended =
    begun d (ended_pieces (not ended && nat_le (b - n) (length (drop n left)))
    (new ++ (if ended then [] else take (b - n) (drop n left))))

-- what is to come stays, where bytes are taken from the source and wait
events_read : (d : Dropped) (w new left : List ℕ) (after : Option (List ℕ)) (n b : ℕ) → 0 < b
    → n ≤ b
    → Adds left after n w new
    → begun d (ended_pieces (not (n == 0) && nat_le (b - n) (length (drop n left)))
    (new ++ (if n == 0 then [] else take (b - n) (drop n left))))
    ≡ begun d (ended_pieces (nat_le b (length left)) (w ++ take b left))
events_read d w new left after n zero p h a = absurd (omega (arith, p))
events_read d w new left after zero (suc b) p h a =
    let none : left ≡ [] = a.at_end refl in
    let bytes : new ++ [] ≡ w ++ [] = append-nil new ∙ a.bytes ∙ ap (λ t. w ++ t) refl in
    ap (λ v. begun d (pieces v)) bytes
    ∙ ap (λ c. begun d (ended_pieces c (w ++ []))) (sym (none_below b))
    ∙ ap (λ l. begun d (ended_pieces (nat_le (suc b) (length l)) (w ++ take (suc b) l))) (sym none)
events_read d w new left after (suc m) (suc b) p h a =
    let n : ℕ = suc m in
    let k = a.within in
    let sum : n + (suc b - n) ≡ suc b = omega (arith, h) in
    let bytes : new ++ take (suc b - n) (drop n left) ≡ w ++ take (suc b) left =
    ap (λ x. x ++ take (suc b - n) (drop n left)) a.bytes
    ∙ append_assoc w (take n left) (take (suc b - n) (drop n left))
    ∙ ap (λ t. w ++ t) (sym (take-add n (suc b - n) left)
    ∙ ap (λ j. take j left) sum) in
    ap (read_with d new left n (suc b)) (eqb-suc-zero m)
    ∙ ap (λ l. begun d (ended_pieces (nat_le (suc b - n) l)
    (new ++ take (suc b - n) (drop n left)))) (length-drop n left)
    ∙ ap (λ c. begun d (ended_pieces c (new ++ take (suc b - n) (drop n left))))
    (le_less (suc b) (length left) n h k)
    ∙ ap (λ v. begun d (ended_pieces (nat_le (suc b) (length left)) v)) bytes

cut_read : (left : List ℕ) (w new : List ℕ) (after : Option (List ℕ)) (n b : ℕ) → 0 < b → n ≤ b
    → Adds left after n w new
    → (not (n == 0) && nat_le (b - n) (length (drop n left))) ≡ nat_le b (length left)
cut_read left w new after n zero p h a = absurd (omega (arith, p))
cut_read left w new after zero (suc b) p h a =
    sym (none_below b) ∙ ap (λ l. nat_le (suc b) (length l)) (sym (a.at_end refl))
cut_read left w new after (suc m) (suc b) p h a =
    ap (λ z. not z && nat_le (suc b - suc m) (length (drop (suc m) left))) (eqb-suc-zero m)
    ∙ ap (nat_le (suc b - suc m)) (length-drop (suc m) left)
    ∙ le_less (suc b) (length left) (suc m) h a.within

end_read : (left : List ℕ) (w new : List ℕ) (after : Option (List ℕ)) (n : ℕ)
    → Adds left after n w new → ((n == 0) ≡ true) ↔ (left ≡ [])
end_read left w new after zero a = (λ e. a.at_end refl, λ e. refl)
end_read left w new after (suc m) a = (
  λ e. let z = eqb-suc-zero m in absurd (true_not_false (sym e ∙ z)),
  λ e. let k = a.within in absurd (omega (arith, k, ap length e)),
)

going : (r : Reader) (left : List ℕ) → r.ended ≡ false
    → events r left
    ≡ begun r.dropped (ended_pieces (nat_le r.budget (length left)) (r.waiting ++ take r.budget left))
going r left e = ap (λ b. begun r.dropped (ended_pieces (not b && nat_le r.budget (length left))
    (r.waiting ++ (if b then [] else take r.budget left)))) e

going_cut : (r : Reader) (left : List ℕ) → r.ended ≡ false
    → is_over_limit r left ≡ nat_le r.budget (length left)
going_cut r left e = ap (λ b. not b && nat_le r.budget (length left)) e

pub took : (now mid v : Reader) (w : Waiting) (left : List ℕ) (after : Option (List ℕ)) (n : ℕ)
    → HasRoom now mid → v ≡ mid → now.ended ≡ false → 0 < now.budget → n ≤ v.budget
    → Adds left after n v.waiting w.waiting
    → Took now left (with_window w v.dropped (n == 0) (v.budget - n)) after
took now mid v w left after n room e going_on some h a =
    let b : v.budget ≡ now.budget = ap (λ r. r.budget) e ∙ room.budget in
    let ve : v.ended ≡ false = ap (λ r. r.ended) e ∙ room.ended ∙ going_on in
    let j : now.budget - (v.budget - n) ≡ n = omega (arith, b, h) in
    let k = a.within in
    let new : Reader = with_window w v.dropped (n == 0) (v.budget - n) in
    record {
      counted = omega (arith, b);
      within = omega (arith, j, k);
      rest = a.rest ∙ ap (λ i. Some (drop i left)) (sym j);
      events = ap (λ i. events new (drop i left)) j
          ∙ events_read v.dropped v.waiting w.waiting left after n v.budget (omega (arith, b, some)) h a
          ∙ sym (going v left ve) ∙ ap (λ r. events r left) e ∙ room.events left;
      is_over_limit = ap (λ i. is_over_limit new (drop i left)) j
          ∙ cut_read left v.waiting w.waiting after n v.budget (omega (arith, b, some)) h a
          ∙ ap (λ i. nat_le i (length left)) b ∙ sym (going_cut now left going_on);
      whole = λ going more seen.
          ap (λ t. begun v.dropped (ended_pieces (not t) (w.waiting ++ seen))) more
          ∙ ap (λ x. begun v.dropped (ended_pieces true (x ++ seen))) a.bytes
          ∙ ap (λ x. begun v.dropped (ended_pieces true x)) (append_assoc v.waiting (take n left) seen)
          ∙ sym (ap (λ t. begun v.dropped (ended_pieces (not t) (v.waiting ++ (take n left ++ seen)))) ve)
          ∙ ap (λ r. whole r (take n left ++ seen)) e
          ∙ room.whole (take n left ++ seen)
          ∙ ap (λ i. whole now (take i left ++ seen)) (sym j);
      end = end_read left v.waiting w.waiting after n a;
    }

abbrev to_end : Bool → ℕ
to_end ended = if ended then 0 else 1

not_end : (k : ℕ) → to_end (suc k == 0) ≡ 1
not_end k = ap to_end (eqb-suc-zero k)

pub read_nearer : (now mid v : Reader) (w : Waiting) (n : ℕ) → HasRoom now mid → v ≡ mid
    → now.ended ≡ false → length w.waiting ≡ length v.waiting + n → n ≤ v.budget
    → steps (with_window w v.dropped (n == 0) (v.budget - n)) < steps now
read_nearer now mid v w n room e going_on len h =
    let ve : v.ended ≡ false = ap (λ r. r.ended) e ∙ room.ended ∙ going_on in
    let s : steps v ≡ 2 * v.budget + length v.waiting + is_begun v.dropped + 1 =
    ap (λ b. 2 * v.budget + length v.waiting + is_begun v.dropped + (if b then 0 else 1)) ve in
    either n len h s (ap steps e) room.nearer
  where
    either : (n : ℕ) → length w.waiting ≡ length v.waiting + n → n ≤ v.budget
        → steps v ≡ 2 * v.budget + length v.waiting + is_begun v.dropped + 1
        → steps v ≡ steps mid → steps mid ≤ steps now
        → 2 * (v.budget - n) + length w.waiting + is_begun v.dropped + to_end (n == 0)
        < steps now
    either zero len h s e m = omega (arith, len, h, s, e, m)
    either (suc k) len h s e m =
        omega (arith, len, h, s, e, m, not_end k)

pub failed_nearer : (now mid v : Reader) (w : Waiting) → HasRoom now mid → v ≡ mid
    → w.waiting ≡ v.waiting → steps (with_window w v.dropped v.ended v.budget) ≤ steps now
failed_nearer now mid v w room e same =
    let s : steps v ≡ steps mid = ap steps e in
    let m = room.nearer in
    omega (arith, ap length same, s, m)

-- what is said of a reader whose blank lines are gone is said of the one before
pub leaves_after : (old mid : Reader) (left : List ℕ) (answer : Next) (new : Reader)
    (after : Option (List ℕ)) → DropsBlanks old mid → Leaves mid left answer new after
    → Leaves old left answer new after
leaves_after old mid left next.Line new after r t = t
leaves_after old mid left next.TooLong new after r t = t
leaves_after old mid left next.Ended new after r t = t
leaves_after old mid left next.InputTooLong new after r t = t
leaves_after old mid left next.Failed new after r t = record {
  rest = t.rest;
  events = t.events ∙ r.events left;
  is_over_limit = t.is_over_limit ∙ same_cut old mid left r;
  whole = λ going seen. t.whole (r.ended ∙ going) seen ∙ r.whole going seen;
}
  where
    same_cut : (old mid : Reader) (left : List ℕ) → DropsBlanks old mid
        → is_over_limit mid left ≡ is_over_limit old left
    same_cut old mid left r = ap (λ e. not e && nat_le mid.budget (length left)) r.ended
        ∙ ap (λ b. not old.ended && nat_le b (length left)) r.budget
leaves_after old mid left next.Read new after r t =
    let b = r.budget in
    let j : mid.budget - new.budget ≡ old.budget - new.budget = ap (λ b. b - new.budget) r.budget in
    let c = t.counted in
    let k = t.within in
    record {
      counted = omega (arith, b, c);
      within = omega (arith, b, k);
      rest = t.rest ∙ ap (λ i. Some (drop i left)) j;
      events = ap (λ i. events new (drop i left)) (sym j) ∙ t.events ∙ r.events left;
      is_over_limit = ap (λ i. is_over_limit new (drop i left)) (sym j) ∙ t.is_over_limit
          ∙ ap (λ e. not e && nat_le mid.budget (length left)) r.ended
          ∙ ap (λ b. not old.ended && nat_le b (length left)) r.budget;
      whole = λ going more seen. t.whole (r.ended ∙ going) more seen
          ∙ r.whole going (take (mid.budget - new.budget) left ++ seen)
          ∙ ap (λ i. whole old (take i left ++ seen)) j;
      end = t.end;
    }
