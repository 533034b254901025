-- What stays true of valves when one of them is worked out.
use Rattle.std.proofs.Common.{◌≡◌, ◌≢◌, ◌<◌, ◌≤◌, ◌+◌, ℕ, zero, suc, Bool, true, false, List, [], ◌∷◌, length, get_or, arith, refl, ap, sym, ◌∙◌, inl, inr, Some}
use Rattle.std.specs.Prelude.{if◌then◌else◌, ◌==◌, slice_index, slice_index_or, slice_get, All, nat_le}
use Rattle.std.specs.List.{Contains, AllByRecursion}
use Rattle.std.proofs.lemmas.Bool.{cases_eq, cases_lt, eq-eqb, ne_eqb}
use Rattle.std.proofs.lemmas.Option.{slice_get_read}
use Rattle.std.proofs.lemmas.List.{get_or_past}
use Rattle.calculated_health.specs.Status.{swapped_if}
use Rattle.health_valves.specs.Valves.{count}
use Rattle.health_valves.proofs.Members.{in_head, in_tail}
use Rattle.health_valves.proofs.Members.{count_same}
use Rattle.health_valves.specs.Valves.{times, Net, ValvesStandFor, IsLaid, HasEnds, IsCounted, IsOwned, Feeds, CountsFit, Flipped, value_in, MeetsEquation, BothWays, fed_by}
use mathlib.Core.Path.{subst}
use Rattle.std.specs.Vec.{with_items, vec_capacity}
use Rattle.std.proofs.lemmas.List.{with_items_is}
use Rattle.std.proofs.lemmas.List.Elements.{Contains-get_or}
use Rattle.health_valves.specs.declared.valves.Valves.{Valves}
use Rattle.health_valves.specs.declared.valves.ValveFeeds.{ValveFeeds}
use Rattle.health_valves.proofs.Walks.{not_itself}
use Rattle.health_valves.proofs.Times.{count_up, times_in}

agree : (v w : ℕ → Bool) (x : ℕ) → ((n : ℕ) → n ≢ x → w n ≡ v n) → (xs : List ℕ) → v x ≡ w x → AllByRecursion (λ n. w n ≡ v n) xs
agree v w x same [] e = tt
agree v w x same (y ∷ ys) e = (elim (cases_eq y x) [ inl is ↦ rw is (sym e) | inr ne ↦ same y ne ], agree v w x same ys e)

-- one value turns: the count of any feeders turns with it
turned_count : (v w : ℕ → Bool) (x : ℕ) → ((n : ℕ) → n ≢ x → w n ≡ v n) → (xs : List ℕ) (a b : Bool) → v x ≡ a → w x ≡ b → count w xs + (if a then times x xs else 0) ≡ count v xs + (if b then times x xs else 0)
turned_count v w x same xs true true va wb = let e = count_same w v xs (agree v w x same xs (va ∙ sym wb)) in omega arith
turned_count v w x same xs false false va wb = let e = count_same w v xs (agree v w x same xs (va ∙ sym wb)) in omega arith
turned_count v w x same xs false true va wb = let e = count_up v w x va wb same xs in omega arith
turned_count v w x same xs true false va wb = let e = count_up w v x wb va (λ n ne. sym (same n ne)) xs in omega arith

opened : ℕ → (ℕ → Bool) → Bool → ℕ → Bool
opened x v b n = if n == x then b else v n

times_most : (v : ℕ → Bool) (x : ℕ) (xs : List ℕ) → v x ≡ true → times x xs ≤ count v xs
times_most v x [] e = omega arith
times_most v x (y ∷ ys) e = let r = times_most v x ys e in elim (cases_eq y x) [
  | inl is ↦ rw (is, eq-eqb x x refl, e) (omega arith)
  | inr ne ↦ rw (ne_eqb y x ne) (more (v y) _ _ r)
]
  where
    more : (b : Bool) (t c : ℕ) → t ≤ c → t ≤ (if b then c + 1 else c)
    more true t c h = omega arith
    more false t c h = h

times_beside : (v : ℕ → Bool) (x : ℕ) (xs : List ℕ) → v x ≡ false → count v xs + times x xs ≤ length xs
times_beside v x [] e = omega arith
times_beside v x (y ∷ ys) e = let r = times_beside v x ys e in elim (cases_eq y x) [
  | inl is ↦ rw (is, eq-eqb x x refl, e) (omega arith)
  | inr ne ↦ rw (ne_eqb y x ne) (more (v y) _ _ _ r)
]
  where
    more : (b : Bool) (t c n : ℕ) → c + t ≤ n → (if b then c + 1 else c) + t ≤ suc n
    more true t c n h = omega arith
    more false t c n h = omega arith

none_times : (xs : List ℕ) (n size : ℕ) → ((y : ℕ) → Contains xs y → y < size) → size ≤ n → times n xs ≡ 0
none_times xs n size h b = zero_if (times n xs) (λ more. let i = h n (times_in n xs more) in omega arith)
  where
    zero_if : (t : ℕ) → (0 < t → ⊥) → t ≡ 0
    zero_if zero h = refl
    zero_if (suc t) h = absurd (h (omega arith))

pub spared : (v w : ℕ → Bool) (x : ℕ) → ((n : ℕ) → n ≢ x → w n ≡ v n) → (xs : List ℕ) → (Contains xs x → ⊥) → AllByRecursion (λ n. w n ≡ v n) xs
spared v w x same [] out = tt
spared v w x same (y ∷ ys) out = (same y (λ e. out (rw (sym e) (in_head y ys))), spared v w x same ys (λ i. out (in_tail y x ys i)))

even : (a b : Bool) (after before own t s cv cw : ℕ) → t ≡ s → before ≡ own + cv → after + (if a then t else 0) ≡ before + (if b then t else 0) → cw + (if a then s else 0) ≡ cv + (if b then s else 0) → after ≡ own + cw
even true true after before own t s cv cw r o e c = omega arith
even true false after before own t s cv cw r o e c = omega arith
even false true after before own t s cv cw r o e c = omega arith
even false false after before own t s cv cw r o e c = omega arith

module _ (net : Net) (own : ℕ → ℕ) (rows : List ValveFeeds) (feeds : BothWays) (laid : IsLaid net rows feeds) where
  -- each count has room for the turn of one valve
  pub room : (v : ℕ → Bool) (counts : List ℕ) → IsCounted net own v counts → (x : ℕ) (b : Bool) → v x ≡ b → CountsFit b counts (fed_by feeds x)
  room v counts is x true e = λ n. elim (cases_lt n net.size) [
    | inl b ↦ let r = laid.reversed x n b in let c = is.each n b in let t = times_most v x (net.condition n).feeders e in omega arith
    | inr b ↦ let z = none_times (fed_by feeds x) n net.size (laid.within x) b in omega arith
  ]
  room v counts is x false e = λ n. elim (cases_lt n net.size) [
    | inl b ↦ let r = laid.reversed x n b in let c = is.each n b in let t = times_beside v x (net.condition n).feeders e in let s = is.small n b in let m = is.few n b in omega arith
    | inr b ↦ let z = none_times (fed_by feeds x) n net.size (laid.within x) b in let p : slice_index counts n ≡ 0 = get_or_past counts n 0 (omega arith) in omega arith
  ]

  pub turned : (v w : ℕ → Bool) (before after : List ℕ) (x : ℕ) → IsCounted net own v before → length after ≡ length before → ((n : ℕ) → n ≢ x → w n ≡ v n) → Flipped (v x) (w x) before after (fed_by feeds x) → IsCounted net own w after
  turned v w before after x is len same t = record {
    size = len ∙ is.size;
    small = is.small;
    few = is.few;
    each = λ n b. let c = turned_count v w x same (net.condition n).feeders (v x) (w x) refl refl in let e = t n in let r = laid.reversed x n b in let old = is.each n b in even (v x) (w x) _ _ _ _ _ _ _ r old e c;
  }

  -- no valve feeds itself
  pub fed_by_others : HasEnds net → (x : ℕ) → Feeds net x x → ⊥
  fed_by_others ends x f = not_itself (Feeds net) 64 x ends f

  pub meets : HasEnds net → (v w : ℕ → Bool) (x : ℕ) (row : ValveFeeds) (counts : List ℕ) → x < net.size → slice_get rows x ≡ Some row → IsCounted net own v counts → ((n : ℕ) → n ≢ x → w n ≡ v n) → w x ≡ swapped_if row.inverted (nat_le row.need (slice_index counts x)) → MeetsEquation net own w x
  meets ends v w x row counts b at is same e =
      let r = laid.each_row x row at in
      let c : count w (net.condition x).feeders ≡ count v (net.condition x).feeders = count_same _ _ _ (spared v w x same (net.condition x).feeders (fed_by_others ends x)) in
      let k : slice_index counts x ≡ own x + count w (net.condition x).feeders = is.each x b ∙ ap (λ m. own x + m) (sym c) in
      e ∙ rw (r.need, r.inverted, k) refl

-- the row that was read, and its list
pub is_row : (rows : List ValveFeeds) (x : ℕ) (row : ValveFeeds) → x < length rows → row ≡ get_or rows x row → slice_get rows x ≡ Some row
is_row rows x row b e = slice_get_read rows (length rows) x row refl b e

-- every element is in the list
pub all_in : (P : ℕ → Type 0) (xs : List ℕ) → ((y : ℕ) → Contains xs y → P y) → All P xs
all_in P xs h k d b = h (get_or xs k d) (Contains-get_or xs k d b)

-- the valves after one of them was worked out
pub fits_after : (net : Net) (own : ℕ → ℕ) (valves : Valves) (vs0 vs1 : List Bool) (cs0 cs1 given : List ℕ) (x : ℕ) → ValvesStandFor net own valves → vs0 ≡ valves.values.items → cs0 ≡ valves.counts.items → length vs1 ≡ length vs0 → length cs1 ≡ length cs0 → given ≡ fed_by valves.feeds x → ((n : ℕ) → n ≢ x → value_in vs1 n ≡ value_in vs0 n) → Flipped (value_in vs0 x) (value_in vs1 x) cs0 cs1 given → ValvesStandFor net own (record valves { values = with_items valves.values vs1; counts = with_items valves.counts cs1 })
fits_after net own valves vs0 vs1 cs0 cs1 given x fits ev ec lv lc eg same t =
    let lv' : length vs1 ≡ valves.values.len = lv ∙ ap length ev ∙ sym valves.values.ok.0 in
    let lc' : length cs1 ≡ valves.counts.len = lc ∙ ap length ec ∙ sym valves.counts.ok.0 in
    let vs = with_items_is valves.values vs1 lv' in
    let cs = with_items_is valves.counts cs1 lc' in
    let same' = rw ev at same in
    let t' = rw (ev, ec, eg) at t in
    record {
      laid = fits.laid;
      values = ap length vs ∙ lv ∙ ap length ev ∙ fits.values;
      counted = subst (λ l. IsCounted net own (value_in l) (with_items valves.counts cs1).items) (sym vs) (subst (λ l. IsCounted net own (value_in vs1) l) (sym cs) (turned net own _ _ fits.laid (value_in valves.values.items) (value_in vs1) valves.counts.items cs1 x fits.counted (lc ∙ ap length ec) same' t'));
      owned = fits.owned;
      marks = fits.marks;
      room = fits.room;
    }

pub meets_after : (net : Net) → HasEnds net → (own : ℕ → ℕ) (valves : Valves) (vs0 vs1 : List Bool) (cs0 : List ℕ) (row : ValveFeeds) (x : ℕ) → x < length valves.rows.items → ValvesStandFor net own valves → vs0 ≡ valves.values.items → cs0 ≡ valves.counts.items → length vs1 ≡ length vs0 → row ≡ get_or valves.rows.items x row → ((n : ℕ) → n ≢ x → value_in vs1 n ≡ value_in vs0 n) → value_in vs1 x ≡ swapped_if row.inverted (nat_le row.need (slice_index cs0 x)) → MeetsEquation net own (value_in (with_items valves.values vs1).items) x
meets_after net ends own valves vs0 vs1 cs0 row x b fits ev ec lv er same e =
    let vs = with_items_is valves.values vs1 (lv ∙ ap length ev ∙ sym valves.values.ok.0) in
    let same' = rw ev at same in
    let e' = rw ec at e in
    let size = fits.laid.size in
    subst (λ l. MeetsEquation net own (value_in l) x) (sym vs) (meets net own _ _ fits.laid ends (value_in valves.values.items) (value_in vs1) x row valves.counts.items (omega arith) (is_row _ _ _ b er) fits.counted same' e')

-- a valve that isn't fed by x goes on meeting its equation when x turns
pub unfed : (net : Net) (own : ℕ → ℕ) (v w : ℕ → Bool) (x n : ℕ) → ((m : ℕ) → m ≢ x → w m ≡ v m) → n ≢ x → (Feeds net x n → ⊥) → MeetsEquation net own v n → MeetsEquation net own w n
unfed net own v w x n same ne un meets =
    let c : count w (net.condition n).feeders ≡ count v (net.condition n).feeders = count_same _ _ _ (spared v w x same (net.condition n).feeders un) in
    same n ne ∙ meets ∙ ap (λ k. swapped_if (net.condition n).inverted (nat_le (net.condition n).need (own n + k))) (sym c)

pub same_after : (valves : Valves) (vs0 vs1 : List Bool) (x : ℕ) → vs0 ≡ valves.values.items → length vs1 ≡ length vs0 → ((n : ℕ) → n ≢ x → value_in vs1 n ≡ value_in vs0 n) → (n : ℕ) → n ≢ x → value_in (with_items valves.values vs1).items n ≡ value_in valves.values.items n
same_after valves vs0 vs1 x ev lv same n ne =
    let vs = with_items_is valves.values vs1 (lv ∙ ap length ev ∙ sym valves.values.ok.0) in
    ap (λ l. value_in l n) vs ∙ same n ne ∙ ap (λ l. value_in l n) ev

-- other places for the list and the marks
pub relisted : (net : Net) (own : ℕ → ℕ) (s t : Valves) → t.rows ≡ s.rows → t.feeds ≡ s.feeds → t.values ≡ s.values → t.counts ≡ s.counts → t.owns ≡ s.owns → length t.marks.items ≡ length s.marks.items → vec_capacity t.cone ≡ vec_capacity s.cone → ValvesStandFor net own s → ValvesStandFor net own t
relisted net own s t r e v k o m c f = record {
  laid = rw (r, e) f.laid;
  values = rw v f.values;
  counted = rw (v, k) f.counted;
  owned = rw o f.owned;
  marks = m ∙ f.marks;
  room = let h = f.room in omega arith;
}

-- the same valves with more room
pub moved : (net : Net) (own : ℕ → ℕ) (s t : Valves) → t.rows.items ≡ s.rows.items → t.feeds.fed ≡ s.feeds.fed
    → t.values.items ≡ s.values.items → t.counts.items ≡ s.counts.items → t.owns.items ≡ s.owns.items → t.marks.items ≡ s.marks.items
    → vec_capacity s.cone ≤ vec_capacity t.cone → ValvesStandFor net own s → ValvesStandFor net own t
moved net own s t r e v k o m c f = record {
  laid = record {
    size = ap length r ∙ f.laid.size;
    valves = ap length e ∙ f.laid.valves;
    each_row = λ n row w. f.laid.each_row n row (ap (λ l. slice_get l n) (sym r) ∙ w);
    reversed = λ x y b. ap (λ (l : List (List ℕ)). times y (slice_index_or l x [])) e ∙ f.laid.reversed x y b;
    within = λ x y i. f.laid.within x y (subst (λ (l : List (List ℕ)). Contains (slice_index_or l x []) y) e i);
  };
  values = ap length v ∙ f.values;
  counted = subst (λ l. IsCounted net own (value_in t.values.items) l) (sym k)
      (subst (λ l. IsCounted net own (value_in l) s.counts.items) (sym v) f.counted);
  owned = subst (IsOwned net own) (sym o) f.owned;
  marks = ap length m ∙ f.marks;
  room = let h = f.room in omega arith;
}
