-- What a file holds up to two places: of the entries up to the one and up to the other, one list
-- begins the other.
use Rattle.std.proofs.Common.{◌≡◌, ◌≢◌, ◌⊎◌, inl, inr, ℕ, ◌+◌, ◌<◌, ◌≤◌, ◌^◌, List, [], ◌∷◌, ◌++◌}
use Rattle.std.proofs.Common.{length, take, drop, slice_index, refl, sym, ◌∙◌, ap, subst, arith}
use Rattle.std.proofs.Common.{append_assoc, length-append, drop-drop}
use Rattle.std.proofs.lemmas.List.{drop_at, take_at}
use Rattle.byteorder.specs.Endian.{big_bytes, big_from, big_number}
use Rattle.byteorder.specs.Numbers.{big_number-reads_back, length-bytes_high_first}
use Rattle.gate_journal.specs.Layout.{AreShort, IsOpen, OpensTo, body, front, generation_of, inner}
use Rattle.gate_journal.specs.Layout.{opened}
use Rattle.gate_journal.specs.Read.{IsBroken, IsRead}
use Rattle.gate_journal.proofs.Lists.{append_same}
use Rattle.gate_journal.proofs.Opening.{length-body}
use Rattle.store_model.specs.Opening.{snapshot_of}

-- ---- lists of entries

-- the others are these entries and more behind them
abbrev pub Begins : (entries others : List (List ℕ)) → Type 0
Begins entries others = (more : List (List ℕ)) × (others ≡ entries ++ more)

opened-append : (es fs : List (List ℕ)) → opened (es ++ fs) ≡ opened es ++ opened fs
opened-append [] fs = refl
opened-append (e ∷ es) fs = ap (λ (l : List ℕ). 1 ∷ (body e ++ l)) (opened-append es fs)
    ∙ ap (λ (l : List ℕ). 1 ∷ l) (sym (append_assoc (body e) (opened es) (opened fs)))

front-append : (g : ℕ) (s : List ℕ) (es fs : List (List ℕ))
    → front g s (es ++ fs) ≡ front g s es ++ opened fs
front-append g s es fs = ap (λ (l : List ℕ). 1 ∷ (inner g s ++ l)) (opened-append es fs)
    ∙ ap (λ (l : List ℕ). 1 ∷ l) (sym (append_assoc (inner g s) (opened es) (opened fs)))

short_at : (es : List (List ℕ)) (e : List ℕ) (more : List (List ℕ)) → AreShort (es ++ e ∷ more)
    → length e < 2 ^ 32
short_at [] e more short = short.0
short_at (x ∷ es) e more short = short_at es e more short.1

-- ---- what stands at a gate

body_same : (x y : List ℕ) (xs ys : List ℕ) → length x < 2 ^ 32 → length y < 2 ^ 32
    → body x ++ xs ≡ body y ++ ys → (x ≡ y) × (xs ≡ ys)
body_same x y xs ys short shorter is =
    let apart : big_bytes 4 (length x) ++ (x ++ xs) ≡ big_bytes 4 (length y) ++ (y ++ ys) =
    sym (append_assoc (big_bytes 4 (length x)) x xs) ∙ is
    ∙ append_assoc (big_bytes 4 (length y)) y ys in
    let counts : length x ≡ length y =
    sym (big_number-reads_back 4 (length x) (x ++ xs) short) ∙ ap (big_from 0 4) apart
    ∙ big_number-reads_back 4 (length y) (y ++ ys) shorter in
    append_same x y xs ys counts
    (append_same (big_bytes 4 (length x)) (big_bytes 4 (length y)) (x ++ xs) (y ++ ys)
    (length-bytes_high_first 4 (length x) ∙ sym (length-bytes_high_first 4 (length y))) apart).1

-- a whole entry behind an open gate isn't broken
pub no_break : (e rest : List ℕ) → length e < 2 ^ 32 → IsBroken (1 ∷ (body e ++ rest)) → ⊥
no_break e rest short (inl none) = absurd (Prim.cc)
no_break e rest short (inr (behind, is, inl cut)) =
    let same : body e ++ rest ≡ behind = ap (drop 1) is in
    omega (arith, cut, ap length same, length-append (body e) rest, length-body e)
no_break e rest short (inr (behind, is, inr cut)) =
    let same : body e ++ rest ≡ behind = ap (drop 1) is in
    let count : big_number 4 behind ≡ length e =
    ap (big_from 0 4) (sym same ∙ append_assoc (big_bytes 4 (length e)) e rest)
    ∙ big_number-reads_back 4 (length e) (e ++ rest) short in
    omega (arith, cut, count, ap length same, length-append (body e) rest, length-body e)

-- a closed gate isn't broken
pub no_break_closed : (gate : ℕ) (rest : List ℕ) → gate ≢ 1 → IsBroken (gate ∷ rest) → ⊥
no_break_closed gate rest closed (inl none) = absurd (Prim.cc)
no_break_closed gate rest closed (inr (behind, is, cut)) =
    let first : gate ≡ 1 = Prim.cc in closed first

-- ---- two readings

begins_more : (x y : List ℕ) (xs ys : List (List ℕ)) → x ≡ y → Begins xs ys ⊎ Begins ys xs
    → Begins (x ∷ xs) (y ∷ ys) ⊎ Begins (y ∷ ys) (x ∷ xs)
begins_more x y xs ys same (inl (more, is)) = inl (more, λ i. sym same i ∷ is i)
begins_more x y xs ys same (inr (more, is)) = inr (more, λ i. same i ∷ is i)

one_begins : (xs ys : List (List ℕ)) (r t : List ℕ) → AreShort xs → AreShort ys
    → opened xs ++ r ≡ opened ys ++ t → Begins xs ys ⊎ Begins ys xs
one_begins [] ys r t sx sy is = inl (ys, refl)
one_begins (x ∷ xs) [] r t sx sy is = inr (x ∷ xs, refl)
one_begins (x ∷ xs) (y ∷ ys) r t sx sy is =
    let behind : (body x ++ opened xs) ++ r ≡ (body y ++ opened ys) ++ t = ap (drop 1) is in
    let parts = body_same x y (opened xs ++ r) (opened ys ++ t) sx.0 sy.0
    (sym (append_assoc (body x) (opened xs) r) ∙ behind ∙ append_assoc (body y) (opened ys) t) in
    begins_more x y xs ys parts.0 (one_begins xs ys r t sx.1 sy.1 parts.1)

regroup : (a b c d : List ℕ) → ((a ++ b) ++ c) ++ d ≡ a ++ (b ++ (c ++ d))
regroup a b c d = append_assoc (a ++ b) c d ∙ append_assoc a b (c ++ d)

-- what was read up to two places of a file
pub record AreTwo (g h : ℕ) (s t : List ℕ) (es fs : List (List ℕ)) : Type 0 where
  pub generation : g ≡ h
  pub snapshot : s ≡ t
  pub entries : Begins es fs ⊎ Begins fs es

pub two_readings : (file : List ℕ) (p q g h : ℕ) (s t : List ℕ) (es fs : List (List ℕ))
    → IsRead p file g s es → IsRead q file h t fs → AreTwo g h s t es fs
two_readings file p q g h s t es fs one two =
    let is : front g s es ++ drop p file ≡ front h t fs ++ drop q file = sym one.is ∙ two.is in
    let named : ((big_bytes 8 g ++ body s) ++ opened es) ++ drop p file
    ≡ ((big_bytes 8 h ++ body t) ++ opened fs) ++ drop q file = ap (drop 8) is in
    let parts = append_same (big_bytes 8 g) (big_bytes 8 h)
    (body s ++ (opened es ++ drop p file)) (body t ++ (opened fs ++ drop q file))
    (length-bytes_high_first 8 g ∙ sym (length-bytes_high_first 8 h))
    (sym (regroup (big_bytes 8 g) (body s) (opened es) (drop p file)) ∙ named
    ∙ regroup (big_bytes 8 h) (body t) (opened fs) (drop q file)) in
    let snapshots = body_same s t (opened es ++ drop p file) (opened fs ++ drop q file)
    one.snapshot_fits two.snapshot_fits parts.1 in
    record {
      generation = sym (big_number-reads_back 8 g [] one.generation_fits)
          ∙ ap (λ (l : List ℕ). big_from 0 8 (l ++ [])) parts.0
          ∙ big_number-reads_back 8 h [] two.generation_fits;
      snapshot = snapshots.0;
      entries = one_begins es fs (drop p file) (drop q file) one.entries_fit two.entries_fit
          snapshots.1;
    }

-- ---- a file up to a place

module _ (file : List ℕ) (p g : ℕ) (s : List ℕ) (es : List (List ℕ)) (r : IsRead p file g s es)
  where
    from_generation : drop 8 file ≡ big_bytes 8 g ++ (body s ++ (opened es ++ drop p file))
    from_generation = ap (drop 8) r.is
        ∙ regroup (big_bytes 8 g) (body s) (opened es) (drop p file)

    from_snapshot : drop 16 file ≡ body s ++ (opened es ++ drop p file)
    from_snapshot = sym (drop-drop 8 8 file) ∙ ap (drop 8) from_generation
        ∙ drop_at (big_bytes 8 g) (body s ++ (opened es ++ drop p file)) 8
        (length-bytes_high_first 8 g)

    counted : drop 16 file ≡ big_bytes 4 (length s) ++ (s ++ (opened es ++ drop p file))
    counted = from_snapshot ∙ append_assoc (big_bytes 4 (length s)) s (opened es ++ drop p file)

    -- the length of the snapshot, and the snapshot
    pub count_is : big_number 4 (drop 16 file) ≡ length s
    count_is = ap (big_from 0 4) counted
        ∙ big_number-reads_back 4 (length s) (s ++ (opened es ++ drop p file)) r.snapshot_fits

    behind_count : drop 20 file ≡ s ++ (opened es ++ drop p file)
    behind_count = sym (drop-drop 4 16 file) ∙ ap (drop 4) counted
        ∙ drop_at (big_bytes 4 (length s)) (s ++ (opened es ++ drop p file)) 4
        (length-bytes_high_first 4 (length s))

    pub snapshot_is : snapshot_of file ≡ s
    snapshot_is = (λ i. take (count_is i) (behind_count i))
        ∙ take_at s (opened es ++ drop p file) (length s) refl

    pub is_long : 20 + length s ≤ length file
    is_long = omega (
      arith,
      ap length r.is,
      length-append (front g s es) (drop p file),
      length-append (inner g s) (opened es),
      length-append (big_bytes 8 g) (body s),
      length-body s,
      length-bytes_high_first 8 g,
    )

    -- it is open, and of this generation
    pub read_open : IsOpen file
    read_open = record {
      long = omega (arith, is_long);
      gate = ap (λ l. slice_index l 0) r.is;
      named = ap (λ (l : List ℕ). take 7 (drop 1 l)) r.is;
    }

    pub read_generation : generation_of file ≡ g
    read_generation = ap (big_from 0 8) from_generation
        ∙ big_number-reads_back 8 g (body s ++ (opened es ++ drop p file)) r.generation_fits

    -- between this place and one behind more entries there stand these
    pub between : (q : ℕ) (more : List (List ℕ)) → IsRead q file g s (es ++ more)
        → drop p file ≡ opened more ++ drop q file
    between q more later =
        ap (drop p) (later.is ∙ ap (λ (l : List ℕ). l ++ drop q file) (front-append g s es more)
        ∙ append_assoc (front g s es) (opened more) (drop q file))
        ∙ drop_at (front g s es) (opened more ++ drop q file) p (sym r.place)

    -- at this place and behind more entries: an entry is whole here
    pub ahead : (q : ℕ) (e : List ℕ) (more : List (List ℕ)) → IsRead q file g s (es ++ e ∷ more)
        → drop p file ≡ 1 ∷ (body e ++ (opened more ++ drop q file))
    ahead q e more later = between q (e ∷ more) later
        ∙ ap (λ (l : List ℕ). 1 ∷ l) (append_assoc (body e) (opened more) (drop q file))

    pub not_broken : (q : ℕ) (e : List ℕ) (more : List (List ℕ))
        → IsRead q file g s (es ++ e ∷ more) → IsBroken (drop p file) → ⊥
    not_broken q e more later broken =
        no_break e (opened more ++ drop q file) (short_at es e more later.entries_fit)
        (subst IsBroken (ahead q e more later) broken)

    -- of two entries that stand here each is the other
    pub one_entry : (q t : ℕ) (e other : List ℕ) (more : List (List ℕ))
        → IsRead q file g s (es ++ e ∷ more) → IsRead t file g s (es ++ other ∷ []) → other ≡ e
    one_entry q t e other more later read =
        (body_same other e (opened [] ++ drop t file) (opened more ++ drop q file)
        (short_at es other [] read.entries_fit) (short_at es e more later.entries_fit)
        (ap (drop 1) (sym (ahead t other [] read) ∙ ahead q e more later))).0

    -- where a closed gate stands there is no entry
    pub none_ahead : (gate : ℕ) (rest : List ℕ) → gate ≢ 1 → drop p file ≡ gate ∷ rest
        → (q : ℕ) (e : List ℕ) (more : List (List ℕ)) → IsRead q file g s (es ++ e ∷ more) → ⊥
    none_ahead gate rest closed here q e more later =
        let same : gate ∷ rest ≡ 1 ∷ (body e ++ (opened more ++ drop q file)) =
        sym here ∙ ahead q e more later in
        let first : gate ≡ 1 = Prim.cc in closed first

    -- a place behind the same entries is this one
    pub one_place : (q : ℕ) (fs : List (List ℕ)) → IsRead q file g s fs → fs ≡ es → p ≡ q
    one_place q fs other same =
        r.place ∙ ap (λ l. length (front g s l)) (sym same) ∙ sym other.place

-- a file that opens is read up to its closed gate
module _ (file : List ℕ) (g : ℕ) (s : List ℕ) (es : List (List ℕ)) (o : OpensTo file g s es) where
  pub at_gate : drop (length (front g s es)) file ≡ o.gate ∷ o.rest
  at_gate = ap (drop (length (front g s es))) o.is
      ∙ drop_at (front g s es) (o.gate ∷ o.rest) (length (front g s es)) refl

  pub opens_read : IsRead (length (front g s es)) file g s es
  opens_read = record {
    is = o.is ∙ ap (λ (l : List ℕ). front g s es ++ l) (sym at_gate);
    place = refl;
    generation_fits = o.generation_fits;
    snapshot_fits = o.snapshot_fits;
    entries_fit = o.entries_fit;
  }
