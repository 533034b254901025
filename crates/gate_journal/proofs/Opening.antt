-- What a file opens to.
use Rattle.std.proofs.Common.{◌≡◌, ◌≢◌, ◌⊎◌, inl, inr, ℕ, ◌+◌, ◌<◌, ◌^◌, List, [], ◌∷◌, ◌++◌, length, drop, refl, sym, ◌∙◌, ap, arith, append_assoc, length-append, append-nil}
use Rattle.std.proofs.lemmas.Bool.{cases_eq}
use Rattle.byteorder.specs.Endian.{big_bytes, big_from}
use Rattle.byteorder.specs.Numbers.{big_number-reads_back, length-bytes_high_first}
use Rattle.gate_journal.specs.Layout.{body, opened, inner, front, AreShort, OpensTo}
use Rattle.gate_journal.proofs.Lists.{append_same}

pub length-body : (e : List ℕ) → length (body e) ≡ 4 + length e
length-body e =
    omega (arith, length-append (big_bytes 4 (length e)) e, length-bytes_high_first 4 (length e))

body_same : (x y : List ℕ) (xs ys : List ℕ) → length x < 2 ^ 32 → length y < 2 ^ 32
    → body x ++ xs ≡ body y ++ ys → (x ≡ y) × (xs ≡ ys)
body_same x y xs ys short shorter is =
    let apart : big_bytes 4 (length x) ++ (x ++ xs) ≡ big_bytes 4 (length y) ++ (y ++ ys) =
    sym (append_assoc (big_bytes 4 (length x)) x xs) ∙ is
    ∙ append_assoc (big_bytes 4 (length y)) y ys in
    let counts : length x ≡ length y =
    sym (big_number-reads_back 4 (length x) (x ++ xs) short) ∙ ap (big_from 0 4) apart
    ∙ big_number-reads_back 4 (length y) (y ++ ys) shorter in
    append_same x y xs ys counts
    (append_same (big_bytes 4 (length x)) (big_bytes 4 (length y)) (x ++ xs) (y
    ++ ys) (length-bytes_high_first 4 (length x)
    ∙ sym (length-bytes_high_first 4 (length y))) apart).1

opened_same : (xs ys : List (List ℕ)) (g h : ℕ) (r t : List ℕ) → AreShort xs → AreShort ys → g ≢ 1
    → h ≢ 1 → opened xs ++ g ∷ r ≡ opened ys ++ h ∷ t → xs ≡ ys
opened_same [] [] g h r t sx sy gc hc is = refl
opened_same [] (y ∷ ys) g h r t sx sy gc hc is = let first : g ≡ 1 = Prim.cc in absurd (gc first)
opened_same (x ∷ xs) [] g h r t sx sy gc hc is = let first : h ≡ 1 = Prim.cc in absurd (hc first)
opened_same (x ∷ xs) (y ∷ ys) g h r t sx sy gc hc is =
    let behind : (body x ++ opened xs) ++ g ∷ r ≡ (body y ++ opened ys) ++ h ∷ t = ap (drop 1) is in
    let parts =
    body_same x y (opened xs ++ g ∷ r) (opened ys
    ++ h ∷ t) sx.0 sy.0 (sym (append_assoc (body x) (opened xs) (g ∷ r)) ∙ behind
    ∙ append_assoc (body y) (opened ys) (h ∷ t)) in
    let rest = opened_same xs ys g h r t sx.1 sy.1 gc hc parts.1 in
    λ i. parts.0 i ∷ rest i

pub record IsSame (g h : ℕ) (s t : List ℕ) (xs ys : List (List ℕ)) : Type 0 where
  pub generation : g ≡ h
  pub snapshot : s ≡ t
  pub entries : xs ≡ ys

-- a file opens to one thing
pub opens_to_one : (file : List ℕ) (g h : ℕ) (s t : List ℕ) (xs ys : List (List ℕ))
    → OpensTo file g s xs → OpensTo file h t ys → IsSame g h s t xs ys
opens_to_one file g h s t xs ys x y =
    let is : front g s xs ++ x.gate ∷ x.rest ≡ front h t ys ++ y.gate ∷ y.rest = sym x.is ∙ y.is in
    let named : ((big_bytes 8 g ++ body s) ++ opened xs) ++ x.gate ∷ x.rest
    ≡ ((big_bytes 8 h ++ body t) ++ opened ys) ++ y.gate ∷ y.rest = ap (drop 8) is in
    let apart : big_bytes 8 g ++ (body s ++ (opened xs ++ x.gate ∷ x.rest)) ≡ big_bytes 8 h
    ++ (body t ++ (opened ys ++ y.gate ∷ y.rest)) =
    sym (regroup (big_bytes 8 g) (body s) (opened xs) (x.gate ∷ x.rest)) ∙ named
    ∙ regroup (big_bytes 8 h) (body t) (opened ys) (y.gate ∷ y.rest) in
    let parts =
    append_same (big_bytes 8 g) (big_bytes 8 h) _ _ (length-bytes_high_first 8 g
    ∙ sym (length-bytes_high_first 8 h)) apart in
    let snapshots =
    body_same s t (opened xs ++ x.gate ∷ x.rest) (opened ys ++ y.gate ∷ y.rest) x.snapshot_fits
    y.snapshot_fits parts.1 in
    record {
      generation = sym (big_number-reads_back 8 g [] x.generation_fits)
          ∙ ap (λ (l : List ℕ). big_from 0 8 (l ++ [])) parts.0
          ∙ big_number-reads_back 8 h [] y.generation_fits;
      snapshot = snapshots.0;
      entries =
          opened_same xs ys x.gate y.gate x.rest y.rest x.entries_fit y.entries_fit x.closed
          y.closed snapshots.1;
    }
  where
    regroup : (a b c d : List ℕ) → ((a ++ b) ++ c) ++ d ≡ a ++ (b ++ (c ++ d))
    regroup a b c d = append_assoc (a ++ b) c d ∙ append_assoc a b (c ++ d)

pub opened-push : (xs : List (List ℕ)) (e : List ℕ)
    → opened (xs ++ e ∷ []) ≡ opened xs ++ 1 ∷ body e
opened-push [] e = ap (λ (l : List ℕ). 1 ∷ l) (append-nil (body e))
opened-push (x ∷ xs) e = ap (λ (l : List ℕ). 1 ∷ (body x ++ l)) (opened-push xs e)
    ∙ ap (λ (l : List ℕ). 1 ∷ l) (sym (append_assoc (body x) (opened xs) (1 ∷ body e)))

pub front-push : (g : ℕ) (s : List ℕ) (xs : List (List ℕ)) (e : List ℕ)
    → front g s (xs ++ e ∷ []) ≡ front g s xs ++ 1 ∷ body e
front-push g s xs e = ap (λ (l : List ℕ). 1 ∷ (inner g s ++ l)) (opened-push xs e)
    ∙ ap (λ (l : List ℕ). 1 ∷ l) (sym (append_assoc (inner g s) (opened xs) (1 ∷ body e)))

pub are_short-push : (xs : List (List ℕ)) (e : List ℕ) → AreShort xs → length e < 2 ^ 32
    → AreShort (xs ++ e ∷ [])
are_short-push [] e short fits = (fits, tt)
are_short-push (x ∷ xs) e short fits = (short.0, are_short-push xs e short.1 fits)

module _ (file : List ℕ) (g : ℕ) (s : List ℕ) (xs : List (List ℕ)) (o : OpensTo file g s xs) where
  -- another file with the same front and a closed gate
  pub opens_still : (c : List ℕ) (gate : ℕ) (rest : List ℕ) → gate ≢ 1
      → c ≡ front g s xs ++ gate ∷ rest → OpensTo c g s xs
  opens_still c gate rest closed is =
      record {
        gate = gate;
        rest = rest;
        is = is;
        closed = closed;
        generation_fits =
            o.generation_fits;
        snapshot_fits = o.snapshot_fits;
        entries_fit = o.entries_fit;
      }

  module _ (e : List ℕ) (fits : length e < 2 ^ 32) (c rest : List ℕ) where
    -- with an entry behind its open gate
    pub opens_more : c ≡ front g s xs ++ 1 ∷ ((body e ++ 0 ∷ []) ++ rest)
        → OpensTo c g s (xs ++ e ∷ [])
    opens_more is = record {
      gate = 0;
      rest = rest;
      is =
          is
          ∙ ap (λ (l : List ℕ). front g s xs ++ 1 ∷ l) (append_assoc (body e) (0 ∷ []) rest)
          ∙ sym (append_assoc (front g s xs) (1 ∷ body e) (0 ∷ rest))
          ∙ ap (λ (l : List ℕ). l ++ 0 ∷ rest) (sym (front-push g s xs e));
      closed = omega arith;
      generation_fits = o.generation_fits;
      snapshot_fits = o.snapshot_fits;
      entries_fit = are_short-push xs e o.entries_fit fits;
    }

    -- with an entry behind whatever gate
    pub opens_either : (gate : ℕ) → c ≡ front g s xs ++ gate ∷ ((body e ++ 0 ∷ []) ++ rest)
        → OpensTo c g s xs ⊎ OpensTo c g s (xs ++ e ∷ [])
    opens_either gate is = elim (cases_eq gate 1) [
      | inl open_gate ↦
          inr (opens_more (is
          ∙ ap (λ n. front g s xs ++ n ∷ ((body e ++ 0 ∷ []) ++ rest)) open_gate))
      | inr shut ↦ inl (opens_still c gate ((body e ++ 0 ∷ []) ++ rest) shut is)
    ]
