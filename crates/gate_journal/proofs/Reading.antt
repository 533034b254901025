-- What stands at a gate that is read.
use Rattle.std.proofs.Common.{◌≡◌, ◌≢◌, inl, inr, ℕ, ◌+◌, ◌<◌, ◌≤◌, ◌^◌, List, [], ◌∷◌, ◌++◌, length, take, drop, refl, sym, ◌∙◌, ap, subst, arith, append_assoc, length-append, length-drop, take-append-drop, drop-drop, append-nil, slice_index, Option, Some}
use Rattle.std.proofs.lemmas.List.{drop_all, drop_at}
use Rattle.byteorder.specs.Endian.{big_bytes, big_number, big_from}
use Rattle.byteorder.specs.Numbers.{big_number-reads_back, length-bytes_high_first}
use Rattle.gate_journal.specs.Layout.{header_text, body, inner, front, OpensTo, IsOpen, generation_of}
use Rattle.gate_journal.specs.Read.{IsRead, IsReadSo, IsBroken, ReadsOn}
use Rattle.gate_journal.specs.Append.{EndsAt, StandsOn}
use Rattle.gate_journal.proofs.Lists.{append_same}
use Rattle.gate_journal.proofs.Opening.{opens_to_one, front-push, are_short-push, length-body}

past : (m n k : ℕ) (l : List ℕ) → m + n ≡ k → drop n (drop m l) ≡ drop k l
past m n k l same = drop-drop n m l ∙ ap (λ k. drop k l) same

module _ (at : ℕ) (file : List ℕ) where
  pub at_end : length file ≤ at → IsBroken (drop at file)
  at_end past = inl (drop_all at file past)

  pub at_gate : (gate : ℕ) → gate ∷ [] ≡ take 1 (drop at file)
      → drop at file ≡ gate ∷ drop (at + 1) file
  at_gate gate is = sym (take-append-drop 1 (drop at file))
      ∙ (λ i. sym is i ++ past at 1 (at + 1) file refl i)

  module _ (is_open : 1 ∷ [] ≡ take 1 (drop at file)) where
    pub too_short : length file < at + 5 → IsBroken (drop at file)
    too_short short =
        inr (
          drop (at + 1) file,
          at_gate 1 is_open,
          inl (omega (arith, short, length-drop (at + 1) file)),
        )

    module _ (n : ℕ) (fits : n < 2 ^ 32) (is : big_bytes 4 n ≡ take 4 (drop (at + 1) file)) where
      behind : drop (at + 1) file ≡ big_bytes 4 n ++ drop (at + 5) file
      behind = sym (take-append-drop 4 (drop (at + 1) file))
          ∙ (λ i. sym is i ++ past (at + 1) 4 (at + 5) file (omega arith) i)

      pub cut_short : length file < at + 5 + n → IsBroken (drop at file)
      cut_short short =
          let count : big_number 4 (drop (at + 1) file) ≡ n = ap (big_from 0 4) behind
          ∙ big_number-reads_back 4 n (drop (at + 5) file) fits in
          inr (
            drop (at + 1) file,
            at_gate 1 is_open,
            inr (omega (arith, short, count, length-drop (at + 1) file)),
          )

      module _ (e : List ℕ) (entry : e ≡ take n (drop (at + 5) file)) (long : length e
          ≡ n) (g : ℕ) (s : List ℕ) (es : List (List ℕ)) (r : IsRead at file g s es) where
        whole : drop at file ≡ 1 ∷ (body e ++ drop (at + (5 + n)) file)
        whole =
            at_gate 1 is_open
            ∙ ap (λ (l : List ℕ). 1 ∷ l) (
            behind
            ∙ (λ i. big_bytes 4 (sym long i)
            ++ (sym (take-append-drop n (drop (at + 5) file))
            ∙ (λ j. sym entry j ++ past (at + 5) n (at + (5 + n)) file (omega arith) j)) i)
            ∙ sym (append_assoc (big_bytes 4 (length e)) e (drop (at + (5 + n)) file))
            )

        pub read_on : IsRead (at + (5 + n)) file g s (es ++ e ∷ [])
        read_on = record {
          is =
              r.is
              ∙ ap (λ (l : List ℕ). front g s es ++ l) whole
              ∙ sym (append_assoc (front g s es) (1 ∷ body e) (drop (at + (5 + n)) file))
              ∙ ap (λ (l : List ℕ). l ++ drop (at + (5 + n)) file) (sym (front-push g s es e));
          place = omega (
            arith,
            r.place,
            ap length (front-push g s es e),
            length-append (front g s es) (1 ∷ body e),
            length-body e,
            long,
          );
          generation_fits = r.generation_fits;
          snapshot_fits = r.snapshot_fits;
          entries_fit = are_short-push es e r.entries_fit (omega (arith, fits, long));
        }

  pub closed : (gate : ℕ) → gate ∷ [] ≡ take 1 (drop at file) → gate ≢ 1
      → (g : ℕ) (s : List ℕ) (es : List (List ℕ)) → IsRead at file g s es → OpensTo file g s es
  closed gate is shut g s es r = record {
    gate = gate;
    rest = drop (at + 1) file;
    is = r.is ∙ ap (λ (l : List ℕ). front g s es ++ l) (at_gate gate is);
    closed = shut;
    generation_fits = r.generation_fits;
    snapshot_fits = r.snapshot_fits;
    entries_fit = r.entries_fit;
  }

-- a part of a file, and what is behind it
part : (m n k : ℕ) (file x : List ℕ) → m + n ≡ k → x ≡ take n (drop m file)
    → drop m file ≡ x ++ drop k file
part m n k file x same is = sym (take-append-drop n (drop m file))
    ∙ (λ i. sym is i ++ past m n k file same i)

gate_first : (file : List ℕ) → 20 ≤ length file → slice_index file 0 ≡ 1 → file ≡ 1 ∷ drop 1 file
gate_first [] long is = absurd (omega (arith, long))
gate_first (a ∷ file) long is = λ i. is i ∷ file

pub begun : (file : List ℕ) (g n : ℕ) (s : List ℕ) → IsOpen file → g < 2 ^ 64
    → big_bytes 8 g ≡ take 8 (drop 8 file) → n < 2 ^ 32 → big_bytes 4 n ≡ take 4 (drop 16 file)
    → s ≡ take n (drop 20 file) → length s ≡ n → IsRead (20 + n) file g s []
begun file g n s o g_fits generation n_fits count snapshot long = record {
  is =
      gate_first file o.long o.gate
      ∙ ap (λ (l : List ℕ). 1 ∷ l) (
      part 1 7 8 file header_text refl (sym o.named)
      ∙ ap (λ (l : List ℕ). header_text ++ l) (part 8 8 16 file (big_bytes 8 g) refl generation
      ∙ ap (λ (l : List ℕ). big_bytes 8 g ++ l) behind
      ∙ sym (append_assoc (big_bytes 8 g) (body s) (drop (20 + n) file)))
      ∙ sym (append_assoc header_text (big_bytes 8 g ++ body s) (drop (20 + n) file))
      ∙ ap (λ (l : List ℕ). l ++ drop (20 + n) file) (sym (append-nil (inner g s)))
      );
  place = omega (
    arith,
    long,
    ap length (append-nil (inner g s)),
    length-append (big_bytes 8 g) (body s),
    length-body s,
    length-bytes_high_first 8 g,
  );
  generation_fits = g_fits;
  snapshot_fits = omega (arith, long, n_fits);
  entries_fit = tt;
}
  where
    behind : drop 16 file ≡ body s ++ drop (20 + n) file
    behind =
        part 16 4 20 file (big_bytes 4 n) refl count
        ∙ (λ i. big_bytes 4 (sym long i) ++ part 20 n (20 + n) file s refl snapshot i)
        ∙ sym (append_assoc (big_bytes 4 (length s)) s (drop (20 + n) file))

pub generation_is : (file : List ℕ) (g : ℕ) → g < 2 ^ 64 → big_bytes 8 g ≡ take 8 (drop 8 file)
    → generation_of file ≡ g
generation_is file g fits is = ap (big_from 0 8) (part 8 8 16 file (big_bytes 8 g) refl is)
    ∙ big_number-reads_back 8 g (drop 16 file) fits

-- a journal that has read up to a closed gate stands there
pub ends_here : {D : Type 0} (reading : D → Option (List ℕ)) (images : D → List ℕ
    → Type 0) (at : ℕ) (old new : D) → ReadsOn reading images at old → at + 1 < 2 ^ 64
    → ((bytes : List ℕ) → reading new ≡ Some bytes → reading old ≡ Some bytes)
    → ((file : List ℕ) → images new file → images old file)
    → (gate : ℕ) → gate ≢ 1
    → ((bytes : List ℕ) → reading old ≡ Some bytes → gate ∷ [] ≡ take 1 (drop at bytes))
    → StandsOn reading images at new
ends_here reading images at old new reads within was left gate shut is = record {
  within = within;
  file = λ bytes told. let so = reads.file bytes (was bytes told) in record {
    generation = so.generation;
    snapshot = so.snapshot;
    entries = so.entries;
    opens = closed at bytes gate (is bytes (was bytes told)) shut so.generation so.snapshot
        so.entries so.read;
    place = so.read.place;
  };
  durable = λ bytes told file now. reads.durable bytes (was bytes told) file (left file now);
}

-- what stands up to a place, with a closed gate behind it
gated : (at : ℕ) (file : List ℕ) (g : ℕ) (s : List ℕ) (es : List (List ℕ)) → IsRead at file g s es
    → OpensTo (front g s es ++ 0 ∷ []) g s es
gated at file g s es r = record {
  gate = 0;
  rest = [];
  is = refl;
  closed = omega arith;
  generation_fits = r.generation_fits;
  snapshot_fits = r.snapshot_fits;
  entries_fit = r.entries_fit;
}

pub read_to_one : (at : ℕ) (file : List ℕ) (g h : ℕ) (s t : List ℕ) (xs ys : List (List ℕ))
    → IsRead at file g s xs → IsRead at file h t ys → (g ≡ h) × (s ≡ t) × (xs ≡ ys)
read_to_one at file g h s t xs ys one two =
    let fronts = append_same (front g s xs) (front h t ys) (drop at file) (drop at file)
    (sym one.place ∙ two.place) (sym one.is ∙ two.is) in
    let ends = ap (λ (l : List ℕ). l ++ 0 ∷ []) fronts.0 in
    let is = opens_to_one (front h t ys ++ 0 ∷ []) g h s t xs ys
    (subst (λ l. OpensTo l g s xs) ends (gated at file g s xs one)) (gated at file h t ys two) in
    (is.generation, is.snapshot, is.entries)

-- what stands at the closed gate
module _ (at : ℕ) (file : List ℕ) (ends : EndsAt at file) where
  pub at_closed : drop at file ≡ ends.opens.gate ∷ ends.opens.rest
  at_closed =
      ap (drop at) ends.opens.is
      ∙ drop_at (front ends.generation ends.snapshot ends.entries) (ends.opens.gate
      ∷ ends.opens.rest) at (sym ends.place)

  pub not_past : length file ≤ at → ⊥
  not_past past =
      omega (
        arith,
        past,
        ends.place,
        ap length ends.opens.is,
        length-append (front ends.generation ends.snapshot ends.entries) (ends.opens.gate
            ∷ ends.opens.rest),
      )

  pub not_opened : 1 ∷ [] ≡ take 1 (drop at file) → ⊥
  not_opened is =
      let same : Path (List ℕ) (1 ∷ []) (ends.opens.gate ∷ []) = is ∙ ap (take 1) at_closed in
      let gate : ends.opens.gate ≡ 1 = Prim.cc in
      ends.opens.closed gate

  pub ends_read : IsReadSo at file
  ends_read = record {
    generation = ends.generation;
    snapshot = ends.snapshot;
    entries = ends.entries;
    read = record {
      is = ends.opens.is
          ∙ ap (λ (l : List ℕ). front ends.generation ends.snapshot ends.entries
          ++ l) (sym at_closed);
      place = ends.place;
      generation_fits = ends.opens.generation_fits;
      snapshot_fits = ends.opens.snapshot_fits;
      entries_fit = ends.opens.entries_fit;
    };
  }

-- a journal that stands can be read on
pub stands_reads : {D : Type 0} (reading : D → Option (List ℕ)) (images : D → List ℕ
    → Type 0) (at : ℕ) (disk : D)
    → StandsOn reading images at disk → ReadsOn reading images at disk
stands_reads reading images at disk stands = record {
  file = λ bytes told. ends_read at bytes (stands.file bytes told);
  durable = stands.durable;
}
