-- The two writes of an append, for a journal that stands on its disk.
use Rattle.std.proofs.Common.{◌≡◌, inl, inr, ℕ, ◌+◌, ◌<◌, ◌≤◌, ◌^◌, List, [], ◌∷◌, ◌++◌, length, drop, get_or, Option, Some, None, refl, sym, ◌∙◌, ap, subst, arith, length-append}
use Rattle.r53_disk.specs.Disk.{Reaches, Only, LeavesOnly, Torn, written}
use Rattle.r53_disk.proofs.Moments.{joined, weaker}
use Rattle.gate_journal.specs.Layout.{body, front, OpensTo}
use Rattle.r53_disk.specs.Synced.{OldOrTorn}
use Rattle.gate_journal.specs.Append.{EndsAt, StandsOn, IsBeforeOrAfter}
use Rattle.gate_journal.proofs.Lists.{torn_behind, written_behind, torn_gate, written_gate}
use Rattle.gate_journal.proofs.Opening.{opens_to_one, opens_still, opens_more, opens_either, front-push, length-body}

-- a place is reached where each reading that is told reaches it
pub reaches : (r : Option (List ℕ)) (n : ℕ) → ((bytes : List ℕ) → r ≡ Some bytes → n ≤ length bytes)
    → Reaches r n
reaches None n long = tt
reaches (Some bytes) n long = long bytes refl

pub reaches_after : (r now : Option (List ℕ)) (n : ℕ) → (r ≡ None → now ≡ None)
    → ((bytes : List ℕ) → r ≡ Some bytes → (after : List ℕ) × (now ≡ Some after)
    × (n ≤ length after)) → Reaches now n
reaches_after None now n none told = subst (λ l. Reaches l n) (sym (none refl)) tt
reaches_after (Some bytes) now n none told = let after = told bytes refl in
    subst (λ l. Reaches l n) (sym after.1) after.2

module _ (at : ℕ) (bytes : List ℕ) (ends : EndsAt at bytes) (e : List ℕ) (g : ℕ) (s : List ℕ)
    (es : List (List ℕ)) (o : OpensTo bytes g s es) where
  abbrev pub from : List ℕ
  from = body e ++ 0 ∷ []

  place : at ≡ length (front g s es)
  place = let one =
      opens_to_one bytes ends.generation g ends.snapshot s ends.entries es ends.opens o in
      ends.place ∙ (λ i. length (front (one.generation i) (one.snapshot i) (one.entries i)))

  abbrev pub rest : List ℕ
  rest = drop (length (front g s es) + 1 + length from) (front g s es ++ o.gate ∷ o.rest)

  pub is_staged : written bytes (at + 1) from ≡ front g s es ++ o.gate ∷ (from ++ rest)
  is_staged = (λ i. written (o.is i) (place i + 1) from)
      ∙ written_behind (front g s es) o.gate o.rest from

  pub is_opened : written (written bytes (at + 1) from) at (1 ∷ []) ≡ front g s es
      ++ 1 ∷ (from ++ rest)
  is_opened = (λ i. written (is_staged i) (place i) (1 ∷ []))
      ∙ written_gate (front g s es) o.gate (from ++ rest) 1

  pub room : at + 1 ≤ length bytes
  room = omega (arith, place, ap length o.is, length-append (front g s es) (o.gate ∷ o.rest))

  pub room_again : at ≤ length (written bytes (at + 1) from)
  room_again =
      omega (
        arith,
        place,
        ap length is_staged,
        length-append (front g s es) (o.gate ∷ (from ++ rest)),
      )

  -- while the entry is written, a crash leaves the old entries
  pub behind : (images : List ℕ → Type 0) → Only bytes images → (c : List ℕ)
      → OldOrTorn (at + 1) (length from) images c → OpensTo c g s es
  behind images only c (inl old) = subst (λ l. OpensTo l g s es) (sym (only c old)) o
  behind images only c (inr (d, was, torn)) =
      let there : Torn (length (front g s es) + 1) (length from) (front g s es
      ++ o.gate ∷ o.rest) c =
      subst (λ (p : List ℕ × ℕ). Torn (p.1 + 1) (length from) p.0 c)
      (λ i. ((only d was ∙ o.is) i, place i)) torn in
      opens_still bytes g s es o c o.gate (drop (length (front g s es) + 1) c) o.closed
      (torn_behind (front g s es) o.gate o.rest (length from) c there)

  module _ (fits : length e < 2 ^ 32) where
    -- while the gate is written, with the new one or without
    pub on_gate : (images : List ℕ → Type 0) → Only (written bytes (at + 1) from) images
        → (c : List ℕ) → OldOrTorn at 1 images c → IsBeforeOrAfter g s es e c
    on_gate images only c (inl old) =
        opens_either bytes g s es o e fits c rest o.gate (only c old ∙ is_staged)
    on_gate images only c (inr (d, was, torn)) =
        let there : Torn (length (front g s es)) 1 (front g s es ++ o.gate ∷ (from ++ rest)) c =
        subst (λ (p : List ℕ × ℕ). Torn p.1 1 p.0 c)
        (λ i. ((only d was ∙ is_staged) i, place i)) torn in
        opens_either bytes g s es o e fits c rest (get_or c (length (front g s es)) 0)
        (torn_gate (front g s es) o.gate (from ++ rest) c there)

    pub added : OpensTo (written (written bytes (at + 1) from) at (1 ∷ [])) g s (es ++ e ∷ [])
    added = opens_more bytes g s es o e fits _ rest is_opened

    pub ends_again : EndsAt (at + (5 + length e))
        (written (written bytes (at + 1) from) at (1 ∷ []))
    ends_again = record {
      generation = g;
      snapshot = s;
      entries = es ++ e ∷ [];
      opens = added;
      place = omega (
        arith,
        place,
        ap length (front-push g s es e),
        length-append (front g s es) (1 ∷ body e),
        length-body e,
      );
    }

-- what is told now was told
pub was_told : (r now : Option (List ℕ)) → (r ≡ None → now ≡ None) → (b : List ℕ) → now ≡ Some b
    → (bytes : List ℕ) × (r ≡ Some bytes)
was_told None now none b told = let never : Path (Option (List ℕ)) None (Some b) = sym (none refl)
    ∙ told in absurd (Prim.cc)
was_told (Some bytes) now none b told = (bytes, refl)

module _ {D : Type 0} (reading : D → Option (List ℕ)) (images : D → List ℕ → Type 0) (moment : D
    → ℕ) (images_since : D → ℕ → List ℕ → Type 0) where
  -- what is read after a fault is one of the images
  pub read_now : ((d : D) (b : List ℕ) → reading d ≡ Some b → images d b)
      → ((d : D) (t : ℕ) (c : List ℕ) → t ≤ moment d → images d c → images_since d t c)
      → (old new : D) (P : List ℕ → Type 0) → LeavesOnly moment images_since old new P
      → (now : List ℕ) × (reading new ≡ Some now) → (now : List ℕ) × (reading new ≡ Some now)
      × P now
  read_now is_image counts_now old new P run (now, told) =
      (now, told, run.each now (counts_now new (moment old) now run.later (is_image new now told)))

  module _ (at : ℕ) (old : D) (stands : StandsOn reading images at old) (e written_as : List ℕ)
      (spelled : written_as ≡ body e ++ 0 ∷ []) where
    module _ (bytes : List ℕ) (told : reading old ≡ Some bytes) (g : ℕ) (s : List ℕ)
        (es : List (List ℕ)) (o : OpensTo bytes g s es) where
      abbrev pub ends : EndsAt at bytes
      ends = stands.file bytes told

      pub first : (mid : D)
          → LeavesOnly moment images_since old mid
          (OldOrTorn (at + 1) (length written_as) (images old))
          → LeavesOnly moment images_since old mid (λ c. OpensTo c g s es)
      first mid run =
          weaker moment images_since old mid _ _
          (subst (λ l. LeavesOnly moment images_since old mid
          (OldOrTorn (at + 1) (length l) (images old))) spelled run)
          (λ c left. behind at bytes ends e g s es o (images old) (stands.durable bytes told) c
          left)

      pub first_either : (mid : D)
          → LeavesOnly moment images_since old mid
          (OldOrTorn (at + 1) (length written_as) (images old))
          → LeavesOnly moment images_since old mid (IsBeforeOrAfter g s es e)
      first_either mid run =
          weaker moment images_since old mid _ _ (first mid run) (λ c left. inl left)

      pub second : length e < 2 ^ 32 → (mid new : D)
          → LeavesOnly moment images_since old mid
          (OldOrTorn (at + 1) (length written_as) (images old))
          → Only (written bytes (at + 1) written_as) (images mid)
          → LeavesOnly moment images_since mid new (OldOrTorn at 1 (images mid))
          → LeavesOnly moment images_since old new (IsBeforeOrAfter g s es e)
      second fits mid new one only two =
          joined moment images_since old mid new _ _ _ (first mid one) two (λ c left. inl left)
          (λ c left. on_gate at bytes ends e g s es o fits (images mid)
          (subst (λ l. Only (written bytes (at + 1) l) (images mid)) spelled only) c left)

      pub more : length e < 2 ^ 32
          → OpensTo (written (written bytes (at + 1) written_as) at (1 ∷ [])) g s (es ++ e ∷ [])
      more fits =
          subst (λ l. OpensTo (written (written bytes (at + 1) l) at (1 ∷ [])) g s (es ++ e ∷ []))
          (sym spelled) (added at bytes ends e g s es o fits)

    module _ (bytes : List ℕ) (told : reading old ≡ Some bytes) where
      pub fits_behind : at + 1 ≤ length bytes
      fits_behind = let there = stands.file bytes told in
          room at bytes there e there.generation there.snapshot there.entries there.opens

      pub fits_again : at ≤ length (written bytes (at + 1) written_as)
      fits_again = let there = stands.file bytes told in
          subst (λ l. at ≤ length (written bytes (at + 1) l)) (sym spelled)
          (room_again at bytes there e there.generation there.snapshot there.entries there.opens)

      pub ends_behind : length e < 2 ^ 32
          → EndsAt (at + (5 + length e)) (written (written bytes (at + 1) written_as) at (1 ∷ []))
      ends_behind fits = let there = stands.file bytes told in
          subst (λ l. EndsAt (at + (5 + length e)) (written (written bytes (at + 1) l) at (1 ∷ [])))
          (sym spelled)
          (ends_again at bytes there e there.generation there.snapshot there.entries there.opens
          fits)

    abbrev pub after : List ℕ → List ℕ
    after bytes = written (written bytes (at + 1) written_as) at (1 ∷ [])

    pub stands_again : length e < 2 ^ 32 → at + (5 + length e) + 1 < 2 ^ 64 → (new : D)
        → (reading old ≡ None → reading new ≡ None)
        → ((bytes : List ℕ) → reading old ≡ Some bytes → (reading new ≡ Some (after bytes))
        × Only (after bytes) (images new)) → StandsOn reading images (at + (5 + length e)) new
    stands_again fits within new untold kept =
        record { within = within; file = file_ends; durable = is_only }
      where
        same : (b : List ℕ) (told : reading new ≡ Some b) → (bytes : List ℕ)
            → reading old ≡ Some bytes → after bytes ≡ b
        same b told bytes was = let is = (kept bytes was).0 in Prim.cc

        file_ends : (b : List ℕ) → reading new ≡ Some b → EndsAt (at + (5 + length e)) b
        file_ends b told = let was = was_told (reading old) (reading new) untold b told in
            subst (λ l. EndsAt (at + (5 + length e)) l) (same b told was.0 was.1)
            (ends_behind was.0 was.1 fits)

        is_only : (b : List ℕ) → reading new ≡ Some b → Only b (images new)
        is_only b told = let was = was_told (reading old) (reading new) untold b told in
            subst (λ l. Only l (images new)) (same b told was.0 was.1) (kept was.0 was.1).1
