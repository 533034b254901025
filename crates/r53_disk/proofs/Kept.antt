-- A disk in memory after one step more.
use Rattle.std.proofs.Common.{◌≡◌, ◌⊎◌, inl, inr, ⊎_elim, ℕ, ◌+◌, ◌≤◌, List, [], ◌∷◌, ◌++◌, length, take, Some, refl, sym, ◌∙◌, ap, subst, arith, length-append}
use Rattle.std.proofs.lemmas.List.{take_all, take-append-le}
use Rattle.std.proofs.lemmas.Bool.{cases_lt}
use Rattle.r53_disk.specs.Disk.{TornFrom, Same, Unsettles, Settles, WriteLeaves, Elapses, written}
use Rattle.r53_disk.specs.declared.disk.Done.{Done}
use Rattle.r53_disk.specs.declared.disk.Done.TheVariants as done
use Rattle.r53_disk.specs.Memory.{History, Trace, Wrote, Tried, Synced, place, reading_after, reading_of, ImagesAfter, IsImage, IsImageSince, AfterWrite, AfterSync}
use Rattle.r53_disk.specs.Calls.{trace_of, traces_of}
use Rattle.r53_disk.specs.declared.record.Call.{Call}

pub steps_of-push : (calls : List Call) (call : Call)
    → traces_of (calls ++ call ∷ []) ≡ traces_of calls ++ trace_of call ∷ []
steps_of-push [] call = refl
steps_of-push (c ∷ calls) call = ap (λ l. trace_of c ∷ l) (steps_of-push calls call)

pub same : (P : List ℕ → Type 0) → Same P P
same P c = (λ p. p, λ p. p)

pub reading-write : (bytes : List ℕ) (steps : List Trace) (at : ℕ) (from : List ℕ)
    → at ≤ length (reading_after bytes steps)
    → reading_after bytes (steps ++ Wrote at from ∷ [])
    ≡ written (reading_after bytes steps) at from
reading-write bytes [] at from within = let is : place at bytes ≡ at = omega arith in
    ap (λ n. written bytes n from) is
reading-write bytes (Wrote a w ∷ steps) at from within =
    reading-write (written bytes (place a bytes) w) steps at from within
reading-write bytes (Tried a w ∷ steps) at from within = reading-write bytes steps at from within
reading-write bytes (Synced ∷ steps) at from within = reading-write bytes steps at from within

pub reading-try : (bytes : List ℕ) (steps : List Trace) (at : ℕ) (from : List ℕ)
    → reading_after bytes (steps ++ Tried at from ∷ []) ≡ reading_after bytes steps
reading-try bytes [] at from = refl
reading-try bytes (Wrote a w ∷ steps) at from =
    reading-try (written bytes (place a bytes) w) steps at from
reading-try bytes (Tried a w ∷ steps) at from = reading-try bytes steps at from
reading-try bytes (Synced ∷ steps) at from = reading-try bytes steps at from

pub reading-sync : (bytes : List ℕ) (steps : List Trace)
    → reading_after bytes (steps ++ Synced ∷ []) ≡ reading_after bytes steps
reading-sync bytes [] = refl
reading-sync bytes (Wrote a w ∷ steps) = reading-sync (written bytes (place a bytes) w) steps
reading-sync bytes (Tried a w ∷ steps) = reading-sync bytes steps
reading-sync bytes (Synced ∷ steps) = reading-sync bytes steps

torn_there : (at n : ℕ) (bytes : List ℕ) (images : List ℕ → Type 0) → at ≤ length bytes
    → Same (TornFrom at n images) (TornFrom (place at bytes) n images)
torn_there at n bytes images within =
    let is : at ≡ place at bytes = omega arith in
    subst (λ k. Same (TornFrom k n images) (TornFrom (place at bytes) n images)) (sym is) (same _)

images-write : (bytes : List ℕ) (images : List ℕ
    → Type 0) (steps : List Trace) (at : ℕ) (from : List ℕ) → at ≤ length (reading_after bytes steps)
    → Same (TornFrom at (length from) (ImagesAfter bytes images steps))
    (ImagesAfter bytes images (steps ++ Wrote at from ∷ []))
images-write bytes images [] at from within = torn_there at (length from) bytes images within
images-write bytes images (Wrote a w ∷ steps) at from within =
    images-write (written bytes (place a bytes) w) (TornFrom (place a bytes) (length w) images)
    steps at from within
images-write bytes images (Tried a w ∷ steps) at from within =
    images-write bytes (TornFrom (place a bytes) (length w) images) steps at from within
images-write bytes images (Synced ∷ steps) at from within =
    images-write bytes (λ file. file ≡ bytes) steps at from within

images-try : (bytes : List ℕ) (images : List ℕ
    → Type 0) (steps : List Trace) (at : ℕ) (from : List ℕ) → at ≤ length (reading_after bytes steps)
    → Same (TornFrom at (length from) (ImagesAfter bytes images steps))
    (ImagesAfter bytes images (steps ++ Tried at from ∷ []))
images-try bytes images [] at from within = torn_there at (length from) bytes images within
images-try bytes images (Wrote a w ∷ steps) at from within =
    images-try (written bytes (place a bytes) w) (TornFrom (place a bytes) (length w) images) steps
    at from within
images-try bytes images (Tried a w ∷ steps) at from within =
    images-try bytes (TornFrom (place a bytes) (length w) images) steps at from within
images-try bytes images (Synced ∷ steps) at from within =
    images-try bytes (λ file. file ≡ bytes) steps at from within

images-sync : (bytes : List ℕ) (images : List ℕ → Type 0) (steps : List Trace) (c : List ℕ)
    → ImagesAfter bytes images (steps ++ Synced ∷ []) c → c ≡ reading_after bytes steps
images-sync bytes images [] c is = is
images-sync bytes images (Wrote a w ∷ steps) c is =
    images-sync (written bytes (place a bytes) w) (TornFrom (place a bytes) (length w) images) steps
    c is
images-sync bytes images (Tried a w ∷ steps) c is =
    images-sync bytes (TornFrom (place a bytes) (length w) images) steps c is
images-sync bytes images (Synced ∷ steps) c is = images-sync bytes (λ file. file ≡ bytes) steps c is

-- the steps stay
rests : (old new : History) → new.first ≡ old.first → new.steps ≡ old.steps
    → Elapses (λ (h : History). length h.steps) IsImageSince IsImage old new
rests old new first steps = record {
  later = omega (arith, ap length steps);
  nothing_else =
      λ t c le left. inl (subst (λ (p : List ℕ × List Trace). Since p.0 p.1 t c) both left);
  keeps = λ t c le left. subst (λ (p : List ℕ × List Trace). Since p.0 p.1 t c) (sym both) left;
}
  where
    Since : List ℕ → List Trace → ℕ → List ℕ → Type 0
    Since f ss t c = (k : ℕ) × (t ≤ k) × (k ≤ length ss)
        × ImagesAfter f (λ file. file ≡ f) (take k ss) c

    both : Path (List ℕ × List Trace) (new.first, new.steps) (old.first, old.steps)
    both = λ i. (first i, steps i)

-- one step more
elapses : (old new : History) (step : Trace) → new.first ≡ old.first
    → new.steps ≡ old.steps ++ step ∷ []
    → Elapses (λ (h : History). length h.steps) IsImageSince IsImage old new
elapses old new step first more = record {
  later = omega (arith, longer);
  nothing_else = λ t c le left. if_before t c left (nat_le_or_lt left.0);
  keeps = λ t c le left. (
    left.0,
    left.1,
    omega (arith, left.2, longer),
    subst (λ (p : List ℕ × List Trace). Image p.0 p.1 c)
        (λ i. (sym first i, sym (front left.0 left.2) i)) left.3,
  );
}
  where
    Image : List ℕ → List Trace → List ℕ → Type 0
    Image f ss c = ImagesAfter f (λ file. file ≡ f) ss c

    longer : length new.steps ≡ length old.steps + 1
    longer = ap length more ∙ length-append old.steps (step ∷ [])

    front : (k : ℕ) → k ≤ length old.steps → take k new.steps ≡ take k old.steps
    front k le = ap (take k) more ∙ take-append-le k old.steps (step ∷ []) le

    nat_le_or_lt : (k : ℕ) → (k ≤ length old.steps) ⊎ (length old.steps + 1 ≤ k)
    nat_le_or_lt k = ⊎_elim (λ lt. inr (omega (arith, lt))) inl (cases_lt (length old.steps) k)

    if_before : (t : ℕ) (c : List ℕ) → (left : IsImageSince new t c)
        → (left.0 ≤ length old.steps) ⊎ (length old.steps + 1 ≤ left.0)
        → IsImageSince old t c ⊎ IsImage new c
    if_before t c left (inl before) =
        inl (
          left.0,
          left.1,
          before,
          subst (λ (p : List ℕ × List Trace). Image p.0 p.1 c)
              (λ i. (first i, front left.0 before i))
              left.3,
        )
    if_before t c left (inr last) =
        inr (subst (λ l. Image new.first l c)
        (take_all left.0 new.steps (omega (arith, last, longer))) left.3)

-- a write
module _ (old new : History) (at : ℕ) (from : List ℕ) (within : at ≤ length (reading_of old)) where
  pub told : (r : Done) → AfterWrite old r at from new → (bytes : List ℕ)
      → Some (reading_of old) ≡ Some bytes → WriteLeaves r bytes at from (Some (reading_of new))
  told done.Whole after bytes is =
      let reads : reading_of new ≡ written (reading_of old) at from = ap reading_of after.1
      ∙ reading-write old.first old.steps at from within in
      let same : reading_of old ≡ bytes = Prim.cc in
      ap (λ (l : List ℕ). Some l) (reads ∙ ap (λ l. written l at from) same)
  told done.Failed after bytes is = (reading_of new, refl)

  pub frees : (r : Done) → AfterWrite old r at from new
      → Unsettles r at (length from) (IsImage old) (IsImage new)
  frees done.Whole after =
      subst (λ h. Same (TornFrom at (length from) (IsImage old)) (IsImage h)) (sym after.1)
      (images-write old.first (λ file. file ≡ old.first) old.steps at from within)
  frees done.Failed (inl after) =
      inl (subst (λ h. Same (TornFrom at (length from) (IsImage old)) (IsImage h)) (sym after.1)
      (images-try old.first (λ file. file ≡ old.first) old.steps at from within))
  frees done.Failed (inr after) =
      inr (subst (λ h. Same (IsImage old) (IsImage h)) (sym after) (same _))

  pub elapses_write : (r : Done) → AfterWrite old r at from new
      → Elapses (λ (h : History). length h.steps) IsImageSince IsImage old new
  elapses_write done.Whole after =
      elapses old new (Wrote at from) (ap (λ (h : History). h.first) after.1)
      (ap (λ (h : History). h.steps) after.1)
  elapses_write done.Failed (inl after) =
      elapses old new (Tried at from) (ap (λ (h : History). h.first) after.1)
      (ap (λ (h : History). h.steps) after.1)
  elapses_write done.Failed (inr after) =
      rests old new (ap (λ (h : History). h.first) after) (ap (λ (h : History). h.steps) after)

-- a sync
module _ (old new : History) where
  pub reads_same : (r : Done) → AfterSync old r new → reading_of new ≡ reading_of old
  reads_same done.Whole after = ap reading_of after.1 ∙ reading-sync old.first old.steps
  reads_same done.Failed (inl after) = ap reading_of after.1
  reads_same done.Failed (inr after) = ap reading_of after

  pub settles : (r : Done) → AfterSync old r new
      → Settles r (reading_of old) (IsImage old) (IsImage new)
  settles done.Whole after =
      λ c is. images-sync old.first (λ file. file
      ≡ old.first) old.steps c (subst (λ h. IsImage h c) after.1 is)
  settles done.Failed (inl after) =
      subst (λ h. Same (IsImage old) (IsImage h)) (sym after.1) (same _)
  settles done.Failed (inr after) = subst (λ h. Same (IsImage old) (IsImage h)) (sym after) (same _)

  pub elapses_sync : (r : Done) → AfterSync old r new
      → Elapses (λ (h : History). length h.steps) IsImageSince IsImage old new
  elapses_sync done.Whole after =
      elapses old new Synced (ap (λ (h : History). h.first) after.1)
      (ap (λ (h : History). h.steps) after.1)
  elapses_sync done.Failed (inl after) =
      rests old new (ap (λ (h : History). h.first) after.1) (ap (λ (h : History). h.steps) after.1)
  elapses_sync done.Failed (inr after) =
      rests old new (ap (λ (h : History). h.first) after) (ap (λ (h : History). h.steps) after)

-- the bytes that are kept are what the steps read as
pub bytes_written : (first old new : List ℕ) (steps after : List Trace) (at : ℕ) (from : List ℕ)
    → old ≡ reading_after first steps → at ≤ length (reading_after first steps)
    → after ≡ steps ++ Wrote at from ∷ [] → new ≡ written old at from
    → new ≡ reading_after first after
bytes_written first old new steps after at from was within more now =
    now ∙ ap (λ l. written l at from) was ∙ sym (reading-write first steps at from within)
    ∙ ap (reading_after first) (sym more)

pub bytes_tried : (first bytes : List ℕ) (steps after : List Trace) (at : ℕ) (from : List ℕ)
    → bytes ≡ reading_after first steps → after ≡ steps ++ Tried at from ∷ []
    → bytes ≡ reading_after first after
bytes_tried first bytes steps after at from was more = was
    ∙ sym (ap (reading_after first) more ∙ reading-try first steps at from)

pub bytes_synced : (first bytes : List ℕ) (steps after : List Trace)
    → bytes ≡ reading_after first steps → after ≡ steps ++ Synced ∷ []
    → bytes ≡ reading_after first after
bytes_synced first bytes steps after was more = was
    ∙ sym (ap (reading_after first) more ∙ reading-sync first steps)
