-- The laws of a disk, for one in memory.
use Rattle.std.specs.Prelude.{◌≡◌, ℕ, ◌≤◌, List, [], ◌∷◌, ◌++◌, length, take, Some}
use Rattle.std.proofs.Common.{refl, sym, ◌∙◌, ap, subst, arith, ◌+◌, ◌-◌, drop, append_assoc, length-append, length-drop, length-take-le}
use Rattle.std.proofs.lemmas.List.{take_all, take_at, drop_at}
use Rattle.r53_disk.specs.Disk.{Torn, written}
use Rattle.r53_disk.specs.Memory.{History, Trace, Wrote, Tried, Synced, reading_of, reading_after, place, ImagesAfter, IsImage, IsImageSince}

-- a write that a crash doesn't cut short
module _ (at : ℕ) (old from : List ℕ) (within : at ≤ length old) where
  front : length (take at old) ≡ at
  front = length-take-le at old within

  size : length (written old at from) ≡ at + (length from + length (drop (at + length from) old))
  size = omega (arith, length-append (take at old) (from ++ drop (at + length from) old), length-append from (drop (at + length from) old), front)

  pub length-written : length (written old at from) ≡ at + (length from + (length old - (at + length from)))
  length-written = omega (arith, size, length-drop (at + length from) old)

  behind : drop (at + length from) (written old at from) ≡ drop (at + length from) old
  behind =
      ap (drop (at + length from)) (sym (append_assoc (take at old) from (drop (at + length from) old)))
      ∙ drop_at (take at old ++ from) (drop (at + length from) old) (at + length from) (omega (arith, length-append (take at old) from, front))

  pub whole_is_torn : Torn at (length from) old (written old at from)
  whole_is_torn = record {
    before = take_at (take at old) (from ++ drop (at + length from) old) at front;
    after = behind;
    no_shorter = omega (arith, size, length-drop (at + length from) old);
    no_longer = omega (arith, size, length-drop (at + length from) old);
  }

-- a write that left nothing
pub untouched : (at n : ℕ) (old : List ℕ) → Torn at n old old
untouched at n old = record { before = refl; after = refl; no_shorter = omega arith; no_longer = omega arith }

reads_from : (bytes : List ℕ) (images : List ℕ → Type 0) (steps : List Trace) → images bytes → ImagesAfter bytes images steps (reading_after bytes steps)
reads_from bytes images [] here = here
reads_from bytes images (Wrote at from ∷ steps) here =
    reads_from (written bytes (place at bytes) from) _ steps (bytes, here, whole_is_torn (place at bytes) bytes from (omega arith))
reads_from bytes images (Tried at from ∷ steps) here =
    reads_from bytes _ steps (bytes, here, untouched (place at bytes) (length from) bytes)
reads_from bytes images (Synced ∷ steps) here = reads_from bytes _ steps refl

pub reads_as_image : (h : History) (bytes : List ℕ) → Some (reading_of h) ≡ Some bytes → IsImage h bytes
reads_as_image h bytes told = let same : reading_of h ≡ bytes = Prim.cc in subst (λ c. IsImage h c) same (reads_from h.first _ h.steps refl)

pub now_counts : (h : History) (t : ℕ) (c : List ℕ) → t ≤ length h.steps → IsImage h c → IsImageSince h t c
now_counts h t c le now = (length h.steps, le, omega arith, subst (λ l. ImagesAfter h.first (λ file. file ≡ h.first) l c) (sym (take_all (length h.steps) h.steps (omega arith))) now)

pub now_only : (h : History) (c : List ℕ) → IsImageSince h (length h.steps) c → IsImage h c
now_only h c left = subst (λ l. ImagesAfter h.first (λ file. file ≡ h.first) l c) (take_all left.0 h.steps (omega (arith, left.1))) left.3
