-- An image that is asked for is one that a crash may leave.
use Rattle.std.proofs.Common.{◌≡◌, ◌≤◌, ℕ, List, [], ◌∷◌, length, replicate, refl, subst, arith}
use Rattle.std.proofs.lemmas.List.{length-replicate}
use Rattle.r53_disk.specs.Disk.{Torn, TornFrom, written}
use Rattle.r53_disk.specs.Laws.{whole_is_torn, untouched, length-written}
use Rattle.r53_disk.specs.Memory.{History, Trace, Wrote, Tried, Synced, place, ImagesAfter, IsImage}
use Rattle.r53_disk.specs.Images.{torn_write, torn_after, image_of}
use Rattle.r53_disk.specs.declared.memory.Torn.{Torn as Choice}
use Rattle.r53_disk.specs.declared.memory.Torn.TheVariants as torn

-- an image that is no shorter than the reading, but for what is lost
abbrev AsLong : Choice → List ℕ → List ℕ → Type 0
AsLong torn.Kept bytes image = length bytes ≤ length image
AsLong torn.Lost bytes image = Unit {0}
AsLong (torn.Filled value) bytes image = length bytes ≤ length image

tears : (t : Choice) (bytes image : List ℕ) (at : ℕ) (from : List ℕ) → AsLong t bytes image
    → Torn (place at bytes) (length from) image (torn_write t image (place at bytes) from)
tears torn.Kept bytes image at from long =
    let same : place (place at bytes) image ≡ place at bytes = omega (arith, long) in
    subst (λ n. Torn n (length from) image (written image (place (place at bytes) image) from)) same
    (whole_is_torn (place (place at bytes) image) image from (omega arith))
tears torn.Lost bytes image at from long = untouched _ _ image
tears (torn.Filled value) bytes image at from long =
    let same : place (place at bytes) image ≡ place at bytes = omega (arith, long) in
    let size : length (replicate (length from) value) ≡ length from =
    length-replicate (length from) value in
    subst (λ n.
    Torn n (length from) image
    (written image (place (place at bytes) image) (replicate (length from) value))) same
    (subst (λ n. Torn (place (place at bytes) image) n image
    (written image (place (place at bytes) image) (replicate (length from) value))) size
    (whole_is_torn (place (place at bytes) image) image (replicate (length from) value)
    (omega arith)))

stays : (t : Choice) (bytes image : List ℕ) (at : ℕ) (from : List ℕ) → AsLong t bytes image
    → AsLong t (written bytes (place at bytes) from) (torn_write t image (place at bytes) from)
stays torn.Kept bytes image at from long =
    omega (
      arith,
      long,
      length-written (place at bytes) bytes from (omega arith),
      length-written (place (place at bytes) image) image from (omega arith),
    )
stays torn.Lost bytes image at from long = tt
stays (torn.Filled value) bytes image at from long =
    let size : length (replicate (length from) value) ≡ length from =
    length-replicate (length from) value in
    omega (
      arith,
      long,
      size,
      length-written (place at bytes) bytes from (omega arith),
      length-written (place (place at bytes) image) image (replicate (length from) value)
          (omega arith),
    )

-- a write that failed leaves the reading
stays_tried : (t : Choice) (bytes image : List ℕ) (at : ℕ) (from : List ℕ) → AsLong t bytes image
    → AsLong t bytes (torn_write t image (place at bytes) from)
stays_tried torn.Kept bytes image at from long =
    omega (arith, long, length-written (place (place at bytes) image) image from (omega arith))
stays_tried torn.Lost bytes image at from long = tt
stays_tried (torn.Filled value) bytes image at from long =
    omega (
      arith,
      long,
      length-written (place (place at bytes) image) image (replicate (length from) value)
          (omega arith),
    )

as_long : (t : Choice) (bytes : List ℕ) → AsLong t bytes bytes
as_long torn.Kept bytes = omega arith
as_long torn.Lost bytes = tt
as_long (torn.Filled value) bytes = omega arith

leaves : (t : Choice) (bytes image : List ℕ) (images : List ℕ → Type 0) (steps : List Trace)
    → AsLong t bytes image → images image
    → ImagesAfter bytes images steps (torn_after t bytes image steps)
leaves t bytes image images [] long here = here
leaves t bytes image images (Wrote at from ∷ steps) long here =
    leaves t (written bytes (place at bytes) from) (torn_write t image (place at bytes) from)
    (TornFrom (place at bytes) (length from) images) steps
    (stays t bytes image at from long) (image, here, tears t bytes image at from long)
leaves t bytes image images (Tried at from ∷ steps) long here =
    leaves t bytes (torn_write t image (place at bytes) from)
    (TornFrom (place at bytes) (length from) images) steps
    (stays_tried t bytes image at from long) (image, here, tears t bytes image at from long)
leaves t bytes image images (Synced ∷ steps) long here =
    leaves t bytes bytes (λ file. file ≡ bytes) steps (as_long t bytes) refl

pub is_image : (t : Choice) (h : History) → IsImage h (image_of t h)
is_image t h = leaves t h.first h.first (λ file. file ≡ h.first) h.steps (as_long t h.first) refl
