-- The buffer: what stands between two places of it, before and after a read.
use Rattle.std.proofs.Common.{◌≡◌, ℕ, ◌+◌, ◌-◌, ◌<◌, ◌≤◌, List, ◌++◌, length, take, drop, Option, arith, ap, ◌∙◌, sym, length-drop, drop-drop}
use Rattle.std.proofs.lemmas.List.{take-append-le, length-take-le, drop-take, take-take}
use borrow.Rule.Slice.PartMut.{put_mid, post_of}
use Rattle.std.proofs.Math.Seq.{take-length, take-append-add}
use Rattle.r53_io.specs.declared.streams.Got.{Got}
use Rattle.r53_io.specs.declared.streams.Got.TheVariants.{Bytes, Failed}
use Rattle.r53_io.specs.Streams.{ReadGives, IsWithin}
use Rattle.line_splitting.specs.Waiting.{Waiting, TakesIn, Adds, AddsIn}

-- the length of what stands between two places
pub length_between : (s e : ℕ) (xs : List ℕ) → e ≤ length xs → length (drop s (take e xs)) ≡ e - s
length_between s e xs h = length-drop s (take e xs) ∙ ap (λ n. n - s) (length-take-le e xs h)

-- the first of what stands between two places stand behind the first place
pub front_between : (s e l : ℕ) (xs : List ℕ) → s ≤ e → e ≤ length xs
    → l ≤ length (drop s (take e xs)) → take l (drop s xs) ≡ take l (drop s (take e xs))
front_between s e l xs h k m =
    let d : length (drop s (take e xs)) ≡ e - s = length_between s e xs k in
    let i : s + (e - s) ≡ e = omega arith in
    sym (ap (λ n. take l (drop s (take n xs))) (sym i) ∙ ap (take l) (drop-take s (e - s) xs)
    ∙ take-take l (e - s) (drop s xs) (omega arith))

take-put_mid-part : (a k n : ℕ) (xs ys : List ℕ) → a ≤ length xs → n ≤ length ys
    → take (a + n) (put_mid a k xs ys) ≡ take a xs ++ take n ys
take-put_mid-part a k n xs ys h m =
    let e : length (take a xs) ≡ a = length-take-le a xs h in
    ap (λ j. take (j + n) (take a xs ++ (ys ++ post_of a k xs))) (sym e)
    ∙ take-append-add (take a xs) (ys ++ post_of a k xs) n
    ∙ ap (λ t. take a xs ++ t) (take-append-le n ys (post_of a k xs) m)

-- a read behind a place of the buffer
pub read_in : (left buffer old new : List ℕ) (after : Option (List ℕ)) (got : Got) (at k : ℕ)
    → at ≤ length buffer → 0 < length old → length new ≡ length old
    → ReadGives left after got old new → IsWithin got (length old)
    → TakesIn left after got at buffer (put_mid at k buffer new)
read_in left buffer old new after (Bytes n) at k h p e gives w = record {
  within = gives.within;
  rest = gives.after_it;
  bytes = take-put_mid-part at k n buffer new h (omega (arith, w))
      ∙ ap (λ t. take at buffer ++ t) gives.bytes;
  at_end = λ z. gives.at_end z p;
}
read_in left buffer old new after Failed at k h p e gives w = gives.0

-- the bytes that wait after a read behind those that waited
pub grown : (left waiting moved buffer rest : List ℕ) (after : Option (List ℕ)) (n at len : ℕ)
    → take at moved ≡ waiting → at + n ≤ length buffer → length buffer ≡ len
    → AddsIn left after n at moved buffer
    → Adds left after n waiting (take (at + n) (take len (buffer ++ rest)))
grown left waiting moved buffer rest after n at len e h k a = record {
  within = a.within;
  rest = a.rest;
  bytes = ap (λ xs. take (at + n) xs) (ap (λ m. take m (buffer ++ rest)) (sym k)
      ∙ take-append-le (length buffer) buffer rest (omega arith) ∙ take-length buffer)
      ∙ a.bytes ∙ ap (λ xs. xs ++ take n left) e;
  at_end = a.at_end;
}

-- what a line and a rest that are passed leave
pub passed : (w : Waiting) (buffer : List ℕ) (s e line gone : ℕ) → drop s (take e buffer) ≡ w.waiting
    → s ≤ e → e ≤ length buffer → line ≤ length w.waiting
    → ◌≡◌ {A = Waiting} (record { line = take line (drop s buffer); waiting = drop (s + gone) (take e buffer) })
    (record { line = take line w.waiting; waiting = drop gone w.waiting })
passed w buffer s e line gone is h k m =
    let a : take line (drop s buffer) ≡ take line w.waiting =
    front_between s e line buffer h k (omega (arith, m, ap length is)) ∙ ap (take line) is in
    let b : drop (s + gone) (take e buffer) ≡ drop gone w.waiting =
    sym (drop-drop gone s (take e buffer) ∙ ap (λ j. drop j (take e buffer)) (omega arith))
    ∙ ap (drop gone) is in
    ap (λ l. record { line = l; waiting = drop (s + gone) (take e buffer) }) a
    ∙ ap (λ r. record { line = take line w.waiting; waiting = r }) b
