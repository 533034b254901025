use Rattle.std.proofs.Common.{◌≡◌, ℕ, ◌+◌, ◌-◌, ◌<◌, ◌≤◌, List, [], ◌++◌, length, take, drop, Option, Some, arith, ap, ◌∙◌, sym, length-drop, drop-drop, ◌^◌}
use Rattle.std.proofs.lemmas.List.{take_all, drop_all, take-append-le, length-take-le}
use Rattle.std.proofs.lemmas.Slice.{take-put_mid_below}
use borrow.Rule.Slice.PartMut.{put_mid, post_of}
use Rattle.std.proofs.Math.Seq.{take-length, take-add, take-append-add}
use Rattle.r53_io.specs.Streams.{Takes}
use Rattle.r53_cli.specs.Streams.{Fills, IsTooLong}
use Rattle.r53_cli.specs.Streams.{HoldsPacket}

take-put_mid-part : (a k n : ℕ) (xs ys : List ℕ) → a ≤ length xs → n ≤ length ys
    → take (a + n) (put_mid a k xs ys) ≡ take a xs ++ take n ys
take-put_mid-part a k n xs ys h m =
    let e : length (take a xs) ≡ a = length-take-le a xs h in
    ap (λ j. take (j + n) (take a xs ++ (ys ++ post_of a k xs))) (sym e)
    ∙ take-append-add (take a xs) (ys ++ post_of a k xs) n
    ∙ ap (λ t. take a xs ++ t) (take-append-le n ys (post_of a k xs) m)

take-put_mid-below : (xs ys : List ℕ) (a k : ℕ) → a ≤ length xs
    → take a (put_mid a k xs ys) ≡ take a xs
take-put_mid-below xs ys a k h = take-put_mid_below a k xs ys a (omega arith) h

pub fill_step : (left buffer into : List ℕ) (before after : Option (List ℕ)) (at n room k : ℕ)
    → Fills left before at buffer → at ≤ length buffer → n ≤ length into
    → ((bytes : List ℕ) → before ≡ Some bytes → Takes bytes after n room into)
    → Fills left after (at + n) (put_mid at k buffer into)
fill_step left buffer into before after at n room k f h m gives =
    let t = gives (drop at left) f.rest in
    let d = length-drop at left in
    let w = f.within in
    let u = t.within in
    record {
      within = omega arith;
      bytes = take-put_mid-part at k n buffer into h m ∙ ap (λ x. x ++ take n into) f.bytes
          ∙ ap (λ x. take at left ++ x) t.bytes ∙ sym (take-add at n left);
      rest = t.after_it ∙ ap Some (drop-drop n at left ∙ ap (λ j. drop j left) (omega arith));
    }

-- the source ended
pub at_end : (left buffer into : List ℕ) (before after : Option (List ℕ)) (at n room k : ℕ) → n ≡ 0
    → Fills left before at buffer → at ≤ length buffer → 0 < room
    → ((bytes : List ℕ) → before ≡ Some bytes → Takes bytes after n room into)
    → Fills left after at (put_mid at k buffer into) × (at ≡ length left)
at_end left buffer into before after at n room k z f h m gives =
    let t = gives (drop at left) f.rest in
    let d = length-drop at left in
    let e : length (drop at left) ≡ 0 = ap length (t.at_end z m) in
    let w = f.within in (
      record {
        within = w;
        bytes = take-put_mid-below buffer into at k h ∙ f.bytes;
        rest = t.after_it ∙ ap (λ j. Some (drop j (drop at left))) z;
      },
      omega arith,
    )

-- a source that ended within the buffer: its bytes are the packet
pub whole_packet : (left buffer : List ℕ) (after : Option (List ℕ)) (n : ℕ)
    → Fills left after n buffer → n ≡ length left → n ≤ 65535 → HoldsPacket left after n buffer
whole_packet left buffer after n f e m = record {
  limit = omega arith;
  read = f.rest ∙ ap Some (drop_all n left (omega arith));
  bytes = f.bytes ∙ ap (λ j. take j left) e ∙ take-length left
      ∙ sym (take_all 65535 left (omega arith));
}

-- a source that filled the buffer, and ended behind it
pub long_packet : (left buffer : List ℕ) (between after : Option (List ℕ)) (n : ℕ)
    → Fills left between n buffer → n ≡ 65535
    → ((bytes : List ℕ) → between ≡ Some bytes → (length bytes < 2 ^ 40 - 65535)
    × (after ≡ Some [])) → HoldsPacket left after 65535 buffer
long_packet left buffer between after n f e rest =
    let r = rest (drop n left) f.rest in
    let w = f.within in
    record {
      limit = omega (arith, r.0, length-drop n left);
      read = r.1;
      bytes = ap (λ j. take j buffer) (sym e) ∙ f.bytes ∙ ap (λ j. take j left) e;
    }

-- a source that filled the buffer, and went on to the limit
pub too_long : (left buffer : List ℕ) (between after : Option (List ℕ)) (n : ℕ)
    → Fills left between n buffer → n ≡ 65535
    → ((bytes : List ℕ) → between ≡ Some bytes → (2 ^ 40 - 65535 ≤ length bytes)
    × (after ≡ Some (drop (2 ^ 40 - 65535) bytes))) → IsTooLong left after
too_long left buffer between after n f e rest =
    let r = rest (drop n left) f.rest in
    let w = f.within in
    let sum : n + (2 ^ 40 - 65535) ≡ 2 ^ 40 = omega arith in
    record {
      limit = omega (arith, r.0, length-drop n left);
      read = r.1 ∙ ap Some (drop-drop (2 ^ 40 - 65535) n left ∙ ap (λ j. drop j left) sum);
    }

-- one more piece let go
pub drain_step : (left : List ℕ) (before after : Option (List ℕ)) (gone n budget most room : ℕ)
    (into : List ℕ) → gone ≡ most - budget → n ≤ budget → budget ≤ most → gone ≤ length left
    → before ≡ Some (drop gone left)
    → ((bytes : List ℕ) → before ≡ Some bytes → Takes bytes after n room into)
    → (most - (budget - n) ≤ length left) × (after ≡ Some (drop (most - (budget - n)) left))
drain_step left before after gone n budget most room into e m k w b gives =
    let t = gives (drop gone left) b in
    let d = length-drop gone left in
    let inside = t.within in
    let sum : gone + n ≡ most - (budget - n) = omega arith in
    (omega arith, t.after_it ∙ ap Some (drop-drop n gone left ∙ ap (λ j. drop j left) sum))

-- the source ended
pub drain_end : (left : List ℕ) (before after : Option (List ℕ)) (gone n budget most room : ℕ)
    (into : List ℕ) → gone ≡ most - budget → 0 < budget → budget ≤ most → n ≡ 0 → 0 < room
    → gone ≤ length left → before ≡ Some (drop gone left)
    → ((bytes : List ℕ) → before ≡ Some bytes → Takes bytes after n room into)
    → (length left < most) × (after ≡ Some [])
drain_end left before after gone n budget most room into e p k z q w b gives =
    let t = gives (drop gone left) b in
    let none = t.at_end z q in (
      omega (arith, ap length none, length-drop gone left),
      t.after_it
          ∙ ap (λ j. Some (drop j (drop gone left))) z ∙ ap Some none,
    )
