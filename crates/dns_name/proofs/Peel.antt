use Rattle.std.proofs.Common.{◌≡◌, ℕ, ◌+◌, ◌-◌, ◌<◌, ◌≤◌, ◌⊎◌, inl, inr, List, [], ◌∷◌, ◌++◌, length, take, drop, get_or, arith}
use Rattle.std.proofs.Common.{ap, ◌∙◌, sym, refl, append_assoc, add-one, add-zero, length-append, length-drop, append-nil}
use Rattle.std.specs.List.{flat_map, AllByRecursion}
use Rattle.std.proofs.lemmas.List.{take-append-drop, length-take-le, get_or-drop}
use Rattle.std.proofs.lemmas.List.Concat.{flat_map-append}
use Rattle.std.proofs.Math.Seq.{drop-cons, take-append_seam, drop-append_seam, take-add}
use Rattle.dns_name.specs.Labels.{frame, wire, IsRawLabel, IsRawName}

-- equal lengths in front: the fronts and the backs are equal
front_same : (a b x y : List ℕ) → length a ≡ length b → a ++ x ≡ b ++ y → a ≡ b
front_same a b x y h e = sym (take-append_seam a x) ∙ ap (λ n. take n (a ++ x)) h
    ∙ ap (take (length b)) e ∙ take-append_seam b y

back_same : (a b x y : List ℕ) → length a ≡ length b → a ++ x ≡ b ++ y → x ≡ y
back_same a b x y h e = sym (drop-append_seam a x) ∙ ap (λ n. drop n (a ++ x)) h
    ∙ ap (drop (length b)) e ∙ drop-append_seam b y

-- a name that begins with these labels goes on behind them
pub record GoesOn (front whole : List (List ℕ)) (d rest : List ℕ) : Type 0 where
  pub more : List (List ℕ)
  pub each : AllByRecursion IsRawLabel more
  pub there : d ≡ wire more ++ rest
  pub len : length (wire whole) ≡ length (flat_map frame front) + length (wire more)

pub peel : (raw whole : List (List ℕ)) (d rest : List ℕ) → AllByRecursion IsRawLabel raw
    → AllByRecursion IsRawLabel whole
    → flat_map frame raw ++ d ≡ wire whole ++ rest → GoesOn raw whole d rest
peel [] whole d rest h w e = record { more = whole; each = w; there = e; len = omega arith }
peel (l ∷ ls) [] d rest h w e =
    absurd (let n : 0 < length l = h.0.filled in let z : length l ≡ 0 = cc in omega arith)
peel (l ∷ ls) (m ∷ ms) d rest h w e =
    let n : length l ≡ length m = cc in
    let t : (l ++ flat_map frame ls) ++ d ≡ ((m ++ flat_map frame ms) ++ 0 ∷ []) ++ rest = cc in
    let f : l ++ (flat_map frame ls ++ d) ≡ m ++ (flat_map frame ms ++ (0 ∷ rest)) =
    simp append_assoc at t in
    let back : flat_map frame ls ++ d ≡ wire ms ++ rest = back_same l m _ _ n f
    ∙ sym (append_assoc (flat_map frame ms) (0 ∷ []) rest) in
    let r = peel ls ms d rest h.1 w.1 back in
    record {
      more = r.more;
      each = r.each;
      there = r.there;
      len = simp length-append
          (omega (
            arith,
            n,
            r.len,
            length-append (flat_map frame ms) (0 ∷ []),
            length-append (flat_map frame r.more) (0 ∷ []),
          ));
    }

-- Where whole labels end, a name has a zero byte, or one more label with bytes behind it.
pub record Next (bytes : List ℕ) (at : ℕ) : Type 0 where
  pub inside : at < length bytes
  pub small : at < 255
  pub shape : (get_or bytes at 0 ≡ 0)
      ⊎ ((0 < get_or bytes at 0) × (get_or bytes at 0 < 64)
      × (at + get_or bytes at 0 + 1 < length bytes))

at_more : (more : List (List ℕ)) (d rest : List ℕ) → AllByRecursion IsRawLabel more
    → d ≡ wire more ++ rest → (0 < length d)
    × ((get_or d 0 0 ≡ 0)
    ⊎ ((0 < get_or d 0 0) × (get_or d 0 0 < 64) × (get_or d 0 0 + 1 < length d)))
at_more [] d rest h e = rw e ((let l : 0 < length (0 ∷ rest) = omega arith in l), inl refl)
at_more (m ∷ ms) d rest h e =
    let len : length d ≡ length m + length (flat_map frame ms) + length rest + 2 = ap length e
    ∙ simp length-append (omega arith) in
    let first : get_or d 0 0 ≡ length m = ap (λ t. get_or t 0 0) e in
    let p = h.0.filled in
    let q = h.0.short in
    (omega arith, inr (omega arith, omega arith, omega arith))

pub next : (bytes : List ℕ) (at : ℕ) (raw : List (List ℕ)) → at ≤ length bytes
    → AllByRecursion IsRawLabel raw
    → take at bytes ≡ flat_map frame raw → (whole : List (List ℕ)) (rest : List ℕ) → IsRawName whole
    → bytes ≡ wire whole ++ rest
    → Next bytes at
next bytes at raw within h front whole rest w e =
    let split : flat_map frame raw ++ drop at bytes ≡ wire whole ++ rest =
    ap (λ t. t ++ drop at bytes) (sym front) ∙ take-append-drop at bytes ∙ e in
    let r = peel raw whole (drop at bytes) rest h w.each split in
    let m = at_more r.more (drop at bytes) rest r.each r.there in
    let len : length (flat_map frame raw) ≡ at = ap length (sym front)
    ∙ length-take-le at bytes within in
    let at_head : get_or (drop at bytes) 0 0 ≡ get_or bytes (at + 0) 0 = get_or-drop at bytes 0 0 in
    let head : get_or (drop at bytes) 0 0 ≡ get_or bytes at 0 = at_head
    ∙ ap (λ n. get_or bytes n 0) (add-zero at) in
    let dl : length (drop at bytes) ≡ length bytes - at = length-drop at bytes in
    let one : length (wire r.more) ≡ length (flat_map frame r.more) + 1 =
    length-append (flat_map frame r.more) (0 ∷ []) in
    let fits = w.fits in
    let has = m.0 in
    record {
      inside = omega arith;
      small = omega (arith, r.len);
      shape = elim m.1 [
        | inl z ↦ inl (sym head ∙ z)
        | inr t ↦ inr (omega (arith, t.0), omega (arith, t.1), omega (arith, t.2))
      ];
    }

-- one more label behind whole ones
all_more : (raw : List (List ℕ)) (l : List ℕ) → AllByRecursion IsRawLabel raw → IsRawLabel l
    → AllByRecursion IsRawLabel (raw ++ l ∷ [])
all_more [] l h k = (k, tt)
all_more (r ∷ raw) l h k = (h.0, all_more raw l h.1 k)

pub record OneMore (bytes : List ℕ) (at : ℕ) : Type 0 where
  pub raw : List (List ℕ)
  pub each : AllByRecursion IsRawLabel raw
  pub front : take at bytes ≡ flat_map frame raw

one_frame : (t d : List ℕ) (n x : ℕ) (xs : List ℕ) (raw : List (List ℕ)) → t ≡ flat_map frame raw
    → d ≡ x ∷ xs → x ≡ n
    → length (take n xs) ≡ n → t ++ take (n + 1) d ≡ flat_map frame (raw ++ take n xs ∷ [])
one_frame t d n x xs raw h e k len =
    rw (e, add-one, h)
    (ap (λ y. flat_map frame raw ++ (y ∷ take n xs)) (k ∙ sym len)
    ∙ ap (λ y. flat_map frame raw ++ y) (sym (append-nil (frame (take n xs))))
    ∙ sym (flat_map-append frame raw (take n xs ∷ [])))

pub one_more : (bytes : List ℕ) (at : ℕ) (raw : List (List ℕ)) → AllByRecursion IsRawLabel raw
    → take at bytes ≡ flat_map frame raw → (n : ℕ) → get_or bytes at 0 ≡ n → 0 < n → n < 64
    → at + n + 1 ≤ length bytes
    → OneMore bytes (at + (n + 1))
one_more bytes at raw h front n e p q within =
    let label = take n (drop (at + 1) bytes) in
    let dl : length (drop (at + 1) bytes) ≡ length bytes - (at + 1) = length-drop (at + 1) bytes in
    let len : length label ≡ n = length-take-le n (drop (at + 1) bytes) (omega arith) in
    let below : at < length bytes = omega arith in
    let cells : drop at bytes ≡ get_or bytes at 0 ∷ drop (at + 1) bytes =
    rw add-one (drop-cons bytes at 0 below) in
    record {
      raw = raw ++ label ∷ [];
      each = all_more raw label h (record { filled = omega arith; short = omega arith });
      front = take-add at (n + 1) bytes
          ∙ one_frame (take at bytes) (drop at bytes) n (get_or bytes at 0) (drop (at + 1) bytes)
          raw front cells e len;
    }

no_more : (more : List (List ℕ)) (d rest : List ℕ) → AllByRecursion IsRawLabel more
    → d ≡ wire more ++ rest → get_or d 0 0 ≡ 0 → length (wire more) ≡ 1
no_more [] d rest h e z = refl
no_more (m ∷ ms) d rest h e z =
    let first : get_or d 0 0 ≡ length m = ap (λ t. get_or t 0 0) e in
    let p = h.0.filled in
    absurd (omega arith)

-- Where a zero byte stands behind whole labels, the name ends.
pub ends : (bytes : List ℕ) (at : ℕ) (raw : List (List ℕ)) → at ≤ length bytes
    → AllByRecursion IsRawLabel raw
    → take at bytes ≡ flat_map frame raw → get_or bytes at 0 ≡ 0
    → (whole : List (List ℕ)) (rest : List ℕ) → IsRawName whole
    → bytes ≡ wire whole ++ rest → length (wire whole) ≡ at + 1
ends bytes at raw within h front z whole rest w e =
    let split : flat_map frame raw ++ drop at bytes ≡ wire whole ++ rest =
    ap (λ t. t ++ drop at bytes) (sym front) ∙ take-append-drop at bytes ∙ e in
    let r = peel raw whole (drop at bytes) rest h w.each split in
    let len : length (flat_map frame raw) ≡ at = ap length (sym front)
    ∙ length-take-le at bytes within in
    let at_head : get_or (drop at bytes) 0 0 ≡ get_or bytes (at + 0) 0 = get_or-drop at bytes 0 0 in
    let head : get_or (drop at bytes) 0 0 ≡ 0 = at_head ∙ ap (λ n. get_or bytes n 0) (add-zero at)
    ∙ z in
    let none : length (wire r.more) ≡ 1 = no_more r.more (drop at bytes) rest r.each r.there head in
    omega (arith, r.len)
