-- The bytes of a piece, part by part.
use Rattle.std.proofs.Common.{◌≡◌, ℕ, zero, suc, ◌+◌, ◌-◌, ◌≤◌, min, List, [], ◌∷◌, ◌++◌, length, take, drop, Option, Some, None, sym, ◌∙◌, ap, subst, arith, append_assoc, append-nil, length-drop, drop-drop, take-take}
use Rattle.std.proofs.lemmas.List.{take_min, drop_all, drop-take}
use Rattle.byteorder.specs.Endian.{big_bytes}
use borrow.Rule.Slice.PartMut.{put_mid}
use Rattle.gate_journal.specs.Disk.{Reaches}
use Rattle.gate_journal.specs.Layout.{header_text, body, inner}

pub take_append : (m : ℕ) (u v : List ℕ) → take m (u ++ v) ≡ take m u ++ take (m - length u) v
take_append zero u v = let none : 0 - length u ≡ 0 = omega arith in sym (ap (λ n. take n v) none)
take_append (suc m) [] v = let same : suc m - length {A = ℕ} [] ≡ suc m = omega arith in
    sym (ap (λ n. take n v) same)
take_append (suc m) (x ∷ u) v =
    let same : suc m - length (x ∷ u) ≡ m - length u = omega arith in
    ap (λ (l : List ℕ). x ∷ l) (take_append m u v) ∙ ap (λ n. x ∷ (take m u ++ take n v)) (sym same)

pub drop_append : (k : ℕ) (u v : List ℕ) → drop k (u ++ v) ≡ drop k u ++ drop (k - length u) v
drop_append zero u v = let none : 0 - length u ≡ 0 = omega arith in
    ap (λ n. u ++ drop n v) (sym none)
drop_append (suc k) [] v = let same : suc k - length {A = ℕ} [] ≡ suc k = omega arith in
    sym (ap (λ n. drop n v) same)
drop_append (suc k) (x ∷ u) v =
    let same : suc k - length (x ∷ u) ≡ k - length u = omega arith in
    drop_append k u v ∙ ap (λ n. drop k u ++ drop n v) (sym same)

-- what is left to fill, and from what, after a part was put
pub part_put : (piece new part more rest : List ℕ) (filled skip count : ℕ) → rest ≡ drop skip part
    → count ≡ min (length rest) (length piece - filled)
    → take (filled + count) new ≡ take filled piece ++ take count rest
    → take filled piece ++ take (length piece - filled) (drop skip (part ++ more))
    ≡ take (filled + count) new
    ++ take (length piece - (filled + count)) (drop (skip - length part) more)
part_put piece new part more rest filled skip count is counted put =
    let room : ℕ = length piece - filled in
    let follows : List ℕ = drop (skip - length part) more in
    let same : take room rest ≡ take count rest = sym (take_min room rest)
    ∙ ap (λ n. take n rest) (omega (arith, counted)) in
    let left : room - length rest ≡ length piece - (filled + count) = omega (arith, counted) in
    ap (λ (l : List ℕ). take filled piece ++ take (length piece - filled) l)
    (drop_append skip part more ∙ ap (λ (l : List ℕ). l ++ follows) (sym is))
    ∙ ap (λ (l : List ℕ). take filled piece ++ l) (take_append room rest follows
    ∙ (λ i. same i ++ take (left i) follows))
    ∙ sym (append_assoc (take filled piece) (take count rest)
    (take (length piece - (filled + count)) follows))
    ∙ ap (λ (l : List ℕ). l ++ take (length piece - (filled + count)) follows) (sym put)

-- a piece whose end was read
pub end_read : (piece into bytes : List ℕ) (filled at : ℕ) → filled ≤ length piece
    → length into ≡ length piece - filled → into ≡ take (length into) (drop at bytes)
    → put_mid filled (length piece - filled) piece into ≡ take filled piece
    ++ take (length piece - filled) (drop at bytes)
end_read piece into bytes filled at within long is =
    let none : drop (length piece - filled) (drop filled piece) ≡ [] =
    drop_all (length piece - filled) (drop filled piece)
    (omega (arith, length-drop filled piece)) in
    ap (λ (l : List ℕ). take filled piece ++ (into ++ l)) none
    ∙ ap (λ (l : List ℕ). take filled piece ++ l) (append-nil into ∙ is
    ∙ ap (λ n. take n (drop at bytes)) long)

-- the file from byte 1 on, in parts
pub parts : (g : ℕ) (s since : List ℕ)
    → inner g s ++ since ≡ header_text ++ (big_bytes 8 g ++ (big_bytes 4 (length s) ++ (s ++ since)))
parts g s since =
    append_assoc header_text (big_bytes 8 g ++ body s) since
    ∙ ap (λ (l : List ℕ). header_text ++ l) (append_assoc (big_bytes 8 g) (body s) since
    ∙ ap (λ (l : List ℕ). big_bytes 8 g ++ l) (append_assoc (big_bytes 4 (length s)) s since))

-- bytes of the front of a file
pub in_front : (at place n : ℕ) (x : List ℕ) → place + n ≤ at
    → take n (drop place (take at x)) ≡ take n (drop place x)
in_front at place n x within =
    let split : at ≡ place + (at - place) = omega (arith, within) in
    ap (λ k. take n (drop place (take k x))) split
    ∙ ap (take n) (drop-take place (at - place) x)
    ∙ take-take n (at - place) (drop place x) (omega (arith, within))

pub from_front : (at from skip n : ℕ) (x : List ℕ) → from ≤ at → n + skip ≤ at - from
    → take n (drop skip (drop from (take at x))) ≡ take n (drop (from + skip) x)
from_front at from skip n x from_le within = ap (take n) (drop-drop skip from (take at x))
    ∙ in_front at (from + skip) n x (omega (arith, from_le, within))

pub reaches_less : (r : Option (List ℕ)) (n m : ℕ) → n ≤ m → Reaches r m → Reaches r n
reaches_less None n m le long = tt
reaches_less (Some bytes) n m le long = omega (arith, le, long)

-- one part more of a piece of n bytes
abbrev pub Goes : (n : ℕ) (before : List ℕ) (filled skip : ℕ) (after : List ℕ) (filled' skip' : ℕ)
    (part : List ℕ) → Type 0
Goes n before filled skip after filled' skip' part =
    (more : List ℕ) → take filled before ++ take (n - filled) (drop skip (part ++ more))
    ≡ take filled' after ++ take (n - filled') (drop skip' more)

pub recast : (n n' : ℕ) (before : List ℕ) (e s : ℕ) (after : List ℕ) (e' raw s' : ℕ)
    (given part : List ℕ) → n' ≡ n → s' ≡ raw → given ≡ part
    → ((more : List ℕ) → take e before ++ take (n' - e) (drop s (given ++ more)) ≡ take e' after
    ++ take (n' - e') (drop raw more)) → Goes n before e s after e' s' part
recast n n' before e s after e' raw s' given part long skips is goes =
    subst (λ l. Goes n before e s after e' s' l) is
    (subst (λ k. Goes n before e s after e' k given) (sym skips)
    (subst (λ m. Goes m before e s after e' raw given) long goes))

-- what is left to fill comes from the entries
pub room : (n n1 n2 n3 k e1 e2 e3 e4 s1 s2 s3 s4 b c l w : ℕ) → n1 ≡ n → n2 ≡ n → n3 ≡ n → b ≡ 8
    → c ≡ 4 → s1 ≡ k - 7 → s2 ≡ s1 - b → s3 ≡ s2 - c → s4 ≡ s3 - l
    → ((m : ℕ) → n - 0 + k ≤ 7 + m → n - e1 + (k - 7) ≤ m)
    → ((m : ℕ) → n1 - e1 + s1 ≤ b + m → n1 - e2 + (s1 - b) ≤ m)
    → ((m : ℕ) → n2 - e2 + s2 ≤ c + m → n2 - e3 + (s2 - c) ≤ m)
    → ((m : ℕ) → n3 - e3 + s3 ≤ l + m → n3 - e4 + (s3 - l) ≤ m)
    → n + k ≤ 19 + l + w → n - e4 + s4 ≤ w
room n n1 n2 n3 k e1 e2 e3 e4 s1 s2 s3 s4 b c l w l1 l2 l3 b_is c_is is1 is2 is3 is4 one two three
    four within =
    let r1 : n - e1 + (k - 7) ≤ 12 + (l + w) = one (12 + (l + w)) (omega (arith, within)) in
    let r2 : n1 - e2 + (s1 - b) ≤ 4 + (l + w) =
    two (4 + (l + w)) (omega (arith, r1, l1, is1, b_is)) in
    let r3 : n2 - e3 + (s2 - c) ≤ l + w = three (l + w) (omega (arith, r2, l1, l2, is2, c_is)) in
    let r4 : n3 - e4 + (s3 - l) ≤ w = four w (omega (arith, r3, l2, l3, is3)) in
    omega (arith, r4, l3, is4)

pub filled : (n k e1 e2 e3 e4 s1 s2 s3 s4 : ℕ) (p p1 p2 p3 p4 p5 entries : List ℕ) (g : ℕ)
    (s : List ℕ) → Goes n p 0 k p1 e1 s1 header_text → Goes n p1 e1 s1 p2 e2 s2 (big_bytes 8 g)
    → Goes n p2 e2 s2 p3 e3 s3 (big_bytes 4 (length s)) → Goes n p3 e3 s3 p4 e4 s4 s
    → p5 ≡ take e4 p4 ++ take (n - e4) (drop s4 entries)
    → p5 ≡ take n (drop k (inner g s ++ entries))
filled n k e1 e2 e3 e4 s1 s2 s3 s4 p p1 p2 p3 p4 p5 entries g s one two three four last =
    let all : n - 0 ≡ n = omega arith in
    last
    ∙ sym (four entries)
    ∙ sym (three (s ++ entries))
    ∙ sym (two (big_bytes 4 (length s) ++ (s ++ entries)))
    ∙ sym (one (big_bytes 8 g ++ (big_bytes 4 (length s) ++ (s ++ entries))))
    ∙ ap (λ m.
    take m (drop k (header_text ++ (big_bytes 8 g ++ (big_bytes 4 (length s) ++ (s ++ entries)))))) all
    ∙ ap (λ (l : List ℕ). take n (drop k l)) (sym (parts g s entries))
