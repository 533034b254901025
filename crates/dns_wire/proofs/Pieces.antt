-- Pieces that are written one behind another.
use Rattle.std.proofs.Common.{◌≡◌, ℕ, zero, suc, refl, [], ◌∷◌, ◌+◌, ◌≤◌, List, ◌++◌, length, take, drop, ap, ◌∙◌, sym, append_assoc, arith, length-append}
use Rattle.std.proofs.lemmas.List.{take_at, drop_at, drop-take, length-take, length-take-le}
use Rattle.std.proofs.Math.Seq.{take-append-add}

-- `before` is what stood before a piece, and `after` what stands before and with the next piece
pub two_pieces : (start before after p q whole : List ℕ) → before ≡ start ++ p → after ≡ before ++ q
    → whole ≡ p ++ q → after ≡ start ++ whole
two_pieces start before after p q whole e f g = f ∙ ap (λ t. t ++ q) e ∙ append_assoc start p q
    ∙ ap (λ t. start ++ t) (sym g)

take_less : (k m : ℕ) (xs : List ℕ) → k ≤ m → take k (take m xs) ≡ take k xs
take_less zero m xs h = refl
take_less (suc k) zero xs h = absurd (omega arith)
take_less (suc k) (suc m) [] h = refl
take_less (suc k) (suc m) (x ∷ xs) h = ap (λ t. x ∷ t) (take_less k m xs (omega arith))

-- what stands before a place is not changed by what is written there
pub stays : (before after piece : List ℕ) (at end : ℕ) → at ≤ length before → at ≤ end
    → take end after ≡ take at before ++ piece → take at after ≡ take at before
stays before after piece at end within h e =
    sym (take_less at end after h) ∙ ap (take at) e
    ∙ take_at (take at before) piece at (length-take-le at before within)

-- A piece with its room left in front of another, and filled then: `a` is the place, and `b` where
-- the room ends.
pub between : (first second third owner fixed tail start : List ℕ) (a b end : ℕ)
    → b ≡ a + length fixed → b ≤ length first → end ≡ b + length tail
    → take a first ≡ start ++ owner → take end second ≡ take b first ++ tail
    → third ≡ take a second ++ fixed ++ drop (a + length fixed) second
    → take end third ≡ start ++ (owner ++ (fixed ++ tail))
between first second third owner fixed tail start a b end size within ends one two three =
    let before : take b first ≡ take b second =
    sym (stays first second tail b end within (omega arith) two) in
    let front : take a second ≡ start ++ owner = sym (take_less a b second (omega arith))
    ∙ ap (take a) (sym before) ∙ take_less a b first (omega arith) ∙ one in
    let sum : b + length tail ≡ end = sym ends in
    let first_long : length (take b first) ≡ b = length-take-le b first within in
    let back : take (length tail) (drop b second) ≡ tail = sym (drop-take b (length tail) second)
    ∙ ap (λ n. drop b (take n second)) sum ∙ ap (drop b) two
    ∙ drop_at (take b first) tail b first_long in
    let a_long : length (take a second) ≡ a =
    length-take-le a second
    (omega (arith, ap length before, length-take-le b first within, length-take b second)) in
    let long : length (take a second ++ fixed) ≡ b = length-append (take a second) fixed
    ∙ omega arith in
    ap (take end) (three ∙ ap (λ n. take a second ++ fixed ++ drop n second) (sym size))
    ∙ ap (λ n. take n (take a second ++ fixed ++ drop b second)) (sym sum)
    ∙ ap (λ n. take (n + length tail) (take a second ++ fixed ++ drop b second)) (sym long)
    ∙ take-append-add (take a second ++ fixed) (drop b second) (length tail)
    ∙ ap (λ t. take a second ++ fixed ++ t) back
    ∙ ap (λ t. t ++ fixed ++ tail) front
    ∙ append_assoc (start ++ owner) fixed tail
    ∙ append_assoc start owner (fixed ++ tail)

-- of a piece that stands behind some octets the first ones
pub counted_front : (at used : ℕ) (piece before after : List ℕ) → used ≤ length piece → at ≤ length before
    → take (at + length piece) after ≡ take at before ++ piece
    → take (at + used) after ≡ take at before ++ take used piece
counted_front at used piece before after less within e =
    sym (take_less (at + used) (at + length piece) after (omega (arith, less)))
    ∙ ap (take (at + used)) e
    ∙ ap (λ n. take (n + used) (take at before ++ piece)) (sym (length-take-le at before within))
    ∙ take-append-add (take at before) piece used
