-- Pieces between 0x0A.
use Rattle.std.proofs.Common.{◌≡◌, ℕ, zero, suc, ◌+◌, ◌<◌, Bool, true, false, List, [], ◌∷◌, ◌++◌, length, take, drop, Option, None, Some, arith, ap, ◌∙◌, sym, refl, ◌==◌}
use Rattle.std.specs.Prelude.{option_map, if◌then◌else◌}
use Rattle.memchr.specs.Find.{IsFirstByte, is_byte}
use Rattle.line_splitting.specs.Lines.{first_piece, more_pieces, pieces}
use Rattle.line_splitting.specs.Judging.{end_place}

first_at : (b : ℕ) (bytes : List ℕ) (r : Option ℕ) (t : Bool) → (b == 10) ≡ t
    → IsFirstByte (is_byte 10) (b ∷ bytes) r
    → ((q : Option ℕ) → IsFirstByte (is_byte 10) bytes q → q ≡ end_place bytes)
    → r ≡ (if t then Some 0 else option_map suc (end_place bytes))
first_at b bytes None true e h later = absurd (h 0 (omega arith) (omega arith) e)
first_at b bytes (Some zero) true e h later = refl
first_at b bytes (Some (suc k)) true e h later = absurd (h.0.before 0 (omega arith) (omega arith) e)
first_at b bytes None false e h later =
    ap (option_map suc) (later None (λ k low high. h (suc k) (omega arith) (omega (arith, high))))
first_at b bytes (Some zero) false e h later = let p = h.1 in absurd cc
first_at b bytes (Some (suc k)) false e h later =
    let m = h.0.high in
    ap (option_map suc) (later (Some k) (
      record {
        low = omega arith;
        high = omega (arith, m);
        before = λ i low high. h.0.before (suc i) (omega arith) (omega (arith, high));
      },
      h.1,
    ))

-- the first place that a search finds
pub first_is : (bytes : List ℕ) (r : Option ℕ) → IsFirstByte (is_byte 10) bytes r
    → r ≡ end_place bytes
first_is [] None h = refl
first_is [] (Some k) h = let m = h.0.high in absurd (omega (arith, m))
first_is (b ∷ bytes) r h = first_at b bytes r (b == 10) refl h (first_is bytes)

none_before : (o : Option ℕ) → option_map suc o ≡ None → o ≡ None
none_before None e = refl
none_before (Some k) e = absurd cc

further : (n : ℕ) (o : Option ℕ)
    → option_map suc (option_map (λ k. k + n) o) ≡ option_map (λ k. k + suc n) o
further n None = refl
further n (Some k) = ap Some (omega arith)

no_further : (o : Option ℕ) → o ≡ option_map (λ k. k + 0) o
no_further None = refl
no_further (Some k) = ap Some (omega arith)

behind_at : (n b : ℕ) (bytes : List ℕ) (t : Bool)
    → (if t then Some 0 else option_map suc (end_place (take n bytes))) ≡ None
    → (end_place (take n bytes) ≡ None
    → end_place bytes ≡ option_map (λ k. k + n) (end_place (drop n bytes)))
    → (if t then Some 0 else option_map suc (end_place bytes))
    ≡ option_map (λ k. k + suc n) (end_place (drop n bytes))
behind_at n b bytes true h later = absurd cc
behind_at n b bytes false h later =
    ap (option_map suc) (later (none_before _ h)) ∙ further n (end_place (drop n bytes))

-- a search behind bytes in which none is
pub behind_is : (n : ℕ) (bytes : List ℕ) → end_place (take n bytes) ≡ None
    → end_place bytes ≡ option_map (λ k. k + n) (end_place (drop n bytes))
behind_is zero bytes h = no_further (end_place bytes)
behind_is (suc n) [] h = refl
behind_is (suc n) (b ∷ bytes) h = behind_at n b bytes (b == 10) h (behind_is n bytes)

pub searched : (n : ℕ) (bytes : List ℕ) (r : Option ℕ) → end_place (take n bytes) ≡ None
    → IsFirstByte (is_byte 10) (drop n bytes) r → option_map (λ k. k + n) r ≡ end_place bytes
searched n bytes r h f =
    ap (option_map (λ k. k + n)) (first_is (drop n bytes) r f) ∙ sym (behind_is n bytes h)

within_at : (b : ℕ) (bytes : List ℕ) (k : ℕ) (t : Bool)
    → (if t then Some 0 else option_map suc (end_place bytes)) ≡ Some k
    → ((j : ℕ) → end_place bytes ≡ Some j → j < length bytes) → k < suc (length bytes)
within_at b bytes zero t h later = omega arith
within_at b bytes (suc k) true h later = absurd cc
within_at b bytes (suc k) false h later = omega (arith, later k (lower (end_place bytes) h))
  where
    lower : (o : Option ℕ) → option_map suc o ≡ Some (suc k) → o ≡ Some k
    lower None e = absurd cc
    lower (Some j) e = cc

-- it stands within the bytes
pub end_within : (bytes : List ℕ) (k : ℕ) → end_place bytes ≡ Some k → k < length bytes
end_within [] k h = absurd cc
end_within (b ∷ bytes) k h = within_at b bytes k (b == 10) h (end_within bytes)

-- Bytes with no 0x0A before others: they stand before the first piece.
abbrev pub Prefixes : (w x : List ℕ) → Type 0
Prefixes w x = (first_piece (w ++ x) ≡ w ++ first_piece x) × (more_pieces (w ++ x) ≡ more_pieces x)

open_at : (b : ℕ) (w x : List ℕ) (t : Bool)
    → (if t then Some 0 else option_map suc (end_place w)) ≡ None
    → (end_place w ≡ None → Prefixes w x)
    → ((if t then [] else b ∷ first_piece (w ++ x)) ≡ b ∷ (w ++ first_piece x))
    × ((if t then first_piece (w ++ x) ∷ more_pieces (w ++ x) else more_pieces (w ++ x))
    ≡ more_pieces x)
open_at b w x true h later = absurd cc
open_at b w x false h later =
    let p = later (none_before _ h) in (ap (λ f. b ∷ f) p.0, p.1)

pub pieces_open : (w x : List ℕ) → end_place w ≡ None → Prefixes w x
pieces_open [] x h = (refl, refl)
pieces_open (b ∷ w) x h = open_at b w x (b == 10) h (pieces_open w x)

-- Bytes with their first 0x0A at place k before others: it ends the first piece.
abbrev pub Ends : (w x : List ℕ) (k : ℕ) → Type 0
Ends w x k = (first_piece (w ++ x) ≡ take k w)
    × (more_pieces (w ++ x) ≡ pieces (drop (suc k) w ++ x))

ends_at : (b : ℕ) (w x : List ℕ) (k : ℕ) (t : Bool)
    → (if t then Some 0 else option_map suc (end_place w)) ≡ Some k
    → ((j : ℕ) → end_place w ≡ Some j → Ends w x j)
    → ((if t then [] else b ∷ first_piece (w ++ x)) ≡ take k (b ∷ w))
    × ((if t then first_piece (w ++ x) ∷ more_pieces (w ++ x) else more_pieces (w ++ x))
    ≡ pieces (drop k w ++ x))
ends_at b w x zero true h later = (refl, refl)
ends_at b w x (suc k) true h later = absurd cc
ends_at b w x zero false h later = absurd (none_zero (end_place w) h)
  where
    none_zero : (o : Option ℕ) → option_map suc o ≡ Some zero → ⊥
    none_zero None e = cc
    none_zero (Some j) e = cc
ends_at b w x (suc k) false h later =
    let p = later k (lower (end_place w) h) in (ap (λ f. b ∷ f) p.0, p.1)
  where
    lower : (o : Option ℕ) → option_map suc o ≡ Some (suc k) → o ≡ Some k
    lower None e = absurd cc
    lower (Some j) e = cc

pub pieces_at : (w x : List ℕ) (k : ℕ) → end_place w ≡ Some k → Ends w x k
pieces_at [] x k h = absurd cc
pieces_at (b ∷ w) x k h = ends_at b w x k (b == 10) h (pieces_at w x)
