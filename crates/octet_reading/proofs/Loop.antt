-- So many of one field, as a loop reads them.
use Rattle.std.proofs.Common.{◌≡◌, ℕ, suc, ◌-◌, ◌+◌, ◌≤◌, ◌<◌, List, [], ◌∷◌, ◌++◌, Result, Ok, Err, refl, sym, ap, ◌∙◌, append_assoc, arith, append-nil}
use Rattle.octet_reading.specs.declared.stop.Stop.{Stop}
use Rattle.octet_reading.specs.declared.stop.Stop.TheVariants as stop
use Rattle.octet_reading.specs.Readers.{Reader, so_many}
use Rattle.octet_reading.specs.Reading.{◌>>=◌, Stops}

-- what was read before, and what is still read
abbrev pub with_front : {A : Type 0} → List A → Result (List A × List ℕ) ℕ
    → Result (List A × List ℕ) ℕ
with_front front read = read >>= λ x. Ok (front ++ x.0, x.1)

module _ {A : Type 0} (read : Reader A) (front : List A) (count i : ℕ) (octets : List ℕ)
    (total : Result (List A × List ℕ) ℕ)
    (so_far : with_front front (so_many read (count - i) octets) ≡ total) where
  regroup : (n : A) (r : Result (List A × List ℕ) ℕ)
      → with_front front (r >>= λ x. Ok (n ∷ x.0, x.1)) ≡ with_front (front ++ n ∷ []) r
  regroup n (Ok x) = ap (λ (ns : List A). Ok (ns, x.1)) (simp append_assoc)
  regroup n (Err left) = refl

  -- one more is read
  pub goes_on : (n : A) (after : List ℕ) → i < count → read octets ≡ Ok (n, after)
      → with_front (front ++ n ∷ []) (so_many read (count - (i + 1)) after) ≡ total
  goes_on n after lt h =
      let k : count - i ≡ suc (count - (i + 1)) = omega arith in
      let one : with_front front (so_many read (count - i) octets)
      ≡ with_front (front ++ n ∷ []) (so_many read (count - (i + 1)) after) =
      rw (k, h) (regroup n (so_many read (count - (i + 1)) after)) in
      sym one ∙ so_far

  -- one can't be read
  pub fails : (left : ℕ) → i < count → read octets ≡ Err left → total ≡ Err left
  fails left lt h =
      let k : count - i ≡ suc (count - (i + 1)) = omega arith in
      let one : with_front front (so_many read (count - i) octets) ≡ Err left = rw (k, h) refl in
      sym so_far ∙ one

  pub stops : (e : Stop) → i < count → Stops e (read octets) → Stops e total
  stops stop.OutOfMemory lt h = tt
  stops (stop.Bad left) lt h = fails left lt h

  -- all are read
  pub is_done : count ≤ i → total ≡ Ok (front, octets)
  is_done le =
      let k : count - i ≡ 0 = omega arith in
      let one : with_front front (so_many read (count - i) octets) ≡ Ok (front, octets) =
      rw k (ap (λ (ns : List A). Ok (ns, octets)) (append-nil front)) in
      sym so_far ∙ one
