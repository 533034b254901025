-- What is found at a place, in the words of readers.
use Rattle.std.proofs.Common.{◌≡◌, ℕ, ◌-◌, ◌≤◌, List, ◌++◌, length, drop, take, arith, ap, ◌∙◌, sym}
use Rattle.std.proofs.Common.{refl, subst}
use Rattle.std.proofs.Common.{Option, None, Some, Result, Ok, Err}
use Rattle.std.proofs.lemmas.List.{drop_at, length-append, length-drop, take-append-drop}
use Rattle.dns_name.specs.Names.{AreOctets}
use Rattle.octet_reading.specs.Readers.{Reader}
use Rattle.octet_reading.proofs.Digits.{joined}
use Rattle.octet_reading.proofs.Rules.{behind_octets}
use Rattle.snapshot_reading.specs.Places.{found_at, with_place}
use Rattle.snapshot_reading.proofs.Leaving.{Leaves, rest_within}

some_is : {A : Type 0} (x y : A) → ◌≡◌ {A = Option A} (Some x) (Some y) → x ≡ y
some_is x y e = cc

-- octets from a place on are octets
pub octets_from : (octets : List ℕ) (at : ℕ) → AreOctets octets → AreOctets (drop at octets)
octets_from octets at are =
    behind_octets octets (take at octets) (drop at octets) are (sym (take-append-drop at octets))

-- what stands at the end of octets stands from its place on
end_is : (octets front rest : List ℕ) → octets ≡ front ++ rest
    → drop (length octets - length rest) octets ≡ rest
end_is octets front rest e =
    let size : length front ≡ length octets - length rest =
    omega (arith, ap length e, length-append front rest) in
    ap (drop (length octets - length rest)) e
    ∙ drop_at front rest (length octets - length rest) size

module _ {A : Type 0} where
  placed_is : (total : ℕ) (r : Result (A × List ℕ) ℕ) (x : A) (next : ℕ)
      → with_place total r ≡ Some (x, next)
      → (rest : List ℕ) × (r ≡ Ok (x, rest)) × (total - length rest ≡ next)
  placed_is total (Ok y) x next e =
      let same = some_is (y.0, total - length y.1) (x, next) e in (
        y.1,
        ap (λ (p : A × ℕ). Ok (p.0, y.1)) same,
        ap (λ (p : A × ℕ). p.1) same,
      )
  placed_is total (Err left) x next e = absurd cc

  -- a place behind what is found is at most that behind the last octet
  pub place_within : (total : ℕ) (r : Result (A × List ℕ) ℕ) (x : A) (next : ℕ)
      → with_place total r ≡ Some (x, next) → next ≤ total
  place_within total r x next e = omega (arith, (placed_is total r x next e).2)

  refused_is : (total : ℕ) (r : Result (A × List ℕ) ℕ) → with_place total r ≡ None
      → (left : ℕ) × (r ≡ Err left)
  refused_is total (Ok y) e = absurd (let k : Some (y.0, total - length y.1) ≡ None = e in cc)
  refused_is total (Err left) e = (left, refl)

  -- What is found at a place is read there, and its end is the next place.
  pub read_there : (read : Reader A) → Leaves read → (octets : List ℕ) (at : ℕ) (x : A) (next : ℕ)
      → AreOctets octets → found_at read octets at ≡ Some (x, next)
      → read (drop at octets) ≡ Ok (x, drop next octets)
  read_there read leaves octets at x next are e =
      let p = placed_is (length octets) (read (drop at octets)) x next e in
      let l = leaves (drop at octets) x p.0 (octets_from octets at are) p.1 in
      let whole = joined octets (take at octets) (drop at octets) l.0 p.0
      (sym (take-append-drop at octets)) l.1 in
      let end : drop next octets ≡ p.0 =
      ap (λ n. drop n octets) (sym p.2) ∙ end_is octets (take at octets ++ l.0) p.0 whole in
      p.1 ∙ ap (λ t. Ok (x, t)) (sym end)

  pub refused_there : (read : Reader A) (octets : List ℕ) (at : ℕ)
      → found_at read octets at ≡ None → (left : ℕ) × (read (drop at octets) ≡ Err left)
  refused_there read octets at e = refused_is (length octets) (read (drop at octets)) e

-- what is left behind what stands at a place is no more than the octets
pub end_within : {A : Type 0} (read : Reader A) → Leaves read → (octets : List ℕ) (at : ℕ)
    (piece : List ℕ) (x : A) (rest : List ℕ) → AreOctets octets → piece ≡ drop at octets
    → read piece ≡ Ok (x, rest) → length rest ≤ length octets
end_within read leaves octets at piece x rest are same e =
    let size = rest_within read leaves piece x rest
    (subst AreOctets (sym same) (octets_from octets at are)) e in
    omega (arith, size, ap length same, length-drop at octets)
