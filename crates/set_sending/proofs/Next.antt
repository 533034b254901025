-- The next of the values of a set.
use Rattle.std.proofs.Common.{◌≡◌, ℕ, zero, suc, ◌+◌, ◌<◌, List, [], ◌∷◌, ◌++◌, length, drop, Option, Some, ap, ◌∙◌, subst, sym, arith, refl}
use Rattle.std.specs.Prelude.{IfSome, nat_lt, slice_get}
use Rattle.std.proofs.lemmas.Bool.{lt-ltb}
use Rattle.std.proofs.lemmas.List.{length-map}
use Rattle.list_writing.specs.Pieces.{value_piece, value_pieces}
use Rattle.rdata_layout.specs.declared.types.RType.{RType}
use Rattle.record_set.specs.declared.sets.RecordSet.{RecordSet}
use Rattle.list_writing.specs.Bodies.{values_of, wires_of}

-- what stands at a place below the end
filled : {X : Type 0} (xs : List X) (i : ℕ) → i < length xs → (x : X) × (slice_get xs i ≡ Some x)
filled [] i lt = absurd (omega (arith, lt))
filled (x ∷ xs) zero lt = (x, refl)
filled (x ∷ xs) (suc i) lt = filled xs i (omega (arith, lt))

-- what is left at a place
left_from : {X : Type 0} (xs : List X) (i : ℕ) (x : X) → slice_get xs i ≡ Some x
    → drop i xs ≡ x ∷ drop (suc i) xs
left_from [] i x e = absurd (grind (arith, e))
left_from (y ∷ xs) zero x e = ap (λ z. z ∷ xs) (grind (arith, e))
left_from (y ∷ xs) (suc i) x e = left_from xs i x e

left_at : {X : Type 0} (xs : List X) (i : ℕ) (x : X) → slice_get xs i ≡ Some x
    → drop i xs ≡ x ∷ drop (i + 1) xs
left_at xs i x e =
    let n : suc i ≡ i + 1 = omega arith in left_from xs i x e ∙ ap (λ k. x ∷ drop k xs) n

pub next_value : (rtype : RType) (wires : List (List ℕ)) (i : ℕ) (wire : List ℕ)
    → slice_get wires i ≡ Some wire
    → value_pieces (nat_lt 0 i) rtype (drop i wires)
    ≡ value_piece (nat_lt 0 i) rtype wire
    ++ value_pieces (nat_lt 0 (i + 1)) rtype (drop (i + 1) wires)
next_value rtype wires i wire at =
    ap (value_pieces (nat_lt 0 i) rtype) (left_at wires i wire at)
    ∙ ap (λ b. value_piece (nat_lt 0 i) rtype wire ++ value_pieces b rtype (drop (i + 1) wires))
    (sym (lt-ltb 0 (i + 1) (omega arith)))

-- the value at a place below the number of values
pub value_at : (held : Option RecordSet) (set : RecordSet) (n i : ℕ) → held ≡ Some set
    → IfSome held (λ (its : RecordSet). n ≡ length (values_of its.body)) → i < n
    → (wire : List ℕ) × (slice_get (wires_of set.body) i ≡ Some wire)
value_at held set n i is counted lt =
    let same : n ≡ length (values_of set.body) =
    subst (λ o. IfSome o (λ (its : RecordSet). n ≡ length (values_of its.body))) is counted in
    filled (wires_of set.body) i
    (omega (arith, lt, same, length-map (values_of set.body) (λ value. value.wire)))
