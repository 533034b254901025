-- The octets of a set from its policy on.
use Rattle.std.proofs.Common.{◌≡◌, ℕ, ◌+◌, ◌-◌, ◌<◌, ◌≤◌, List, [], ◌∷◌, ◌++◌, length, take, drop, min}
use Rattle.std.proofs.Common.{ap, ◌∙◌, sym, refl, arith, append_assoc, length-append, length-drop, length-take, inl, inr}
use Rattle.std.proofs.lemmas.List.{drop-take, take_all}
use Rattle.std.proofs.Math.Seq.{drop-append_seam}
use Rattle.octets.specs.Numbers.{two_octets}
use Rattle.set_search.specs.Labels.{wire}
use Rattle.set_search.specs.Types.{number_of}
use Rattle.set_search.specs.RecordSetRecord.{RecordSet}
use Rattle.set_scratch.specs.Spelling.{Spells, from_policy}
use Rattle.set_scratch.proofs.Found.{named}
use Rattle.set_store.specs.Policies.{PolicyIsAt}
use Rattle.set_store.proofs.Reading.{below_or_not, filled}

-- nothing stands behind the last octet
pub past_end : (octets : List ℕ) (offset : ℕ) → length octets < offset → [] ≡ drop offset octets
past_end octets offset past = sym (empty (drop offset octets) (omega (arith, length-drop offset octets, past)))
  where
    empty : (xs : List ℕ) → length xs ≡ 0 → xs ≡ []
    empty [] e = refl
    empty (x ∷ xs) e = absurd (omega (arith, e))

pub none_behind : (octets : List ℕ) (offset room : ℕ) → length octets < offset
    → [] ≡ take room (drop offset octets)
none_behind octets offset room past =
    sym (take_all room [] (omega arith)) ∙ ap (take room) (past_end octets offset past)

-- what stands from a place on, of the first 32 octets
pub front_behind : (at : ℕ) (octets : List ℕ) → drop at (take 32 octets) ≡ take (32 - at) (drop at octets)
front_behind at octets = elim (below_or_not 32 at) [
  | inl lt ↦
      (let few : length (take 32 octets) < at = omega (arith, lt, length-take 32 octets) in
      let none : 0 ≡ 32 - at = omega (arith, lt) in
      sym (past_end (take 32 octets) at few) ∙ ap (λ n. take n (drop at octets)) none)
  | inr le ↦
      (let split : at + (32 - at) ≡ 32 = omega (arith, le) in
      ap (λ n. drop at (take n octets)) (sym split) ∙ drop-take at (32 - at) octets)
]

take_most : (xs : List ℕ) (n : ℕ) → take (min (length xs) n) xs ≡ take n xs
take_most xs n = elim (below_or_not (length xs) n) [
  | inl lt ↦
      (let few : length xs ≤ n = omega (arith, lt) in
      let more : length xs ≤ min (length xs) n = omega (arith, lt) in
      take_all (min (length xs) n) xs more ∙ sym (take_all n xs few))
  | inr le ↦
      (let same : min (length xs) n ≡ n = omega (arith, le) in
      ap (λ k. take k xs) same)
]

-- the front of a buffer that was filled with what stands from a place on
pub part_filled : (n offset : ℕ) (octets buffer rest into : List ℕ) → offset ≤ length octets
    → n ≡ min (length octets - offset) (length buffer)
    → into ≡ take (length (take n buffer)) (drop offset octets)
    → take n (into ++ rest) ≡ take (length buffer) (drop offset octets)
part_filled n offset octets buffer rest into within count is =
    let left : length (drop offset octets) ≡ length octets - offset = length-drop offset octets in
    filled n (drop offset octets) buffer rest into (omega (arith, left, count)) (omega (arith, count)) is
    ∙ ap (λ k. take k (drop offset octets)) (count ∙ ap (λ k. min k (length buffer)) (sym left))
    ∙ take_most (drop offset octets) (length buffer)

-- what stands behind the name and the type
pub at_policy : (set : RecordSet) (octets : List ℕ) (at : ℕ) → Spells octets set → PolicyIsAt set at
    → drop at octets ≡ from_policy set
at_policy set octets at spells is =
    let name = wire set.name in
    let two = two_octets (number_of set.rtype) in
    let size : at ≡ length (name ++ two) = omega (arith, is, length-append name two) in
    ap (λ k. drop k octets) size
    ∙ ap (drop (length (name ++ two)))
    (spells.same ∙ named set ∙ sym (append_assoc name two (from_policy set)))
    ∙ drop-append_seam (name ++ two) (from_policy set)
