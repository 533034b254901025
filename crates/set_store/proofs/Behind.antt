-- The type behind a name, told by the first octets of a set.
use Rattle.std.proofs.Common.{◌≡◌, ℕ, ◌+◌, ◌-◌, ◌≤◌, List, take, drop, length, min, length-take, ap, ◌∙◌, sym, arith, Option, None, Some}
use Rattle.std.proofs.lemmas.List.{take-take, drop-take}
use Rattle.set_search.specs.Labels.{wire}
use Rattle.set_search.specs.NamesOfDnsName.{IsName}
use Rattle.set_search.specs.RecordSetRecord.{RecordSet}
use Rattle.set_scratch.specs.Laws.{KeysAreInFront}
use Rattle.set_scratch.specs.Spelling.{Spells}
use Rattle.set_search.specs.Found.{TypeOrNone}
use Rattle.set_store.specs.Heads.{IsTypeBehind}
use Rattle.set_store.proofs.Alike.{its_number, same_name}
use Rattle.set_store.proofs.Fronts.{its_name}

-- a front has a place where it is long enough
pub near : (octets front : List ℕ) (n : ℕ) → front ≡ take 32 octets → n + 2 ≤ length front → n + 2 ≤ 32
near octets front n e le =
    let size : length front ≡ min 32 (length octets) = ap length e ∙ length-take 32 octets in
    omega (arith, size, le)

same_front : (octets front : List ℕ) (n : ℕ) → front ≡ take 32 octets → n + 2 ≤ 32
    → take n front ≡ take n octets
same_front octets front n e le = ap (take n) e ∙ take-take n 32 octets (omega (arith, le))

same_two : (octets front : List ℕ) (n : ℕ) → front ≡ take 32 octets → n + 2 ≤ 32
    → take 2 (drop n front) ≡ take 2 (drop n octets)
same_two octets front n e le =
    let split : n + (32 - n) ≡ 32 = omega (arith, le) in
    ap (λ (f : List ℕ). take 2 (drop n f)) (e ∙ ap (λ m. take m octets) (sym split))
    ∙ (ap (take 2) (drop-take n (32 - n) octets) ∙ take-take 2 (32 - n) (drop n octets) (omega (arith, le)))

module _ (keys : KeysAreInFront) (set : RecordSet) (octets : List ℕ) (spells : Spells octets set)
    (name : List (List ℕ)) (piece : List ℕ) (is : IsName name) (told : piece ≡ wire name) where
  pub in_front : (front : List ℕ) (found : Option ℕ) → front ≡ take 32 octets
      → length piece + 2 ≤ length front → IsTypeBehind front piece found → TypeOrNone name set found
  in_front front None e le apart = λ same.
      apart (same_front octets front (length piece) e (near octets front (length piece) e le)
      ∙ (its_name keys set octets spells name piece is told).1 same)
  in_front front (Some number) e le found =
      let low = near octets front (length piece) e le in
      let stands = sym (same_front octets front (length piece) e low) ∙ found.0 in (
        same_name keys set octets spells name piece is told stands,
        its_number keys set octets spells name piece is told stands
            (take 2 (drop (length piece) front)) number (same_two octets front (length piece) e low) found.1,
      )
