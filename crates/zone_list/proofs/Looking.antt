-- A set looked for by its key in two parts of a list.
use Rattle.std.proofs.Common.{◌≤◌, ◌<◌, ℕ, zero, suc, List, length, Option, None, Some, arith, inl, inr}
use Rattle.std.specs.Prelude.{◌⊎◌}
use Rattle.std.proofs.lemmas.Option.{slice_get_within}
use Rattle.zone_changes.specs.RecordSetRecord.{RecordSet}
use Rattle.zone_changes.specs.SetKeyRecord.{SetKey}
use Rattle.zone_changes.proofs.Among.{place_of}
use Rattle.zone_list.specs.Steps.{FoundBetween, PlaceOrNone}

low_or_high : (a b : ℕ) → (a < b) ⊎ (b ≤ a)
low_or_high a zero = inr (omega arith)
low_or_high zero (suc b) = inl (omega arith)
low_or_high (suc a) (suc b) =
    elim (low_or_high a b) [
      | inl lt ↦ inl (omega (arith, lt))
      | inr le ↦ inr (omega (arith, le))
    ]

-- what is not found behind a place is found in front of it, or nowhere
pub in_both : (add : List RecordSet) (key : SetKey) (middle : ℕ) (found : Option ℕ)
    → FoundBetween add key middle (length add) None → FoundBetween add key 0 middle found
    → PlaceOrNone add key found
in_both add key middle (Some at) behind front = front
in_both add key middle None behind front = λ there.
    let place = place_of add there.0 there.1.there in
    elim (low_or_high place.0 middle) [
      | inl lt ↦ front place.0 there.0 (omega arith) lt place.1 there.1.same_key
      | inr le ↦
          behind place.0 there.0 le (slice_get_within add place.0 there.0 place.1) place.1
          there.1.same_key
    ]
