-- The body of a set among its octets.
use Rattle.std.proofs.Common.{◌≡◌, ℕ, ◌+◌, ◌≤◌, List, ◌++◌, length, drop, arith, ap, ◌∙◌, sym}
use Rattle.std.proofs.Common.{length-append, length-drop, drop-drop, Some}
use Rattle.std.specs.List.{flat_map}
use Rattle.set_parts.specs.Datum.{Datum}
use Rattle.set_parts.specs.BodyRecord.{Body}
use Rattle.set_parts.specs.BodyRecord.TheVariants as body
use Rattle.set_parts.specs.Octets.{body_octets, most_octets, value_octets}
use Rattle.set_parts.proofs.Counted.{two_each}
use Rattle.set_scratch.specs.Bodies.{count_of, values_of}
use Rattle.set_scratch.specs.Kept.{most_values, starts_of}

some_is : (n m : ℕ) → Some n ≡ Some m → n ≡ m
some_is n m e = cc

module _ (octets : List ℕ) (at count : ℕ) where
  pub few_values : (what : Body) (after : List ℕ) → length octets ≤ most_octets
      → drop at octets ≡ body_octets what ++ after → count_of what ≡ Some count → count ≤ most_values
  few_values (body.Values ttl values) after short there is =
      omega (
        arith,
        short,
        some_is (length values) count is,
        two_each values,
        ap length there,
        length-drop at octets,
        length-append (body_octets (body.Values ttl values)) after,
      )
  few_values (body.Alias target evaluate) after short there is = absurd cc

  pub values_there : (what : Body) (after : List ℕ)
      → drop at octets ≡ body_octets what ++ after → count_of what ≡ Some count
      → (values : List Datum) × (rest : List ℕ) × (length values ≡ count)
      × (drop (at + 7) octets ≡ flat_map value_octets values ++ rest)
  values_there (body.Values ttl values) after there is =
      (values, after, some_is (length values) count is, sym (drop-drop 7 at octets) ∙ ap (drop 7) there)
  values_there (body.Alias target evaluate) after there is = absurd cc

  -- where the values end, and so the body
  pub end_of_values : (end : ℕ)
      → ((values : List Datum) (rest : List ℕ) → length values ≡ count
      → drop (at + 7) octets ≡ flat_map value_octets values ++ rest
      → end ≡ at + 7 + length (flat_map value_octets values))
      → (what : Body) (after : List ℕ)
      → drop at octets ≡ body_octets what ++ after → count_of what ≡ Some count
      → end ≡ at + length (body_octets what)
  end_of_values end ends (body.Values ttl values) after there is =
      omega (
        arith,
        ends values after (some_is (length values) count is)
            (sym (drop-drop 7 at octets) ∙ ap (drop 7) there),
      )
  end_of_values end ends (body.Alias target evaluate) after there is = absurd cc

  pub starts_of_values : (starts : List ℕ)
      → ((values : List Datum) (rest : List ℕ) → length values ≡ count
      → drop (at + 7) octets ≡ flat_map value_octets values ++ rest
      → starts ≡ starts_of (at + 7) values)
      → (what : Body) (after : List ℕ)
      → drop at octets ≡ body_octets what ++ after → count_of what ≡ Some count
      → starts ≡ starts_of (at + 7) (values_of what)
  starts_of_values starts are (body.Values ttl values) after there is =
      are values after (some_is (length values) count is) (sym (drop-drop 7 at octets) ∙ ap (drop 7) there)
  starts_of_values starts are (body.Alias target evaluate) after there is = absurd cc
