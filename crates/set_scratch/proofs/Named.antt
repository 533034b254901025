-- The name with which octets begin.
use Rattle.std.proofs.Common.{◌≡◌, ℕ, List, [], ◌∷◌, ◌++◌, length, ap, ◌∙◌, sym, refl}
use Rattle.std.specs.List.{AllByRecursion}
use Rattle.set_parts.specs.Labels.{wire, lowered}
use Rattle.set_parts.specs.Names.{IsName}
use Rattle.set_parts.specs.Stored.{IsLowerLabel}
use Rattle.set_parts.specs.Wire.{BeginsWithName}

lower_same : (labels : List (List ℕ)) → AllByRecursion IsLowerLabel labels → lowered labels ≡ labels
lower_same [] are = refl
lower_same (label ∷ labels) are =
    ap (λ l. l ∷ lowered labels) are.0 ∙ ap (λ ls. label ∷ ls) (lower_same labels are.1)

pub begins : (octets : List ℕ) (labels : List (List ℕ)) (rest : List ℕ) → IsName labels
    → octets ≡ wire labels ++ rest → BeginsWithName octets labels (length (wire labels))
begins octets labels rest is e = record {
  raw = labels;
  rest = rest;
  name = is.raw;
  spelled = e;
  size = refl;
  same = sym (lower_same labels is.lower);
}
