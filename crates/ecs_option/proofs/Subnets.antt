-- What an option's data tells is a subnet.
use Rattle.std.proofs.Common.{◌≡◌, ℕ, ◌-◌, ◌≤◌, List, ◌++◌, length, take, replicate, subst, sym, ap, ◌∙◌}
use Rattle.std.proofs.lemmas.List.{take_at}
use Rattle.ecs_option.specs.Grammar.{bits_of, octets_for, FitsSource}
use Rattle.ecs_option.specs.Writing.{IsSubnet}

-- an address that fits the source length, filled up with zeros
pub is_subnet : (family source : ℕ) (used address : List ℕ) → family ≤ 2 → source ≤ bits_of family
    → FitsSource source used
    → address ≡ used ++ replicate (16 - length used) 0
    → IsSubnet record { family = family; source = source; address = address }
is_subnet family source used address low within fits filled =
    let cut : used ≡ take (octets_for source) address =
    sym (ap (take (octets_for source)) filled
    ∙ take_at used (replicate (16 - length used) 0) (octets_for source) fits.octets) in
    record {
      family = low;
      source = within;
      used = subst (λ u. FitsSource source u) cut fits;
      behind = filled ∙ ap (λ n. used ++ replicate (16 - n) 0) fits.octets
          ∙ ap (λ u. u ++ replicate (16 - octets_for source) 0) cut;
    }
