-- What a line gives as a name is one.
use Rattle.std.proofs.Common.{◌≡◌, ℕ, List, Result, Ok, Err, ap, refl, ◌∙◌}
use Rattle.dns_name.specs.Laws.{TextsReadAsNames}
use Rattle.dns_name.specs.Names.{IsName}
use Rattle.dns_name.specs.Text.{name_of_text}
use Rattle.dns_name.specs.declared.fault.NameFault.{NameFault}
use Rattle.serde_json.specs.Data.{Data}
use Rattle.line_faults.specs.declared.member.Member.{Member}
use Rattle.line_reading.specs.Kinds.{name, or_bad_name, text}
use Rattle.line_bounds.proofs.Steps.{same_ok, steps}

pub name_is : TextsReadAsNames → (h : Member) (d : Data) (labels : List (List ℕ))
    → name h d ≡ Ok labels → IsName labels
unfolding name
name_is law h d labels e =
    let s = steps (text h d) _ labels e in
    go s.value (name_of_text s.value) refl s.gives
  where
    go : (s : List ℕ) (read : Result (List (List ℕ)) NameFault) → name_of_text s ≡ read
        → or_bad_name h read ≡ Ok labels → IsName labels
    go s (Ok others) r k = law s labels (r ∙ ap Ok (same_ok others labels k))
    go s (Err fault) r k = absurd cc
