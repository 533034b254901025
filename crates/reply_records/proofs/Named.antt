-- The name that is the data of an NS record.
use Rattle.std.proofs.Common.{◌≡◌, ℕ, List, [], ◌∷◌, ◌++◌, length, refl, sym, ap, ◌∙◌}
use Rattle.std.specs.List.{AllByRecursion}
use Rattle.dns_name.proofs.Labels.{labels_of-wire}
use Rattle.dns_name.specs.Labels.{lowered, wire}
use Rattle.dns_name.specs.Stored.{IsLowerLabel, labels_of}
use Rattle.dns_name.specs.Wire.{BeginsWithName}
use Rattle.rdata_layout.specs.Layout.{IsLayout}
use Rattle.rdata_layout.specs.declared.types.RType.TheVariants as rtype

same_lower : (labels : List (List ℕ)) → AllByRecursion IsLowerLabel labels
    → lowered labels ≡ labels
same_lower [] all = refl
same_lower (label ∷ labels) all =
    ap (λ (l : List ℕ). l ∷ lowered labels) all.0
    ∙ ap (λ (ls : List (List ℕ)). label ∷ ls) (same_lower labels all.1)

pub record IsNamed (rdata : List ℕ) (labels : List (List ℕ)) : Type 0 where
  pub begins : BeginsWithName rdata labels (length (wire labels))
  pub labels_are : labels_of rdata ≡ labels

pub named : (rdata : List ℕ) → IsLayout rtype.Ns rdata
    → (labels : List (List ℕ)) × IsNamed rdata labels
named rdata layout =
    let fields = layout.fields in
    let labels = fields.2.0 in
    let spelled : rdata ≡ wire labels ++ fields.1 =
    fields.3 ∙ ap (λ (p : List ℕ). p ++ fields.1) fields.2.2 in (
      labels,
      record {
        begins = record {
          raw = labels;
          rest = fields.1;
          name = fields.2.1.raw;
          spelled = spelled;
          size = refl;
          same = sym (same_lower labels fields.2.1.lower);
        };
        labels_are = ap labels_of spelled
            ∙ labels_of-wire labels fields.1 fields.2.1.raw.each;
      },
    )
