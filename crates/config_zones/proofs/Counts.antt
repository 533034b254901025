-- What is counted of zones, with the slots of their sets and without.
use Rattle.std.proofs.Common.{◌≡◌, ℕ, ◌+◌, List, [], ◌∷◌, length, ap, ◌∙◌, sym, refl, arith}
use Rattle.std.specs.List.{sum_by}
use Rattle.std.proofs.lemmas.List.{length-map}
use Rattle.std.proofs.lemmas.List.Sums.{sum_by-cons}
use Rattle.config_edits.specs.Laws.{hosted_in}
use Rattle.config_edits.specs.Configs.{count_of, octets_of}
use Rattle.config_zones.specs.Laws.{CountsAgree}
use Rattle.config_edits.specs.RecordSetRecord.{RecordSet}
use Rattle.config_edits.specs.Octets.{set_octets}
use Rattle.config_edits.specs.Sums.{octets_in, octets_of as octets_placed}
use Rattle.config_edits.specs.Zones.{Zone, hosted}
use Rattle.config_edits.specs.Slotted.{Slotted, sets_of}
use Rattle.config_edits.specs.Counted.{octets_in_all, sets_in_all}

abbrev size : RecordSet → ℕ
size set = length (set_octets set)

octets_in_sets : (placed : List Slotted) → sum_by size (sets_of placed) ≡ octets_placed placed
octets_in_sets [] = refl
octets_in_sets (p ∷ placed) =
    sum_by-cons size p.set (sets_of placed)
    ∙ (ap (λ n. size p.set + n) (octets_in_sets placed) ∙ sym (sum_by-cons octets_in p placed))

abbrev placed_count : Zone → ℕ
placed_count zone = length zone.placed

sets_agree : (zones : List Zone) → sum_by count_of (hosted_in zones) ≡ sets_in_all zones
sets_agree [] = refl
sets_agree (zone ∷ zones) =
    sum_by-cons count_of (hosted zone) (hosted_in zones)
    ∙ (ap (λ n. n + sum_by count_of (hosted_in zones))
    (length-map zone.placed (λ (p : Slotted). p.set))
    ∙ (ap (λ n. length zone.placed + n) (sets_agree zones)
    ∙ sym (sum_by-cons placed_count zone zones)))

abbrev placed_octets : Zone → ℕ
placed_octets zone = octets_placed zone.placed

octets_agree : (zones : List Zone) → sum_by octets_of (hosted_in zones) ≡ octets_in_all zones
octets_agree [] = refl
octets_agree (zone ∷ zones) =
    sum_by-cons octets_of (hosted zone) (hosted_in zones)
    ∙ (ap (λ n. n + sum_by octets_of (hosted_in zones)) (octets_in_sets zone.placed)
    ∙ (ap (λ n. octets_placed zone.placed + n) (octets_agree zones)
    ∙ sym (sum_by-cons placed_octets zone zones)))

pub agree : CountsAgree
agree = record {
  zones = λ zones. length-map zones hosted;
  sets = sets_agree;
  octets = octets_agree;
}
