-- Sets that are asked for have the name.
use Rattle.std.proofs.Common.{◌≡◌, ℕ, List, subst, sym}
use Rattle.std.specs.Prelude.{◌&&◌, ◌==◌}
use Rattle.std.proofs.lemmas.Bool.Decides.{Decides-and, Decides-eqb}
use Rattle.dns_name.specs.Order.{same_labels}
use Rattle.dns_name.specs.OrderLaws.{same_labels-Decides}
use Rattle.rdata_layout.specs.Types.{number_of}
use Rattle.record_set.specs.declared.sets.RecordSet.{RecordSet}
use Rattle.reply_records.proofs.Targets.{picked_so}
use Rattle.zone_lookup.specs.Sections.{asked_group}
use Rattle.zone_model.specs.Zones.{IsAmong}

pub asked_named : (all sets : List RecordSet) (name : List (List ℕ)) (qtype : ℕ)
    → sets ≡ asked_group all name qtype → (set : RecordSet) → IsAmong sets set → set.name ≡ name
asked_named all sets name qtype are set there =
    sym ((Decides-and _ _ (same_labels-Decides name set.name)
    (Decides-eqb qtype (number_of set.rtype))).0
    (picked_so (λ (s : RecordSet). same_labels name s.name && qtype == number_of s.rtype) all set
    (subst (λ (xs : List RecordSet). IsAmong xs set) are there))).0
