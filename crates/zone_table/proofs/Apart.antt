-- Slots of two zones are apart.
use Rattle.std.proofs.Common.{◌≡◌, ℕ, List, length, ap, ◌∙◌, sym, Option, Some, subst}
use Rattle.std.specs.Prelude.{slice_get}
use Rattle.std.proofs.lemmas.Option.{slice_get_within}
use Rattle.zone_list.specs.Stored.{Kept, IsKept, zone_told}
use Rattle.zone_list.specs.Slotted.{IsHere, Slotted}
use Rattle.zone_list.specs.Sets.{IsAmong}
use Rattle.zone_list.specs.Orders.{slotted_of, set_in}
use Rattle.zone_list.proofs.Slots.{its_kept}
use Rattle.zone_list.specs.Kept.{AreIntact, Listed, zone_in, zones_in}
use Rattle.zone_list.specs.Zones.{Zone}
use Rattle.zone_table.specs.Tables.{HaveSlotsApart, HaveSlotsBelow}
use Rattle.zone_finding.proofs.Looked.{placed_set}
use Rattle.zone_finding.proofs.Naming.{of_map, stands_here}

module _ (slots : List (Option Kept)) (list : List Listed) (kept : AreIntact slots list) where
  -- a set of a zone is kept in its slot
  kept_there : (zone : Zone) (p : Slotted) → IsAmong (zones_in slots list) zone → IsHere zone.placed p
      → (k : Listed) × IsKept slots p.slot (record { zone = k.id; set = p.set }) × (zone_in slots k ≡ zone)
  kept_there zone p there here =
      let k = of_map (zone_in slots) list zone there in
      let at : IsHere (slotted_of slots k.0.id k.0.order) p =
      subst (λ (z : Zone). IsHere z.placed p) (sym k.2) here in
      let is = its_kept slots k.0.id p.slot p.set
      (placed_set p.slot p.set (set_in slots k.0.id) k.0.order (stands_here slots list kept k.0 k.1).order.present at) in
      (k.0, is, k.2)

  -- the zone that is told of the slot of a set
  told : (zone : Zone) (p : Slotted) → IsAmong (zones_in slots list) zone → IsHere zone.placed p
      → zone_told (slice_get slots p.slot) ≡ Some zone.id
  told zone p there here =
      let k = kept_there zone p there here in
      ap zone_told k.1 ∙ ap (λ (z : Zone). Some z.id) k.2

  pub apart : HaveSlotsApart (zones_in slots list)
  apart zone other p q there its_there here its_here same =
      some_same zone.id other.id (sym (told zone p there here)
      ∙ (ap (λ slot. zone_told (slice_get slots slot)) same ∙ told other q its_there its_here))
    where
      some_same : (n m : ℕ) → Some n ≡ Some m → n ≡ m
      some_same n m f = cc

  pub below : HaveSlotsBelow (zones_in slots list) (length slots)
  below zone p there here =
      let k = kept_there zone p there here in
      slice_get_within slots p.slot (Some (record { zone = k.0.id; set = p.set })) k.1
