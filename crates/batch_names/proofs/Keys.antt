-- The set of a key, as it is found.
use Rattle.std.proofs.Common.{◌≡◌, ℕ, List, length, ap, ◌∙◌, sym, arith, subst, Some, None, true}
use Rattle.std.specs.Prelude.{slice_get, Option}
use Rattle.std.proofs.lemmas.List.{length-map}
use Rattle.std.proofs.lemmas.Option.{slice_get_within}
use Rattle.batch_model.specs.RecordSetRecord.{RecordSet}
use Rattle.zone_table.proofs.Holding.{held_there, kept_in, named}
use Rattle.zone_table.proofs.Lookups.{not_found}
use Rattle.zone_table.specs.BoundRecord.TheVariants as bound
use Rattle.zone_table.specs.Found.{IsCount}
use Rattle.zone_table.specs.Looking.{IsNextSet, RefersTo}
use Rattle.zone_table.specs.Placing.{IsThere}
use Rattle.zone_table.specs.SetKeyRecord.{SetKey}
use Rattle.zone_table.specs.SetRefRecord.{SetRef}
use Rattle.zone_table.specs.Sets.{IsRising}
use Rattle.zone_table.specs.SetsOfRecordSet.{key_of}
use Rattle.zone_table.specs.Slotted.{Slotted, sets_of}
use Rattle.zone_table.specs.Zones.{AreZones, Zone, placed_in}
use Rattle.batch_names.specs.Keyed.{HoldsFrom}

-- a set of the key is there where the first that doesn't stand before it is one
pub keyed_or_none : (sets : List RecordSet) (key : SetKey) (at : ℕ) (set : RecordSet)
    → IsRising sets → IsCount sets (bound.From key) at → slice_get sets at ≡ Some set
    → (key_of set ≡ key → ⊥) → IsThere sets key → ⊥
keyed_or_none sets key at set rising count there differs =
    (not_found sets key rising at count (λ other also same.
    let one : other ≡ set = grind (arith, also, there) in
    differs (ap key_of (sym one) ∙ same))).none

pub none_behind : (sets : List RecordSet) (key : SetKey) → IsRising sets
    → IsCount sets (bound.From key) (length sets) → IsThere sets key → ⊥
none_behind sets key rising count =
    (not_found sets key rising (length sets) count (λ other there same.
    let within = slice_get_within sets (length sets) other there in
    absurd (omega (arith, within)))).none

module _ (zones : List Zone) (are : AreZones zones) (id : ℕ) (key : SetKey) where
  pub sets_rise : IsRising (sets_of (placed_in zones id))
  sets_rise = (kept_in zones are.each id).rising

  pub none_from : IsNextSet zones id (bound.From key) None
      → IsCount (sets_of (placed_in zones id)) (bound.From key)
      (length (sets_of (placed_in zones id)))
  none_from none =
      subst (λ n. IsCount (sets_of (placed_in zones id)) (bound.From key) n)
      (sym (length-map (placed_in zones id) (λ (p : Slotted). p.set))) none

  module _ (ref : SetRef) (next : IsNextSet zones id (bound.From key) (Some ref)) where
    pub names_it : RefersTo zones ref next.1.2.0
    names_it = named zones are id next.1.0 ref next.0 next.1.2

    pub holds_it : (held : Option RecordSet)
        → ((other : RecordSet) × RefersTo zones ref other × (held ≡ Some other))
        → HoldsFrom (sets_of (placed_in zones id)) key true held
    holds_it held found =
        (next.1.0, next.1.1, held_there zones are id next.1.0 ref next.0 next.1.2 held found)
