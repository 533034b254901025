-- Zones one after another, by rising number.
use Rattle.std.proofs.Common.{◌≡◌, ℕ, ◌<◌, ◌≤◌, Bool, true, false, cond, List, [], ◌∷◌, ◌++◌, ap, ◌∙◌}
use Rattle.std.proofs.Common.{sym, refl, subst, arith, inl, inr, None}
use Rattle.std.specs.Prelude.{◌⊎◌, ◌≢◌, nat_lt}
use Rattle.std.specs.List.{AllByRecursion}
use Rattle.std.proofs.lemmas.Bool.{ltb-true, ltb-false, le-ltb, lt-ltb}
use Rattle.config_edits.specs.Laws.{hosted_in}
use Rattle.config_edits.specs.Configs.{all_sets}
use Rattle.config_zones.specs.Laws.{ZonesFollow}
use Rattle.config_zones.specs.Walks.{above}
use Rattle.config_edits.proofs.Listing.{its_placed}
use Rattle.config_edits.proofs.Members.{in_all}
use Rattle.config_edits.specs.Found.{IsNextZone, NextZoneOrNone}
use Rattle.config_edits.specs.Zones.{AreListed, AreZones, IsOne, StandsAlone, Zone}
use Rattle.config_edits.specs.Zones.{placed_in}
use Rattle.config_edits.specs.Slotted.{Slotted, sets_of}

-- a zone of a number that isn't above another isn't among those above it
not_above : (zone : Zone) (zones : List Zone) (id : ℕ) → zone.id ≤ id
    → above (zone ∷ zones) id ≡ above zones id
not_above zone zones id low =
    ap (λ b. cond b (zone ∷ above zones id) (above zones id)) (le-ltb id zone.id low)

is_above : (zone : Zone) (zones : List Zone) (id : ℕ) → id < zone.id
    → above (zone ∷ zones) id ≡ zone ∷ above zones id
is_above zone zones id high =
    ap (λ b. cond b (zone ∷ above zones id) (above zones id)) (lt-ltb id zone.id high)

all_above : (zones : List Zone) (id : ℕ) → AllByRecursion (λ (zone : Zone). id < zone.id) zones
    → above zones id ≡ zones
all_above [] id all = refl
all_above (zone ∷ zones) id all =
    is_above zone zones id all.0 ∙ ap (λ rest. zone ∷ rest) (all_above zones id all.1)

mapped : {P Q : Zone → Type 0} (zones : List Zone) → ((zone : Zone) → P zone → Q zone)
    → AllByRecursion P zones → AllByRecursion Q zones
mapped [] so all = tt
mapped (zone ∷ zones) so all = (so zone all.0, mapped zones so all.1)

no_zone_above : (zones : List Zone) (id : ℕ) → ((zone : Zone) → IsOne zones zone → zone.id ≤ id)
    → above zones id ≡ []
no_zone_above [] id none = refl
no_zone_above (zone ∷ zones) id none =
    not_above zone zones id (none zone (inl refl))
    ∙ no_zone_above zones id (λ other there. none other (inr there))

above_low : (zones : List Zone) (id next : ℕ) → AreListed zones
    → ((zone : Zone) → IsOne zones zone → id < zone.id → next ≤ zone.id)
    → (zone : Zone) → IsOne zones zone → zone.id ≡ next → id < next
    → above zones id ≡ zone ∷ above zones next
above_low [] id next listed least zone there its_id up = absurd there
above_low (first ∷ zones) id next listed least zone (inl e) its_id up =
    let same : first.id ≡ next = ap (λ (z : Zone). z.id) e ∙ its_id in
    let high : AllByRecursion (λ (other : Zone). id < other.id) zones =
    mapped zones (λ other h. (let h0 = h.0 in omega (arith, h0, same, up))) listed.0 in
    let higher : AllByRecursion (λ (other : Zone). next < other.id) zones =
    mapped zones (λ other h. (let h0 = h.0 in omega (arith, h0, same))) listed.0 in
    is_above first zones id (omega (arith, same, up))
    ∙ (ap (λ rest. first ∷ rest) (all_above zones id high)
    ∙ (ap (λ (z : Zone). z ∷ zones) e
    ∙ ap (λ rest. zone ∷ rest)
    (sym (not_above first zones next (omega (arith, same)) ∙ all_above zones next higher))))
above_low (first ∷ zones) id next listed least zone (inr there) its_id up =
    let h = in_all (λ (other : Zone). (first.id < other.id) × (first.apex ≢ other.apex)) zones zone
    listed.0 there in
    let lower = h.0 in
    let low : first.id ≤ id = by (nat_lt id first.id) refl lower in
    not_above first zones id low
    ∙ (above_low zones id next listed.1 (λ other among. least other (inr among)) zone there its_id up
    ∙ ap (λ rest. zone ∷ rest)
    (sym (not_above first zones next (omega (arith, lower, its_id)))))
  where
    by : (b : Bool) → nat_lt id first.id ≡ b → first.id < zone.id → first.id ≤ id
    by false e lower = ltb-false id first.id e
    by true e lower =
        absurd (let from = least first (inl refl) (ltb-true id first.id e) in
        omega (arith, from, lower, its_id))

sets_follow : (zones : List Zone) (id next : ℕ) → AreZones zones → IsNextZone zones id next
    → all_sets (hosted_in (above zones id))
    ≡ sets_of (placed_in zones next) ++ all_sets (hosted_in (above zones next))
sets_follow zones id next are is =
    let zone = is.there.0 in
    ap (λ (zs : List Zone). all_sets (hosted_in zs))
    (above_low zones id next are.listed is.least zone is.there.1 is.there.2 is.above)
    ∙ ap (λ (ps : List Slotted). sets_of ps ++ all_sets (hosted_in (above zones next)))
    (sym (its_placed zones are.listed zone is.there.1) ∙ ap (placed_in zones) is.there.2)

pub follow : ZonesFollow
follow = record {
  all = λ zones are. all_above zones 0 (mapped zones (λ zone alone. alone.numbered) are.each);
  next = λ zones id next are is. (
    is.there.0,
    is.there.1,
    is.there.2,
    above_low zones id next are.listed is.least is.there.0 is.there.1 is.there.2 is.above,
  );
  sets = sets_follow;
  none = λ zones id none. no_zone_above zones id none;
}
