-- The sets of a zone, as health sees them.
use Rattle.std.proofs.Common.{◌≡◌, ℕ, List, [], ◌∷◌, map, refl, sym, inl, inr}
use Rattle.std.specs.Prelude.{nat_eq}
use Rattle.std.specs.Map.{lookup}
use Rattle.std.proofs.lemmas.Bool.{cases_eq, eq-eqb, ne_eqb}
use Rattle.check_model.specs.Checks.{Checks}
use Rattle.health_model.specs.Healthy.{sets_of as sets_at, sets_there}
use Rattle.policy_select.specs.Zones.{Zone, placed_in}
use Rattle.zone_model.specs.Slotted.{sets_of}
use Rattle.health_planning.specs.Wired.{watched_of, watched_zone}

-- the sets of a zone, as health sees them
pub zone_sets : (zones : List Zone) (checks : Checks) (zone : ℕ)
    → sets_at (watched_of zones checks) zone ≡ sets_of (placed_in zones zone)
zone_sets zones checks zone = go zones
  where
    go : (zones : List Zone)
        → sets_there (lookup (nat_eq zone) (map watched_zone zones)) ≡ sets_of (placed_in zones zone)
    go [] = refl
    go (first ∷ zones) = elim (cases_eq first.id zone) [
      | inl same ↦ rw (eq-eqb zone first.id (sym same), eq-eqb first.id zone same) refl
      | inr apart ↦ rw (ne_eqb zone first.id (λ e. apart (sym e)), ne_eqb first.id zone apart) (go zones)
    ]
