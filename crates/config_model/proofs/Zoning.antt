-- Zones of a list, one of which changes, comes or goes.
use Rattle.std.proofs.Common.{◌≡◌, ◌≢◌, ℕ, suc, ◌<◌, Bool, true, false, cond, List, [], ◌∷◌, length}
use Rattle.std.proofs.Common.{inl, inr, ap, ◌∙◌, sym, refl, subst, arith, Option, None, Some}
use Rattle.std.specs.Prelude.{◌==◌, Ok}
use Rattle.std.specs.List.{AllByRecursion}
use Rattle.std.proofs.lemmas.Bool.{eqb-true, eq-eqb, false≢true}
use Rattle.set_reading.specs.RecordSetRecord.{RecordSet}
use Rattle.command_octets.specs.Hosted.{HostedZone}
use Rattle.command_octets.specs.Zones.{IsAmong}
use Rattle.config_model.specs.Configs.{with_sets, with_sets_at, zone_with}
use Rattle.config_model.specs.Sound.{AreListed}
use Rattle.config_model.specs.Telling.{first_of, unless}
use Rattle.config_model.specs.declared.refusals.Refusal.{Refusal}
use Rattle.config_model.proofs.Members.{all_at}

-- ---- what is answered

pub accepted : {X : Type 0} (refused : Option Refusal) (answer given : X)
    → Ok answer ≡ unless refused given → (refused ≡ None) × (answer ≡ given)
accepted None answer given e = (refl, grind (arith, e))
accepted (Some why) answer given e = absurd (grind (arith, e))

pub both_none : (a b : Option Refusal) → first_of (a ∷ b ∷ []) ≡ None → (a ≡ None) × (b ≡ None)
both_none None None e = (refl, refl)
both_none (Some why) b e = absurd (grind (arith, e))
both_none None (Some why) e = absurd (grind (arith, e))

-- ---- the zone of a number

has_id : ℕ → HostedZone → Bool
has_id id zone = zone.id == id

found_by : (b : Bool) (id : ℕ) (y : HostedZone) (zones : List HostedZone) (zone : HostedZone)
    → (y.id == id) ≡ b → cond b (Some y) (zone_with zones id) ≡ Some zone
    → (zone_with zones id ≡ Some zone → IsAmong zones zone × (zone.id ≡ id))
    → IsAmong (y ∷ zones) zone × (zone.id ≡ id)
found_by true id y zones zone e found rest =
    let same : y ≡ zone = grind (arith, found) in
    (inl same, subst (λ (z : HostedZone). z.id ≡ id) same (eqb-true y.id id e))
found_by false id y zones zone e found rest = let r = rest found in (inr r.0, r.1)

pub found : (zones : List HostedZone) (id : ℕ) (zone : HostedZone)
    → zone_with zones id ≡ Some zone → IsAmong zones zone × (zone.id ≡ id)
found [] id zone e = absurd (grind (arith, e))
found (y ∷ zones) id zone e =
    found_by (y.id == id) id y zones zone refl e (found zones id zone)

-- a number is that of one zone
pub one_zone : (zones : List HostedZone) (x y : HostedZone) → AreListed zones
    → IsAmong zones x → IsAmong zones y → x.id ≡ y.id → x ≡ y
one_zone [] x y listed there also e = absurd there
one_zone (z ∷ zones) x y listed (inl a) (inl b) e = sym a ∙ b
one_zone (z ∷ zones) x y listed (inl a) (inr also) e =
    let lt = (all_at (λ (other : HostedZone). (z.id < other.id) × (z.apex ≢ other.apex)) zones y
    listed.0 also).0 in
    let same : z.id ≡ y.id = ap (λ (w : HostedZone). w.id) a ∙ e in
    absurd (omega (arith, lt, same))
one_zone (z ∷ zones) x y listed (inr there) (inl b) e =
    let lt = (all_at (λ (other : HostedZone). (z.id < other.id) × (z.apex ≢ other.apex)) zones x
    listed.0 there).0 in
    let same : z.id ≡ x.id = ap (λ (w : HostedZone). w.id) b ∙ sym e in
    absurd (omega (arith, lt, same))
one_zone (z ∷ zones) x y listed (inr there) (inr also) e =
    one_zone zones x y listed.1 there also e

-- ---- other sets in one zone

module _ (id : ℕ) (sets : List RecordSet) where
  -- what holds of a zone, with its own sets and with these, holds of it
  either : (Q : HostedZone → Type 0) (b : Bool) (z : HostedZone) → (z.id == id) ≡ b
      → (z.id ≡ id → Q (record z { sets = sets })) → (z.id ≢ id → Q z)
      → Q (cond b (record z { sets = sets }) z)
  either Q true z e its others = its (eqb-true z.id id e)
  either Q false z e its others = others (λ same. false≢true (sym e ∙ eq-eqb z.id id same))

  pub with_at : (Q : HostedZone → Type 0) (z : HostedZone)
      → (z.id ≡ id → Q (record z { sets = sets })) → (z.id ≢ id → Q z) → Q (with_sets_at id sets z)
  with_at Q z its others = either Q (z.id == id) z refl its others

  pub all_with : (P Q : HostedZone → Type 0) (zones : List HostedZone)
      → ((z : HostedZone) → IsAmong zones z → P z → Q (with_sets_at id sets z))
      → AllByRecursion P zones → AllByRecursion Q (with_sets zones id sets)
  all_with P Q [] f all = tt
  all_with P Q (z ∷ zones) f all =
      (f z (inl refl) all.0, all_with P Q zones (λ y there. f y (inr there)) all.1)

  pub listed_with : (zones : List HostedZone) → AreListed zones
      → AreListed (with_sets zones id sets)
  listed_with [] listed = tt
  listed_with (z ∷ zones) listed = (
    with_at
        (λ x. AllByRecursion (λ other. (x.id < other.id) × (x.apex ≢ other.apex))
        (with_sets zones id sets))
        z (λ same. later) (λ differs. later),
    listed_with zones listed.1,
  )
    where
      later : AllByRecursion (λ other. (z.id < other.id) × (z.apex ≢ other.apex))
          (with_sets zones id sets)
      later = all_with (λ other. (z.id < other.id) × (z.apex ≢ other.apex))
          (λ other. (z.id < other.id) × (z.apex ≢ other.apex)) zones
          (λ y there h. with_at (λ other. (z.id < other.id) × (z.apex ≢ other.apex)) y
          (λ same. h) (λ differs. h)) listed.0

  pub count_with : (zones : List HostedZone) → length (with_sets zones id sets) ≡ length zones
  count_with [] = refl
  count_with (z ∷ zones) = ap suc (count_with zones)
