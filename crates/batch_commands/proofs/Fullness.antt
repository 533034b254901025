-- How much there is in all zones once one of them has other sets.
use Rattle.std.proofs.Common.{◌≡◌, ◌≢◌, ℕ, ◌+◌, ◌<◌, ◌≤◌, Bool, true, false, cond, List, [], ◌∷◌, ap, ◌∙◌}
use Rattle.std.proofs.Common.{sym, refl, subst, arith, inl, inr}
use Rattle.std.specs.Prelude.{◌==◌}
use Rattle.std.specs.List.{AllByRecursion, sum_by}
use Rattle.std.proofs.lemmas.Bool.{eq-eqb, eqb-true}
use Rattle.std.proofs.lemmas.List.Sums.{sum_by-cons}
use Rattle.config_zones.specs.Edited.{hosted_in}
use Rattle.config_zones.specs.Configs.{with_sets, with_sets_at}
use Rattle.record_set.specs.declared.sets.RecordSet.{RecordSet}
use Rattle.config_zones.proofs.Listing.{its_placed}
use Rattle.config_zones.proofs.MembersOfZoneList.{in_all}
use Rattle.config_zones.specs.Zones.{AreListed, IsOne, IsZoneId, Zone, hosted, placed_in}
use Rattle.zone_model.specs.Hosted.{HostedZone}
use Rattle.zone_model.specs.Slotted.{Slotted, sets_of}

at_id : (id : ℕ) (sets : List RecordSet) (z : HostedZone) → z.id ≡ id
    → with_sets_at id sets z ≡ record z { sets = sets }
at_id id sets z e = ap (λ b. cond b (record z { sets = sets }) z) (eq-eqb z.id id e)

off_id : (id : ℕ) (sets : List RecordSet) (z : HostedZone) → z.id ≢ id
    → with_sets_at id sets z ≡ z
off_id id sets z ne = by (z.id == id) refl
  where
    by : (b : Bool) → (z.id == id) ≡ b → cond (z.id == id) (record z { sets = sets }) z ≡ z
    by true f = absurd (ne (eqb-true z.id id f))
    by false f = ap (λ b. cond b (record z { sets = sets }) z) f

none_with : (zones : List Zone) (id : ℕ) (sets : List RecordSet)
    → AllByRecursion (λ (zone : Zone). zone.id ≢ id) zones
    → with_sets (hosted_in zones) id sets ≡ hosted_in zones
none_with [] id sets others = refl
none_with (zone ∷ zones) id sets others =
    ap (λ (z : HostedZone). z ∷ with_sets (hosted_in zones) id sets)
    (off_id id sets (hosted zone) others.0)
    ∙ ap (λ rest. hosted zone ∷ rest) (none_with zones id sets others.1)

others_apart : (zone : Zone) (zones : List Zone)
    → AllByRecursion (λ (other : Zone). (zone.id < other.id) × (zone.apex ≢ other.apex)) zones
    → AllByRecursion (λ (other : Zone). other.id ≢ zone.id) zones
others_apart zone [] later = tt
others_apart zone (other ∷ zones) later = (
  λ e. (let lt = later.0.0 in let same = e in omega (arith, lt, same)),
  others_apart zone zones later.1,
)

module _ (g : HostedZone → ℕ) (h : List RecordSet → ℕ) (told : (z : HostedZone) → g z ≡ h z.sets)
    (after : List RecordSet) where
  with_one : (zones : List Zone) → AreListed zones → (zone : Zone) → IsOne zones zone
      → sum_by g (with_sets (hosted_in zones) zone.id after) + h (sets_of zone.placed)
      ≡ sum_by g (hosted_in zones) + h after
  with_one [] listed zone there = absurd there
  with_one (first ∷ zones) listed zone (inl e) =
      let now = ap (λ (z : HostedZone). sum_by g (z ∷ with_sets (hosted_in zones) zone.id after))
      (at_id zone.id after (hosted first) (ap (λ (z : Zone). z.id) e)) in
      let rest = ap (λ zs. sum_by g (record (hosted first) { sets = after } ∷ zs))
      (none_with zones zone.id after (subst (λ (z : Zone).
      AllByRecursion (λ (other : Zone). other.id ≢ z.id) zones) e
      (others_apart first zones listed.0))) in
      let more = sum_by-cons g (record (hosted first) { sets = after }) (hosted_in zones) in
      let more_before = sum_by-cons g (hosted first) (hosted_in zones) in
      let its = told (record (hosted first) { sets = after }) in
      let was = told (hosted first) ∙ ap (λ (z : Zone). h (sets_of z.placed)) e in
      omega (arith, now, rest, more, more_before, its, was)
  with_one (first ∷ zones) listed zone (inr there) =
      let lower = (in_all (λ (other : Zone). (first.id < other.id) × (first.apex ≢ other.apex)) zones
      zone listed.0 there).0 in
      let now = ap (λ (z : HostedZone). sum_by g (z ∷ with_sets (hosted_in zones) zone.id after))
      (off_id zone.id after (hosted first) (λ e. (let same = e in omega (arith, lower, same)))) in
      let more = sum_by-cons g (hosted first) (with_sets (hosted_in zones) zone.id after) in
      let more_before = sum_by-cons g (hosted first) (hosted_in zones) in
      let rest = with_one zones listed.1 zone there in
      omega (arith, now, more, more_before, rest)

  pub with_other : (zones : List Zone) → AreListed zones → (id : ℕ) → IsZoneId zones id
      → sum_by g (with_sets (hosted_in zones) id after) + h (sets_of (placed_in zones id))
      ≡ sum_by g (hosted_in zones) + h after
  with_other zones listed id (zone, there, its_id) =
      let one = with_one zones listed zone there in
      let same = ap (λ n. sum_by g (with_sets (hosted_in zones) n after)) its_id in
      let placed = ap (λ (ps : List Slotted). h (sets_of ps))
      (sym (its_placed zones listed zone there) ∙ ap (placed_in zones) its_id) in
      omega (arith, one, same, placed)

-- one zone has no more than all
pub part_of_all : (g : HostedZone → ℕ) (zones : List Zone) → AreListed zones → (zone : Zone)
    → IsOne zones zone → g (hosted zone) ≤ sum_by g (hosted_in zones)
part_of_all g [] listed zone there = absurd there
part_of_all g (first ∷ zones) listed zone (inl e) =
    let more = sum_by-cons g (hosted first) (hosted_in zones) in
    let same = ap (λ (z : Zone). g (hosted z)) e in
    omega (arith, more, same)
part_of_all g (first ∷ zones) listed zone (inr there) =
    let more = sum_by-cons g (hosted first) (hosted_in zones) in
    let rest = part_of_all g zones listed.1 zone there in
    omega (arith, more, rest)
