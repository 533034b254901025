-- The zone of the longest name, over stored zones and over those of definitions.
use Rattle.std.proofs.Common.{◌≡◌, ◌≢◌, ◌<◌, ℕ, List, [], ◌∷◌, ◌++◌, Option}
use Rattle.std.proofs.Common.{Some, None, length, drop}
use Rattle.std.proofs.Common.{refl, sym, ap, ◌∙◌, subst, inl, inr, arith, true, false, eqb-true}
use Rattle.std.specs.Prelude.{◌==◌}
use Rattle.std.proofs.lemmas.Bool.Decides.{nat_tests}
use Rattle.dns_name.specs.Suffix.{EndsWith}
use Rattle.policy_select.proofs.Listing.{its_placed, one_zone}
use Rattle.policy_select.proofs.MembersOfZoneList.{in_all}
use Rattle.policy_select.specs.Zones.{AreListed, AreZones, IsOne, Zone, hosted, placed_in}
use Rattle.policy_select.specs.Hosted.{HostedZone}
use Rattle.policy_select.specs.Slotted.{Slotted, sets_of}
use Rattle.policy_select.proofs.Naming.{in_map, of_map}
use Rattle.policy_select.specs.Looking.{IsZoneFor, IsApex}
use Rattle.policy_select.specs.Laws.{ZoneOrNone, ZonesAreLongest}
use Rattle.policy_select.specs.Sections.{is_zone}
use Rattle.policy_select.specs.ZonesOfAnswerModel.{zone_for}
use Rattle.policy_select.specs.Groups.{FewInGroups, sets_in_zone}
use Rattle.zone_lookup.proofs.Cutting.{counts}
use Rattle.zone_lookup.specs.Served.{AreServed, hosted_of, zone_of}

-- a test of two numbers, turned round
turned : (a b : ℕ) → (a == b) ≡ (b == a)
turned a b = grind (arith, nat_tests)

-- two ends of a name that are as long are one
pub one_end : (name one other : List (List ℕ)) → EndsWith name one → EndsWith name other
    → length one ≡ length other → one ≡ other
one_end name one other ends ends_too same =
    let first = counts name one ends in
    let second = counts name other ends_too in
    let as_long : length ends.0 ≡ length ends_too.0 = omega (arith, first, second, same) in
    sym (dropped ends.0 one)
    ∙ (ap (drop (length ends.0)) (sym ends.1 ∙ ends_too.1)
    ∙ (ap (λ (n : ℕ). drop n (ends_too.0 ++ other)) as_long ∙ dropped ends_too.0 other))
  where
    dropped : (xs ys : List (List ℕ)) → drop (length xs) (xs ++ ys) ≡ ys
    dropped [] ys = refl
    dropped (x ∷ xs) ys = dropped xs ys

-- the zone of a number and a name, as definitions see it
pub its_hosted : (zones : List Zone) → AreListed zones → (x : Zone) → IsOne zones x
    → (id : ℕ) (apex : List (List ℕ)) → x.id ≡ id → x.apex ≡ apex
    → hosted x ≡ zone_of zones id apex
its_hosted zones listed x there id apex its_id its_apex =
    ap (λ (n : ℕ). record { id = n; apex = x.apex; sets = sets_of x.placed }) its_id
    ∙ (ap (λ (a : List (List ℕ)). record { id = id; apex = a; sets = sets_of x.placed }) its_apex
    ∙ ap (λ (ps : List Slotted). record { id = id; apex = apex; sets = sets_of ps })
    (sym (its_placed zones listed x there) ∙ ap (placed_in zones) its_id))

-- two zones of one name are one
one_of_apex : (zones : List Zone) → AreListed zones → (x y : Zone) → IsOne zones x → IsOne zones y
    → x.apex ≡ y.apex → x ≡ y
one_of_apex [] listed x y at_x at_y e = absurd at_x
one_of_apex (zone ∷ zones) listed x y (inl ex) (inl ey) e = sym ex ∙ ey
one_of_apex (zone ∷ zones) listed x y (inl ex) (inr at_y) e =
    let apart =
    in_all (λ other. (zone.id < other.id) × (zone.apex ≢ other.apex)) zones y listed.0 at_y in
    absurd (apart.1 (ap (λ (z : Zone). z.apex) ex ∙ e))
one_of_apex (zone ∷ zones) listed x y (inr at_x) (inl ey) e =
    let apart =
    in_all (λ other. (zone.id < other.id) × (zone.apex ≢ other.apex)) zones x listed.0 at_x in
    absurd (apart.1 (ap (λ (z : Zone). z.apex) ey ∙ sym e))
one_of_apex (zone ∷ zones) listed x y (inr at_x) (inr at_y) e =
    one_of_apex zones listed.1 x y at_x at_y e

module _ (zones : List Zone) (are : AreZones zones) (longest : ZonesAreLongest)
    (name : List (List ℕ)) where
  -- where none of the zones holds the name, none is found
  pub none_holds : ((zone : Zone) → IsOne zones zone → EndsWith name zone.apex → ⊥)
      → zone_for (hosted_of zones) name ≡ None
  none_holds none = by (zone_for (hosted_of zones) name) (longest (hosted_of zones) name)
    where
      by : (found : Option HostedZone) → ZoneOrNone (hosted_of zones) name found → found ≡ None
      by None is = refl
      by (Some z) is =
          let from = of_map hosted zones z is.there in
          absurd (none from.0 from.1
          (subst (λ (h : HostedZone). EndsWith name h.apex) (sym from.2) is.above))

  -- the zone that holds the name is the one that is found
  pub it_holds : (id : ℕ) (apex : List (List ℕ)) → IsZoneFor zones name id → IsApex zones id apex
      → zone_for (hosted_of zones) name ≡ Some (zone_of zones id apex)
  it_holds id apex holds (x, there, its_id, its_apex) =
      by (zone_for (hosted_of zones) name) (longest (hosted_of zones) name)
    where
      same : holds.zone ≡ x
      same = one_zone zones are.listed holds.zone x holds.there there (holds.its_id ∙ sym its_id)

      by : (found : Option HostedZone) → ZoneOrNone (hosted_of zones) name found
          → found ≡ Some (zone_of zones id apex)
      by None none =
          absurd (none (hosted holds.zone) (in_map hosted zones holds.zone holds.there) holds.above)
      by (Some z) is =
          let from = of_map hosted zones z is.there in
          let apex_is : from.0.apex ≡ z.apex = ap (λ (h : HostedZone). h.apex) from.2 in
          let above : EndsWith name from.0.apex =
          subst (λ (n : List (List ℕ)). EndsWith name n) (sym apex_is) is.above in
          let not_longer = holds.longest from.0 from.1 above in
          let as_long = is.longest (hosted holds.zone)
          (in_map hosted zones holds.zone holds.there) holds.above in
          let lengths : length from.0.apex ≡ length z.apex =
          ap (λ (n : List (List ℕ)). length n) apex_is in
          let one_apex : from.0.apex ≡ holds.zone.apex =
          one_end name from.0.apex holds.zone.apex above holds.above
          (omega (arith, not_longer, as_long, lengths)) in
          let one : from.0 ≡ x = one_of_apex zones are.listed from.0 x from.1 there
          (one_apex ∙ ap (λ (w : Zone). w.apex) same) in
          ap Some (sym from.2 ∙ (ap hosted one
          ∙ its_hosted zones are.listed x there id apex its_id its_apex))

-- the sets of a zone that is served
pub served_sets : (zones : List Zone) → AreZones zones → AreServed zones
    → (id : ℕ) (apex : List (List ℕ)) → IsApex zones id apex
    → (placed_in zones id ≢ []) × FewInGroups (sets_in_zone zones id)
served_sets zones are served id apex (x, there, its_id, its_apex) =
    let placed : x.placed ≡ placed_in zones id =
    sym (its_placed zones are.listed x there) ∙ ap (placed_in zones) its_id in
    let can = served.each x there in (
      subst (λ (ps : List Slotted). ps ≢ []) placed can.some,
      subst (λ (ps : List Slotted). FewInGroups (sets_of ps)) placed can.few,
    )

-- whether the zone that holds a name is the one of a number
module _ (zones : List Zone) (are : AreZones zones) (longest : ZonesAreLongest)
    (name : List (List ℕ)) (zone : ℕ) where
  pub same_number : (apex : List (List ℕ)) (found : ℕ) → IsZoneFor zones name found
      → (found == zone) ≡ is_zone (zone_of zones zone apex) (zone_for (hosted_of zones) name)
  same_number apex found holds =
      turned found zone
      ∙ ap (is_zone (zone_of zones zone apex)) (sym (it_holds zones are longest name found
      holds.zone.apex holds (holds.zone, holds.there, holds.its_id, refl)))

  pub none_so : (apex : List (List ℕ))
      → ((z : Zone) → IsOne zones z → EndsWith name z.apex → ⊥)
      → false ≡ is_zone (zone_of zones zone apex) (zone_for (hosted_of zones) name)
  none_so apex none =
      ap (is_zone (zone_of zones zone apex)) (sym (none_holds zones are longest name none))

  pub is_inside : (apex : List (List ℕ)) (found : ℕ) → IsZoneFor zones name found
      → IsApex zones zone apex → (found == zone) ≡ true → EndsWith name apex
  is_inside apex found holds (x, there, its_id, its_apex) same =
      let one : holds.zone ≡ x = one_zone zones are.listed holds.zone x holds.there there
      (holds.its_id ∙ (eqb-true found zone same ∙ sym its_id)) in
      subst (λ (n : List (List ℕ)). EndsWith name n) (ap (λ (z : Zone). z.apex) one ∙ its_apex)
      holds.above
