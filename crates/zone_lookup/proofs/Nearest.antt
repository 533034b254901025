-- The longest name at or above a name that exists.
use Rattle.std.proofs.Common.{◌≡◌, ◌≢◌, ◌<◌, ◌≤◌, ◌+◌, ℕ, Bool, true, false, List, [], ◌∷◌, ◌++◌}
use Rattle.std.proofs.Common.{Option, Some, None, length, refl, sym, ap, ◌∙◌, subst, arith, inl, inr}
use Rattle.std.proofs.lemmas.Bool.{cases_lt}
use Rattle.std.proofs.lemmas.List.{length-append}
use Rattle.std.specs.Prelude.{IsTrue, ◌↔◌, ◌&&◌, ◌==◌, cond, slice_get}
use Rattle.dns_name.specs.Order.{same_labels}
use Rattle.dns_name.specs.OrderLaws.{same_labels-Decides}
use Rattle.dns_name.specs.Labels.{wire}
use Rattle.dns_name.specs.Suffix.{EndsWith}
use Rattle.dns_name.specs.Wildcard.{wildcard}
use Rattle.rdata_layout.specs.Types.{number_of}
use Rattle.rdata_layout.specs.declared.types.RType.{RType}
use Rattle.rdata_layout.specs.declared.types.RType.TheVariants as rtype
use Rattle.policy_select.specs.RecordSetRecord.{RecordSet}
use Rattle.policy_select.proofs.Below.{ends_itself, no_longer, parent_or_above}
use Rattle.policy_select.specs.Zones.{Zone}
use Rattle.policy_select.specs.Existing.{Exists, IsAncestor, IsClosest}
use Rattle.policy_select.specs.Hosted.{HostedZone}
use Rattle.policy_select.specs.ZonesOfZoneModel.{IsAmong, group, is_of_group}
use Rattle.policy_select.specs.GroupRecord.{Group}
use Rattle.policy_select.specs.Laws.{EnclosersAreClosest, NamesExist}
use Rattle.policy_select.specs.Names.{if_exists, is_below, source}
use Rattle.policy_select.specs.Sections.{cut_above, cut_at}
use Rattle.policy_select.specs.ZonesOfAnswerModel.{or_else}
use Rattle.zone_lookup.proofs.Cutting.{counts}
use Rattle.zone_lookup.proofs.Sourcing.{from_wildcard, itself, no_room, one_closest, there}
use Rattle.zone_lookup.specs.Cuts.{IsCut}
use Rattle.zone_lookup.specs.Standing.{IsNearest}

-- a child is longer than what its parent is at or below
pub child_below : (label : List ℕ) (name other : List (List ℕ)) → EndsWith name other
    → IsAncestor (label ∷ name) other
child_below label name other ends = (
  (label ∷ ends.0, ap (λ (n : List (List ℕ)). label ∷ n) ends.1),
  λ same. (let longer = ap (λ (n : List (List ℕ)). length n) same in
      let counted = counts name other ends in absurd (omega (arith, longer, counted))),
)

module _ (sets : List RecordSet) (name nearest : List (List ℕ)) where
  -- what is closest to a child of the name
  pub by_child : (label : List ℕ) → IsClosest sets (label ∷ name) nearest
      → IsNearest sets name nearest
  by_child label is = record {
    above = parent_or_above label name nearest is.ancestor;
    exists = is.exists;
    longest = λ other ends there. is.longest other (child_below label name other ends) there;
  }

-- of two ends of a name the longer one ends with the other
nested : (first a second b : List (List ℕ)) → first ++ a ≡ second ++ b → length b ≤ length a
    → EndsWith a b
nested [] a second b e le = (second, e)
nested (x ∷ first) a [] b e le =
    let long = ap (λ (n : List (List ℕ)). length n) e in
    let parts = length-append first a in
    absurd (omega (arith, long, parts, le))
nested (x ∷ first) a (y ∷ second) b e le =
    nested first a second b (let p : first ++ a ≡ second ++ b = cc in p) le

pub nearest_inside : (sets : List RecordSet) (name nearest apex : List (List ℕ))
    → IsNearest sets name nearest → EndsWith name apex → Exists sets apex → EndsWith nearest apex
nearest_inside sets name nearest apex is ends there =
    nested is.above.0 nearest ends.0 apex (sym is.above.1 ∙ ends.1) (is.longest apex ends there)

pub nearest_itself : (sets : List RecordSet) (name : List (List ℕ)) → Exists sets name
    → IsNearest sets name name
nearest_itself sets name exists = record {
  above = ends_itself name;
  exists = exists;
  longest = λ other ends there. no_longer name other ends;
}

-- the parent of a name that doesn't exist, where that does
pub nearest_parent : (sets : List RecordSet) (name parent : List (List ℕ)) → EndsWith name parent
    → length name ≡ length parent + 1 → Exists sets parent → (Exists sets name → ⊥)
    → IsNearest sets name parent
nearest_parent sets name parent above one exists missing = record {
  above = above;
  exists = exists;
  longest = λ other ends there. by other there ends.0 ends.1;
}
  where
    by : (other : List (List ℕ)) → Exists sets other → (first : List (List ℕ))
        → name ≡ first ++ other → length other ≤ length parent
    by other there [] is = absurd (missing (subst (Exists sets) (sym is) there))
    by other there (label ∷ first) is =
        let long = ap (λ (n : List (List ℕ)). length n) is in
        let parts = length-append first other in
        omega (arith, long, parts, one)

-- ---- no zone cut between the two

-- a set of a name's group has the name
named : (sets : List RecordSet) (name : List (List ℕ)) (t : RType) (set : RecordSet)
    → IsAmong (group sets name t) set → Exists sets name
named [] name t set among = absurd among
named (x ∷ sets) name t set among =
    by (is_of_group name t x) refl (λ more. further (named sets name t set more)) among
  where
    further : Exists sets name → Exists (x ∷ sets) name
    further (s, among, ends) = (s, inr among, ends)

    first_so : (a b : Bool) → (a && b) ≡ true → a ≡ true
    first_so true b e = refl
    first_so false b e = absurd (grind (arith, e))

    by : (b : Bool) → is_of_group name t x ≡ b
        → (IsAmong (group sets name t) set → Exists (x ∷ sets) name)
        → IsAmong (cond b (x ∷ group sets name t) (group sets name t)) set
        → Exists (x ∷ sets) name
    by true e rest more = (
      x,
      inl refl,
      (
        [],
        sym ((same_labels-Decides name x.name).0
            (first_so (same_labels name x.name) (number_of t == number_of x.rtype) e)),
      ),
    )
    by false e rest more = rest more

none_named : (sets : List RecordSet) (name : List (List ℕ)) (t : RType) → (Exists sets name → ⊥)
    → slice_get (group sets name t) 0 ≡ None
none_named sets name t none =
    by (group sets name t) (λ set among. none (named sets name t set among))
  where
    by : (found : List RecordSet) → ((set : RecordSet) → IsAmong found set → ⊥)
        → slice_get found 0 ≡ None
    by [] nor = refl
    by (x ∷ found) nor = absurd (nor x (inl refl))

no_cut_at : (zone : HostedZone) (name : List (List ℕ)) → (Exists zone.sets name → ⊥)
    → cut_at zone name ≡ None
no_cut_at zone name none =
    by (is_below name zone.apex) (none_named zone.sets name rtype.Ns none)
  where
    by : (b : Bool) → slice_get (group zone.sets name rtype.Ns) 0 ≡ None
        → cond b (slice_get (group zone.sets name rtype.Ns) 0) None ≡ None
    by true e = e
    by false e = refl

or_none : (found : Option RecordSet) → or_else found None ≡ found
or_none None = refl
or_none (Some set) = refl

above_front : (zone : HostedZone) (front nearest : List (List ℕ))
    → ((other : List (List ℕ)) → EndsWith (front ++ nearest) other → Exists zone.sets other
    → length other ≤ length nearest)
    → cut_above zone (front ++ nearest) ≡ cut_above zone nearest
above_front zone [] nearest longest = refl
above_front zone (label ∷ front) nearest longest =
    ap (or_else (cut_above zone (front ++ nearest)))
    (no_cut_at zone (label ∷ (front ++ nearest)) missing)
    ∙ (or_none (cut_above zone (front ++ nearest))
    ∙ above_front zone front nearest
    (λ other ends there. longest other
    (label ∷ ends.0, ap (λ (n : List (List ℕ)). label ∷ n) ends.1) there))
  where
    missing : Exists zone.sets (label ∷ (front ++ nearest)) → ⊥
    missing there =
        let whole = label ∷ (front ++ nearest) in
        let most = longest whole (ends_itself whole) there in
        let counted = counts (front ++ nearest) nearest (front, refl) in
        absurd (omega (arith, most, counted))

pub same_cut : (zone : HostedZone) (name nearest : List (List ℕ)) → IsNearest zone.sets name nearest
    → cut_above zone name ≡ cut_above zone nearest
same_cut zone name nearest is =
    ap (cut_above zone) is.above.1
    ∙ above_front zone is.above.0 nearest
    (λ other ends there. is.longest other
    (subst (λ (n : List (List ℕ)). EndsWith n other) (sym is.above.1) ends) there)

-- a cut above the nearest name is one above the name
pub cut_of_nearest : (zones : List Zone) (zone : HostedZone) (name nearest : List (List ℕ))
    (g : Group) → IsNearest zone.sets name nearest → IsCut zones zone nearest g
    → IsCut zones zone name g
cut_of_nearest zones zone name nearest g is cut = record {
  group = cut.group;
  in_zone = cut.in_zone;
  some = cut.some;
  cut = same_cut zone name nearest is ∙ cut.cut;
}

-- ---- the source

module _ (names : NamesExist) (sets : List RecordSet) (name nearest : List (List ℕ))
    (is : IsNearest sets name nearest) where
  pub source_itself : nearest ≡ name → Some name ≡ source sets name
  source_itself same =
      sym (itself names sets name true (λ _. subst (Exists sets) same is.exists, λ _. refl) refl)

  module _ (closer : EnclosersAreClosest) (apart : nearest ≢ name) where
    missing : Exists sets name → ⊥
    missing there =
        let most = is.longest name (ends_itself name) there in
        let counted = counts name nearest is.above in
        apart (sym (is.above.1 ∙ ap (λ (front : List (List ℕ)). front ++ nearest)
        (empty is.above.0 (omega (arith, most, counted)))))
      where
        empty : (xs : List (List ℕ)) → length xs ≡ 0 → xs ≡ []
        empty [] e = refl
        empty (x ∷ xs) e = absurd (omega (arith, e))

    said : IsTrue false ↔ Exists sets name
    said = (λ e. absurd (grind (arith, e)), λ there. absurd (missing there))

    encloser : IsClosest sets name nearest
    encloser = record {
      ancestor = (is.above, λ same. apart (sym same));
      exists = is.exists;
      longest = λ other ancestor there. is.longest other ancestor.0 there;
    }

    -- it is that of the wildcard
    by_wildcard : source sets name ≡ if_exists sets (wildcard ∷ nearest)
    by_wildcard =
        from_wildcard names sets name false said refl
        ∙ ap (λ (n : List (List ℕ)). if_exists sets (wildcard ∷ n))
        (one_closest names sets closer name nearest encloser)

    pub source_too_long : 255 < length (wire (wildcard ∷ nearest)) → None ≡ source sets name
    source_too_long long = sym (by_wildcard ∙ no_room names sets (wildcard ∷ nearest) long)

    module _ (above : List (List ℕ)) (below : above ≡ wildcard ∷ nearest)
        (short : length (wire (wildcard ∷ nearest)) ≤ 255) (told : Bool)
        (says : IsTrue told ↔ Exists sets above) where
      from_it : source sets name ≡ cond told (Some above) None
      from_it =
          by_wildcard
          ∙ (ap (if_exists sets) (sym below)
          ∙ there names sets above told
          (subst (λ (n : List (List ℕ)). length (wire n) ≤ 255) (sym below) short) says)

      pub source_wildcard : told ≡ true → Some above ≡ source sets name
      source_wildcard so = sym (from_it ∙ ap (λ b. cond b (Some above) None) so)

      pub source_missing : told ≡ false → None ≡ source sets name
      source_missing so = sym (from_it ∙ ap (λ b. cond b (Some above) None) so)

    -- where no set has it or stands below it, the wildcard isn't taken
    pub source_no_star : (Exists sets (wildcard ∷ nearest) → ⊥) → None ≡ source sets name
    source_no_star none = elim (cases_lt 255 (length (wire (wildcard ∷ nearest)))) [
      | inl long ↦ source_too_long long
      | inr short ↦ source_missing (wildcard ∷ nearest) refl short false
          (λ e. absurd (grind (arith, e)), λ there. absurd (none there)) refl
    ]
