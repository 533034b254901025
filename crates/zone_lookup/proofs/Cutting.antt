-- Zone cuts, label by label from the apex.
use Rattle.std.proofs.Common.{◌≡◌, ◌<◌, ◌+◌, ◌-◌, ℕ, true, List, [], ◌∷◌, Option, Some, None, length}
use Rattle.std.proofs.Common.{◌++◌, refl, sym, ap, ◌∙◌, subst, arith}
use Rattle.std.specs.Prelude.{cond, slice_get}
use Rattle.std.proofs.lemmas.List.{length-append}
use Rattle.dns_name.specs.Suffix.{EndsWith}
use Rattle.rdata_layout.specs.declared.types.RType.TheVariants as rtype
use Rattle.policy_select.specs.RecordSetRecord.{RecordSet}
use Rattle.policy_select.specs.Zones.{Zone}
use Rattle.policy_select.specs.Hosted.{HostedZone}
use Rattle.policy_select.specs.ZonesOfZoneModel.{group}
use Rattle.policy_select.specs.GroupRecord.{Group}
use Rattle.policy_select.specs.Laws.{CutOrNone as NearestOrNone, CutsAreNearest, NamesBelow}
use Rattle.policy_select.specs.Names.{is_below}
use Rattle.policy_select.specs.Sections.{cut_above, cut_at}
use Rattle.policy_select.specs.ZonesOfAnswerModel.{or_else}
use Rattle.policy_select.proofs.Targets.{as_many}
use Rattle.policy_select.specs.Groups.{sets_in}
use Rattle.policy_select.specs.Looking.{ServersAreAt}
use Rattle.zone_lookup.specs.Cuts.{CutOrNone, GroupOrNone, IsCut}
use Rattle.zone_lookup.specs.Served.{zone_of}

-- the labels of a name are those before the other and its
pub counts : (name other : List (List ℕ)) → (ends : EndsWith name other)
    → length name ≡ length ends.0 + length other
counts name other ends =
    ap (λ (n : List (List ℕ)). length n) ends.1 ∙ length-append ends.0 other

-- the parent of a name that is longer than the other ends with that too
pub parent_ends : (label : List ℕ) (parent other : List (List ℕ)) → EndsWith (label ∷ parent) other
    → length other < length (label ∷ parent) → EndsWith parent other
parent_ends label parent other ([], e) longer =
    (let same = ap (λ (n : List (List ℕ)). length n) e in absurd (omega (arith, same, longer)))
parent_ends label parent other (first ∷ more, e) longer = (more, cc)

-- names that end with each other are as long
as_long : (name other : List (List ℕ)) → EndsWith name other → EndsWith other name
    → length name ≡ length other
as_long name other ends back =
    let one = counts name other ends in
    let two = counts other name back in
    omega (arith, one, two)

module _ (nearest : CutsAreNearest) (below : NamesBelow) (zone : HostedZone) where
  -- there is no cut above the apex
  pub none_above : (name : List (List ℕ)) → EndsWith name zone.apex
      → length name ≡ length zone.apex → cut_above zone name ≡ None
  none_above name ends same = by (cut_above zone name) (nearest zone name)
    where
      empty : (xs : List (List ℕ)) → length xs ≡ 0 → xs ≡ []
      empty [] e = refl
      empty (x ∷ xs) e = absurd (omega (arith, e))

      by : (found : Option RecordSet) → NearestOrNone zone name found → found ≡ None
      by None none = refl
      by (Some cut) is =
          let up = counts name cut.name is.0.above in
          let down = counts cut.name zone.apex is.0.below_apex.0 in
          let first : is.0.below_apex.0.0 ≡ [] =
          empty is.0.below_apex.0.0 (omega (arith, up, down, same)) in
          absurd (is.0.below_apex.1 (is.0.below_apex.0.1
          ∙ ap (λ (xs : List (List ℕ)). xs ++ zone.apex) first))

  pub is_under : (name : List (List ℕ)) → EndsWith name zone.apex
      → length zone.apex < length name → is_below name zone.apex ≡ true
  is_under name ends longer = (below.below name zone.apex).1 (
    ends,
    λ same. (let e = ap (λ (n : List (List ℕ)). length n) same in
        absurd (omega (arith, e, longer))),
  )

  -- where there is none above the parent, it is the NS set of the name
  pub at_name : (label : List ℕ) (parent : List (List ℕ)) → EndsWith (label ∷ parent) zone.apex
      → length zone.apex < length (label ∷ parent) → cut_above zone parent ≡ None
      → cut_above zone (label ∷ parent)
      ≡ slice_get (group zone.sets (label ∷ parent) rtype.Ns) 0
  at_name label parent ends longer none =
      ap (λ (above : Option RecordSet). or_else above (cut_at zone (label ∷ parent))) none
      ∙ ap (λ b. cond b (slice_get (group zone.sets (label ∷ parent) rtype.Ns) 0) None)
      (is_under (label ∷ parent) ends longer)

  -- a name that is one label longer than the apex
  pub first_below : (name : List (List ℕ)) → EndsWith name zone.apex
      → length name ≡ length zone.apex + 1
      → cut_above zone name ≡ slice_get (group zone.sets name rtype.Ns) 0
  first_below [] ends one = absurd (omega (arith, one))
  first_below (label ∷ parent) ends one =
      let longer : length zone.apex < length (label ∷ parent) = omega (arith, one) in
      at_name label parent ends longer
      (none_above parent (parent_ends label parent zone.apex ends longer) (omega (arith, one)))

-- where no NS set has another name than the apex there is none
pub none_below : CutsAreNearest → (zones : List Zone) (id : ℕ) (apex name : List (List ℕ))
    → ServersAreAt zones id apex → cut_above (zone_of zones id apex) name ≡ None
none_below nearest zones id apex name at =
    by (cut_above (zone_of zones id apex) name) (nearest (zone_of zones id apex) name)
  where
    by : (found : Option RecordSet) → NearestOrNone (zone_of zones id apex) name found → found ≡ None
    by None none = refl
    by (Some cut) is = absurd (is.0.below_apex.1 (at cut is.0.there is.0.servers))

-- the NS sets of a name as the cut
pub as_cut : (zones : List Zone) (zone : HostedZone) (name : List (List ℕ)) (found : Option Group)
    → GroupOrNone zones zone.id (group zone.sets name rtype.Ns) found
    → cut_above zone name ≡ slice_get (group zone.sets name rtype.Ns) 0
    → CutOrNone zones zone name found
as_cut zones zone name None none is =
    is ∙ ap (λ (sets : List RecordSet). slice_get sets 0) none
as_cut zones zone name (Some g) has is = record {
  group = has.group;
  in_zone = has.in_zone;
  some = has.some;
  cut = is ∙ ap (λ (sets : List RecordSet). slice_get sets 0) (sym has.sets);
}

some_at : (sets : List RecordSet) → 0 < length sets
    → (set : RecordSet) × (slice_get sets 0 ≡ Some set)
some_at [] some = absurd (omega (arith, some))
some_at (set ∷ sets) some = (set, refl)

-- the cut above the parent is that above the name
pub from_parent : (zones : List Zone) (zone : HostedZone) (label : List ℕ)
    (parent : List (List ℕ)) (g : Group) → IsCut zones zone parent g
    → IsCut zones zone (label ∷ parent) g
from_parent zones zone label parent g is =
    let many = as_many zones g is.group in
    let some = is.some in
    let first = some_at (sets_in zones g) (omega (arith, many, some)) in record {
      group = is.group;
      in_zone = is.in_zone;
      some = is.some;
      cut = ap (λ (above : Option RecordSet). or_else above (cut_at zone (label ∷ parent)))
          (is.cut ∙ first.1) ∙ sym first.1;
    }

-- ---- a name more than one label below the apex

pub under_name : (name apex : List (List ℕ)) (first : List ℕ) (parent : List (List ℕ)) (labels : ℕ)
    → name ≡ first ∷ parent → EndsWith name apex → length name ≡ length apex + labels
    → 0 < labels → EndsWith parent apex × (length parent ≡ length apex + (labels - 1))
under_name name apex first parent labels e ends counted some =
    let as_long : length name ≡ length (first ∷ parent) =
    ap (λ (n : List (List ℕ)). length n) e in (
      parent_ends first parent apex (subst (λ (n : List (List ℕ)). EndsWith n apex) e ends)
          (omega (arith, as_long, counted, some)),
      omega (arith, as_long, counted, some),
    )

pub at_named : CutsAreNearest → NamesBelow → (zone : HostedZone) (name : List (List ℕ))
    (first : List ℕ) (parent : List (List ℕ)) (labels : ℕ) → name ≡ first ∷ parent
    → EndsWith name zone.apex → length name ≡ length zone.apex + labels → 0 < labels
    → cut_above zone parent ≡ None
    → cut_above zone name ≡ slice_get (group zone.sets name rtype.Ns) 0
at_named nearest below zone name first parent labels e ends counted some none =
    let as_long : length name ≡ length (first ∷ parent) =
    ap (λ (n : List (List ℕ)). length n) e in
    subst (λ (n : List (List ℕ)). cut_above zone n ≡ slice_get (group zone.sets n rtype.Ns) 0)
    (sym e)
    (at_name nearest below zone first parent
    (subst (λ (n : List (List ℕ)). EndsWith n zone.apex) e ends)
    (omega (arith, as_long, counted, some)) none)
