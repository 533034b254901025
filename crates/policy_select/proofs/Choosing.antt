-- What a choice from a group comes to.
use Rattle.std.proofs.Common.{◌≡◌, ◌<◌, ◌≤◌, ℕ, Bool, List, [], ◌∷◌, ◌++◌, Option, None, Some}
use Rattle.std.proofs.Common.{length, take, replicate, get_or, zero, suc}
use Rattle.std.proofs.Common.{refl, sym, ap, ◌∙◌, subst, arith}
use Rattle.std.specs.Prelude.{IfSome, slice_get, ◌-◌}
use Rattle.std.specs.List.{All, cons_option}
use Rattle.std.proofs.lemmas.List.{length-map}
use Rattle.std.proofs.Math.Seq.{take-append_seam}
use Rattle.answer_model.specs.Clients.{Client}
use Rattle.answer_model.specs.Descent.{group_uses, uses}
use Rattle.answer_model.specs.declared.used.Used.{Used}
use Rattle.answer_model.specs.Choice.{ClientRows, chosen, chosen_by, each}
use Rattle.answer_model.specs.LawsOfChoiceModel.{ChosenAreOfGroup}
use Rattle.answer_model.specs.Policies.{weight_of}
use Rattle.zone_table.specs.Holding.{IsHolding}
use Rattle.zone_table.specs.Octets.{IsSpelledRouting}
use Rattle.zone_table.specs.Reasons.{IsAlias}
use Rattle.zone_table.specs.RecordSetRecord.{RecordSet}
use Rattle.routing.specs.declared.policies.Routing.{Routing}
use Rattle.routing.specs.declared.policies.Routing.TheVariants as routing
use Rattle.weighted.specs.Choice as weighted
use Rattle.zone_table.specs.Zones.{Zone}
use Rattle.zone_table.specs.SetRefRecord.{SetRef}
use Rattle.zone_table.specs.Slotted.{Slotted}
use Rattle.zone_table.specs.Looking.{IsGroupNow}
use Rattle.zone_table.specs.GroupRecord.{Group}
use Rattle.policy_select.specs.declared.selection.Selected.{Selected}
use Rattle.policy_select.specs.Groups.{flags_in, members_of, sets_in}
use Rattle.policy_select.specs.Rules.{IsOf}
use Rattle.policy_select.specs.declared.rules.Rule.{Rule}
use Rattle.policy_select.specs.declared.rules.Rule.TheVariants as rules
use Rattle.policy_select.specs.Selecting.{AreOfGroup, HoldsFirst, HoldsFront, IsInZone, LeadsTo}
use Rattle.policy_select.specs.Selecting.{selected_of}
use Rattle.policy_select.proofs.Noted.{few_sets}

-- the policy of the first set is that of the group
by_first : (sets : List RecordSet) (flags : List Bool) (rows : ClientRows) (word : ℕ)
    (set : RecordSet)
    → slice_get sets 0 ≡ Some set
    → chosen sets flags rows word ≡ chosen_by set.routing sets flags rows word
by_first [] flags rows word set e = absurd (grind (arith, e))
by_first (first ∷ others) flags rows word set e =
    let same : first ≡ set = cc in
    ap (λ (s : RecordSet). chosen_by s.routing (first ∷ others) flags rows word) same

by_policy : (sets : List RecordSet) (flags : List Bool) (rows : ClientRows) (word : ℕ)
    (set : RecordSet)
    (policy is : Routing) → slice_get sets 0 ≡ Some set → policy ≡ set.routing → policy ≡ is
    → chosen sets flags rows word ≡ chosen_by is sets flags rows word
by_policy sets flags rows word set policy is first same one =
    by_first sets flags rows word set first
    ∙ ap (λ (r : Routing). chosen_by r sets flags rows word) (sym same ∙ one)

-- of weighted sets
pub of_weighted : (g : Group) (sets : List RecordSet) (flags : List Bool) (rows : ClientRows)
    (word : ℕ)
    (set : RecordSet) (rule : Rule) (weight place : ℕ) (result : Selected)
    → slice_get sets 0 ≡ Some set → IsOf rule set.routing → rule ≡ rules.Weighted weight
    → place ≡ weighted.chosen (each weight_of weight sets) flags word
    → result ≡ selected_of g (place ∷ []) → result ≡ selected_of g (chosen sets flags rows word)
of_weighted g sets flags rows word set rule weight place result first of one place_is is =
    let told = subst (λ (r : Rule). IsOf r set.routing) one of in
    is ∙ ap (λ (p : ℕ). selected_of g (p ∷ [])) place_is
    ∙ sym (ap (selected_of g)
    (by_policy sets flags rows word set set.routing (routing.Weighted told.0 weight) first refl
    told.1))

-- the policy of a set that is held
pub spelled_held : (held : Option RecordSet) (policy : Routing) → IsHolding held
    → IfSome held (λ set. IsSpelledRouting set.routing) → IfSome held (λ set. policy ≡ set.routing)
    → IsSpelledRouting policy
spelled_held None policy holds spelled is = absurd holds
spelled_held (Some set) policy holds spelled is = subst IsSpelledRouting (sym is) spelled

-- ---- places of the group

all_below : (m n : ℕ) (places : List ℕ) → m ≤ n → All (λ place. place < m) places
    → All (λ place. place < n) places
all_below m n places low below k d within =
    let less = below k d within in
    omega (arith, low, less)

are_of_group : (zones : List Zone) (g : Group) (places : List ℕ) → IsGroupNow zones g
    → All (λ place. place < g.length) places → AreOfGroup zones (selected_of g places)
are_of_group zones g [] now below = tt
are_of_group zones g (place ∷ places) now below =
    let whole : take (length (place ∷ places))
    ((place ∷ places) ++ replicate (8 - length (place ∷ places)) 0)
    ≡ place ∷ places =
    take-append_seam (place ∷ places) (replicate (8 - length (place ∷ places)) 0) in (
      now,
      subst (λ (ps : List ℕ). 0 < length ps) (sym whole) (omega arith),
      subst (All (λ p. p < g.length)) (sym whole) below,
    )

in_zone : (g : Group) (places : List ℕ) → IsInZone g.zone (selected_of g places)
in_zone g [] = tt
in_zone g (place ∷ places) = refl

pub same_length : (zones : List Zone) (test : SetRef → Bool) (g : Group)
    → length (flags_in zones test g) ≡ length (sets_in zones g)
same_length zones test g =
    length-map (members_of zones g)
    (λ (p : Slotted). test (record { zone = g.zone; slot = p.slot }))
    ∙ sym (length-map (members_of zones g) (λ (p : Slotted). p.set))

module _ (law : ChosenAreOfGroup) (zones : List Zone) (test : SetRef → Bool) (g : Group)
    (rows : ClientRows) (word : ℕ) (selected : Selected)
    (is : selected
    ≡ selected_of g (chosen (sets_in zones g) (flags_in zones test g) rows word)) where
  pub places_are : IsGroupNow zones g → AreOfGroup zones selected
  places_are now =
      let places = chosen (sets_in zones g) (flags_in zones test g) rows word in
      let of = law (sets_in zones g) (flags_in zones test g) rows word (same_length zones test g) in
      subst (AreOfGroup zones) (sym is)
      (are_of_group zones g places now
      (all_below (length (sets_in zones g)) g.length places (few_sets zones g) of.within))

  pub zone_is : IsInZone g.zone selected
  zone_is =
      subst (IsInZone g.zone) (sym is)
      (in_zone g (chosen (sets_in zones g) (flags_in zones test g) rows word))

front_held : (zones : List Zone) (g : Group) (places : List ℕ) (held : Option RecordSet)
    → held ≡ slice_get (sets_in zones g) 0 → HoldsFront zones (selected_of g places) held
front_held zones g [] held is = tt
front_held zones g (place ∷ places) held is = is

-- the first set of the group is held
pub holds_front : (zones : List Zone) (g : Group) (places : List ℕ) (selected : Selected)
    (held : Option RecordSet) → selected ≡ selected_of g places
    → held ≡ slice_get (sets_in zones g) 0 → HoldsFront zones selected held
holds_front zones g places selected held is front =
    subst (λ (s : Selected). HoldsFront zones s held) (sym is) (front_held zones g places held front)

-- ---- a group whose first set is simple

-- that set is chosen
pub simple_is : (g : Group) (sets : List RecordSet) (flags : List Bool) (rows : ClientRows)
    (word : ℕ) (set : RecordSet) (result : Selected)
    → slice_get sets 0 ≡ Some set → set.routing ≡ routing.Simple
    → result ≡ selected_of g (0 ∷ []) → result ≡ selected_of g (chosen sets flags rows word)
simple_is g sets flags rows word set result first simple is =
    is ∙ sym (ap (selected_of g)
    (by_policy sets flags rows word set set.routing routing.Simple first refl simple))

-- nothing is used
pub simple_uses : (client : Client) (sets : List RecordSet) (set : RecordSet) (used : Used)
    → slice_get sets 0 ≡ Some set → set.routing ≡ routing.Simple → used ≡ group_uses client sets used
simple_uses client [] set used first simple = refl
simple_uses client (x ∷ others) set used first simple =
    let same : x ≡ set = cc in
    sym (ap (λ (s : RecordSet). uses client s.routing used) same
    ∙ ap (λ (r : Routing). uses client r used) simple)

-- there is one
pub some_sets : (sets : List RecordSet) (set : RecordSet) → slice_get sets 0 ≡ Some set
    → 0 < length sets
some_sets [] set first = absurd (grind (arith, first))
some_sets (x ∷ others) set first = omega arith

-- it leads nowhere where it is no alias
pub simple_last : (zones : List Zone) (g : Group) (result : Selected) (set : RecordSet)
    → result ≡ selected_of g (0 ∷ []) → slice_get (sets_in zones g) 0 ≡ Some set
    → (IsAlias set.body → ⊥) → LeadsTo zones g.zone result None
simple_last zones g result set is first none =
    subst (λ (s : Selected). LeadsTo zones g.zone s None) (sym is) (λ (other : RecordSet) at alias.
    let there : slice_get (cons_option (slice_get (sets_in zones g) 0) []) 0 ≡ Some set =
    ap (λ (o : Option RecordSet). slice_get (cons_option o []) 0) first in
    let same : other ≡ set = let both = sym at ∙ there in cc in
    none (subst (λ (s : RecordSet). IsAlias s.body) same alias))

first_below : (n k d : ℕ) → 0 < n → k < 1 → get_or (0 ∷ []) k d < n
first_below n zero d some within = some
first_below n (suc k) d some within = absurd (omega (arith, within))

-- it is a set of the group
pub simple_places : (zones : List Zone) (g : Group) (result : Selected)
    → result ≡ selected_of g (0 ∷ []) → IsGroupNow zones g → 0 < g.length
    → AreOfGroup zones result
simple_places zones g result is now some =
    subst (AreOfGroup zones) (sym is)
    (are_of_group zones g (0 ∷ []) now (λ k d within. first_below g.length k d some within))

-- and it is held
pub simple_held : (zones : List Zone) (g : Group) (result : Selected) (held : Option RecordSet)
    (set : RecordSet) → result ≡ selected_of g (0 ∷ []) → held ≡ Some set
    → slice_get (sets_in zones g) 0 ≡ Some set → HoldsFirst zones result held
simple_held zones g result held set is has first =
    subst (λ (s : Selected). HoldsFirst zones s held) (sym is) (
      set,
      has,
      ap (λ (o : Option RecordSet). slice_get (cons_option o []) 0) first,
    )
