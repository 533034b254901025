-- Where a chosen alias leads.
use Rattle.std.proofs.Common.{◌≡◌, ◌<◌, ◌≤◌, ℕ, zero, suc, List, [], ◌∷◌, Option, Some, None}
use Rattle.std.proofs.Common.{length, Bool, true, false, inl, inr, eqb-true}
use Rattle.std.proofs.Common.{take, drop, get_or, refl, sym, ap, ◌∙◌, subst, arith}
use Rattle.std.specs.Prelude.{slice_get, IfSome, cond, ◌&&◌, ◌==◌}
use Rattle.std.specs.List.{filter}
use Rattle.dns_name.specs.Order.{same_labels}
use Rattle.rdata_layout.specs.Types.{number_of}
use Rattle.std.proofs.lemmas.List.{length-drop, length-take-le}
use Rattle.std.proofs.lemmas.Option.{slice_get_cases}
use Rattle.std.specs.List.{cons_option, drop-map, take-map}
use Rattle.std.specs.Option.{option_map, unwrap_or}
use Rattle.multivalue.specs.declared.choice.Picked.{Picked}
use Rattle.rdata_layout.specs.declared.types.RType.{RType}
use Rattle.zone_table.specs.Reasons.{IsAlias}
use Rattle.zone_table.specs.BodyRecord.{Body}
use Rattle.zone_table.specs.BodyRecord.TheVariants as body
use Rattle.zone_table.specs.RecordSetRecord.{RecordSet}
use Rattle.zone_table.specs.Bodies.{alias_of}
use Rattle.zone_table.specs.Found.{IsGroupAt}
use Rattle.zone_table.specs.Zones.{Zone, placed_in}
use Rattle.zone_table.specs.Sets.{IsAmong, group, is_of_group, target_group_of}
use Rattle.zone_table.specs.Slotted.{Slotted}
use Rattle.zone_table.specs.Looking.{IsGroup, IsGroupNow}
use Rattle.zone_table.specs.GroupRecord.{Group}
use Rattle.answer_model.specs.Descent.{sets_at}
use Rattle.policy_select.specs.declared.selection.Selected.TheVariants.{Sets}
use Rattle.policy_select.specs.Groups.{sets_in, sets_in_zone}
use Rattle.policy_select.specs.Selecting.{AreOfGroup, HoldsFirst, HoldsFront, IsTargetOf, LeadsTo}
use Rattle.policy_select.specs.Selecting.{TargetOf, places_of, selected_sets}

-- no two types have one number
abbrev OneNumber : Type 0
OneNumber = (rtype other : RType) → number_of rtype ≡ number_of other → rtype ≡ other

-- a set that a test picks passes it
pub picked_so : (f : RecordSet → Bool) (xs : List RecordSet) (x : RecordSet) → IsAmong (filter f xs) x
    → f x ≡ true
picked_so f [] x there = absurd there
picked_so f (y ∷ ys) x there = by (f y) refl (picked_so f ys x) there
  where
    by : (b : Bool) → f y ≡ b → (IsAmong (filter f ys) x → f x ≡ true)
        → IsAmong (cond b (y ∷ filter f ys) (filter f ys)) x → f x ≡ true
    by true e rest (inl same) = ap f (sym same) ∙ e
    by true e rest (inr more) = rest more
    by false e rest more = rest more

both : (a b : Bool) → (a && b) ≡ true → b ≡ true
both true b e = e
both false b e = absurd (grind (arith, e))

-- the sets of a name and type are of the type
pub of_its_type : OneNumber → (all : List RecordSet) (name : List (List ℕ)) (rtype : RType)
    (set : RecordSet) → IsAmong (group all name rtype) set → rtype ≡ set.rtype
of_its_type own all name rtype set there =
    own rtype set.rtype
    (eqb-true (number_of rtype) (number_of set.rtype)
    (both (same_labels name set.name) (number_of rtype == number_of set.rtype)
    (picked_so (is_of_group name rtype) all set there)))

-- the sets of a group, from those of the zone
pub of_zone : (zones : List Zone) (g : Group)
    → sets_in zones g ≡ take g.length (drop g.start (sets_in_zone zones g.zone))
of_zone zones g =
    let f = λ (p : Slotted). p.set in
    let placed = placed_in zones g.zone in
    sym (take-map f g.length (drop g.start placed)) ∙ ap (take g.length)
    (sym (drop-map f g.start placed))

-- a body with a target is an alias to it
record HasTarget (b : Body) (name : List (List ℕ)) : Type 0 where
  alias : IsAlias b
  sets : (all : List RecordSet) (rtype : RType) → target_group_of all rtype b ≡ group all name rtype

has_target : (b : Body) (name : List (List ℕ)) → option_map (λ told. told.0) (alias_of b)
    ≡ Some name
    → HasTarget b name
has_target (body.Values ttl values) name e = absurd (grind (arith, e))
has_target (body.Alias target evaluate) name e =
    let same : target ≡ name = ap (λ (o : Option (List (List ℕ))). unwrap_or o name) e in
    record {
      alias = tt;
      sets = λ all rtype. ap (λ (n : List (List ℕ)). group all n rtype) same;
    }

-- a group that was found is there, and has the sets of that name and type
pub found_now : (zones : List Zone) (id : ℕ) (name : List (List ℕ)) (rtype : RType) (found : Group)
    → IsGroup zones id name rtype found → IsGroupNow zones found
found_now zones id name rtype found is = (
  name,
  rtype,
  record {
    zone = refl;
    sets = subst
        (λ (z : ℕ). IsGroupAt (sets_in_zone zones z) name rtype found.start found.length)
        (sym is.zone) is.sets;
  },
)

pub found_sets : (zones : List Zone) (id : ℕ) (name : List (List ℕ)) (rtype : RType) (found : Group)
    → IsGroup zones id name rtype found → sets_in zones found
    ≡ group (sets_in_zone zones id) name rtype
found_sets zones id name rtype found is =
    of_zone zones found
    ∙ ap (λ (z : ℕ). take found.length (drop found.start (sets_in_zone zones z))) is.zone
    ∙ is.sets.members

-- the sets of a group that was found are as many as it says
pub found_count : (zones : List Zone) (id : ℕ) (name : List (List ℕ)) (rtype : RType)
    (found : Group) → IsGroup zones id name rtype found
    → found.length ≡ length (group (sets_in_zone zones id) name rtype)
found_count zones id name rtype found is =
    let sets = sets_in_zone zones id in
    let within = is.sets.within in
    let enough : found.length ≤ length (drop found.start sets) =
    simp length-drop (omega (arith, within)) in
    sym (length-take-le found.length (drop found.start sets) enough)
    ∙ ap (λ (xs : List RecordSet). length xs) is.sets.members

-- a group has as many sets as it says
pub as_many : (zones : List Zone) (g : Group) → IsGroupNow zones g
    → length (sets_in zones g) ≡ g.length
as_many zones g (name, rtype, is) =
    ap (λ (sets : List RecordSet). length sets) (found_sets zones g.zone name rtype g is)
    ∙ sym (found_count zones g.zone name rtype g is)

-- the sets of a group have one type
pub of_one_type : OneNumber → (zones : List Zone) (g : Group) → IsGroupNow zones g
    → (set other : RecordSet) → IsAmong (sets_in zones g) set → IsAmong (sets_in zones g) other
    → set.rtype ≡ other.rtype
of_one_type own zones g (name, rtype, is) set other there too =
    let sets = found_sets zones g.zone name rtype g is in
    let all = sets_in_zone zones g.zone in
    sym (of_its_type own all name rtype set (subst (λ (xs : List RecordSet). IsAmong xs set) sets there))
    ∙ of_its_type own all name rtype other (subst (λ (xs : List RecordSet). IsAmong xs other) sets too)

pub target_is : (zones : List Zone) (zone : ℕ) (set : RecordSet) (name : List (List ℕ))
    (found : Group)
    → option_map (λ told. told.0) (alias_of set.body) ≡ Some name
    → IsGroup zones zone name set.rtype found → IsTargetOf zones zone set found
target_is zones zone set name found told group_is =
    let target = has_target set.body name told in
    record {
      alias = target.alias;
      group = found_now zones zone name set.rtype found group_is;
      in_zone = group_is.zone;
      sets = found_sets zones zone name set.rtype found group_is
          ∙ sym (target.sets (sets_in_zone zones zone) set.rtype);
    }

pub target_of_held : (zones : List Zone) (zone : ℕ) (held : Option RecordSet)
    (told : Option (List (List ℕ))) (name : List (List ℕ)) (rtype : RType) (found : Group)
    → IfSome held (λ set. told ≡ option_map (λ t. t.0) (alias_of set.body)) → told ≡ Some name
    → IfSome held (λ set. rtype ≡ set.rtype) → IsGroup zones zone name rtype found
    → IfSome held (λ set. IsTargetOf zones zone set found)
target_of_held zones zone None told name rtype found tells is typed group_is = tt
target_of_held zones zone (Some set) told name rtype found tells is typed group_is =
    target_is zones zone set name found (sym tells ∙ is)
    (subst (λ (t : RType). IsGroup zones zone name t found) typed group_is)

pub no_target : (b : Body) → option_map (λ told. told.0) (alias_of b) ≡ None → IsAlias b → ⊥
no_target (body.Values ttl values) told alias = alias
no_target (body.Alias target evaluate) told alias = absurd (grind (arith, told))

-- ---- the first of the chosen places

head_of : (n : ℕ) (xs : List ℕ) → 0 < length (take n xs)
    → (ys : List ℕ) × (take n xs ≡ get_or xs 0 0 ∷ ys)
head_of zero xs some = absurd (omega (arith, some))
head_of (suc n) [] some = absurd (omega (arith, some))
head_of (suc n) (x ∷ xs) some = (take n xs, refl)

first_at : (sets : List RecordSet) (place : ℕ) (places : List ℕ) (set : RecordSet)
    → slice_get sets place ≡ Some set → slice_get (sets_at sets (place ∷ places)) 0 ≡ Some set
first_at sets place places set e =
    ap (λ (o : Option RecordSet). slice_get (cons_option o (sets_at sets places)) 0) e

-- the set at the first place is the first selected one
pub first_selected : (zones : List Zone) (g : Group) (chosen : Picked) (set : RecordSet)
    → 0 < length (places_of chosen) → slice_get (sets_in zones g) (get_or chosen.places 0 0)
    ≡ Some set
    → slice_get (selected_sets zones (Sets g chosen)) 0 ≡ Some set
first_selected zones g chosen set some there =
    let head = head_of chosen.count chosen.places some in
    ap (λ (places : List ℕ). slice_get (sets_at (sets_in zones g) places) 0) head.1
    ∙ first_at (sets_in zones g) (get_or chosen.places 0 0) head.0 set there

-- it is held where it is the first of its group, which is held
pub front_selected : (zones : List Zone) (g : Group) (chosen : Picked) (held : Option RecordSet)
    → AreOfGroup zones (Sets g chosen) → HoldsFront zones (Sets g chosen) held
    → get_or chosen.places 0 0 ≡ 0 → HoldsFirst zones (Sets g chosen) held
front_selected zones g chosen held there front first =
    let sets = sets_in zones g in
    let many = as_many zones g there.0 in
    let below = there.2 0 0 there.1 in
    elim (slice_get_cases sets 0).1 [
      | inl (set, within, at, same) ↦ (
        set,
        front ∙ at,
        first_selected zones g chosen set there.1 (ap (λ (k : ℕ). slice_get sets k) first ∙ at),
      )
      | inr (past, none) ↦ absurd (omega (arith, many, below, past))
    ]

-- and where it was loaded
pub loaded_selected : (zones : List Zone) (g : Group) (chosen : Picked) (held : Option RecordSet)
    (set : RecordSet) → AreOfGroup zones (Sets g chosen)
    → held ≡ slice_get (sets_in zones g) (get_or chosen.places 0 0) → held ≡ Some set
    → HoldsFirst zones (Sets g chosen) held
loaded_selected zones g chosen held set there loaded is =
    (set, is, first_selected zones g chosen set there.1 (sym loaded ∙ is))

pub leads : (zones : List Zone) (zone : ℕ) (g : Group) (chosen : Picked) (held : Option RecordSet)
    (result : Option Group)
    → HoldsFirst zones (Sets g chosen) held → IfSome held (λ set. TargetOf zones zone set result)
    → LeadsTo zones zone (Sets g chosen) result
leads zones zone g chosen held None holds target = λ set first alias.
    let none = subst
    (λ (h : Option RecordSet). IfSome h (λ s. TargetOf zones zone s None)) holds.1 target in
    let same : holds.0 ≡ set = let both = sym holds.2 ∙ first in cc in
    none (subst (λ (s : RecordSet). IsAlias s.body) (sym same) alias)
leads zones zone g chosen held (Some found) holds target =
    let is = subst
    (λ (h : Option RecordSet). IfSome h
    (λ s. TargetOf zones zone s (Some found))) holds.1 target in
    record {
      set = holds.0;
      first = holds.2;
      alias = is.alias;
      group = is.group;
      in_zone = is.in_zone;
      sets = is.sets;
    }

-- sets that are some have a first one
pub first_there : (sets : List RecordSet) → 0 < length sets
    → (set : RecordSet) × (slice_get sets 0 ≡ Some set)
first_there [] some = absurd (omega (arith, some))
first_there (set ∷ sets) some = (set, refl)
