-- Lists that are noted set by set.
use Rattle.std.proofs.Common.{◌≡◌, ◌≤◌, ◌<◌, ◌+◌, ℕ, suc, List, [], ◌∷◌, ◌++◌, Option, Some, length}
use Rattle.std.proofs.Common.{take, drop, refl, sym, ap, ◌∙◌, arith}
use Rattle.std.specs.Prelude.{map, slice_get, slice_set}
use Rattle.std.specs.Option.{option_map, unwrap_or}
use Rattle.std.proofs.lemmas.List.{length-map, length-take, take_all}
use Rattle.std.proofs.lemmas.Option.{slice_get-map}
use Rattle.std.proofs.Math.Seq.{take-suc-set}
use Rattle.answer_model.specs.Choice.{each}
use Rattle.zone_table.specs.RecordSetRecord.{RecordSet}
use Rattle.routing.specs.declared.policies.Routing.{Routing}
use Rattle.zone_table.specs.Zones.{Zone, placed_in}
use Rattle.zone_table.proofs.Lists.{take_more}
use Rattle.zone_table.specs.Slotted.{Slotted}
use Rattle.zone_table.specs.GroupRecord.{Group}
use Rattle.policy_select.specs.Groups.{members_of, sets_in}
use Rattle.policy_select.specs.Rules.{FirstSays}

-- one element more is noted
pub noted_more : {X : Type 0} (wanted noted : List X) (i : ℕ) (x : X) → i < length noted
    → slice_get wanted i ≡ Some x → take i noted ≡ take i wanted
    → take (i + 1) (slice_set noted i x) ≡ take (i + 1) wanted
noted_more {X} wanted noted i x within there so_far =
    ap (λ (k : ℕ). take k (slice_set noted i x)) one ∙ take-suc-set noted i x within
    ∙ ap (λ (xs : List X). xs ++ x ∷ []) so_far ∙ sym (take_more wanted i x there)
  where
    one : i + 1 ≡ suc i
    one = omega arith

-- what a set says, at its place
pub said_at : {X : Type 0} (of : Routing → Option X) (first : X) (sets : List RecordSet) (i : ℕ)
    (set : RecordSet) (routing : Routing) (x : X) → slice_get sets i ≡ Some set → routing
    ≡ set.routing
    → x ≡ unwrap_or (of routing) first → slice_get (each of first sets) i ≡ Some x
said_at of first sets i set routing x there same says =
    let f = λ (s : RecordSet). unwrap_or (of s.routing) first in
    slice_get-map f sets i ∙ ap (option_map f) there
    ∙ ap Some (sym (says ∙ ap (λ (r : Routing). unwrap_or (of r) first) same))

-- what the first set says is noted
pub first_noted : {X : Type 0} (of : Routing → Option X) (first : X) (sets : List RecordSet)
    (noted : List X) → 0 < length noted → FirstSays of first sets
    → take 1 (slice_set noted 0 first) ≡ take 1 (each of first sets)
first_noted {X} of first sets noted room says =
    noted_more (each of first sets) noted 0 first room
    (said_at of first sets 0 says.0 says.0.routing first says.1 refl
    (sym (ap (λ (o : Option X). unwrap_or o first) says.2))) refl

-- a group has no more sets than its length
pub few_members : (zones : List Zone) (g : Group) → length (members_of zones g) ≤ g.length
few_members zones g =
    let e = length-take g.length (drop g.start (placed_in zones g.zone)) in
    omega (arith, e)

pub few_sets : (zones : List Zone) (g : Group) → length (sets_in zones g) ≤ g.length
few_sets zones g =
    let e = length-map (members_of zones g) (λ (p : Slotted). p.set) in
    let few = few_members zones g in
    omega (arith, e, few)

-- all of it is noted
pub all_noted : {X Y : Type 0} (f : Y → X) (ys : List Y) (noted : List X) (i n : ℕ) → i ≡ n
    → length ys ≤ n → take i noted ≡ take i (map f ys) → take n noted ≡ map f ys
all_noted {X} f ys noted i n done few so_far =
    let e = length-map ys f in
    ap (λ (k : ℕ). take k noted) (sym done) ∙ so_far
    ∙ take_all i (map f ys) (omega (arith, e, few, done))
