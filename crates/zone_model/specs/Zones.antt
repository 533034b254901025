-- The sets of a zone, and their groups.
use Rattle.std.specs.Prelude.{◌≡◌, ℕ, List, [], ◌∷◌, Bool, ◌&&◌, ◌==◌, ◌⊎◌, ⊤}
use Rattle.std.specs.List.{AllByRecursion, filter}
use Rattle.std.specs.declared.cmp.Ordering.TheVariants.{Less}
use Rattle.record_set.specs.Order.{same_labels}
use Rattle.record_set.specs.Suffix.{EndsWith}
use Rattle.record_set.specs.Types.{number_of}
use Rattle.record_set.specs.RTypeRecord.{RType}
use Rattle.record_set.specs.declared.sets.RecordSet.{RecordSet}
use Rattle.record_set.specs.declared.sets.Body.{Body}
use Rattle.record_set.specs.declared.sets.Body.TheVariants as body
use Rattle.record_set.specs.Sets.{key_of}
use Rattle.zone_model.specs.Keys.{key_cmp}

-- The sets are in zone order, with distinct keys: the key of each comes before those of all sets behind it.
abbrev pub IsRising : List RecordSet → Type 0
IsRising [] = ⊤
IsRising (set ∷ sets) = AllByRecursion (λ later. key_cmp (key_of set) (key_of later) ≡ Less) sets × IsRising sets

-- The sets are those of a zone: in zone order, and each at or below the apex.
pub record IsZone (sets : List RecordSet) (apex : List (List ℕ)) : Type 0 where
  pub rising : IsRising sets
  pub inside : AllByRecursion (λ set. EndsWith set.name apex) sets

-- it is one of these
abbrev pub IsAmong : {X : Type 0} → List X → X → Type 0
IsAmong [] x = ⊥
IsAmong (y ∷ ys) x = (y ≡ x) ⊎ IsAmong ys x

-- the two sets are of one group
pub record AreOneGroup (set other : RecordSet) : Type 0 where
  pub name : set.name ≡ other.name
  pub rtype : set.rtype ≡ other.rtype

-- whether a set is of this name and type
abbrev pub is_of_group : (name : List (List ℕ)) → RType → RecordSet → Bool
is_of_group name rtype set = same_labels name set.name && number_of rtype == number_of set.rtype

-- A group: all sets of one name and type.
abbrev pub group : List RecordSet → (name : List (List ℕ)) → RType → List RecordSet
group sets name rtype = filter (is_of_group name rtype) sets

-- The target group of an alias: the sets of the target's name and of the alias's own type. Another set has none.
abbrev pub target_group_of : List RecordSet → RType → Body → List RecordSet
target_group_of sets rtype (body.Alias target evaluate) = group sets target rtype
target_group_of sets rtype (body.Values ttl values) = []

abbrev pub target_group : List RecordSet → RecordSet → List RecordSet
target_group sets set = target_group_of sets set.rtype set.body
