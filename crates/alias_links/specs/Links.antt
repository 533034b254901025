-- Where a set of a zone leads.
use Rattle.std.specs.Prelude.{ℕ, List, Option, None, Some}
use Rattle.rdata_layout.specs.declared.types.RType.{RType}
use Rattle.zone_table.specs.Zones.{Zone}
use Rattle.zone_table.specs.SetRefRecord.{SetRef}
use Rattle.zone_table.specs.Looking.{IsGroup, Targets}
use Rattle.zone_table.specs.GroupRecord.{Group}

-- The group is the target group of the set that a reference names: of its target's name and of its
-- own type.
pub record LinksTo (zones : List Zone) (set : SetRef) (group : Group) : Type 0 where
  pub target : List (List ℕ)
  pub rtype : RType
  pub targets : Targets zones set (Some (target, rtype))
  pub is : IsGroup zones set.zone target rtype group

-- it; or none where the reference names no set, or one that is no alias
abbrev pub LinksOrNone : List Zone → SetRef → Option Group → Type 0
LinksOrNone zones set None = Targets zones set None
LinksOrNone zones set (Some group) = LinksTo zones set group
