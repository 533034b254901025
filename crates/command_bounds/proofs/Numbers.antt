-- Values from outside: the last number of a zone, and which refusal of several sets comes first.
use Rattle.std.proofs.Common.{◌≡◌, ℕ, true, List, [], ◌∷◌, None, Option, Some, refl}
use Rattle.std.specs.Prelude.{codes}
use Rattle.config_model.specs.Batches.{sets_refusal}
use Rattle.config_model.specs.Configs.{Config, empty}
use Rattle.config_model.specs.NewZones.{create_refusal}
use Rattle.config_model.specs.declared.refusals.Refusal.{Refusal}
use Rattle.config_model.specs.declared.refusals.Refusal.TheVariants as refusal
use Rattle.rdata_layout.specs.declared.types.RType.TheVariants.{A}
use Rattle.config_model.specs.Sets.{key_of}
use Rattle.config_model.specs.BodyRecord.TheVariants.{Alias, Values}
use Rattle.config_model.specs.RecordSetRecord.{RecordSet}
use Rattle.routing.specs.declared.policies.Routing.TheVariants.{Cidr, Simple}

abbrev named : ℕ → List (List ℕ)
named n = (n ∷ []) ∷ []

-- ---- numbers of zones

abbrev servers : List (List (List ℕ))
servers = named 1 ∷ named 2 ∷ named 3 ∷ named 4 ∷ []

-- a server without zones, whose next zone gets this number
abbrev next_is : ℕ → Config
next_is n = record empty { next_zone = n }

-- 4,294,967,294 is the last number that is given.
pub last_number : create_refusal (next_is 4294967294) (named 5) servers ≡ None
last_number = refl

pub numbers_ended : create_refusal (next_is 4294967295) (named 5) servers ≡ Some refusal.IdsEnded
numbers_ended = refl

-- ---- which comes first

-- Each has one fault alone, and a set further on has one that is told before it.
abbrev no_target : RecordSet
no_target = record {
  name = named 1;
  rtype = A;
  routing = Simple;
  body = Alias (named 9) true;
  check = None;
}

abbrev no_location : RecordSet
no_location = record {
  name = named 2;
  rtype = A;
  routing = Cidr (codes "a") 4 (codes "office");
  body = Values 60 [];
  check = None;
}

abbrev no_collection : RecordSet
no_collection = record no_location { name = named 3; routing = Cidr (codes "a") 5 (codes "*") }

abbrev no_check : RecordSet
no_check = record no_location { name = named 4; routing = Simple; check = Some 7 }

-- beside collection 4, which has no blocks
abbrev refusal_among : List RecordSet → Option Refusal
refusal_among sets = sets_refusal [] ((4, record { name = codes "c"; locations = [] }) ∷ []) sets

pub check_first : refusal_among (no_target ∷ no_location ∷ no_collection ∷ no_check ∷ [])
    ≡ Some (refusal.NoSuchHealthCheck 7)
check_first = refl

pub collection_second : refusal_among (no_target ∷ no_location ∷ no_collection ∷ [])
    ≡ Some (refusal.NoSuchCidrCollection 5)
collection_second = refl

pub location_third : refusal_among (no_target ∷ no_location ∷ [])
    ≡ Some (refusal.NoSuchCidrLocation (codes "office"))
location_third = refl

pub target_fourth : refusal_among (no_target ∷ [])
    ≡ Some (refusal.AliasTargetMissing (key_of no_target))
target_fourth = refl
