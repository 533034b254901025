-- Values from outside: the bounds of zones and of walks, and which refusal of several comes first.
use Rattle.std.proofs.Common.{◌≡◌, ℕ, true, false, List, [], ◌∷◌, None, Option, Some, refl}
use Rattle.std.specs.Prelude.{codes}
use Rattle.check_model.specs.declared.checks.Check.{Check}
use Rattle.command_octets.specs.CollectionRecord.{Collection}
use Rattle.set_reading.specs.RTypeRecord.TheVariants.{A}
use Rattle.set_reading.specs.SetsOfRecordSet.{key_of}
use Rattle.set_reading.specs.BodyRecord.TheVariants.{Alias, Values}
use Rattle.set_reading.specs.RecordSetRecord.{RecordSet}
use Rattle.set_reading.specs.RoutingRecord.{Routing}
use Rattle.set_reading.specs.RoutingRecord.TheVariants.{Cidr, Simple}
use Rattle.config_model.specs.Batches.{is_over, is_over_zone, is_too_deep, sets_refusal}
use Rattle.config_model.specs.NewZones.{are_most}
use Rattle.config_model.specs.declared.refusals.Refusal.{Refusal}
use Rattle.config_model.specs.declared.refusals.Refusal.TheVariants as refusal

-- ---- how many there may be

-- 500 zones (Route 53 quotas)
pub one_zone_more : are_most 499 ≡ false
one_zone_more = refl

pub no_zone_more : are_most 500 ≡ true
no_zone_more = refl

-- 10,000 sets in a zone (Route 53 quotas)
pub a_full_zone : is_over_zone 10000 ≡ false
a_full_zone = refl

pub one_set_over : is_over_zone 10001 ≡ true
one_set_over = refl

-- 100,000 sets in all, and 64 MiB of them
pub a_full_store : is_over 100000 67108864 ≡ false
a_full_store = refl

pub sets_over : is_over 100001 0 ≡ true
sets_over = refl

pub octets_over : is_over 0 67108865 ≡ true
octets_over = refl

-- ---- how far aliases may lead

abbrev named : ℕ → List (List ℕ)
named n = (n ∷ []) ∷ []

abbrev address : ℕ → RecordSet
address n = record {
  name = named n;
  rtype = A;
  routing = Simple;
  body = Values 60 [];
  check = None;
}

abbrev link : (from to : ℕ) → RecordSet
link from to = record {
  name = named from;
  rtype = A;
  routing = Simple;
  body = Alias (named to) true;
  check = None;
}

-- sixteen links, from 16 down to 0
abbrev sixteen : List RecordSet
sixteen =
    link 16 15 ∷ link 15 14 ∷ link 14 13 ∷ link 13 12 ∷ link 12 11 ∷ link 11 10 ∷ link 10 9
    ∷ link 9 8 ∷ link 8 7 ∷ link 7 6 ∷ link 6 5 ∷ link 5 4 ∷ link 4 3 ∷ link 3 2 ∷ link 2 1
    ∷ link 1 0 ∷ address 0 ∷ []

pub as_far_as_may_be : is_too_deep sixteen (link 16 15) ≡ false
unfolding is_too_deep
as_far_as_may_be = refl

pub one_link_more : is_too_deep (link 17 16 ∷ sixteen) (link 17 16) ≡ true
unfolding is_too_deep
one_link_more = refl

-- a circle has walks of any length
pub to_itself : is_too_deep (link 1 1 ∷ []) (link 1 1) ≡ true
unfolding is_too_deep
to_itself = refl

-- ---- which comes first

-- a set that names a check and a collection, neither of which is there, and is an alias of nothing
abbrev named_all : RecordSet
named_all = record {
  name = named 1;
  rtype = A;
  routing = Cidr (codes "a") 4 (codes "office");
  body = Alias (named 2) true;
  check = Some 7;
}

pub check_first : sets_refusal [] [] (named_all ∷ []) ≡ Some (refusal.NoSuchHealthCheck 7)
unfolding is_too_deep
check_first = refl

pub collection_next : sets_refusal [] [] (record named_all { check = None } ∷ [])
    ≡ Some (refusal.NoSuchCidrCollection 4)
unfolding is_too_deep
collection_next = refl

abbrev collection : Collection
collection = record { name = codes "c"; locations = [] }

pub location_next : sets_refusal [] ((4, collection) ∷ []) (record named_all { check = None } ∷ [])
    ≡ Some (refusal.NoSuchCidrLocation (codes "office"))
unfolding is_too_deep
location_next = refl

-- `*` needs no block, and then the target is looked at
abbrev everywhere : RecordSet
everywhere = record named_all { check = None; routing = Cidr (codes "a") 4 (codes "*") }

pub target_next : sets_refusal [] ((4, collection) ∷ []) (everywhere ∷ [])
    ≡ Some (refusal.AliasTargetMissing (key_of everywhere))
unfolding is_too_deep
target_next = refl

pub target_before_depth : sets_refusal [] [] (link 1 1 ∷ link 2 3 ∷ [])
    ≡ Some (refusal.AliasTargetMissing (key_of (link 2 3)))
unfolding is_too_deep
target_before_depth = refl

pub depth_next : sets_refusal [] [] (link 1 1 ∷ [])
    ≡ Some (refusal.AliasTooDeep (key_of (link 1 1)))
unfolding is_too_deep
depth_next = refl
