-- The definitions at values from outside.
use Rattle.std.proofs.Common.{◌≡◌, ℕ, List, [], ◌∷◌, codes, inl, inr, Some, None, Less, Greater, refl, replicate, true}
use Rattle.record_set.specs.RTypeRecord.{RType}
use Rattle.record_set.specs.RTypeRecord.TheVariants as rtype
use Rattle.record_set.specs.RoutingRecord.TheVariants as routing
use Rattle.record_set.specs.declared.sets.RecordSet.{RecordSet}
use Rattle.record_set.specs.declared.sets.Body.TheVariants as body
use Rattle.record_set.specs.declared.sets.SetKey.{SetKey}
use Rattle.zone_model.specs.Placing.{placed, without}
use Rattle.zone_model.specs.Keys.{key_cmp}
use Rattle.zone_model.specs.Walks.{StartsWalk, HasNoTarget}
use Rattle.zone_model.specs.Zones.{target_group}

-- example.com
abbrev apex : List (List ℕ)
apex = codes "example" ∷ codes "com" ∷ []

-- www.example.com
abbrev www : List (List ℕ)
www = codes "www" ∷ apex

abbrev key : List (List ℕ) → RType → SetKey
key name kind = record { name = name; rtype = kind; ident = None }

-- a list in zone order: the apex's NS set, its SOA set, then www (the answer of a
-- ListResourceRecordSets)
ns_before_soa : key_cmp (key apex rtype.Ns) (key apex rtype.Soa) ≡ Less
ns_before_soa = refl

apex_before_www : key_cmp (key apex rtype.Soa) (key www rtype.A) ≡ Less
apex_before_www = refl

-- names are compared from the root on: b.example.com before a.c.example.com
from_the_root : key_cmp (key (codes "b" ∷ apex) rtype.A)
    (key (codes "a" ∷ codes "c" ∷ apex) rtype.A) ≡ Less
from_the_root = refl

-- types by their numbers: CAA is 257, AAAA is 28
by_number : key_cmp (key www rtype.Caa) (key www rtype.Aaaa) ≡ Greater
by_number = refl

-- identifiers by bytes, none first
none_first : key_cmp (key www rtype.A)
    (record { name = www; rtype = rtype.A; ident = Some (codes "a") }) ≡ Less
none_first = refl

by_bytes : key_cmp (record { name = www; rtype = rtype.A; ident = Some (codes "B") })
    (record { name = www; rtype = rtype.A; ident = Some (codes "a") }) ≡ Less
by_bytes = refl

-- a set with so many values
abbrev set_of : List (List ℕ) → RType → ℕ → RecordSet
set_of name kind n =
    record {
      name = name;
      rtype = kind;
      routing = routing.Simple;
      body =
          body.Values 300 (replicate n (record { rtype = kind; wire = 192 ∷ 0 ∷ 2 ∷ 1 ∷ [] }));
      check =
          None;
    }

abbrev alias_to : List (List ℕ) → List (List ℕ) → RecordSet
alias_to name target =
    record {
      name = name;
      rtype = rtype.A;
      routing = routing.Simple;
      body =
          body.Alias target true;
      check = None;
    }

-- CREATE puts a set to its place, and DELETE takes it away
put_between : placed (set_of www rtype.A 1) (set_of apex rtype.Ns 1
    ∷ set_of (codes "z" ∷ apex) rtype.A 1 ∷ [])
    ≡ set_of apex rtype.Ns 1 ∷ set_of www rtype.A 1 ∷ set_of (codes "z" ∷ apex) rtype.A 1 ∷ []
put_between = refl

replaced : placed (set_of www rtype.A 2) (set_of apex rtype.Ns 1 ∷ set_of www rtype.A 1 ∷ [])
    ≡ set_of apex rtype.Ns 1 ∷ set_of www rtype.A 2 ∷ []
replaced = refl

taken_away : without (key www rtype.A) (set_of apex rtype.Ns 1 ∷ set_of www rtype.A 1 ∷ [])
    ≡ set_of apex rtype.Ns 1 ∷ []
taken_away = refl

-- the target group has the alias's own type
own_type : target_group (set_of www rtype.A 1 ∷ set_of www rtype.Aaaa 1 ∷ []) (alias_to apex www)
    ≡ set_of www rtype.A 1 ∷ []
own_type = refl

-- c1 is an alias of c0, and c2 of c1
abbrev chain : List RecordSet
chain = set_of (codes "c0" ∷ apex) rtype.A 1 ∷ alias_to (codes "c1" ∷ apex) (codes "c0" ∷ apex)
    ∷ alias_to (codes "c2" ∷ apex) (codes "c1" ∷ apex) ∷ []

-- two links start at c2: c0 is no alias
two_links : StartsWalk chain (alias_to (codes "c2" ∷ apex) (codes "c1" ∷ apex)) 2
two_links = (
  alias_to (codes "c1" ∷ apex) (codes "c0" ∷ apex) ∷ [],
  (inr (inr (inl refl)), tt, inl refl, (inr (inl refl), tt)),
  refl,
)

-- an alias to a name that has no set of its type
without_target : HasNoTarget chain (alias_to www (codes "c3" ∷ apex))
without_target = (tt, refl)
