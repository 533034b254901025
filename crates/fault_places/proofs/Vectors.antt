-- Fields and places, from outside.
use Rattle.std.proofs.Common.{◌≡◌, [], ◌∷◌, refl, Some}
use Rattle.std.specs.Prelude.{map}
use Rattle.set_fields.specs.RTypeRecord.TheVariants as rtype
use Rattle.set_fields.specs.RoutingRecord.TheVariants as routing
use Rattle.set_fields.specs.BodyRecord.TheVariants as body
use Rattle.set_fields.specs.RecordSetRecord.{RecordSet}
use Rattle.fault_places.specs.Fields.{Field}
use Rattle.fault_places.specs.Fields.Ending.{Sized, Open, Counted}
use Rattle.fault_places.specs.Sets.{fields_of_set}

-- a.b, A, weighted with the identifier x and the weight 5, 60 seconds, 192.0.2.1, and check 7
abbrev weighted : RecordSet
weighted = record {
  name = (0x61 ∷ []) ∷ (0x62 ∷ []) ∷ [];
  rtype = rtype.A;
  routing = routing.Weighted (0x78 ∷ []) 5;
  body = body.Values 60 (record { rtype = rtype.A; wire = 192 ∷ 0 ∷ 2 ∷ 1 ∷ [] } ∷ []);
  check = Some 7;
}

pub fields_of_weighted : map (λ (field : Field). field.octets) (fields_of_set weighted)
    ≡ (1 ∷ 0x61 ∷ 1 ∷ 0x62 ∷ 0 ∷ []) ∷ (0 ∷ 1 ∷ []) ∷ (1 ∷ []) ∷ (1 ∷ 0x78 ∷ []) ∷ (5 ∷ [])
    ∷ (0 ∷ []) ∷ (0 ∷ 0 ∷ 0 ∷ 60 ∷ []) ∷ (0 ∷ 1 ∷ []) ∷ (0 ∷ 4 ∷ 192 ∷ 0 ∷ 2 ∷ 1 ∷ [])
    ∷ (1 ∷ []) ∷ (0 ∷ 0 ∷ 0 ∷ 7 ∷ []) ∷ []
fields_of_weighted = refl

pub endings_of_weighted : map (λ (field : Field). field.ending) (fields_of_set weighted)
    ≡ Open ∷ Sized ∷ Sized ∷ Open ∷ Sized ∷ Sized ∷ Sized ∷ Sized ∷ Counted ∷ Sized ∷ Sized ∷ []
endings_of_weighted = refl
