-- Values from outside: the sets that Route 53 gives a new zone, octet by octet, and which refusal
-- of several comes first.
use Rattle.std.proofs.Common.{◌≡◌, ℕ, true, false, List, [], ◌∷◌, Some, refl}
use Rattle.std.specs.Prelude.{codes}
use Rattle.set_reading.specs.RTypeRecord.TheVariants.{Ns, Soa}
use Rattle.set_reading.specs.BodyRecord.TheVariants.{Values}
use Rattle.config_model.specs.Configs.{empty}
use Rattle.config_model.specs.NewZones.{create_refusal, is_zone_name, new_ns_set, new_soa_set}
use Rattle.config_model.specs.Telling.{invalid}
use Rattle.config_model.specs.declared.refusals.InputReason.TheVariants.{BadZoneName, RepeatedValue}

abbrev example : List (List ℕ)
example = codes "example" ∷ codes "com" ∷ []

abbrev server : List (List ℕ)
server = codes "ns1" ∷ codes "r53" ∷ codes "invalid" ∷ []

-- ns1.r53.invalid. on the wire
abbrev server_wire : List ℕ
server_wire =
    0x03 ∷ 0x6E ∷ 0x73 ∷ 0x31 ∷ 0x03 ∷ 0x72 ∷ 0x35 ∷ 0x33 ∷ 0x07 ∷ 0x69 ∷ 0x6E ∷ 0x76 ∷ 0x61
    ∷ 0x6C ∷ 0x69 ∷ 0x64 ∷ 0x00 ∷ []

-- The NS set: 172800 seconds, the servers in their order.
pub ns : (new_ns_set example (server ∷ [])).body
    ≡ Values 172800 (record { rtype = Ns; wire = server_wire } ∷ [])
ns = refl

-- The SOA set: 900 seconds; ns1.r53.invalid. awsdns-hostmaster.amazon.com. 1 7200 900 1209600 86400
pub soa : (new_soa_set example (server ∷ [])).body
    ≡ Values 900 (record {
      rtype = Soa;
      wire =
          0x03 ∷ 0x6E ∷ 0x73 ∷ 0x31 ∷ 0x03 ∷ 0x72 ∷ 0x35 ∷ 0x33 ∷ 0x07 ∷ 0x69 ∷ 0x6E ∷ 0x76
          ∷ 0x61 ∷ 0x6C ∷ 0x69 ∷ 0x64 ∷ 0x00 ∷ 0x11 ∷ 0x61 ∷ 0x77 ∷ 0x73 ∷ 0x64 ∷ 0x6E ∷ 0x73
          ∷ 0x2D ∷ 0x68 ∷ 0x6F ∷ 0x73 ∷ 0x74 ∷ 0x6D ∷ 0x61 ∷ 0x73 ∷ 0x74 ∷ 0x65 ∷ 0x72 ∷ 0x06
          ∷ 0x61 ∷ 0x6D ∷ 0x61 ∷ 0x7A ∷ 0x6F ∷ 0x6E ∷ 0x03 ∷ 0x63 ∷ 0x6F ∷ 0x6D ∷ 0x00 ∷ 0x00
          ∷ 0x00 ∷ 0x00 ∷ 0x01 ∷ 0x00 ∷ 0x00 ∷ 0x1C ∷ 0x20 ∷ 0x00 ∷ 0x00 ∷ 0x03 ∷ 0x84 ∷ 0x00
          ∷ 0x12 ∷ 0x75 ∷ 0x00 ∷ 0x00 ∷ 0x01 ∷ 0x51 ∷ 0x80 ∷ [];
    } ∷ [])
soa = refl

-- Neither the root nor a wildcard is the name of a zone.
pub root : is_zone_name [] ≡ false
root = refl

pub star : is_zone_name (codes "*" ∷ example) ≡ false
star = refl

pub a_name : is_zone_name example ≡ true
a_name = refl

-- The name is looked at before the servers.
pub name_first : create_refusal empty [] (server ∷ server ∷ []) ≡ Some (invalid BadZoneName)
name_first = refl

pub servers_next : create_refusal empty example (server ∷ server ∷ [])
    ≡ Some (invalid RepeatedValue)
servers_next = refl
