-- Lines of a dump, byte by byte, as docs/FORMATS.md tells them.
use Rattle.std.proofs.Common.{◌≡◌, ℕ, List, [], ◌∷◌, ◌++◌, true, false, None, refl}
use Rattle.std.specs.Prelude.{codes}
use Rattle.std.specs.Fmt.{digits}
use Rattle.std.specs.Net.Text.{hex, hex_groups_text}
use Rattle.address_text.specs.declared.address.IpAddress.TheVariants.{V4, V6}
use Rattle.check_model.specs.declared.checks.Check.TheVariants.{Calculated, Endpoint}
use Rattle.json.specs.Print.{escape_byte}
use Rattle.config_model.specs.RTypeRecord.TheVariants.{A}
use Rattle.config_model.specs.BodyRecord.TheVariants.{Values}
use Rattle.routing.specs.declared.policies.Routing.TheVariants.{Simple}
use Rattle.reply_model.specs.Dump.{check_line, collection_line, set_line, zone_line}
use Rattle.reply_model.specs.Json.{line_of}

abbrev example : List (List ℕ)
example = codes "example" ∷ codes "com" ∷ []

pub endpoint : check_line 1 (Endpoint 3 false false)
    ≡ (codes "{\"HealthCheck\":{\"Disabled\":false,\"FailureThreshold\":3,\"Id\":\"h1\","
    ++ codes "\"Inverted\":false,\"Type\":\"ENDPOINT\"}}\n")
unfolding check_line line_of escape_byte digits
endpoint = refl

pub calculated : check_line 3 (Calculated 1 true false (1 ∷ 2 ∷ []))
    ≡ (codes "{\"HealthCheck\":{\"ChildHealthChecks\":[\"h1\",\"h2\"],\"Disabled\":false,"
    ++ codes "\"HealthThreshold\":1,\"Id\":\"h3\",\"Inverted\":true,\"Type\":\"CALCULATED\"}}\n")
unfolding check_line line_of escape_byte digits
calculated = refl

pub collection : collection_line 1 (record {
  name = codes "sites";
  locations =
      record {
        name = codes "lab";
        blocks = record { address = V4 (198 ∷ 51 ∷ 0 ∷ 0 ∷ []); length = 16 } ∷ [];
      } ∷ record {
        name = codes "office";
        blocks = record { address = V4 (198 ∷ 51 ∷ 100 ∷ 0 ∷ []); length = 24 }
            ∷ record {
              address = V6 (0x20 ∷ 0x01 ∷ 0x0D ∷ 0xB8 ∷ 0 ∷ 0 ∷ 0 ∷ 0 ∷ 0 ∷ 0 ∷ 0 ∷ 0 ∷ 0 ∷ 0
                  ∷ 0 ∷ 0 ∷ []);
              length = 32;
            } ∷ [];
      } ∷ [];
})
    ≡ (codes "{\"CidrCollection\":{\"Id\":\"c1\",\"Locations\":[{\"CidrList\":[\"198.51.0.0/16\"],"
    ++ codes "\"LocationName\":\"lab\"},{\"CidrList\":[\"198.51.100.0/24\",\"2001:db8::/32\"],"
    ++ codes "\"LocationName\":\"office\"}],\"Name\":\"sites\"}}\n")
unfolding collection_line line_of escape_byte digits hex hex_groups_text
collection = refl

pub zone : zone_line 1 example
    ≡ codes "{\"HostedZone\":{\"Id\":\"Z1\",\"Name\":\"example.com.\"}}\n"
unfolding zone_line line_of escape_byte digits
zone = refl

pub a_set : set_line 1 (record {
  name = codes "www" ∷ example;
  rtype = A;
  routing = Simple;
  body = Values 300 (record { rtype = A; wire = 192 ∷ 0 ∷ 2 ∷ 1 ∷ [] } ∷ []);
  check = None;
})
    ≡ (codes "{\"ResourceRecordSet\":{\"Name\":\"www.example.com.\",\"ResourceRecords\":"
    ++ codes "[{\"Value\":\"192.0.2.1\"}],\"TTL\":300,\"Type\":\"A\"}}\n")
unfolding set_line line_of escape_byte digits
a_set = refl
