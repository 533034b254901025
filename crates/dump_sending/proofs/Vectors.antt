-- A dump, octet by octet, as docs/FORMATS.md tells it.
use Rattle.std.proofs.Common.{◌≡◌, ℕ, List, [], ◌∷◌, ◌++◌, Option, true, false, None, Some, refl}
use Rattle.std.specs.Prelude.{codes}
use Rattle.std.specs.Fmt.{digits}
use Rattle.address_text.specs.declared.address.IpAddress.TheVariants.{V4}
use Rattle.check_model.specs.declared.checks.Check.TheVariants.{Calculated, Endpoint}
use Rattle.config_zones.specs.Configs.{Config}
use Rattle.dump_sending.specs.Dumps.{dump_text}
use Rattle.json.specs.Print.{escape_byte}
use Rattle.rdata_layout.specs.declared.types.RType.TheVariants.{A}
use Rattle.record_set.specs.declared.sets.Body.TheVariants.{Values}
use Rattle.record_set.specs.declared.sets.RecordSet.{RecordSet}
use Rattle.dump_writing.specs.DumpOfReplyModel.{check_line, collection_line, set_line, zone_line}
use Rattle.dump_writing.specs.Json.{line_of}
use Rattle.routing.specs.declared.policies.Routing.TheVariants.{Simple}

abbrev example : List (List ℕ)
example = codes "example" ∷ codes "com" ∷ []

abbrev a_set : (name : List (List ℕ)) → (last : ℕ) → (check : Option ℕ) → RecordSet
a_set name last check = record {
  name = name;
  rtype = A;
  routing = Simple;
  body = Values 300 (record { rtype = A; wire = 192 ∷ 0 ∷ 2 ∷ last ∷ [] } ∷ []);
  check = check;
}

-- Two checks, a collection, and two zones, of which the first has two sets.
abbrev config : Config
config = record {
  zones = record {
    id = 1;
    apex = example;
    sets = a_set example 1 None ∷ a_set (codes "www" ∷ example) 2 (Some 1) ∷ [];
  } ∷ record { id = 3; apex = codes "org" ∷ []; sets = [] } ∷ [];
  next_zone = 4;
  checks = record {
    next = 3;
    list = (1, Endpoint 3 false false) ∷ (2, Calculated 1 false true (1 ∷ [])) ∷ [];
  };
  collections = record {
    next = 2;
    list = (
      1,
      record {
        name = codes "sites";
        locations = record {
          name = codes "lab";
          blocks = record { address = V4 (198 ∷ 51 ∷ 0 ∷ 0 ∷ []); length = 16 } ∷ [];
        } ∷ [];
      },
    ) ∷ [];
  };
}

pub whole : dump_text config
    ≡ (codes "{\"HealthCheck\":{\"Disabled\":false,\"FailureThreshold\":3,\"Id\":\"h1\",\"Inverted\":"
    ++ codes "false,\"Type\":\"ENDPOINT\"}}\n"
    ++ codes "{\"HealthCheck\":{\"ChildHealthChecks\":[\"h1\"],\"Disabled\":true,\"HealthThreshold\":1,"
    ++ codes "\"Id\":\"h2\",\"Inverted\":false,\"Type\":\"CALCULATED\"}}\n"
    ++ codes "{\"CidrCollection\":{\"Id\":\"c1\",\"Locations\":[{\"CidrList\":[\"198.51.0.0/16\"],"
    ++ codes "\"LocationName\":\"lab\"}],\"Name\":\"sites\"}}\n"
    ++ codes "{\"HostedZone\":{\"Id\":\"Z1\",\"Name\":\"example.com.\"}}\n"
    ++ codes "{\"ResourceRecordSet\":{\"Name\":\"example.com.\",\"ResourceRecords\":"
    ++ codes "[{\"Value\":\"192.0.2.1\"}],\"TTL\":300,\"Type\":\"A\"}}\n"
    ++ codes "{\"ResourceRecordSet\":{\"HealthCheckId\":\"h1\",\"Name\":\"www.example.com.\","
    ++ codes "\"ResourceRecords\":[{\"Value\":\"192.0.2.2\"}],\"TTL\":300,\"Type\":\"A\"}}\n"
    ++ codes "{\"HostedZone\":{\"Id\":\"Z3\",\"Name\":\"org.\"}}\n")
unfolding check_line collection_line zone_line set_line line_of escape_byte digits
whole = refl
