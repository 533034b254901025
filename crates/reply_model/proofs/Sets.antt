-- A set of each policy and of each kind, byte by byte, as a list tells it.
use Rattle.std.proofs.Common.{◌≡◌, ℕ, List, [], ◌∷◌, ◌++◌, true, None, Some, refl}
use Rattle.std.specs.Prelude.{codes}
use Rattle.std.specs.Fmt.{digits}
use Rattle.json.specs.Print.{escape_byte}
use Rattle.config_model.specs.RTypeRecord.TheVariants.{A, Txt}
use Rattle.config_model.specs.BodyRecord.TheVariants.{Alias, Values}
use Rattle.routing.specs.declared.policies.Continent.TheVariants as continent
use Rattle.routing.specs.declared.policies.Place.TheVariants as place
use Rattle.routing.specs.declared.policies.Role.TheVariants as role
use Rattle.routing.specs.declared.policies.Routing.{Routing}
use Rattle.routing.specs.declared.policies.Routing.TheVariants as routing
use Rattle.reply_model.specs.Json.{line_of}
use Rattle.reply_model.specs.Sets.{set_object}

abbrev www : List (List ℕ)
www = codes "www" ∷ codes "example" ∷ codes "com" ∷ []

-- an alias of a policy, as an object on a line
abbrev told : Routing → List ℕ
told routing = line_of (set_object 1 (record {
  name = www;
  rtype = A;
  routing = routing;
  body = Alias www true;
  check = None;
}))

pub simple : told routing.Simple
    ≡ (codes "{\"AliasTarget\":{\"DNSName\":\"www.example.com.\",\"EvaluateTarge"
    ++ codes "tHealth\":true,\"HostedZoneId\":\"Z1\"},\"Name\":\"www.example.com"
    ++ codes ".\",\"Type\":\"A\"}\n")
unfolding line_of escape_byte digits
simple = refl

pub weighted : told (routing.Weighted (codes "a") 255)
    ≡ (codes "{\"AliasTarget\":{\"DNSName\":\"www.example.com.\",\"EvaluateTarge"
    ++ codes "tHealth\":true,\"HostedZoneId\":\"Z1\"},\"Name\":\"www.example.com"
    ++ codes ".\",\"SetIdentifier\":\"a\",\"Type\":\"A\",\"Weight\":255}\n")
unfolding line_of escape_byte digits
weighted = refl

pub primary : told (routing.Failover (codes "a") role.Primary)
    ≡ (codes "{\"AliasTarget\":{\"DNSName\":\"www.example.com.\",\"EvaluateTarge"
    ++ codes "tHealth\":true,\"HostedZoneId\":\"Z1\"},\"Failover\":\"PRIMARY\","
    ++ codes "\"Name\":\"www.example.com.\",\"SetIdentifier\":\"a\",\"Type\":\"A"
    ++ codes "\"}\n")
unfolding line_of escape_byte digits
primary = refl

pub secondary : told (routing.Failover (codes "a") role.Secondary)
    ≡ (codes "{\"AliasTarget\":{\"DNSName\":\"www.example.com.\",\"EvaluateTarge"
    ++ codes "tHealth\":true,\"HostedZoneId\":\"Z1\"},\"Failover\":\"SECONDARY\""
    ++ codes ",\"Name\":\"www.example.com.\",\"SetIdentifier\":\"a\",\"Type\":\""
    ++ codes "A\"}\n")
unfolding line_of escape_byte digits
secondary = refl

pub country : told (routing.Geolocation (codes "a") (place.Country (codes "DE")))
    ≡ (codes "{\"AliasTarget\":{\"DNSName\":\"www.example.com.\",\"EvaluateTarge"
    ++ codes "tHealth\":true,\"HostedZoneId\":\"Z1\"},\"GeoLocation\":{\"Country"
    ++ codes "Code\":\"DE\"},\"Name\":\"www.example.com.\",\"SetIdentifier\":\"a"
    ++ codes "\",\"Type\":\"A\"}\n")
unfolding line_of escape_byte digits
country = refl

pub anywhere : told (routing.Geolocation (codes "a") place.Anywhere)
    ≡ (codes "{\"AliasTarget\":{\"DNSName\":\"www.example.com.\",\"EvaluateTarge"
    ++ codes "tHealth\":true,\"HostedZoneId\":\"Z1\"},\"GeoLocation\":{\"Country"
    ++ codes "Code\":\"*\"},\"Name\":\"www.example.com.\",\"SetIdentifier\":\"a"
    ++ codes "\",\"Type\":\"A\"}\n")
unfolding line_of escape_byte digits
anywhere = refl

pub latency : told (routing.Latency (codes "a") (codes "eu-west-1"))
    ≡ (codes "{\"AliasTarget\":{\"DNSName\":\"www.example.com.\",\"EvaluateTarge"
    ++ codes "tHealth\":true,\"HostedZoneId\":\"Z1\"},\"Name\":\"www.example.com"
    ++ codes ".\",\"Region\":\"eu-west-1\",\"SetIdentifier\":\"a\",\"Type\":\"A"
    ++ codes "\"}\n")
unfolding line_of escape_byte digits
latency = refl

pub multivalue : told (routing.Multivalue (codes "a"))
    ≡ (codes "{\"AliasTarget\":{\"DNSName\":\"www.example.com.\",\"EvaluateTarge"
    ++ codes "tHealth\":true,\"HostedZoneId\":\"Z1\"},\"MultiValueAnswer\":true,"
    ++ codes "\"Name\":\"www.example.com.\",\"SetIdentifier\":\"a\",\"Type\":\"A"
    ++ codes "\"}\n")
unfolding line_of escape_byte digits
multivalue = refl

pub cidr : told (routing.Cidr (codes "a") 4 (codes "office"))
    ≡ (codes "{\"AliasTarget\":{\"DNSName\":\"www.example.com.\",\"EvaluateTarge"
    ++ codes "tHealth\":true,\"HostedZoneId\":\"Z1\"},\"CidrRoutingConfig\":{\"C"
    ++ codes "ollectionId\":\"c4\",\"LocationName\":\"office\"},\"Name\":\"www.e"
    ++ codes "xample.com.\",\"SetIdentifier\":\"a\",\"Type\":\"A\"}\n")
unfolding line_of escape_byte digits
cidr = refl

pub continent_af : told (routing.Geolocation (codes "a") (place.Continent continent.Af))
    ≡ (codes "{\"AliasTarget\":{\"DNSName\":\"www.example.com.\",\"EvaluateTarge"
    ++ codes "tHealth\":true,\"HostedZoneId\":\"Z1\"},\"GeoLocation\":{\"Contine"
    ++ codes "ntCode\":\"AF\"},\"Name\":\"www.example.com.\",\"SetIdentifier\":"
    ++ codes "\"a\",\"Type\":\"A\"}\n")
unfolding line_of escape_byte digits
continent_af = refl

pub continent_an : told (routing.Geolocation (codes "a") (place.Continent continent.An))
    ≡ (codes "{\"AliasTarget\":{\"DNSName\":\"www.example.com.\",\"EvaluateTarge"
    ++ codes "tHealth\":true,\"HostedZoneId\":\"Z1\"},\"GeoLocation\":{\"Contine"
    ++ codes "ntCode\":\"AN\"},\"Name\":\"www.example.com.\",\"SetIdentifier\":"
    ++ codes "\"a\",\"Type\":\"A\"}\n")
unfolding line_of escape_byte digits
continent_an = refl

pub continent_as : told (routing.Geolocation (codes "a") (place.Continent continent.As))
    ≡ (codes "{\"AliasTarget\":{\"DNSName\":\"www.example.com.\",\"EvaluateTarge"
    ++ codes "tHealth\":true,\"HostedZoneId\":\"Z1\"},\"GeoLocation\":{\"Contine"
    ++ codes "ntCode\":\"AS\"},\"Name\":\"www.example.com.\",\"SetIdentifier\":"
    ++ codes "\"a\",\"Type\":\"A\"}\n")
unfolding line_of escape_byte digits
continent_as = refl

pub continent_eu : told (routing.Geolocation (codes "a") (place.Continent continent.Eu))
    ≡ (codes "{\"AliasTarget\":{\"DNSName\":\"www.example.com.\",\"EvaluateTarge"
    ++ codes "tHealth\":true,\"HostedZoneId\":\"Z1\"},\"GeoLocation\":{\"Contine"
    ++ codes "ntCode\":\"EU\"},\"Name\":\"www.example.com.\",\"SetIdentifier\":"
    ++ codes "\"a\",\"Type\":\"A\"}\n")
unfolding line_of escape_byte digits
continent_eu = refl

pub continent_na : told (routing.Geolocation (codes "a") (place.Continent continent.Na))
    ≡ (codes "{\"AliasTarget\":{\"DNSName\":\"www.example.com.\",\"EvaluateTarge"
    ++ codes "tHealth\":true,\"HostedZoneId\":\"Z1\"},\"GeoLocation\":{\"Contine"
    ++ codes "ntCode\":\"NA\"},\"Name\":\"www.example.com.\",\"SetIdentifier\":"
    ++ codes "\"a\",\"Type\":\"A\"}\n")
unfolding line_of escape_byte digits
continent_na = refl

pub continent_oc : told (routing.Geolocation (codes "a") (place.Continent continent.Oc))
    ≡ (codes "{\"AliasTarget\":{\"DNSName\":\"www.example.com.\",\"EvaluateTarge"
    ++ codes "tHealth\":true,\"HostedZoneId\":\"Z1\"},\"GeoLocation\":{\"Contine"
    ++ codes "ntCode\":\"OC\"},\"Name\":\"www.example.com.\",\"SetIdentifier\":"
    ++ codes "\"a\",\"Type\":\"A\"}\n")
unfolding line_of escape_byte digits
continent_oc = refl

pub continent_sa : told (routing.Geolocation (codes "a") (place.Continent continent.Sa))
    ≡ (codes "{\"AliasTarget\":{\"DNSName\":\"www.example.com.\",\"EvaluateTarge"
    ++ codes "tHealth\":true,\"HostedZoneId\":\"Z1\"},\"GeoLocation\":{\"Contine"
    ++ codes "ntCode\":\"SA\"},\"Name\":\"www.example.com.\",\"SetIdentifier\":"
    ++ codes "\"a\",\"Type\":\"A\"}\n")
unfolding line_of escape_byte digits
continent_sa = refl

-- two values in their order, and a check
pub values : line_of (set_object 1 (record {
  name = www;
  rtype = A;
  routing = routing.Simple;
  body = Values 300 (record { rtype = A; wire = 192 ∷ 0 ∷ 2 ∷ 2 ∷ [] }
      ∷ record { rtype = A; wire = 192 ∷ 0 ∷ 2 ∷ 1 ∷ [] } ∷ []);
  check = Some 7;
}))
    ≡ (codes "{\"HealthCheckId\":\"h7\",\"Name\":\"www.example.com.\",\"Resourc"
    ++ codes "eRecords\":[{\"Value\":\"192.0.2.2\"},{\"Value\":\"192.0.2.1\"}],"
    ++ codes "\"TTL\":300,\"Type\":\"A\"}\n")
unfolding line_of escape_byte digits
values = refl

-- a text with a quote in it: `"a\"b"` as a value, each quote and each backslash escaped
pub quoted : line_of (set_object 1 (record {
  name = www;
  rtype = Txt;
  routing = routing.Simple;
  body = Values 300 (record { rtype = Txt; wire = 3 ∷ 0x61 ∷ 0x22 ∷ 0x62 ∷ [] } ∷ []);
  check = None;
}))
    ≡ (codes "{\"Name\":\"www.example.com.\",\"ResourceRecords\":[{\"Value\":\"\\\"a"
    ++ codes "\\\\\\\"b\\\"\"}],\"TTL\":300,\"Type\":\"TXT\"}\n")
unfolding line_of escape_byte digits
quoted = refl
