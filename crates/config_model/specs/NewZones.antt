-- Zones that come and go (API Reference, CreateHostedZone and DeleteHostedZone).
use Rattle.std.specs.Prelude.{ℕ, ◌==◌, ◌+◌, Bool, false, not, ◌&&◌, ◌||◌, nat_le, List, []}
use Rattle.std.specs.Prelude.{◌∷◌, ◌++◌, length, map, codes, Option, None, Some, Result, Err}
use Rattle.std.specs.List.{list_any}
use Rattle.std.specs.Str.{bytes_eq}
use Rattle.octets.specs.Numbers.{four_octets}
use Rattle.set_reading.specs.Labels.{wire}
use Rattle.set_reading.specs.Order.{same_labels}
use Rattle.set_reading.specs.Wildcard.{wildcard}
use Rattle.set_reading.specs.Datum.{Datum}
use Rattle.set_reading.specs.Types.{number_of}
use Rattle.set_reading.specs.RTypeRecord.{RType}
use Rattle.set_reading.specs.RTypeRecord.TheVariants.{Ns, Soa}
use Rattle.set_reading.specs.BodyRecord.TheVariants.{Values}
use Rattle.set_reading.specs.RecordSetRecord.{RecordSet}
use Rattle.set_reading.specs.RoutingRecord.TheVariants.{Simple}
use Rattle.command_octets.specs.Hosted.{HostedZone}
use Rattle.config_model.specs.Batches.{store_refusal}
use Rattle.config_model.specs.Configs.{Config, without_zone, zone_with}
use Rattle.config_model.specs.Telling.{first_of, invalid, refuse_if, unless}
use Rattle.config_model.specs.declared.refusals.InputReason.TheVariants as reason
use Rattle.config_model.specs.declared.refusals.Made.{Made}
use Rattle.config_model.specs.declared.refusals.Made.TheVariants as made
use Rattle.config_model.specs.declared.refusals.Refusal.{Refusal}
use Rattle.config_model.specs.declared.refusals.Refusal.TheVariants as refusal

-- ---- the sets of a new zone

abbrev pub hostmaster : List (List ℕ)
hostmaster = codes "awsdns-hostmaster" ∷ codes "amazon" ∷ codes "com" ∷ []

abbrev pub server_value : (server : List (List ℕ)) → Datum
server_value server = record { rtype = Ns; wire = wire server }

-- The name servers of its apex.
abbrev pub new_ns_set : (apex : List (List ℕ)) → (servers : List (List (List ℕ))) → RecordSet
new_ns_set apex servers = record {
  name = apex;
  rtype = Ns;
  routing = Simple;
  body = Values 172800 (map server_value servers);
  check = None;
}

abbrev pub first_server : (servers : List (List (List ℕ))) → List (List ℕ)
first_server [] = []
first_server (server ∷ servers) = server

-- MNAME, RNAME, SERIAL, REFRESH, RETRY, EXPIRE and MINIMUM (RFC 1035, 3.3.13)
abbrev pub soa_value : (server : List (List ℕ)) → Datum
soa_value server = record {
  rtype = Soa;
  wire = wire server ++ (wire hostmaster ++ (four_octets 1 ++ (four_octets 7200
      ++ (four_octets 900 ++ (four_octets 1209600 ++ four_octets 86400)))));
}

-- The start of its authority.
abbrev pub new_soa_set : (apex : List (List ℕ)) → (servers : List (List (List ℕ))) → RecordSet
new_soa_set apex servers = record {
  name = apex;
  rtype = Soa;
  routing = Simple;
  body = Values 900 (soa_value (first_server servers) ∷ []);
  check = None;
}

abbrev pub new_zone : (id : ℕ) → (apex : List (List ℕ)) → (servers : List (List (List ℕ)))
    → HostedZone
new_zone id apex servers = record {
  id = id;
  apex = apex;
  sets = new_ns_set apex servers ∷ new_soa_set apex servers ∷ [];
}

-- ---- a new zone

-- a name that a zone may have: not the root, and its first label is not `*` (own)
abbrev pub is_zone_name : List (List ℕ) → Bool
is_zone_name [] = false
is_zone_name (label ∷ labels) = not (bytes_eq label wildcard)

-- two of the servers are one
abbrev pub is_repeated : (servers : List (List (List ℕ))) → Bool
is_repeated [] = false
is_repeated (server ∷ servers) = list_any (same_labels server) servers || is_repeated servers

abbrev pub has_zone : List HostedZone → (name : List (List ℕ)) → Bool
has_zone zones name = list_any (λ (zone : HostedZone). same_labels zone.apex name) zones

-- with a new zone, which gets the next number
abbrev pub with_zone : Config → (name : List (List ℕ)) → (servers : List (List (List ℕ))) → Config
with_zone config name servers = record config {
  zones = config.zones ++ new_zone config.next_zone name servers ∷ [];
  next_zone = config.next_zone + 1;
}

-- as many zones as there may be (Route 53 quotas)
abbrev pub are_most : (zones : ℕ) → Bool
are_most zones = nat_le 500 zones

-- The first refusal of a new zone.
abbrev pub create_refusal : Config → (name : List (List ℕ)) → (servers : List (List (List ℕ)))
    → Option Refusal
create_refusal config name servers = first_of (
    refuse_if (not (is_zone_name name)) (invalid reason.BadZoneName)
    ∷ refuse_if (is_repeated servers) (invalid reason.RepeatedValue)
    ∷ refuse_if (has_zone config.zones name) (invalid reason.ZoneExists)
    ∷ refuse_if (are_most (length config.zones)) refusal.TooManyHostedZones
    ∷ refuse_if (config.next_zone == 4294967295) refusal.IdsEnded
    ∷ store_refusal (with_zone config name servers).zones
    ∷ [])

abbrev pub create_zone : Config → (name : List (List ℕ)) → (servers : List (List (List ℕ)))
    → Result (Config × Made) Refusal
create_zone config name servers = unless (create_refusal config name servers)
    (with_zone config name servers, made.Zone config.next_zone)

-- ---- the end of a zone

-- NS and SOA sets say how a zone is served
abbrev pub is_of_zone : RType → Bool
is_of_zone rtype = number_of rtype == number_of Ns || number_of rtype == number_of Soa

-- a set other than the NS and SOA sets of the apex
abbrev pub is_another : (apex : List (List ℕ)) → RecordSet → Bool
is_another apex set = not (same_labels set.name apex && is_of_zone set.rtype)

abbrev pub end_refusal : HostedZone → Option Refusal
end_refusal zone =
    first_of (refuse_if (list_any (is_another zone.apex) zone.sets) refusal.HostedZoneNotEmpty ∷ [])

abbrev pub end_of : Config → Option HostedZone → Result (Config × Made) Refusal
end_of config None = Err refusal.NoSuchHostedZone
end_of config (Some zone) = unless (end_refusal zone)
    (record config { zones = without_zone config.zones zone.id }, made.Nothing)

abbrev pub delete_zone : Config → (id : ℕ) → Result (Config × Made) Refusal
delete_zone config id = end_of config (zone_with config.zones id)
