-- The records of a zone cut.
use Rattle.std.specs.Prelude.{◌≡◌, ℕ, List, [], map, if◌then◌else◌}
use Rattle.std.specs.List.{flat_map}
use Rattle.dns_name.specs.Stored.{labels_of}
use Rattle.dns_wire.specs.Draft.{Draft}
use Rattle.dns_wire.specs.Message.{Record}
use Rattle.dns_wire.specs.declared.reply.Section.TheVariants.{Additional, Authority}
use Rattle.rdata_layout.specs.declared.types.RType.{RType}
use Rattle.rdata_layout.specs.declared.types.RType.TheVariants as rtype
use Rattle.record_set.specs.declared.sets.RecordSet.{RecordSet}
use Rattle.policy_select.specs.Zones.{Zone}
use Rattle.zone_model.specs.Zones.{group}
use Rattle.policy_select.specs.Looking.{IsGroupNow}
use Rattle.policy_select.specs.GroupRecord.{Group}
use Rattle.policy_select.specs.Groups.{sets_in, sets_in_zone}
use Rattle.policy_select.specs.Records.{data_of, glue_of, is_simple, set_records}
use Rattle.reply_records.specs.declared.delegation.Addresses.{Addresses}
use Rattle.reply_records.specs.Writing.{Writes}

-- The NS records of the cut are written into the authority section, and behind these the addresses
-- of its name servers into the additional one.
pub record Delegates (sets : List RecordSet) (cut : RecordSet) (old new : Draft) : Type 0 where
  pub middle : Draft
  pub servers : Writes Authority (set_records cut) old middle
  pub glue : Writes Additional (flat_map (glue_of sets) (map labels_of (data_of cut.body))) middle new

-- the records of a set whose routing is simple, and none of another
abbrev pub simple_part : RecordSet → List Record
simple_part set = if is_simple set.routing then set_records set else []

-- the addresses that a zone has of name servers, told by the data of NS records
abbrev pub servers_glue : List RecordSet → (rdatas : List (List ℕ)) → List Record
servers_glue sets rdatas = flat_map (λ (rdata : List ℕ). glue_of sets (labels_of rdata)) rdatas

-- These are the sets of a name and type of a zone.
pub record AreOf (zones : List Zone) (zone : ℕ) (name : List (List ℕ)) (rtype : RType) (g : Group)
    : Type 0 where
  pub now : IsGroupNow zones g
  pub sets : sets_in zones g ≡ group (sets_in_zone zones zone) name rtype

-- These are the sets of a name server's addresses: A, and AAAA (RFC 3596, 3).
pub record AreAddresses (zones : List Zone) (zone : ℕ) (server : List (List ℕ)) (found : Addresses)
    : Type 0 where
  pub four : AreOf zones zone server rtype.A found.four
  pub six : AreOf zones zone server rtype.Aaaa found.six
