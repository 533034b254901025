-- The object ResourceRecordSet, of a batch whose zone has this text (API Reference).
use Rattle.std.specs.Prelude.{ℕ, List, [], ◌∷◌, Option, None, Some, Result, Ok}
use Rattle.rdata_layout.specs.declared.types.RType.{RType}
use Rattle.batch_model.specs.BodyRecord.TheVariants as body
use Rattle.serde_json.specs.Data.{Data}
use Rattle.line_reading.specs.Reading.{◌>>=◌, object, required, optional, bad}
use Rattle.line_reading.specs.Kinds.{name, number, check_id}
use Rattle.policy_lines.specs.Words.{record_type}
use Rattle.policy_lines.specs.Policies.{policy_members, routing_of}
use Rattle.line_faults.specs.declared.member.Member.{Member}
use Rattle.line_faults.specs.declared.member.Member.TheVariants as m
use Rattle.line_faults.specs.declared.fault.LineFault.{LineFault}
use Rattle.line_faults.specs.declared.fault.LineReason.TheVariants.{Both, Missing}
use Rattle.set_lines.specs.Values.{records, alias_target}
use Rattle.set_lines.specs.declared.values.Valued.{Valued}
use Rattle.set_lines.specs.declared.aliases.Alias.{Alias}
use Rattle.set_lines.specs.declared.sets.Contents.{Contents}
use Rattle.set_lines.specs.declared.sets.CountedBody.{CountedBody}
use Rattle.set_lines.specs.declared.sets.CountedSet.{CountedSet}

-- the members behind those of the policy, in their order
unfoldable pub content_members : (zone : List ℕ) → RType → Data → Result Contents LineFault
content_members zone rtype o = do
  seconds ← optional m.Ttl (number 0 2147483647) o
  values ← optional m.ResourceRecords (records rtype) o
  target ← optional m.AliasTarget (alias_target zone) o
  check ← optional m.HealthCheckId check_id o
  Ok (record { ttl = seconds; records = values; alias = target; check = check })

-- A set has a target, or a time to live and values. An alias has no characters.
abbrev pub body_with : (ttl : Option ℕ) → Option Valued → Option Alias
    → Result CountedBody LineFault
body_with None None (Some a) =
    Ok (record { body = body.Alias a.target a.evaluate; characters = 0 })
body_with (Some ttl) values (Some a) = bad Both m.AliasTarget
body_with None (Some v) (Some a) = bad Both m.AliasTarget
body_with None values None = bad Missing m.Ttl
body_with (Some ttl) None None = bad Missing m.ResourceRecords
body_with (Some ttl) (Some v) None =
    Ok (record { body = body.Values ttl v.values; characters = v.characters })

-- The rules on several members come last, those on policies first.
unfoldable pub resource_record_set : (zone : List ℕ) → Member → Data → Result CountedSet LineFault
resource_record_set zone h o = do
  _ ← object h (m.GeoProximityLocation ∷ m.TrafficPolicyInstanceId ∷ [])
      (m.Name ∷ m.«Type» ∷ m.SetIdentifier ∷ m.Weight ∷ m.Failover ∷ m.GeoLocation ∷ m.Region
      ∷ m.MultiValueAnswer ∷ m.CidrRoutingConfig ∷ m.Ttl ∷ m.ResourceRecords ∷ m.AliasTarget
      ∷ m.HealthCheckId ∷ []) o
  owner ← required m.Name name o
  rtype ← required m.«Type» record_type o
  policies ← policy_members o
  contents ← content_members zone rtype o
  policy ← routing_of policies
  content ← body_with contents.ttl contents.records contents.alias
  Ok (record {
    set = record {
      name = owner;
      rtype = rtype;
      routing = policy;
      body = content.body;
      check = contents.check;
    };
    characters = content.characters;
  })
