-- The values of a set, and what it is an alias of.
use Rattle.std.specs.Prelude.{ℕ, List, [], ◌∷◌, length, map, if◌then◌else◌, Result, Ok, Err, ⊤}
use Rattle.std.specs.List.{sum_by}
use Rattle.std.specs.Str.{bytes_eq}
use Rattle.rdata_layout.specs.declared.types.RType.{RType}
use Rattle.batch_model.specs.ValueOfText.{value_of_text}
use Rattle.batch_model.specs.ValueFaultRecord.{ValueFault}
use Rattle.serde_json.specs.Data.{Data, Items}
use Rattle.line_reading.specs.Reading.{◌>>=◌, object, required, bad, unsupported, each}
use Rattle.line_reading.specs.Kinds.{text, list, name, flag, without_prefix}
use Rattle.line_faults.specs.declared.member.Member.{Member}
use Rattle.line_faults.specs.declared.member.Member.TheVariants as m
use Rattle.line_faults.specs.declared.fault.LineFault.{LineFault}
use Rattle.line_faults.specs.declared.fault.LineReason.TheVariants.{BadValue}
use Rattle.set_lines.specs.declared.values.Counted.{Counted}
use Rattle.set_lines.specs.declared.values.Valued.{Valued}
use Rattle.set_lines.specs.declared.aliases.Alias.{Alias}

-- a value and how many bytes its text has, where the text spells one
abbrev pub or_bad_value : Member → RType → (characters : ℕ) → Result (List ℕ) ValueFault
    → Result Counted LineFault
or_bad_value h rtype n (Ok wire) =
    Ok (record { datum = record { rtype = rtype; wire = wire }; characters = n })
or_bad_value h rtype n (Err fault) = bad BadValue h

abbrev pub value_of : Member → RType → List ℕ → Result Counted LineFault
value_of h rtype s = or_bad_value h rtype (length s) (value_of_text rtype s)

unfoldable pub value : RType → Member → Data → Result Counted LineFault
value rtype h d = text h d >>= value_of h rtype

-- an object with its text alone
unfoldable pub record_value : RType → Member → Data → Result Counted LineFault
record_value rtype h o = do
  _ ← object h [] (m.Value ∷ []) o
  required m.Value (value rtype) o

-- the values in their order, and how many bytes their texts have together
abbrev pub together : List Counted → Valued
together list = record {
  values = map (λ (c : Counted). c.datum) list;
  characters = sum_by (λ (c : Counted). c.characters) list;
}

unfoldable pub values_in : RType → Member → Items → Result Valued LineFault
values_in rtype h items = each (λ _. record_value rtype h) 0 items >>= λ list. Ok (together list)

unfoldable pub records : RType → Member → Data → Result Valued LineFault
records rtype h d = list 0 65535 h d >>= values_in rtype h

-- An alias of another zone than its own is not offered: the texts of both are compared, without
-- the prefix that each may have, also where they are no ids.
unfoldable pub same_zone : (zone : List ℕ) → Member → Data → Result ⊤ LineFault
same_zone zone h d = text h d
    >>= λ s. if bytes_eq (without_prefix s) (without_prefix zone) then Ok tt else unsupported h

unfoldable pub alias_target : (zone : List ℕ) → Member → Data → Result Alias LineFault
alias_target zone h o = do
  _ ← object h [] (m.HostedZoneId ∷ m.DnsName ∷ m.EvaluateTargetHealth ∷ []) o
  _ ← required m.HostedZoneId (same_zone zone) o
  owner ← required m.DnsName name o
  evaluated ← required m.EvaluateTargetHealth flag o
  Ok (record { target = owner; evaluate = evaluated })
