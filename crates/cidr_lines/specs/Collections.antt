-- The lines on collections of address blocks (API Reference, CreateCidrCollection and others).
use Rattle.std.specs.Prelude.{ℕ, List, [], ◌∷◌, codes, Bool, true, false, if◌then◌else◌}
use Rattle.std.specs.Prelude.{Option, None, Some, Result, Ok}
use Rattle.std.specs.Str.{bytes_eq}
use Rattle.routing.specs.Texts.{is_location_byte}
use Rattle.ip_table.specs.Prefixes.{Prefix}
use Rattle.prefix_text.specs.Prefixes.{prefix_of_text}
use Rattle.serde_json.specs.Data.{Data}
use Rattle.line_reading.specs.Reading.{◌>>=◌, object, required, or_bad, each, in_change}
use Rattle.line_reading.specs.Kinds.{text, list, one_of_texts, collection_id}
use Rattle.line_faults.specs.declared.member.Member.{Member}
use Rattle.line_faults.specs.declared.member.Member.TheVariants as m
use Rattle.line_faults.specs.declared.fault.LineFault.{LineFault}
use Rattle.line_faults.specs.declared.fault.LineReason.TheVariants.{BadAddress}
use Rattle.line_words.specs.Words.{plain}
use Rattle.cidr_changes.specs.declared.changes.CidrChange.{CidrChange}
use Rattle.cidr_commands.specs.declared.command.CidrCommand.{CidrCommand}
use Rattle.cidr_commands.specs.declared.command.CidrCommand.TheVariants as command

-- 1 to 64 of letters, digits, `_` and `-`; and 1 to 16 of these, without `*`
abbrev pub collection_name : List ℕ → Option (List ℕ)
collection_name = plain is_location_byte 64

abbrev pub location_name : List ℕ → Option (List ℕ)
location_name = plain is_location_byte 16

-- whether blocks are put
abbrev pub is_put : List ℕ → Option Bool
is_put s =
    if bytes_eq s (codes "PUT") then Some true
    else if bytes_eq s (codes "DELETE_IF_EXISTS") then Some false
    else None

-- an address, `/` and a length
unfoldable pub block : Member → Data → Result Prefix LineFault
block h d = text h d >>= λ s. or_bad (prefix_of_text s) BadAddress h

unfoldable pub blocks : Member → Data → Result (List Prefix) LineFault
blocks h d = list 1 1000 h d >>= each (λ _. block h) 0

unfoldable pub change : Member → Data → Result CidrChange LineFault
change h o = do
  _ ← object h [] (m.Action ∷ m.LocationName ∷ m.CidrList ∷ []) o
  puts ← required m.Action (one_of_texts is_put) o
  name ← required m.LocationName (one_of_texts location_name) o
  prefixes ← required m.CidrList blocks o
  Ok (record { put = puts; location = name; blocks = prefixes })

-- Faults in a change are told with its index, also where it is no object.
unfoldable pub changes : Member → Data → Result (List CidrChange) LineFault
changes h d = list 1 1000 h d >>= each (λ k o. in_change k (change h o)) 0

unfoldable pub create_collection : Data → Result CidrCommand LineFault
create_collection o = do
  _ ← object m.CreateCidrCollection [] (m.Name ∷ m.CallerReference ∷ []) o
  name ← required m.Name (one_of_texts collection_name) o
  Ok (command.Create name)

unfoldable pub change_collection : Data → Result CidrCommand LineFault
change_collection o = do
  _ ← object m.ChangeCidrCollection (m.CollectionVersion ∷ []) (m.Id ∷ m.Changes ∷ []) o
  id ← required m.Id collection_id o
  list ← required m.Changes changes o
  Ok (command.Change id list)

unfoldable pub delete_collection : Data → Result CidrCommand LineFault
delete_collection o = do
  _ ← object m.DeleteCidrCollection [] (m.Id ∷ []) o
  id ← required m.Id collection_id o
  Ok (command.Delete id)
