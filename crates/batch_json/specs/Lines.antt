-- The control lines, by their names (FORMATS, Control lines).
use Rattle.std.specs.Prelude.{◌≡◌, ℕ, List, ◌==◌, Option, None, Some, Result}
use Rattle.std.specs.Prelude.{Ok, Err, ⊤}
use Rattle.std.specs.Str.{IsUtf8}
use Rattle.serde_json.specs.Data.{Data, Members}
use Rattle.serde_json.specs.Events.{members_len}
use Rattle.serde_json.specs.Find.{get, as_object}
use Rattle.serde_json.specs.Read.{read}
use Rattle.check_lines.specs.Checks.{create_health_check, delete_health_check}
use Rattle.check_lines.specs.Checks.{get_health_check_status, observe, update_health_check}
use Rattle.check_lines.specs.declared.creating.NewCheck.{NewCheck}
use Rattle.check_lines.specs.declared.creating.NewCheck.TheVariants as new
use Rattle.check_lines.specs.declared.updating.CheckUpdate.{CheckUpdate}
use Rattle.check_model.specs.declared.checks.Check.{Check}
use Rattle.check_model.specs.declared.checks.Check.TheVariants.{Endpoint, Calculated}
use Rattle.check_model.specs.declared.checks.CheckCommand.{CheckCommand}
use Rattle.check_model.specs.declared.checks.CheckCommand.TheVariants.{Create, Update, Delete}
use Rattle.cidr_lines.specs.Collections.{change_collection, create_collection, delete_collection}
use Rattle.command_octets.specs.declared.commands.Command.{Command}
use Rattle.command_octets.specs.declared.commands.Command.TheVariants as command
use Rattle.line_faults.specs.Texts.{text_of}
use Rattle.line_faults.specs.declared.fault.LineFault.{LineFault}
use Rattle.line_faults.specs.declared.fault.LineReason.TheVariants.{UnknownLine}
use Rattle.line_faults.specs.declared.member.Member.{Member}
use Rattle.line_faults.specs.declared.member.Member.TheVariants as m
use Rattle.line_reading.specs.Reading.{◌>>=◌, bad, holds_or_bad}
use Rattle.query_lines.specs.Queries.{bind, compact, query, serve}
use Rattle.set_lines.specs.ChangeLines.{change_sets}
use Rattle.zone_lines.specs.Zones.{create_hosted_zone, delete_hosted_zone, list_sets}
use Rattle.zone_lines.specs.declared.zones.NewZone.{NewZone}
use Rattle.batch_json.specs.declared.asking.Line.{Line}
use Rattle.batch_json.specs.declared.asking.Line.TheVariants as line

-- The line is this JSON value, as `serde_json` reads it.
pub record IsJson (octets : List ℕ) (value : Data) : Type 0 where
  pub utf8 : IsUtf8 octets
  pub is_it : read octets ≡ Some value

-- ---- commands, from what lines tell of them

abbrev pub zone_of : NewZone → Command
zone_of zone = command.CreateZone zone.name zone.servers

abbrev pub new_check : NewCheck → Check
new_check (new.Endpoint threshold inverted disabled) = Endpoint threshold inverted disabled
new_check (new.Calculated threshold inverted disabled children) =
    Calculated threshold inverted disabled children

abbrev pub check_of : NewCheck → CheckCommand
check_of check = Create (new_check check)

abbrev pub update_of : CheckUpdate → CheckCommand
update_of update =
    Update update.id update.inverted update.disabled update.threshold update.children

abbrev pub control : Command → Result (Option Line) LineFault
control what = Ok (Some (line.Control what))

-- ---- lines by their names

-- the line of this name, else another
abbrev pub named_or : Member → Data → (Data → Result (Option Line) LineFault)
    → Result (Option Line) LineFault → Result (Option Line) LineFault
named_or name o reads other = if_there (get (text_of name) o) reads other
  where
    if_there : Option Data → (Data → Result (Option Line) LineFault)
        → Result (Option Line) LineFault → Result (Option Line) LineFault
    if_there None reads other = other
    if_there (Some d) reads other = reads d

-- zones and their sets
unfoldable pub zone_line : Data → Result (Option Line) LineFault
zone_line o =
    named_or m.CreateHostedZone o (λ d. create_hosted_zone d >>= λ zone. control (zone_of zone))
    (named_or m.DeleteHostedZone o
    (λ d. delete_hosted_zone d >>= λ id. control (command.DeleteZone id))
    (named_or m.ChangeResourceRecordSets o
    (λ d. change_sets d >>= λ batch. control (command.Change batch))
    (named_or m.ListResourceRecordSets o
    (λ d. list_sets d >>= λ list. Ok (Some (line.List list)))
    (Ok None))))

-- health checks
unfoldable pub check_line : Data → Result (Option Line) LineFault
check_line o =
    named_or m.CreateHealthCheck o
    (λ d. create_health_check d >>= λ check. control (command.Health (check_of check)))
    (named_or m.UpdateHealthCheck o
    (λ d. update_health_check d >>= λ update. control (command.Health (update_of update)))
    (named_or m.DeleteHealthCheck o
    (λ d. delete_health_check d >>= λ id. control (command.Health (Delete id)))
    (named_or m.GetHealthCheckStatus o
    (λ d. get_health_check_status d >>= λ id. Ok (Some (line.Status id)))
    (named_or m.Observe o (λ d. observe d >>= λ seen. Ok (Some (line.Observe seen)))
    (Ok None)))))

-- collections of address blocks
unfoldable pub collection_line : Data → Result (Option Line) LineFault
collection_line o =
    named_or m.CreateCidrCollection o
    (λ d. create_collection d >>= λ cidr. control (command.Cidr cidr))
    (named_or m.ChangeCidrCollection o
    (λ d. change_collection d >>= λ cidr. control (command.Cidr cidr))
    (named_or m.DeleteCidrCollection o
    (λ d. delete_collection d >>= λ cidr. control (command.Cidr cidr))
    (Ok None)))

-- what asks, serves and compacts
unfoldable pub serving_line : Data → Result (Option Line) LineFault
serving_line o =
    named_or m.Query o (λ d. query d >>= λ asked. Ok (Some (line.Query asked)))
    (named_or m.Bind o (λ d. bind d >>= λ ports. Ok (Some (line.Bind ports)))
    (named_or m.Serve o (λ d. serve d >>= λ turns. Ok (Some (line.Serve turns)))
    (named_or m.Compact o (λ d. compact d >>= λ pieces. Ok (Some (line.Compact pieces)))
    (Ok None))))

-- ---- a line

-- what was asked for, else what comes next
abbrev pub or_next : Result (Option Line) LineFault → Result Line LineFault → Result Line LineFault
or_next (Ok (Some asked)) next = Ok asked
or_next (Ok None) next = next
or_next (Err fault) next = Err fault

unfoldable pub line_named : Data → Result Line LineFault
line_named o =
    or_next (zone_line o) (or_next (check_line o) (or_next (collection_line o)
    (or_next (serving_line o) (bad UnknownLine m.Line))))

abbrev pub one_member : Option Members → Result ⊤ LineFault
one_member None = bad UnknownLine m.Line
one_member (Some members) = holds_or_bad (members_len members == 1) UnknownLine m.Line

-- an object of one member, whose name is that of a line
unfoldable pub line_of : Data → Result Line LineFault
line_of o = one_member (as_object o) >>= λ _. line_named o
