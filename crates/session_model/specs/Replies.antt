-- What each step of a session is told as (FORMATS, Replies).
use Rattle.std.specs.Prelude.{ℕ, List, [], Bool, Option, None, Some, Result, Ok, Err}
use Rattle.batch_json.specs.declared.asking.Line.{Line}
use Rattle.check_model.specs.declared.checks.CheckCommand.{CheckCommand}
use Rattle.check_model.specs.declared.checks.CheckCommand.TheVariants as check
use Rattle.cidr_commands.specs.declared.command.CidrCommand.{CidrCommand}
use Rattle.cidr_commands.specs.declared.command.CidrCommand.TheVariants as cidr
use Rattle.command_octets.specs.declared.commands.Command.{Command}
use Rattle.command_octets.specs.declared.commands.Command.TheVariants as command
use Rattle.config_model.specs.Configs.{Config, zone_with}
use Rattle.config_model.specs.declared.refusals.Made.{Made}
use Rattle.config_model.specs.declared.refusals.Made.TheVariants as made
use Rattle.config_model.specs.declared.refusals.Refusal.{Refusal}
use Rattle.config_model.specs.declared.refusals.Refusal.TheVariants as refusal
use Rattle.engine_model.specs.declared.answers.Compacted.{Compacted}
use Rattle.engine_model.specs.declared.answers.Compacted.TheVariants as compacted
use Rattle.engine_model.specs.declared.answers.Reported.{Reported}
use Rattle.engine_model.specs.declared.answers.Reported.TheVariants as reported
use Rattle.line_faults.specs.declared.member.Member.{Member}
use Rattle.line_faults.specs.declared.member.Member.TheVariants as m
use Rattle.reply_model.specs.Json.{line_of}
use Rattle.reply_model.specs.Lists.{query_reply}
use Rattle.reply_model.specs.Outcomes.{text_of}
use Rattle.reply_model.specs.Paging.{page_reply}
use Rattle.reply_model.specs.declared.outcomes.Outcome.{Outcome}
use Rattle.reply_model.specs.declared.outcomes.Outcome.TheVariants as outcome
use Rattle.zone_lines.specs.declared.lists.ListOfSets.{ListOfSets}
use Rattle.zone_model.specs.Hosted.{HostedZone}

-- ---- commands

abbrev pub check_line : CheckCommand → Member
check_line (check.Create what) = m.CreateHealthCheck
check_line (check.Update id inverted disabled threshold children) = m.UpdateHealthCheck
check_line (check.Delete id) = m.DeleteHealthCheck

abbrev pub cidr_line : CidrCommand → Member
cidr_line (cidr.Create name) = m.CreateCidrCollection
cidr_line (cidr.Change id changes) = m.ChangeCidrCollection
cidr_line (cidr.Delete id) = m.DeleteCidrCollection

-- the line by which a command is given
abbrev pub command_line : Command → Member
command_line (command.CreateZone name servers) = m.CreateHostedZone
command_line (command.DeleteZone id) = m.DeleteHostedZone
command_line (command.Change batch) = m.ChangeResourceRecordSets
command_line (command.Health given) = check_line given
command_line (command.Cidr given) = cidr_line given

-- the name of the zone that a command makes, and none for others
abbrev pub zone_name : Command → List (List ℕ)
zone_name (command.CreateZone name servers) = name
zone_name (command.DeleteZone id) = []
zone_name (command.Change batch) = []
zone_name (command.Health given) = []
zone_name (command.Cidr given) = []

abbrev pub made_outcome : Command → Made → Outcome
made_outcome given made.Nothing = outcome.Done (command_line given)
made_outcome given (made.Zone id) = outcome.ZoneMade id (zone_name given)
made_outcome given (made.Check id) = outcome.CheckMade id
made_outcome given (made.Collection id) = outcome.CollectionMade id

abbrev pub command_outcome : Command → Result Made Refusal → Outcome
command_outcome given (Ok what) = made_outcome given what
command_outcome given (Err why) = outcome.Refused why

-- ---- reports, statuses, compactions

abbrev pub report_outcome : (id : ℕ) → Reported → Outcome
report_outcome id reported.Taken = outcome.Done m.Observe
report_outcome id reported.NoSuchHealthCheck = outcome.Refused (refusal.NoSuchHealthCheck id)
report_outcome id reported.BadChecker = outcome.BadChecker

abbrev pub status_outcome : (id : ℕ) → Option (Bool × ℕ) → Outcome
status_outcome id None = outcome.Refused (refusal.NoSuchHealthCheck id)
status_outcome id (Some (healthy, passing)) = outcome.Status healthy passing

-- Want of memory and a fault of a disk are no steps: the first is told as any want of memory is, and
-- of the second nothing is told. Its line below stands for none.
abbrev pub compact_outcome : Compacted → Outcome
compact_outcome (compacted.Left octets) = outcome.Left octets
compact_outcome (compacted.Done generation) = outcome.Compacted generation
compact_outcome compacted.GenerationsEnded = outcome.GenerationsEnded
compact_outcome compacted.OutOfMemory = outcome.Refused refusal.OutOfMemory
compact_outcome compacted.DiskFault = outcome.Refused refusal.DiskFault

-- ---- lists of sets

abbrev pub list_text_of : ListOfSets → Option HostedZone → List ℕ
list_text_of asked None = text_of (outcome.Refused refusal.NoSuchHostedZone)
list_text_of asked (Some zone) = line_of (page_reply asked.zone
    (record { name = asked.name; rtype = asked.rtype; ident = asked.ident }) asked.items zone.sets)

-- the sets of a zone from a start on, or that there is no such zone
abbrev pub list_text : Config → ListOfSets → List ℕ
list_text config asked = list_text_of asked (zone_with config.zones asked.zone)

-- ---- replies to packets

abbrev pub query_text : (answer : Option (List ℕ)) → List ℕ
query_text answer = line_of (query_reply answer)

-- ---- lines that aren't asked

abbrev pub too_long_text : List ℕ
too_long_text = text_of outcome.LineTooLong

abbrev pub memory_text : List ℕ
memory_text = text_of (outcome.Refused refusal.OutOfMemory)
