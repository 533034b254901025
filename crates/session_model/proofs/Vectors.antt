-- Replies of lines as docs/FORMATS.md tells them, and turns that are counted.
use Rattle.std.proofs.Common.{◌≡◌, ℕ, List, [], ◌∷◌, ◌++◌, true, false, None, Some, Option, Ok, Err, refl, inl, inr, subst, sym, ◌∙◌}
use Rattle.std.specs.Prelude.{codes}
use Rattle.std.specs.Fmt.{digits}
use Rattle.json.specs.Print.{escape_byte}
use Rattle.address_text.specs.declared.address.IpAddress.TheVariants.{V4}
use Rattle.check_lines.specs.declared.observing.Observation.{Observation}
use Rattle.check_model.specs.declared.checks.Check.{Check}
use Rattle.check_model.specs.declared.checks.Check.TheVariants.{Endpoint}
use Rattle.check_model.specs.declared.checks.CheckCommand.TheVariants as check
use Rattle.cidr_commands.specs.declared.command.CidrCommand.TheVariants as cidr
use Rattle.command_octets.specs.declared.commands.Command.TheVariants as command
use Rattle.config_model.specs.declared.refusals.Made.TheVariants as made
use Rattle.config_model.specs.declared.refusals.Refusal.TheVariants as refusal
use Rattle.engine_model.specs.Engine.{Engine, IsEndpoint}
use Rattle.engine_model.specs.declared.answers.Compacted.TheVariants as compacted
use Rattle.engine_model.specs.declared.answers.Reported.TheVariants as reported
use Rattle.geo_latency.specs.declared.tables.Tables.{Tables}
use Rattle.r53_io.specs.Network.{Incoming, Quiet, Report}
use Rattle.r53_io.specs.declared.network.Peer.{Peer}
use Rattle.rand_core.specs.Stream.{Stream}
use Rattle.report_lines.specs.Reports.{report_of}
use Rattle.reply_model.specs.Json.{line_of}
use Rattle.reply_model.specs.Outcomes.{reply_of, text_of}
use Rattle.session_model.specs.Replies.{command_outcome, compact_outcome, list_text_of, memory_text}
use Rattle.session_model.specs.Replies.{query_text, report_outcome, status_outcome, too_long_text}
use Rattle.session_model.specs.Serving.{TurnsOutcome, TakesTurns, after_packet, none}
use Rattle.reply_model.specs.Lists.{query_reply}
use Rattle.reply_model.specs.Errors.{refusal_error}
use Rattle.hex.specs.Hex.{encode_with}

abbrev example : List (List ℕ)
example = codes "example" ∷ codes "com" ∷ []

abbrev endpoint : Check
endpoint = Endpoint 3 false false

pub zone_made : text_of (command_outcome (command.CreateZone example []) (Ok (made.Zone 1)))
    ≡ (codes "{\"HostedZone\":{\"Id\":\"Z1\",\"Name\":\"example.com.\"},\""
    ++ codes "Ok\":\"CreateHostedZone\"}\n")
unfolding line_of reply_of escape_byte digits
zone_made = refl

pub zone_gone : text_of (command_outcome (command.DeleteZone 1) (Ok made.Nothing))
    ≡ codes "{\"Ok\":\"DeleteHostedZone\"}\n"
unfolding line_of reply_of escape_byte digits
zone_gone = refl

pub sets_changed : text_of (command_outcome (command.Change (record { zone = 1; changes = [] })) (Ok made.Nothing))
    ≡ codes "{\"Ok\":\"ChangeResourceRecordSets\"}\n"
unfolding line_of reply_of escape_byte digits
sets_changed = refl

pub check_made : text_of (command_outcome (command.Health (check.Create endpoint)) (Ok (made.Check 1)))
    ≡ (codes "{\"HealthCheck\":{\"Id\":\"h1\"},\"Ok\":\"CreateHealthCheck"
    ++ codes "\"}\n")
unfolding line_of reply_of escape_byte digits
check_made = refl

pub check_updated : text_of (command_outcome (command.Health (check.Update 1 None None None None)) (Ok made.Nothing))
    ≡ codes "{\"Ok\":\"UpdateHealthCheck\"}\n"
unfolding line_of reply_of escape_byte digits
check_updated = refl

pub check_gone : text_of (command_outcome (command.Health (check.Delete 1)) (Ok made.Nothing))
    ≡ codes "{\"Ok\":\"DeleteHealthCheck\"}\n"
unfolding line_of reply_of escape_byte digits
check_gone = refl

pub collection_made : text_of (command_outcome (command.Cidr (cidr.Create (codes "a"))) (Ok (made.Collection 1)))
    ≡ (codes "{\"Collection\":{\"Id\":\"c1\"},\"Ok\":\"CreateCidrCollectio"
    ++ codes "n\"}\n")
unfolding line_of reply_of escape_byte digits
collection_made = refl

pub collection_changed : text_of (command_outcome (command.Cidr (cidr.Change 1 [])) (Ok made.Nothing))
    ≡ codes "{\"Ok\":\"ChangeCidrCollection\"}\n"
unfolding line_of reply_of escape_byte digits
collection_changed = refl

pub collection_gone : text_of (command_outcome (command.Cidr (cidr.Delete 1)) (Ok made.Nothing))
    ≡ codes "{\"Ok\":\"DeleteCidrCollection\"}\n"
unfolding line_of reply_of escape_byte digits
collection_gone = refl

pub check_in_use : text_of (command_outcome (command.Health (check.Delete 1)) (Err (refusal.HealthCheckInUse 1)))
    ≡ (codes "{\"Error\":\"HealthCheckInUse\",\"HealthCheckId\":\"h1\",\"N"
    ++ codes "umber\":23}\n")
unfolding line_of reply_of escape_byte digits
check_in_use = refl

pub report_taken : text_of (report_outcome 1 reported.Taken)
    ≡ codes "{\"Ok\":\"Observe\"}\n"
unfolding line_of reply_of escape_byte digits
report_taken = refl

pub report_of_no_check : text_of (report_outcome 9 reported.NoSuchHealthCheck)
    ≡ (codes "{\"Error\":\"NoSuchHealthCheck\",\"HealthCheckId\":\"h9\",\""
    ++ codes "Number\":14}\n")
unfolding line_of reply_of escape_byte digits
report_of_no_check = refl

pub report_of_no_checker : text_of (report_outcome 1 reported.BadChecker)
    ≡ codes "{\"Error\":\"BadChecker\",\"Number\":33}\n"
unfolding line_of reply_of escape_byte digits
report_of_no_checker = refl

pub status : text_of (status_outcome 1 (Some (true, 10)))
    ≡ (codes "{\"Healthy\":true,\"Ok\":\"GetHealthCheckStatus\",\"Passing"
    ++ codes "\":10}\n")
unfolding line_of reply_of escape_byte digits
status = refl

pub no_status : text_of (status_outcome 9 None)
    ≡ (codes "{\"Error\":\"NoSuchHealthCheck\",\"HealthCheckId\":\"h9\",\""
    ++ codes "Number\":14}\n")
unfolding line_of reply_of escape_byte digits
no_status = refl

pub octets_left : text_of (compact_outcome (compacted.Left 34))
    ≡ codes "{\"Left\":34,\"Ok\":\"Compact\"}\n"
unfolding line_of reply_of escape_byte digits
octets_left = refl

pub compacted_file : text_of (compact_outcome (compacted.Done 2))
    ≡ codes "{\"Generation\":2,\"Ok\":\"Compact\"}\n"
unfolding line_of reply_of escape_byte digits
compacted_file = refl

pub no_generation : text_of (compact_outcome compacted.GenerationsEnded)
    ≡ codes "{\"Error\":\"GenerationsEnded\",\"Number\":36}\n"
unfolding line_of reply_of escape_byte digits
no_generation = refl

pub too_long : too_long_text
    ≡ codes "{\"Error\":\"LineTooLong\",\"Number\":32}\n"
unfolding line_of reply_of escape_byte digits
too_long = refl

pub no_memory : memory_text
    ≡ codes "{\"Error\":\"OutOfMemory\",\"Number\":20}\n"
unfolding line_of reply_of escape_byte digits
no_memory = refl

pub silence : query_text None ≡ codes "{\"Ok\":\"Query\",\"Reply\":null}\n"
unfolding line_of query_reply escape_byte digits
silence = refl

pub answer : query_text (Some (0x12 ∷ 0x34 ∷ 0xA9 ∷ 0x04 ∷ []))
    ≡ codes "{\"Ok\":\"Query\",\"Reply\":\"1234a904\"}\n"
unfolding line_of query_reply escape_byte digits encode_with
answer = refl

-- ---- turns

module _ (engine : Engine) (words : Stream) where
  abbrev start : TurnsOutcome
  start = record { engine = engine; words = words; turns = none; sent = [] }

  abbrev peer : Peer
  peer = record { address = V4 (192 ∷ 0 ∷ 2 ∷ 1 ∷ []); port = 53 }

  pub answered_turn : (after_packet peer (Some (7 ∷ [])) start).turns
      ≡ record { turns = 1; answered = 1; silent = 0; reports = 0; unknown = 0; quiet = 0 }
  answered_turn = refl

  pub answered_so : (after_packet peer (Some (7 ∷ [])) start).sent ≡ (peer, 7 ∷ []) ∷ []
  answered_so = refl

  pub silent_turn : (after_packet peer None start).turns
      ≡ record { turns = 1; answered = 0; silent = 1; reports = 0; unknown = 0; quiet = 0 }
  silent_turn = refl

  -- a report on h1, one on h9, which isn't there, and a while without an arrival; then it is closed
  pub record ThreeTurns (tables : Tables) : Type 0 where
    pub served : TurnsOutcome
    pub taken : TakesTurns tables 10
        (Report (codes "OBS h1 0 0") ∷ Report (codes "OBS h9 0 0") ∷ Quiet ∷ []) start [] served
    pub turns : served.turns
        ≡ record { turns = 3; answered = 0; silent = 0; reports = 1; unknown = 1; quiet = 1 }
    pub sent : served.sent ≡ []
    pub drawn : served.words ≡ words

  first_is : report_of (codes "OBS h1 0 0") ≡ Some (record { id = 1; checker = 0; pass = false })
  unfolding report_of
  first_is = refl

  second_is : report_of (codes "OBS h9 0 0") ≡ Some (record { id = 9; checker = 0; pass = false })
  unfolding report_of
  second_is = refl

  pub three_turns : (tables : Tables) → IsEndpoint engine.config 1
      → (IsEndpoint engine.config 9 → ⊥) → ThreeTurns tables
  three_turns tables there not_there = record {
    served = record start {
      engine = record engine {
        reports = record { check = 1; checker = 0; pass = false } ∷ engine.reports;
      };
      turns = record { turns = 3; answered = 0; silent = 0; reports = 1; unknown = 1; quiet = 1 };
    };
    taken = (
      _,
      inl (record { id = 1; checker = 0; pass = false }, (first_is, there), refl),
      (
        _,
        inr (
          λ seen known. not_there (subst (λ (s : Observation). IsEndpoint engine.config s.id)
              (some_same (sym known.0 ∙ second_is)) known.1),
          refl,
        ),
        (_, refl, (refl, refl)),
      ),
    );
    turns = refl;
    sent = refl;
    drawn = refl;
  }
    where
      some_same : {x y : Observation} → ◌≡◌ {A = Option Observation} (Some x) (Some y) → x ≡ y
      some_same e = cc
