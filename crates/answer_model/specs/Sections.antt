-- The sections of the answer to a question (RFC 1034, 4.3.2 and 4.3.3; RFC 2308, 4592, 6604).
use Rattle.std.specs.Prelude.{ℕ, zero, suc, List, [], ◌∷◌, ◌&&◌, ◌==◌, map, Bool, true, false}
use Rattle.std.specs.Prelude.{Option, None, Some, slice_get, if◌then◌else◌}
use Rattle.std.specs.List.{filter, flat_map}
use Rattle.dns_name.specs.Order.{same_labels}
use Rattle.dns_name.specs.Stored.{labels_of}
use Rattle.dns_wire.specs.Message.{Record}
use Rattle.zone_model.specs.Types.{number_of}
use Rattle.zone_model.specs.RTypeRecord.TheVariants as rtype
use Rattle.zone_model.specs.RecordSetRecord.{RecordSet}
use Rattle.zone_model.specs.Zones.{group}
use Rattle.answer_model.specs.declared.used.Used.{Used}
use Rattle.answer_model.specs.Descent.{Choices, Means, Descended, descend, no_choices}
use Rattle.answer_model.specs.Names.{is_below, source}
use Rattle.answer_model.specs.Records.{answer_records, data_of, glue_of, set_records, soa_records}
use Rattle.zone_model.specs.Hosted.{HostedZone}
use Rattle.answer_model.specs.Zones.{or_else, zone_for}

-- The records of the three sections, AA, RCODE, and what the choices used.
pub record Sections : Type 0 where
  pub answers : List Record
  pub authorities : List Record
  pub additionals : List Record
  pub aa : Bool
  pub rcode : ℕ
  pub used : Used

-- How names are looked up: by all zones, in this one, with these means, for this QTYPE.
pub record Lookup : Type 0 where
  pub zones : List HostedZone
  pub zone : HostedZone
  pub means : Means
  pub qtype : ℕ

-- ---- what ends an answer

-- nothing more: RCODE 0
abbrev pub ends : Used → Sections
ends used = record {
  answers = [];
  authorities = [];
  additionals = [];
  aa = true;
  rcode = 0;
  used = used;
}

-- No data: the name exists, without a record that answers (RFC 2308, 2.2).
abbrev pub no_data : HostedZone → Used → Sections
no_data zone used = record (ends used) { authorities = soa_records zone }

-- NXDOMAIN (3): the name doesn't exist (RFC 2308, 2.1).
abbrev pub nxdomain : HostedZone → Used → Sections
nxdomain zone used = record (no_data zone used) { rcode = 3 }

-- A referral: the name servers of the cut, and the addresses that the zone has of them. The answer
-- isn't authoritative (RFC 1034, 4.3.2, step 3b).
abbrev pub referral : List RecordSet → (cut : RecordSet) → Used → Sections
referral sets cut used = record (ends used) {
  authorities = set_records cut;
  additionals = flat_map (glue_of sets) (map labels_of (data_of cut.body));
  aa = false;
}

-- ---- one name

-- the NS set at a name, below the apex
abbrev pub cut_at : HostedZone → (name : List (List ℕ)) → Option RecordSet
cut_at zone name =
    if is_below name zone.apex then slice_get (group zone.sets name rtype.Ns) 0 else None

-- The zone cut above or at a name: of the NS sets at it and between it and the apex, the apex left
-- out, the one nearest the apex (RFC 1034, 4.2 and 4.3.2, step 3b).
abbrev pub cut_above : HostedZone → (name : List (List ℕ)) → Option RecordSet
cut_above zone [] = cut_at zone []
cut_above zone (label ∷ name) = or_else (cut_above zone name) (cut_at zone (label ∷ name))

-- the sets of a name whose type is QTYPE
abbrev pub asked_group : List RecordSet → (name : List (List ℕ)) → (qtype : ℕ) → List RecordSet
asked_group sets name qtype =
    filter (λ (set : RecordSet). same_labels name set.name && qtype == number_of set.rtype) sets

-- What a name comes to: the end of the answer, or a CNAME record whose target is looked up next.
pub data NameOutcome : Type 0 where
  Ends : Sections → NameOutcome
  Follows : (cname : Record) → Choices → NameOutcome

-- The chosen records of the asked type answer. Where nothing is chosen it is no data.
abbrev pub asked_step : Lookup → (name : List (List ℕ)) → (chosen : List RecordSet) → Used → NameOutcome
asked_step lookup name [] used = Ends (no_data lookup.zone used)
asked_step lookup name (set ∷ sets) used =
    Ends (record (ends used) { answers = answer_records name (set ∷ sets) })

-- A CNAME record, where there is one, is followed (RFC 1034, 4.3.2, step 3a). Else it is no data (RFC 2308, 2.2).
abbrev pub cname_step : Lookup → List Record → Choices → NameOutcome
cname_step lookup [] choices = Ends (no_data lookup.zone choices.used)
cname_step lookup (cname ∷ others) choices = Follows cname choices

abbrev pub asked : Lookup → (name : List (List ℕ)) → Descended → NameOutcome
asked lookup name chosen = asked_step lookup name chosen.sets chosen.choices.used

abbrev pub canonical : Lookup → (name : List (List ℕ)) → Descended → NameOutcome
canonical lookup name chosen = cname_step lookup (answer_records name chosen.sets) chosen.choices

-- Of the sets of the source: those of QTYPE; where there are none of these, the CNAME sets. Records
-- have the name that was asked for (RFC 1034, 4.3.2, steps 3a and 3c; RFC 4592, 3.3.1).
abbrev pub step_of : Lookup → (name : List (List ℕ)) → (typed cnames : List RecordSet) → Choices
    → NameOutcome
step_of lookup name [] cnames choices =
    canonical lookup name (descend lookup.means lookup.zone.sets cnames choices)
step_of lookup name (first ∷ others) cnames choices =
    asked lookup name (descend lookup.means lookup.zone.sets (first ∷ others) choices)

abbrev pub step_from : Lookup → (name : List (List ℕ)) → (from : Option (List (List ℕ)))
    → Choices → NameOutcome
step_from lookup name None choices = Ends (nxdomain lookup.zone choices.used)
step_from lookup name (Some from) choices =
    step_of lookup name (asked_group lookup.zone.sets from lookup.qtype)
    (group lookup.zone.sets from rtype.Cname) choices

abbrev pub step_below : Lookup → (name : List (List ℕ)) → (cut : Option RecordSet) → Choices → NameOutcome
step_below lookup name (Some cut) choices = Ends (referral lookup.zone.sets cut choices.used)
step_below lookup name None choices =
    step_from lookup name (source lookup.zone.sets name) choices

abbrev pub step : Lookup → (name : List (List ℕ)) → Choices → NameOutcome
step lookup name choices = step_below lookup name (cut_above lookup.zone name) choices

-- ---- from CNAME to CNAME

-- with a CNAME record before the rest: the first name gave no referral (RFC 6604, 2.1 and 3)
abbrev pub with_cname : Record → Sections → Sections
with_cname cname rest = record rest { answers = cname ∷ rest.answers; aa = true }

-- the zone of the longest name is this one
abbrev pub is_zone : HostedZone → Option HostedZone → Bool
is_zone zone None = false
is_zone zone (Some other) = zone.id == other.id

-- A target is looked up where it is in this zone. Else the answer ends with the CNAME record, and
-- RCODE 0.
abbrev pub target_sections : Lookup → (rest : List (List ℕ) → Choices → Sections)
    → (target : List (List ℕ)) → Choices → Sections
target_sections lookup rest target choices =
    if is_zone lookup.zone (zone_for lookup.zones target) then rest target choices
    else ends choices.used

-- The CNAME record stands before what its target gives (RFC 1034, 4.3.2, step 3a: back to step 1 with the canonical name).
abbrev pub followed : Lookup → (rest : List (List ℕ) → Choices → Sections) → NameOutcome → Sections
followed lookup rest (Ends sections) = sections
followed lookup rest (Follows cname choices) =
    with_cname cname (target_sections lookup rest (labels_of cname.rdata) choices)

-- A CNAME record more isn't added.
abbrev pub ended : NameOutcome → Sections
ended (Ends sections) = sections
ended (Follows cname choices) = ends choices.used

-- The sections for a name, with so many CNAME records at most.
abbrev pub look_up : (most : ℕ) → Lookup → (name : List (List ℕ)) → Choices → Sections
look_up zero lookup name choices = ended (step lookup name choices)
look_up (suc most) lookup name choices =
    followed lookup (look_up most lookup) (step lookup name choices)

-- The same with eight at most (own). RCODE is that of the last name (RFC 6604, 3).
unfoldable pub sections : Lookup → (name : List (List ℕ)) → Sections
sections lookup name = look_up 8 lookup name no_choices
