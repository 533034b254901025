-- What a name comes to, case by case.
use Rattle.std.proofs.Common.{◌≡◌, ◌<◌, ℕ, Bool, true, false, List, [], ◌∷◌, Option, Some}
use Rattle.std.proofs.Common.{length}
use Rattle.std.proofs.Common.{refl, sym, ap, ◌∙◌, subst, inl, inr, arith}
use Rattle.std.specs.Prelude.{IfSome, cond, slice_get, ◌==◌, ◌&&◌}
use Rattle.dns_name.specs.Order.{same_labels}
use Rattle.dns_name.specs.OrderLaws.{same_labels-Decides}
use Rattle.dns_wire.specs.Message.{Record}
use Rattle.dns_name.specs.Wildcard.{wildcard}
use Rattle.rdata_layout.specs.Types.{number_of}
use Rattle.rdata_layout.specs.declared.types.RType.TheVariants as rtype
use Rattle.record_set.specs.declared.sets.RecordSet.{RecordSet}
use Rattle.record_set.specs.declared.sets.SetKey.{SetKey}
use Rattle.zone_lookup.specs.ZonesOfZoneList.{Zone}
use Rattle.zone_lookup.specs.SetRefRecord.{SetRef}
use Rattle.zone_model.specs.Hosted.{HostedZone}
use Rattle.zone_model.specs.Existing.{Exists}
use Rattle.zone_model.specs.Zones.{IsAmong}
use Rattle.zone_lookup.specs.GroupRecord.{Group}
use Rattle.zone_lookup.specs.UsedRecord.{Used}
use Rattle.zone_lookup.specs.Clients.{Client}
use Rattle.zone_lookup.specs.Descent.{Choices, Descended, descend}
use Rattle.zone_lookup.specs.Laws.{CutOrNone as NearestOrNone, CutsAreNearest, NamesExist}
use Rattle.zone_lookup.specs.Names.{closest, if_exists, source}
use Rattle.zone_lookup.specs.Records.{answer_records, data_of}
use Rattle.zone_lookup.specs.Sections.{Lookup, asked, asked_group, asked_step}
use Rattle.zone_lookup.specs.Sections.{canonical, cname_step, cut_above, ends, no_data, step_of}
use Rattle.zone_lookup.specs.Sections.NameOutcome.{Ends, Follows}
use Rattle.reply_records.specs.Groups.{Agrees, sets_in, sets_in_zone}
use Rattle.reply_records.specs.Selecting.{Gives, GivesDescent, means_of, selected_sets}
use Rattle.reply_records.proofs.Targets.{as_many}
use Rattle.rdata_layout.specs.Layout.{IsLayout}
use Rattle.rdata_layout.specs.declared.types.RType.{RType}
use Rattle.zone_lookup.specs.Bodies.{wires_of}
use Rattle.zone_model.proofs.Lists.{some_one}
use Rattle.zone_lookup.specs.Looking.{IsGroupNow}
use Rattle.reply_records.proofs.Shown.{its_data, of_held}
use Rattle.query_engine.proofs.Typed.{answer_type}
use Rattle.reply_records.specs.SelectedRecord.{Selected}

-- a descent by the number of the zone
pub zone_gives : (zones : List Zone) (view : SetRef → Bool) (client : Client) (words : List ℕ)
    (g : Group) (zone : ℕ) (before : Choices) (picked : Selected) (made : ℕ) (used : Used)
    → GivesDescent zones view client words g descend before picked made used → g.zone ≡ zone
    → (healthy : ℕ → SetKey → Bool) → Agrees zones view healthy
    → Gives zones (descend (means_of (healthy zone) client words) (sets_in_zone zones zone)
    (sets_in zones g) before) picked made used
zone_gives zones view client words g zone before picked made used gives same healthy agrees =
    subst (λ (z : ℕ). Gives zones (descend (means_of (healthy z) client words)
    (sets_in_zone zones z) (sets_in zones g) before) picked made used) same (gives healthy agrees)

module _ (lookup : Lookup) (name : List (List ℕ)) (d : Descended) (used : Used)
    (uses : used ≡ d.choices.used) where
  pub asked_nothing : [] ≡ d.sets → asked lookup name d ≡ Ends (no_data lookup.zone used)
  asked_nothing none =
      ap (λ (sets : List RecordSet). asked_step lookup name sets d.choices.used) (sym none)
      ∙ ap (λ (u : Used). Ends (no_data lookup.zone u)) (sym uses)

  pub asked_some : (sets : List RecordSet) (set : RecordSet) → slice_get sets 0 ≡ Some set
      → sets ≡ d.sets
      → asked lookup name d ≡ Ends (record (ends used) { answers = answer_records name sets })
  asked_some sets set first are =
      ap (λ (xs : List RecordSet). asked_step lookup name xs d.choices.used) (sym are)
      ∙ (filled sets first
      ∙ ap (λ (u : Used). Ends (record (ends u) { answers = answer_records name sets })) (sym uses))
    where
      filled : (xs : List RecordSet) → slice_get xs 0 ≡ Some set
          → asked_step lookup name xs d.choices.used
          ≡ Ends (record (ends d.choices.used) { answers = answer_records name xs })
      filled [] e = absurd (grind (arith, e))
      filled (x ∷ xs) e = refl

  pub no_cname : (sets : List RecordSet) → sets ≡ d.sets → answer_records name sets ≡ []
      → canonical lookup name d ≡ Ends (no_data lookup.zone used)
  no_cname sets are none =
      ap (λ (xs : List RecordSet). cname_step lookup (answer_records name xs) d.choices) (sym are)
      ∙ (ap (λ (rs : List Record). cname_step lookup rs d.choices) none
      ∙ ap (λ (u : Used). Ends (no_data lookup.zone u)) (sym uses))

-- the record that is followed
pub a_cname : (lookup : Lookup) (name : List (List ℕ)) (d : Descended) (sets : List RecordSet)
    (r : Record) (others : List Record) (made : Choices) → sets ≡ d.sets
    → answer_records name sets ≡ r ∷ others → made ≡ d.choices
    → canonical lookup name d ≡ Follows r made
a_cname lookup name d sets r others made are is made_are =
    ap (λ (xs : List RecordSet). cname_step lookup (answer_records name xs) d.choices) (sym are)
    ∙ (ap (λ (rs : List Record). cname_step lookup rs d.choices) is
    ∙ ap (λ (k : Choices). Follows r k) (sym made_are))

-- a name with a set of the asked type exists
picked_name : (sets : List RecordSet) (name : List (List ℕ)) (qtype : ℕ)
    → 0 < length (asked_group sets name qtype)
    → (set : RecordSet) × IsAmong sets set × (set.name ≡ name)
picked_name [] name qtype some = absurd (omega (arith, some))
picked_name (set ∷ sets) name qtype some =
    by (same_labels name set.name) refl (picked_name sets name qtype) some
  where
    by : (b : Bool) → same_labels name set.name ≡ b
        → (0 < length (asked_group sets name qtype)
        → (s : RecordSet) × IsAmong sets s × (s.name ≡ name))
        → 0 < length (cond (b && (qtype == number_of set.rtype))
        (set ∷ asked_group sets name qtype) (asked_group sets name qtype))
        → (other : RecordSet) × IsAmong (set ∷ sets) other × (other.name ≡ name)
    by true e rest filled =
        (set, inl refl, sym ((same_labels-Decides name set.name).0 e))
    by false e rest filled = (let found = rest filled in (found.0, inr found.1, found.2))

-- a name that exists is its own source
pub known_source : NamesExist → (sets : List RecordSet) (name : List (List ℕ)) → Exists sets name
    → source sets name ≡ Some name
known_source names sets name there =
    ap (λ b. cond b (Some name) (if_exists sets (wildcard ∷ closest sets name)))
    ((names sets name).1 there)

pub asked_exists : NamesExist → (sets : List RecordSet) (name : List (List ℕ)) (qtype : ℕ)
    → 0 < length (asked_group sets name qtype) → source sets name ≡ Some name
asked_exists names sets name qtype some =
    let found = picked_name sets name qtype some in
    known_source names sets name (found.0, found.1, ([], found.2))

-- the cut is an NS set
pub cut_servers : CutsAreNearest → (zone : HostedZone) (name : List (List ℕ)) (set : RecordSet)
    → cut_above zone name ≡ Some set → set.rtype ≡ rtype.Ns
cut_servers nearest zone name set e =
    (subst (NearestOrNone zone name) e (nearest zone name)).0.servers

-- the first set of a group that has one
pub first_set : (zones : List Zone) (g : Group) → IsGroupNow zones g → 0 < g.length
    → (set : RecordSet) × (slice_get (sets_in zones g) 0 ≡ Some set)
first_set zones g now some =
    (let many = as_many zones g now in at_front (sets_in zones g) (omega (arith, many, some)))
  where
    at_front : (sets : List RecordSet) → 0 < length sets
        → (set : RecordSet) × (slice_get sets 0 ≡ Some set)
    at_front [] filled = absurd (omega (arith, filled))
    at_front (set ∷ sets) filled = (set, refl)

-- the first value of the set that is held
pub first_value : (held : Option RecordSet) (set : RecordSet) (value rdata : List ℕ)
    → held ≡ Some set → IfSome held (λ s. slice_get (wires_of s.body) 0 ≡ Some value)
    → slice_get (data_of set.body) 0 ≡ Some rdata → value ≡ rdata
first_value held set value rdata is_held told first =
    some_one value rdata
    (sym (of_held (λ (s : RecordSet). slice_get (wires_of s.body) 0 ≡ Some value) held set is_held
    told)
    ∙ (ap (λ (ds : List (List ℕ)). slice_get ds 0) (its_data set.body) ∙ first))

-- the data of a CNAME record are laid out as those of an NS record
pub as_ns : (rdata : List ℕ) → IsLayout rtype.Cname rdata → IsLayout rtype.Ns rdata
as_ns rdata layout = record { short = layout.short; fields = layout.fields }

pub first_typed : (owner : List (List ℕ)) (t : RType) (ttl : ℕ) (rdata : List ℕ)
    (others : List Record) → t ≡ rtype.Cname
    → record { owner = owner; rtype = t; ttl = ttl; rdata = rdata } ∷ others
    ≡ record { owner = owner; rtype = rtype.Cname; ttl = ttl; rdata = rdata } ∷ others
first_typed owner t ttl rdata others e =
    ap (λ (x : RType). record { owner = owner; rtype = x; ttl = ttl; rdata = rdata } ∷ others) e

-- chosen sets are of the type of the group
pub chosen_type : ((rtype other : RType) → number_of rtype ≡ number_of other → rtype ≡ other)
    → (zones : List Zone) (view : SetRef → Bool) (client : Client) (words : List ℕ) (g : Group)
    (before : Choices) (picked : Selected) (made : ℕ) (used : Used)
    → GivesDescent zones view client words g descend before picked made used
    → (healthy : ℕ → SetKey → Bool) → Agrees zones view healthy → (t : RType)
    → ((set : RecordSet) → IsAmong (sets_in zones g) set → set.rtype ≡ t)
    → (set : RecordSet) → IsAmong (selected_sets zones picked) set → set.rtype ≡ t
chosen_type own zones view client words g before picked made used gives healthy agrees t all set
    there =
    answer_type own (means_of (healthy g.zone) client words) (sets_in_zone zones g.zone)
    (sets_in zones g) before t all set
    (subst (λ (sets : List RecordSet). IsAmong sets set) (gives healthy agrees).sets there)

-- where there are sets of the asked type
pub typed_step : (lookup : Lookup) (name : List (List ℕ)) (sets cnames : List RecordSet)
    (choices : Choices) → 0 < length sets
    → asked lookup name (descend lookup.means lookup.zone.sets sets choices)
    ≡ step_of lookup name sets cnames choices
typed_step lookup name [] cnames choices some = absurd (omega (arith, some))
typed_step lookup name (set ∷ sets) cnames choices some = refl
