-- How many choices there are, and which RCODE.
use Rattle.std.proofs.Common.{◌≡◌, ◌≤◌, ◌+◌, ◌⊎◌, ℕ, zero, suc, Bool, true, false, Some, None}
use Rattle.std.proofs.Common.{Option, List, [], ◌∷◌, refl, inl, inr, arith}
use Rattle.std.specs.Prelude.{⊤, cond}
use Rattle.dns_name.specs.Stored.{labels_of}
use Rattle.dns_wire.specs.Message.{Record}
use Rattle.zone_model.specs.RTypeRecord.TheVariants as rtype
use Rattle.zone_model.specs.BodyRecord.{Body}
use Rattle.zone_model.specs.BodyRecord.TheVariants as body
use Rattle.zone_model.specs.RecordSetRecord.{RecordSet}
use Rattle.zone_model.specs.Zones.{group, target_group}
use Rattle.answer_model.specs.Descent.{Choices, Descended, Means, no_choices, by_body, by_choice}
use Rattle.answer_model.specs.Descent.{descend, descends, selected, with_choice, word_of}
use Rattle.answer_model.specs.Laws.{FewChoices, RcodesOfSections}
use Rattle.answer_model.specs.Names.{source}
use Rattle.answer_model.specs.Records.{answer_records}
use Rattle.answer_model.specs.Sections.{Ends, Follows, Lookup, Sections, NameOutcome, asked_group}
use Rattle.answer_model.specs.Sections.{asked_step, cname_step, cut_above, ended, ends, followed}
use Rattle.answer_model.specs.Sections.{is_zone, look_up, sections, step, step_below, step_from}
use Rattle.answer_model.specs.Sections.{step_of}
use Rattle.answer_model.specs.Zones.{zone_for}

-- ---- choices

on : (b : Body) (here further : Descended) (n : ℕ) → here.choices.count ≤ n
    → further.choices.count ≤ n
    → (by_body b here further).choices.count ≤ n
on (body.Values ttl values) here further n first second = first
on (body.Alias target evaluate) here further n first second = second

one_more : (sets : List RecordSet) (choices : Choices) (from : RecordSet → Descended) (n : ℕ)
    → choices.count ≤ n → ((alias : RecordSet) → (from alias).choices.count ≤ n)
    → (by_choice sets choices from).choices.count ≤ n
one_more [] choices from n here further = here
one_more (set ∷ sets) choices from n here further =
    on set.body (record { sets = set ∷ sets; choices = choices }) (from set) n here (further set)

few : (most : ℕ) (by : Means) (zone sets : List RecordSet) (choices : Choices)
    → (descends most by zone sets choices).choices.count ≤ choices.count + most
few zero by zone sets choices = omega arith
few (suc most) by zone [] choices = omega arith
few (suc most) by zone (first ∷ others) choices =
    one_more (selected by (first ∷ others) (word_of by.words choices.count))
    (with_choice by (first ∷ others) choices)
    (λ alias. descends most by zone (target_group zone alias)
    (with_choice by (first ∷ others) choices))
    (choices.count + suc most)
    (omega arith)
    (λ alias.
    let rest = few most by zone (target_group zone alias)
    (with_choice by (first ∷ others) choices) in
    omega (arith, rest))

pub few_choices : FewChoices
unfolding descend
few_choices by zone sets choices = few 17 by zone sets choices

-- ---- RCODE

abbrev IsKnown : Sections → Type 0
IsKnown found = (found.rcode ≡ 0) ⊎ (found.rcode ≡ 3)

abbrev IsKnownStep : NameOutcome → Type 0
IsKnownStep (Ends found) = IsKnown found
IsKnownStep (Follows cname choices) = ⊤

of_asked : (lookup : Lookup) (name : List (List ℕ)) (sets : List RecordSet) (d : Descended)
    → IsKnownStep (asked_step lookup name sets d.choices.used)
of_asked lookup name [] d = inl refl
of_asked lookup name (set ∷ sets) d = inl refl

of_cname : (lookup : Lookup) (records : List Record) (choices : Choices)
    → IsKnownStep (cname_step lookup records choices)
of_cname lookup [] choices = inl refl
of_cname lookup (cname ∷ others) choices = tt

of_sets : (lookup : Lookup) (name : List (List ℕ)) (typed cnames : List RecordSet)
    (choices : Choices)
    → IsKnownStep (step_of lookup name typed cnames choices)
of_sets lookup name [] cnames choices =
    let d = descend lookup.means lookup.zone.sets cnames choices in
    of_cname lookup (answer_records name d.sets) d.choices
of_sets lookup name (first ∷ others) cnames choices =
    let d = descend lookup.means lookup.zone.sets (first ∷ others) choices in
    of_asked lookup name d.sets d

of_source : (lookup : Lookup) (name : List (List ℕ)) (from : Option (List (List ℕ)))
    (choices : Choices)
    → IsKnownStep (step_from lookup name from choices)
of_source lookup name None choices = inr refl
of_source lookup name (Some from) choices =
    of_sets lookup name (asked_group lookup.zone.sets from lookup.qtype)
    (group lookup.zone.sets from rtype.Cname) choices

of_cut : (lookup : Lookup) (name : List (List ℕ)) (cut : Option RecordSet) (choices : Choices)
    → IsKnownStep (step_below lookup name cut choices)
of_cut lookup name (Some cut) choices = inl refl
of_cut lookup name None choices = of_source lookup name (source lookup.zone.sets name) choices

of_ended : (s : NameOutcome) → IsKnownStep s → IsKnown (ended s)
of_ended (Ends found) known = known
of_ended (Follows cname choices) known = inl refl

of_target : (b : Bool) (there here : Sections) → IsKnown there → IsKnown here
    → IsKnown (cond b there here)
of_target true there here first second = first
of_target false there here first second = second

of_followed : (lookup : Lookup) (rest : List (List ℕ) → Choices → Sections) (s : NameOutcome)
    → ((target : List (List ℕ)) (choices : Choices) → IsKnown (rest target choices))
    → IsKnownStep s → IsKnown (followed lookup rest s)
of_followed lookup rest (Ends found) knows known = known
of_followed lookup rest (Follows cname choices) knows known =
    of_target (is_zone lookup.zone (zone_for lookup.zones (labels_of cname.rdata)))
    (rest (labels_of cname.rdata) choices) (ends choices.used)
    (knows (labels_of cname.rdata) choices) (inl refl)

of_names : (most : ℕ) (lookup : Lookup) (name : List (List ℕ)) (choices : Choices)
    → IsKnown (look_up most lookup name choices)
of_names zero lookup name choices =
    of_ended (step lookup name choices) (of_cut lookup name (cut_above lookup.zone name) choices)
of_names (suc most) lookup name choices =
    of_followed lookup (look_up most lookup) (step lookup name choices) (of_names most lookup)
    (of_cut lookup name (cut_above lookup.zone name) choices)

pub rcodes_of_sections : RcodesOfSections
unfolding sections
rcodes_of_sections lookup name = of_names 8 lookup name no_choices
