-- Sets that answer are of the type of the group from which they were chosen.
use Rattle.std.proofs.Common.{◌≡◌, ℕ, zero, suc, List, [], ◌∷◌, refl, sym, ◌∙◌, inl}
use Rattle.rdata_layout.specs.Types.{number_of}
use Rattle.rdata_layout.specs.declared.types.RType.{RType}
use Rattle.record_set.specs.declared.sets.Body.{Body}
use Rattle.record_set.specs.declared.sets.Body.TheVariants as body
use Rattle.record_set.specs.declared.sets.RecordSet.{RecordSet}
use Rattle.zone_model.specs.Zones.{IsAmong, target_group, target_group_of}
use Rattle.zone_lookup.specs.Descent.{Choices, Descended, Means, by_body, by_choice, descend}
use Rattle.zone_lookup.specs.Descent.{descends, selected, with_choice, word_of}
use Rattle.reply_records.proofs.Targets.{of_its_type}
use Rattle.reply_records.proofs.Joined.{sets_among}

abbrev AreOfType : RType → List RecordSet → Type 0
AreOfType t sets = (set : RecordSet) → IsAmong sets set → set.rtype ≡ t

abbrev OneNumber : Type 0
OneNumber = (rtype other : RType) → number_of rtype ≡ number_of other → rtype ≡ other

of_target : OneNumber → (zone : List RecordSet) (t : RType) (b : Body)
    → AreOfType t (target_group_of zone t b)
of_target own zone t (body.Values ttl values) = λ set there. absurd there
of_target own zone t (body.Alias target evaluate) = λ set there.
    sym (of_its_type own zone target t set there)

by_its_body : (t : RType) (b : Body) (here further : Descended) → AreOfType t here.sets
    → AreOfType t further.sets → AreOfType t (by_body b here further).sets
by_its_body t (body.Values ttl values) here further all rest = all
by_its_body t (body.Alias target evaluate) here further all rest = rest

by_the_choice : (t : RType) (sets : List RecordSet) (choices : Choices)
    (from : RecordSet → Descended) → AreOfType t sets
    → ((alias : RecordSet) → alias.rtype ≡ t → AreOfType t (from alias).sets)
    → AreOfType t (by_choice sets choices from).sets
by_the_choice t [] choices from all rest = λ set there. absurd there
by_the_choice t (set ∷ sets) choices from all rest =
    by_its_body t set.body (record { sets = set ∷ sets; choices = choices }) (from set) all
    (rest set (all set (inl refl)))

target_typed : OneNumber → (zone : List RecordSet) (t : RType) (alias : RecordSet)
    → alias.rtype ≡ t → AreOfType t (target_group zone alias)
target_typed own zone t alias e = λ set there.
    of_target own zone alias.rtype alias.body set there ∙ e

of_type : OneNumber → (m : ℕ) (by : Means) (zone sets : List RecordSet) (choices : Choices)
    (t : RType) → AreOfType t sets → AreOfType t (descends m by zone sets choices).sets
of_type own zero by zone sets choices t all = λ set there. absurd there
of_type own (suc m) by zone [] choices t all = λ set there. absurd there
of_type own (suc m) by zone (first ∷ others) choices t all =
    by_the_choice t (selected by (first ∷ others) (word_of by.words choices.count))
    (with_choice by (first ∷ others) choices)
    (λ alias. descends m by zone (target_group zone alias)
    (with_choice by (first ∷ others) choices))
    (λ set there. all set (sets_among (first ∷ others) _ set there))
    (λ alias e. of_type own m by zone (target_group zone alias)
    (with_choice by (first ∷ others) choices) t (target_typed own zone t alias e))

pub answer_type : OneNumber → (by : Means) (zone sets : List RecordSet) (choices : Choices)
    (t : RType) → AreOfType t sets → AreOfType t (descend by zone sets choices).sets
unfolding descend
answer_type own by zone sets choices t all = of_type own 17 by zone sets choices t all
