-- Where a descent by one choice ends, whoever asks.
use Rattle.std.proofs.Common.{◌≡◌, ◌<◌, ◌⊎◌, ◌+◌, ℕ, zero, suc, Bool, List, [], ◌∷◌, refl, sym, ap, ◌∙◌, subst, arith, inl, inr}
use Rattle.record_set.specs.Reasons.{IsAlias}
use Rattle.record_set.specs.declared.sets.Body.{Body}
use Rattle.record_set.specs.declared.sets.Body.TheVariants as body
use Rattle.record_set.specs.declared.sets.RecordSet.{RecordSet}
use Rattle.record_set.specs.declared.sets.SetKey.{SetKey}
use Rattle.routing.specs.declared.policies.Routing.{Routing}
use Rattle.routing.specs.declared.policies.Routing.TheVariants as policy
use Rattle.choice_model.specs.Choice.{chosen_by}
use Rattle.zone_model.specs.Zones.{group, target_group}
use Rattle.zone_lookup.specs.Clients.{Client}
use Rattle.zone_lookup.specs.Descent.{Choices, Descended, Means, by_body, by_choice, descend, descends, healthy_in, no_choices, selected, sets_at, unused, uses, with_choice, word_of}
use Rattle.zone_lookup.specs.UsedRecord.{Used}
use Rattle.settled_replies.specs.Alone.{ComesTo, IsFailover, IsWordless}
use Rattle.settled_replies.specs.Settling.{EndsWithOne}

-- The choices of a descent are more than before, where it comes to a set.
counted : (choices made : Choices) (on : RecordSet → Descended) → made.count ≡ choices.count + 1
    → ((alias : RecordSet) → ((on alias).sets ≡ []) ⊎ (made.count < (on alias).choices.count))
    → (sets : List RecordSet)
    → ((by_choice sets made on).sets ≡ []) ⊎ (choices.count < (by_choice sets made on).choices.count)
counted choices made on one more [] = inl refl
counted choices made on one more (set ∷ sets) = by_what set.body (more set)
  where
    by_what : (what : Body) → ((on set).sets ≡ []) ⊎ (made.count < (on set).choices.count)
        → ((by_body what (record { sets = set ∷ sets; choices = made }) (on set)).sets ≡ [])
        ⊎ (choices.count < (by_body what (record { sets = set ∷ sets; choices = made }) (on set)).choices.count)
    by_what (body.Values ttl values) said = inr (omega (arith, one))
    by_what (body.Alias target evaluate) (inl none) = inl none
    by_what (body.Alias target evaluate) (inr far) = inr (omega (arith, one, far))

counts : (most : ℕ) (by : Means) (zone its_group : List RecordSet) (choices : Choices)
    → ((descends most by zone its_group choices).sets ≡ [])
    ⊎ (choices.count < (descends most by zone its_group choices).choices.count)
counts zero by zone its_group choices = inl refl
counts (suc most) by zone [] choices = inl refl
counts (suc most) by zone (first ∷ others) choices =
    let made = with_choice by (first ∷ others) choices in
    counted choices made (λ alias. descends most by zone (target_group zone alias) made) refl
    (λ alias. counts most by zone (target_group zone alias) made)
    (selected by (first ∷ others) (word_of by.words choices.count))

-- what a descent came to, by its parts
pub alike : (came : Descended) (set : RecordSet) (used : Used) → came.sets ≡ set ∷ [] → came.choices.count ≡ 1
    → came.choices.used ≡ used
    → came ≡ record { sets = set ∷ []; choices = record { count = 1; used = used } }
alike came set used sets count is =
    ap (λ (s : List RecordSet). record { sets = s; choices = came.choices }) sets
    ∙ (ap (λ (n : ℕ). record { sets = set ∷ []; choices = record { count = n; used = came.choices.used } }) count
    ∙ ap (λ (u : Used). record { sets = set ∷ []; choices = record { count = 1; used = u } }) is)

-- What came to one set by one choice, comes to it also by what else is made and followed.
through : (set : RecordSet) (used : Used) (made other : Choices) (on others_on : RecordSet → Descended) → other.count ≡ 1
    → other.used ≡ used → 0 < made.count
    → ((alias : RecordSet) → ((on alias).sets ≡ []) ⊎ (made.count < (on alias).choices.count))
    → (sets : List RecordSet) → (by_choice sets made on).sets ≡ set ∷ []
    → (by_choice sets made on).choices.count ≡ 1
    → by_choice sets other others_on
    ≡ record { sets = set ∷ []; choices = record { count = 1; used = used } }
through set used made other on others_on one none some more [] its once = absurd (grind (arith, its))
through set used made other on others_on one none some more (first ∷ sets) its once =
    by_what first.body (more first) its once
  where
    by_what : (what : Body) → ((on first).sets ≡ []) ⊎ (made.count < (on first).choices.count)
        → (by_body what (record { sets = first ∷ sets; choices = made }) (on first)).sets ≡ set ∷ []
        → (by_body what (record { sets = first ∷ sets; choices = made }) (on first)).choices.count ≡ 1
        → by_body what (record { sets = first ∷ sets; choices = other }) (others_on first)
        ≡ record { sets = set ∷ []; choices = record { count = 1; used = used } }
    by_what (body.Values ttl values) said are count =
        alike (record { sets = first ∷ sets; choices = other }) set used are one none
    by_what (body.Alias target evaluate) (inl empty) are count = absurd (grind (arith, sym empty ∙ are))
    by_what (body.Alias target evaluate) (inr far) are count = absurd (omega (arith, far, count, some))

module _ (healthy : SetKey → Bool) (zone : List RecordSet) (first : RecordSet) (others : List RecordSet) where
  abbrev means : Client → List ℕ → Means
  means client words = record { healthy = healthy; client = client; words = words }

  -- Where one choice came to one set, it does by other words, and for another client, if the choice is the same.
  goes_through : (client other : Client) (words other_words : List ℕ) (set : RecordSet) (used : Used)
      → selected (means other other_words) (first ∷ others) (word_of other_words 0)
      ≡ selected (means client words) (first ∷ others) (word_of words 0)
      → uses other first.routing unused ≡ used
      → (descend (means client words) zone (first ∷ others) no_choices).sets ≡ set ∷ []
      → (descend (means client words) zone (first ∷ others) no_choices).choices.count ≡ 1
      → descend (means other other_words) zone (first ∷ others) no_choices
      ≡ record { sets = set ∷ []; choices = record { count = 1; used = used } }
  unfolding descend
  goes_through client other words other_words set used same is sets count =
      let by = means client words in
      let its = means other other_words in
      let made = with_choice by (first ∷ others) no_choices in
      let its_made = with_choice its (first ∷ others) no_choices in
      let on = λ (alias : RecordSet). descends 16 by zone (target_group zone alias) made in
      let its_on = λ (alias : RecordSet). descends 16 its zone (target_group zone alias) its_made in
      ap (λ (s : List RecordSet). by_choice s its_made its_on) same
      ∙ through set used made its_made on its_on refl is (omega arith)
      (λ alias. counts 16 by zone (target_group zone alias) made)
      (selected by (first ∷ others) (word_of words 0)) sets count

  -- by a policy that uses no word, by all words
  comes_here : IsWordless first.routing → (client : Client) (words : List ℕ) (set : RecordSet)
      → (descend (means client words) zone (first ∷ others) no_choices).sets ≡ set ∷ []
      → (descend (means client words) zone (first ∷ others) no_choices).choices.count ≡ 1
      → ComesTo healthy client zone (first ∷ others) set (uses client first.routing unused)
  comes_here wordless client words set sets count other_words =
      goes_through client client words other_words set (uses client first.routing unused)
      (ap (sets_at (first ∷ others)) (wordless (first ∷ others) (healthy_in healthy (first ∷ others)) client.rows
      (word_of other_words 0) (word_of words 0))) refl sets count

  -- by the roles of a failover, for every client too
  pub comes_to_all : IsFailover first.routing → (client : Client) (set : RecordSet) (used : Used)
      → ComesTo healthy client zone (first ∷ others) set used → (other : Client)
      → ComesTo healthy other zone (first ∷ others) set unused
  comes_to_all failover client set used comes other other_words =
      goes_through client other [] other_words set unused
      (ap (λ (policy : Routing). sets_at (first ∷ others) (chosen_by policy (first ∷ others)
      (healthy_in healthy (first ∷ others)) other.rows (word_of other_words 0))) failover.2
      ∙ sym (ap (λ (policy : Routing). sets_at (first ∷ others) (chosen_by policy (first ∷ others)
      (healthy_in healthy (first ∷ others)) client.rows (word_of [] 0))) failover.2))
      (ap (λ (policy : Routing). uses other policy unused) failover.2)
      (ap (λ (came : Descended). came.sets) (comes []))
      (ap (λ (came : Descended). came.choices.count) (comes []))

  pub ends_for_all : IsFailover first.routing → (client other : Client) (words other_words : List ℕ)
      → EndsWithOne (means client words) zone (first ∷ others) → EndsWithOne (means other other_words) zone (first ∷ others)
  ends_for_all failover client other words other_words (set, sets, count) =
      let goes = goes_through client other words other_words set unused
      (ap (λ (policy : Routing). sets_at (first ∷ others) (chosen_by policy (first ∷ others)
      (healthy_in healthy (first ∷ others)) other.rows (word_of other_words 0))) failover.2
      ∙ sym (ap (λ (policy : Routing). sets_at (first ∷ others) (chosen_by policy (first ∷ others)
      (healthy_in healthy (first ∷ others)) client.rows (word_of words 0))) failover.2))
      (ap (λ (policy : Routing). uses other policy unused) failover.2) sets count in
      (set, ap (λ (d : Descended). d.sets) goes, ap (λ (d : Descended). d.choices.count) goes)

  -- what the choice used
  pub comes_with : IsWordless first.routing → (client : Client) (words : List ℕ) (set : RecordSet) (used : Used)
      → (descend (means client words) zone (first ∷ others) no_choices).sets ≡ set ∷ []
      → (descend (means client words) zone (first ∷ others) no_choices).choices.count ≡ 1
      → (descend (means client words) zone (first ∷ others) no_choices).choices.used ≡ used
      → ComesTo healthy client zone (first ∷ others) set used
  comes_with wordless client words set used sets count is =
      subst (λ (u : Used). ComesTo healthy client zone (first ∷ others) set u)
      (sym (ap (λ (came : Descended). came.choices.used) (comes_here wordless client words set sets count words)) ∙ is)
      (comes_here wordless client words set sets count)

-- The same of a group that begins so.
pub comes_by : (by : Means) (zone its_group : List RecordSet) (first : RecordSet) (others : List RecordSet)
    → its_group ≡ first ∷ others → IsWordless first.routing → (set : RecordSet) (used : Used)
    → (descend by zone its_group no_choices).sets ≡ set ∷ []
    → (descend by zone its_group no_choices).choices.count ≡ 1
    → (descend by zone its_group no_choices).choices.used ≡ used
    → ComesTo by.healthy by.client zone its_group set used
comes_by by zone its_group first others is wordless set used sets count uses_it =
    subst (λ (l : List RecordSet). ComesTo by.healthy by.client zone l set used) (sym is)
    (comes_with by.healthy zone first others wordless by.client by.words set used
    (subst (λ (l : List RecordSet). (descend by zone l no_choices).sets ≡ set ∷ []) is sets)
    (subst (λ (l : List RecordSet). (descend by zone l no_choices).choices.count ≡ 1) is count)
    (subst (λ (l : List RecordSet). (descend by zone l no_choices).choices.used ≡ used) is uses_it))

pub all_by : (healthy : SetKey → Bool) (zone its_group : List RecordSet) (first : RecordSet) (others : List RecordSet)
    → its_group ≡ first ∷ others → IsFailover first.routing → (client : Client) (set : RecordSet) (used : Used)
    → ComesTo healthy client zone its_group set used → (other : Client) → ComesTo healthy other zone its_group set unused
all_by healthy zone its_group first others is failover client set used comes other =
    subst (λ (l : List RecordSet). ComesTo healthy other zone l set unused) (sym is)
    (comes_to_all healthy zone first others failover client set used
    (subst (λ (l : List RecordSet). ComesTo healthy client zone l set used) is comes) other)

-- ---- policies that use no word

pub failover_wordless : (policy : Routing) → IsFailover policy → IsWordless policy
failover_wordless policy (ident, role, is) group healthy rows word other =
    ap (λ (p : Routing). chosen_by p group healthy rows word) is
    ∙ sym (ap (λ (p : Routing). chosen_by p group healthy rows other) is)

-- ---- a simple set

of_values : (what : Body) (here further : Descended) → (IsAlias what → ⊥) → by_body what here further ≡ here
of_values (body.Values ttl values) here further values_are = refl
of_values (body.Alias target evaluate) here further none = absurd (none tt)

of_alias : (what : Body) (here further : Descended) → IsAlias what → by_body what here further ≡ further
of_alias (body.Values ttl values) here further alias = absurd alias
of_alias (body.Alias target evaluate) here further alias = refl

module _ (by : Means) (zone : List RecordSet) (first : RecordSet) (others : List RecordSet)
    (simple : first.routing ≡ policy.Simple) where
  abbrev made_once : Choices
  made_once = with_choice by (first ∷ others) no_choices

  abbrev on_from : RecordSet → Descended
  on_from alias = descends 16 by zone (target_group zone alias) made_once

  -- the first set is chosen
  chooses_first : descend by zone (first ∷ others) no_choices
      ≡ by_body first.body (record { sets = first ∷ []; choices = made_once }) (on_from first)
  unfolding descend
  chooses_first =
      ap (λ (p : Routing). by_choice (sets_at (first ∷ others) (chosen_by p (first ∷ others)
      (healthy_in by.healthy (first ∷ others)) by.client.rows (word_of by.words 0))) made_once on_from) simple

  -- It answers where it has values.
  pub simple_ends : (IsAlias first.body → ⊥)
      → descend by zone (first ∷ others) no_choices
      ≡ record { sets = first ∷ []; choices = record { count = 1; used = unused } }
  simple_ends values =
      chooses_first
      ∙ (of_values first.body (record { sets = first ∷ []; choices = made_once }) (on_from first) values
      ∙ ap (λ (p : Routing). record {
        sets = first ∷ [];
        choices = record { count = 1; used = uses by.client p unused };
      }) simple)

  -- An alias leads on.
  pub alias_leads_on : IsAlias first.body → EndsWithOne by zone (first ∷ others) → ⊥
  alias_leads_on alias (set, sets, count) =
      elim (counts 16 by zone (target_group zone first) made_once) [
        | inl none ↦ absurd (grind (arith, sym none ∙ (ap (λ (d : Descended). d.sets) (sym goes) ∙ sets)))
        | inr more ↦ let once = ap (λ (d : Descended). d.choices.count) (sym goes) ∙ count in
            absurd (omega (arith, more, once))
      ]
    where
      goes : descend by zone (first ∷ others) no_choices ≡ on_from first
      goes = chooses_first ∙ of_alias first.body (record { sets = first ∷ []; choices = made_once }) (on_from first) alias

-- ---- one choice of one set

-- of what comes to a set by all words
pub ends_with_one : (healthy : SetKey → Bool) (client : Client) (zone its_group : List RecordSet) (set : RecordSet)
    (used : Used) → ComesTo healthy client zone its_group set used → (words : List ℕ)
    → EndsWithOne (record { healthy = healthy; client = client; words = words }) zone its_group
ends_with_one healthy client zone its_group set used comes words =
    (set, ap (λ (d : Descended). d.sets) (comes words), ap (λ (d : Descended). d.choices.count) (comes words))
