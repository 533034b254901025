-- One choice more on the way from alias to alias.
use Rattle.std.proofs.Common.{◌≡◌, ◌<◌, ◌+◌, ◌-◌, ℕ, zero, suc, Bool, List, [], ◌∷◌}
use Rattle.std.proofs.Common.{Some, None}
use Rattle.std.proofs.Common.{length, take, drop, replicate, refl, sym, ap, ◌∙◌, subst, inl, inr}
use Rattle.std.proofs.Common.{arith}
use Rattle.std.specs.Prelude.{map, slice_get}
use Rattle.std.proofs.Math.Seq.{take-append_seam}
use Rattle.answer_model.specs.Choice.{chosen}
use Rattle.zone_table.specs.Reasons.{IsAlias}
use Rattle.zone_table.specs.SetsOfRecordSet.{key_of}
use Rattle.zone_table.specs.BodyRecord.{Body}
use Rattle.zone_table.specs.BodyRecord.TheVariants as body
use Rattle.zone_table.specs.RecordSetRecord.{RecordSet}
use Rattle.zone_table.specs.SetKeyRecord.{SetKey}
use Rattle.zone_table.specs.Zones.{Zone, placed_in}
use Rattle.zone_table.specs.SetRefRecord.{SetRef}
use Rattle.zone_table.specs.Sets.{IsAmong, target_group}
use Rattle.zone_table.specs.Slotted.{Slotted}
use Rattle.zone_table.specs.GroupRecord.{Group}
use Rattle.answer_model.specs.declared.used.Used.{Used}
use Rattle.answer_model.specs.Clients.{Client}
use Rattle.answer_model.specs.Descent.{Choices, Descended, Means, by_body, by_choice, descends}
use Rattle.answer_model.specs.Descent.{group_uses, healthy_in, selected, sets_at, with_choice}
use Rattle.answer_model.specs.Descent.{word_of}
use Rattle.policy_select.specs.declared.selection.Selected.{Selected}
use Rattle.policy_select.specs.Groups.{Agrees, flags_in, members_of, sets_in, sets_in_zone}
use Rattle.policy_select.specs.Selecting.{Gives, IsTarget, LeadsTo, means_of, selected_of}
use Rattle.policy_select.specs.Selecting.{selected_sets}

module _ {X : Type 0} where
  among_front : (xs : List X) (n : ℕ) (x : X) → IsAmong (take n xs) x → IsAmong xs x
  among_front xs zero x there = absurd there
  among_front [] (suc n) x there = absurd there
  among_front (y ∷ xs) (suc n) x (inl e) = inl e
  among_front (y ∷ xs) (suc n) x (inr there) = inr (among_front xs n x there)

  among_back : (xs : List X) (n : ℕ) (x : X) → IsAmong (drop n xs) x → IsAmong xs x
  among_back xs zero x there = there
  among_back [] (suc n) x there = absurd there
  among_back (y ∷ xs) (suc n) x there = inr (among_back xs n x there)

-- a test of sets that is one of keys says the same of each
same_flags : (test : SetRef → Bool) (healthy : SetKey → Bool) (zone : ℕ) (xs : List Slotted)
    → ((p : Slotted) → IsAmong xs p
    → test (record { zone = zone; slot = p.slot }) ≡ healthy (key_of p.set))
    → map (λ (p : Slotted). test (record { zone = zone; slot = p.slot })) xs
    ≡ healthy_in healthy (map (λ (p : Slotted). p.set) xs)
same_flags test healthy zone [] same = refl
same_flags test healthy zone (x ∷ xs) same =
    let first = same x (inl refl) in
    let rest = same_flags test healthy zone xs (λ p there. same p (inr there)) in
    ap (λ (b : Bool). b
    ∷ map (λ (p : Slotted). test (record { zone = zone; slot = p.slot })) xs) first
    ∙ ap (λ (bs : List Bool). healthy (key_of x.set) ∷ bs) rest

-- what the view says of a group is what the test says
flags_are : (zones : List Zone) (test : SetRef → Bool) (healthy : ℕ → SetKey → Bool)
    → Agrees zones test healthy
    → (g : Group) → flags_in zones test g ≡ healthy_in (healthy g.zone) (sets_in zones g)
flags_are zones test healthy agrees g =
    same_flags test (healthy g.zone) g.zone (members_of zones g)
    (λ p there. agrees (record { zone = g.zone; slot = p.slot }) p.set
    (among_back (placed_in zones g.zone) g.start p
    (among_front (drop g.start (placed_in zones g.zone)) g.length p there)))

-- the selected sets are those at the places
sets_of_places : (zones : List Zone) (g : Group) (places : List ℕ)
    → selected_sets zones (selected_of g places) ≡ sets_at (sets_in zones g) places
sets_of_places zones g [] = refl
sets_of_places zones g (place ∷ places) =
    ap (sets_at (sets_in zones g))
    (take-append_seam (place ∷ places) (replicate (8 - length (place ∷ places)) 0))

-- some sets are chosen from
chosen_from : (m : ℕ) (by : Means) (zone sets : List RecordSet) (choices : Choices)
    → 0 < length sets
    → descends (suc m) by zone sets choices
    ≡ by_choice (selected by sets (word_of by.words choices.count)) (with_choice by sets choices)
    (λ alias. descends m by zone (target_group zone alias) (with_choice by sets choices))
chosen_from m by zone [] choices some = absurd (omega (arith, some))
chosen_from m by zone (first ∷ others) choices some = refl

-- ---- by what is chosen

stops_at : (b : Body) (here further : Descended) → (IsAlias b → ⊥) → by_body b here further ≡ here
stops_at (body.Values ttl values) here further none = refl
stops_at (body.Alias target evaluate) here further none = absurd (none tt)

goes_from : (b : Body) (here further : Descended) → IsAlias b → by_body b here further ≡ further
goes_from (body.Values ttl values) here further alias = absurd alias
goes_from (body.Alias target evaluate) here further alias = refl

stops : (sets : List RecordSet) (choices : Choices) (from : RecordSet → Descended)
    → ((set : RecordSet) → slice_get sets 0 ≡ Some set → IsAlias set.body → ⊥)
    → by_choice sets choices from ≡ record { sets = sets; choices = choices }
stops [] choices from none = refl
stops (set ∷ sets) choices from none =
    stops_at set.body (record { sets = set ∷ sets; choices = choices }) (from set) (none set refl)

goes : (sets : List RecordSet) (choices : Choices) (from : RecordSet → Descended) (set : RecordSet)
    → slice_get sets 0 ≡ Some set → IsAlias set.body → by_choice sets choices from ≡ from set
goes [] choices from set first alias = absurd (grind (arith, first))
goes (x ∷ sets) choices from set first alias =
    let same : x ≡ set = cc in
    goes_from x.body (record { sets = x ∷ sets; choices = choices }) (from x)
    (subst (λ (s : RecordSet). IsAlias s.body) (sym same) alias)
    ∙ ap from same

-- ---- one choice

module _ (zones : List Zone) (test : SetRef → Bool) (healthy : ℕ → SetKey → Bool)
    (agrees : Agrees zones test healthy) (client : Client) (words : List ℕ) (g : Group) (m k : ℕ)
    (used : Used) (picked : Selected) where
  abbrev by : Means
  by = means_of (healthy g.zone) client words

  abbrev before : Choices
  before = record { count = k; used = used }

  abbrev after : Choices
  after = with_choice by (sets_in zones g) before

  abbrev zone : List RecordSet
  zone = sets_in_zone zones g.zone

  abbrev IsPicked : Type 0
  IsPicked = picked
      ≡ selected_of g
      (chosen (sets_in zones g) (flags_in zones test g) client.rows (word_of words k))

  picked_sets : IsPicked → selected_sets zones picked
      ≡ selected by (sets_in zones g) (word_of words k)
  picked_sets is =
      ap (selected_sets zones) is
      ∙ sets_of_places zones g
      (chosen (sets_in zones g) (flags_in zones test g) client.rows (word_of words k))
      ∙ ap (λ (flags : List Bool). sets_at (sets_in zones g)
      (chosen (sets_in zones g) flags client.rows (word_of words k)))
      (flags_are zones test healthy agrees g)

  one_choice : 0 < length (sets_in zones g) → IsPicked
      → descends (suc m) by zone (sets_in zones g) before
      ≡ by_choice (selected_sets zones picked) after
      (λ alias. descends m by zone (target_group zone alias) after)
  one_choice some is =
      chosen_from m by zone (sets_in zones g) before some
      ∙ ap (λ (sets : List RecordSet). by_choice sets after
      (λ alias. descends m by zone (target_group zone alias) after)) (sym (picked_sets is))

  pub ends_here : (made : ℕ) (now : Used) → 0 < length (sets_in zones g) → IsPicked
      → LeadsTo zones g.zone picked None → made ≡ k + 1 → now
      ≡ group_uses client (sets_in zones g) used
      → Gives zones (descends (suc m) by zone (sets_in zones g) before) picked made now
  ends_here made now some is none count uses =
      let e = one_choice some is
      ∙ stops (selected_sets zones picked) after
      (λ alias. descends m by zone (target_group zone alias) after) none in
      record {
        sets = sym (ap (λ (d : Descended). d.sets) e);
        count = count ∙ sym (ap (λ (d : Descended). d.choices.count) e);
        uses = uses ∙ sym (ap (λ (d : Descended). d.choices.used) e);
      }

  pub goes_on : (target : Group) (result : Selected) (made_next made : ℕ) (now_next now : Used)
      → 0 < length (sets_in zones g)
      → IsPicked → IsTarget zones g.zone picked target → made_next ≡ k + 1
      → now_next ≡ group_uses client (sets_in zones g) used
      → Gives zones
      (descends m (means_of (healthy target.zone) client words) (sets_in_zone zones target.zone)
      (sets_in zones target) (record { count = made_next; used = now_next })) result made now
      → Gives zones (descends (suc m) by zone (sets_in zones g) before) result made now
  goes_on target result made_next made now_next now some is leads count uses rest =
      let e = one_choice some is
      ∙ goes (selected_sets zones picked) after
      (λ alias. descends m by zone
      (target_group zone alias) after) leads.set leads.first leads.alias in
      let sets_are = ap (λ (sets : List RecordSet). descends m by zone sets after)
      (sym leads.sets) in
      let zone_is = ap
      (λ (z : ℕ). descends m (means_of (healthy z) client words) (sets_in_zone zones z)
      (sets_in zones target) after) (sym leads.in_zone) in
      let choices_are : after ≡ record { count = made_next; used = now_next } = cc in
      let whole = e ∙ sets_are ∙ zone_is
      ∙ ap (descends m (means_of (healthy target.zone) client words)
      (sets_in_zone zones target.zone)
      (sets_in zones target)) choices_are in
      subst (λ (d : Descended). Gives zones d result made now) (sym whole) rest
