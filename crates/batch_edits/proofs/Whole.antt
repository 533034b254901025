-- The difference on the sets of a batch's names, as an edit of the whole zone.
use Rattle.std.proofs.Common.{◌≡◌, ◌≢◌, ℕ, List, [], ◌∷◌, map, length, Bool, true, false, not}
use Rattle.std.proofs.Common.{refl, sym, ap, ◌∙◌, subst, inl, inr, arith}
use Rattle.std.specs.Prelude.{◌⊎◌, Ok, Err}
use Rattle.std.specs.List.{AllByRecursion, filter}
use Rattle.dns_name.specs.Suffix.{EndsWith}
use Rattle.record_set.specs.declared.sets.RecordSet.{RecordSet}
use Rattle.record_set.specs.declared.sets.SetKey.{SetKey}
use Rattle.record_set.specs.Sets.{key_of}
use Rattle.config_model.specs.OctetsOfSetOctets.{HasSpelling, most_octets, set_octets}
use Rattle.config_model.specs.Keys.{key_cmp}
use Rattle.config_model.specs.Placing.{IsThere, placed}
use Rattle.config_model.specs.Zones.{IsAmong, IsRising, IsZone}
use Rattle.config_model.specs.Slotted.{Slotted, sets_of}
use Rattle.config_model.proofs.Among.{place_of}
use Rattle.config_model.proofs.Ordered.{keys_tie}
use Rattle.batch_names.specs.Changes.{AreThere, CanChange, DifferByKey, IsKeyOf, without_all}
use Rattle.batch_names.specs.AllZones.{CanStand}
use Rattle.batch_names.proofs.Equation.{in_with_all, in_without_all, new_with_all, of_with_all}
use Rattle.batch_names.proofs.Equation.{of_without_all, with_all_rises, without_all_rises}
use Rattle.batch_names.proofs.Members.{all_in, in_all, same_sets}
use Rattle.change_batch.specs.ActionRecord.{Action}
use Rattle.change_batch.specs.ActionRecord.TheVariants as action
use Rattle.change_batch.specs.ChangeRecord.{Change}
use Rattle.change_batch.specs.Batches.{IsWithinLimits, Leaves, Prepares}
use Rattle.change_batch.specs.Changing.{Makes}
use Rattle.change_batch.specs.Rules.{MeetsAll, rules}
use Rattle.config_model.specs.Laws.{HasBoundedSet, IsBoundedSet}
use Rattle.batch_names.specs.Laws.{NamesDecide}
use Rattle.batch_names.specs.Named.{named_in, names, unnamed_in}
use Rattle.config_model.specs.Differences.{AreMissing, IsDifference}
use Rattle.batch_edits.specs.Edits.{AreOfChanges, after_edit}
use Rattle.batch_edits.specs.declared.editing.Edit.{Edit}
use Rattle.batch_edits.proofs.Missing.{key_among, missing_either, missing_is, missing_of_all}
use Rattle.batch_edits.proofs.Missing.{missing_rises, not_below, of_key_among, one_set}
use Rattle.batch_edits.proofs.Missing.{rising_filtered}
use Rattle.batch_edits.specs.Edits.{EditsOrNot, MeetsRules}
use Rattle.batch_names.specs.Looking.{IsApex}
use Rattle.batch_names.specs.LawsOfZoneTable.{OneApex, SetsOfOne}
use Rattle.batch_names.proofs.Members.{placed_with}
use Rattle.batch_names.specs.AllZones.{AreZones, StandsAlone, Zone, placed_in}
use Rattle.change_batch.specs.BatchRefusalRecord.{BatchRefusal}
use Rattle.batch_names.proofs.Runs.{named_is}
use Rattle.batch_names.proofs.Filtered.{below_or_not, in_filter, of_filter}
use Rattle.config_model.proofs.Ordered.{keys_total}
use Rattle.std.proofs.lemmas.Cmp.{tied_itself}
use Rattle.std.specs.declared.cmp.Ordering.TheVariants.{Less, Equal, Greater}
use Rattle.std.specs.declared.cmp.Ordering.{Ordering}

-- ---- sets that changes leave

-- what a change is about, or what was there
abbrev pub OfChange : List Change → RecordSet → Type 0
OfChange changes set = (change : Change) × IsAmong changes change × (change.set ≡ set)

abbrev pub OfKey : List Change → SetKey → Type 0
OfKey changes key = (change : Change) × IsAmong changes change × (key_of change.set ≡ key)

in_more_changes : (change : Change) (changes : List Change) (set : RecordSet) → OfChange changes set
    → OfChange (change ∷ changes) set
in_more_changes change changes set of = (of.0, inr of.1, of.2)

key_in_more : (change : Change) (changes : List Change) (key : SetKey) → OfKey changes key
    → OfKey (change ∷ changes) key
key_in_more change changes key of = (of.0, inr of.1, of.2)

same_key : (key other : SetKey) → (key ≡ other) ⊎ (key ≢ other)
same_key key other = by (key_cmp key other) refl
  where
    by : (o : Ordering) → key_cmp key other ≡ o → (key ≡ other) ⊎ (key ≢ other)
    by Less less = inr (λ e. not_below key other e less)
    by Equal tie = inl (keys_tie key other tie)
    by Greater more = inr (λ e.
        let tie : key_cmp key other ≡ Equal =
        subst (λ k. key_cmp key k ≡ Equal) e (tied_itself keys_total key) in
        grind (arith, more, tie))

of_makes : (which : Action) (given : RecordSet) (sets : List RecordSet) (apex : List (List ℕ))
    (after : List RecordSet) → Makes which given sets apex after → (set : RecordSet)
    → IsAmong after set → (given ≡ set) ⊎ IsAmong sets set
of_makes action.Create given sets apex after made set there =
    elim (of_with_all (given ∷ []) sets set (subst (λ s. IsAmong s set) made.1 there)) [
      | inl new ↦ elim new [ inl e ↦ inl e | inr none ↦ absurd none ]
      | inr old ↦ inr old.0
    ]
of_makes action.Delete given sets apex after made set there =
    inr (of_without_all (key_of given ∷ []) sets set (subst (λ s. IsAmong s set) made.2 there)).0
of_makes action.Upsert given sets apex after made set there =
    elim (of_with_all (given ∷ []) sets set (subst (λ s. IsAmong s set) made there)) [
      | inl new ↦ elim new [ inl e ↦ inl e | inr none ↦ absurd none ]
      | inr old ↦ inr old.0
    ]

only_given : (given set : RecordSet) → key_of set ≢ key_of given → IsThere (given ∷ [])
    (key_of set) → ⊥
only_given given set other (kept, keeps) =
    elim keeps.there [
      | inl e ↦ other (sym keeps.same_key ∙ ap key_of (sym e))
      | inr none ↦ none
    ]

only_key : (key other : SetKey) → other ≢ key → IsKeyOf (key ∷ []) other → ⊥
only_key key other differs named = elim named [ inl e ↦ differs (sym e) | inr none ↦ none ]

kept_by_makes : (which : Action) (given : RecordSet) (sets : List RecordSet) (apex : List (List ℕ))
    (after : List RecordSet) → Makes which given sets apex after → (set : RecordSet)
    → IsAmong sets set → key_of set ≢ key_of given → IsAmong after set
kept_by_makes action.Create given sets apex after made set there other =
    subst (λ s. IsAmong s set) (sym made.1)
    (in_with_all (given ∷ []) sets set there (only_given given set other))
kept_by_makes action.Delete given sets apex after made set there other =
    subst (λ s. IsAmong s set) (sym made.2)
    (in_without_all (key_of given ∷ []) sets set there (only_key (key_of given) (key_of set) other))
kept_by_makes action.Upsert given sets apex after made set there other =
    subst (λ s. IsAmong s set) (sym made)
    (in_with_all (given ∷ []) sets set there (only_given given set other))

-- what changes leave was there, or is a change's
of_leaves : (apex : List (List ℕ)) (changes : List Change) (sets after : List RecordSet)
    → Leaves sets apex changes after → (set : RecordSet) → IsAmong after set
    → IsAmong sets set ⊎ OfChange changes set
of_leaves apex [] sets after left set there = inl (subst (λ s. IsAmong s set) left there)
of_leaves apex (change ∷ changes) sets after left set there =
    elim (of_leaves apex changes left.0 after left.2 set there) [
      | inl middle ↦
          elim (of_makes change.action change.set sets apex left.0 left.1.1 set middle) [
            | inl e ↦ inr (change, inl refl, e)
            | inr old ↦ inl old
          ]
      | inr of ↦ inr (in_more_changes change changes set of)
    ]

-- what was there is left, or a change is of its key
kept_by_leaves : (apex : List (List ℕ)) (changes : List Change) (sets after : List RecordSet)
    → Leaves sets apex changes after → (set : RecordSet) → IsAmong sets set
    → IsAmong after set ⊎ OfKey changes (key_of set)
kept_by_leaves apex [] sets after left set there = inl (subst (λ s. IsAmong s set) (sym left) there)
kept_by_leaves apex (change ∷ changes) sets after left set there =
    elim (same_key (key_of set) (key_of change.set)) [
      | inl e ↦ inr (change, inl refl, sym e)
      | inr other ↦
          elim (kept_by_leaves apex changes left.0 after left.2 set
          (kept_by_makes change.action change.set sets apex left.0 left.1.1 set there other)) [
            | inl stays ↦ inl stays
            | inr of ↦ inr (key_in_more change changes (key_of set) of)
          ]
    ]

-- ---- lists of keys

keys_apart : (sets : List RecordSet) → IsRising sets → DifferByKey sets
keys_apart [] rising = tt
keys_apart (set ∷ sets) rising = (
  all_in (λ other. key_of set ≢ key_of other) sets
      (λ other there e. not_below (key_of set) (key_of other) e
      (in_all (λ later. key_cmp (key_of set) (key_of later) ≡ Less) sets other rising.0 there)),
  keys_apart sets rising.1,
)

are_there : (whole sets : List RecordSet) → IsRising sets
    → ((set : RecordSet) → IsAmong sets set → IsAmong whole set)
    → AreThere whole (map key_of sets)
are_there whole [] rising each = tt
are_there whole (set ∷ sets) rising each = (
  (set, record { there = each set (inl refl); same_key = refl }),
  all_in (λ other. key_of set ≢ other) (map key_of sets)
      (λ key there e.
      let of = of_key_among sets key there in
      not_below (key_of set) (key_of of.0) (e ∙ sym of.2)
      (in_all (λ later. key_cmp (key_of set) (key_of later) ≡ Less) sets of.0 rising.0 of.1)),
  are_there whole sets rising.1 (λ x there. each x (inr there)),
)

-- ---- the whole zone

module _ (sets : List RecordSet) (apex : List (List ℕ)) (changes : List Change)
    (few remaining gone : List RecordSet) (edit : Edit)
    (zone : IsZone sets apex) (few_is : few ≡ named_in changes sets)
    (limits : IsWithinLimits changes apex) (left : Leaves few apex changes remaining)
    (meets : MeetsAll rules remaining apex) (still : IsZone remaining apex)
    (goes : AreMissing few remaining gone) (keys : edit.remove ≡ map key_of gone)
    (comes : AreMissing remaining few edit.add) where
  abbrev named : RecordSet → Bool
  named set = names changes set.name

  abbrev unnamed : RecordSet → Bool
  unnamed set = not (names changes set.name)

  rising_few : IsRising few
  rising_few = subst IsRising (sym few_is) (rising_filtered named sets zone.rising)

  abbrev after : List RecordSet
  after = after_edit edit sets

  rising_after : IsRising after
  rising_after =
      with_all_rises edit.add (without_all edit.remove sets)
      (without_all_rises edit.remove sets zone.rising)

  rising_add : IsRising edit.add
  rising_add = missing_rises few remaining edit.add comes still.rising

  rising_gone : IsRising gone
  rising_gone = missing_rises remaining few gone goes rising_few

  few_in : (set : RecordSet) → IsAmong few set → IsAmong sets set × (named set ≡ true)
  few_in set there = of_filter named sets set (subst (λ s. IsAmong s set) few_is there)

  in_few : (set : RecordSet) → IsAmong sets set → named set ≡ true → IsAmong few set
  in_few set there e = subst (λ s. IsAmong s set) (sym few_is) (in_filter named sets set there e)

  of_change_named : (set : RecordSet) → OfChange changes set → named set ≡ true
  of_change_named set of =
      named_is changes set.name (of.0, of.1, ap (λ (s : RecordSet). s.name) of.2)

  remaining_named : (set : RecordSet) → IsAmong remaining set → named set ≡ true
  remaining_named set there = elim (of_leaves apex changes few remaining left set there) [
    | inl old ↦ (few_in set old).1
    | inr of ↦ of_change_named set of
  ]

  -- a key that goes is that of a set that goes
  key_goes : (key : SetKey) → IsKeyOf edit.remove key
      → (set : RecordSet) × IsAmong gone set × (key_of set ≡ key)
  key_goes key there = of_key_among gone key (subst (λ k. IsKeyOf k key) keys there)

  gone_goes : (set : RecordSet) → IsAmong gone set → IsKeyOf edit.remove (key_of set)
  gone_goes set there = subst (λ k. IsKeyOf k (key_of set)) (sym keys) (key_among gone set there)

  gone_is : (set : RecordSet) → IsAmong gone set → IsAmong few set × (IsAmong remaining set → ⊥)
  gone_is set there = missing_is remaining few gone goes set there

  come_is : (set : RecordSet) → IsAmong edit.add set → IsAmong remaining set × (IsAmong few set → ⊥)
  come_is set there = missing_is few remaining edit.add comes set there

  -- a set that stays as it is has a key of neither list
  stays_out : (set : RecordSet) → IsAmong few set → IsAmong remaining set
      → (IsKeyOf edit.remove (key_of set) → ⊥) × (IsThere edit.add (key_of set) → ⊥)
  stays_out set there also = (
    (λ named.
        let of = key_goes (key_of set) named in
        let is = gone_is of.0 of.1 in
        is.1 (subst (λ s. IsAmong remaining s) (sym (one_set few rising_few of.0 set is.0 there
        of.2))
        also)),
    (λ come.
        let is = come_is come.0 come.1.there in
        is.1 (subst (λ s. IsAmong few s)
        (sym (one_set remaining still.rising come.0 set is.0 also come.1.same_key)) there)),
  )

  -- nor has a set of another name
  spared_out : (set : RecordSet) → named set ≡ false
      → (IsKeyOf edit.remove (key_of set) → ⊥) × (IsThere edit.add (key_of set) → ⊥)
  spared_out set absent = (
    (λ of_it.
        let of = key_goes (key_of set) of_it in
        let good = (few_in of.0 (gone_is of.0 of.1).0).1 in
        let same : named of.0 ≡ named set = ap (λ (k : SetKey). names changes k.name) of.2 in
        grind (arith, good, same, absent)),
    (λ come.
        let good = remaining_named come.0 (come_is come.0 come.1.there).0 in
        let same : named come.0 ≡ named set =
        ap (λ (k : SetKey). names changes k.name) come.1.same_key in
        grind (arith, good, same, absent)),
  )

  stays_in : (set : RecordSet) → IsAmong sets set
      → ((IsKeyOf edit.remove (key_of set) → ⊥) × (IsThere edit.add (key_of set) → ⊥))
      → IsAmong after set
  stays_in set there out =
      in_with_all edit.add (without_all edit.remove sets) set
      (in_without_all edit.remove sets set there out.0) out.1

  -- what remains is after the edit
  pub remains_after : (set : RecordSet) → IsAmong remaining set → IsAmong after set
  remains_after set there = elim (missing_either few remaining edit.add comes set there) [
    | inl old ↦ stays_in set (few_in set old).0 (stays_out set old there)
    | inr new ↦
        new_with_all edit.add (without_all edit.remove sets) set
        (keys_apart edit.add rising_add) new
  ]

  spared_after : (set : RecordSet) → IsAmong sets set → named set ≡ false → IsAmong after set
  spared_after set there absent = stays_in set there (spared_out set absent)

  after_either : (set : RecordSet) → IsAmong after set
      → IsAmong remaining set ⊎ (IsAmong sets set × (named set ≡ false))
  after_either set there =
      elim (of_with_all edit.add (without_all edit.remove sets) set there) [
        | inl new ↦ inl (come_is set new).0
        | inr old ↦
            (let is = of_without_all edit.remove sets set old.0 in
            by is.0 is.1 (named set) refl)
      ]
    where
      by : IsAmong sets set → (IsKeyOf edit.remove (key_of set) → ⊥) → (b : Bool) → named set ≡ b
          → IsAmong remaining set ⊎ (IsAmong sets set × (named set ≡ false))
      by here stays true e = elim (missing_either remaining few gone goes set (in_few set here e)) [
        | inl remains ↦ inl remains
        | inr goes_too ↦ absurd (stays (gone_goes set goes_too))
      ]
      by here stays false e = inr (here, e)

  pub named_after : (set : RecordSet) → IsAmong after set → named set ≡ true → IsAmong remaining set
  named_after set there good = elim (after_either set there) [
    | inl remains ↦ remains
    | inr other ↦ (let absent = other.1 in absurd (grind (arith, good, absent)))
  ]

  named_part : named_in changes after ≡ remaining
  named_part =
      same_sets (named_in changes after) remaining (rising_filtered named after rising_after)
      still.rising
      (λ set there. let is = of_filter named after set there in named_after set is.0 is.1)
      (λ set there. in_filter named after set (remains_after set there) (remaining_named set there))

  unnamed_part : unnamed_in changes after ≡ unnamed_in changes sets
  unnamed_part =
      same_sets (unnamed_in changes after) (unnamed_in changes sets)
      (rising_filtered unnamed after rising_after) (rising_filtered unnamed sets zone.rising) to
      from
    where
      not_named : (set : RecordSet) → unnamed set ≡ true → named set ≡ false
      not_named set e = by (named set) refl
        where
          by : (b : Bool) → named set ≡ b → named set ≡ false
          by true f = (let g = ap not f in absurd (grind (arith, e, g)))
          by false f = f

      to : (set : RecordSet) → IsAmong (unnamed_in changes after) set
          → IsAmong (unnamed_in changes sets) set
      to set there =
          let is = of_filter unnamed after set there in
          elim (after_either set is.0) [
            | inl remains ↦
                (let good = remaining_named set remains in
                let absent = not_named set is.1 in
                absurd (grind (arith, good, absent)))
            | inr old ↦ in_filter unnamed sets set old.0 is.1
          ]

      from : (set : RecordSet) → IsAmong (unnamed_in changes sets) set
          → IsAmong (unnamed_in changes after) set
      from set there =
          let is = of_filter unnamed sets set there in
          in_filter unnamed after set (spared_after set is.0 (not_named set is.1)) is.1

  zone_after : IsZone after apex
  zone_after = record {
    rising = rising_after;
    inside = all_in (λ set. EndsWith set.name apex) after
        (λ set there. elim (after_either set there) [
          | inl remains ↦
              in_all (λ (s : RecordSet). EndsWith s.name apex) remaining set still.inside remains
          | inr old ↦ in_all (λ (s : RecordSet). EndsWith s.name apex) sets set zone.inside old.0
        ]);
  }

  pub prepared : NamesDecide → MeetsAll rules sets apex → Prepares sets apex changes (Ok after)
  prepared law sound =
      (law.made sets apex changes after zone sound).1 (
        subst (λ s. Prepares s apex changes (Ok (named_in changes after))) few_is
            (subst (λ s. Prepares few apex changes (Ok s)) (sym named_part) (limits, left, meets)),
        unnamed_part,
        zone_after,
      )

  pub whole_difference : IsDifference sets after edit.remove edit.add
  whole_difference = record {
    goes = (
      gone,
      missing_of_all named remaining after sets gone
          (λ set good. (remains_after set, λ there. named_after set there good)) spared_after
          (subst (λ s. AreMissing s remaining gone) few_is goes),
      keys,
    );
    comes = missing_of_all named few sets after edit.add
        (λ set good. ((λ there. (few_in set there).0), λ there. in_few set there good))
        (λ set there absent. elim (after_either set there) [
          | inl remains ↦
              (let good = remaining_named set remains in absurd (grind (arith, good, absent)))
          | inr old ↦ old.0
        ])
        (subst (λ s. AreMissing s few edit.add) (sym named_part) comes);
  }

  come_of_change : (set : RecordSet) → IsAmong edit.add set → OfChange changes set
  come_of_change set there =
      let is = come_is set there in
      elim (of_leaves apex changes few remaining left set is.0) [
        | inl old ↦ absurd (is.1 old)
        | inr of ↦ of
      ]

  pub of_changes : AreOfChanges changes edit
  of_changes = record { keys = its; sets = come_of_change }
    where
      its : (key : SetKey) → IsKeyOf edit.remove key → OfKey changes key
      its key there =
          let of = key_goes key there in
          let is = gone_is of.0 of.1 in
          elim (kept_by_leaves apex changes few remaining left of.0 is.0) [
            | inl stays ↦ absurd (is.1 stays)
            | inr change ↦ (change.0, change.1, change.2 ∙ of.2)
          ]

  spelled : AllByRecursion HasBoundedSet changes → (set : RecordSet) → OfChange changes set
      → HasSpelling set
  spelled bounded set (change, there, e) =
      let its : IsBoundedSet change.set = in_all HasBoundedSet changes change bounded there in
      let at = place_of changes change there in
      subst HasSpelling e (record {
        routing = its.routing;
        body = its.body;
        of_type = its.of_type;
        short = elim (below_or_not most_octets (length (set_octets change.set))) [
          | inl long ↦ absurd (limits.octets (at.0, change, at.1, long))
          | inr short ↦ short
        ];
      })

  pub can_change : AllByRecursion HasBoundedSet changes → (placed : List Slotted)
      → sets_of placed ≡ sets → CanChange apex placed edit.remove edit.add
  can_change bounded placed are = record {
    there = subst (λ s. AreThere s edit.remove) (sym are)
        (subst (λ k. AreThere sets k) (sym keys)
        (are_there sets gone rising_gone (λ set there. (few_in set (gone_is set there).0).0)));
    added = record {
      each = all_in (λ set. CanStand apex set) edit.add
          (λ set there. record {
            inside = in_all (λ (s : RecordSet). EndsWith s.name apex) remaining set still.inside
                (come_is set there).0;
            spelled = spelled bounded set (come_of_change set there);
          });
      differ = keys_apart edit.add rising_add;
    };
    new = all_in (λ set. IsThere (sets_of placed) (key_of set) → IsKeyOf edit.remove (key_of set))
        edit.add (λ set there was. replaces set there (subst (λ s. IsThere s
        (key_of set)) are was));
  }
    where
      replaces : (set : RecordSet) → IsAmong edit.add set → IsThere sets (key_of set)
          → IsKeyOf edit.remove (key_of set)
      replaces set there (old, keeps) =
          let is = come_is set there in
          let good : named old ≡ true =
          ap (λ (k : SetKey). names changes k.name) keeps.same_key ∙ remaining_named set is.0 in
          let here = in_few old keeps.there good in
          elim (missing_either remaining few gone goes old here) [
            | inl remains ↦
                absurd (is.1 (subst (λ s. IsAmong few s)
                (one_set remaining still.rising old set remains is.0 keeps.same_key) here))
            | inr went ↦ subst (λ k. IsKeyOf edit.remove k) keeps.same_key (gone_goes old went)
          ]

-- ---- of a table of zones

zone_is : SetsOfOne → (zones : List Zone) (id : ℕ) (apex : List (List ℕ)) → AreZones zones
    → IsApex zones id apex → IsZone (sets_of (placed_in zones id)) apex
zone_is law zones id apex are (zone, there, its_id, its_apex) =
    let alone : StandsAlone zone = in_all StandsAlone zones zone are.each there in
    let placed : placed_in zones id ≡ zone.placed =
    subst (λ n. placed_in zones n ≡ zone.placed) its_id (law zones zone are.listed there) in
    subst (λ (p : List Slotted). IsZone (sets_of p) apex) (sym placed)
    (subst (λ a. IsZone (sets_of zone.placed) a) its_apex (record {
      rising = alone.sets.rising;
      inside = all_in (λ set. EndsWith set.name zone.apex) (sets_of zone.placed)
          (λ set at.
          let p = placed_with zone.placed set at in
          let can = in_all (λ (q : Slotted). CanStand zone.apex q.set) zone.placed p.0 alone.each
          p.1 in
          subst (λ s. EndsWith s.name zone.apex) p.2 can.inside);
    }))

few_zone : (f : RecordSet → Bool) (sets : List RecordSet) (apex : List (List ℕ)) → IsZone sets apex
    → IsZone (filter f sets) apex
few_zone f sets apex zone = record {
  rising = rising_filtered f sets zone.rising;
  inside = all_in (λ set. EndsWith set.name apex) (filter f sets)
      (λ set there.
      in_all (λ (s : RecordSet). EndsWith s.name apex) sets set zone.inside
      (of_filter f sets set there).0);
}

module _ (law : NamesDecide) (one : OneApex) (of_one : SetsOfOne) (zones : List Zone) (id : ℕ)
    (apex : List (List ℕ)) (changes : List Change) (few : List RecordSet) (are : AreZones zones)
    (its : IsApex zones id apex) (few_is : few ≡ named_in changes (sets_of
    (placed_in zones id))) where
  abbrev whole : List RecordSet
  whole = sets_of (placed_in zones id)

  -- the sets of the names are those of a zone
  pub few_of_zone : IsZone few apex
  few_of_zone =
      subst (λ s. IsZone s apex) (sym few_is)
      (few_zone (λ (set : RecordSet). names changes set.name) whole apex
      (zone_is of_one zones id apex are its))

  module _ (sound : MeetsRules zones id) where
    pub refused_whole : (why : BatchRefusal) → Prepares few apex changes (Err why)
        → (other : List (List ℕ)) → IsApex zones id other → Prepares whole other changes (Err why)
    refused_whole why refused other others =
        subst (λ a. Prepares whole a changes (Err why)) (one zones id apex other are its others)
        ((law.refused whole apex changes why (zone_is of_one zones id apex are its)
        (sound apex its)).1
        (subst (λ s. Prepares s apex changes (Err why)) few_is refused))

    module _ (bounded : AllByRecursion HasBoundedSet changes) (remaining : List RecordSet)
        (edit : Edit)
        (makes : Prepares few apex changes (Ok remaining)) (still : IsZone remaining apex)
        (difference : IsDifference few remaining edit.remove edit.add) where
      edited : EditsOrNot zones id apex changes (Ok edit)
      edited =
          let zone = zone_is of_one zones id apex are its in
          let gone = difference.goes in (
            record {
              after = prepared whole apex changes few remaining gone.0 edit zone few_is makes.0
                  makes.1
                  makes.2 still gone.1 gone.2 difference.comes law (sound apex its);
              difference = whole_difference whole apex changes few remaining gone.0 edit zone few_is
                  makes.0 makes.1 makes.2 still gone.1 gone.2 difference.comes;
              named = of_changes whole apex changes few remaining gone.0 edit zone few_is makes.0
                  makes.1 makes.2 still gone.1 gone.2 difference.comes;
            },
            (
              (its.0, its.1, its.2),
              λ other others.
                  subst (λ a. CanChange a (placed_in zones id) edit.remove edit.add)
                  (one zones id apex other are its others)
                  (can_change whole apex changes few remaining gone.0 edit zone few_is makes.0
                  makes.1
                  makes.2 still gone.1 gone.2 difference.comes bounded (placed_in zones id) refl),
            ),
          )

      pub edited_whole : (other : List (List ℕ)) → IsApex zones id other
          → EditsOrNot zones id other changes (Ok edit)
      edited_whole other others =
          subst (λ a. EditsOrNot zones id a changes (Ok edit))
          (one zones id apex other are its others)
          edited
