-- The rules that sets meet together, on the sets of some names.
use Rattle.std.proofs.Common.{◌≡◌, ℕ, ◌<◌, List, [], ◌∷◌, ap, ◌∙◌, sym, refl, subst, Bool, true}
use Rattle.std.proofs.Common.{false, not, Some, length, arith, inl, inr}
use Rattle.std.specs.Prelude.{slice_get, ◌==◌}
use Rattle.std.specs.List.{filter}
use Rattle.std.proofs.lemmas.Bool.Decides.{Decides-eqb, Decides-and}
use Rattle.std.proofs.lemmas.Option.{slice_get_within}
use Rattle.dns_name.specs.Order.{same_labels}
use Rattle.dns_name.specs.OrderLaws.{same_labels-Decides}
use Rattle.rdata_layout.specs.declared.types.RType.{RType}
use Rattle.rdata_layout.specs.Types.{number_of}
use Rattle.batch_model.specs.RecordSetRecord.{RecordSet}
use Rattle.batch_model.specs.Rules.{Rule, OnePolicy, CnameAlone, OwnPlace, GroupSize, Breaks}
use Rattle.batch_model.specs.Rules.{BreaksAt, HasCname, HasOtherType, IsFirstBreak, MeetsAll}
use Rattle.batch_model.specs.Rules.{NoneBreaksBefore, rules, rules_before}
use Rattle.zone_table.specs.Sets.{AreOneGroup, group, is_of_group}
use Rattle.batch_names.proofs.Filtered.{absorbed, in_filter, of_filter, rank, at_rank, Stood, stood}
use Rattle.batch_names.proofs.Filtered.{rank_below, earlier}

module _ (kept : (name : List (List ℕ)) → Bool) where
  -- a set's name is one of those that are kept
  abbrev pub keeps : RecordSet → Bool
  keeps set = kept set.name

  alike : (set other : RecordSet) → set.name ≡ other.name → keeps set ≡ true → keeps other ≡ true
  alike set other e good = ap kept (sym e) ∙ good

  -- ---- a rule at one set

  module _ (sets : List RecordSet) (apex : List (List ℕ)) where
    abbrev few : List RecordSet
    few = filter keeps sets

    abbrev place : ℕ → ℕ
    place i = rank keeps sets i

    has_cname : (name : List (List ℕ)) → kept name ≡ true → HasCname sets name → HasCname few name
    has_cname name good (set, there, its_name, its_type) =
        (set, in_filter keeps sets set there (ap kept its_name ∙ good), its_name, its_type)

    had_cname : (name : List (List ℕ)) → HasCname few name → HasCname sets name
    had_cname name (set, there, its_name, its_type) =
        (set, (of_filter keeps sets set there).0, its_name, its_type)

    has_other : (name : List (List ℕ)) → kept name ≡ true → HasOtherType sets name
        → HasOtherType few name
    has_other name good (set, there, its_name, its_type) =
        (set, in_filter keeps sets set there (ap kept its_name ∙ good), its_name, its_type)

    had_other : (name : List (List ℕ)) → HasOtherType few name → HasOtherType sets name
    had_other name (set, there, its_name, its_type) =
        (set, (of_filter keeps sets set there).0, its_name, its_type)

    -- a group of a name that is kept is whole
    one_group : (name : List (List ℕ)) (rtype : RType) → kept name ≡ true
        → group few name rtype ≡ group sets name rtype
    one_group name rtype good = absorbed (is_of_group name rtype) keeps so sets
      where
        so : (set : RecordSet) → is_of_group name rtype set ≡ true → keeps set ≡ true
        so set e =
            let both =
            (Decides-and (same_labels name set.name) (number_of rtype == number_of set.rtype)
            (same_labels-Decides name set.name)
            (Decides-eqb (number_of rtype) (number_of set.rtype))).0 e in
            ap kept (sym both.0) ∙ good

    -- a set that is kept breaks a rule among those that are kept where it does among all
    pub breaks_few : (rule : Rule) (i : ℕ) (set : RecordSet) → slice_get sets i ≡ Some set
        → keeps set ≡ true → Breaks rule sets apex i set → Breaks rule few apex (place i) set
    breaks_few OnePolicy i set at_i good b =
        let before_kept = alike set b.set_before (sym b.one_group.name) good in
        record {
          at = place b.at;
          earlier = rank_below keeps sets b.at i b.set_before b.there before_kept b.earlier;
          set_before = b.set_before;
          there = at_rank keeps sets b.at b.set_before b.there before_kept;
          one_group = b.one_group;
          nearest = nearest;
          differs = b.differs;
        }
      where
        nearest : (k : ℕ) (other : RecordSet) → place b.at < k → k < place i
            → slice_get few k ≡ Some other → AreOneGroup other set → ⊥
        nearest k other low high at_k g =
            let s = stood keeps sets k other at_k in
            let ranked = s.ranked in
            b.nearest s.at other (earlier keeps sets b.at s.at (omega (arith, low, ranked)))
            (earlier keeps sets s.at i (omega (arith, high, ranked))) s.there g
    breaks_few CnameAlone i set at_i good (cname, why) = (
      has_cname set.name good cname,
      elim why [ inl other ↦ inl (has_other set.name good other) | inr e ↦ inr e ],
    )
    breaks_few OwnPlace i set at_i good b =
        let other_kept = alike set b.other (sym b.one_group.name) good in
        record {
          at = place b.at;
          earlier = rank_below keeps sets b.at i b.other b.there other_kept b.earlier;
          other = b.other;
          there = at_rank keeps sets b.at b.other b.there other_kept;
          one_group = b.one_group;
          one_place = b.one_place;
        }
    breaks_few GroupSize i set at_i good b =
        subst (λ (g : List RecordSet). 100 < length g) (sym (one_group set.name set.rtype good)) b

    pub breaks_all : (rule : Rule) (i : ℕ) (set : RecordSet) → slice_get sets i ≡ Some set
        → keeps set ≡ true → Breaks rule few apex (place i) set → Breaks rule sets apex i set
    breaks_all OnePolicy i set at_i good b =
        let s = stood keeps sets b.at b.set_before b.there in
        let low = b.earlier in
        let ranked = s.ranked in
        record {
          at = s.at;
          earlier = earlier keeps sets s.at i (omega (arith, low, ranked));
          set_before = b.set_before;
          there = s.there;
          one_group = b.one_group;
          nearest = nearest s;
          differs = b.differs;
        }
      where
        nearest : (s : Stood keeps sets b.at b.set_before) (k : ℕ) (other : RecordSet) → s.at < k
            → k < i → slice_get sets k ≡ Some other → AreOneGroup other set → ⊥
        nearest s k other low high at_k g =
            let other_kept = alike set other (sym g.name) good in
            let first = rank_below keeps sets s.at k b.set_before s.there s.passed low in
            let ranked = s.ranked in
            b.nearest (place k) other (omega (arith, first, ranked))
            (rank_below keeps sets k i other at_k other_kept high)
            (at_rank keeps sets k other at_k other_kept) g
    breaks_all CnameAlone i set at_i good (cname, why) = (
      had_cname set.name cname,
      elim why [ inl other ↦ inl (had_other set.name other) | inr e ↦ inr e ],
    )
    breaks_all OwnPlace i set at_i good b =
        let s = stood keeps sets b.at b.other b.there in
        let low = b.earlier in
        let ranked = s.ranked in
        record {
          at = s.at;
          earlier = earlier keeps sets s.at i (omega (arith, low, ranked));
          other = b.other;
          there = s.there;
          one_group = b.one_group;
          one_place = b.one_place;
        }
    breaks_all GroupSize i set at_i good b =
        subst (λ (g : List RecordSet). 100 < length g) (one_group set.name set.rtype good) b

    -- the same, of a place among those that are kept
    pub broken_all : (rule : Rule) (k : ℕ) → BreaksAt rule few apex k
        → (i : ℕ) × (set : RecordSet) × (slice_get sets i ≡ Some set) × (keeps set ≡ true) ×
        (place i ≡ k)
        × Breaks rule sets apex i set
    broken_all rule k (set, at_k, b) =
        let s = stood keeps sets k set at_k in (
          s.at,
          set,
          s.there,
          s.passed,
          s.ranked,
          breaks_all rule s.at set s.there s.passed
              (subst (λ n. Breaks rule few apex n set) (sym s.ranked) b),
        )

    -- ---- all sets

    pub none_few : (rule : Rule) → NoneBreaksBefore rule sets apex (length sets)
        → NoneBreaksBefore rule few apex (length few)
    none_few rule none k lt broken =
        let r = broken_all rule k broken in
        none r.0 (slice_get_within sets r.0 r.1 r.2) (r.1, r.2, r.5)

    pub meets_few : (some : List Rule) → MeetsAll some sets apex → MeetsAll some few apex
    meets_few [] meets = meets
    meets_few (rule ∷ some) meets = (none_few rule meets.0, meets_few some meets.1)

-- ---- the sets of some names, and all others

-- all rules are among those that are looked at
pub meets_each : (rule : Rule) (sets : List RecordSet) (apex : List (List ℕ))
    → MeetsAll rules sets apex
    → NoneBreaksBefore rule sets apex (length sets)
meets_each OnePolicy sets apex meets = meets.0
meets_each CnameAlone sets apex meets = meets.1.0
meets_each OwnPlace sets apex meets = meets.1.1.0
meets_each GroupSize sets apex meets = meets.1.1.1.0

pub meets_before : (rule : Rule) (sets : List RecordSet) (apex : List (List ℕ))
    → MeetsAll rules sets apex → MeetsAll (rules_before rule) sets apex
meets_before OnePolicy sets apex meets = tt
meets_before CnameAlone sets apex meets = (meets.0, tt)
meets_before OwnPlace sets apex meets = (meets.0, (meets.1.0, tt))
meets_before GroupSize sets apex meets = (meets.0, (meets.1.0, (meets.1.1.0, tt)))

module _ (kept : (name : List (List ℕ)) → Bool) (sets : List RecordSet) (apex : List (List ℕ)) where
  abbrev ours : List RecordSet
  ours = filter (keeps kept) sets

  -- the test of all other names
  abbrev pub spared : (name : List (List ℕ)) → Bool
  spared name = not (kept name)

  abbrev theirs : List RecordSet
  theirs = filter (keeps spared) sets

  -- a set of the other names breaks no rule that these meet
  spared_meet : (rule : Rule) → NoneBreaksBefore rule theirs apex (length theirs) → (i : ℕ)
      (set : RecordSet) → slice_get sets i ≡ Some set → kept set.name ≡ false
      → Breaks rule sets apex i set → ⊥
  spared_meet rule none i set at_i e b =
      let other : spared set.name ≡ true = ap not e in
      let at_rank_i = at_rank (keeps spared) sets i set at_i other in
      none (rank (keeps spared) sets i)
      (slice_get_within theirs (rank (keeps spared) sets i) set at_rank_i)
      (set, at_rank_i, breaks_few spared sets apex rule i set at_i other b)

  none_both : (rule : Rule) → NoneBreaksBefore rule ours apex (length ours)
      → NoneBreaksBefore rule theirs apex (length theirs)
      → NoneBreaksBefore rule sets apex (length sets)
  none_both rule none others i lt (set, at_i, b) = by (kept set.name) refl
    where
      by : (t : Bool) → kept set.name ≡ t → ⊥
      by true e =
          let at_rank_i = at_rank (keeps kept) sets i set at_i e in
          none (rank (keeps kept) sets i)
          (slice_get_within ours (rank (keeps kept) sets i) set at_rank_i)
          (set, at_rank_i, breaks_few kept sets apex rule i set at_i e b)
      by false e = spared_meet rule others i set at_i e b

  pub meets_both : (some : List Rule) → MeetsAll some ours apex → MeetsAll some theirs apex
      → MeetsAll some sets apex
  meets_both [] meets others = tt
  meets_both (rule ∷ some) meets others =
      (none_both rule meets.0 others.0, meets_both some meets.1 others.1)

  -- where the other names meet the rules, the first set that breaks one is of these names
  module _ (others : MeetsAll rules theirs apex) (rule : Rule) (set : RecordSet) where
    pub first_few : IsFirstBreak rule sets apex set → IsFirstBreak rule ours apex set
    first_few f = by (kept set.name) refl
      where
        first : (k : ℕ) → k < rank (keeps kept) sets f.at → BreaksAt rule ours apex k → ⊥
        first k lt broken =
            let r = broken_all kept sets apex rule k broken in
            let ranked = r.4 in
            f.first r.0 (earlier (keeps kept) sets r.0 f.at (omega (arith, lt, ranked)))
            (r.1, r.2, r.5)

        by : (t : Bool) → kept set.name ≡ t → IsFirstBreak rule ours apex set
        by true e = record {
          earlier_rules = meets_few kept sets apex (rules_before rule) f.earlier_rules;
          at = rank (keeps kept) sets f.at;
          there = at_rank (keeps kept) sets f.at set f.there e;
          breaks = breaks_few kept sets apex rule f.at set f.there e f.breaks;
          first = first;
        }
        by false e =
            absurd (spared_meet rule (meets_each rule theirs apex others) f.at set f.there e
            f.breaks)

    pub first_all : IsFirstBreak rule ours apex set → IsFirstBreak rule sets apex set
    first_all f =
        let s = stood (keeps kept) sets f.at set f.there in
        record {
          earlier_rules = meets_both (rules_before rule) f.earlier_rules
              (meets_before rule theirs apex others);
          at = s.at;
          there = s.there;
          breaks = breaks_all kept sets apex rule s.at set s.there s.passed
              (subst (λ n. Breaks rule ours apex n set) (sym s.ranked) f.breaks);
          first = first s;
        }
      where
        first : (s : Stood (keeps kept) sets f.at set) → (i : ℕ) → i < s.at
            → BreaksAt rule sets apex i → ⊥
        first s i lt (other, at_i, b) = by (kept other.name) refl
          where
            by : (t : Bool) → kept other.name ≡ t → ⊥
            by true e =
                let low = rank_below (keeps kept) sets i s.at other at_i e lt in
                let ranked = s.ranked in
                f.first (rank (keeps kept) sets i) (omega (arith, low, ranked)) (
                  other,
                  at_rank (keeps kept) sets i other at_i e,
                  breaks_few kept sets apex rule i other at_i e b,
                )
            by false e =
                spared_meet rule (meets_each rule theirs apex others) i other at_i e b
