-- What an index says of a set is what the test of keys says of the set's key.
use Rattle.std.proofs.Common.{◌≡◌, ℕ, Bool, true, false, List, [], ◌∷◌, ap, sym, refl, subst, ◌∙◌, inl, inr, arith}
use Rattle.std.specs.Prelude.{◌&&◌, ◌||◌, Some, map}
use Rattle.std.specs.List.{AllByRecursion, list_any}
use Rattle.std.specs.Ordering.{is_eq}
use Rattle.std.specs.declared.cmp.Ordering.{Ordering}
use Rattle.std.specs.declared.cmp.Ordering.TheVariants.{Less, Equal, Greater}
use Rattle.std.proofs.lemmas.Cmp.{tied_itself}
use Rattle.std.proofs.lemmas.Bool.{false≢true}
use Rattle.check_model.specs.Checks.{Checks, check_with}
use Rattle.check_model.specs.declared.checks.Check.{Check}
use Rattle.check_model.specs.declared.checks.Check.TheVariants.{Endpoint, Calculated}
use Rattle.config_edits.specs.Laws.{hosted_in}
use Rattle.config_edits.specs.Configs.{Config}
use Rattle.engine_model.specs.Engine.{is_healthy, watched_in}
use Rattle.health_index.proofs.Truth.{zone_sets}
use Rattle.health_index.specs.Later.{IsLaterAt, HasThreshold}
use Rattle.health_index.specs.Laws.{IndexTells}
use Rattle.health_index.specs.Wired.{watched_of, watched_zone}
use Rattle.health_model.specs.Healthy.{Watched, healthy, sets_of as sets_at}
use Rattle.health_model.specs.Statuses.{Report}
use Rattle.record_set.specs.Sets.{key_of}
use Rattle.record_set.specs.declared.sets.RecordSet.{RecordSet}
use Rattle.sound_configs.specs.Laws.{IndexServes, SameAreLater}
use Rattle.config_edits.specs.Zones.{AreZones, Zone, placed_in}
use Rattle.config_edits.specs.SetRefRecord.{SetRef}
use Rattle.zone_model.proofs.Ordered.{keys_tie, keys_total}
use Rattle.zone_model.specs.Hosted.{HostedZone}
use Rattle.zone_model.specs.Keys.{key_cmp}
use Rattle.zone_model.specs.Slotted.{Slotted, sets_of}
use Rattle.zone_model.specs.Zones.{IsAmong, IsRising}
use Rattle.config_edits.proofs.Holding.{kept_in}
use Rattle.config_edits.specs.Looking.{RefersTo}

-- ---- one set has a key

is_tie : (o : Ordering) → is_eq o ≡ true → o ≡ Equal
is_tie Less e = absurd (false≢true e)
is_tie Equal e = refl
is_tie Greater e = absurd (false≢true e)

by_both : (b c : Bool) → (b ≡ true → c ≡ false) → b && c ≡ false
by_both true c none = none refl
by_both false c none = refl

module _ (h : RecordSet → Bool) where
  abbrev with_key : RecordSet → RecordSet → Bool
  with_key set other = is_eq (key_cmp (key_of other) (key_of set)) && h other

  -- no set behind one in zone order has its key
  none_behind : (set : RecordSet) (sets : List RecordSet)
      → AllByRecursion (λ (later : RecordSet). key_cmp (key_of set) (key_of later) ≡ Less) sets
      → list_any (with_key set) sets ≡ false
  none_behind set [] behind = refl
  none_behind set (other ∷ sets) behind =
      rw (by_both (is_eq (key_cmp (key_of other) (key_of set))) (h other) other_key) (none_behind set sets behind.1)
    where
      other_key : is_eq (key_cmp (key_of other) (key_of set)) ≡ true → h other ≡ false
      other_key e =
          let same = keys_tie (key_of other) (key_of set)
          (is_tie (key_cmp (key_of other) (key_of set)) e) in
          let tied = tied_itself keys_total (key_of set) in
          let less = subst (λ k. key_cmp (key_of set) k ≡ Less) same behind.0 in
          absurd (grind (arith, tied, less))

  -- so the one of a set's key is the set
  any_of_key : (sets : List RecordSet) → IsRising sets → (set : RecordSet) → IsAmong sets set
      → list_any (with_key set) sets ≡ h set
  any_of_key [] rising set among = absurd among
  any_of_key (first ∷ sets) rising set (inl is) =
      subst (λ (s : RecordSet). list_any (with_key s) (first ∷ sets) ≡ h s) is itself
    where
      or_none : (b : Bool) → b || false ≡ b
      or_none true = refl
      or_none false = refl

      itself : list_any (with_key first) (first ∷ sets) ≡ h first
      itself = rw (tied_itself keys_total (key_of first), none_behind first sets rising.0) (or_none (h first))
  any_of_key (first ∷ sets) rising set (inr among) =
      rw less (any_of_key sets rising.1 set among)
    where
      less : key_cmp (key_of first) (key_of set) ≡ Less
      less = behind sets rising.0 among
        where
          behind : (later : List RecordSet)
              → AllByRecursion (λ (s : RecordSet). key_cmp (key_of first) (key_of s) ≡ Less) later
              → IsAmong later set → key_cmp (key_of first) (key_of set) ≡ Less
          behind [] all there = absurd there
          behind (s ∷ later) all (inl e) =
              subst (λ (t : RecordSet). key_cmp (key_of first) (key_of t) ≡ Less) e all.0
          behind (s ∷ later) all (inr there) = behind later all.1 there

-- ---- the zones of a configuration, with slots and without

pub watched_hosted : (zones : List Zone)
    → map (λ (zone : HostedZone). (zone.id, zone.sets)) (hosted_in zones) ≡ map watched_zone zones
watched_hosted [] = refl
watched_hosted (zone ∷ zones) = ap (λ rest. (zone.id, sets_of zone.placed) ∷ rest) (watched_hosted zones)

its_set : (placed : List Slotted) (p : Slotted) → IsAmong placed p → IsAmong (sets_of placed) p.set
its_set [] p there = there
its_set (q ∷ placed) p (inl is) = inl (ap (λ (r : Slotted). r.set) is)
its_set (q ∷ placed) p (inr there) = inr (its_set placed p there)

module _ (zones : List Zone) (config : Config) (reports : List Report)
    (same : config.zones ≡ hosted_in zones) where
  abbrev its : Watched
  its = watched_of zones config.checks

  abbrev is_well : Watched → (zone : ℕ) → RecordSet → Bool
  is_well watched zone set = healthy watched reports zone set

  pub seen : watched_in config ≡ its
  seen = ap (λ zs. record { zones = zs; checks = config.checks.list })
      (ap (map (λ (zone : HostedZone). (zone.id, zone.sets))) same ∙ watched_hosted zones)

  -- the test of keys tells the health of the set with the key
  by_key : AreZones zones → (set : SetRef) (named : RecordSet) → RefersTo zones set named
      → is_healthy config reports set.zone (key_of named) ≡ is_well its set.zone named
  by_key are set named names =
      subst (λ (w : Watched). list_any (with_key (is_well w set.zone) named) (sets_at w set.zone)
      ≡ is_well its set.zone named) (sym seen)
      (subst (λ (sets : List RecordSet). list_any (with_key (is_well its set.zone) named) sets
      ≡ is_well its set.zone named) (sym (zone_sets zones config.checks set.zone))
      (any_of_key (is_well its set.zone) (sets_of (placed_in zones set.zone))
      (kept_in zones are.each set.zone).rising named
      (its_set (placed_in zones set.zone) (record { slot = set.slot; set = named }) names)))

pub index_serves : IndexTells → IndexServes
index_serves tells zones config reports index same stands set named names =
    (tells zones config.checks reports index stands).sets set named names
    ∙ sym (by_key zones config reports same stands.are_zones set named names)

-- ---- checks that stay

has_threshold : (found : List (ℕ × Check)) (id threshold : ℕ) (inverted disabled : Bool)
    → check_with found id ≡ Some (Endpoint threshold inverted disabled)
    → HasThreshold (check_with found id) threshold
has_threshold list id threshold inverted disabled at =
    subst (λ o. HasThreshold o threshold) (sym at) refl

follows_at : (checks : Checks) (id : ℕ) (check : Check) → check_with checks.list id ≡ Some check
    → IsLaterAt checks id check
follows_at checks id (Endpoint threshold inverted disabled) at =
    inr (has_threshold checks.list id threshold inverted disabled at)
follows_at checks id (Calculated threshold inverted disabled children) at = tt

pub same_follow : SameAreLater
same_follow checks = record { next = omega arith; each = follows_at checks }
