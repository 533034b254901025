-- Zones after an edit, by their numbers.
use Rattle.std.proofs.Common.{◌≡◌, ◌≢◌, ℕ, ◌<◌, Bool, true, false, cond, List, [], ◌∷◌, ◌++◌, map, ap, ◌∙◌}
use Rattle.std.proofs.Common.{sym, refl, subst, arith, inl, inr}
use Rattle.std.specs.Prelude.{◌==◌, ◌⊎◌, not}
use Rattle.std.specs.List.{AllByRecursion, filter}
use Rattle.std.specs.declared.cmp.Ordering.TheVariants.{Equal, Less}
use Rattle.std.proofs.lemmas.Cmp.{tied_itself}
use Rattle.std.proofs.lemmas.Bool.{cases_eq, eq-eqb, false≢true}
use Rattle.std.proofs.lemmas.Bool.Decides.{Decides-eqb}
use Rattle.config_model.specs.Sets.{key_of}
use Rattle.config_model.specs.RecordSetRecord.{RecordSet}
use Rattle.config_model.specs.SetKeyRecord.{SetKey}
use Rattle.zone_table.proofs.Equation.{new_with_all, of_with_all, with_all_rises}
use Rattle.zone_table.proofs.Listing.{its_placed, one_zone}
use Rattle.zone_table.proofs.Members.{Sorted, all_in, in_all, same_sets, sorted_same}
use Rattle.zone_table.specs.Changes.{DifferByKey, with_all, without_all}
use Rattle.zone_table.specs.Zones.{AreListed, AreZones, IsOne, IsZoneId, Zone, hosted, placed_in}
use Rattle.config_model.proofs.Ordered.{keys_total}
use Rattle.config_model.specs.Hosted.{HostedZone}
use Rattle.config_model.specs.Keys.{key_cmp}
use Rattle.config_model.specs.Slotted.{Slotted, sets_of}
use Rattle.config_model.specs.Zones.{IsAmong, IsRising}
use Rattle.zone_table.specs.Edits.{Edits}
use Rattle.zone_table.specs.Looking.{IsApex}
use Rattle.zone_table.specs.declared.edits.ZoneEdit.TheVariants.{Change, End, Begin}
use Rattle.zone_table.specs.declared.refs.Delta.{Delta}
use Rattle.config_model.specs.Configs.{with_sets, with_sets_at, without_zone}
use Rattle.config_edits.specs.Laws.{EditsAreTold, changed_in, hosted_in}

-- ---- lists

in_map : {X Y : Type 0} (f : X → Y) (xs : List X) (x : X) → IsAmong xs x → IsAmong (map f xs) (f x)
in_map f [] x there = absurd there
in_map f (y ∷ xs) x (inl e) = inl (ap f e)
in_map f (y ∷ xs) x (inr there) = inr (in_map f xs x there)

of_map : {X Y : Type 0} (f : X → Y) (xs : List X) (y : Y) → IsAmong (map f xs) y
    → (x : X) × IsAmong xs x × (f x ≡ y)
of_map f [] y there = absurd there
of_map f (x ∷ xs) y (inl e) = (x, inl refl, e)
of_map f (x ∷ xs) y (inr there) = let rest = of_map f xs y there in (rest.0, inr rest.1, rest.2)

module _ {X : Type 0} where
  in_front : (xs ys : List X) (x : X) → IsAmong xs x → IsAmong (xs ++ ys) x
  in_front [] ys x there = absurd there
  in_front (y ∷ xs) ys x (inl e) = inl e
  in_front (y ∷ xs) ys x (inr there) = inr (in_front xs ys x there)

  in_back : (xs ys : List X) (x : X) → IsAmong ys x → IsAmong (xs ++ ys) x
  in_back [] ys x there = there
  in_back (y ∷ xs) ys x there = inr (in_back xs ys x there)

  of_both : (xs ys : List X) (x : X) → IsAmong (xs ++ ys) x → IsAmong xs x ⊎ IsAmong ys x
  of_both [] ys x there = inr there
  of_both (y ∷ xs) ys x (inl e) = inl (inl e)
  of_both (y ∷ xs) ys x (inr there) = elim (of_both xs ys x there) [
    | inl front ↦ inl (inr front)
    | inr back ↦ inr back
  ]

  in_filter : (f : X → Bool) (xs : List X) (x : X) → IsAmong xs x → f x ≡ true
      → IsAmong (filter f xs) x
  in_filter f [] x there passes = there
  in_filter f (y ∷ xs) x (inl e) passes =
      subst (λ b. IsAmong (cond b (y ∷ filter f xs) (filter f xs)) x) (sym (ap f e ∙ passes)) (inl e)
  in_filter f (y ∷ xs) x (inr there) passes = by (f y) (in_filter f xs x there passes)
    where
      by : (b : Bool) → IsAmong (filter f xs) x → IsAmong (cond b (y ∷ filter f xs) (filter f xs)) x
      by true later = inr later
      by false later = later

  of_filter : (f : X → Bool) (xs : List X) (x : X) → IsAmong (filter f xs) x
      → IsAmong xs x × (f x ≡ true)
  of_filter f [] x there = absurd there
  of_filter f (y ∷ xs) x there = by (f y) refl (of_filter f xs x) there
    where
      by : (b : Bool) → f y ≡ b → (IsAmong (filter f xs) x → IsAmong xs x × (f x ≡ true))
          → IsAmong (cond b (y ∷ filter f xs) (filter f xs)) x → IsAmong (y ∷ xs) x × (f x ≡ true)
      by true e rest (inl same) = (inl same, ap f (sym same) ∙ e)
      by true e rest (inr later) = let is = rest later in (inr is.0, is.1)
      by false e rest later = let is = rest later in (inr is.0, is.1)

-- ---- zones by rising number

abbrev Lower : HostedZone → HostedZone → Type 0
Lower x y = x.id < y.id

one_way : (x y : HostedZone) → Lower x y → Lower y x → ⊥
one_way x y lower higher = omega (arith, lower, higher)

abbrev Rise : List HostedZone → Type 0
Rise zones = Sorted Lower one_way zones

mapped_all : (P : HostedZone → Type 0) (f : HostedZone → HostedZone) (zones : List HostedZone)
    → ((z : HostedZone) → P z → P (f z)) → AllByRecursion P zones → AllByRecursion P (map f zones)
mapped_all P f [] so all = tt
mapped_all P f (z ∷ zones) so all = (so z all.0, mapped_all P f zones so all.1)

filtered_all : (P : HostedZone → Type 0) (f : HostedZone → Bool) (zones : List HostedZone)
    → AllByRecursion P zones → AllByRecursion P (filter f zones)
filtered_all P f zones all =
    all_in P (filter f zones) (λ z there. in_all P zones z all (of_filter f zones z there).0)

hosted_rise : (zones : List Zone) → AreListed zones → Rise (hosted_in zones)
hosted_rise [] listed = tt
hosted_rise (zone ∷ zones) listed = (
  all_in (Lower (hosted zone)) (hosted_in zones) (λ z there. low z (of_map hosted zones z there)),
  hosted_rise zones listed.1,
)
  where
    low : (z : HostedZone) → (x : Zone) × IsAmong zones x × (hosted x ≡ z) → Lower (hosted zone) z
    low z (x, there, e) =
        let above = in_all (λ (other : Zone). (zone.id < other.id) × (zone.apex ≢ other.apex)) zones x
        listed.0 there in
        subst (λ (h : HostedZone). Lower (hosted zone) h) e above.0

-- a zone with other sets has its number
same_id : (id : ℕ) (sets : List RecordSet) (z : HostedZone) → (with_sets_at id sets z).id ≡ z.id
same_id id sets z = by (z.id == id)
  where
    by : (b : Bool) → (cond b (record z { sets = sets }) z).id ≡ z.id
    by true = refl
    by false = refl

with_sets_rise : (zones : List HostedZone) (id : ℕ) (sets : List RecordSet) → Rise zones
    → Rise (with_sets zones id sets)
with_sets_rise [] id sets rise = tt
with_sets_rise (z ∷ zones) id sets rise = (
  all_in (Lower (with_sets_at id sets z)) (with_sets zones id sets)
      (λ y there. low y (of_map (with_sets_at id sets) zones y there)),
  with_sets_rise zones id sets rise.1,
)
  where
    low : (y : HostedZone) → (x : HostedZone) × IsAmong zones x × (with_sets_at id sets x ≡ y)
        → Lower (with_sets_at id sets z) y
    low y (x, there, e) =
        let above = in_all (Lower z) zones x rise.0 there in
        let first = same_id id sets z in
        let second = same_id id sets x in
        subst (λ (h : HostedZone). Lower (with_sets_at id sets z) h) e
        (omega (arith, above, first, second))

without_rise : (zones : List HostedZone) (f : HostedZone → Bool) → Rise zones
    → Rise (filter f zones)
without_rise [] f rise = tt
without_rise (z ∷ zones) f rise = by (f z) (without_rise zones f rise.1)
  where
    by : (b : Bool) → Rise (filter f zones) → Rise (cond b (z ∷ filter f zones) (filter f zones))
    by true rest = (filtered_all (Lower z) f zones rise.0, rest)
    by false rest = rest

behind_rise : (zones : List HostedZone) (new : HostedZone) → Rise zones
    → ((z : HostedZone) → IsAmong zones z → Lower z new) → Rise (zones ++ new ∷ [])
behind_rise [] new rise below = (tt, tt)
behind_rise (z ∷ zones) new rise below = (
  all_in (Lower z) (zones ++ new ∷ []) (λ y there. low y (of_both zones (new ∷ []) y there)),
  behind_rise zones new rise.1 (λ y there. below y (inr there)),
)
  where
    low : (y : HostedZone) → IsAmong zones y ⊎ IsAmong (new ∷ []) y → Lower z y
    low y (inl front) = in_all (Lower z) zones y rise.0 front
    low y (inr (inl e)) = subst (λ (h : HostedZone). Lower z h) e (below z (inl refl))
    low y (inr (inr none)) = absurd none

-- ---- the zone of a number

-- with these sets where it has the number, and as it was where it hasn't
at_id : (id : ℕ) (sets : List RecordSet) (z : HostedZone) → z.id ≡ id
    → with_sets_at id sets z ≡ record z { sets = sets }
at_id id sets z e = by (z.id == id) refl
  where
    by : (b : Bool) → (z.id == id) ≡ b → cond b (record z { sets = sets }) z ≡ record z { sets = sets }
    by true f = refl
    by false f = absurd (false≢true (sym f ∙ eq-eqb z.id id e))

off_id : (id : ℕ) (sets : List RecordSet) (z : HostedZone) → z.id ≢ id
    → with_sets_at id sets z ≡ z
off_id id sets z ne = by (z.id == id) refl
  where
    by : (b : Bool) → (z.id == id) ≡ b → cond b (record z { sets = sets }) z ≡ z
    by true f = absurd (ne ((Decides-eqb z.id id).0 f))
    by false f = refl

-- the zone of a number and a name has the sets of the number
seen_as : (zones : List Zone) → AreListed zones → (x : Zone) → IsOne zones x
    → (id : ℕ) (name : List (List ℕ)) → x.id ≡ id → x.apex ≡ name
    → hosted x ≡ record { id = id; apex = name; sets = sets_of (placed_in zones id) }
seen_as zones listed x there id name its_id its_apex =
    ap (λ (n : ℕ). record { id = n; apex = x.apex; sets = sets_of x.placed }) its_id
    ∙ (ap (λ (a : List (List ℕ)). record { id = id; apex = a; sets = sets_of x.placed }) its_apex
    ∙ ap (λ (ps : List Slotted). record { id = id; apex = name; sets = sets_of ps })
    (sym (its_placed zones listed x there) ∙ ap (placed_in zones) its_id))

-- ---- a zone that is changed

module _ (before after : List Zone) (id : ℕ) (remove : List SetKey) (add : List RecordSet)
    (told : Delta) (are : AreZones before) (are_after : AreZones after)
    (there : IsZoneId before id) (edits : Edits before (Change id remove add) after told) where
  abbrev sets : List RecordSet
  sets = changed_in before id remove add

  -- the zone before and after
  zone_now : IsApex after id there.0.apex
  zone_now = edits.its.0 there.0.apex (there.0, there.1, there.2, refl)

  now_is : hosted zone_now.0 ≡ with_sets_at id sets (hosted there.0)
  now_is =
      seen_as after are_after.listed zone_now.0 zone_now.1 id there.0.apex zone_now.2 zone_now.3
      ∙ (ap (λ (s : List RecordSet). record { id = id; apex = there.0.apex; sets = s })
      edits.its.1.sets
      ∙ (ap (λ (n : ℕ). record { id = n; apex = there.0.apex; sets = sets }) (sym there.2)
      ∙ sym (at_id id sets (hosted there.0) there.2)))

  to_with : (z : HostedZone) → IsAmong (hosted_in after) z
      → IsAmong (with_sets (hosted_in before) id sets) z
  to_with z among =
      let x = of_map hosted after z among in
      elim (cases_eq x.0.id id) [
        | inl same ↦
            (let one : x.0 ≡ zone_now.0 = one_zone after are_after.listed x.0 zone_now.0 x.1
            zone_now.1 (same ∙ sym zone_now.2) in
            subst (λ (h : HostedZone). IsAmong (with_sets (hosted_in before) id sets) h)
            (sym now_is ∙ (ap hosted (sym one) ∙ x.2))
            (in_map (with_sets_at id sets) (hosted_in before) (hosted there.0)
            (in_map hosted before there.0 there.1)))
        | inr apart ↦
            subst (λ (h : HostedZone). IsAmong (with_sets (hosted_in before) id sets) h)
            (off_id id sets (hosted x.0) apart ∙ x.2)
            (in_map (with_sets_at id sets) (hosted_in before) (hosted x.0)
            (in_map hosted before x.0 ((edits.others x.0 apart).1 x.1)))
      ]

  from_with : (z : HostedZone) → IsAmong (with_sets (hosted_in before) id sets) z
      → IsAmong (hosted_in after) z
  from_with z among =
      let y = of_map (with_sets_at id sets) (hosted_in before) z among in
      let x = of_map hosted before y.0 y.1 in
      let e : with_sets_at id sets (hosted x.0) ≡ z = ap (with_sets_at id sets) x.2 ∙ y.2 in
      elim (cases_eq x.0.id id) [
        | inl same ↦
            (let one : x.0 ≡ there.0 = one_zone before are.listed x.0 there.0 x.1 there.1
            (same ∙ sym there.2) in
            subst (λ (h : HostedZone). IsAmong (hosted_in after) h)
            (now_is ∙ (ap (λ (w : Zone). with_sets_at id sets (hosted w)) (sym one) ∙ e))
            (in_map hosted after zone_now.0 zone_now.1))
        | inr apart ↦
            subst (λ (h : HostedZone). IsAmong (hosted_in after) h)
            (sym (off_id id sets (hosted x.0) apart) ∙ e)
            (in_map hosted after x.0 ((edits.others x.0 apart).0 x.1))
      ]

  changed : hosted_in after ≡ with_sets (hosted_in before) id sets
  changed =
      sorted_same Lower one_way (hosted_in after) (with_sets (hosted_in before) id sets)
      (hosted_rise after are_after.listed)
      (with_sets_rise (hosted_in before) id sets (hosted_rise before are.listed)) to_with from_with

-- ---- sets in zone order, placed among none

apart_by_key : (sets : List RecordSet) → IsRising sets → DifferByKey sets
apart_by_key [] rising = tt
apart_by_key (set ∷ sets) rising = (
  all_in (λ (other : RecordSet). key_of set ≢ key_of other) sets
      (λ other there. other_key (key_of set) (key_of other)
      (in_all (λ (later : RecordSet). key_cmp (key_of set) (key_of later) ≡ Less) sets other rising.0
      there)),
  apart_by_key sets rising.1,
)
  where
    other_key : (key other : SetKey) → key_cmp key other ≡ Less → key ≢ other
    other_key key other less e =
        let tie : key_cmp key other ≡ Equal =
        subst (λ k. key_cmp key k ≡ Equal) e (tied_itself keys_total key) in
        grind (arith, less, tie)

among_none : (sets : List RecordSet) → IsRising sets → with_all sets [] ≡ sets
among_none sets rising =
    same_sets (with_all sets []) sets (with_all_rises sets [] tt) rising
    (λ set there. elim (of_with_all sets [] set there) [ inl new ↦ new | inr old ↦ absurd old.0 ])
    (λ set there. new_with_all sets [] set (apart_by_key sets rising) there)

-- ---- a zone that is opened

module _ (before after : List Zone) (id : ℕ) (name : List (List ℕ)) (sets : List RecordSet)
    (told : Delta) (are : AreZones before) (are_after : AreZones after)
    (below : (zone : Zone) → IsOne before zone → zone.id < id) (rising : IsRising sets)
    (edits : Edits before (Begin id name sets) after told) where
  abbrev new : HostedZone
  new = record { id = id; apex = name; sets = sets }

  abbrev zone : IsApex after id name
  zone = edits.its.0

  new_is : hosted zone.0 ≡ new
  new_is =
      seen_as after are_after.listed zone.0 zone.1 id name zone.2 zone.3
      ∙ ap (λ (s : List RecordSet). record { id = id; apex = name; sets = s })
      (edits.its.1.sets ∙ among_none sets rising)

  to_behind : (z : HostedZone) → IsAmong (hosted_in after) z
      → IsAmong (hosted_in before ++ new ∷ []) z
  to_behind z among =
      let x = of_map hosted after z among in
      elim (cases_eq x.0.id id) [
        | inl same ↦
            (let one : x.0 ≡ zone.0 = one_zone after are_after.listed x.0 zone.0 x.1 zone.1
            (same ∙ sym zone.2) in
            in_back (hosted_in before) (new ∷ []) z
            (inl (sym new_is ∙ (ap hosted (sym one) ∙ x.2))))
        | inr apart ↦
            in_front (hosted_in before) (new ∷ []) z
            (subst (λ (h : HostedZone). IsAmong (hosted_in before) h) x.2
            (in_map hosted before x.0 ((edits.others x.0 apart).1 x.1)))
      ]

  from_behind : (z : HostedZone) → IsAmong (hosted_in before ++ new ∷ []) z
      → IsAmong (hosted_in after) z
  from_behind z among = elim (of_both (hosted_in before) (new ∷ []) z among) [
    | inl old ↦
        (let x = of_map hosted before z old in
        let lower = below x.0 x.1 in
        subst (λ (h : HostedZone). IsAmong (hosted_in after) h) x.2
        (in_map hosted after x.0
        ((edits.others x.0 (λ e. (let h = e in omega (arith, lower, h)))).0 x.1)))
    | inr is ↦ elim is [
      | inl e ↦
          subst (λ (h : HostedZone). IsAmong (hosted_in after) h) (new_is ∙ e)
          (in_map hosted after zone.0 zone.1)
      | inr none ↦ absurd none
    ]
  ]

  opened : hosted_in after ≡ hosted_in before ++ new ∷ []
  opened =
      sorted_same Lower one_way (hosted_in after) (hosted_in before ++ new ∷ [])
      (hosted_rise after are_after.listed)
      (behind_rise (hosted_in before) new (hosted_rise before are.listed)
      (λ z there. (let x = of_map hosted before z there in
      subst (λ (h : HostedZone). Lower h new) x.2 (below x.0 x.1)))) to_behind from_behind

-- ---- a zone that is closed

module _ (before after : List Zone) (id : ℕ) (told : Delta) (are : AreZones before)
    (are_after : AreZones after) (edits : Edits before (End id) after told) where
  abbrev stays : HostedZone → Bool
  stays zone = not (zone.id == id)

  other_stays : (z : HostedZone) → z.id ≢ id → stays z ≡ true
  other_stays z ne = by (z.id == id) refl
    where
      by : (b : Bool) → (z.id == id) ≡ b → not b ≡ true
      by true e = absurd (ne ((Decides-eqb z.id id).0 e))
      by false e = refl

  stays_other : (z : HostedZone) → stays z ≡ true → z.id ≢ id
  stays_other z e same =
      let is : stays z ≡ false = ap not (eq-eqb z.id id same) in false≢true (sym is ∙ e)

  to_without : (z : HostedZone) → IsAmong (hosted_in after) z
      → IsAmong (without_zone (hosted_in before) id) z
  to_without z among =
      let x = of_map hosted after z among in
      let apart : x.0.id ≢ id = λ same. edits.its.0 (x.0, x.1, same) in
      subst (λ (h : HostedZone). IsAmong (without_zone (hosted_in before) id) h) x.2
      (in_filter stays (hosted_in before) (hosted x.0)
      (in_map hosted before x.0 ((edits.others x.0 apart).1 x.1)) (other_stays (hosted x.0) apart))

  from_without : (z : HostedZone) → IsAmong (without_zone (hosted_in before) id) z
      → IsAmong (hosted_in after) z
  from_without z among =
      let is = of_filter stays (hosted_in before) z among in
      let x = of_map hosted before z is.0 in
      let apart : x.0.id ≢ id = λ same. stays_other z is.1
      (sym (ap (λ (h : HostedZone). h.id) x.2) ∙ same) in
      subst (λ (h : HostedZone). IsAmong (hosted_in after) h) x.2
      (in_map hosted after x.0 ((edits.others x.0 apart).0 x.1))

  closed : hosted_in after ≡ without_zone (hosted_in before) id
  closed =
      sorted_same Lower one_way (hosted_in after) (without_zone (hosted_in before) id)
      (hosted_rise after are_after.listed)
      (without_rise (hosted_in before) stays (hosted_rise before are.listed)) to_without from_without

pub told : EditsAreTold
told = record { changed = changed; opened = opened; closed = closed }
