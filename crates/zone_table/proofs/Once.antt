-- An edit makes one thing.
use Rattle.std.proofs.Common.{◌≡◌, ◌≢◌, ℕ, suc, ◌<◌, List, [], ◌∷◌, length, map, ap, ◌∙◌, sym, refl, Some, subst, arith, inl, inr}
use Rattle.std.specs.Prelude.{◌⊎◌, slice_get}
use Rattle.std.specs.List.{AllByRecursion}
use Rattle.std.proofs.lemmas.Bool.{cases_eq}
use Rattle.std.proofs.lemmas.Option.{slice_get_within}
use Rattle.zone_list.specs.RecordSetRecord.{RecordSet}
use Rattle.zone_list.specs.SetKeyRecord.{SetKey}
use Rattle.zone_list.specs.Hosted.{HostedZone}
use Rattle.zone_list.specs.Sets.{IsAmong, IsRising}
use Rattle.zone_list.specs.Slotted.{Slotted, sets_of}
use Rattle.zone_list.specs.declared.refs.SetRef.{SetRef}
use Rattle.zone_list.specs.Changes.{Changes, ref_in}
use Rattle.zone_list.specs.Zones.{Zone, AreListed, AreZones, IsOne, IsZoneId, StandsAlone, hosted, placed_in}
use Rattle.zone_list.proofs.Listing.{its_placed, one_zone}
use Rattle.zone_list.proofs.Members.{filled, in_all, one_of_key, placed_with, same_sets, set_in, sorted_same, Sorted}
use Rattle.zone_table.specs.declared.edits.ZoneEdit.{ZoneEdit}
use Rattle.zone_table.specs.declared.edits.ZoneEdit.TheVariants as edit
use Rattle.zone_table.specs.declared.refs.Delta.{Delta}
use Rattle.zone_table.specs.Edits.{Edits, IsAllowed, Makes, zone_of}
use Rattle.zone_table.specs.Laws.{OneApex, OneEdit}
use Rattle.zone_finding.specs.Looking.{IsApex}

-- ---- lists of zones

in_map : {X Y : Type 0} (f : X → Y) (xs : List X) (x : X) → IsAmong xs x → IsAmong (map f xs) (f x)
in_map f [] x there = absurd there
in_map f (y ∷ xs) x (inl e) = inl (ap f e)
in_map f (y ∷ xs) x (inr there) = inr (in_map f xs x there)

of_map : {X Y : Type 0} (f : X → Y) (xs : List X) (y : Y) → IsAmong (map f xs) y
    → (x : X) × IsAmong xs x × (f x ≡ y)
of_map f [] y there = absurd there
of_map f (x ∷ xs) y (inl e) = (x, inl refl, e)
of_map f (x ∷ xs) y (inr there) = let rest = of_map f xs y there in (rest.0, inr rest.1, rest.2)

-- the references of two lists, place by place
same_refs : (refs others : List SetRef) → length refs ≡ length others
    → ((i : ℕ) (r : SetRef) → slice_get refs i ≡ Some r → slice_get others i ≡ Some r)
    → refs ≡ others
same_refs [] [] many each = refl
same_refs [] (r ∷ others) many each = absurd (omega (arith, many))
same_refs (r ∷ refs) [] many each = absurd (omega (arith, many))
same_refs (r ∷ refs) (q ∷ others) many each =
    let first : q ≡ r = (let at = each 0 r refl in grind (arith, at)) in
    ap (λ (x : SetRef). x ∷ refs) (sym first)
    ∙ ap (λ (xs : List SetRef). q ∷ xs)
    (same_refs refs others (omega (arith, many)) (λ i x at. each (suc i) x at))

-- ---- one zone

module _ (zone : ℕ) (before one other : List Slotted) (remove : List SetKey) (add : List RecordSet)
    (removed added other_removed other_added : List SetRef)
    (c : Changes zone before remove add removed added one)
    (d : Changes zone before remove add other_removed other_added other) where
  set_stays : (set : RecordSet) → IsAmong (sets_of one) set → IsAmong (sets_of other) set
  set_stays set there =
      let p = placed_with one set there in
      subst (λ s. IsAmong (sets_of other) s) p.2 (elim (c.only p.0 p.1) [
        | inl (was, stays) ↦ set_in other p.0 (d.stays p.0 was stays)
        | inr (i, at, told_at) ↦
            (let came = d.comes i p.0.set at in
            set_in other (record { slot = came.0; set = p.0.set }) came.2)
      ])

  same_removed : IsRising (sets_of before) → removed ≡ other_removed
  same_removed rising =
      same_refs removed other_removed (c.as_many_removed ∙ sym d.as_many_removed) each
    where
      each : (i : ℕ) (r : SetRef) → slice_get removed i ≡ Some r
          → slice_get other_removed i ≡ Some r
      each i r at =
          let within = slice_get_within removed i r at in
          let many = c.as_many_removed in
          let key = filled remove i (omega (arith, within, many)) in
          let p = c.goes i key.0 key.1 in
          let q = d.goes i key.0 key.1 in
          let same : p.0 ≡ q.0 = one_of_key before rising p.0 q.0 p.1 q.1 (p.2 ∙ sym q.2) in
          q.3 ∙ (ap (λ (x : Slotted). Some (ref_in zone x)) (sym same) ∙ (sym p.3 ∙ at))

  same_added : length added ≡ length other_added
  same_added = c.as_many_added ∙ sym d.as_many_added

alike : (zone : ℕ) (before one other : List Slotted) (remove : List SetKey) (add : List RecordSet)
    (removed added other_removed other_added : List SetRef)
    → Changes zone before remove add removed added one
    → Changes zone before remove add other_removed other_added other
    → sets_of one ≡ sets_of other
alike zone before one other remove add removed added other_removed other_added c d =
    same_sets (sets_of one) (sets_of other) c.of_zone.rising d.of_zone.rising
    (set_stays zone before one other remove add removed added other_removed other_added c d)
    (set_stays zone before other one remove add other_removed other_added removed added d c)

-- ---- all zones

pub one_apex : OneApex
one_apex zones id one other are (x, there, x_id, x_apex) (y, there_too, y_id, y_apex) =
    sym x_apex
    ∙ (ap (λ (z : Zone). z.apex) (one_zone zones are.listed x y there there_too (x_id
    ∙ sym y_id)) ∙ y_apex)

abbrev Lower : HostedZone → HostedZone → Type 0
Lower x y = x.id < y.id

lower_one_way : (x y : HostedZone) → Lower x y → Lower y x → ⊥
lower_one_way x y lower higher = omega (arith, lower, higher)

-- what is hosted of the zone with this number and name
abbrev hosted_at : List Zone → (zone : ℕ) (name : List (List ℕ)) → HostedZone
hosted_at zones zone name = record { id = zone; apex = name; sets = sets_of (placed_in zones zone) }

its_hosted : (zones : List Zone) → AreListed zones → (x : Zone) → IsOne zones x
    → (zone : ℕ) (name : List (List ℕ)) → x.id ≡ zone → x.apex ≡ name
    → hosted x ≡ hosted_at zones zone name
its_hosted zones listed x there zone name its_id its_apex =
    ap (λ (n : ℕ). record { id = n; apex = x.apex; sets = sets_of x.placed }) its_id
    ∙ (ap (λ (a : List (List ℕ)). record { id = zone; apex = a; sets = sets_of x.placed }) its_apex
    ∙ ap (λ (ps : List Slotted). record { id = zone; apex = name; sets = sets_of ps })
    (sym (its_placed zones listed x there) ∙ ap (placed_in zones) its_id))

apex_hosted : (zones : List Zone) → AreListed zones → (zone : ℕ) (name : List (List ℕ))
    → IsApex zones zone name → IsAmong (map hosted zones) (hosted_at zones zone name)
apex_hosted zones listed zone name (x, there, its_id, its_apex) =
    subst (λ s. IsAmong (map hosted zones) s)
    (its_hosted zones listed x there zone name its_id its_apex) (in_map hosted zones x there)

-- the zone with the number that has an apex
seen_as : (zones : List Zone) → AreListed zones → (x : Zone) → IsOne zones x
    → (zone : ℕ) (name : List (List ℕ)) → x.id ≡ zone → IsApex zones zone name
    → hosted x ≡ hosted_at zones zone name
seen_as zones listed x there zone name its_id (y, there_too, y_id, y_apex) =
    let same : x ≡ y = one_zone zones listed x y there there_too (its_id ∙ sym y_id) in
    its_hosted zones listed x there zone name its_id (ap (λ (z : Zone). z.apex) same ∙ y_apex)

hosted_rises : (zones : List Zone) (s : HostedZone) (zone : Zone) → hosted zone ≡ s
    → AllByRecursion (λ (other : Zone). (zone.id < other.id) × (zone.apex ≢ other.apex)) zones
    → AllByRecursion (Lower s) (map hosted zones)
hosted_rises [] s zone e all = tt
hosted_rises (x ∷ zones) s zone e all = (
  (let lower = all.0.0 in let its_id : zone.id ≡ s.id = ap (λ (t : HostedZone). t.id) e in
      omega (arith, lower, its_id)),
  hosted_rises zones s zone e all.1,
)

hosted_listed : (zones : List Zone) → AreListed zones → Sorted Lower lower_one_way (map hosted zones)
hosted_listed [] listed = tt
hosted_listed (zone ∷ zones) listed =
    (hosted_rises zones (hosted zone) zone refl listed.0, hosted_listed zones listed.1)

-- ---- what two edits made

-- both have a zone of this number, with this name and the same sets
abbrev Keep : List Zone → List Zone → (zone : ℕ) → (name : List (List ℕ)) → Type 0
Keep one other zone name = IsApex one zone name × IsApex other zone name
    × (sets_of (placed_in one zone) ≡ sets_of (placed_in other zone))

-- neither has the zone, or both have it
abbrev Leave : List Zone → List Zone → (zone : ℕ) → Type 0
Leave one other zone =
    ((IsZoneId one zone → ⊥) × (IsZoneId other zone → ⊥))
    ⊎ ((name : List (List ℕ)) × Keep one other zone name)

turned : (one other : List Zone) (zone : ℕ) → Leave one other zone → Leave other one zone
turned one other zone (inl gone) = inl (gone.1, gone.0)
turned one other zone (inr (name, keep)) = inr (name, (keep.1, keep.0, sym keep.2))

rising_in : (zones : List Zone) → AreZones zones → (zone : ℕ) → IsZoneId zones zone
    → IsRising (sets_of (placed_in zones zone))
rising_in zones are zone (x, there, its_id) =
    let alone = in_all StandsAlone zones x are.each there in
    subst (λ (ps : List Slotted). IsRising (sets_of ps)) (sym (its_placed zones are.listed x there)
    ∙ ap (placed_in zones) its_id) alone.sets.rising

-- a zone has the number, or none
listed_or_not : (zones : List Zone) (id : ℕ)
    → (IsZoneId zones id → ⊥) ⊎ ((name : List (List ℕ)) × IsApex zones id name)
listed_or_not [] id = inl (λ is. is.1)
listed_or_not (zone ∷ zones) id = elim (cases_eq zone.id id) [
  | inl e ↦ inr (zone.apex, (zone, inl refl, e, refl))
  | inr ne ↦ elim (listed_or_not zones id) [
    | inl none ↦ inl (λ is. by is.0 is.1 is.2 ne none)
    | inr has ↦ inr (has.0, (has.1.0, inr has.1.1, has.1.2, has.1.3))
  ]
]
  where
    by : (x : Zone) → IsOne (zone ∷ zones) x → x.id ≡ id → zone.id ≢ id → (IsZoneId zones id → ⊥) → ⊥
    by x (inl e) same ne none = ne (ap (λ (z : Zone). z.id) e ∙ same)
    by x (inr there) same ne none = none (x, there, same)

module _ (before one other : List Zone) (told other_told : Delta) where
  both_leave : (made : ZoneEdit) → IsAllowed before made → Makes made before one told
      → Makes made before other other_told → Leave one other (zone_of made)
  both_leave (edit.Begin zone name sets) allowed m n =
      inr (
        name,
        (
          m.0,
          n.0,
          alike zone [] (placed_in one zone) (placed_in other zone) [] sets told.removed told.added
              other_told.removed other_told.added m.1 n.1,
        ),
      )
  both_leave (edit.End zone) allowed m n = inl (m.0, n.0)
  both_leave (edit.Change zone remove add) ((x, there, its_id), can) m n =
      let apex : IsApex before zone x.apex = (x, there, its_id, refl) in
      inr (
        x.apex,
        (
          m.0 x.apex apex,
          n.0 x.apex apex,
          alike zone (placed_in before zone) (placed_in one zone) (placed_in other zone) remove add
              told.removed told.added other_told.removed other_told.added m.1 n.1,
        ),
      )
  both_leave (edit.Collections now) allowed m n = elim (listed_or_not before 0) [
    | inl none ↦ inl (λ is. none (subst (λ zs. IsZoneId zs 0) m.0 is), λ is. none (subst (λ zs. IsZoneId zs 0) n.0 is))
    | inr has ↦ inr (
      has.0,
      (
        subst (λ zs. IsApex zs 0 has.0) (sym m.0) has.1,
        subst (λ zs. IsApex zs 0 has.0) (sym n.0) has.1,
        ap (λ zs. sets_of (placed_in zs 0)) (m.0 ∙ sym n.0),
      ),
    )
  ]

  both_tell : (made : ZoneEdit) → AreZones before → IsAllowed before made
      → Makes made before one told → Makes made before other other_told
      → (told.removed ≡ other_told.removed) × (length told.added ≡ length other_told.added)
  both_tell (edit.Begin zone name sets) are allowed m n = (
    same_removed zone [] (placed_in one zone) (placed_in other zone) [] sets told.removed told.added
        other_told.removed other_told.added m.1 n.1 tt,
    same_added zone [] (placed_in one zone) (placed_in other zone) [] sets told.removed told.added
        other_told.removed other_told.added m.1 n.1,
  )
  both_tell (edit.End zone) are allowed m n = (m.1 ∙ sym n.1, ap length (m.2 ∙ sym n.2))
  both_tell (edit.Collections now) are allowed m n = (m.1 ∙ sym n.1, ap length (m.2 ∙ sym n.2))
  both_tell (edit.Change zone remove add) are allowed m n = (
    same_removed zone (placed_in before zone) (placed_in one zone) (placed_in other zone) remove add
        told.removed told.added other_told.removed other_told.added m.1 n.1
        (rising_in before are zone allowed.0),
    same_added zone (placed_in before zone) (placed_in one zone) (placed_in other zone) remove add
        told.removed told.added other_told.removed other_told.added m.1 n.1,
  )

-- what is hosted in one is hosted in the other
seen_too : (before one other : List Zone) (made : ZoneEdit) (told other_told : Delta)
    → AreListed one → AreListed other
    → Edits before made one told → Edits before made other other_told
    → Leave one other (zone_of made)
    → (s : HostedZone) → IsAmong (map hosted one) s → IsAmong (map hosted other) s
seen_too before one other made told other_told listed listed_too e f leave s there =
    let x = of_map hosted one s there in
    elim (cases_eq x.0.id (zone_of made)) [
      | inl same ↦ its x.0 x.1 x.2 same leave
      | inr apart ↦
          subst (λ t. IsAmong (map hosted other) t) x.2
          (in_map hosted other x.0 ((f.others x.0 apart).0 ((e.others x.0 apart).1 x.1)))
    ]
  where
    its : (x : Zone) → IsOne one x → hosted x ≡ s → x.id ≡ zone_of made
        → Leave one other (zone_of made) → IsAmong (map hosted other) s
    its x at seen_x same (inl gone) = absurd (gone.0 (x, at, same))
    its x at seen_x same (inr (name, keep)) =
        let here : hosted x ≡ hosted_at one (zone_of made) name =
        seen_as one listed x at (zone_of made) name same keep.0 in
        let other_one : hosted_at one (zone_of made) name ≡ hosted_at other (zone_of made) name =
        ap (λ (sets : List RecordSet). record { id = zone_of made; apex = name; sets = sets })
        keep.2 in
        subst (λ t. IsAmong (map hosted other) t) (sym other_one
        ∙ (sym here ∙ seen_x)) (apex_hosted other listed_too (zone_of made) name keep.1)

pub one_edit : OneEdit
one_edit before one other made told other_told are are_one are_other allowed e f =
    let leave = both_leave before one other told other_told made allowed e.its f.its in
    let tells = both_tell before one other told other_told made are allowed e.its f.its in
    record {
      zones =
          sorted_same Lower lower_one_way (map hosted one) (map hosted other)
          (hosted_listed one are_one.listed) (hosted_listed other are_other.listed)
          (seen_too before one other made told other_told are_one.listed are_other.listed e f leave)
          (seen_too before other one made other_told told are_other.listed are_one.listed f e
          (turned one other (zone_of made) leave));
      zone = e.zone ∙ sym f.zone;
      removed = tells.0;
      added = tells.1;
    }
