-- Sets that come into a zone one after another.
use Rattle.std.proofs.Common.{◌≡◌, ◌≢◌, ℕ, zero, suc, ◌<◌, List, [], ◌∷◌, ◌++◌, length, take, drop, ap, ◌∙◌, sym, refl, Some, subst, arith, inl, inr}
use Rattle.std.specs.Prelude.{◌⊎◌, slice_get, slice_set}
use Rattle.std.specs.List.{AllByRecursion}
use Rattle.std.proofs.lemmas.List.{append_assoc}
use Rattle.std.proofs.lemmas.Option.{slice_get_within}
use Rattle.zone_changes.specs.RecordSetRecord.{RecordSet}
use Rattle.zone_changes.specs.SetKeyRecord.{SetKey}
use Rattle.zone_changes.specs.Sets.{key_of}
use Rattle.zone_changes.specs.Coming.{Comes}
use Rattle.zone_changes.specs.Placing.{IsThere}
use Rattle.zone_changes.specs.Zones.{IsAmong, IsRising}
use Rattle.zone_changes.specs.Slotted.{Slotted, AreOfZone, sets_of}
use Rattle.zone_changes.proofs.ListsOfZoneModel.{in_put, in_itself, split, split_at}
use Rattle.zone_list.specs.declared.refs.SetRef.{SetRef}
use Rattle.zone_list.specs.Changes.{DifferByKey, ref_in}
use Rattle.zone_list.specs.Steps.{Comings}
use Rattle.zone_list.proofs.Members.{one_of_key, others_differ, put_or_in}

pub set_parts : {X : Type 0} (xs : List X) (n : ℕ) (x : X) → n < length xs
    → slice_set xs n x ≡ take n xs ++ x ∷ drop (suc n) xs
set_parts [] n x lt = absurd (omega (arith, lt))
set_parts (y ∷ xs) zero x lt = refl
set_parts (y ∷ xs) (suc n) x lt = ap (λ ys. y ∷ ys) (set_parts xs n x (omega (arith, lt)))

-- ---- one that comes

-- the sets in front of it and those behind it, and whether one with its key stood between them
record Parts (before : List Slotted) (given : Slotted) (after : List Slotted) : Type 0 where
  front : List Slotted
  back : List Slotted
  now : after ≡ front ++ given ∷ back
  was : (before ≡ front ++ back)
      ⊎ ((old : RecordSet) × (before ≡ front ++ record { slot = given.slot; set = old } ∷ back)
      × (key_of old ≡ key_of given.set))

parts : (before : List Slotted) (given : Slotted) (after : List Slotted) → Comes before given after
    → Parts before given after
parts before given after (inl r) = record {
  front = take r.at before;
  back = drop (suc r.at) before;
  now = r.replaced
      ∙ set_parts before r.at given
      (slice_get_within before r.at (record { slot = given.slot; set = r.was }) r.there);
  was = inr (
    r.was,
    split_at before r.at (record { slot = given.slot; set = r.was }) r.there,
    r.same_key,
  );
}
parts before given after (inr p) = record {
  front = take p.at before;
  back = drop p.at before;
  now = p.inserted;
  was = inl (split p.at before);
}

module _ (before : List Slotted) (given : Slotted) (after : List Slotted)
    (comes : Comes before given after) where
  at : Parts before given after
  at = parts before given after comes

  behind_front : (p : Slotted) → IsAmong (at.front ++ at.back) p → IsAmong after p
  behind_front p there =
      subst (λ ps. IsAmong ps p) (sym at.now) (in_put at.front at.back given p there)

  pub came : IsAmong after given
  came = subst (λ ps. IsAmong ps given) (sym at.now) (in_itself at.front at.back given)

  -- each key keeps its slot
  pub keeps : (p : Slotted) → IsAmong before p
      → (q : Slotted) × IsAmong after q × (key_of q.set ≡ key_of p.set) × (q.slot ≡ p.slot)
  keeps p there = by at.was
    where
      by : (before ≡ at.front ++ at.back)
          ⊎ ((old : RecordSet)
          × (before ≡ at.front ++ record { slot = given.slot; set = old } ∷ at.back)
          × (key_of old ≡ key_of given.set))
          → (q : Slotted) × IsAmong after q × (key_of q.set ≡ key_of p.set) × (q.slot ≡ p.slot)
      by (inl e) = (p, behind_front p (subst (λ ps. IsAmong ps p) e there), refl, refl)
      by (inr (old, e, same)) =
          let was : Slotted = record { slot = given.slot; set = old } in
          elim (put_or_in at.front at.back was p (subst (λ ps. IsAmong ps p) e there)) [
            | inl it ↦ (
              given,
              came,
              sym same ∙ ap (λ (x : Slotted). key_of x.set) it,
              ap (λ (x : Slotted). x.slot) it,
            )
            | inr rest ↦ (p, behind_front p rest, refl, refl)
          ]

  -- sets of other keys stay
  pub stays : (p : Slotted) → IsAmong before p → key_of p.set ≢ key_of given.set → IsAmong after p
  stays p there other = by at.was
    where
      by : (before ≡ at.front ++ at.back)
          ⊎ ((old : RecordSet)
          × (before ≡ at.front ++ record { slot = given.slot; set = old } ∷ at.back)
          × (key_of old ≡ key_of given.set)) → IsAmong after p
      by (inl e) = behind_front p (subst (λ ps. IsAmong ps p) e there)
      by (inr (old, e, same)) =
          let was : Slotted = record { slot = given.slot; set = old } in
          elim (put_or_in at.front at.back was p (subst (λ ps. IsAmong ps p) e there)) [
            | inl it ↦ absurd (other (ap (λ (x : Slotted). key_of x.set) (sym it) ∙ same))
            | inr rest ↦ behind_front p rest
          ]

  -- what is there now came, or was there under another key
  pub was_there : IsRising (sets_of after) → (q : Slotted) → IsAmong after q
      → (given ≡ q) ⊎ (IsAmong before q × (key_of q.set ≢ key_of given.set))
  was_there rising q there =
      elim (put_or_in at.front at.back given q (subst (λ ps. IsAmong ps q) at.now there)) [
        | inl e ↦ inl e
        | inr rest ↦
            inr (
              before_too rest at.was,
              others_differ at.front at.back given
                  (subst (λ ps. IsRising (sets_of ps)) at.now rising) q rest,
            )
      ]
    where
      before_too : IsAmong (at.front ++ at.back) q → (before ≡ at.front ++ at.back)
          ⊎ ((old : RecordSet)
          × (before ≡ at.front ++ record { slot = given.slot; set = old } ∷ at.back)
          × (key_of old ≡ key_of given.set)) → IsAmong before q
      before_too rest (inl e) = subst (λ ps. IsAmong ps q) (sym e) rest
      before_too rest (inr (old, e, same)) =
          subst (λ ps. IsAmong ps q) (sym e)
          (in_put at.front at.back (record { slot = given.slot; set = old }) q rest)

-- ---- keys of lists of sets

pub first_there : (sets : List RecordSet) (set : RecordSet) (key : SetKey) → key_of set ≡ key
    → IsThere (set ∷ sets) key
first_there sets set key e = (set, record { there = inl refl; same_key = e })

pub later_there : (sets : List RecordSet) (set : RecordSet) (key : SetKey) → IsThere sets key
    → IsThere (set ∷ sets) key
later_there sets set key (kept, keeps) =
    (kept, record { there = inr keeps.there; same_key = keeps.same_key })

pub not_first : (sets : List RecordSet) (set : RecordSet) (key : SetKey) → key ≢ key_of set
    → (IsThere sets key → ⊥) → IsThere (set ∷ sets) key → ⊥
not_first sets set key other none (kept, keeps) = by kept keeps.there keeps.same_key
  where
    by : (kept : RecordSet) → IsAmong (set ∷ sets) kept → key_of kept ≡ key → ⊥
    by kept (inl e) same = other (sym same ∙ ap key_of (sym e))
    by kept (inr there) same = none (kept, record { there = there; same_key = same })

-- a key that differs from those of the sets is not there
pub none_of : (sets : List RecordSet) (key : SetKey) → AllByRecursion (λ other. key ≢ key_of other) sets
    → IsThere sets key → ⊥
none_of [] key all (kept, keeps) = keeps.there
none_of (set ∷ sets) key all there =
    not_first sets set key all.0 (none_of sets key all.1) there

-- ---- all that come

module _ (zone : ℕ) where
  pub comings_of_zone : (before : List Slotted) (sets : List RecordSet) (told : List SetRef)
      (after : List Slotted) → AreOfZone before → Comings zone before sets told after
      → AreOfZone after
  comings_of_zone before [] told after of_zone come =
      subst AreOfZone (sym come.1) of_zone
  comings_of_zone before (set ∷ sets) told after of_zone (slot, middle, rest, one, middle_is, is_told, more) =
      comings_of_zone middle sets rest after middle_is more

  pub comings_keep : (before : List Slotted) (sets : List RecordSet) (told : List SetRef)
      (after : List Slotted) → Comings zone before sets told after
      → (p : Slotted) → IsAmong before p
      → (q : Slotted) × IsAmong after q × (key_of q.set ≡ key_of p.set) × (q.slot ≡ p.slot)
  comings_keep before [] told after come p there =
      (p, subst (λ ps. IsAmong ps p) (sym come.1) there, refl, refl)
  comings_keep before (set ∷ sets) told after (slot, middle, rest, one, middle_is, is_told, more) p there =
      let q = keeps before (record { slot = slot; set = set }) middle one p there in
      let r = comings_keep middle sets rest after more q.0 q.1 in
      (r.0, r.1, r.2 ∙ q.2, r.3 ∙ q.3)

  pub comings_stay : (before : List Slotted) (sets : List RecordSet) (told : List SetRef)
      (after : List Slotted) → Comings zone before sets told after
      → (p : Slotted) → IsAmong before p → (IsThere sets (key_of p.set) → ⊥) → IsAmong after p
  comings_stay before [] told after come p there other =
      subst (λ ps. IsAmong ps p) (sym come.1) there
  comings_stay before (set ∷ sets) told after (slot, middle, rest, one, middle_is, is_told, more) p there other =
      comings_stay middle sets rest after more p
      (stays before (record { slot = slot; set = set }) middle one p there
      (λ e. other (first_there sets set (key_of p.set) (sym e))))
      (λ later. other (later_there sets set (key_of p.set) later))

  pub comings_only : (before : List Slotted) (sets : List RecordSet) (told : List SetRef)
      (after : List Slotted) → Comings zone before sets told after
      → (q : Slotted) → IsAmong after q
      → (IsAmong before q × (IsThere sets (key_of q.set) → ⊥))
      ⊎ ((i : ℕ) × (slice_get sets i ≡ Some q.set) × (slice_get told i ≡ Some (ref_in zone q)))
  comings_only before [] told after come q there =
      inl (subst (λ ps. IsAmong ps q) come.1 there, λ h. h.1.there)
  comings_only before (set ∷ sets) told after (slot, middle, rest, one, middle_is, is_told, more) q there =
      elim (comings_only middle sets rest after more q there) [
        | inl here ↦
            elim (was_there before (record { slot = slot; set = set }) middle one middle_is.rising q
            here.0) [
              | inl e ↦
                  inr (
                    zero,
                    ap (λ (x : Slotted). Some x.set) e,
                    ap (λ (refs : List SetRef). slice_get refs 0) is_told
                        ∙ ap (λ (x : Slotted). Some (ref_in zone x)) e,
                  )
              | inr was ↦
                  inl (was.0, not_first sets set (key_of q.set) was.1 here.1)
            ]
        | inr (i, at, told_at) ↦
            inr (suc i, at, ap (λ (refs : List SetRef). slice_get refs (suc i)) is_told ∙ told_at)
      ]

  pub comings_come : (before : List Slotted) (sets : List RecordSet) (told : List SetRef)
      (after : List Slotted) → Comings zone before sets told after → DifferByKey sets
      → (i : ℕ) (set : RecordSet) → slice_get sets i ≡ Some set
      → (slot : ℕ) × (slice_get told i ≡ Some (record { zone = zone; slot = slot }))
      × IsAmong after (record { slot = slot; set = set })
  comings_come before [] told after come differ i set at = absurd (grind (arith, at))
  comings_come before (first ∷ sets) told after (slot, middle, rest, one, middle_is, is_told, more) differ zero set at =
      let same : first ≡ set = grind (arith, at) in
      let given : Slotted = record { slot = slot; set = first } in
      let here : IsAmong after given =
      comings_stay middle sets rest after more given (came before given middle one)
      (none_of sets (key_of first) differ.0) in (
        slot,
        ap (λ (refs : List SetRef). slice_get refs 0) is_told,
        subst (λ (s : RecordSet). IsAmong after (record { slot = slot; set = s })) same here,
      )
  comings_come before (first ∷ sets) told after (slot, middle, rest, one, middle_is, is_told, more) differ (suc i) set at =
      let later = comings_come middle sets rest after more differ.1 i set at in
      (later.0, ap (λ (refs : List SetRef). slice_get refs (suc i)) is_told ∙ later.1, later.2)

  pub comings_as_many : (before : List Slotted) (sets : List RecordSet) (told : List SetRef)
      (after : List Slotted) → Comings zone before sets told after → length told ≡ length sets
  comings_as_many before [] told after come = ap length come.0
  comings_as_many before (set ∷ sets) told after (slot, middle, rest, one, middle_is, is_told, more) =
      ap length is_told ∙ ap suc (comings_as_many middle sets rest after more)

  -- one more that comes, where what is left was what is left of all
  pub more_come : (before now next : List Slotted) (add left : List RecordSet) (set : RecordSet)
      (slot : ℕ) (added added_now : List SetRef)
      → ((told : List SetRef) (after : List Slotted) → Comings zone now (set ∷ left) told after
      → Comings zone before add (added ++ told) after)
      → Comes now (record { slot = slot; set = set }) next → AreOfZone next
      → added_now ≡ added ++ record { zone = zone; slot = slot } ∷ []
      → (told : List SetRef) (after : List Slotted) → Comings zone next left told after
      → Comings zone before add (added_now ++ told) after
  more_come before now next add left set slot added added_now so_far one of_zone is_now told after more =
      let ref : SetRef = record { zone = zone; slot = slot } in
      subst (λ refs. Comings zone before add refs after) (sym (append_assoc added (ref ∷ []) told)
      ∙ ap (λ refs. refs ++ told) (sym is_now))
      (so_far (ref ∷ told) after (slot, next, told, one, of_zone, refl, more))

  -- the slot that is told for a key that was there is the one that it had
  pub came_back : (before : List Slotted) (sets : List RecordSet) (told : List SetRef)
      (after : List Slotted) → Comings zone before sets told after → DifferByKey sets
      → IsRising (sets_of after) → (p : Slotted) → IsAmong before p
      → (i : ℕ) (set : RecordSet) → slice_get sets i ≡ Some set → key_of set ≡ key_of p.set
      → slice_get told i ≡ Some (ref_in zone p)
  came_back before sets told after come differ rising p there i set at same =
      let q = comings_keep before sets told after come p there in
      let here = comings_come before sets told after come differ i set at in
      let one : q.0 ≡ record { slot = here.0; set = set } =
      one_of_key after rising q.0 (record { slot = here.0; set = set }) q.1 here.2
      (q.2 ∙ sym same) in
      here.1 ∙ ap (λ (n : ℕ). Some (record { zone = zone; slot = n }))
      (ap (λ (x : Slotted). x.slot) (sym one) ∙ q.3)
