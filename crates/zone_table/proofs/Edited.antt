-- What edits make of the list of zones.
use Rattle.std.proofs.Common.{◌≡◌, ◌≢◌, ℕ, zero, suc, ◌<◌, ◌≤◌, List, [], ◌∷◌, ◌++◌, map, take, drop, ap, ◌∙◌, sym, refl, Some, subst, arith, inl, inr}
use Rattle.std.specs.Prelude.{slice_get}
use Rattle.std.specs.List.{AllByRecursion}
use Rattle.zone_list.specs.RecordSetRecord.{RecordSet}
use Rattle.zone_list.specs.SetKeyRecord.{SetKey}
use Rattle.zone_list.proofs.ListsOfZoneModel.{all_put, all_taken, in_put, in_itself, in_taken}
use Rattle.zone_list.specs.declared.refs.SetRef.{SetRef}
use Rattle.zone_list.specs.Changes.{CanChange, Changes, ref_in}
use Rattle.zone_list.specs.Zones.{Zone, AreListed, IsOne, IsZoneId, placed_in}
use Rattle.zone_list.proofs.Listing.{its_placed, one_zone}
use Rattle.zone_list.proofs.Members.{in_all, put_or_in}
use Rattle.zone_table.specs.declared.edits.ZoneEdit.{ZoneEdit}
use Rattle.zone_table.specs.declared.edits.ZoneEdit.TheVariants as edit
use Rattle.zone_table.specs.Edits.{Edits, IsAllowed}
use Rattle.zone_finding.specs.Looking.{IsApex}

-- the order of two zones in the list
abbrev pub Before : Zone → Zone → Type 0
Before zone other = (zone.id < other.id) × (zone.apex ≢ other.apex)

all_swapped : {X : Type 0} (P : X → Type 0) (front back : List X) (x y : X)
    → AllByRecursion P (front ++ x ∷ back) → P y → AllByRecursion P (front ++ y ∷ back)
all_swapped P [] back x y all p = (p, all.1)
all_swapped P (z ∷ front) back x y all p = (all.0, all_swapped P front back x y all.1 p)

pub in_middle : {X : Type 0} (P : X → Type 0) (front back : List X) (x : X)
    → AllByRecursion P (front ++ x ∷ back) → P x
in_middle P [] back x all = all.0
in_middle P (z ∷ front) back x all = in_middle P front back x all.1

pub all_front : {X : Type 0} (P : X → Type 0) (xs : List X) (n : ℕ)
    → ((k : ℕ) (x : X) → k < n → slice_get xs k ≡ Some x → P x) → AllByRecursion P (take n xs)
all_front P [] zero each = tt
all_front P [] (suc n) each = tt
all_front P (x ∷ xs) zero each = tt
all_front P (x ∷ xs) (suc n) each = (
  each 0 x (omega arith) refl,
  all_front P xs n (λ k y lt at. each (suc k) y (omega (arith, lt)) at),
)

pub all_back : {X : Type 0} (P : X → Type 0) (xs : List X) (n : ℕ)
    → ((k : ℕ) (x : X) → n ≤ k → slice_get xs k ≡ Some x → P x) → AllByRecursion P (drop n xs)
all_back P [] zero each = tt
all_back P [] (suc n) each = tt
all_back P (x ∷ xs) zero each =
    (each 0 x (omega arith) refl, all_back P xs zero (λ k y le at. each (suc k) y (omega arith) at))
all_back P (x ∷ xs) (suc n) each =
    all_back P xs n (λ k y le at. each (suc k) y (omega (arith, le)) at)

-- ---- the order of zones

module _ (z y : Zone) (same_id : y.id ≡ z.id) where
  pub listed_swapped : (front back : List Zone) → y.apex ≡ z.apex → AreListed (front ++ z ∷ back)
      → AreListed (front ++ y ∷ back)
  listed_swapped [] back same_apex listed = (later back listed.0, listed.1)
    where
      later : (rest : List Zone) → AllByRecursion (Before z) rest → AllByRecursion (Before y) rest
      later [] all = tt
      later (x ∷ rest) all = (
        ((let lt = all.0.0 in omega (arith, lt, same_id)), (λ e. all.0.1 (sym same_apex ∙ e))),
        later rest all.1,
      )
  listed_swapped (x ∷ front) back same_apex listed =
      let old = in_middle (Before x) front back z listed.0 in
      let lt = old.0 in (
        all_swapped (Before x) front back z y listed.0 (
          omega (arith, lt, same_id),
          λ e. old.1 (e ∙ same_apex),
        ),
        listed_swapped front back same_apex listed.1,
      )

  pub others_swapped : (front back : List Zone) (other : Zone) → other.id ≢ z.id
      → IsOne (front ++ z ∷ back) other → IsOne (front ++ y ∷ back) other
  others_swapped front back other apart there = elim (put_or_in front back z other there) [
    | inl e ↦ absurd (apart (ap (λ (x : Zone). x.id) (sym e)))
    | inr rest ↦ in_put front back y other rest
  ]

pub listed_taken : (front back : List Zone) (z : Zone) → AreListed (front ++ z ∷ back)
    → AreListed (front ++ back)
listed_taken [] back z listed = listed.1
listed_taken (x ∷ front) back z listed =
    (all_taken (Before x) front back z listed.0, listed_taken front back z listed.1)

-- the others have other numbers
pub listed_apart : (front back : List Zone) (z x : Zone) → AreListed (front ++ z ∷ back)
    → IsOne (front ++ back) x → x.id ≢ z.id
listed_apart [] back z x listed there =
    let lower = in_all (Before z) back x listed.0 there in
    λ e. (let lt = lower.0 in omega (arith, lt, e))
listed_apart (w ∷ front) back z x listed (inl e) =
    let lower = in_middle (Before w) front back z listed.0 in
    λ f. (let lt = lower.0 in let g : w.id ≡ x.id = ap (λ (v : Zone). v.id) e in
    omega (arith, lt, g, f))
listed_apart (w ∷ front) back z x listed (inr there) = listed_apart front back z x listed.1 there

pub listed_put : (front back : List Zone) (z : Zone) → AreListed (front ++ back)
    → AllByRecursion (λ x. Before x z) front → AllByRecursion (Before z) back
    → AreListed (front ++ z ∷ back)
listed_put [] back z listed low high = (high, listed)
listed_put (x ∷ front) back z listed low high =
    (all_put (Before x) front back z listed.0 low.0, listed_put front back z listed.1 low.1 high)

-- ---- a zone changed

module _ (zones now front back : List Zone) (z y : Zone) (whole : zones ≡ front ++ z ∷ back)
    (swapped : now ≡ front ++ y ∷ back) (listed : AreListed zones) (now_listed : AreListed now)
    (same_id : y.id ≡ z.id) (same_apex : y.apex ≡ z.apex) where
  was_one : IsOne zones z
  was_one = subst (λ zs. IsOne zs z) (sym whole) (in_itself front back z)

  now_one : IsOne now y
  now_one = subst (λ zs. IsOne zs y) (sym swapped) (in_itself front back y)

  pub changed_edits : (id : ℕ) (remove : List SetKey) (add : List RecordSet)
      (removed added : List SetRef) → z.id ≡ id
      → Changes z.id z.placed remove add removed added y.placed
      → Edits zones (edit.Change id remove add) now
      (record { zone = id; removed = removed; added = added })
  changed_edits id remove add removed added its_id changes = record {
    zone = refl;
    others = λ other apart. (
      (λ there. subst (λ zs. IsOne zs other) (sym swapped)
          (others_swapped z y same_id front back other (λ e. apart (e ∙ its_id))
          (subst (λ zs. IsOne zs other) whole there))),
      (λ there. subst (λ zs. IsOne zs other) (sym whole)
          (others_swapped y z (sym same_id) front back other
          (λ e. apart (e ∙ (same_id ∙ its_id))) (subst (λ zs. IsOne zs other) swapped there))),
    );
    its = (
      apex,
      subst (λ n. Changes n (placed_in zones id) remove add removed added (placed_in now id)) its_id
          (subst (λ ps. Changes z.id ps remove add removed added (placed_in now id))
          (sym placed_before)
          (subst (λ ps. Changes z.id z.placed remove add removed added ps)
          (sym placed_after) changes)),
    );
  }
    where
      placed_before : placed_in zones id ≡ z.placed
      placed_before = ap (placed_in zones) (sym its_id) ∙ its_placed zones listed z was_one

      placed_after : placed_in now id ≡ y.placed
      placed_after = ap (placed_in now) (sym its_id ∙ sym same_id)
          ∙ its_placed now now_listed y now_one

      apex : (name : List (List ℕ)) → IsApex zones id name → IsApex now id name
      apex name (zone, there, zone_id, zone_apex) =
          let one : zone ≡ z = one_zone zones listed zone z there was_one (zone_id ∙ sym its_id) in (
            y,
            now_one,
            same_id ∙ its_id,
            same_apex ∙ (ap (λ (x : Zone). x.apex) (sym one) ∙ zone_apex),
          )

-- what a change asks of its zone
pub its_can : (zones : List Zone) (z : Zone) → IsOne zones z → AreListed zones
    → (id : ℕ) (remove : List SetKey) (add : List RecordSet) → z.id ≡ id
    → IsAllowed zones (edit.Change id remove add) → CanChange z.apex z.placed remove add
its_can zones z there listed id remove add its_id allowed =
    subst (λ ps. CanChange z.apex ps remove add) (ap (placed_in zones) (sym its_id)
    ∙ its_placed zones listed z there)
    (allowed.1 z.apex (z, there, its_id, refl))

-- ---- a zone closed

pub closed_edits : (zones now front back : List Zone) (z : Zone) → zones ≡ front ++ z ∷ back
    → now ≡ front ++ back → AreListed zones → (id : ℕ) (removed : List SetRef) → z.id ≡ id
    → removed ≡ map (ref_in z.id) z.placed
    → Edits zones (edit.End id) now (record { zone = id; removed = removed; added = [] })
closed_edits zones now front back z whole taken listed id removed its_id told = record {
  zone = refl;
  others = λ other apart. (
    (λ there. subst (λ zs. IsOne zs other) (sym taken)
        (in_taken front back z other (λ e. apart (ap (λ (x : Zone). x.id) (sym e) ∙ its_id))
        (subst (λ zs. IsOne zs other) whole there))),
    (λ there. subst (λ zs. IsOne zs other) (sym whole)
        (in_put front back z other (subst (λ zs. IsOne zs other) taken there))),
  );
  its = (
    gone,
    told
        ∙ (ap (λ n. map (ref_in n) z.placed) its_id
        ∙ ap (map (ref_in id)) (sym placed_before)),
    refl,
  );
}
  where
    placed_before : placed_in zones id ≡ z.placed
    placed_before = ap (placed_in zones) (sym its_id) ∙ its_placed zones listed z
        (subst (λ zs. IsOne zs z) (sym whole) (in_itself front back z))

    gone : IsZoneId now id → ⊥
    gone (zone, there, zone_id) =
        listed_apart front back z zone (subst AreListed whole listed)
        (subst (λ zs. IsOne zs zone) taken there) (zone_id ∙ sym its_id)

-- ---- a zone opened

pub opened_edits : (zones now front back : List Zone) (z : Zone) → zones ≡ front ++ back
    → now ≡ front ++ z ∷ back → AreListed now → (sets : List RecordSet) (removed added : List SetRef)
    → Changes z.id [] [] sets removed added z.placed
    → Edits zones (edit.Begin z.id z.apex sets) now
    (record { zone = z.id; removed = removed; added = added })
opened_edits zones now front back z parts put now_listed sets removed added changes = record {
  zone = refl;
  others = λ other apart. (
    (λ there. subst (λ zs. IsOne zs other) (sym put)
        (in_put front back z other (subst (λ zs. IsOne zs other) parts there))),
    (λ there.
        elim (put_or_in front back z other (subst (λ zs. IsOne zs other) put there)) [
          | inl e ↦ absurd (apart (ap (λ (x : Zone). x.id) (sym e)))
          | inr rest ↦ subst (λ zs. IsOne zs other) (sym parts) rest
        ]),
  );
  its = (
    (z, now_one, refl, refl),
    subst (λ ps. Changes z.id [] [] sets removed added ps)
        (sym (its_placed now now_listed z now_one)) changes,
  );
}
  where
    now_one : IsOne now z
    now_one = subst (λ zs. IsOne zs z) (sym put) (in_itself front back z)

-- the references that are told
pub told : (before : List Zone) (made : ZoneEdit) (after : List Zone) (zone : ℕ)
    (removed removed_told added added_told : List SetRef)
    → removed_told ≡ removed → added_told ≡ added
    → Edits before made after (record { zone = zone; removed = removed; added = added })
    → Edits before made after (record { zone = zone; removed = removed_told; added = added_told })
told before made after zone removed removed_told added added_told same_removed same_added edits =
    subst (λ rs. Edits before made after (record { zone = zone; removed = rs; added = added_told }))
    (sym same_removed)
    (subst (λ as_added.
    Edits before made after (record { zone = zone; removed = removed; added = as_added }))
    (sym same_added) edits)
