-- A set in the place of one of its key and its policy, but for a weight.
use Rattle.std.proofs.Common.{◌≡◌, ◌≢◌, ℕ, ◌+◌, suc, List, [], ◌∷◌, ◌++◌, map, take, drop, set}
use Rattle.std.proofs.Common.{Some, Less, Equal, false, ◌<◌, ◌≤◌, refl, sym, ap, ◌∙◌, subst, inl, inr, arith}
use Rattle.std.specs.Prelude.{◌⊎◌, slice_get}
use Rattle.std.specs.Ordering.{is_lt, ordering_reverse}
use Rattle.std.proofs.lemmas.Cmp.{tied_itself}
use Rattle.std.proofs.lemmas.List.{take-append-drop}
use Rattle.std.proofs.lemmas.Option.{slice_get_within}
use Rattle.dns_name.specs.Suffix.{EndsWith}
use Rattle.record_set.specs.declared.sets.RecordSet.{RecordSet}
use Rattle.record_set.specs.declared.sets.SetKey.{SetKey}
use Rattle.record_set.specs.Sets.{key_of}
use Rattle.config_model.specs.Differences.{AreMissing, IsDifference}
use Rattle.config_model.specs.Keys.{key_cmp}
use Rattle.config_model.specs.Zones.{IsAmong, IsRising, IsZone}
use Rattle.config_model.proofs.Among.{place_of}
use Rattle.config_model.proofs.Ordered.{keys_total}
use Rattle.config_model.proofs.Places.{rising_at}
use Rattle.change_batch.specs.ActionRecord.TheVariants as action
use Rattle.change_batch.specs.ChangeRecord.{Change}
use Rattle.change_batch.specs.Batches.{Leaves}
use Rattle.change_batch.specs.Changing.{Makes}
use Rattle.change_batch.specs.Found.{FindsAt}
use Rattle.change_batch.proofs.Edits.{replaced}
use Rattle.change_batch.proofs.Lookups.{at_one, below_or_not, found}
use Rattle.change_batch.proofs.Told.{put_in_place}
use Rattle.batch_names.proofs.Members.{left_at, in_all}
use Rattle.batch_edits.specs.Replacing.{Swaps, seen}
use Rattle.batch_edits.proofs.Faces.{face, faces_stay}
use Rattle.batch_edits.proofs.Missing.{missing_of_both, one_set}
use Rattle.batch_edits.specs.declared.editing.Edit.{Edit}

module _ {X : Type 0} (x y : X) where
  in_front : (front back : List X) → IsAmong front y → IsAmong (front ++ x ∷ back) y
  in_front [] back there = absurd there
  in_front (z ∷ front) back (inl e) = inl e
  in_front (z ∷ front) back (inr there) = inr (in_front front back there)

  in_back : (front back : List X) → IsAmong back y → IsAmong (front ++ x ∷ back) y
  in_back [] back there = inr there
  in_back (z ∷ front) back there = inr (in_back front back there)

between : {X : Type 0} (x : X) (front back : List X) → IsAmong (front ++ x ∷ back) x
between x [] back = inl refl
between x (z ∷ front) back = inr (between x front back)

none_missing : (sets others : List RecordSet)
    → ((set : RecordSet) → IsAmong sets set → IsAmong others set) → AreMissing sets others []
none_missing [] others each = refl
none_missing (set ∷ sets) others each =
    inl (each set (inl refl), none_missing sets others (λ s there. each s (inr there)))

-- ---- one set in the place of another

module _ (front back : List RecordSet) (old new : RecordSet) (same_key : key_of old ≡ key_of new)
    (rising : IsRising (front ++ old ∷ back)) (other : old ≢ new) where
  not_there : IsAmong (front ++ old ∷ back) new → ⊥
  not_there there =
      other (one_set (front ++ old ∷ back) rising old new (between old front back) there same_key)

  -- the one that comes is all that is missing
  pub only_new : AreMissing (front ++ new ∷ back) (front ++ old ∷ back) (new ∷ [])
  only_new =
      missing_of_both (front ++ old ∷ back) front (new ∷ back) [] (new ∷ [])
      (none_missing front (front ++ old ∷ back) (λ s there. in_front old s front back there))
      (inr (
        not_there,
        (
          [],
          refl,
          none_missing back (front ++ old ∷ back) (λ s there. in_back old s front back there),
        ),
      ))

swapped : (front back : List RecordSet) (old new : RecordSet) (edit : Edit)
    → key_of old ≡ key_of new → IsRising (front ++ old ∷ back) → IsRising (front ++ new ∷ back)
    → Swaps old new edit
    → IsDifference (front ++ old ∷ back) (front ++ new ∷ back) edit.remove edit.add
swapped front back old new edit same_key rising still (inl (e, keys, sets)) =
    let all : AreMissing (front ++ old ∷ back) (front ++ new ∷ back) [] =
    subst (λ (x : RecordSet). AreMissing (front ++ old ∷ back) (front ++ x ∷ back) []) e
    (none_missing (front ++ old ∷ back) (front ++ old ∷ back) (λ s there. there)) in
    let none : AreMissing (front ++ new ∷ back) (front ++ old ∷ back) [] =
    subst (λ (x : RecordSet). AreMissing (front ++ x ∷ back) (front ++ old ∷ back) []) e
    (none_missing (front ++ old ∷ back) (front ++ old ∷ back) (λ s there. there)) in
    record {
      goes = ([], all, keys);
      comes = subst (λ f. AreMissing (front ++ new ∷ back) (front ++ old ∷ back) f) (sym sets) none;
    }
swapped front back old new edit same_key rising still (inr (other, keys, sets)) = record {
  goes = (
    old ∷ [],
    only_new front back new old (sym same_key) still (λ e. other (sym e)),
    keys,
  );
  comes = subst (λ f. AreMissing (front ++ new ∷ back) (front ++ old ∷ back) f) (sym sets)
      (only_new front back old new same_key rising other);
}

-- ---- among the sets of a zone

module _ (few : List RecordSet) (apex : List (List ℕ)) (change : Change) (old : RecordSet)
    (zone : IsZone few apex) (upsert : change.action ≡ action.Upsert) (there : IsAmong few old)
    (same_key : key_of old ≡ key_of change.set)
    (routing : seen old.routing ≡ seen change.set.routing) where
  pub its_place : (i : ℕ) × (slice_get few i ≡ Some old)
  its_place = place_of few old there

  abbrev pub remaining : List RecordSet
  remaining = set few its_place.0 change.set

  stands : FindsAt few (key_of change.set) its_place.0
  stands = found few (key_of change.set) zone.rising its_place.0 old (record {
    order = omega arith;
    within = (let w = slice_get_within few its_place.0 old its_place.1 in omega (arith, w));
    before = λ k x lt at_k. ap is_lt
        (subst (λ t. key_cmp (key_of x) t ≡ Less) same_key
        (rising_at few k its_place.0 x old zone.rising lt at_k its_place.1));
    behind = λ k x le at_k. not_lower k x at_k (below_or_not its_place.0 k) le;
  }) its_place.1 same_key
    where
      not_lower : (k : ℕ) (x : RecordSet) → slice_get few k ≡ Some x
          → (its_place.0 < k) ⊎ (k ≤ its_place.0) → its_place.0 ≤ k
          → is_lt (key_cmp (key_of x) (key_of change.set)) ≡ false
      not_lower k x at_k (inl lt) le =
          let lower : key_cmp (key_of change.set) (key_of x) ≡ Less =
          subst (λ t. key_cmp t (key_of x) ≡ Less) same_key
          (rising_at few its_place.0 k old x zone.rising lt its_place.1 at_k) in
          ap is_lt (keys_total.antisymm (key_of x) (key_of change.set) ∙ ap ordering_reverse lower)
      not_lower k x at_k (inr ge) le =
          let here : k ≡ its_place.0 = omega (arith, ge, le) in
          let one : x ≡ old =
          at_one few its_place.0 x old (subst (λ n. slice_get few n ≡ Some x) here at_k) its_place.1
          in
          ap is_lt (subst (λ t. key_cmp (key_of x) t ≡ Equal) (ap key_of one ∙ same_key)
          (tied_itself keys_total (key_of x)))

  name : old.name ≡ change.set.name
  name = ap (λ (k : SetKey). k.name) same_key

  rtype : old.rtype ≡ change.set.rtype
  rtype = ap (λ (k : SetKey). k.rtype) same_key

  pub leaves : Leaves few apex (change ∷ []) remaining
  leaves = (
    remaining,
    (
      subst (λ n. EndsWith n apex) name
          (in_all (λ (s : RecordSet). EndsWith s.name apex) few old zone.inside there),
      subst (λ a. Makes a change.set few apex remaining) (sym upsert)
          (put_in_place few change.set its_place.0 stands),
    ),
    refl,
  )

  pub same_faces : map face few ≡ map face remaining
  same_faces =
      let n = name in
      let t = rtype in
      let r = routing in
      let e : face old ≡ face change.set = cc in
      faces_stay few its_place.0 old change.set its_place.1 e

  pub difference : IsZone remaining apex → (edit : Edit) → Swaps old change.set edit
      → IsDifference few remaining edit.remove edit.add
  difference still edit swaps =
      let front = take its_place.0 few in
      let back = drop (its_place.0 + 1) few in
      let was : few ≡ front ++ old ∷ back =
      sym (take-append-drop its_place.0 few)
      ∙ ap (λ (rest : List RecordSet). front ++ rest) (left_at few its_place.0 old its_place.1) in
      let next : suc its_place.0 ≡ its_place.0 + 1 = omega arith in
      let now : remaining ≡ front ++ change.set ∷ back =
      replaced few its_place.0 change.set (slice_get_within few its_place.0 old its_place.1)
      ∙ ap (λ (k : ℕ). front ++ change.set ∷ drop k few) next in
      subst (λ s. IsDifference s remaining edit.remove edit.add) (sym was)
      (subst (λ s. IsDifference (front ++ old ∷ back) s edit.remove edit.add) (sym now)
      (swapped front back old change.set edit same_key (subst IsRising was zone.rising)
      (subst IsRising now still.rising) swaps))
