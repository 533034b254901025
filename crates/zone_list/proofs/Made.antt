-- What a change makes of a zone's sets.
use Rattle.std.proofs.Common.{◌≡◌, ◌≢◌, ℕ, List, [], ◌∷◌, ◌++◌, length, map, take, ap, ◌∙◌, sym, refl, Some, subst, inl, inr}
use Rattle.std.specs.Prelude.{◌⊎◌, ◌+◌, slice_get}
use Rattle.std.specs.List.{AllByRecursion}
use Rattle.std.proofs.lemmas.List.{length-append, map-append}
use Rattle.zone_changes.specs.RecordSetRecord.{RecordSet}
use Rattle.zone_changes.specs.SetKeyRecord.{SetKey}
use Rattle.zone_changes.specs.Sets.{key_of}
use Rattle.zone_changes.specs.Placing.{IsThere}
use Rattle.zone_changes.specs.Zones.{IsAmong}
use Rattle.zone_changes.specs.Slotted.{AreOfZone, HaveOwnSlots, Slotted, sets_of}
use Rattle.zone_changes.proofs.Among.{among_at, place_of}
use Rattle.zone_changes.proofs.ListsOfZoneModel.{take_more}
use Rattle.zone_list.specs.declared.refs.SetRef.{SetRef}
use Rattle.zone_list.specs.Changes.{AreThere, CanChange, Changes, IsKeyOf, KeepSlots, ref_in, with_all, without_all}
use Rattle.zone_list.specs.Steps.{Comings, HasCome, Goings}
use Rattle.zone_list.proofs.Coming.{came_back, comings_as_many, comings_come, comings_keep, comings_of_zone, comings_only, comings_stay}
use Rattle.zone_list.proofs.Leaving.{leavings_as_many, leavings_go, leavings_only, leavings_stay, there_at}
use Rattle.zone_list.proofs.Equation.{in_with_all, in_without_all, new_with_all, of_with_all, of_without_all, with_all_rises, without_all_rises}
use Rattle.zone_list.proofs.Members.{all_in, in_all, key_is_there, one_of_key, placed_with, same_sets, set_in, there_by_key}

one_of_slot : (placed : List Slotted) → HaveOwnSlots placed → (p q : Slotted) → IsAmong placed p
    → IsAmong placed q → p.slot ≡ q.slot → p ≡ q
one_of_slot [] own p q at_p at_q same = absurd at_p
one_of_slot (x ∷ placed) own p q (inl ep) (inl eq) same = sym ep ∙ eq
one_of_slot (x ∷ placed) own p q (inl ep) (inr at_q) same =
    absurd (in_all (λ y. x.slot ≢ y.slot) placed q own.0 at_q (ap (λ (y : Slotted). y.slot) ep ∙ same))
one_of_slot (x ∷ placed) own p q (inr at_p) (inl eq) same =
    absurd (in_all (λ y. x.slot ≢ y.slot) placed p own.0 at_p
    (ap (λ (y : Slotted). y.slot) eq ∙ sym same))
one_of_slot (x ∷ placed) own p q (inr at_p) (inr at_q) same =
    one_of_slot placed own.1 p q at_p at_q same

module _ (zone : ℕ) (apex : List (List ℕ)) (before middle after : List Slotted) (remove : List SetKey)
    (add : List RecordSet) (removed added : List SetRef) (of_zone : AreOfZone before)
    (come : Comings zone before add added middle)
    (can : CanChange apex before remove add) where
  abbrev middle_is : AreOfZone middle
  middle_is = comings_of_zone zone before add added middle of_zone come

  -- a key to remove is there still
  pub still_there : AreThere (sets_of middle) remove
  still_there = by remove can.there
    where
      by : (keys : List SetKey) → AreThere (sets_of before) keys → AreThere (sets_of middle) keys
      by [] there = tt
      by (key ∷ keys) there =
          let p = there_by_key before key there.0 in
          let q = comings_keep zone before add added middle come p.0 p.1 in
          (key_is_there middle key q.0 q.1 (q.2 ∙ p.2), there.1, by keys there.2)

  module _ (leave : Goings zone add added middle remove removed after) (now_is : AreOfZone after) where
    -- a key that is there and stays isn't one that comes
    not_added : (p : Slotted) → IsAmong before p → (IsKeyOf remove (key_of p.set) → ⊥)
        → IsThere add (key_of p.set) → ⊥
    not_added p there other (set, keeps) =
        other (subst (λ k. IsKeyOf remove k) keeps.same_key
        (in_all (λ s. IsThere (sets_of before) (key_of s) → IsKeyOf remove (key_of s)) add set can.new
        keeps.there (key_is_there before (key_of set) p there (sym keeps.same_key))))

    stay : (p : Slotted) → IsAmong before p → (IsKeyOf remove (key_of p.set) → ⊥) → IsAmong after p
    stay p there other =
        leavings_stay zone add added middle remove removed after middle_is.rising leave p
        (comings_stay zone before add added middle come p there (not_added p there other))
        (λ named. absurd (other named))

    comes : (i : ℕ) (set : RecordSet) → slice_get add i ≡ Some set
        → (slot : ℕ) × (slice_get added i ≡ Some (record { zone = zone; slot = slot }))
        × IsAmong after (record { slot = slot; set = set })
    comes i set at =
        let here = comings_come zone before add added middle come can.added.differ i set at in (
          here.0,
          here.1,
          leavings_stay zone add added middle remove removed after middle_is.rising leave
              (record { slot = here.0; set = set }) here.2
              (λ named. (set, record { there = among_at add i set at; same_key = refl })),
        )

    only : (q : Slotted) → IsAmong after q
        → (IsAmong before q × (IsKeyOf remove (key_of q.set) → ⊥))
        ⊎ ((i : ℕ) × (slice_get add i ≡ Some q.set) × (slice_get added i ≡ Some (ref_in zone q)))
    only q there =
        let was = leavings_only zone add added middle remove removed after middle_is.rising leave q there
        in
        elim (comings_only zone before add added middle come q was.0) [
          | inl old ↦ inl (old.0, λ named. old.1 (was.1 named))
          | inr new ↦ inr new
        ]

    goes : (i : ℕ) (key : SetKey) → slice_get remove i ≡ Some key
        → (p : Slotted) × IsAmong before p × (key_of p.set ≡ key)
        × (slice_get removed i ≡ Some (ref_in zone p))
    goes i key at =
        let told = leavings_go zone add added middle remove removed after middle_is.rising leave i key at
        in
        let p = there_by_key before key (there_at (sets_of before) remove can.there i key at) in (
          p.0,
          p.1,
          p.2,
          told.1 ∙ ap (λ (n : ℕ). Some (record { zone = zone; slot = n })) (slot_is p told.0 told.2),
        )
      where
        some_slot : (x y : SetRef) → Some x ≡ Some y → x ≡ y
        some_slot x y e = cc

        slot_is : (p : (p : Slotted) × IsAmong before p × (key_of p.set ≡ key)) (slot : ℕ)
            → HasCome add added key slot
            ⊎ ((IsThere add key → ⊥)
            × ((q : Slotted) × IsAmong middle q × (key_of q.set ≡ key) × (q.slot ≡ slot)))
            → slot ≡ p.0.slot
        slot_is p slot (inl come_for) =
            let back = came_back zone before add added middle come can.added.differ middle_is.rising p.0
            p.1 come_for.at come_for.came.set come_for.came.there (come_for.came.same_key ∙ sym p.2) in
            sym come_for.its_slot
            ∙ ap (λ (r : SetRef). r.slot)
            (some_slot come_for.one (ref_in zone p.0) (sym come_for.told ∙ back))
        slot_is p slot (inr (none, q)) =
            let r = comings_keep zone before add added middle come p.0 p.1 in
            let one : r.0 ≡ q.0 = one_of_key middle middle_is.rising r.0 q.0 r.1 q.1
            (r.2 ∙ (p.2 ∙ sym q.2)) in
            sym q.3 ∙ (ap (λ (x : Slotted). x.slot) (sym one) ∙ r.3)

    slots : KeepSlots before after
    slots p q at_p at_q =
        let p_now = comings_keep zone before add added middle come p at_p in
        let q_now = leavings_only zone add added middle remove removed after middle_is.rising leave q at_q
        in (
          (λ e. (let one : p_now.0 ≡ q = one_of_key middle middle_is.rising p_now.0 q p_now.1 q_now.0
              (p_now.2 ∙ e) in
              sym p_now.3 ∙ ap (λ (x : Slotted). x.slot) one)),
          (λ e. (let one : p_now.0 ≡ q = one_of_slot middle middle_is.own p_now.0 q p_now.1 q_now.0
              (p_now.3 ∙ e) in
              sym p_now.2 ∙ ap (λ (x : Slotted). key_of x.set) one)),
        )

    sets : sets_of after ≡ with_all add (without_all remove (sets_of before))
    sets = same_sets (sets_of after) (with_all add (without_all remove (sets_of before))) now_is.rising
        (with_all_rises add (without_all remove (sets_of before))
        (without_all_rises remove (sets_of before) of_zone.rising)) to from
      where
        to : (x : RecordSet) → IsAmong (sets_of after) x
            → IsAmong (with_all add (without_all remove (sets_of before))) x
        to x there =
            let q = placed_with after x there in
            subst (λ y. IsAmong (with_all add (without_all remove (sets_of before))) y) q.2
            (elim (only q.0 q.1) [
              | inl old ↦
                  in_with_all add (without_all remove (sets_of before)) q.0.set
                  (in_without_all remove (sets_of before) q.0.set (set_in before q.0 old.0) old.1)
                  (not_added q.0 old.0 old.1)
              | inr new ↦
                  new_with_all add (without_all remove (sets_of before)) q.0.set can.added.differ
                  (among_at add new.0 q.0.set new.1)
            ])

        from : (x : RecordSet) → IsAmong (with_all add (without_all remove (sets_of before))) x
            → IsAmong (sets_of after) x
        from x there = elim (of_with_all add (without_all remove (sets_of before)) x there) [
          | inl new ↦
              (let i = place_of add x new in
              let here = comes i.0 x i.1 in
              set_in after (record { slot = here.0; set = x }) here.2)
          | inr old ↦
              (let was = of_without_all remove (sets_of before) x old.0 in
              let p = placed_with before x was.0 in
              subst (λ y. IsAmong (sets_of after) y) p.2
              (set_in after p.0 (stay p.0 p.1
              (subst (λ (y : RecordSet). IsKeyOf remove (key_of y) → ⊥) (sym p.2) was.1))))
        ]

    pub changed : Changes zone before remove add removed added after
    changed = record {
      sets = sets;
      slots = slots;
      stays = stay;
      comes = comes;
      only = only;
      goes = goes;
      as_many_removed = leavings_as_many zone add added middle remove removed after leave;
      as_many_added = comings_as_many zone before add added middle come;
      of_zone = now_is;
    }

-- what holds of all that was there and of all that comes
pub all_kept : (P : RecordSet → Type 0) (zone : ℕ) (before : List Slotted) (remove : List SetKey)
    (add : List RecordSet) (removed added : List SetRef) (after : List Slotted)
    → Changes zone before remove add removed added after
    → AllByRecursion (λ p. P p.set) before → AllByRecursion P add
    → AllByRecursion (λ p. P p.set) after
all_kept P zone before remove add removed added after changes all more = all_in (λ p. P p.set) after each
  where
    each : (p : Slotted) → IsAmong after p → P p.set
    each p there = elim (changes.only p there) [
      | inl old ↦ in_all (λ q. P q.set) before p all old.0
      | inr new ↦ in_all P add p.set more (among_at add new.0 p.set new.1)
    ]

pub append_none : {X : Type 0} (xs : List X) → xs ++ [] ≡ xs
append_none [] = refl
append_none (x ∷ xs) = ap (λ ys. x ∷ ys) (append_none xs)

pub length_more : {X : Type 0} (xs now : List X) (x : X) → now ≡ xs ++ x ∷ []
    → length now ≡ length xs + 1
length_more xs now x e = ap length e ∙ length-append xs (x ∷ [])

-- one more from the front, mapped
pub map_more : {X Y : Type 0} (f : X → Y) (xs : List X) (n : ℕ) (x : X) → slice_get xs n ≡ Some x
    → map f (take (n + 1) xs) ≡ map f (take n xs) ++ f x ∷ []
map_more f xs n x at = ap (map f) (take_more xs n x at) ∙ map-append f (take n xs) (x ∷ [])
