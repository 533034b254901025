-- Sets that go from a zone one after another.
use Rattle.std.proofs.Common.{◌≡◌, ◌≢◌, ℕ, zero, suc, List, [], ◌∷◌, ◌++◌, length, take, drop, ap, ◌∙◌, sym, refl, Some, subst, arith, inl, inr}
use Rattle.std.specs.Prelude.{◌⊎◌, slice_get}
use Rattle.std.specs.List.{AllByRecursion}
use Rattle.std.proofs.lemmas.List.{append_assoc, map-append}
use Rattle.zone_changes.specs.RecordSetRecord.{RecordSet}
use Rattle.zone_changes.specs.SetKeyRecord.{SetKey}
use Rattle.zone_changes.specs.Sets.{key_of}
use Rattle.zone_changes.specs.Placing.{IsThere}
use Rattle.zone_changes.specs.Zones.{IsAmong, IsRising}
use Rattle.zone_changes.specs.Slotted.{Slotted, IsRemoved, sets_of}
use Rattle.zone_changes.proofs.Among.{among_at}
use Rattle.zone_changes.proofs.ListsOfZoneModel.{split_at}
use Rattle.zone_changes.proofs.Rising.{rising_taken}
use Rattle.zone_list.specs.declared.refs.SetRef.{SetRef}
use Rattle.zone_list.specs.Changes.{AreThere, IsKeyOf}
use Rattle.zone_list.specs.Steps.{HasCome, IsOfKey, GoesUnlessCome, Goings}
use Rattle.zone_list.proofs.Members.{key_is_there, stays_taken, there_by_key, was_taken, what_goes}

once_rising : (before : List Slotted) (key : SetKey) (slot : ℕ) (middle : List Slotted)
    → IsRising (sets_of before) → IsRemoved before key slot middle → IsRising (sets_of middle)
once_rising before key slot middle rising taken =
    let gone : Slotted = record { slot = slot; set = taken.taken.set } in
    let front = take taken.at before in
    let back = drop (suc taken.at) before in
    let parts : IsRising (sets_of front ++ gone.set ∷ sets_of back) =
    subst IsRising (map-append (λ (p : Slotted). p.set) front (gone ∷ back))
    (subst (λ ps. IsRising (sets_of ps)) (split_at before taken.at gone taken.taken.there)
    rising) in
    subst IsRising (sym (ap sets_of taken.taken.removed
    ∙ map-append (λ (p : Slotted). p.set) front back))
    (rising_taken (sets_of front) (sets_of back) gone.set parts)

-- a set that came for a key is there
pub come_there : (add : List RecordSet) (key : SetKey) (at : ℕ) → IsOfKey add key at → IsThere add key
come_there add key at is =
    (is.set, record { there = among_at add at is.set is.there; same_key = is.same_key })

-- each key is there
pub there_at : (sets : List RecordSet) (keys : List SetKey) → AreThere sets keys → (i : ℕ) (key : SetKey)
    → slice_get keys i ≡ Some key → IsThere sets key
there_at sets [] there i key at = absurd (grind (arith, at))
there_at sets (first ∷ keys) there zero key at =
    subst (λ k. IsThere sets k) (let e : first ≡ key = grind (arith, at) in e) there.0
there_at sets (first ∷ keys) there (suc i) key at = there_at sets keys there.2 i key at

module _ (zone : ℕ) (add : List RecordSet) (added : List SetRef) where
  one_rising : (before : List Slotted) (key : SetKey) (slot : ℕ) (middle : List Slotted)
      → IsRising (sets_of before) → GoesUnlessCome add added before key slot middle → IsRising (sets_of middle)
  one_rising before key slot middle rising (inl (come, same)) =
      subst (λ ps. IsRising (sets_of ps)) (sym same) rising
  one_rising before key slot middle rising (inr (none, taken)) =
      once_rising before key slot middle rising taken

  one_stays : (before : List Slotted) (key : SetKey) (slot : ℕ) (middle : List Slotted)
      → IsRising (sets_of before) → GoesUnlessCome add added before key slot middle
      → (p : Slotted) → IsAmong before p → (key_of p.set ≡ key → IsThere add key) → IsAmong middle p
  one_stays before key slot middle rising (inl (come, same)) p there back =
      subst (λ ps. IsAmong ps p) (sym same) there
  one_stays before key slot middle rising (inr (none, taken)) p there back =
      stays_taken before middle key slot rising taken p there (λ e. none (back e))

  one_was : (before : List Slotted) (key : SetKey) (slot : ℕ) (middle : List Slotted)
      → IsRising (sets_of before) → GoesUnlessCome add added before key slot middle
      → (q : Slotted) → IsAmong middle q → IsAmong before q × (key_of q.set ≡ key → IsThere add key)
  one_was before key slot middle rising (inl (come, same)) q there =
      (subst (λ ps. IsAmong ps q) same there, λ e. come_there add key come.at come.came)
  one_was before key slot middle rising (inr (none, taken)) q there =
      let was = was_taken before middle key slot rising taken q there in
      (was.0, λ e. absurd (was.1 e))

  pub leavings_stay : (before : List Slotted) (keys : List SetKey) (told : List SetRef)
      (after : List Slotted) → IsRising (sets_of before) → Goings zone add added before keys told after
      → (p : Slotted) → IsAmong before p
      → (IsKeyOf keys (key_of p.set) → IsThere add (key_of p.set)) → IsAmong after p
  leavings_stay before [] told after rising leave p there back =
      subst (λ ps. IsAmong ps p) (sym leave.1) there
  leavings_stay before (key ∷ keys) told after rising (slot, middle, rest, one, is_told, more) p there back =
      leavings_stay middle keys rest after (one_rising before key slot middle rising one) more p
      (one_stays before key slot middle rising one p there
      (λ e. subst (λ k. IsThere add k) e (back (inl (sym e)))))
      (λ named. back (inr named))

  pub leavings_only : (before : List Slotted) (keys : List SetKey) (told : List SetRef)
      (after : List Slotted) → IsRising (sets_of before) → Goings zone add added before keys told after
      → (q : Slotted) → IsAmong after q
      → IsAmong before q × (IsKeyOf keys (key_of q.set) → IsThere add (key_of q.set))
  leavings_only before [] told after rising leave q there =
      (subst (λ ps. IsAmong ps q) leave.1 there, λ named. absurd named)
  leavings_only before (key ∷ keys) told after rising (slot, middle, rest, one, is_told, more) q there =
      let later = leavings_only middle keys rest after (one_rising before key slot middle rising one) more
      q there in
      let was = one_was before key slot middle rising one q later.0 in (
        was.0,
        λ named. elim named [
          | inl e ↦ subst (λ k. IsThere add k) e (was.1 (sym e))
          | inr others ↦ later.1 others
        ],
      )

  -- how the slot of a key is told: of the set that came for it, or of the one that goes
  pub leavings_go : (before : List Slotted) (keys : List SetKey) (told : List SetRef)
      (after : List Slotted) → IsRising (sets_of before) → Goings zone add added before keys told after
      → (i : ℕ) (key : SetKey) → slice_get keys i ≡ Some key
      → (slot : ℕ) × (slice_get told i ≡ Some (record { zone = zone; slot = slot }))
      × (HasCome add added key slot
      ⊎ ((IsThere add key → ⊥) × ((p : Slotted) × IsAmong before p × (key_of p.set ≡ key) × (p.slot ≡ slot))))
  leavings_go before [] told after rising leave i key at = absurd (grind (arith, at))
  leavings_go before (first ∷ keys) told after rising (slot, middle, rest, one, is_told, more) zero key at =
      let same : first ≡ key = grind (arith, at) in (
        slot,
        ap (λ (refs : List SetRef). slice_get refs 0) is_told,
        subst (λ k. HasCome add added k slot
            ⊎ ((IsThere add k → ⊥) × ((p : Slotted) × IsAmong before p × (key_of p.set ≡ k) × (p.slot ≡ slot))))
            same (by one),
      )
    where
      by : GoesUnlessCome add added before first slot middle → HasCome add added first slot
          ⊎ ((IsThere add first → ⊥)
          × ((p : Slotted) × IsAmong before p × (key_of p.set ≡ first) × (p.slot ≡ slot)))
      by (inl (come, same)) = inl come
      by (inr (none, taken)) = inr (none, what_goes before middle first slot rising taken)
  leavings_go before (first ∷ keys) told after rising (slot, middle, rest, one, is_told, more) (suc i) key at =
      let later = leavings_go middle keys rest after (one_rising before first slot middle rising one) more
      i key at in (
        later.0,
        ap (λ (refs : List SetRef). slice_get refs (suc i)) is_told ∙ later.1,
        elim later.2 [
          | inl come ↦ inl come
          | inr (none, it) ↦
              inr (none, (it.0, (one_was before first slot middle rising one it.0 it.1).0, it.2, it.3))
        ],
      )

  pub leavings_as_many : (before : List Slotted) (keys : List SetKey) (told : List SetRef)
      (after : List Slotted) → Goings zone add added before keys told after → length told ≡ length keys
  leavings_as_many before [] told after leave = ap length leave.0
  leavings_as_many before (key ∷ keys) told after (slot, middle, rest, one, is_told, more) =
      ap length is_told ∙ ap suc (leavings_as_many middle keys rest after more)

  still_there : (before after : List Slotted) (key : SetKey) (slot : ℕ) → IsRising (sets_of before)
      → GoesUnlessCome add added before key slot after
      → (keys : List SetKey) → AllByRecursion (λ other. key ≢ other) keys
      → AreThere (sets_of before) keys → AreThere (sets_of after) keys
  still_there before after key slot rising one [] apart there = tt
  still_there before after key slot rising one (other ∷ keys) apart there =
      let p = there_by_key before other there.0 in (
        key_is_there after other p.0
            (one_stays before key slot after rising one p.0 p.1
            (λ e. absurd (apart.0 (sym e ∙ p.2)))) p.2,
        there.1,
        still_there before after key slot rising one keys apart.1 there.2,
      )

  -- the keys behind are there still
  pub there_after : (before after : List Slotted) (key : SetKey) (slot : ℕ) (keys : List SetKey)
      → IsRising (sets_of before) → GoesUnlessCome add added before key slot after
      → AreThere (sets_of before) (key ∷ keys) → AreThere (sets_of after) keys
  there_after before after key slot keys rising one there =
      still_there before after key slot rising one keys there.1 there.2

  -- one more that goes, where what is left was what is left of all
  pub more_leave : (before now next : List Slotted) (keys left : List SetKey) (key : SetKey)
      (slot : ℕ) (removed removed_now : List SetRef)
      → ((told : List SetRef) (after : List Slotted) → Goings zone add added now (key ∷ left) told after
      → Goings zone add added before keys (removed ++ told) after)
      → GoesUnlessCome add added now key slot next
      → removed_now ≡ removed ++ record { zone = zone; slot = slot } ∷ []
      → (told : List SetRef) (after : List Slotted) → Goings zone add added next left told after
      → Goings zone add added before keys (removed_now ++ told) after
  more_leave before now next keys left key slot removed removed_now so_far one is_now told after more =
      let ref : SetRef = record { zone = zone; slot = slot } in
      subst (λ refs. Goings zone add added before keys refs after)
      (sym (append_assoc removed (ref ∷ []) told)
      ∙ ap (λ refs. refs ++ told) (sym is_now))
      (so_far (ref ∷ told) after (slot, next, told, one, refl, more))
