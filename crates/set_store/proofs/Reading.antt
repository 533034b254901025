-- What stands in a slot, and how it begins.
use Rattle.std.proofs.Common.{◌≡◌, ℕ, ◌+◌, ◌-◌, ◌<◌, ◌≤◌, min, length-take, refl, List, ◌++◌, Option, None, Some, length, take, map, ap, ◌∙◌, sym, subst, arith, inl, inr}
use Rattle.std.specs.Prelude.{slice_get, option_map, ◌⊎◌}
use Rattle.std.proofs.lemmas.List.{take_all}
use Rattle.std.proofs.Math.Seq.{take-append-add, take-append_seam}
use Rattle.std.proofs.lemmas.Option.{slice_get-map}
use Rattle.set_scratch.specs.Stored.{Held}
use Rattle.set_search.specs.RecordSetRecord.{RecordSet}
use Rattle.set_scratch.specs.Heads.{key_octets}
use Rattle.set_scratch.specs.Laws.{KeysAreInFront}
use Rattle.set_scratch.specs.LawsOfSetReading.{WrittenReadsBack}
use Rattle.set_store.specs.Packed.{Slot}
use Rattle.set_store.specs.Index.{HoldsAt, IsIntact, kept_in, set_of}
use Rattle.set_store.specs.Stored.{IsKept, Kept, Spells}
use Rattle.set_store.proofs.Keeping.{both, is_live, kept_at, kept_live, none_or_some, set_told}

pub below_or_not : (a b : ℕ) → (a < b) ⊎ (b ≤ a)
below_or_not a b = grind arith

-- the octets of what is kept in a slot
pub record IsFoundAt (held : Held) (slots : List Slot) (i : ℕ) (set : RecordSet) : Type 0 where
  pub octets : List ℕ
  pub there : HoldsAt held slots i octets
  pub spelled : Spells octets set

module _ (held : Held) (slots : List Slot) (free spare : ℕ) (index : IsIntact held slots free spare)
    (back : WrittenReadsBack)
    (i : ℕ) (kept : Kept) (there : IsKept (map (kept_in held) slots) i kept) where
  pub found_in : (slot : Slot) → slice_get slots i ≡ Some slot → IsFoundAt held slots i kept.set
  found_in slot at =
      let live = is_live held slots i slot at (kept, there) in
      let o = index.live i slot at live in
      let told = kept_at held slots i slot _ at (kept_live held slot o.0 live o.1) in
      let same : set_of o.0 ≡ kept.set =
      ap (λ (k : Kept). k.set)
      (both (slice_get (map (kept_in held) slots) i)
      (record { zone = slot.zone; set = set_of o.0 }) kept told there) in
      record {
        octets = o.0;
        there = (slot, at, live, o.1, o.3);
        spelled = subst (Spells o.0) (sym (set_told back o.0 o.2.0 o.2.1) ∙ same) o.2.1;
      }

  pub found : IsFoundAt held slots i kept.set
  found = by (slice_get slots i) refl
    where
      by : (o : Option Slot) → slice_get slots i ≡ o → IsFoundAt held slots i kept.set
      by None e = absurd (none_or_some (slice_get (map (kept_in held) slots) i) (Some kept)
          (slice_get-map (kept_in held) slots i ∙ ap (option_map (kept_in held)) e) there)
      by (Some slot) e = found_in slot e

-- a first part with all that tells the key
pub head_there : KeysAreInFront → (set : RecordSet) (octets : List ℕ) → Spells octets set → (n : ℕ)
    → (387 ≤ n) ⊎ (length octets ≤ n) → (rest : List ℕ) × (take n octets ≡ key_octets set ++ rest)
head_there keys set octets spells n enough =
    let key = keys set spells.is in
    let whole : octets ≡ key_octets set ++ key.rest = spells.same ∙ key.in_front in
    elim enough [
      | inl long ↦
          (let few = key.few in
          let sum : n ≡ length (key_octets set) + (n - length (key_octets set)) = omega
          (arith, few, long) in (
            take (n - length (key_octets set)) key.rest,
            ap (take n) whole ∙ ap (λ k. take k (key_octets set ++ key.rest)) sum
                ∙ take-append-add (key_octets set) key.rest (n - length (key_octets set)),
          ))
      | inr short ↦ (key.rest, take_all n octets short ∙ whole)
    ]

-- the front of a buffer that was filled
pub filled : (n : ℕ) (octets buffer rest into : List ℕ) → n ≤ length octets → n ≤ length buffer
    → into ≡ take (length (take n buffer)) octets → take n (into ++ rest) ≡ take n octets
filled n octets buffer rest into within room is =
    let size : length (take n buffer) ≡ n = omega (arith, length-take n buffer, room) in
    let same : into ≡ take n octets = is ∙ ap (λ k. take k octets) size in
    let long : length into ≡ n = omega (arith, ap length same, length-take n octets, within) in
    ap (λ k. take k (into ++ rest)) (sym long) ∙ take-append_seam into rest ∙ same

-- a short set is copied whole, and of a longer one enough
pub enough_short : (size room : ℕ) → size ≤ room → (387 ≤ min size room) ⊎ (size ≤ min size room)
enough_short size room short = inr (omega (arith, short))

pub enough_long : (size : ℕ) → (387 ≤ min size 387) ⊎ (size ≤ min size 387)
enough_long size = elim (below_or_not size 387) [
  | inl lt ↦ inr (omega (arith, lt))
  | inr le ↦ inl (omega
      (arith, le))
]
