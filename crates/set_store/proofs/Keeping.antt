-- What is kept in slots, where one slot changes.
use Rattle.std.proofs.Common.{◌≡◌, ◌≢◌, ℕ, ◌<◌, ◌^◌, List, [], Option, None, Some, cond, length, set, map, ap, ◌∙◌, sym, subst, arith, inl, inr, Ok}
use Rattle.std.specs.Prelude.{◌⊎◌, slice_get, option_map, unwrap_or, ◌==◌}
use Rattle.std.specs.FinMap as finmap
use Rattle.std.proofs.lemmas.Bool.{eq-eqb}
use Rattle.std.proofs.lemmas.Bool.Decides.{eqb_tells}
use Rattle.std.proofs.lemmas.List.{append-nil, map-set, length-set}
use Rattle.std.proofs.lemmas.Option.{slice_get-map}
use Rattle.set_scratch.specs.Stored.{Held}
use Rattle.set_search.specs.RecordSetRecord.{RecordSet}
use Rattle.set_scratch.specs.Octets.{set_octets}
use Rattle.set_scratch.specs.LawsOfSetReading.{WrittenReadsBack}
use Rattle.set_scratch.specs.Reading.{read}
use Rattle.set_store.specs.Packed.{Slot}
use Rattle.set_store.specs.Index.{IsIntact, IsLive, kept_in, no_cell, octets_in, set_of, set_read}
use Rattle.set_store.specs.Stored.{IsSpelling, IsInUse, Kept, Spells}
use Rattle.set_store.specs.Tags.{IsTagged}
use Rattle.set_store.proofs.Lists.{get_other, get_same, same_or_not, set_agree}

-- a set is the one of its octets
pub set_told : WrittenReadsBack → (octets : List ℕ) (set : RecordSet) → Spells octets set
    → set_of octets ≡ set
unfolding set_of
set_told back octets set spells =
    let r : read (set_octets set) ≡ Ok (set, length (set_octets set)) =
    ap read (sym (append-nil (set_octets set))) ∙ back set [] spells.is spells.has_spelling in
    ap (λ o. set_read (read o)) spells.same ∙ ap set_read r

-- what is kept in a slot that is free
pub kept_free : (held : Held) (slot : Slot) → slot.cell ≡ no_cell → kept_in held slot ≡ None
kept_free held slot e =
    ap (λ b. cond b None (Some (record { zone = slot.zone; set = set_of (octets_in held slot.cell) })))
    (eq-eqb slot.cell no_cell e)

-- what is kept in a slot in use
pub kept_live : (held : Held) (slot : Slot) (octets : List ℕ) → IsLive slot
    → finmap.get held slot.cell ≡ Some octets
    → kept_in held slot ≡ Some (record { zone = slot.zone; set = set_of octets })
kept_live held slot octets live there = elim (eqb_tells slot.cell no_cell) [
  | inl e ↦ absurd (live e.1)
  | inr e ↦
      (ap (λ b. cond b None (Some (record { zone = slot.zone; set = set_of (octets_in held slot.cell) }))) e.0
      ∙ ap (λ o. Some (record { zone = slot.zone; set = set_of (unwrap_or o []) })) there)
]

-- slots that keep what they kept: their octets stay
pub kept_alike : (held now : Held) (slot : Slot) → (IsLive slot
    → finmap.get now slot.cell ≡ finmap.get held slot.cell)
    → kept_in now slot ≡ kept_in held slot
kept_alike held now slot same = elim (eqb_tells slot.cell no_cell) [
  | inl e ↦ (kept_free now slot e.1 ∙ sym (kept_free held slot e.1))
  | inr e ↦
      (ap (λ o. cond (slot.cell == no_cell) None (Some (record {
        zone = slot.zone;
        set = set_of
            (unwrap_or o []);
      }))) (same e.1))
]

pub none_or_some : {X : Type 0} (o : Option X) (x : X) → o ≡ None → o ≡ Some x → ⊥
none_or_some o x e f = absurd cc

pub one : {X : Type 0} (o : Option X) (x y : X) → o ≡ Some x → o ≡ Some y → x ≡ y
one o x y e f = cc

not_both : {X : Type 0} (o : Option (Option X)) (x : X) → o ≡ Some None → o ≡ Some (Some x) → ⊥
not_both o x e f = absurd cc

pub both : {X : Type 0} (o : Option (Option X)) (x y : X) → o ≡ Some (Some x) → o ≡ Some (Some y) → x ≡ y
both o x y e f = cc

pub some_spare : (spare free : ℕ) → spare ≡ free → 0 < free → 0 < spare
some_spare spare free e some = omega (arith, e, some)

-- a handle is none of a free slot
pub is_cell : (h cells all : ℕ) → all ≡ cells → all < 2 ^ 27 → h < cells → h ≢ no_cell
is_cell h cells all e most below = λ f. absurd (omega (arith, e, most, below, f))

-- One slot changes, and the octets of all others stay.
module _ (held now : Held) (slots : List Slot) (free spare : ℕ) (index : IsIntact held slots free spare)
    (i : ℕ)
    (inside : i < length slots) (x : Slot)
    (stays : (j : ℕ) (slot : Slot) → j ≢ i → slice_get slots j ≡ Some slot → IsLive slot
    → finmap.get now slot.cell ≡ finmap.get held slot.cell)
    (own : (j : ℕ) (slot : Slot) → j ≢ i → slice_get slots j ≡ Some slot → IsLive slot → slot.cell ≢ x.cell)
    (good : IsLive x → (octets : List ℕ) × (finmap.get now x.cell ≡ Some octets) × IsSpelling octets
    × IsTagged x.tag octets) where
  old_at : (j : ℕ) (slot : Slot) → j ≢ i → slice_get (set slots i x) j ≡ Some slot
      → slice_get slots j ≡ Some slot
  old_at j slot apart at = sym (get_other slots i j x apart) ∙ at

  new_at : (j : ℕ) (slot : Slot) → j ≡ i → slice_get (set slots i x) j ≡ Some slot → x ≡ slot
  new_at j slot e at = one (slice_get (set slots i x) i) x slot (get_same slots i x inside)
      (ap (λ k. slice_get (set slots i x) k) (sym e) ∙ at)

  pub live_now : (j : ℕ) (slot : Slot) → slice_get (set slots i x) j ≡ Some slot → IsLive slot
      → (o : List ℕ) × (finmap.get now slot.cell ≡ Some o) × IsSpelling o × IsTagged slot.tag o
  live_now j slot at live = elim (same_or_not j i) [
    | inl e ↦
        (subst (λ (s : Slot). IsLive s → (o : List ℕ) × (finmap.get now s.cell ≡ Some o)
        × IsSpelling o × IsTagged s.tag o) (new_at j slot e at) good
        live)
    | inr ne ↦
        (let was = old_at j slot ne at in
        let o = index.live j slot was live in
        (o.0, stays j slot ne was live ∙ o.1, o.2, o.3))
  ]

  pub apart_now : (j k : ℕ) (slot other : Slot) → slice_get (set slots i x) j ≡ Some slot
      → slice_get (set slots i x) k ≡ Some other → IsLive slot → slot.cell ≡ other.cell → j ≡ k
  apart_now j k slot other at_j at_k live same = by (same_or_not j i) (same_or_not k i)
    where
      by : (j ≡ i) ⊎ (j ≢ i) → (k ≡ i) ⊎ (k ≢ i) → j ≡ k
      by (inl e) (inl f) = e ∙ sym f
      by (inl e) (inr g) =
          let c : other.cell ≡ x.cell = sym same ∙ ap (λ (s : Slot). s.cell) (sym (new_at j slot e at_j)) in
          absurd (own k other g (old_at k other g at_k) (λ d. live (same ∙ d)) c)
      by (inr n) (inl f) =
          let c : slot.cell ≡ x.cell = same ∙ ap (λ (s : Slot). s.cell) (sym (new_at k other f at_k)) in
          absurd (own j slot n (old_at j slot n at_j) live c)
      by (inr n) (inr g) = index.apart j k slot other (old_at j slot n at_j) (old_at k other g at_k) live same

  pub few_now : length (set slots i x) < 2 ^ 32
  few_now = let f = index.few in subst (λ n. n < 2 ^ 32) (sym (length-set slots i x)) f

  pub seen : (v : Option Kept) → kept_in now x ≡ v → map (kept_in now) (set slots i x) ≡ set (map
      (kept_in held) slots) i v
  seen v is =
      map-set (kept_in now) slots i x ∙ ap (λ w. set (map (kept_in now) slots) i w) is
      ∙ set_agree (kept_in now) (kept_in held) slots i v
      (λ j slot apart at. kept_alike held now slot (λ live. stays j slot apart at live))

-- what is kept in a slot, by its place
pub kept_at : (held : Held) (slots : List Slot) (i : ℕ) (slot : Slot) (v : Option Kept)
    → slice_get slots i ≡ Some slot
    → kept_in held slot ≡ v → slice_get (map (kept_in held) slots) i ≡ Some v
kept_at held slots i slot v at is =
    slice_get-map (kept_in held) slots i ∙ ap (option_map (kept_in held)) at ∙ ap Some is

-- A slot in use beside others.
module _ (held : Held) (slots : List Slot) (free spare : ℕ) (index : IsIntact held slots free spare) (i : ℕ)
    (slot : Slot)
    (at : slice_get slots i ≡ Some slot) (live : IsLive slot) where
  -- each other slot has another handle
  pub another : (j : ℕ) (other : Slot) → j ≢ i → slice_get slots j ≡ Some other → IsLive other
      → other.cell ≢ slot.cell
  another j other ne at_j is same = ne (index.apart j i other slot at_j at is same)

  pub free_apart : (k : ℕ) (other : Slot) → slice_get slots k ≡ Some other → other.cell ≡ no_cell → k ≢ i
  free_apart k other at_k dead e =
      let same : other ≡ slot = one (slice_get slots k) other slot at_k (ap (slice_get slots) e ∙ at) in
      live (ap (λ (s : Slot). s.cell) (sym same) ∙ dead)

-- The slot at a place, of which something is told.
module _ (held : Held) (slots : List Slot) (i : ℕ) (slot : Slot) (at : slice_get slots i ≡ Some slot) where
  pub is_live : IsInUse (map (kept_in held) slots) i → IsLive slot
  is_live (kept, there) dead =
      not_both (slice_get (map (kept_in held) slots) i) kept (kept_at held slots i slot None at
      (kept_free held slot dead)) there

  pub zone_kept : (kept : Kept) → slice_get (map (kept_in held) slots) i ≡ Some (Some kept)
      → slot.zone ≡ kept.zone
  zone_kept kept there = elim (eqb_tells slot.cell no_cell) [
    | inl e ↦ absurd (is_live (kept, there) e.1)
    | inr e ↦
        (let k : kept_in held slot ≡ Some (record {
          zone = slot.zone;
          set = set_of
              (octets_in held slot.cell);
        }) =
        ap (λ b. cond b None (Some (record {
          zone = slot.zone;
          set = set_of
              (octets_in held slot.cell);
        }))) e.0 in
        let same = kept_at held slots i slot _ at k in
        ap (λ (k : Kept). k.zone) (both (slice_get (map (kept_in held) slots) i) _ kept same there))
  ]
