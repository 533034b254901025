-- A free slot is filled.
use Rattle.std.proofs.Common.{◌≡◌, ◌≢◌, ℕ, ◌-◌, ◌<◌, List, None, Some, length, set, map, ap, ◌∙◌, sym, refl, subst, arith}
use Rattle.std.specs.Prelude.{slice_get}
use Rattle.std.specs.FinMap as finmap
use Rattle.std.proofs.lemmas.List.{length-set}
use Rattle.std.proofs.lemmas.Option.{slice_get_within}
use Rattle.set_scratch.specs.Stored.{Held}
use Rattle.set_search.specs.RecordSetRecord.{RecordSet}
use Rattle.set_scratch.specs.LawsOfSetReading.{WrittenReadsBack}
use Rattle.set_store.specs.Packed.{Slot}
use Rattle.set_store.specs.Index.{IsChain, IsIntact, IsLive, kept_in, no_cell}
use Rattle.set_store.specs.Stored.{IsSpelling, IsVacant, Spells}
use Rattle.set_store.specs.Tags.{IsTagged}
use Rattle.set_store.proofs.Chains.{first, moved}
use Rattle.set_store.proofs.Counts.{count_set, used_free, used_live}
use Rattle.set_store.proofs.Keeping.{apart_now, few_now, kept_at, kept_free, kept_live, live_now, none_or_some, seen, set_told}
use Rattle.set_store.proofs.Lists.{get_other}

-- Octets come under a handle that was not live.
module _ (held now : Held) (h : ℕ) (octets : List ℕ) (fresh : finmap.get held h ≡ None)
    (here : finmap.get now h ≡ Some octets)
    (others : (other : ℕ) → other ≢ h → finmap.get now other ≡ finmap.get held other)
    (slots : List Slot) (free spare : ℕ) (index : IsIntact held slots free spare) where
  -- each slot in use has another handle
  pub other_cell : (i : ℕ) (slot : Slot) → slice_get slots i ≡ Some slot → IsLive slot → slot.cell ≢ h
  other_cell i slot at live same =
      let o = index.live i slot at live in
      none_or_some (finmap.get held slot.cell) o.0 (ap (finmap.get held) same ∙ fresh) o.1

  pub stays : (i : ℕ) (slot : Slot) → slice_get slots i ≡ Some slot → IsLive slot
      → finmap.get now slot.cell ≡ finmap.get held slot.cell
  stays i slot at live = others slot.cell (other_cell i slot at live)

  module _ (some : 0 < spare) (few : h ≢ no_cell) (zone tag : ℕ)
      (tagged : IsTagged tag octets) where
    abbrev new : Slot
    new = record { cell = h; tag = tag; zone = zone }

    pub front : (slot : Slot) × (slice_get slots free ≡ Some slot) × (slot.cell ≡ no_cell)
        × (index.rank free ≡ spare - 1)
        × IsChain slots index.rank (spare - 1) slot.zone
    front = first slots index.rank spare free some index.chain

    pub inside : free < length slots
    inside = slice_get_within slots free front.0 front.1

    pub filled : IsSpelling octets → (next : ℕ) → next ≡ front.0.zone
        → IsIntact now (set slots free new) next (spare - 1)
    filled spelling next is_next = record {
      live = live_now held now slots free spare index free inside new
          (λ j slot ne at live. stays j slot at live)
          (λ j slot ne at live. other_cell j slot at live) (λ live. (octets, here, spelling, tagged));
      apart = apart_now held now slots free spare index free inside new
          (λ j slot ne at live. stays j slot at live)
          (λ j slot ne at live. other_cell j slot at live) (λ live. (octets, here, spelling, tagged));
      rank = index.rank;
      chain = subst (λ at. IsChain (set slots free new) index.rank (spare - 1) at) (sym is_next)
          (moved slots (set slots free new) index.rank index.rank (spare - 1)
          (λ k slot at dead below. (
            get_other slots free k new
                (λ e. (let r : index.rank k ≡ spare - 1 = ap index.rank e
                ∙ front.3 in absurd (omega (arith, r, below))))
                ∙ at,
            refl,
          ))
          (spare - 1) front.0.zone (omega arith) front.4);
      counted = (let c = count_set slots free front.0 new front.1 in
          let u = used_free front.0 front.2 in
          let v = used_live new few in
          omega (arith, c, u, v, index.counted, some, length-set slots free new));
      few = few_now held now slots free spare index free inside new
          (λ j slot ne at live. stays j slot at live)
          (λ j slot ne at live. other_cell j slot at live) (λ live. (octets, here, spelling, tagged));
    }

    pub vacant : IsVacant (map (kept_in held) slots) free
    vacant = kept_at held slots free front.0 None front.1 (kept_free held front.0 front.2)

    pub put_seen : WrittenReadsBack → (it : RecordSet) → Spells octets it
        → map (kept_in now) (set slots free new)
        ≡ set (map (kept_in held) slots) free (Some (record { zone = zone; set = it }))
    put_seen back it spells =
        seen held now slots free spare index free inside new (λ j slot ne at live. stays j slot at live)
        (λ j slot ne at live. other_cell j slot at live) (λ live. (octets, here, (it, spells), tagged))
        (Some (record { zone = zone; set = it }))
        (kept_live now new octets few here ∙ ap (λ s. Some (record { zone = zone; set = s }))
        (set_told back octets it spells))
