-- A slot in use gets other octets.
use Rattle.std.proofs.Common.{◌≡◌, ◌≢◌, ℕ, ◌<◌, List, None, Some, length, set, map, ap, ◌∙◌, sym, refl, arith}
use Rattle.std.specs.Prelude.{slice_get}
use Rattle.std.specs.FinMap as finmap
use Rattle.std.proofs.lemmas.List.{length-set}
use Rattle.std.proofs.lemmas.Option.{slice_get_within}
use Rattle.set_scratch.specs.Stored.{Held}
use Rattle.set_search.specs.RecordSetRecord.{RecordSet}
use Rattle.set_scratch.specs.LawsOfSetReading.{WrittenReadsBack}
use Rattle.set_store.specs.Packed.{Slot}
use Rattle.set_store.specs.Index.{IsIntact, IsLive, kept_in, no_cell, set_of}
use Rattle.set_store.specs.Stored.{IsSpelling, Spells}
use Rattle.set_store.specs.Tags.{IsTagged}
use Rattle.set_store.proofs.Chains.{moved}
use Rattle.set_store.proofs.Counts.{count_set, used_live}
use Rattle.set_store.proofs.Keeping.{apart_now, few_now, kept_live, live_now, another, free_apart, seen, set_told}
use Rattle.set_store.proofs.Lists.{get_other}
use Rattle.set_store.proofs.Puts as put

module _ (held mid now : Held) (h : ℕ) (octets : List ℕ) (fresh : finmap.get held h ≡ None)
    (here : finmap.get mid h ≡ Some octets)
    (others : (other : ℕ) → other ≢ h → finmap.get mid other ≡ finmap.get held other)
    (slots : List Slot) (free spare : ℕ) (index : IsIntact held slots free spare) (i : ℕ) (slot : Slot)
    (at : slice_get slots i ≡ Some slot) (live : IsLive slot)
    (kept : (other : ℕ) → other ≢ slot.cell → finmap.get now other ≡ finmap.get mid other)
    (few : h ≢ no_cell) (tag : ℕ) (tagged : IsTagged tag octets) where
  abbrev new : Slot
  new = record { cell = h; tag = tag; zone = slot.zone }

  there : finmap.get now h ≡ Some octets
  there =
      kept h (λ e. put.other_cell held mid h octets fresh here others slots free spare index i slot at live
      (sym e)) ∙ here

  stays : (j : ℕ) (other : Slot) → j ≢ i → slice_get slots j ≡ Some other → IsLive other
      → finmap.get now other.cell ≡ finmap.get held other.cell
  stays j other ne at_j is =
      kept other.cell (another held slots free spare index i slot at live j other ne at_j is)
      ∙ put.stays held mid h octets fresh here others slots free spare index j other at_j is

  own : (j : ℕ) (other : Slot) → j ≢ i → slice_get slots j ≡ Some other → IsLive other → other.cell ≢ h
  own j other ne at_j is = put.other_cell held mid h octets fresh here others slots free spare index j other
      at_j is

  within : i < length slots
  within = slice_get_within slots i slot at

  pub replaced : IsSpelling octets → IsIntact now (set slots i new) free spare
  replaced spelling = record {
    live = live_now held now slots free spare index i within new stays own (λ l. (octets, there, spelling, tagged));
    apart = apart_now held now slots free spare index i within new stays own (λ l. (octets, there, spelling, tagged));
    rank = index.rank;
    chain = moved slots (set slots i new) index.rank index.rank spare
        (λ k other at_k dead below. (
          get_other slots i k new (free_apart held slots free spare index i slot at live k other at_k dead)
              ∙ at_k,
          refl,
        ))
        spare free (omega arith) index.chain;
    counted = (let c = count_set slots i slot new at in
        let u = used_live slot live in
        let v = used_live new few in
        omega (arith, c, u, v, index.counted, length-set slots i new));
    few = few_now held now slots free spare index i within new stays own (λ l. (octets, there, spelling, tagged));
  }

  pub replaced_seen : WrittenReadsBack → (it : RecordSet) → Spells octets it → (zone : ℕ) → slot.zone ≡ zone
      → map (kept_in now) (set slots i new)
      ≡ set (map (kept_in held) slots) i (Some (record { zone = zone; set = it }))
  replaced_seen back it spells zone same =
      seen held now slots free spare index i within new stays own (λ l. (octets, there, (it, spells), tagged))
      (Some (record { zone = zone; set = it }))
      (kept_live now new octets few there
      ∙ ap (λ z. Some (record { zone = z; set = set_of octets })) same
      ∙ ap (λ s. Some (record { zone = zone; set = s })) (set_told back octets it spells))
