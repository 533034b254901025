-- What the files of a store open to that was opened, and what is told where it was not.
use Rattle.std.proofs.Common.{◌≡◌, ℕ, List, Option, Some, Err, sym, ◌∙◌, subst}
use Rattle.std.proofs.lemmas.Option.{same_Some}
use Rattle.config_opening.specs.Holding.{Holds}
use Rattle.config_opening.specs.States.{State, config_of}
use Rattle.config_opening.specs.Opening.{IsFault, Syncs}
use Rattle.config_model.specs.Configs.{Config}
use Rattle.dump_run.specs.Dumping.{DumpLeaves, DumpSyncs, IsTold, IsUnwritten, told_of}
use Rattle.store_model.specs.Laws.{NoStoreOrConfig}
use Rattle.store_model.specs.Opening.{IsNoStore, OpensAs, OpensConfig}
use Rattle.zone_journal.specs.Pairs.{BothRead, Unwritten}
use Rattle.zone_journal.specs.declared.answers.OpenFault.{OpenFault}
use Rattle.zone_journal.specs.declared.answers.OpenFault.TheVariants as fault

module _ {D : Type 0} (reading : D → Option (List ℕ)) (images : D → List ℕ → Type 0)
    (moment : D → ℕ) (since : D → ℕ → List ℕ → Type 0) (state : State) where
  -- The files as they were read before open to what is kept: nothing was written to them.
  pub opens_so : (a_old a_new b_old b_new : D) (x y : List ℕ) → reading a_old ≡ Some x
      → reading b_old ≡ Some y → Unwritten reading images moment since a_old a_new
      → Unwritten reading images moment since b_old b_new
      → BothRead reading a_new b_new (Holds state) → OpensConfig x y (config_of state)
  opens_so a_old a_new b_old b_new x y a_reads b_reads a b leaves =
      let same_x : leaves.x ≡ x =
      same_Some leaves.x x (sym leaves.a_reads ∙ (a.reads ∙ a_reads)) in
      let same_y : leaves.y ≡ y =
      same_Some leaves.y y (sym leaves.b_reads ∙ (b.reads ∙ b_reads)) in
      let held = leaves.has in
      record {
        generation = state.journal.generation;
        snapshot = held.snapshot;
        entries = held.entries;
        opens =
            subst (λ (u : List ℕ). OpensAs u y state.journal.generation held.snapshot held.entries
            (config_of state)) same_x
            (subst (λ (v : List ℕ). OpensAs leaves.x v state.journal.generation held.snapshot
            held.entries (config_of state)) same_y held.opens);
      }

-- ---- where they were not opened

pub fault_told : NoStoreOrConfig → (A : Type 0) (x y : List ℕ) (it : OpenFault)
    → IsFault {A = A} (Err it) (IsNoStore x y) → IsTold (told_of it) x y
fault_told law A x y (fault.NotAStore side place) no_store =
    (no_store, λ config opens. law x y config side place opens no_store)
fault_told law A x y fault.DiskFault no_store = tt
fault_told law A x y fault.OutOfMemory no_store = tt

pub fault_leaves : (it : OpenFault) (held : List ℕ) (after : Option (List ℕ)) (config : Config)
    → after ≡ Some held → DumpLeaves (told_of it) held after config
fault_leaves (fault.NotAStore side place) held after config same = same
fault_leaves fault.DiskFault held after config same = same
fault_leaves fault.OutOfMemory held after config same = same

pub fault_unwritten : (it : OpenFault) (P : Type 0) → P → IsUnwritten (told_of it) P
fault_unwritten (fault.NotAStore side place) P same = same
fault_unwritten fault.DiskFault P same = same
fault_unwritten fault.OutOfMemory P same = same

pub fault_syncs : {D : Type 0} (A : Type 0) (images : D → List ℕ → Type 0) (it : OpenFault)
    (x y : List ℕ) (a_old a_new b_old b_new : D)
    → Syncs {A = A} images (Err it) x y a_old a_new b_old b_new
    → DumpSyncs images (told_of it) x y a_old a_new b_old b_new
fault_syncs A images (fault.NotAStore side place) x y a_old a_new b_old b_new syncs = syncs
fault_syncs A images fault.DiskFault x y a_old a_new b_old b_new syncs = syncs
fault_syncs A images fault.OutOfMemory x y a_old a_new b_old b_new syncs = syncs
