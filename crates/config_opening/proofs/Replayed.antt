-- What is read at a gate, of files whose configuration is known up to it.
use Rattle.std.proofs.Common.{◌≡◌, ◌≢◌, ◌≤◌, ◌∙◌, ℕ, ◌+◌, Bool, false, List, [], ◌∷◌, ◌++◌, Option, None, Some, Result, Ok, Err, length, drop, ap, sym, refl, subst, inl, inr}
use Rattle.std.specs.Prelude.{IfOk}
use Rattle.config_journal.specs.Commands.{Spells}
use Rattle.config_journal.specs.CommandRecord.{Command}
use Rattle.config_journal.specs.Holding.{Holds}
use Rattle.config_journal.specs.Applying.{Applies, Outcome}
use Rattle.config_journal.specs.Configs.{Config}
use Rattle.config_journal.specs.RefusalRecord.{Refusal}
use Rattle.config_journal.specs.RefusalRecord.TheVariants as refusal
use Rattle.config_opening.specs.Opening.{IsFault, Replays}
use Rattle.file_building.specs.Building.{Plan}
use Rattle.gate_journal.specs.Layout.{OpensTo}
use Rattle.gate_journal.specs.Read.{IsBroken, IsRead}
use Rattle.config_journal.specs.Kept.{State as Kept, config_in}
use Rattle.octets.specs.declared.memory.OutOfMemory.{OutOfMemory}
use Rattle.r53_disk.specs.Disk.{Rests}
use Rattle.config_journal.specs.Laws.{DecidingOpens, FaultyIsNoStore, OneMoreMakes}
use Rattle.config_journal.specs.Laws.{RefusedAreRefused}
use Rattle.config_journal.specs.Opening.{IsNoStore, IsRefused, OpensAs, AcceptsEntry}
use Rattle.zone_journal.specs.Opening.{NextGives}
use Rattle.zone_journal.specs.Pairs.{active_of}
use Rattle.zone_journal.specs.Standing.{ReadsOn, State as Journal}
use Rattle.zone_journal.specs.declared.answers.OpenFault.{OpenFault}
use Rattle.zone_journal.specs.declared.answers.OpenFault.TheVariants as fault
use Rattle.zone_journal.specs.declared.answers.Side.{Side}

module _ (old : Journal) (before : Config) (x y : List ℕ) (r : Replays old before x y) where
  -- with one entry more, which is taken
  at_next : (entry : List ℕ) (n : ℕ) (after : Config)
      → IsRead n (active_of old.side x y) old.generation r.snapshot (r.entries ++ entry ∷ [])
      → AcceptsEntry before entry after → OneMoreMakes
      → Replays (record old { at = n }) after x y
  at_next entry n after read taken law = record {
    active = r.active;
    snapshot = r.snapshot;
    entries = r.entries ++ entry ∷ [];
    read = read;
    makes = law r.snapshot r.entries before after entry r.makes taken;
  }

  pub goes_on : OneMoreMakes → (new : Journal) (n : ℕ) → new ≡ record old { at = n }
      → (entry : List ℕ) (after : Config)
      → IsRead new.at (active_of old.side x y) old.generation r.snapshot (r.entries ++ entry ∷ [])
      → AcceptsEntry before entry after → Replays new after x y
  goes_on law new n moved entry after read taken =
      subst (λ (j : Journal). Replays j after x y) (sym moved)
      (at_next entry n after (subst (λ (j : Journal).
      IsRead j.at (active_of old.side x y) old.generation r.snapshot (r.entries ++ entry ∷ []))
      moved read) taken law)

  -- at the closed gate
  pub holds_there : DecidingOpens → old.plan ≡ None → (kept : Kept) → config_in kept ≡ before
      → (new : Journal) → new ≡ old
      → OpensTo (active_of old.side x y) old.generation r.snapshot r.entries
      → Holds (record { config = kept; journal = new }) x y
  holds_there law none kept same new stays opens =
      subst (λ (j : Journal). Holds (record { config = kept; journal = j }) x y) (sym stays)
      (record {
        snapshot = r.snapshot;
        entries = r.entries;
        opens = subst (λ (c : Config). OpensAs x y old.generation r.snapshot r.entries c)
            (sym same) (law x y old.side old.generation r.snapshot r.entries before r.active opens
            r.makes);
        plan = λ p is. absurd (never (sym none ∙ is));
      })
    where
      never : {p : Plan} → ◌≡◌ {A = Option Plan} None (Some p) → ⊥
      never is = absurd (Prim.cc)

  -- no entry can be taken
  pub broken : FaultyIsNoStore → IsBroken (drop old.at (active_of old.side x y))
      → IsNoStore x y old.side old.at
  broken law is = law x y old.side old.at old.generation r.snapshot r.entries before r.active
      r.read r.makes (inl is)

  pub faulty_by : (A : Type 0) → FaultyIsNoStore → (why : OpenFault) → (new : Journal)
      → NextGives (Err why) old new (active_of old.side x y) r.snapshot r.entries
      → IsFault {A = A} (Err why) (IsNoStore x y)
  faulty_by A law (fault.NotAStore side place) new gives =
      subst (λ s. IsNoStore x y s place) (sym gives.0)
      (subst (λ p. IsNoStore x y old.side p) (sym gives.1) (broken law gives.2))
  faulty_by A law fault.DiskFault new gives = tt
  faulty_by A law fault.OutOfMemory new gives = tt

  pub refused : FaultyIsNoStore → (new : Journal) (entry : List ℕ)
      → new ≡ record old { at = old.at + (5 + length entry) }
      → IsRead new.at (active_of old.side x y) old.generation r.snapshot (r.entries ++ entry ∷ [])
      → IsRefused before entry → IsNoStore x y old.side old.at
  refused law new entry moved read not_taken =
      law x y old.side old.at old.generation r.snapshot r.entries before r.active r.read r.makes
      (inr (
        entry,
        subst (λ (j : Journal).
            IsRead j.at (active_of old.side x y) old.generation r.snapshot (r.entries ++ entry ∷ []))
            moved read,
        not_taken,
      ))

-- a command that is refused, and not for want of memory
pub refused_so : RefusedAreRefused → (config : Config) (entry : List ℕ) (given : Command)
    → Spells entry given → (why : Refusal) → Applies config given (Err why)
    → (told : Result Bool OutOfMemory)
    → IfOk told (λ taken. (taken ≡ false) × (why ≢ refusal.OutOfMemory)) → told ≡ Ok false
    → IsRefused config entry
refused_so law config entry given spelled why (inl short) told is same =
    let other = (subst (λ r. IfOk r (λ taken. (taken ≡ false) × (why ≢ refusal.OutOfMemory))) same
    is).1 in
    absurd (other (same_refusal why refusal.OutOfMemory short))
  where
    same_refusal : (one two : Refusal) → ◌≡◌ {A = Outcome} (Err one) (Err two) → one ≡ two
    same_refusal one two e = cc
refused_so law config entry given spelled why (inr decides) told is same =
    let other = (subst (λ r. IfOk r (λ taken. (taken ≡ false) × (why ≢ refusal.OutOfMemory))) same
    is).1 in
    law config entry given why spelled decides other

-- the same fault
pub same_fault : (A B : Type 0) (P : Side → ℕ → Type 0) (why : OpenFault)
    → IsFault {A = A} (Err why) P → IsFault {A = B} (Err why) P
same_fault A B P (fault.NotAStore side place) is = is
same_fault A B P fault.DiskFault is = tt
same_fault A B P fault.OutOfMemory is = tt

-- ---- entries one after another

module _ {D : Type 0} (reading : D → Option (List ℕ)) (images : D → List ℕ → Type 0)
    (moment : D → ℕ) (images_since : D → ℕ → List ℕ → Type 0) (faults : D → ℕ)
    (first : Kept) (start : Journal) (a_old b_old : D) where
  -- So far all entries were taken.
  pub record Going (kept : Kept) (journal : Journal) (a b : D) : Type 0 where
    pub reads_on : ReadsOn reading images journal a b
    pub replays : (x y : List ℕ) → reading a_old ≡ Some x → reading b_old ≡ Some y
        → Replays start (config_in first) x y → Replays journal (config_in kept) x y
    pub a_rests : Rests reading images moment images_since a_old a
    pub b_rests : Rests reading images moment images_since b_old b
    pub a_counts : faults a_old ≤ faults a
    pub b_counts : faults b_old ≤ faults b
