-- What making a command ready, and committing it, comes to.
use Rattle.std.specs.Prelude.{◌≡◌, ◌≢◌, ◌≤◌, ℕ, ◌+◌, length, Result, Ok, Err}
use Rattle.config_journal.specs.States.{Ready, State, config_of}
use Rattle.r53_state.specs.Applying.{Decides}
use Rattle.r53_state.specs.MadeRecord.{Made}
use Rattle.r53_state.specs.RefusalRecord.{Refusal}
use Rattle.r53_state.specs.RefusalRecord.TheVariants as refusal
use Rattle.r53_state.specs.Steps.{TellsSets, checks_of}
use Rattle.zone_journal.specs.Appending.{Fits, RefusesBy}

-- The configuration and its journal stay as they are; the zones may have more slots.
pub record StaysSo (old new : State) : Type 0 where
  pub zones : new.config.table.zones ≡ old.config.table.zones
  pub slots : old.config.table.slots ≤ new.config.table.slots
  pub config : config_of new ≡ config_of old
  pub told : new.config.told ≡ old.config.told
  pub journal : new.journal ≡ old.journal

-- A command was written down, behind the entries before it, and made.
pub record IsCommitted (what : Made) (old : State) (ready : Ready) (new : State) : Type 0 where
  pub fits : Fits old.journal (length ready.entry)
  pub decides : Decides (config_of old) ready.prepared.command (Ok (config_of new, what))
  pub journal : new.journal
      ≡ record old.journal { at = old.journal.at + (5 + length ready.entry) }
  pub told : TellsSets old.config ready.prepared.edit new.config
  pub slots : new.config.table.slots ≡ old.config.table.slots
  pub checks : new.config.checks.checks
      ≡ checks_of old.config.checks.checks ready.prepared.command

-- What an answer says, a line for each: a command that was accepted is committed; or there is no room
-- in a file, or a disk failed, and it isn't made.
abbrev pub CommitGives : Result Made Refusal → (old : State) → Ready → (new : State) → Type 0
CommitGives (Ok what) old ready new = IsCommitted what old ready new
CommitGives (Err (refusal.JournalFull full)) old ready new =
    RefusesBy full old.journal (length ready.entry) × (new ≡ old)
CommitGives (Err refusal.DiskFault) old ready new =
    Fits old.journal (length ready.entry) × (new ≡ old)
CommitGives (Err other) old ready new = ⊥

-- P, but where a disk failed
abbrev pub UnlessFault : Result Made Refusal → Type 0 → Type 0
UnlessFault outcome P = outcome ≢ Err refusal.DiskFault → P

-- P, where there is no room in a file
abbrev pub OnFull : Result Made Refusal → Type 0 → Type 0
OnFull outcome P = (full : ℕ) → outcome ≡ Err (refusal.JournalFull full) → P

-- P of what was made, where a command was
abbrev pub OnMade : Result Made Refusal → (P : Type 0) → Type 0
OnMade outcome P = (what : Made) → outcome ≡ Ok what → P
