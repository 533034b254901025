-- What an opening leaves, behind the reading of entries.
use Rattle.std.proofs.Common.{◌∙◌, ℕ, List, [], Option, Result, Ok, Err, inl, inr, refl, arith}
use Rattle.config_journal.specs.States.{State}
use Rattle.config_journal.specs.Configs.{Config}
use Rattle.config_opening.specs.Opening.{IsAtFirstGate, IsFault, Replays, Syncs}
use Rattle.r53_disk.specs.Disk.{Rests}
use Rattle.config_journal.specs.Laws.{BaselessIsNoStore, BrokenIsNoStore}
use Rattle.config_journal.specs.Opening.{IsBase, IsNoStore}
use Rattle.zone_journal.specs.Opening.{OpenGives}
use Rattle.zone_journal.specs.Pairs.{BothSynced, Unwritten}
use Rattle.zone_journal.specs.Standing.{State as Journal}
use Rattle.zone_journal.specs.declared.answers.OpenFault.{OpenFault}
use Rattle.zone_journal.specs.declared.answers.OpenFault.TheVariants as fault

module _ {D : Type 0} (reading : D → Option (List ℕ)) (images : D → List ℕ → Type 0)
    (moment : D → ℕ) (images_since : D → ℕ → List ℕ → Type 0) where
  pub unwritten_on : (old mid new : D) → Unwritten reading images moment images_since old mid
      → Rests reading images moment images_since mid new
      → Unwritten reading images moment images_since old new
  unwritten_on old mid new unwritten rests = record {
    reads = rests.reads ∙ unwritten.reads;
    leaves = λ c now. unwritten.leaves c ((rests.leaves c).0 now);
    later = omega (arith, unwritten.later, rests.at_moment);
    before = λ t c le now. unwritten.before t c le ((rests.since t c).0 now);
  }

  pub both_on : (x y : List ℕ) (a_mid a_new b_mid b_new : D)
      → Rests reading images moment images_since a_mid a_new
      → Rests reading images moment images_since b_mid b_new
      → BothSynced images x y a_mid b_mid → BothSynced images x y a_new b_new
  both_on x y a_mid a_new b_mid b_new r s both = (
    λ c now. both.0 c ((r.leaves c).0 now),
    λ c now. both.1 c ((s.leaves c).0 now),
  )

  -- whatever the reading of entries comes to
  pub syncs_on : {A : Type 0} (result : Result A OpenFault) (x y : List ℕ)
      (a_old a_new b_old b_new : D) → BothSynced images x y a_new b_new
      → Syncs images result x y a_old a_new b_old b_new
  syncs_on (Ok opened) x y a_old a_new b_old b_new both = both
  syncs_on (Err (fault.NotAStore side place)) x y a_old a_new b_old b_new both = both
  syncs_on (Err fault.DiskFault) x y a_old a_new b_old b_new both = inr (inr both)
  syncs_on (Err fault.OutOfMemory) x y a_old a_new b_old b_new both = inr both

-- ---- no store

pub broken_faulty : BrokenIsNoStore → (x y : List ℕ) → (why : OpenFault)
    → OpenGives (Err why) x y → IsFault {A = State} (Err why) (IsNoStore x y)
broken_faulty law x y (fault.NotAStore side place) is = law x y side place is
broken_faulty law x y fault.DiskFault is = tt
broken_faulty law x y fault.OutOfMemory is = tt

pub baseless_faulty : BaselessIsNoStore → (journal : Journal) (octets x y : List ℕ)
    → IsAtFirstGate journal octets x y → ((config : Config) → IsBase octets config → ⊥)
    → IsNoStore x y journal.side 20
baseless_faulty law journal octets x y begins none =
    law x y journal.side journal.at journal.generation octets [] begins.0 begins.1 none

-- ---- the first gate

pub at_first_gate : (journal : Journal) (octets x y : List ℕ) → IsAtFirstGate journal octets x y
    → (config : Config) → IsBase octets config → Replays journal config x y
at_first_gate journal octets x y begins config base = record {
  active = begins.0;
  snapshot = octets;
  entries = [];
  read = begins.1;
  makes = record { base = config; is_base = base; taken = refl };
}
