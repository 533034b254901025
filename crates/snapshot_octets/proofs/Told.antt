-- What is told of the configuration of which octets are a snapshot.
use Rattle.std.proofs.Common.{◌≡◌, ℕ, List, ap, ◌∙◌, sym, Result, Ok, Err}
use Rattle.config_model.specs.Readers.{whole}
use Rattle.config_model.specs.RulesOfOctetReading.{IsReadAs, TellsWhole}
use Rattle.config_model.proofs.Whole.{whole_again, tells_whole}
use Rattle.config_model.specs.Configs.{Config}
use Rattle.config_model.specs.LawsOfSetReading as set_laws
use Rattle.snapshot_octets.specs.Laws as laws
use Rattle.snapshot_octets.specs.Octets.{IsSnapshot}
use Rattle.snapshot_octets.specs.Reading.{versioned_at, read, unversioned}
use Rattle.snapshot_octets.proofs.Fields.{IsIn, front_read, octets_in}

-- what reading as a whole tells, with the version, it tells of the configuration
told_of : (octets : List ℕ) (found : Result (ℕ × Config) ℕ)
    → TellsWhole IsIn octets_in octets found → laws.TellsConfig octets (unversioned found)
told_of octets (Ok x) t = record { version = x.0; has = t.1; spelled = t.0 }
told_of octets (Err place) t = (t.0, λ config s. t.1 (s.version, config) s.has s.spelled)

same_ok : (config other : Config) → ◌≡◌ {A = Result Config ℕ} (Ok config) (Ok other) → config ≡ other
same_ok config other e = cc

module _ (written : set_laws.WrittenReadsBack) (told : set_laws.SetsAreTold) where
  front : IsReadAs IsIn octets_in versioned_at
  front = front_read written told

  pub snapshots_read_back : laws.SnapshotsReadBack
  unfolding read
  snapshots_read_back version config has = ap unversioned (whole_again front (version, config) has)

  pub snapshots_are_told : laws.SnapshotsAreTold
  unfolding read
  snapshots_are_told octets are = told_of octets (whole versioned_at octets) (tells_whole front octets are)

  read_again : (octets : List ℕ) (config : Config) → IsSnapshot octets config
      → read octets ≡ Ok config
  read_again octets config s =
      ap read s.spelled ∙ snapshots_read_back s.version config s.has

  pub one_configuration : laws.OneConfiguration
  one_configuration octets config other is other_is =
      same_ok config other (sym (read_again octets config is) ∙ read_again octets other other_is)
