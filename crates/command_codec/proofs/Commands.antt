-- What is told of a command that octets are as a whole.
use Rattle.std.proofs.Common.{◌≡◌, ℕ, suc, ◌≤◌, ◌<◌, List, [], ◌∷◌, length, ap, ◌∙◌, sym, subst, Result, Ok, Err}
use Rattle.std.specs.Prelude.{IfOk, slice_index}
use Rattle.set_reading.specs.Names.{AreOctets}
use Rattle.set_reading.specs.StopRecord.{Stop}
use Rattle.set_reading.specs.StopRecord.TheVariants as stop
use Rattle.set_reading.specs.ReadingOfOctetReading.{Stops}
use Rattle.set_reading.specs.Readers.{whole}
use Rattle.set_reading.specs.Rules.{IsReadAs, TellsWhole}
use Rattle.set_reading.proofs.Rules.{one_spelling}
use Rattle.set_reading.proofs.WholeOfOctetReading.{whole_again, tells_whole}
use Rattle.set_reading.specs.declared.faults.ReadFault.{ReadFault}
use Rattle.set_reading.specs.Laws as set_laws
use Rattle.check_reading.specs.Laws as check_laws
use Rattle.block_reading.specs.Laws as block_laws
use Rattle.command_octets.specs.declared.commands.Command.{Command}
use Rattle.command_codec.specs.Commands.{Spells}
use Rattle.command_codec.specs.Gives.{GivesCommand}
use Rattle.command_codec.specs.Laws as laws
use Rattle.command_codec.specs.Reading.{versioned_at, unversioned, read}
use Rattle.command_codec.proofs.Fields.{IsIn, octets_in, front_read}

-- what reading as a whole tells, with the version, it tells of the command
told_of : (octets : List ℕ) (found : Result (ℕ × Command) ℕ)
    → TellsWhole IsIn octets_in octets found → laws.TellsCommand octets (unversioned found)
told_of octets (Ok x) t = record {
  version = x.0;
  is_version = t.1.0;
  is = t.1.1.0;
  has_spelling = t.1.1.1;
  spelled = t.0;
}
told_of octets (Err place) t =
    (t.0, λ what s. t.1 (s.version, what) (s.is_version, (s.is, s.has_spelling)) s.spelled)

module _ (written : set_laws.WrittenReadsBack) (told : set_laws.SetsAreTold)
    (check_commands : check_laws.CheckCommandsAreRead)
    (cidr_commands : block_laws.CidrCommandsAreRead) where
  front : IsReadAs IsIn octets_in versioned_at
  front = front_read written told check_commands cidr_commands

  -- ---- laws

  pub written_reads_back : laws.WrittenReadsBack
  unfolding read
  written_reads_back version what v is has =
      ap unversioned (whole_again front (version, what) (v, (is, has)))

  pub commands_are_told : laws.CommandsAreTold
  unfolding read
  commands_are_told octets are =
      told_of octets (whole versioned_at octets) (tells_whole front octets are)

  read_again : (octets : List ℕ) (what : Command) → Spells octets what → read octets ≡ Ok what
  read_again octets what s = ap read s.spelled
      ∙ written_reads_back s.version what s.is_version s.is s.has_spelling

  pub one_command : laws.OneSpelling
  one_command version other_version what other rest others v w is other_is has other_has e =
      let same =
      one_spelling front (version, what) (other_version, other) rest others (v, (is, has)) (
        w,
        (other_is, other_has),
      ) e in
      (ap (λ (p : ℕ × Command). p.0) same.0, ap (λ (p : ℕ × Command). p.1) same.0, same.1)

  pub read_as_nothing_else : laws.ReadAsNothingElse
  read_as_nothing_else octets what other s e = sym e ∙ read_again octets what s

  -- ---- what the call answers

  pub is_only : (octets : List ℕ) (result : Result Command ReadFault)
      → GivesCommand result (read octets) → (what : Command) → Spells octets what
      → GivesCommand result (Ok what)
  is_only octets result e what s = subst (GivesCommand result) (read_again octets what s) e

  pub is_found : (octets : List ℕ) (result : Result Command ReadFault) → AreOctets octets
      → GivesCommand result (read octets)
      → IfOk result (λ what. Spells octets what)
  is_found octets (Ok what) are e =
      subst (laws.TellsCommand octets) e (commands_are_told octets are)
  is_found octets (Err fault) are e = tt

  -- what stands behind a command, or from a fault on, is no more than the octets
  pub rest_within : (octets : List ℕ) (x : ℕ × Command) (rest : List ℕ)
      → versioned_at octets ≡ Ok (x, rest) → length rest ≤ length octets
  rest_within octets x rest e = front.left octets x rest e

  pub fault_within : (octets : List ℕ) (fault : Stop) (left : ℕ) → fault ≡ stop.Bad left
      → Stops fault (versioned_at octets) → left ≤ length octets
  fault_within octets fault left is e =
      front.fault octets left (subst (λ f. Stops f (versioned_at octets)) is e)

-- octets of a slice are octets
pub are_octets : (octets : List ℕ) → ((i : ℕ) → slice_index octets i < 256) → AreOctets octets
are_octets [] bytes = tt
are_octets (b ∷ octets) bytes = (bytes 0, are_octets octets (λ i. bytes (suc i)))
