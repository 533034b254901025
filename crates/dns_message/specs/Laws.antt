-- Laws over the definitions of this crate.
use Rattle.std.specs.Prelude.{◌≡◌, ℕ, List}
use Rattle.dns_message.specs.declared.query.QueryRead.{QueryRead}
use Rattle.dns_message.specs.Edns.{AreOptions, EdnsOption}
use Rattle.dns_message.specs.Judge.{Judges}
use Rattle.dns_message.specs.Records.{AnyRecord, BeginsWithRecord, Split, SplitsAs}

-- A packet splits in one way at most.
abbrev pub OneSplit : Type 0
OneSplit = (packet : List ℕ) (split other : Split) → SplitsAs packet split → SplitsAs packet other → split ≡ other

-- Octets begin with one whole record at most.
abbrev pub OneRecord : Type 0
OneRecord =
    (octets : List ℕ) (r other : AnyRecord) (size other_size : ℕ)
    → BeginsWithRecord octets r size → BeginsWithRecord octets other other_size
    → (r ≡ other) × (size ≡ other_size)

-- Octets are one list of options at most.
abbrev pub OneListOfOptions : Type 0
OneListOfOptions =
    (octets : List ℕ) (options others : List EdnsOption)
    → AreOptions octets options → AreOptions octets others → options ≡ others

-- A packet has one judgement.
abbrev pub OneJudgement : Type 0
OneJudgement = (packet : List ℕ) (judged other : QueryRead) → Judges packet judged → Judges packet other → judged ≡ other
