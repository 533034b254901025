-- What a query in words asks.
use Rattle.std.specs.Prelude.{◌≡◌, ◌⊎◌, ℕ, List, ◌++◌, Some, codes}
use Rattle.prefix_text.specs.Prefixes.{plain_number}
use Rattle.rdata_layout.specs.Types.{number_of, text_of}
use Rattle.rdata_layout.specs.declared.types.RType.{RType}
use Rattle.scenario_words.specs.declared.asking.Query.{Query}

-- the text of a type that sets have, or of any, as in `TYPE65280` (RFC 3597, 5)
abbrev pub IsType : (text : List ℕ) → (number : ℕ) → Type 0
IsType text number =
    ((rtype : RType) × (text_of rtype ≡ text) × (number_of rtype ≡ number))
    ⊎ ((digits : List ℕ) × (text ≡ codes "TYPE" ++ digits)
    × (plain_number 65535 digits ≡ Some number))

-- They ask the same.
pub record AsksSame (old new : Query) : Type 0 where
  pub name : new.name ≡ old.name
  pub qtype : new.qtype ≡ old.qtype
