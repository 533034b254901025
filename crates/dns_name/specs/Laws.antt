-- Laws over the definitions of this crate.
use Rattle.std.specs.Prelude.{◌≡◌, ℕ, ◌<◌, List, ◌++◌, length, Ok}
use Rattle.std.specs.declared.cmp.Ordering.TheVariants.{Less}
use Rattle.dns_name.specs.Labels.{wire, IsRawName}
use Rattle.dns_name.specs.Names.{IsName}
use Rattle.dns_name.specs.Order.{zone_cmp}
use Rattle.dns_name.specs.Text.{name_of_text}
use Rattle.dns_name.specs.Wire.{BeginsWithName, BeginsWithOnly}
use Rattle.dns_name.specs.Written.{text_of}

-- Bytes begin with one name at most.
abbrev pub OneNameAtTheFront : Type 0
OneNameAtTheFront = (bytes : List ℕ) (labels : List (List ℕ)) (n : ℕ)
    → BeginsWithName bytes labels n → BeginsWithOnly bytes labels n

-- Two names with one wire form are one.
abbrev pub OneNameOfAWire : Type 0
OneNameOfAWire = (labels others : List (List ℕ)) → IsRawName labels → IsRawName others
    → wire labels ≡ wire others → labels ≡ others

-- A text that reads as a name reads as labels that are a name.
abbrev pub TextsReadAsNames : Type 0
TextsReadAsNames = (text : List ℕ) (labels : List (List ℕ)) → name_of_text text ≡ Ok labels
    → IsName labels

-- The written text of a name reads as that name.
abbrev pub WrittenTextReadsBack : Type 0
WrittenTextReadsBack =
    (labels : List (List ℕ)) → IsName labels → name_of_text (text_of labels) ≡ Ok labels

-- In zone order a name stands before every name below it.
abbrev pub ParentsComeFirst : Type 0
ParentsComeFirst = (first labels : List (List ℕ)) → 0 < length first
    → zone_cmp labels (first ++ labels) ≡ Less
