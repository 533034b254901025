-- Laws over the texts of names and strings: what the reading of a text byte by byte gives is what
-- the text spells, or its fault.
use Rattle.std.specs.Prelude.{◌≡◌, ℕ, ◌↔◌, List, take, Ok, Err, None, Some}
use Rattle.value_text.specs.Strings.{string_of_text}
use Rattle.dns_name.specs.Labels.{lowered}
use Rattle.dns_name.specs.Text.{labels_of_text, name_of_text}
use Rattle.dns_name.specs.declared.fault.NameFault.{NameFault}
use Rattle.text_meanings.specs.Names.{IsTextOf, GoesOn}
use Rattle.text_meanings.specs.Faults.{HasFault, StopsAt, place_of}
use Rattle.text_meanings.specs.Strings.{SpellsString}

-- Reading a text gives these labels exactly where it is their text.
abbrev pub LabelsAsSpelled : Type 0
LabelsAsSpelled =
    (text : List ℕ) (labels : List (List ℕ))
    → (labels_of_text text ≡ Ok labels) ↔ IsTextOf text labels

-- Reading it as a name gives these labels exactly where it is the text of labels that are these in
-- lower case.
abbrev pub NamesAsSpelled : Type 0
NamesAsSpelled =
    (text : List ℕ) (labels : List (List ℕ))
    → (name_of_text text ≡ Ok labels)
    ↔ ((spelled : List (List ℕ)) × IsTextOf text spelled × (labels ≡ lowered spelled))

-- A text is one name's at most.
abbrev pub OneNameOfAText : Type 0
OneNameOfAText = (text : List ℕ) (labels others : List (List ℕ)) → IsTextOf text labels
    → IsTextOf text others → labels ≡ others

-- Reading a text tells this fault exactly where the text has it, in either reading.
abbrev pub FaultsAsTold : Type 0
FaultsAsTold =
    (text : List ℕ) (fault : NameFault)
    → ((labels_of_text text ≡ Err fault) ↔ HasFault text fault)
    × ((name_of_text text ≡ Err fault) ↔ HasFault text fault)

-- A text has one fault at most.
abbrev pub OneFaultOfAText : Type 0
OneFaultOfAText = (text : List ℕ) (fault other : NameFault) → HasFault text fault
    → HasFault text other → fault ≡ other

-- Up to its fault a text could go on to a name's, and with what stands there it can't, but for an
-- escape that is cut off, a dot at the start and the empty text: the fault is the first.
abbrev pub FaultsStandFirst : Type 0
FaultsStandFirst =
    (text : List ℕ) (fault : NameFault) → HasFault text fault
    → GoesOn (take (place_of fault) text) × StopsAt text fault

-- Reading a text gives this string exactly where it spells it, and none exactly where it spells
-- none.
abbrev pub StringsAsSpelled : Type 0
StringsAsSpelled =
    (text : List ℕ)
    → ((string : List ℕ) → (string_of_text text ≡ Some string) ↔ SpellsString text string)
    × ((string_of_text text ≡ None) ↔ ((string : List ℕ) → SpellsString text string → ⊥))

-- A text spells one string at most.
abbrev pub OneStringOfAText : Type 0
OneStringOfAText = (text string other : List ℕ) → SpellsString text string
    → SpellsString text other → string ≡ other
