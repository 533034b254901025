-- What a value's text gives, by its fields: octets, or the first fault (FORMATS, Texts of values).
use Rattle.std.specs.Prelude.{◌≡◌, ℕ, zero, suc, ◌<◌, ◌≤◌, ◌⊎◌, List, []}
use Rattle.std.specs.Prelude.{◌∷◌, ◌++◌, length, Option, None, Some, Result, Ok, Err}
use Rattle.field_text.specs.FieldRecord as kind
use Rattle.field_text.specs.TailRecord.{Tail}
use Rattle.field_text.specs.TailRecord.TheVariants as tail
use Rattle.rdata.specs.RTypeRecord.{RType}
use Rattle.rdata.specs.Layout.{fields_of, tail_of}
use Rattle.rdata.specs.declared.faults.ValueFault.{ValueFault}
use Rattle.rdata.specs.declared.faults.ValueFault.TheVariants.{BadField, MissingField}
use Rattle.rdata.specs.declared.faults.ValueFault.TheVariants.{SurplusField, TooLong, OutOfMemory}
use Rattle.text_meanings.specs.Fields.{FieldText, HasFields}
use Rattle.text_meanings.specs.Kinds.{SpellsField}
use Rattle.text_meanings.specs.Strings.{SpellsString}

-- What a field has to be: of a kind; a string, behind its length on the wire; a string alone.
pub data Form : Type 0 where
  OfKind : kind.Field → Form
  Counted : Form
  Alone : Form

abbrev pub IsOfForm : Form → (bytes octets : List ℕ) → Type 0
IsOfForm (OfKind kind) bytes octets = SpellsField kind bytes octets
IsOfForm Counted bytes octets =
    (string : List ℕ) × SpellsString bytes string × (octets ≡ length string ∷ string)
IsOfForm Alone bytes octets = SpellsString bytes octets

-- What the field with this number has to be, counted from 0, where there may be one: one of each
-- of these kinds, and then nothing; or strings, as many as there are; or one string.
abbrev pub form_in : List kind.Field → Tail → (number : ℕ) → Option Form
form_in [] tail.Nothing number = None
form_in [] tail.Strings number = Some Counted
form_in [] tail.Value zero = Some Alone
form_in [] tail.Value (suc number) = None
form_in (kind ∷ kinds) end zero = Some (OfKind kind)
form_in (kind ∷ kinds) end (suc number) = form_in kinds end number

-- how many fields there have to be
abbrev pub fewest_in : List kind.Field → Tail → ℕ
fewest_in [] tail.Nothing = 0
fewest_in [] tail.Strings = 1
fewest_in [] tail.Value = 1
fewest_in (kind ∷ kinds) end = suc (fewest_in kinds end)

-- Fields are of their forms, and these are their octets, one after another.
abbrev pub AreOfForms : (forms : ℕ → Option Form) → List FieldText → (octets : List ℕ) → Type 0
AreOfForms forms [] octets = octets ≡ []
AreOfForms forms (field ∷ fields) octets =
    (form : Form) × (first : List ℕ) × (rest : List ℕ) × (forms 0 ≡ Some form)
    × IsOfForm form field.bytes first × AreOfForms (λ number. forms (suc number)) fields rest
    × (octets ≡ first ++ rest)

-- At a place stands a field behind fields that are of their forms.
pub record IsBehind (forms : ℕ → Option Form) (fields : List FieldText) (at number : ℕ)
    (bytes : List ℕ) : Type 0 where
  pub before : List FieldText
  pub field : FieldText
  pub after : List FieldText
  pub octets : List ℕ
  pub split : fields ≡ before ++ field ∷ after
  pub fine : AreOfForms forms before octets
  pub number_is : number ≡ length before
  pub place : at ≡ field.place
  pub bytes_are : bytes ≡ field.bytes

-- What fields give: their octets, where there are enough and no more than may be; the place of the
-- first that isn't of its form; the text's end, where all are of their forms and too few; the place
-- of the first for which there is no form.
abbrev pub Give : (forms : ℕ → Option Form) (fewest size : ℕ) → List FieldText
    → Result (List ℕ) ValueFault → Type 0
Give forms fewest size fields (Ok octets) =
    (fewest ≤ length fields) × AreOfForms forms fields octets
Give forms fewest size fields (Err (BadField at)) =
    (number : ℕ) × (form : Form) × (bytes : List ℕ) × IsBehind forms fields at number bytes
    × (forms number ≡ Some form) × ((octets : List ℕ) → IsOfForm form bytes octets → ⊥)
Give forms fewest size fields (Err (MissingField at)) =
    (length fields < fewest) × (at ≡ size) × (octets : List ℕ) × AreOfForms forms fields octets
Give forms fewest size fields (Err (SurplusField at)) =
    (number : ℕ) × (bytes : List ℕ) × IsBehind forms fields at number bytes
    × (forms number ≡ None)
Give forms fewest size fields (Err TooLong) = ⊥
Give forms fewest size fields (Err OutOfMemory) = ⊥

-- What a text gives: of more than 4,000 bytes that it is too long, else what its fields give.
abbrev pub Gives : RType → (text : List ℕ) → Result (List ℕ) ValueFault → Type 0
Gives rtype text read =
    ((4000 < length text) × (read ≡ Err TooLong))
    ⊎ ((length text ≤ 4000) × (fields : List FieldText) × HasFields 0 text fields
    × Give (form_in (fields_of rtype) (tail_of rtype)) (fewest_in (fields_of rtype) (tail_of rtype))
    (length text) fields read)
