-- What the fields of a text give, as they are read.
use Rattle.std.proofs.Common.{◌≡◌, ℕ, suc, pred, ◌<◌, ◌≤◌, List, [], ◌∷◌, ◌++◌, length, arith, ap, ◌∙◌, sym, refl, subst, inl, inr}
use Rattle.std.proofs.Common.{map, Option, None, Some, Result, Ok, Err}
use Rattle.std.specs.Prelude.{◌⊎◌, ◌↔◌}
use Rattle.value_text.specs.Strings.{string_of_text}
use Rattle.field_text.specs.FieldRecord as kind
use Rattle.field_text.specs.TailRecord.{Tail}
use Rattle.field_text.specs.TailRecord.TheVariants as tail
use Rattle.field_text.specs.Spelling.{Spells}
use Rattle.rdata.specs.RTypeRecord.{RType}
use Rattle.rdata.specs.Layout.{fields_of, tail_of}
use Rattle.rdata.specs.Laws as laws
use Rattle.rdata.specs.TextFields.{bytes_of}
use Rattle.rdata.specs.Reading.{Reads, ReadsFields, in_front, at_the_end, string_first, strings_of, tail_gives}
use Rattle.rdata.specs.ValueOfText.{value_of_text}
use Rattle.rdata.specs.declared.faults.ValueFault.{ValueFault}
use Rattle.rdata.specs.declared.faults.ValueFault.TheVariants.{BadField, MissingField, SurplusField, TooLong, OutOfMemory}
use Rattle.rdata.proofs.One.{same_fields}
use Rattle.text_meanings.specs.Kinds.{SpellsField}
use Rattle.text_meanings.specs.Strings.{SpellsString}
use Rattle.text_meanings.specs.Fields.{FieldText, places, HaveBytes}
use Rattle.text_meanings.specs.Values.{Form, IsOfForm, form_in, fewest_in, AreOfForms, IsBehind, Give, Gives}
use Rattle.text_meanings.specs.Values.Form.{OfKind, Counted, Alone}
use Rattle.text_meanings.proofs.Quoted.{string_read, string_spelled, strings_spelled}
use Rattle.text_meanings.proofs.Single.{fields_spelled}
use Rattle.text_meanings.proofs.Splits.{are, have_bytes, some_fields}

nothing : (field : FieldText) (before after : List FieldText) → [] ≡ before ++ field ∷ after → ⊥
nothing field [] after e = cc
nothing field (f ∷ before) after e = cc

-- What no fields give.
none_give : (forms : ℕ → Option Form) (fewest size : ℕ) (read : Result (List ℕ) ValueFault)
    → Give forms fewest size [] read
    → ((fewest ≡ 0) × (read ≡ Ok [])) ⊎ ((0 < fewest) × (read ≡ Err (MissingField size)))
none_give forms fewest size (Ok octets) g = inl (omega (arith, g.0), ap Ok g.1)
none_give forms fewest size (Err (BadField at)) g = absurd (nothing g.3.field g.3.before g.3.after g.3.split)
none_give forms fewest size (Err (MissingField at)) g =
    inr (g.0, ap (λ n. Err (MissingField n)) g.1)
none_give forms fewest size (Err (SurplusField at)) g = absurd (nothing g.2.field g.2.before g.2.after g.2.split)
none_give forms fewest size (Err TooLong) g = absurd g
none_give forms fewest size (Err OutOfMemory) g = absurd g

-- The first field is of its form, and the others give the rest.
record Goes (forms : ℕ → Option Form) (fewest size : ℕ) (field : FieldText) (fields : List FieldText)
    (read : Result (List ℕ) ValueFault) : Type 0 where
  form : Form
  first : List ℕ
  rest : Result (List ℕ) ValueFault
  wanted : forms 0 ≡ Some form
  is : IsOfForm form field.bytes first
  gives : Give (λ number. forms (suc number)) (pred fewest) size fields rest
  read_is : read ≡ in_front first rest

-- It isn't.
record Wrong (forms : ℕ → Option Form) (field : FieldText) (read : Result (List ℕ) ValueFault) : Type 0
  where
    form : Form
    wanted : forms 0 ≡ Some form
    wrong : (octets : List ℕ) → IsOfForm form field.bytes octets → ⊥
    read_is : read ≡ Err (BadField field.place)

-- There is no form for it.
record Over (forms : ℕ → Option Form) (field : FieldText) (read : Result (List ℕ) ValueFault) : Type 0
  where
    none : forms 0 ≡ None
    read_is : read ≡ Err (SurplusField field.place)

abbrev Peeled : (forms : ℕ → Option Form) (fewest size : ℕ) (field : FieldText) (fields : List FieldText)
    (read : Result (List ℕ) ValueFault) → Type 0
Peeled forms fewest size field fields read =
    Wrong forms field read ⊎ (Over forms field read ⊎ Goes forms fewest size field fields read)

-- a field behind the first
record Later (forms : ℕ → Option Form) (field : FieldText) (fields : List FieldText) (at number : ℕ)
    (bytes : List ℕ) : Type 0 where
  form : Form
  first : List ℕ
  wanted : forms 0 ≡ Some form
  is : IsOfForm form field.bytes first
  less : ℕ
  number_is : number ≡ suc less
  behind : IsBehind (λ n. forms (suc n)) fields at less bytes

record Here (field : FieldText) (at number : ℕ) (bytes : List ℕ) : Type 0 where
  number_is : number ≡ 0
  place : at ≡ field.place
  bytes_are : bytes ≡ field.bytes

first_or_later : (forms : ℕ → Option Form) (field : FieldText) (fields : List FieldText) (at number : ℕ)
    (bytes : List ℕ) → IsBehind forms (field ∷ fields) at number bytes
    → Here field at number bytes ⊎ Later forms field fields at number bytes
first_or_later forms field fields at number bytes b = go b.before b.split b.fine b.number_is
  where
    go : (before : List FieldText) → field ∷ fields ≡ before ++ b.field ∷ b.after
        → AreOfForms forms before b.octets → number ≡ length before
        → Here field at number bytes ⊎ Later forms field fields at number bytes
    go [] e fine n =
        let same : b.field ≡ field = cc in
        inl (record {
          number_is = n;
          place = b.place ∙ ap (λ (f : FieldText). f.place) same;
          bytes_are = b.bytes_are ∙ ap (λ (f : FieldText). f.bytes) same;
        })
    go (f ∷ before) e fine n =
        let same : f ≡ field = cc in
        let more : fields ≡ before ++ b.field ∷ b.after = cc in
        inr (record {
          form = fine.0;
          first = fine.1;
          wanted = fine.3;
          is = subst (λ (x : FieldText). IsOfForm fine.0 x.bytes fine.1) same fine.4;
          less = length before;
          number_is = n;
          behind = record {
            before = before;
            field = b.field;
            after = b.after;
            octets = fine.2;
            split = more;
            fine = fine.5;
            number_is = refl;
            place = b.place;
            bytes_are = b.bytes_are;
          };
        })

peel : (forms : ℕ → Option Form) (fewest size : ℕ) (field : FieldText) (fields : List FieldText)
    (read : Result (List ℕ) ValueFault) → Give forms fewest size (field ∷ fields) read
    → Peeled forms fewest size field fields read
peel forms fewest size field fields (Ok octets) g = inr (inr (record {
  form = g.1.0;
  first = g.1.1;
  rest = Ok g.1.2;
  wanted = g.1.3;
  is = g.1.4;
  gives = (omega (arith, g.0), g.1.5);
  read_is = ap Ok g.1.6;
}))
peel forms fewest size field fields (Err (BadField at)) g =
    elim (first_or_later forms field fields at g.0 g.2 g.3) [
      | inl h ↦ inl (record {
        form = g.1;
        wanted = ap forms (sym h.number_is) ∙ g.4;
        wrong = λ octets k. g.5 octets
            (subst (λ b. IsOfForm g.1 b octets) (sym h.bytes_are) k);
        read_is = ap (λ n. Err (BadField n)) h.place;
      })
      | inr l ↦ inr (inr (record {
        form = l.form;
        first = l.first;
        rest = Err (BadField at);
        wanted = l.wanted;
        is = l.is;
        gives = (l.less, g.1, g.2, l.behind, ap forms (sym l.number_is) ∙ g.4, g.5);
        read_is = refl;
      }))
    ]
peel forms fewest size field fields (Err (MissingField at)) g = inr (inr (record {
  form = g.3.0;
  first = g.3.1;
  rest = Err (MissingField at);
  wanted = g.3.3;
  is = g.3.4;
  gives = (omega (arith, g.0), g.1, g.3.2, g.3.5);
  read_is = refl;
}))
peel forms fewest size field fields (Err (SurplusField at)) g =
    elim (first_or_later forms field fields at g.0 g.1 g.2) [
      | inl h ↦ inr (inl (record {
        none = ap forms (sym h.number_is) ∙ g.3;
        read_is = ap (λ n. Err (SurplusField n)) h.place;
      }))
      | inr l ↦ inr (inr (record {
        form = l.form;
        first = l.first;
        rest = Err (SurplusField at);
        wanted = l.wanted;
        is = l.is;
        gives = (l.less, g.1, l.behind, ap forms (sym l.number_is) ∙ g.3);
        read_is = refl;
      }))
    ]
peel forms fewest size field fields (Err TooLong) g = absurd g
peel forms fewest size field fields (Err OutOfMemory) g = absurd g

-- the other way round
none_given : (forms : ℕ → Option Form) (size : ℕ) → Give forms 0 size [] (Ok [])
none_given forms size = (omega arith, refl)

missing_given : (forms : ℕ → Option Form) (fewest size : ℕ) → 0 < fewest
    → Give forms fewest size [] (Err (MissingField size))
missing_given forms fewest size h = (h, refl, [], refl)

here_behind : (forms : ℕ → Option Form) (field : FieldText) (fields : List FieldText)
    → IsBehind forms (field ∷ fields) field.place 0 field.bytes
here_behind forms field fields = record {
  before = [];
  field = field;
  after = fields;
  octets = [];
  split = refl;
  fine = refl;
  number_is = refl;
  place = refl;
  bytes_are = refl;
}

wrong_given : (forms : ℕ → Option Form) (fewest size : ℕ) (field : FieldText) (fields : List FieldText)
    (form : Form) → forms 0 ≡ Some form
    → ((octets : List ℕ) → IsOfForm form field.bytes octets → ⊥)
    → Give forms fewest size (field ∷ fields) (Err (BadField field.place))
wrong_given forms fewest size field fields form e h =
    (0, form, field.bytes, here_behind forms field fields, e, h)

over_given : (forms : ℕ → Option Form) (fewest size : ℕ) (field : FieldText) (fields : List FieldText)
    → forms 0 ≡ None → Give forms fewest size (field ∷ fields) (Err (SurplusField field.place))
over_given forms fewest size field fields e =
    (0, field.bytes, here_behind forms field fields, e)

later_behind : (forms : ℕ → Option Form) (field : FieldText) (fields : List FieldText) (form : Form)
    (first : List ℕ) (at number : ℕ) (bytes : List ℕ) → forms 0 ≡ Some form
    → IsOfForm form field.bytes first → IsBehind (λ n. forms (suc n)) fields at number bytes
    → IsBehind forms (field ∷ fields) at (suc number) bytes
later_behind forms field fields form first at number bytes e is b = record {
  before = field ∷ b.before;
  field = b.field;
  after = b.after;
  octets = first ++ b.octets;
  split = ap (λ fs. field ∷ fs) b.split;
  fine = (form, first, b.octets, e, is, b.fine, refl);
  number_is = ap suc b.number_is;
  place = b.place;
  bytes_are = b.bytes_are;
}

goes_given : (forms : ℕ → Option Form) (fewest size : ℕ) (field : FieldText) (fields : List FieldText)
    (form : Form) (first : List ℕ) (rest : Result (List ℕ) ValueFault) → forms 0 ≡ Some form
    → IsOfForm form field.bytes first
    → Give (λ number. forms (suc number)) (pred fewest) size fields rest
    → Give forms fewest size (field ∷ fields) (in_front first rest)
goes_given forms fewest size field fields form first (Ok rest) e is g =
    (omega (arith, g.0), (form, first, rest, e, is, g.1, refl))
goes_given forms fewest size field fields form first (Err (BadField at)) e is g =
    (suc g.0, g.1, g.2, later_behind forms field fields form first at g.0 g.2 e is g.3, g.4, g.5)
goes_given forms fewest size field fields form first (Err (MissingField at)) e is g =
    (omega (arith, g.0), g.1, first ++ g.2, (form, first, g.2, e, is, g.3, refl))
goes_given forms fewest size field fields form first (Err (SurplusField at)) e is g =
    (suc g.0, g.1, later_behind forms field fields form first at g.0 g.1 e is g.2, g.3)
goes_given forms fewest size field fields form first (Err TooLong) e is g = absurd g
goes_given forms fewest size field fields form first (Err OutOfMemory) e is g = absurd g

-- strings
module _ (whole : List ℕ) where
  not_read : (bytes : List ℕ) → ((string : List ℕ) → SpellsString bytes string → ⊥)
      → string_of_text bytes ≡ None
  not_read bytes h = (strings_spelled bytes).1.1 h

  -- what the first field gives as a string
  wrong_first : (field : FieldText) (octets : List ℕ → List ℕ) (rest : Result (List ℕ) ValueFault)
      → bytes_of whole (places field) ≡ field.bytes
      → ((string : List ℕ) → SpellsString field.bytes string → ⊥)
      → string_first (places field) (string_of_text (bytes_of whole (places field))) octets rest
      ≡ Err (BadField field.place)
  wrong_first field octets rest e h =
      ap (λ o. string_first (places field) o octets rest)
      (ap string_of_text e ∙ not_read field.bytes h)

  right_first : (field : FieldText) (octets : List ℕ → List ℕ) (rest : Result (List ℕ) ValueFault)
      (string : List ℕ) → bytes_of whole (places field) ≡ field.bytes
      → SpellsString field.bytes string
      → string_first (places field) (string_of_text (bytes_of whole (places field))) octets rest
      ≡ in_front (octets string) rest
  right_first field octets rest string e h =
      ap (λ o. string_first (places field) o octets rest)
      (ap string_of_text e ∙ string_read field.bytes string h)

  -- what fields give as a tail
  nothing_read : (size : ℕ) (fields : List FieldText) (read : Result (List ℕ) ValueFault)
      → Give (λ number. None) 0 size fields read → read ≡ at_the_end (map places fields)
  nothing_read size [] read g = elim (none_give (λ number. None) 0 size read g) [
    | inl e ↦ e.1
    | inr e ↦ absurd (omega (arith, e.0))
  ]
  nothing_read size (field ∷ fields) read g =
      elim (peel (λ number. None) 0 size field fields read g) [
        | inl w ↦ let e = w.wanted in absurd (cc)
        | inr d ↦ elim d [
          | inl o ↦ o.read_is
          | inr k ↦ let e = k.wanted in absurd (cc)
        ]
      ]

  strings_read : (fewest size : ℕ) (fields : List FieldText) (read : Result (List ℕ) ValueFault)
      → HaveBytes whole fields → fewest ≤ length fields
      → Give (λ number. Some Counted) fewest size fields read
      → read ≡ strings_of whole (map places fields)
  strings_read fewest size [] read b few g =
      elim (none_give (λ number. Some Counted) fewest size read g) [
        | inl e ↦ e.1
        | inr e ↦ absurd (omega (arith, e.0))
      ]
  strings_read fewest size (field ∷ fields) read b few g =
      elim (peel (λ number. Some Counted) fewest size field fields read g) [
        | inl w ↦
            let e = w.wanted in
            let same : w.form ≡ Counted = cc in
            w.read_is ∙ sym (wrong_first field (λ string. length string ∷ string)
            (strings_of whole (map places fields)) b.0
            (λ string h. w.wrong (length string ∷ string)
            (subst (λ f. IsOfForm f field.bytes (length string ∷ string)) (sym same)
            (string, h, refl))))
        | inr d ↦ elim d [
          | inl o ↦ let e = o.none in absurd (cc)
          | inr k ↦
              let e = k.wanted in
              let same : k.form ≡ Counted = cc in
              let s = subst (λ f. IsOfForm f field.bytes k.first) same k.is in
              k.read_is
              ∙ ap (λ o. in_front o k.rest) s.2
              ∙ ap (in_front (length s.0 ∷ s.0))
              (strings_read (pred fewest) size fields k.rest b.1 (omega arith) k.gives)
              ∙ sym (right_first field (λ string. length string ∷ string)
              (strings_of whole (map places fields)) s.0 b.0 s.1)
        ]
      ]

  alone_read : (size : ℕ) (field : FieldText) (fields : List FieldText)
      (read : Result (List ℕ) ValueFault) → bytes_of whole (places field) ≡ field.bytes
      → Give (form_in [] tail.Value) 1 size (field ∷ fields) read
      → read ≡ tail_gives whole tail.Value (map places (field ∷ fields))
  alone_read size field fields read b g =
      elim (peel (form_in [] tail.Value) 1 size field fields read g) [
        | inl w ↦
            let e : Some Alone ≡ Some w.form = w.wanted in
            let same : w.form ≡ Alone = cc in
            w.read_is ∙ sym (wrong_first field (λ string. string) (at_the_end (map places fields)) b
            (λ string h. w.wrong string
            (subst (λ f. IsOfForm f field.bytes string) (sym same) h)))
        | inr d ↦ elim d [
          | inl o ↦ let e : Some Alone ≡ None = o.none in absurd (cc)
          | inr k ↦
              let e : Some Alone ≡ Some k.form = k.wanted in
              let same : k.form ≡ Alone = cc in
              let s : SpellsString field.bytes k.first =
              subst (λ f. IsOfForm f field.bytes k.first) same k.is in
              k.read_is
              ∙ ap (in_front k.first) (nothing_read size fields k.rest k.gives)
              ∙ sym (right_first field (λ string. string) (at_the_end (map places fields)) k.first b
              s)
        ]
      ]

  tail_read : (end : Tail) (fields : List FieldText) (read : Result (List ℕ) ValueFault)
      → HaveBytes whole fields
      → Give (form_in [] end) (fewest_in [] end) (length whole) fields read
      → read ≡ tail_gives whole end (map places fields)
  tail_read tail.Nothing fields read b g = nothing_read (length whole) fields read g
  tail_read tail.Strings [] read b g =
      elim (none_give (λ number. Some Counted) 1 (length whole) read g) [
        | inl e ↦ absurd (omega (arith, e.0))
        | inr e ↦ e.1
      ]
  tail_read tail.Strings (field ∷ fields) read b g =
      strings_read 1 (length whole) (field ∷ fields) read b (omega arith) g
  tail_read tail.Value [] read b g =
      elim (none_give (form_in [] tail.Value) 1 (length whole) read g) [
        | inl e ↦ absurd (omega (arith, e.0))
        | inr e ↦ e.1
      ]
  tail_read tail.Value (field ∷ fields) read b g =
      alone_read (length whole) field fields read b.0 g

  -- and as these kinds and a tail
  fields_read : (kinds : List kind.Field) (end : Tail) (fields : List FieldText)
      (read : Result (List ℕ) ValueFault) → HaveBytes whole fields
      → Give (form_in kinds end) (fewest_in kinds end) (length whole) fields read
      → ReadsFields whole kinds end (map places fields) read
  fields_read [] end fields read b g = tail_read end fields read b g
  fields_read (kind ∷ kinds) end [] read b g =
      elim (none_give (form_in (kind ∷ kinds) end) (fewest_in (kind ∷ kinds) end) (length whole) read
      g) [
        | inl e ↦ absurd (omega (arith, e.0))
        | inr e ↦ e.1
      ]
  fields_read (kind ∷ kinds) end (field ∷ fields) read b g =
      elim (peel (form_in (kind ∷ kinds) end) (fewest_in (kind ∷ kinds) end) (length whole) field
      fields read g) [
        | inl w ↦
            let e : Some (OfKind kind) ≡ Some w.form = w.wanted in
            let same : w.form ≡ OfKind kind = cc in
            inl (
              λ octets h. w.wrong octets
                  (subst (λ f. IsOfForm f field.bytes octets) (sym same)
                  ((fields_spelled kind field.bytes octets).0
                  (subst (λ t. Spells kind t octets) b.0 h))),
              w.read_is,
            )
        | inr d ↦ elim d [
          | inl o ↦ let e : Some (OfKind kind) ≡ None = o.none in absurd (cc)
          | inr k ↦
              let e : Some (OfKind kind) ≡ Some k.form = k.wanted in
              let same : k.form ≡ OfKind kind = cc in
              let s : SpellsField kind field.bytes k.first =
              subst (λ f. IsOfForm f field.bytes k.first) same k.is in
              inr (
                k.first,
                k.rest,
                subst (λ t. Spells kind t k.first) (sym b.0)
                    ((fields_spelled kind field.bytes k.first).1 s),
                fields_read kinds end fields k.rest b.1 k.gives,
                k.read_is,
              )
        ]
      ]

  -- the other way round
  nothing_given : (size : ℕ) (fields : List FieldText)
      → Give (λ number. None) 0 size fields (at_the_end (map places fields))
  nothing_given size [] = none_given (λ number. None) size
  nothing_given size (field ∷ fields) = over_given (λ number. None) 0 size field fields refl

  first_given : (forms : ℕ → Option Form) (fewest size : ℕ) (field : FieldText) (fields : List FieldText)
      (form : Form) (octets : List ℕ → List ℕ) (rest : Result (List ℕ) ValueFault)
      → bytes_of whole (places field) ≡ field.bytes → forms 0 ≡ Some form
      → ((string : List ℕ) → SpellsString field.bytes string
      → IsOfForm form field.bytes (octets string))
      → (((string : List ℕ) → SpellsString field.bytes string → ⊥)
      → (found : List ℕ) → IsOfForm form field.bytes found → ⊥)
      → Give (λ number. forms (suc number)) (pred fewest) size fields rest
      → Give forms fewest size (field ∷ fields)
      (string_first (places field) (string_of_text (bytes_of whole (places field))) octets rest)
  first_given forms fewest size field fields form octets rest b e yes_form no_form g =
      go (string_of_text field.bytes) refl
    where
      go : (o : Option (List ℕ)) → string_of_text field.bytes ≡ o
          → Give forms fewest size (field ∷ fields)
          (string_first (places field) (string_of_text (bytes_of whole (places field))) octets rest)
      go None k =
          let none : (string : List ℕ) → SpellsString field.bytes string → ⊥ =
          (strings_spelled field.bytes).1.0 k in
          subst (Give forms fewest size (field ∷ fields))
          (sym (wrong_first field octets rest b none))
          (wrong_given forms fewest size field fields form e (no_form none))
      go (Some string) k =
          let s = string_spelled field.bytes string k in
          subst (Give forms fewest size (field ∷ fields))
          (sym (right_first field octets rest string b s))
          (goes_given forms fewest size field fields form (octets string) rest e (yes_form string s)
          g)

  strings_given : (fewest size : ℕ) (fields : List FieldText) → HaveBytes whole fields
      → fewest ≤ length fields
      → Give (λ number. Some Counted) fewest size fields (strings_of whole (map places fields))
  strings_given fewest size [] b few =
      subst (λ n. Give (λ number. Some Counted) n size [] (Ok []))
      (let e : 0 ≡ fewest = omega arith in e) (none_given (λ number. Some Counted) size)
  strings_given fewest size (field ∷ fields) b few =
      first_given (λ number. Some Counted) fewest size field fields Counted
      (λ string. length string ∷ string) (strings_of whole (map places fields)) b.0 refl
      (λ string s. (string, s, refl)) (λ none found h. none h.0 h.1)
      (strings_given (pred fewest) size fields b.1 (omega arith))

  tail_given : (end : Tail) (fields : List FieldText) → HaveBytes whole fields
      → Give (form_in [] end) (fewest_in [] end) (length whole) fields
      (tail_gives whole end (map places fields))
  tail_given tail.Nothing fields b = nothing_given (length whole) fields
  tail_given tail.Strings [] b =
      missing_given (λ number. Some Counted) 1 (length whole) (omega arith)
  tail_given tail.Strings (field ∷ fields) b =
      strings_given 1 (length whole) (field ∷ fields) b (omega arith)
  tail_given tail.Value [] b =
      missing_given (form_in [] tail.Value) 1 (length whole) (omega arith)
  tail_given tail.Value (field ∷ fields) b =
      first_given (form_in [] tail.Value) 1 (length whole) field fields Alone (λ string. string)
      (at_the_end (map places fields)) b.0 refl (λ string s. s) (λ none found h. none found h)
      (nothing_given (length whole) fields)

  fields_given : (kinds : List kind.Field) (end : Tail) (fields : List FieldText)
      (read : Result (List ℕ) ValueFault) → HaveBytes whole fields
      → ReadsFields whole kinds end (map places fields) read
      → Give (form_in kinds end) (fewest_in kinds end) (length whole) fields read
  fields_given [] end fields read b r =
      subst (Give (form_in [] end) (fewest_in [] end) (length whole) fields) (sym r)
      (tail_given end fields b)
  fields_given (kind ∷ kinds) end [] read b r =
      subst (Give (form_in (kind ∷ kinds) end) (fewest_in (kind ∷ kinds) end) (length whole) [])
      (sym r)
      (missing_given (form_in (kind ∷ kinds) end) (fewest_in (kind ∷ kinds) end) (length whole)
      (omega arith))
  fields_given (kind ∷ kinds) end (field ∷ fields) read b r = elim r [
    | inl w ↦
        subst
        (Give (form_in (kind ∷ kinds) end) (fewest_in (kind ∷ kinds) end) (length whole)
        (field ∷ fields)) (sym w.1)
        (wrong_given (form_in (kind ∷ kinds) end) (fewest_in (kind ∷ kinds) end) (length whole) field
        fields (OfKind kind) refl
        (λ octets h. w.0 octets (subst (λ t. Spells kind t octets) (sym b.0)
        ((fields_spelled kind field.bytes octets).1 h))))
    | inr k ↦
        subst
        (Give (form_in (kind ∷ kinds) end) (fewest_in (kind ∷ kinds) end) (length whole)
        (field ∷ fields)) (sym k.4)
        (goes_given (form_in (kind ∷ kinds) end) (fewest_in (kind ∷ kinds) end) (length whole) field
        fields (OfKind kind) k.0 k.1 refl
        ((fields_spelled kind field.bytes k.0).0 (subst (λ t. Spells kind t k.0) b.0 k.2))
        (fields_given kinds end fields k.1 b.1 k.3))
  ]

-- What is read of a text is what its fields give.
text_read : (rtype : RType) (text : List ℕ) (read : Result (List ℕ) ValueFault)
    → Gives rtype text read → Reads rtype text read
text_read rtype text read (inl h) = inl (record { long = h.0; fault = h.1 })
text_read rtype text read (inr h) = inr (record {
  short = h.0;
  fields = map places h.1;
  all = are text h.1 0 text refl h.2;
  reads = fields_read text (fields_of rtype) (tail_of rtype) h.1 read
      (have_bytes text h.1 0 text refl h.2) h.3;
})

text_gives : (rtype : RType) (text : List ℕ) (read : Result (List ℕ) ValueFault)
    → Reads rtype text read → Gives rtype text read
text_gives rtype text read (inl h) = inl (h.long, h.fault)
text_gives rtype text read (inr h) =
    let s = some_fields text in
    let same = same_fields text 0 h.fields (map places s.0) h.all (are text s.0 0 text refl s.1) in
    inr (
      h.short,
      s.0,
      s.1,
      fields_given text (fields_of rtype) (tail_of rtype) s.0 read (have_bytes text s.0 0 text refl s.1)
          (subst (λ fs. ReadsFields text (fields_of rtype) (tail_of rtype) fs read) same h.reads),
    )

pub values_spelled : laws.ValueOfText
    → (rtype : RType) (text : List ℕ) (read : Result (List ℕ) ValueFault)
    → (Reads rtype text read ↔ Gives rtype text read)
    × ((value_of_text rtype text ≡ read) ↔ Gives rtype text read)
values_spelled law rtype text read = (
  (text_gives rtype text read, text_read rtype text read),
  (
    λ e. text_gives rtype text read ((law rtype text read).0 e),
    λ g. (law rtype text read).1 (text_read rtype text read g),
  ),
)
