-- The written text of a value gives that value.
use Rattle.std.proofs.Common.{◌≡◌, ℕ, ◌+◌, ◌-◌, ◌<◌, ◌≤◌, inr, List, [], ◌∷◌, ◌++◌, length, take, drop, map, arith, ap, sym, ◌∙◌, refl, append_assoc, append-nil, drop-drop, subst, Some, Result, Ok, Err}
use Rattle.std.specs.List.{flat_map, AllByRecursion}
use Rattle.std.proofs.lemmas.List.Elements.{All-from_recursion}
use Rattle.std.proofs.Math.Seq.{take-append_seam, drop-append_seam}
use Rattle.field_text.specs.Names.{AreOctets}
use Rattle.field_text.specs.FieldRecordOfValueText as text_field
use Rattle.field_text.specs.FieldsOfValueText.{next_field}
use Rattle.field_text.specs.Strings.{string_of_text, string_text}
use Rattle.field_text.specs.LawsOfValueText.{StringIsOneField, WrittenStringReadsBack}
use Rattle.field_text.specs.RTypeRecord.{RType}
use Rattle.field_text.specs.FieldRecord.{Field}
use Rattle.field_text.specs.TailRecord.{Tail}
use Rattle.field_text.specs.TailRecord.TheVariants as tail
use Rattle.field_text.specs.Fields.{IsField}
use Rattle.field_text.specs.Layout.{fields_of, tail_of, string_octets, IsShort, IsTail, AreFields, IsLayout}
use Rattle.field_text.specs.Spelling.{Spells}
use Rattle.field_text.specs.Written.{text_of_field}
use Rattle.field_text.specs.Laws.{EndsField, WrittenFieldIsOneField, WrittenFieldReadsBack}
use Rattle.rdata.specs.TextFields.{AreTheFields, bytes_of}
use Rattle.rdata.specs.Reading as reading
use Rattle.rdata.specs.Reading.{Reads, ReadsFields, IsRead, tail_gives, string_first, in_front, most_text}
use Rattle.rdata.specs.Written.{strings_of, tail_texts, field_texts, joined_from, text_of}
use Rattle.field_text.specs.Fields.{field_size}
use Rattle.rdata.specs.declared.faults.ValueFault.{ValueFault}
use Rattle.rdata.proofs.Fronts.{field_front, first_string}

-- a text is one whole field, wherever it stands
abbrev IsWhole : List ℕ → Type 0
IsWhole text = (at : ℕ) (behind : List ℕ) → EndsField behind
    → next_field at (text ++ behind) ≡ Some (record { start = at; end = at + length text })

-- texts with a space in front of each
abbrev spaced : List (List ℕ) → List ℕ
spaced [] = []
spaced (text ∷ texts) = 0x20 ∷ (text ++ spaced texts)

spaced_ends : (texts : List (List ℕ)) → EndsField (spaced texts)
spaced_ends [] = tt
spaced_ends (text ∷ texts) = refl

joined_spaced : (b : ℕ) (before : List ℕ) (texts : List (List ℕ))
    → joined_from (b ∷ before) texts ≡ (b ∷ before) ++ spaced texts
joined_spaced b before [] = sym (append-nil (b ∷ before))
joined_spaced b before (text ∷ texts) =
    joined_spaced b ((before ++ 0x20 ∷ []) ++ text) texts
    ∙ ap (λ t. b ∷ t) (append_assoc (before ++ 0x20 ∷ []) text (spaced texts)
    ∙ append_assoc before (0x20 ∷ []) (text ++ spaced texts))

-- a whole field isn't empty
joined_whole : (text : List ℕ) (texts : List (List ℕ)) → IsWhole text
    → joined_from text texts ≡ text ++ spaced texts
joined_whole [] texts whole = absurd (let e = whole 0 [] tt in cc)
joined_whole (b ∷ text) texts whole = joined_spaced b text texts

-- where the texts stand that have a space before each
places : (at : ℕ) → List (List ℕ) → List text_field.Field
places at [] = []
places at (text ∷ texts) =
    record { start = at + 1; end = at + 1 + length text } ∷ places (at + 1 + length text) texts

-- fields whose bytes are these texts
abbrev Stand : (whole : List ℕ) → List (List ℕ) → List text_field.Field → Type 0
Stand whole [] [] = Unit {0}
Stand whole [] (field ∷ fields) = ⊥
Stand whole (text ∷ texts) [] = ⊥
Stand whole (text ∷ texts) (field ∷ fields) = (bytes_of whole field ≡ text)
    × Stand whole texts fields

-- the bytes of a field that is a text
bytes_there : (whole text behind : List ℕ) (at : ℕ) → drop at whole ≡ text ++ behind
    → bytes_of whole (record { start = at; end = at + length text }) ≡ text
bytes_there whole text behind at e =
    let size : at + length text - at ≡ length text = omega arith in
    ap (λ k. take k (drop at whole)) size ∙ ap (take (length text)) e ∙ take-append_seam text behind

behind_there : (whole text behind : List ℕ) (at : ℕ) → drop at whole ≡ text ++ behind
    → drop (at + length text) whole ≡ behind
behind_there whole text behind at e = sym (drop-drop (length text) at whole)
    ∙ ap (drop (length text)) e ∙ drop-append_seam text behind

record Placed (whole : List ℕ) (at : ℕ) (texts : List (List ℕ)) : Type 0 where
  fields : List text_field.Field
  are : AreTheFields whole at fields
  stand : Stand whole texts fields

-- the fields of spaced texts are these texts
placed : (whole : List ℕ) (at : ℕ) (texts : List (List ℕ)) → drop at whole ≡ spaced texts
    → AllByRecursion IsWhole texts → Placed whole at texts
placed whole at [] e each = record { fields = []; are = ap (next_field at) e; stand = tt }
placed whole at (text ∷ texts) e each =
    let here : drop (at + 1) whole ≡ text ++ spaced texts = sym (drop-drop 1 at whole)
    ∙ ap (drop 1) e in
    let rest =
    placed whole (at + 1 + length text) texts
    (behind_there whole text (spaced texts) (at + 1) here) each.1 in
    record {
      fields = record { start = at + 1; end = at + 1 + length text } ∷ rest.fields;
      are = (ap (next_field at) e ∙ each.0 (at + 1) (spaced texts) (spaced_ends texts), rest.are);
      stand = (bytes_there whole text (spaced texts) (at + 1) here, rest.stand);
    }

-- the fields of joined texts are these texts
placed_joined : (texts : List (List ℕ)) → AllByRecursion IsWhole texts
    → Placed (joined_from [] texts) 0 texts
placed_joined [] each = record { fields = []; are = refl; stand = tt }
placed_joined (text ∷ texts) each =
    let whole : joined_from [] (text ∷ texts) ≡ text ++ spaced texts =
    joined_whole text texts each.0 in
    let rest = placed (joined_from [] (text ∷ texts)) (0 + length text) texts
    (behind_there (joined_from [] (text ∷ texts)) text (spaced texts) 0 whole) each.1 in
    record {
      fields = record { start = 0; end = 0 + length text } ∷ rest.fields;
      are = (ap (next_field 0) whole ∙ each.0 0 (spaced texts) (spaced_ends texts), rest.are);
      stand = (bytes_there (joined_from [] (text ∷ texts)) text (spaced texts) 0 whole, rest.stand);
    }

-- octets of a front and of what stands behind it
octets_apart : (front behind : List ℕ) → AreOctets (front ++ behind)
    → AreOctets front × AreOctets behind
octets_apart [] behind h = (tt, h)
octets_apart (b ∷ front) behind h = let r = octets_apart front behind h.1 in ((h.0, r.0), r.1)

strings_back : (strings : List (List ℕ)) → strings_of (flat_map string_octets strings) ≡ strings
strings_back [] = refl
strings_back (string ∷ strings) = first_string string (flat_map string_octets strings)
    ∙ ap (λ ss. string ∷ ss) (strings_back strings)

-- the front of octets that begin with a field, and the rest
front_there : (kind : Field) (piece rest octets : List ℕ) → IsField kind piece
    → octets ≡ piece ++ rest
    → (take (field_size kind octets) octets ≡ piece) × (drop (field_size kind octets) octets ≡ rest)
front_there kind piece rest octets is e =
    let size = field_front kind piece rest octets is e in (
      ap (λ k. take k octets) size ∙ ap (take (length piece)) e ∙ take-append_seam piece rest,
      ap (λ k. drop k octets) size
          ∙ ap (drop (length piece)) e ∙ drop-append_seam piece rest,
    )

module _ (one_field : WrittenFieldIsOneField) (field_back : WrittenFieldReadsBack)
    (one_string : StringIsOneField)
    (string_back : WrittenStringReadsBack) where
  back_string : (string : List ℕ) → AreOctets string → IsShort string
      → string_of_text (string_text string) ≡ Some string
  back_string string octets short =
      string_back string (All-from_recursion (λ b. b < 256) string octets) short

  whole_string : (string : List ℕ) → AreOctets string → IsShort string
      → IsWhole (string_text string)
  whole_string string octets short at behind ends =
      one_string at (string_text string) behind string (back_string string octets short)

  strings_whole : (strings : List (List ℕ)) → AllByRecursion IsShort strings
      → AreOctets (flat_map string_octets strings)
      → AllByRecursion IsWhole (map string_text strings)
  strings_whole [] short octets = tt
  strings_whole (string ∷ strings) short octets =
      let o = octets_apart string (flat_map string_octets strings) octets.1 in
      (whole_string string o.0 short.0, strings_whole strings short.1 o.1)

  tail_whole : (end : Tail) (octets : List ℕ) → IsTail end octets → AreOctets octets
      → AllByRecursion IsWhole (tail_texts end octets)
  tail_whole tail.Nothing octets is are = tt
  tail_whole tail.Strings octets is are =
      let s = is.1 in
      subst (λ ss. AllByRecursion IsWhole (map string_text ss))
      (sym (ap strings_of s.spelled ∙ strings_back s.strings))
      (strings_whole s.strings s.each (subst AreOctets s.spelled are))
  tail_whole tail.Value octets is are = (whole_string octets are is, tt)

  fields_whole : (kinds : List Field) (end : Tail) (octets : List ℕ) → AreFields kinds end octets
      → AreOctets octets
      → AllByRecursion IsWhole (field_texts kinds end octets)
  fields_whole [] end octets is are = tail_whole end octets is are
  fields_whole (kind ∷ kinds) end octets is are =
      let f = front_there kind is.0 is.1 octets is.2 is.3 in
      let o = octets_apart is.0 is.1 (subst AreOctets is.3 are) in (
        subst (λ p. IsWhole (text_of_field kind p)) (sym f.0) (one_field kind is.0 is.2 o.0),
        subst
            (λ r. AllByRecursion IsWhole (field_texts kinds end r)) (sym f.1)
            (fields_whole kinds end is.1 is.4 o.1),
      )

  -- a field that stands for a string
  string_stands : (whole string : List ℕ) (field : text_field.Field) (spell : List ℕ
      → List ℕ) (rest : List ℕ) (read : Result (List ℕ) ValueFault)
      → AreOctets string → IsShort string → bytes_of whole field ≡ string_text string
      → read ≡ Ok rest
      → string_first field (string_of_text (bytes_of whole field)) spell read
      ≡ Ok (spell string ++ rest)
  string_stands whole string field spell rest read are short e r =
      ap (λ t. string_first field (string_of_text t) spell read) e
      ∙ ap (λ o. string_first field o spell read) (back_string string are short)
      ∙ ap (in_front (spell string)) r

  strings_read : (whole : List ℕ) (strings : List (List ℕ)) (fields : List text_field.Field)
      → AllByRecursion IsShort strings
      → AreOctets (flat_map string_octets strings) → Stand whole (map string_text strings) fields
      → reading.strings_of whole fields ≡ Ok (flat_map string_octets strings)
  strings_read whole [] [] short are stand = refl
  strings_read whole [] (field ∷ fields) short are stand = absurd stand
  strings_read whole (string ∷ strings) [] short are stand = absurd stand
  strings_read whole (string ∷ strings) (field ∷ fields) short are stand =
      let o = octets_apart string (flat_map string_octets strings) are.1 in
      string_stands whole string field string_octets (flat_map string_octets strings)
      (reading.strings_of whole fields) o.0 short.0 stand.0
      (strings_read whole strings fields short.1 o.1 stand.1)

  some_strings : (whole : List ℕ) (fields : List text_field.Field) (octets : List ℕ)
      → 0 < length octets → reading.strings_of whole fields ≡ Ok octets
      → tail_gives whole tail.Strings fields ≡ Ok octets
  some_strings whole [] octets some e = absurd (omega (arith, some, ap (λ r. length (given r)) e))
    where
      given : Result (List ℕ) ValueFault → List ℕ
      given (Ok octets) = octets
      given (Err fault) = []
  some_strings whole (field ∷ fields) octets some e = e

  tail_read : (whole : List ℕ) (end : Tail) (octets : List ℕ) (fields : List text_field.Field)
      → IsTail end octets → AreOctets octets
      → Stand whole (tail_texts end octets) fields → tail_gives whole end fields ≡ Ok octets
  tail_read whole tail.Nothing octets [] is are stand = ap Ok (sym is)
  tail_read whole tail.Nothing octets (field ∷ fields) is are stand = absurd stand
  tail_read whole tail.Strings octets fields is are stand =
      let s = is.1 in
      let back : strings_of octets ≡ s.strings = ap strings_of s.spelled ∙ strings_back s.strings in
      some_strings whole fields octets is.0
      (strings_read whole s.strings fields s.each (subst AreOctets s.spelled are)
      (subst (λ ss. Stand whole (map string_text ss) fields) back stand)
      ∙ ap Ok (sym s.spelled))
  tail_read whole tail.Value octets [] is are stand = absurd stand
  tail_read whole tail.Value octets (field ∷ []) is are stand =
      string_stands whole octets field (λ s. s) [] (reading.at_the_end []) are is stand.0 refl
      ∙ ap Ok (append-nil octets)
  tail_read whole tail.Value octets (field ∷ other ∷ fields) is are stand = absurd stand.1

  fields_read : (whole : List ℕ) (kinds : List Field) (end : Tail) (octets : List ℕ)
      (fields : List text_field.Field) → AreFields kinds end octets
      → AreOctets octets → Stand whole (field_texts kinds end octets) fields
      → ReadsFields whole kinds end fields (Ok octets)
  fields_read whole [] end octets fields is are stand =
      sym (tail_read whole end octets fields is are stand)
  fields_read whole (kind ∷ kinds) end octets [] is are stand = absurd stand
  fields_read whole (kind ∷ kinds) end octets (field ∷ fields) is are stand =
      let f = front_there kind is.0 is.1 octets is.2 is.3 in
      let o = octets_apart is.0 is.1 (subst AreOctets is.3 are) in
      let text : bytes_of whole field ≡ text_of_field kind is.0 = stand.0
      ∙ ap (text_of_field kind) f.0 in
      inr (
        is.0,
        Ok is.1,
        subst (λ t. Spells kind t is.0) (sym text) (field_back kind is.0 is.2 o.0),
        fields_read whole kinds end is.1 fields is.4 o.1
            (subst (λ r. Stand whole (field_texts kinds end r) fields) f.1 stand.1),
        ap Ok is.3,
      )

  pub written_back : (rtype : RType) (octets : List ℕ) → IsLayout rtype octets → AreOctets octets
      → length (text_of rtype octets) ≤ most_text
      → Reads rtype (text_of rtype octets) (Ok octets)
  written_back rtype octets layout are short =
      let p = placed_joined (field_texts (fields_of rtype) (tail_of rtype) octets)
      (fields_whole (fields_of rtype) (tail_of rtype) octets layout.fields are) in
      inr (record {
        short = short;
        fields = p.fields;
        all = p.are;
        reads =
            fields_read (text_of rtype octets) (fields_of rtype) (tail_of rtype) octets p.fields
            layout.fields are p.stand;
      })
