-- Up to its fault a text could go on to a name's, and with what stands there it can't.
use Rattle.std.proofs.Common.{◌≡◌, ℕ, ◌+◌, ◌<◌, ◌≤◌, List, [], ◌∷◌, ◌++◌, length, take, drop, arith, ap, ◌∙◌, sym, refl, subst, inl, inr}
use Rattle.std.proofs.Common.{true, false, zero, suc, append_assoc, length-append, length-take}
use Rattle.std.specs.Prelude.{◌⊎◌}
use Rattle.std.specs.Str.{bytes_eq}
use Rattle.std.proofs.lemmas.Bool.{cases_Bool, cases_lt, both_ways, false_from_ne_true, true_from_ne_false}
use Rattle.std.proofs.lemmas.List.{take_at, take_all, drop_at}
use Rattle.std.proofs.lemmas.Slice.Eq.{bytes_eq-Decides}
use Rattle.octets.specs.Octal.{has_octal}
use Rattle.dns_name.specs.Labels.{wire}
use Rattle.dns_name.specs.declared.fault.NameFault.{NameFault}
use Rattle.dns_name.specs.declared.fault.NameFault.TheVariants.{BadEscape, LabelTooLong, NameTooLong, EmptyLabel, BadByte}
use Rattle.text_meanings.specs.Characters.{dot, backslash, IsEscape, IsCharacter}
use Rattle.text_meanings.specs.Names.{IsTextOf, GoesOn}
use Rattle.text_meanings.specs.Faults.{StandsAt, HasFault, HasBadEscape, HasBadByte, HasEmptyLabel, HasLongLabel, HasLongName, StopsAt, place_of}
use Rattle.text_meanings.proofs.Pieces.{wire_push}
use Rattle.text_meanings.proofs.Fronts.{front_goes_on, EscapeAt, escape_at, no_escape, root_named}
use Rattle.text_meanings.proofs.Told.{never_both, one_name}

module _ (text : List ℕ) (at : ℕ) (done : List (List ℕ)) (label rest : List ℕ)
    (s : StandsAt text at done label rest) where
  -- the bytes before the place
  front_is : take at text ≡ s.before
  front_is = ap (λ t. take at t) s.here ∙ take_at s.before rest at (sym s.place)

  up_to : GoesOn (take at text)
  up_to = subst GoesOn (sym front_is) (front_goes_on s.before done label s.front)

  -- and these with the first ones that stand there
  with_first : (n : ℕ) (first behind : List ℕ) → length first ≡ n → rest ≡ first ++ behind
      → take (at + n) text ≡ s.before ++ first
  with_first n first behind size e =
      ap (λ t. take (at + n) t) (s.here ∙ ap (λ t. s.before ++ t) e
      ∙ sym (append_assoc s.before first behind))
      ∙ take_at (s.before ++ first) behind (at + n)
      (omega (arith, s.place, length-append s.before first))

  -- another text with these, where others stand behind them
  others : (n : ℕ) (first behind more : List ℕ) → length first ≡ n → rest ≡ first ++ behind
      → StandsAt (take (at + n) text ++ more) at done label (first ++ more)
  others n first behind more size e = record {
    before = s.before;
    front = s.front;
    place = s.place;
    here = ap (λ t. t ++ more) (with_first n first behind size e)
        ∙ append_assoc s.before first more;
  }

byte_first : (text : List ℕ) (at : ℕ) → HasBadByte text at → GoesOn (take (at + 1) text) → ⊥
byte_first text at w g =
    never_both (take (at + 1) text ++ g.0) g.1 (BadByte at) g.2 (record {
      done = w.done;
      label = w.label;
      b = w.b;
      rest = g.0;
      stands = others text at w.done w.label (w.b ∷ w.rest) w.stands 1 (w.b ∷ []) w.rest g.0 refl
          refl;
      outside = w.outside;
    })

-- The first byte of a character, whatever stands behind it: a character, or a bad escape.
record Again (first : ℕ) (more : List ℕ) : Type 0 where
  piece : List ℕ
  octet : ℕ
  behind : List ℕ
  character : IsCharacter piece octet
  bytes : first ∷ more ≡ piece ++ behind

record Cut (piece : List ℕ) : Type 0 where
  first : ℕ
  behind : List ℕ
  bytes : piece ≡ first ∷ behind
  other : (more : List ℕ) → Again first more ⊎ ((first ≡ backslash) × (has_octal more ≡ false))

escape_again : (more : List ℕ)
    → Again backslash more ⊎ ((backslash ≡ backslash) × (has_octal more ≡ false))
escape_again more = elim (cases_Bool (has_octal more)) [
  | inl e ↦ let a = escape_at more e in inl (record {
    piece = a.piece;
    octet = a.octet;
    behind = a.behind;
    character = inr a.escape;
    bytes = a.bytes;
  })
  | inr e ↦ inr (refl, e)
]

cut : (piece : List ℕ) (octet : ℕ) → IsCharacter piece octet → Cut piece
cut piece octet c = elim c [
  | inl b ↦ record {
    first = octet;
    behind = [];
    bytes = b.1;
    other = λ more. inl (record {
      piece = octet ∷ [];
      octet = octet;
      behind = more;
      character = inl (b.0, refl);
      bytes = refl;
    });
  }
  | inr e ↦ record {
    first = backslash;
    behind = (0x30 + e.first) ∷ (0x30 + e.second) ∷ (0x30 + e.third) ∷ [];
    bytes = e.spelled;
    other = escape_again;
  }
]

module _ (text : List ℕ) (at : ℕ) (done : List (List ℕ)) (label piece rest : List ℕ) (octet : ℕ)
    (s : StandsAt text at done label (piece ++ rest)) (c : IsCharacter piece octet) where
  -- With its first byte no name's text begins, where no character may stand.
  character_first : ((text piece rest : List ℕ) (octet : ℕ) → StandsAt text at done label (piece ++ rest)
      → IsCharacter piece octet → (fault : NameFault) × HasFault text fault)
      → GoesOn (take (at + 1) text) → ⊥
  character_first faulty g =
      let k = cut piece octet c in
      let longer = take (at + 1) text ++ g.0 in
      let bytes : piece ++ rest ≡ (k.first ∷ []) ++ (k.behind ++ rest) =
      ap (λ t. t ++ rest) k.bytes in
      let stands : StandsAt longer at done label (k.first ∷ g.0) =
      others text at done label (piece ++ rest) s 1 (k.first ∷ []) (k.behind ++ rest) g.0 refl bytes in
      elim (k.other g.0) [
        | inl a ↦
            let f = faulty longer a.piece a.behind a.octet
            (subst (StandsAt longer at done label) a.bytes stands) a.character in
            never_both longer g.1 f.0 g.2 f.1
        | inr e ↦ never_both longer g.1 (BadEscape at) g.2 (record {
          done = done;
          label = label;
          rest = g.0;
          stands = subst (λ b. StandsAt longer at done label (b ∷ g.0)) e.0 stands;
          none = λ piece behind octet a bytes. no_escape g.0 piece behind octet e.1 a bytes;
        })
      ]

label_first : (text : List ℕ) (at : ℕ) → HasLongLabel text at → GoesOn (take (at + 1) text) → ⊥
label_first text at w =
    character_first text at w.done w.label w.piece w.rest w.octet w.stands w.character
    (λ other piece rest octet s c. (
      LabelTooLong at,
      record {
        done = w.done;
        label = w.label;
        piece = piece;
        octet = octet;
        rest = rest;
        stands = s;
        character = c;
        full = w.full;
      },
    ))

-- a character makes a name as long as another does
as_long : (done : List (List ℕ)) (label : List ℕ) (octet other : ℕ)
    → 255 < length (wire (done ++ (label ++ octet ∷ []) ∷ []))
    → 255 < length (wire (done ++ (label ++ other ∷ []) ∷ []))
as_long done label octet other h =
    omega (
      arith,
      wire_push done (label ++ octet ∷ []),
      wire_push done (label ++ other ∷ []),
      length-append label (octet ∷ []),
      length-append label (other ∷ []),
    )

name_first : (text : List ℕ) (at : ℕ) → HasLongName text at → GoesOn (take (at + 1) text) → ⊥
name_first text at w =
    character_first text at w.done w.label w.piece w.rest w.octet w.stands w.character
    (λ other piece rest octet s c. (
      NameTooLong at,
      record {
        done = w.done;
        label = w.label;
        piece = piece;
        octet = octet;
        rest = rest;
        stands = s;
        character = c;
        short = w.short;
        long = as_long w.done w.label w.octet octet w.long;
      },
    ))

-- a bad escape of four bytes
module _ (text : List ℕ) (at : ℕ) (w : HasBadEscape text at) (g : GoesOn (take (at + 4) text)) where
  whole_escape : (rest : List ℕ) → w.rest ≡ rest → 3 ≤ length rest → ⊥
  whole_escape [] e h = omega arith
  whole_escape (a ∷ []) e h = omega arith
  whole_escape (a ∷ b ∷ []) e h = omega arith
  whole_escape (a ∷ b ∷ c ∷ rest) e h =
      let absent : has_octal (a ∷ b ∷ c ∷ rest) ≡ false =
      false_from_ne_true (has_octal (a ∷ b ∷ c ∷ rest)) (λ d.
      let k = escape_at (a ∷ b ∷ c ∷ rest) d in
      w.none k.piece k.behind k.octet k.escape (ap (λ t. backslash ∷ t) e ∙ k.bytes)) in
      never_both (take (at + 4) text ++ g.0) g.1 (BadEscape at) g.2 (record {
        done = w.done;
        label = w.label;
        rest = a ∷ b ∷ c ∷ g.0;
        stands = others text at w.done w.label (backslash ∷ w.rest) w.stands 4
            (backslash ∷ a ∷ b ∷ c ∷ []) rest g.0 refl (ap (λ t. backslash ∷ t) e);
        none = λ piece behind octet k bytes.
            no_escape (a ∷ b ∷ c ∷ g.0) piece behind octet absent k bytes;
      })

  short_escape : length text < at + 4
  short_escape = elim (cases_lt (length text) (at + 4)) [
    | inl h ↦ h
    | inr h ↦
        let size : length text ≡ length w.stands.before + length (backslash ∷ w.rest) =
        ap length w.stands.here ∙ length-append w.stands.before (backslash ∷ w.rest) in
        let place = w.stands.place in
        absurd (whole_escape w.rest refl (omega arith))
  ]

  -- with what the name's text has behind it
  longer_is : take (at + 4) text ++ g.0 ≡ w.stands.before ++ backslash ∷ (w.rest ++ g.0)
  longer_is =
      ap (λ t. t ++ g.0) (take_all (at + 4) text (omega (arith, short_escape)) ∙ w.stands.here)
      ∙ append_assoc w.stands.before (backslash ∷ w.rest) g.0

  longer_escape : has_octal (w.rest ++ g.0) ≡ true
  longer_escape = true_from_ne_false (has_octal (w.rest ++ g.0)) (λ absent.
      never_both (take (at + 4) text ++ g.0) g.1 (BadEscape at) g.2 (record {
        done = w.done;
        label = w.label;
        rest = w.rest ++ g.0;
        stands = record {
          before = w.stands.before;
          front = w.stands.front;
          place = w.stands.place;
          here = longer_is;
        };
        none = λ piece behind octet k bytes.
            no_escape (w.rest ++ g.0) piece behind octet absent k bytes;
      }))

  four : (piece : List ℕ) (octet : ℕ) → IsEscape piece octet → length piece ≡ 4
  four piece octet e = ap length e.spelled

  four_first : (rest : List ℕ) → length rest < 3 → EscapeAt (rest ++ g.0)
      → (more : List ℕ) × (octet : ℕ) × IsEscape ((backslash ∷ rest) ++ more) octet
  four_first rest h k = go rest h (ap (take 4) k.bytes
      ∙ take_at k.piece k.behind 4 (four k.piece k.octet k.escape))
    where
      go : (rest : List ℕ) → length rest < 3 → take 4 (backslash ∷ (rest ++ g.0)) ≡ k.piece
          → (more : List ℕ) × (octet : ℕ) × IsEscape ((backslash ∷ rest) ++ more) octet
      go [] h e = (take 3 g.0, k.octet, subst (λ t. IsEscape t k.octet) (sym e) k.escape)
      go (a ∷ []) h e = (take 2 g.0, k.octet, subst (λ t. IsEscape t k.octet) (sym e) k.escape)
      go (a ∷ b ∷ []) h e =
          (take 1 g.0, k.octet, subst (λ t. IsEscape t k.octet) (sym e) k.escape)
      go (a ∷ b ∷ c ∷ rest) h e = absurd (omega arith)

  escape_first : (more : List ℕ) × (octet : ℕ) × IsEscape (drop at text ++ more) octet
  escape_first =
      let size : length text ≡ length w.stands.before + length (backslash ∷ w.rest) =
      ap length w.stands.here ∙ length-append w.stands.before (backslash ∷ w.rest) in
      let place = w.stands.place in
      let short = short_escape in
      let found = four_first w.rest (omega arith) (escape_at (w.rest ++ g.0) longer_escape) in
      let here : drop at text ≡ backslash ∷ w.rest =
      ap (drop at) w.stands.here
      ∙ drop_at w.stands.before (backslash ∷ w.rest) at (sym w.stands.place) in
      (found.0, found.1, subst (λ t. IsEscape (t ++ found.0) found.1) (sym here) found.2)

empty_first : (text : List ℕ) (at : ℕ) → HasEmptyLabel text at → (more : List ℕ)
    (labels : List (List ℕ)) → IsTextOf (take (at + 1) text ++ more) labels → labels ≡ []
empty_first text at w more labels s =
    let longer = take (at + 1) text ++ more in
    elim (cases_Bool (bytes_eq longer (dot ∷ []))) [
      | inl root ↦
          one_name longer labels [] s
          (root_named longer ((bytes_eq-Decides longer (dot ∷ [])).0 root))
      | inr other ↦ absurd (never_both longer labels (EmptyLabel at) s (inr (record {
        done = w.done;
        rest = more;
        stands = others text at w.done [] (dot ∷ w.rest) w.stands 1 (dot ∷ []) w.rest more refl
            refl;
        no_root = λ e. both_ways (bytes_eq longer (dot ∷ [])) other
            ((bytes_eq-Decides longer (dot ∷ [])).1 e);
      })))
    ]

-- behind other bytes a dot where a label would begin ends every text of a name
empty_stops : (text : List ℕ) (at : ℕ) → HasEmptyLabel text at → 0 < at
    → GoesOn (take (at + 1) text) → ⊥
empty_stops text at w some g =
    let none = empty_first text at w g.0 g.1 g.2 in
    let root : take (at + 1) text ++ g.0 ≡ dot ∷ [] =
    (subst (IsTextOf (take (at + 1) text ++ g.0)) none g.2).spelled in
    let size : length text ≡ length w.stands.before + length (dot ∷ w.rest) =
    ap length w.stands.here ∙ length-append w.stands.before (dot ∷ w.rest) in
    let place = w.stands.place in
    let taken = length-take (at + 1) text in
    let both : length (take (at + 1) text) + length g.0 ≡ 1 =
    sym (length-append (take (at + 1) text) g.0) ∙ ap length root in
    omega (arith, size, place, taken, both, some)

empty_stops_at : (text : List ℕ) (at : ℕ) → HasEmptyLabel text at → StopsAt text (EmptyLabel at)
empty_stops_at text zero w = inr (inl (refl, empty_first text 0 w))
empty_stops_at text (suc n) w = inr (inr (empty_stops text (suc n) w (omega arith)))

-- Up to its fault a text could go on to a name's, and with what stands there it can't.
pub stands_first : (text : List ℕ) (fault : NameFault) → HasFault text fault
    → GoesOn (take (place_of fault) text) × StopsAt text fault
stands_first text (BadEscape at) w =
    (up_to text at w.done w.label (backslash ∷ w.rest) w.stands, λ g. escape_first text at w g)
stands_first text (BadByte at) w =
    (up_to text at w.done w.label (w.b ∷ w.rest) w.stands, byte_first text at w)
stands_first text (EmptyLabel at) w = elim w [
  | inl e ↦ (
    subst (λ n. GoesOn (take n text)) (sym e.1) (dot ∷ [], [], root_named (dot ∷ []) refl),
    inl e.0,
  )
  | inr w ↦
      (up_to text at w.done [] (dot ∷ w.rest) w.stands, empty_stops_at text at w)
]
stands_first text (LabelTooLong at) w =
    (up_to text at w.done w.label (w.piece ++ w.rest) w.stands, label_first text at w)
stands_first text (NameTooLong at) w =
    (up_to text at w.done w.label (w.piece ++ w.rest) w.stands, name_first text at w)
