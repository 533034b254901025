-- A text is a name's, or it has a fault.
use Rattle.std.proofs.Common.{◌≡◌, ℕ, zero, suc, ◌≤◌, List, [], ◌∷◌, ◌++◌, length, arith, ap, ◌∙◌, sym, refl, subst, inl, inr}
use Rattle.std.proofs.Common.{false, append-nil, append_assoc}
use Rattle.std.specs.Prelude.{◌⊎◌}
use Rattle.std.specs.Str.{bytes_eq}
use Rattle.std.proofs.lemmas.Bool.{cases_Bool, cases_eq, cases_lt, both_ways}
use Rattle.std.proofs.lemmas.Slice.Eq.{bytes_eq-Decides}
use Rattle.octets.specs.Octal.{has_octal}
use Rattle.dns_name.specs.Labels.{wire}
use Rattle.dns_name.specs.declared.fault.NameFault.{NameFault}
use Rattle.dns_name.specs.declared.fault.NameFault.TheVariants.{BadEscape, LabelTooLong, NameTooLong, EmptyLabel, BadByte}
use Rattle.text_meanings.specs.Characters.{dot, backslash, IsCharacter}
use Rattle.text_meanings.specs.Names.{IsTextOf}
use Rattle.text_meanings.specs.Faults.{IsFront, StandsAt, HasFault, labels_so_far}
use Rattle.text_meanings.proofs.Pieces.{front_start, front_character, front_dot, so_far_short}
use Rattle.text_meanings.proofs.Fronts.{text_of_front, root_named, escape_at, no_escape}

-- a whole text as a front
record IsWhole (text : List ℕ) : Type 0 where
  done : List (List ℕ)
  label : List ℕ
  front : IsFront text done label

abbrev Outcome : List ℕ → Type 0
Outcome text = IsWhole text ⊎ ((fault : NameFault) × HasFault text fault)

module _ (text : List ℕ) (root : text ≡ dot ∷ [] → ⊥) where
  stands : (before : List ℕ) (done : List (List ℕ)) (label rest : List ℕ)
      → text ≡ before ++ rest → IsFront before done label
      → StandsAt text (length before) done label rest
  stands before done label rest here f =
      record { before = before; front = f; place = refl; here = here }

  at_dot : (before : List ℕ) (done : List (List ℕ)) (label rest : List ℕ)
      → text ≡ before ++ dot ∷ rest → IsFront before done label
      → ((more : List (List ℕ)) → IsFront (before ++ dot ∷ []) more [] → Outcome text)
      → Outcome text
  at_dot before done [] rest here f go = inr (
    EmptyLabel (length before),
    inr (record {
      done = done;
      rest = rest;
      stands = stands before done [] (dot ∷ rest) here f;
      no_root = root;
    }),
  )
  at_dot before done (b ∷ label) rest here f go =
      go (done ++ (b ∷ label) ∷ []) (front_dot before done b label f)

  at_character : (before : List ℕ) (done : List (List ℕ)) (label piece rest : List ℕ) (octet : ℕ)
      → text ≡ before ++ (piece ++ rest) → IsFront before done label → IsCharacter piece octet
      → (IsFront (before ++ piece) done (label ++ octet ∷ []) → Outcome text) → Outcome text
  at_character before done label piece rest octet here f c go =
      elim (cases_lt (length label) 63) [
        | inr full ↦
            inr (
              LabelTooLong (length before),
              record {
                done = done;
                label = label;
                piece = piece;
                octet = octet;
                rest = rest;
                stands = stands before done label (piece ++ rest) here f;
                character = c;
                full = omega (arith, so_far_short done label f.name.each);
              },
            )
        | inl short ↦ elim (cases_lt 255 (length (wire (done ++ (label ++ octet ∷ []) ∷ [])))) [
          | inl long ↦
              inr (
                NameTooLong (length before),
                record {
                  done = done;
                  label = label;
                  piece = piece;
                  octet = octet;
                  rest = rest;
                  stands = stands before done label (piece ++ rest) here f;
                  character = c;
                  short = short;
                  long = long;
                },
              )
          | inr fits ↦ go (front_character before done label piece octet f c short fits)
        ]
      ]

  bad_escape : (before : List ℕ) (done : List (List ℕ)) (label rest : List ℕ)
      → text ≡ before ++ backslash ∷ rest → IsFront before done label → has_octal rest ≡ false
      → Outcome text
  bad_escape before done label rest here f absent = inr (
    BadEscape (length before),
    record {
      done = done;
      label = label;
      rest = rest;
      stands = stands before done label (backslash ∷ rest) here f;
      none = λ piece behind octet e bytes. no_escape rest piece behind octet absent e bytes;
    },
  )

  bad_byte : (before : List ℕ) (done : List (List ℕ)) (label rest : List ℕ) (b : ℕ)
      → text ≡ before ++ b ∷ rest → IsFront before done label → (b ≤ 0x20) ⊎ (0x7F ≤ b)
      → Outcome text
  bad_byte before done label rest b here f outside = inr (
    BadByte (length before),
    record {
      done = done;
      label = label;
      b = b;
      rest = rest;
      stands = stands before done label (b ∷ rest) here f;
      outside = outside;
    },
  )

  scan : (n : ℕ) (before rest : List ℕ) (done : List (List ℕ)) (label : List ℕ) → length rest ≤ n
      → text ≡ before ++ rest → IsFront before done label → Outcome text
  scan n before [] done label h here f =
      inl (record {
        done = done;
        label = label;
        front = subst (λ t. IsFront t done label) (sym (here ∙ append-nil before)) f;
      })
  scan zero before (b ∷ rest) done label h here f = absurd (omega arith)
  scan (suc n) before (b ∷ rest) done label h here f = elim (cases_eq b dot) [
    | inl e ↦
        at_dot before done label rest (here ∙ ap (λ x. before ++ x ∷ rest) e) f
        (λ more next. scan n (before ++ dot ∷ []) rest more [] (omega arith)
        (here ∙ ap (λ x. before ++ x ∷ rest) e ∙ sym (append_assoc before (dot ∷ []) rest)) next)
    | inr no_dot ↦ elim (cases_eq b backslash) [
      | inl e ↦ elim (cases_Bool (has_octal rest)) [
        | inl digits ↦
            let a = escape_at rest digits in
            let bytes : text ≡ before ++ (a.piece ++ a.behind) =
            here ∙ ap (λ x. before ++ x ∷ rest) e ∙ ap (λ t. before ++ t) a.bytes in
            at_character before done label a.piece a.behind a.octet bytes f (inr a.escape)
            (λ next. scan n (before ++ a.piece) a.behind done (label ++ a.octet ∷ [])
            (omega (arith, a.size)) (bytes ∙ sym (append_assoc before a.piece a.behind)) next)
        | inr none ↦
            bad_escape before done label rest (here ∙ ap (λ x. before ++ x ∷ rest) e) f none
      ]
      | inr no_backslash ↦ elim (cases_lt 0x20 b) [
        | inl low ↦ elim (cases_lt b 0x7F) [
          | inl high ↦
              at_character before done label (b ∷ []) rest b here f (inl (
                record {
                  above_space = low;
                  below_delete = high;
                  no_dot = no_dot;
                  no_backslash = no_backslash;
                },
                refl,
              ))
              (λ next. scan n (before ++ b ∷ []) rest done (label ++ b ∷ []) (omega arith)
              (here ∙ sym (append_assoc before (b ∷ []) rest)) next)
          | inr high ↦ bad_byte before done label rest b here f (inr high)
        ]
        | inr low ↦ bad_byte before done label rest b here f (inl low)
      ]
    ]
  ]

-- Each text is a name's, or it has a fault.
pub outcome : (text : List ℕ)
    → ((labels : List (List ℕ)) × IsTextOf text labels) ⊎ ((fault : NameFault) × HasFault text fault)
outcome [] = inr (EmptyLabel 0, inl (refl, refl))
outcome (b ∷ rest) = elim (cases_Bool (bytes_eq (b ∷ rest) (dot ∷ []))) [
  | inl root ↦ inl ([], root_named (b ∷ rest) ((bytes_eq-Decides (b ∷ rest) (dot ∷ [])).0 root))
  | inr other ↦
      let no_root : b ∷ rest ≡ dot ∷ [] → ⊥ =
      λ e. both_ways (bytes_eq (b ∷ rest) (dot ∷ [])) other
      ((bytes_eq-Decides (b ∷ rest) (dot ∷ [])).1 e) in
      elim (scan (b ∷ rest) no_root (length (b ∷ rest)) [] (b ∷ rest) [] [] (omega arith) refl
      front_start) [
        | inl w ↦ inl (
          labels_so_far w.done w.label,
          text_of_front (b ∷ rest) w.done w.label (λ e. cc) w.front,
        )
        | inr f ↦ inr f
      ]
]
