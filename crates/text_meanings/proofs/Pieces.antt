-- Characters and labels, one more at the end; what labels come to on the wire.
use Rattle.std.proofs.Common.{◌≡◌, ℕ, ◌+◌, ◌<◌, ◌≤◌, List, [], ◌∷◌, ◌++◌, length, arith, ap, ◌∙◌, sym, refl, subst}
use Rattle.std.proofs.Common.{append-nil, append_assoc, length-append}
use Rattle.std.specs.List.{AllZip, AllByRecursion, concat, flat_map}
use Rattle.std.proofs.lemmas.List.Concat.{flat_map-append}
use Rattle.dns_name.specs.Labels.{frame, wire, IsRawLabel, IsRawName}
use Rattle.text_meanings.specs.Characters.{dot, IsCharacter, AreCharacters}
use Rattle.text_meanings.specs.Names.{SpellsLabel, between}
use Rattle.text_meanings.specs.Faults.{labels_so_far, IsFront}

-- one more pair at the end
pub all_zip_push : {X Y : Type 0} (R : X → Y → Type 0) (xs : List X) (ys : List Y) (x : X) (y : Y)
    → AllZip R xs ys → R x y → AllZip R (xs ++ x ∷ []) (ys ++ y ∷ [])
all_zip_push R [] [] x y h r = (r, tt)
all_zip_push R [] (b ∷ ys) x y h r = absurd h
all_zip_push R (a ∷ xs) [] x y h r = absurd h
all_zip_push R (a ∷ xs) (b ∷ ys) x y h r = (h.0, all_zip_push R xs ys x y h.1 r)

concat_push : (texts : List (List ℕ)) (text : List ℕ)
    → concat (texts ++ text ∷ []) ≡ concat texts ++ text
concat_push [] text = append-nil text
concat_push (first ∷ texts) text =
    ap (λ t. first ++ t) (concat_push texts text) ∙ sym (append_assoc first (concat texts) text)

-- one more character
pub characters_push : (IsOne : List ℕ → ℕ → Type 0) (text octets piece : List ℕ) (octet : ℕ)
    → AreCharacters IsOne text octets → IsOne piece octet
    → AreCharacters IsOne (text ++ piece) (octets ++ octet ∷ [])
characters_push IsOne text octets piece octet c one = record {
  pieces = c.pieces ++ piece ∷ [];
  each = all_zip_push IsOne c.pieces octets piece octet c.each one;
  together = ap (λ t. t ++ piece) c.together ∙ sym (concat_push c.pieces piece);
}

pub no_characters : (IsOne : List ℕ → ℕ → Type 0) → AreCharacters IsOne [] []
no_characters IsOne = record { pieces = []; each = tt; together = refl }

-- what one label more comes to
pub wire_push : (done : List (List ℕ)) (label : List ℕ)
    → length (wire (done ++ label ∷ [])) ≡ length (wire done) + (length label + 1)
wire_push done label =
    let a = length-append (flat_map frame (done ++ label ∷ [])) (0 ∷ []) in
    let b : length (flat_map frame (done ++ label ∷ [])) ≡ length (flat_map frame done) + length
    (flat_map frame (label ∷ [])) = ap length (flat_map-append frame done (label ∷ []))
    ∙ length-append (flat_map frame done) (flat_map frame (label ∷ [])) in
    let c = length-append (flat_map frame done) (0 ∷ []) in
    let d = length-append (frame label) [] in
    omega arith

-- of labels in front of others
pub wire_front : (done labels : List (List ℕ))
    → length (wire done) ≤ length (wire (done ++ labels))
wire_front done labels =
    let a = length-append (flat_map frame (done ++ labels)) (0 ∷ []) in
    let b : length (flat_map frame (done ++ labels)) ≡ length (flat_map frame done) + length
    (flat_map frame labels) = ap length (flat_map-append frame done labels)
    ∙ length-append (flat_map frame done) (flat_map frame labels) in
    let c = length-append (flat_map frame done) (0 ∷ []) in
    omega arith

-- all labels, and the last
pub each_front : (done labels : List (List ℕ)) → AllByRecursion IsRawLabel (done ++ labels)
    → AllByRecursion IsRawLabel done
each_front [] labels h = tt
each_front (x ∷ done) labels h = (h.0, each_front done labels h.1)

pub each_back : (done labels : List (List ℕ)) → AllByRecursion IsRawLabel (done ++ labels)
    → AllByRecursion IsRawLabel labels
each_back [] labels h = h
each_back (x ∷ done) labels h = each_back done labels h.1

each_push : (done : List (List ℕ)) (label : List ℕ) → AllByRecursion IsRawLabel done
    → IsRawLabel label → AllByRecursion IsRawLabel (done ++ label ∷ [])
each_push [] label h k = (k, tt)
each_push (x ∷ done) label h k = (h.0, each_push done label h.1 k)

-- the labels so far, with the label that has begun
pub so_far_push : (done : List (List ℕ)) (label : List ℕ) (octet : ℕ)
    → labels_so_far done (label ++ octet ∷ []) ≡ done ++ (label ++ octet ∷ []) ∷ []
so_far_push done [] octet = refl
so_far_push done (b ∷ label) octet = refl

pub so_far_done : (done : List (List ℕ)) (label : List ℕ)
    → AllByRecursion IsRawLabel (labels_so_far done label) → AllByRecursion IsRawLabel done
so_far_done done [] h = h
so_far_done done (b ∷ label) h = each_front done ((b ∷ label) ∷ []) h

pub so_far_short : (done : List (List ℕ)) (label : List ℕ)
    → AllByRecursion IsRawLabel (labels_so_far done label) → length label ≤ 63
so_far_short done [] h = omega arith
so_far_short done (b ∷ label) h =
    let k : length (b ∷ label) < 64 = (each_back done ((b ∷ label) ∷ []) h).0.short in omega arith

pub so_far_fits : (done : List (List ℕ)) (label : List ℕ)
    → length (wire (labels_so_far done label)) ≤ 255 → length (wire done) ≤ 255
so_far_fits done [] h = h
so_far_fits done (b ∷ label) h = omega (arith, wire_front done ((b ∷ label) ∷ []))

pub so_far_last : (done : List (List ℕ)) (label : List ℕ) → 0 < length label
    → labels_so_far done label ≡ done ++ label ∷ []
so_far_last done [] h = absurd (omega arith)
so_far_last done (b ∷ label) h = refl

-- texts with a byte between, and one more of it at the end
dots_behind : (b : ℕ) (texts : List (List ℕ)) → flat_map (λ next. b ∷ next) texts ++ b ∷ []
    ≡ b ∷ flat_map (λ text. text ++ b ∷ []) texts
dots_behind b [] = refl
dots_behind b (text ∷ texts) =
    append_assoc (b ∷ text) (flat_map (λ next. b ∷ next) texts) (b ∷ [])
    ∙ ap (λ t. b ∷ text ++ t) (dots_behind b texts)
    ∙ ap (λ t. b ∷ t) (sym (append_assoc text (b ∷ [])
    (flat_map (λ text. text ++ b ∷ []) texts)))

pub between_dots : (b : ℕ) (text : List ℕ) (texts : List (List ℕ))
    → between b (text ∷ texts) ++ b ∷ [] ≡ flat_map (λ text. text ++ b ∷ []) (text ∷ texts)
between_dots b text texts =
    append_assoc text (flat_map (λ next. b ∷ next) texts) (b ∷ [])
    ∙ ap (λ t. text ++ t) (dots_behind b texts)
    ∙ sym (append_assoc text (b ∷ []) (flat_map (λ text. text ++ b ∷ []) texts))

-- texts with a byte behind each, and one more text
text_behind : (b : ℕ) (texts : List (List ℕ)) (part : List ℕ)
    → flat_map (λ next. b ∷ next) (texts ++ part ∷ [])
    ≡ b ∷ (flat_map (λ text. text ++ b ∷ []) texts ++ part)
text_behind b [] part = append-nil (b ∷ part)
text_behind b (text ∷ texts) part =
    let later = flat_map (λ text. text ++ b ∷ []) texts in
    ap (λ t. b ∷ text ++ t) (text_behind b texts part)
    ∙ ap (λ t. b ∷ t) (sym (append_assoc text (b ∷ []) (later ++ part))
    ∙ sym (append_assoc (text ++ b ∷ []) later part))

pub between_push : (b : ℕ) (texts : List (List ℕ)) (part : List ℕ)
    → between b (texts ++ part ∷ []) ≡ flat_map (λ text. text ++ b ∷ []) texts ++ part
between_push b [] part = append-nil part
between_push b (text ∷ texts) part =
    let later = flat_map (λ text. text ++ b ∷ []) texts in
    ap (λ t. text ++ t) (text_behind b texts part)
    ∙ sym (append_assoc text (b ∷ []) (later ++ part))
    ∙ sym (append_assoc (text ++ b ∷ []) later part)

-- one character more of the label that stands there
pub front_character : (before : List ℕ) (done : List (List ℕ)) (label piece : List ℕ) (octet : ℕ)
    → IsFront before done label → IsCharacter piece octet → length label < 63
    → length (wire (done ++ (label ++ octet ∷ []) ∷ [])) ≤ 255
    → IsFront (before ++ piece) done (label ++ octet ∷ [])
front_character before done label piece octet f one short fits = record {
  texts = f.texts;
  part = f.part ++ piece;
  whole = f.whole;
  begun = characters_push IsCharacter f.part label piece octet f.begun one;
  together = ap (λ t. t ++ piece) f.together
      ∙ append_assoc (flat_map (λ text. text ++ dot ∷ []) f.texts) f.part piece;
  name = subst IsRawName (sym (so_far_push done label octet)) (record {
    each = each_push done (label ++ octet ∷ []) (so_far_done done label f.name.each)
        (record {
          filled = omega (arith, length-append label (octet ∷ []));
          short = omega (arith, length-append label (octet ∷ []));
        });
    fits = fits;
  });
}

-- the dot behind a label
pub front_dot : (before : List ℕ) (done : List (List ℕ)) (b : ℕ) (label : List ℕ)
    → IsFront before done (b ∷ label)
    → IsFront (before ++ dot ∷ []) (done ++ (b ∷ label) ∷ []) []
front_dot before done b label f =
    let with_dot : List ℕ → List ℕ = λ text. text ++ dot ∷ [] in
    let more = flat_map-append with_dot f.texts (f.part ∷ []) in
    let last : flat_map with_dot (f.part ∷ []) ≡ f.part ++ dot ∷ [] =
    append-nil (f.part ++ dot ∷ []) in
    record {
      texts = f.texts ++ f.part ∷ [];
      part = [];
      whole = all_zip_push SpellsLabel f.texts done f.part (b ∷ label) f.whole f.begun;
      begun = no_characters IsCharacter;
      together = ap (λ t. t ++ dot ∷ []) f.together
          ∙ append_assoc (flat_map with_dot f.texts) f.part (dot ∷ [])
          ∙ ap (λ t. flat_map with_dot f.texts ++ t) (sym last)
          ∙ sym more
          ∙ sym (append-nil (flat_map with_dot (f.texts ++ f.part ∷ [])));
      name = f.name;
    }

-- before the first byte
pub front_start : IsFront [] [] []
front_start = record {
  texts = [];
  part = [];
  whole = tt;
  begun = no_characters IsCharacter;
  together = refl;
  name = record { each = tt; fits = omega arith };
}
