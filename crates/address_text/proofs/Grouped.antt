-- Groups with colons between them, and an address at their end.
use Rattle.std.proofs.Common.{◌≡◌, ℕ, ◌+◌, ◌*◌, inl, inr, List, [], ◌∷◌, ◌++◌, length, codes, nat_lt, nat_le, ◌&&◌, Bool, true, false, Option, None, Some, option_map, ltb-true, lt-ltb, leb-true, le-leb, lit≤, refl, sym, ap, ◌∙◌, subst, append-nil, append_assoc}
use Rattle.std.specs.Prelude.{IsTrue, ◌⊎◌}
use Rattle.std.proofs.lemmas.Bool.{and_parts, and_from}
use Rattle.std.proofs.lemmas.Option.{none-some, same_Some, cond_some}
use Rattle.std.specs.Char.{digit_value, is_digit}
use Rattle.std.specs.Fmt.{digits}
use Rattle.std.specs.List.{list_all}
use Rattle.std.specs.Net.Addr.{segments_of}
use Rattle.std.specs.Net.Grammar.{IsDotted, IsGroup, IsGroupsAfter, IsGroups}
use Rattle.std.specs.Str.Parse.{AllDigits, digits_value}
use Rattle.address_text.specs.AddressOfText.{pieces, joined, colon, group_of, dotted_groups, or_else, last_groups, groups_of_pieces, groups_of, ipv4_of}
use Rattle.address_text.proofs.Dotted.{ipv4, dotted_plain, dotted_has_dot}
use Rattle.address_text.proofs.Split.{behind_marks, put_together, IsPlain, at_mark, alone, digits_plain, joins}

all_digits : (piece : List ℕ) → list_all (λ b. is_digit b 16) piece ≡ true → AllDigits 16 piece
all_digits [] e = tt
all_digits (b ∷ piece) e =
    let (first, rest) = and_parts (is_digit b 16) (list_all (λ b. is_digit b 16) piece) e in
    (ltb-true (digit_value b) 16 first, all_digits piece rest)

digits_all : (piece : List ℕ) → AllDigits 16 piece → list_all (λ b. is_digit b 16) piece ≡ true
digits_all [] h = refl
digits_all (b ∷ piece) h =
    and_from (is_digit b 16) (list_all (λ b. is_digit b 16) piece) (lt-ltb (digit_value b) 16 h.0)
    (digits_all piece h.1)

-- one group
record IsGroupOf (piece segments : List ℕ) : Type 0 where
  segment : ℕ
  group : IsGroup piece segment
  is : segments ≡ segment ∷ []

group_sound : (piece segments : List ℕ) → group_of piece ≡ Some segments → IsGroupOf piece segments
group_sound piece segments e =
    let some = nat_lt 0 (length piece) in
    let few = nat_le (length piece) 4 in
    let all = list_all (λ b. is_digit b 16) piece in
    let (test, is) = cond_some _ _ _ e in
    let (size, digits) = and_parts (some && few) all test in
    let (filled, short) = and_parts some few size in
    record {
      segment = digits_value 16 piece;
      group = (
        ((ltb-true 0 (length piece) filled, all_digits piece digits), refl),
        leb-true (length piece) 4 short,
      );
      is = sym is;
    }

group_complete : (piece : List ℕ) (segment : ℕ) → IsGroup piece segment
    → group_of piece ≡ Some (segment ∷ [])
group_complete piece segment h =
    rw (
      lt-ltb 0 (length piece) h.0.0.0,
      le-leb (length piece) 4 h.1,
      digits_all piece h.0.0.1,
    ) (ap (λ s. Some (s ∷ [])) h.0.1)

-- an address is no group
no_group : (piece octets : List ℕ) → IsDotted piece octets → group_of piece ≡ None
no_group piece octets dotted = go (group_of piece) refl
  where
    go : (o : Option (List ℕ)) → group_of piece ≡ o → group_of piece ≡ None
    go None e = e
    go (Some segments) e =
        absurd (dotted_has_dot piece octets dotted (group_sound piece segments e).group.0.0.1)

-- the last piece
abbrev IsLast : Bool → (piece segments : List ℕ) → Type 0
IsLast may_be_dotted piece segments =
    IsGroupOf piece segments
    ⊎ ((octets : List ℕ) × IsTrue may_be_dotted × IsDotted piece octets
    × (segments ≡ segments_of octets))

dotted_sound : (piece segments : List ℕ) (o : Option (List ℕ)) → ipv4_of piece ≡ o
    → option_map segments_of o ≡ Some segments
    → IsLast true piece segments
dotted_sound piece segments None e f = absurd (none-some segments f)
dotted_sound piece segments (Some octets) e f =
    inr (octets, refl, (ipv4 piece octets).0 e, sym (same_Some _ _ f))

last_sound : (may_be_dotted : Bool) (piece segments : List ℕ)
    → last_groups may_be_dotted piece ≡ Some segments → IsLast may_be_dotted piece segments
last_sound false piece segments e = inl (group_sound piece segments e)
last_sound true piece segments e = go (group_of piece) refl e
  where
    go : (o : Option (List ℕ)) → group_of piece ≡ o
        → or_else o (dotted_groups piece) ≡ Some segments → IsLast true piece segments
    go None f k = dotted_sound piece segments (ipv4_of piece) refl k
    go (Some found) f k = inl (group_sound piece segments (f ∙ k))

last_group : (may_be_dotted : Bool) (piece : List ℕ) (segment : ℕ) → IsGroup piece segment
    → last_groups may_be_dotted piece ≡ Some (segment ∷ [])
last_group false piece segment h = group_complete piece segment h
last_group true piece segment h =
    ap (λ o. or_else o (dotted_groups piece)) (group_complete piece segment h)

last_dotted : (piece octets : List ℕ) → IsDotted piece octets
    → last_groups true piece ≡ Some (segments_of octets)
last_dotted piece octets h =
    ap (λ o. or_else o (dotted_groups piece)) (no_group piece octets h)
    ∙ ap (option_map segments_of) ((ipv4 piece octets).1 h)

-- the text of pieces is groups
after_last : (may_be_dotted : Bool) (lead piece segments : List ℕ)
    → IsLast may_be_dotted piece segments
    → IsGroupsAfter may_be_dotted lead (lead ++ (piece ++ [])) segments
after_last may_be_dotted lead piece segments (inl g) =
    subst (IsGroupsAfter may_be_dotted lead (lead ++ (piece ++ []))) (sym g.is)
    (inl (piece, [], sym (append_assoc lead piece []), g.group, refl))
after_last may_be_dotted lead piece segments (inr d) =
    let two : segments_of d.0 ≡ (d.2.a * 256 + d.2.b) ∷ (d.2.c * 256 + d.2.d) ∷ [] =
    ap segments_of d.2.value in
    subst (IsGroupsAfter may_be_dotted lead (lead ++ (piece ++ []))) (sym (d.3 ∙ two))
    (inr (piece, d.0, d.1, ap (λ l. lead ++ l) (append-nil piece), d.2, sym two))

groups_sound : (may_be_dotted : Bool) (lead first : List ℕ) (rest : List (List ℕ))
    (segments : List ℕ)
    → groups_of_pieces may_be_dotted first rest ≡ Some segments
    → IsGroupsAfter may_be_dotted lead (lead ++ (first ++ behind_marks colon rest)) segments
groups_sound may_be_dotted lead first [] segments e =
    after_last may_be_dotted lead first segments (last_sound may_be_dotted first segments e)
groups_sound may_be_dotted lead first (next ∷ rest) segments e =
    let j = joins (group_of first) (groups_of_pieces may_be_dotted next rest) segments e in
    let g = group_sound first j.front j.first_is in
    let later = groups_sound may_be_dotted (codes ":") next rest j.back j.others_are in
    subst (IsGroupsAfter may_be_dotted lead (lead
    ++ (first ++ colon ∷ (next ++ behind_marks colon rest))))
    (sym (j.whole ∙ ap (λ l. l ++ j.back) g.is))
    (inl (
      first,
      colon ∷ (next ++ behind_marks colon rest),
      sym (append_assoc lead first (colon ∷ (next ++ behind_marks colon rest))),
      g.group,
      later,
    ))

pub sound : (may_be_dotted : Bool) (text segments : List ℕ)
    → groups_of may_be_dotted text ≡ Some segments → IsGroups may_be_dotted text segments
sound may_be_dotted [] segments e = subst (IsGroups may_be_dotted []) (same_Some _ _ e) refl
sound may_be_dotted (b ∷ text) segments e =
    let cut = pieces colon (b ∷ text) in
    subst (λ t. IsGroups may_be_dotted t segments) (sym (put_together colon (b ∷ text)))
    (groups_sound may_be_dotted [] cut.0 cut.1 segments e)

-- a group has no colon, and one byte at least
pub group_plain : (piece : List ℕ) (segment : ℕ) → IsGroup piece segment → IsPlain colon piece
group_plain piece segment h = digits_plain 16 colon (lit≤ tt) piece h.0.0.1

-- what the pieces of a text give
abbrev pub gives : Bool → List ℕ → Option (List ℕ)
gives may_be_dotted text =
    groups_of_pieces may_be_dotted (pieces colon text).0 (pieces colon text).1

pub gives_one : (may_be_dotted : Bool) (piece : List ℕ) (segment : ℕ) → IsGroup piece segment
    → gives may_be_dotted piece ≡ Some (segment ∷ [])
gives_one may_be_dotted piece segment h =
    ap (λ (p : List ℕ × List (List ℕ)). groups_of_pieces may_be_dotted p.0 p.1)
    (alone colon piece (group_plain piece segment h))
    ∙ last_group may_be_dotted piece segment h

pub gives_more : (may_be_dotted : Bool) (piece rest : List ℕ) (segment : ℕ) → IsGroup piece segment
    → gives may_be_dotted (piece ++ colon ∷ rest)
    ≡ joined (Some (segment ∷ [])) (gives may_be_dotted rest)
gives_more may_be_dotted piece rest segment h =
    ap (λ (p : List ℕ × List (List ℕ)). groups_of_pieces may_be_dotted p.0 p.1)
    (at_mark colon piece rest (group_plain piece segment h))
    ∙ ap (λ o. joined o (gives may_be_dotted rest)) (group_complete piece segment h)

pub gives_dotted : (piece octets : List ℕ) → IsDotted piece octets
    → gives true piece ≡ Some (segments_of octets)
gives_dotted piece octets h =
    ap (λ (p : List ℕ × List (List ℕ)). groups_of_pieces true p.0 p.1)
    (alone colon piece (dotted_plain colon piece octets (lit≤ tt) refl h))
    ∙ last_dotted piece octets h

-- what is there is what the groups of the text are
pub gives_is : (may_be_dotted : Bool) (text segments : List ℕ) (segment : ℕ)
    → gives may_be_dotted text ≡ Some (segment ∷ segments)
    → groups_of may_be_dotted text ≡ Some (segment ∷ segments)
unfolding ipv4_of digits
gives_is true [] segments segment e = absurd (none-some (segment ∷ segments) e)
gives_is false [] segments segment e = absurd (none-some (segment ∷ segments) e)
gives_is may_be_dotted (b ∷ text) segments segment e = e
