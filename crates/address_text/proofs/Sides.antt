-- The sides of the first `::` of a text, and the whole of an IPv6 address.
use Rattle.std.proofs.Common.{◌≡◌, ℕ, ◌+◌, ◌-◌, ◌<◌, inl, inr, List, [], ◌∷◌, ◌++◌, length, replicate, codes, ◌&&◌, Bool, true, false, cond, Option, None, Some, ◌==◌, option_map, eqb-true, eq-eqb, lt-ltb, ltb-true, lit≤, arith, refl, sym, ap, ap₂, ◌∙◌, subst, append-nil, append_assoc}
use Rattle.std.specs.Prelude.{◌↔◌}
use Rattle.std.proofs.lemmas.Bool.{and_parts}
use Rattle.std.proofs.lemmas.Option.{none-some, same_Some, cond_some}
use Rattle.std.specs.Net.Addr.{octets_of}
use Rattle.std.specs.Net.Grammar.{IsDotted, IsGroupsAfter, IsGroups, IsElided, IsColonHex}
use Rattle.address_text.specs.AddressOfText.{colon, joined, just, behind_byte, sides_of, groups_of, filled, eight_groups, ipv6_of}
use Rattle.address_text.specs.Spelling.{SpellsIpv6}
use Rattle.address_text.proofs.Addresses.{no_ipv4}
use Rattle.address_text.proofs.Dotted.{dotted_plain, just_some}
use Rattle.address_text.proofs.Grouped.{sound, group_plain, gives, gives_one, gives_more, gives_dotted, gives_is}
use Rattle.address_text.proofs.Split.{IsPlain}

-- where the sides stand
sides_sound : (text : List ℕ) (sides : List ℕ × List ℕ) → sides_of text ≡ Some sides
    → text ≡ sides.0 ++ colon ∷ colon ∷ sides.1
sides_sound [] sides e = absurd (none-some sides e)
sides_sound (b ∷ []) sides e = absurd (none-some sides e)
sides_sound (b ∷ c ∷ rest) sides e =
    here (sides_sound (c ∷ rest)) ((b == colon) && (c == colon)) refl e
  where
    later : (o : Option (List ℕ × List ℕ))
        → ((sides : List ℕ × List ℕ) → o ≡ Some sides
        → c ∷ rest ≡ sides.0 ++ colon ∷ colon ∷ sides.1)
        → behind_byte b o ≡ Some sides → b ∷ c ∷ rest ≡ sides.0 ++ colon ∷ colon ∷ sides.1
    later None whole f = absurd (none-some sides f)
    later (Some found) whole f =
        ap (λ l. b ∷ l) (whole found refl)
        ∙ ap (λ (s : List ℕ × List ℕ). s.0 ++ colon ∷ colon ∷ s.1) (same_Some _ _ f)

    here : ((sides : List ℕ × List ℕ) → sides_of (c ∷ rest) ≡ Some sides
        → c ∷ rest ≡ sides.0 ++ colon ∷ colon ∷ sides.1)
        → (t : Bool) → ((b == colon) && (c == colon)) ≡ t
        → cond t (Some ([], rest)) (behind_byte b (sides_of (c ∷ rest))) ≡ Some sides
        → b ∷ c ∷ rest ≡ sides.0 ++ colon ∷ colon ∷ sides.1
    here whole true k f =
        let (first, second) = and_parts (b == colon) (c == colon) k in
        ap₂ (λ x y. x ∷ y ∷ rest) (eqb-true b colon first) (eqb-true c colon second)
        ∙ ap (λ (s : List ℕ × List ℕ). s.0 ++ colon ∷ colon ∷ s.1) (same_Some _ _ f)
    here whole false k f = later (sides_of (c ∷ rest)) whole f

-- bytes that are passed over
abbrev behind_all : List ℕ → Option (List ℕ × List ℕ) → Option (List ℕ × List ℕ)
behind_all [] o = o
behind_all (b ∷ bytes) o = behind_byte b (behind_all bytes o)

behind_both : (xs ys : List ℕ) (o : Option (List ℕ × List ℕ))
    → behind_all xs (behind_all ys o) ≡ behind_all (xs ++ ys) o
behind_both [] ys o = refl
behind_both (x ∷ xs) ys o = ap (behind_byte x) (behind_both xs ys o)

behind_none : (xs : List ℕ) → behind_all xs None ≡ None
behind_none [] = refl
behind_none (x ∷ xs) = ap (behind_byte x) (behind_none xs)

behind_some : (xs front back : List ℕ)
    → behind_all xs (Some (front, back)) ≡ Some (xs ++ front, back)
behind_some [] front back = refl
behind_some (x ∷ xs) front back = ap (behind_byte x) (behind_some xs front back)

pass : (b : ℕ) (text : List ℕ) → (b == colon) ≡ false
    → sides_of (b ∷ text) ≡ behind_byte b (sides_of text)
pass b [] e = refl
pass b (c ∷ text) e = rw (e) refl

pass_colon : (c : ℕ) (text : List ℕ) → (c == colon) ≡ false
    → sides_of (colon ∷ c ∷ text) ≡ behind_byte colon (sides_of (c ∷ text))
pass_colon c text e = rw (e) refl

-- whatever stands behind a text, its `::` is not in it
abbrev IsPassed : List ℕ → Type 0
IsPassed text = (behind : List ℕ) → sides_of (text ++ behind) ≡ behind_all text (sides_of behind)

passed : (plain rest : List ℕ) → IsPlain colon plain → IsPassed rest → IsPassed (plain ++ rest)
passed [] rest h k behind = k behind
passed (b ∷ plain) rest h k behind = pass b ((plain ++ rest) ++ behind) h.0
    ∙ ap (behind_byte b) (passed plain rest h.1 k behind)

passed_colon : (plain rest : List ℕ) → 0 < length plain → IsPlain colon plain → IsPassed rest
    → IsPassed (colon ∷ (plain ++ rest))
passed_colon [] rest some h k behind = absurd (omega (arith, some))
passed_colon (b ∷ plain) rest some h k behind =
    pass_colon b ((plain ++ rest) ++ behind) h.0
    ∙ ap (behind_byte colon) (passed (b ∷ plain) rest h k behind)

-- a text of groups behind its lead
record IsRead (may_be_dotted : Bool) (lead text segments : List ℕ) : Type 0 where
  body : List ℕ
  split : text ≡ lead ++ body
  read : gives may_be_dotted body ≡ Some segments
  over : IsPassed body
  over_colon : IsPassed (colon ∷ body)

nothing_passed : IsPassed []
nothing_passed behind = refl

dotted_filled : (piece octets : List ℕ) → IsDotted piece octets → 0 < length piece
dotted_filled [] octets h = absurd (no_ipv4 octets h)
dotted_filled (b ∷ piece) octets h = omega arith

read_groups : (may_be_dotted : Bool) (segments lead text : List ℕ) (segment : ℕ)
    → IsGroupsAfter may_be_dotted lead text (segment ∷ segments)
    → IsRead may_be_dotted lead text (segment ∷ segments)
read_groups may_be_dotted [] lead text segment (inl (piece, rest, split, group, more)) =
    let plain = group_plain piece segment group in
    let whole : text ≡ lead ++ piece = split ∙ ap (λ l. (lead ++ piece) ++ l) more
    ∙ append-nil (lead ++ piece) in
    record {
      body = piece;
      split = whole;
      read = gives_one may_be_dotted piece segment group;
      over = subst IsPassed (append-nil piece) (passed piece [] plain nothing_passed);
      over_colon =
          subst (λ l. IsPassed (colon ∷ l)) (append-nil piece)
          (passed_colon piece [] group.0.0.0 plain nothing_passed);
    }
read_groups may_be_dotted (next ∷ segments) lead text segment
    (inl (piece, rest, split, group, more)) =
    let plain = group_plain piece segment group in
    let later = read_groups may_be_dotted segments (codes ":") rest next more in
    let whole : text ≡ lead ++ (piece ++ colon ∷ later.body) = split ∙ append_assoc lead piece rest
    ∙ ap (λ l. lead ++ (piece ++ l)) later.split in
    record {
      body = piece ++ colon ∷ later.body;
      split = whole;
      read = gives_more may_be_dotted piece later.body segment group
          ∙ ap (λ o. joined (Some (segment ∷ [])) o) later.read;
      over = passed piece (colon ∷ later.body) plain later.over_colon;
      over_colon = passed_colon piece (colon ∷ later.body) group.0.0.0 plain later.over_colon;
    }
read_groups false segments lead text segment (inr (piece, octets, may, split, dotted, value)) =
    absurd (let e : false ≡ true = may in cc)
read_groups true segments lead text segment (inr (piece, octets, may, split, dotted, value)) =
    let plain = dotted_plain colon piece octets (lit≤ tt) refl dotted in
    record {
      body = piece;
      split = split;
      read = gives_dotted piece octets dotted ∙ ap Some (sym value);
      over = subst IsPassed (append-nil piece) (passed piece [] plain nothing_passed);
      over_colon = subst (λ l. IsPassed (colon ∷ l)) (append-nil piece)
          (passed_colon piece [] (dotted_filled piece octets dotted) plain nothing_passed);
    }

-- the groups of a text
record AreRead (may_be_dotted : Bool) (text segments : List ℕ) : Type 0 where
  read : groups_of may_be_dotted text ≡ Some segments
  over : IsPassed text

complete : (may_be_dotted : Bool) (text segments : List ℕ) → IsGroups may_be_dotted text segments
    → AreRead may_be_dotted text segments
complete may_be_dotted text [] h =
    record { read = ap (groups_of may_be_dotted) h; over = subst IsPassed (sym h) nothing_passed }
complete may_be_dotted text (segment ∷ segments) h =
    let r = read_groups may_be_dotted segments [] text segment h in
    record {
      read = ap (groups_of may_be_dotted) r.split
          ∙ gives_is may_be_dotted r.body segments segment r.read;
      over =
          subst IsPassed (sym r.split) r.over;
    }

just_right : (count : ℕ) (o : Option (List ℕ)) (found : List ℕ) → o ≡ Some found
    → length found ≡ count → just count o ≡ Some found
just_right count o found e size = ap (just count) e ∙ rw (eq-eqb (length found) count size) refl

-- the eight groups of a text
hex_complete : (text segments : List ℕ) → IsColonHex text segments
    → eight_groups text (sides_of text) ≡ Some segments
hex_complete text segments (inl (groups, size)) =
    let r = complete true text segments groups in
    let none : sides_of text ≡ None = ap sides_of (sym (append-nil text)) ∙ r.over []
    ∙ behind_none text in
    ap (eight_groups text) none ∙ just_right 8 (groups_of true text) segments r.read size
hex_complete text segments (inr h) =
    let head = complete false h.head_text h.head h.head_groups in
    let tail = complete true h.tail_text h.tail h.tail_groups in
    let whole : text ≡ h.head_text ++ colon ∷ colon ∷ h.tail_text = h.spelled
    ∙ append_assoc h.head_text (codes "::") h.tail_text in
    let there : sides_of text ≡ Some (h.head_text, h.tail_text) =
    ap sides_of whole ∙ head.over (colon ∷ colon ∷ h.tail_text)
    ∙ behind_some h.head_text [] h.tail_text
    ∙ ap (λ l. Some (l, h.tail_text)) (append-nil h.head_text) in
    let zeros = replicate (8 - length h.head - length h.tail) 0 in
    let fill : filled (Some h.head) (Some h.tail) ≡ Some (h.head ++ zeros ++ h.tail) =
    rw (lt-ltb (length h.head + length h.tail) 8 h.room) refl in
    ap (eight_groups text) there ∙ ap₂ filled head.read tail.read ∙ fill ∙ ap Some (sym h.value)

filled_sound : (text : List ℕ) (sides : List ℕ
    × List ℕ) (segments : List ℕ) (head tail : Option (List ℕ))
    → text ≡ sides.0 ++ colon ∷ colon ∷ sides.1
    → groups_of false sides.0 ≡ head → groups_of true sides.1 ≡ tail
    → filled head tail ≡ Some segments → IsElided text segments
filled_sound text sides segments None tail whole h t e = absurd (none-some segments e)
filled_sound text sides segments (Some head) None whole h t e = absurd (none-some segments e)
filled_sound text sides segments (Some head) (Some tail) whole h t e =
    let (room, same) = cond_some _ _ _ e in
    record {
      head_text = sides.0;
      tail_text = sides.1;
      head = head;
      tail = tail;
      spelled = whole ∙ sym (append_assoc sides.0 (codes "::") sides.1);
      head_groups = sound false sides.0 head h;
      tail_groups = sound true sides.1 tail t;
      room = ltb-true (length head + length tail) 8 room;
      value = sym same;
    }

hex_sound : (text segments : List ℕ) (o : Option (List ℕ × List ℕ)) → sides_of text ≡ o
    → eight_groups text o ≡ Some segments
    → IsColonHex text segments
hex_sound text segments None s e =
    let (read, size) = just_some 8 (groups_of true text) segments e in
    inl (sound true text segments read, size)
hex_sound text segments (Some sides) s e =
    inr (filled_sound text sides segments (groups_of false sides.0) (groups_of true sides.1)
    (sides_sound text sides s) refl refl e)

ipv6_sound : (text octets : List ℕ) → ipv6_of text ≡ Some octets → SpellsIpv6 text octets
unfolding ipv6_of
ipv6_sound text octets e = go (eight_groups text (sides_of text)) refl e
  where
    go : (o : Option (List ℕ)) → eight_groups text (sides_of text) ≡ o
        → option_map octets_of o ≡ Some octets → SpellsIpv6 text octets
    go None f k = absurd (none-some octets k)
    go (Some segments) f k =
        (segments, hex_sound text segments (sides_of text) refl f, sym (same_Some _ _ k))

ipv6_complete : (text octets : List ℕ) → SpellsIpv6 text octets → ipv6_of text ≡ Some octets
unfolding ipv6_of
ipv6_complete text octets (segments, hex, value) =
    ap (option_map octets_of) (hex_complete text segments hex) ∙ ap Some (sym value)

pub ipv6 : (text octets : List ℕ) → (ipv6_of text ≡ Some octets) ↔ SpellsIpv6 text octets
ipv6 text octets = (ipv6_sound text octets, ipv6_complete text octets)
