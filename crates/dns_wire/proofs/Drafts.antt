-- Drafts and the replies that they stand for.
use Rattle.std.proofs.Common.{◌≡◌, ℕ, ◌+◌, ◌<◌, ◌≤◌, List, [], ◌∷◌, ◌++◌, length, take, drop, replicate, ap, ◌∙◌, sym, refl, subst, append_assoc, append-nil, arith, length-append, Bool, true, false, inl, inr}
use Rattle.std.specs.Prelude.{nat_le, if◌then◌else◌}
use Rattle.std.proofs.lemmas.Bool.{le-leb, lt-leb}
use Rattle.std.proofs.lemmas.Bool.Decides.{leb_tells}
use Rattle.std.proofs.lemmas.List.{take_at}
use Rattle.std.proofs.lemmas.Grind.{flat_map-append}
use Rattle.dns_wire.specs.declared.reply.Section.{Section}
use Rattle.dns_wire.specs.declared.reply.Section.TheVariants.{Answer, Authority, Additional}
use Rattle.std.specs.Prelude.{Option, None, Some}
use Rattle.std.specs.List.{flat_map}
use Rattle.dns_message.specs.ClientSubnetRecord.{ClientSubnet}
use Rattle.dns_message.specs.declared.query.Edns.{Edns}
use Rattle.dns_wire.specs.Draft.{Draft, Follows, HoldsAll, IsEmptied, StandsFor, opt_of, options_of, size_of, with_record}
use Rattle.dns_wire.specs.Steps.{closed, counted, emptied, ended, header_of, limited, recorded}
use Rattle.dns_wire.specs.Header.{header_octets}
use Rattle.dns_wire.specs.Message as message
use Rattle.dns_wire.specs.Message.{Message, Opt, Record, octets_of, opt_count, opt_octets, option_octets, record_octets, records_octets, records_of, octets_within, without_records}

-- the records with one more
more_records : (section : Section) (r : Record) (m : Message) → Follows section m
    → records_of (with_record section r m) ≡ records_of m ++ r ∷ []
more_records Answer r m f =
    let none : m.authorities ++ m.additionals ≡ [] = ap (λ t. t ++ m.additionals) f.0 ∙ f.1 in
    ap (λ t. (m.answers ++ r ∷ []) ++ t) none
    ∙ append-nil (m.answers ++ r ∷ [])
    ∙ ap (λ t. t ++ r ∷ []) (sym (append-nil m.answers) ∙ ap (λ t. m.answers ++ t) (sym none))
more_records Authority r m f =
    ap (λ t. m.answers ++ ((m.authorities ++ r ∷ []) ++ t)) f
    ∙ ap (λ t. m.answers ++ t) (append-nil (m.authorities ++ r ∷ []))
    ∙ sym (append_assoc m.answers m.authorities (r ∷ []))
    ∙ ap (λ t. (m.answers ++ t) ++ r ∷ []) (sym (append-nil m.authorities)
    ∙ ap (λ t. m.authorities ++ t) (sym f))
more_records Additional r m f =
    ap (λ t. m.answers ++ t) (sym (append_assoc m.authorities m.additionals (r ∷ [])))
    ∙ sym (append_assoc m.answers (m.authorities ++ m.additionals) (r ∷ []))

-- What one more record doesn't change, and its octets.
pub record OneMore (r : Record) (m more : Message) : Type 0 where
  pub id : more.id ≡ m.id
  pub rd : more.rd ≡ m.rd
  pub name : more.name ≡ m.name
  pub question : more.question ≡ m.question
  pub opt : more.opt ≡ m.opt
  pub octets : records_octets more.name (records_of more) ≡ records_octets m.name (records_of m)
      ++ record_octets m.name r
  pub size : size_of more ≡ size_of m + length (record_octets m.name r)

more_octets : (section : Section) (r : Record) (m : Message) → Follows section m
    → records_octets m.name (records_of (with_record section r m))
    ≡ records_octets m.name (records_of m) ++ record_octets m.name r
more_octets section r m f =
    ap (records_octets m.name) (more_records section r m f)
    ∙ flat_map-append (record_octets m.name) (records_of m) (r ∷ [])
    ∙ ap (λ t. records_octets m.name (records_of m) ++ t) (append-nil (record_octets m.name r))

one_more : (section : Section) (r : Record) (m : Message) → Follows section m
    → OneMore r m (with_record section r m)
one_more Answer r m f =
    let octets = more_octets Answer r m f in
    record {
      id = refl;
      rd = refl;
      name = refl;
      question = refl;
      opt = refl;
      octets = octets;
      size =
          omega (
            arith,
            ap length octets,
            length-append (records_octets m.name (records_of m)) (record_octets m.name r),
          );
    }
one_more Authority r m f =
    let octets = more_octets Authority r m f in
    record {
      id = refl;
      rd = refl;
      name = refl;
      question = refl;
      opt = refl;
      octets = octets;
      size =
          omega (
            arith,
            ap length octets,
            length-append (records_octets m.name (records_of m)) (record_octets m.name r),
          );
    }
one_more Additional r m f =
    let octets = more_octets Additional r m f in
    record {
      id = refl;
      rd = refl;
      name = refl;
      question = refl;
      opt = refl;
      octets = octets;
      size =
          omega (
            arith,
            ap length octets,
            length-append (records_octets m.name (records_of m)) (record_octets m.name r),
          );
    }

with_octets : Section → Record → Draft → Draft
with_octets section r d = record (counted section d) { bytes = d.bytes ++ record_octets d.name r }

-- the octets with those of one more record
octets_more : (r : Record) (m more : Message) (name : List (List ℕ)) (bytes : List ℕ)
    → OneMore r m more → name ≡ m.name
    → bytes ≡ replicate 12 0 ++ (m.question ++ records_octets m.name (records_of m))
    → bytes ++ record_octets name r ≡ replicate 12 0
    ++ (more.question ++ records_octets more.name (records_of more))
octets_more r m more name bytes o e h =
    ap (λ n. bytes ++ record_octets n r) e
    ∙ ap (λ t. t ++ record_octets m.name r) h
    ∙ ap (λ t. replicate 12 0
    ++ t) (append_assoc m.question (records_octets m.name (records_of m))
    (record_octets m.name r) ∙ ap (λ t. m.question ++ t) (sym o.octets)
    ∙ ap (λ q. q ++ records_octets more.name (records_of more)) (sym o.question))

-- a record that fits
fits_more : (section : Section) (r : Record) (m : Message) (d : Draft) → Follows section m
    → StandsFor m d → HoldsAll m d → size_of (with_record section r m) ≤ d.room
    → StandsFor (with_record section r m)
    (record (counted section d) { bytes = d.bytes ++ record_octets d.name r })
fits_more Answer r m d f s h fits =
    let o = one_more Answer r m f in
    record {
      id = s.id;
      rd = s.rd;
      name = s.name;
      opt = s.opt;
      question = s.question;
      records = inl (record {
        fits = fits;
        untruncated = h.untruncated;
        answers = omega (arith, h.answers, length-append m.answers (r ∷ []));
        authorities = h.authorities;
        additionals = h.additionals;
        bytes = octets_more r m (with_record Answer r m) d.name d.bytes o s.name h.bytes;
      });
    }
fits_more Authority r m d f s h fits =
    let o = one_more Authority r m f in
    record {
      id = s.id;
      rd = s.rd;
      name = s.name;
      opt = s.opt;
      question = s.question;
      records = inl (record {
        fits = fits;
        untruncated = h.untruncated;
        answers = h.answers;
        authorities = omega (arith, h.authorities, length-append m.authorities (r ∷ []));
        additionals = h.additionals;
        bytes = octets_more r m (with_record Authority r m) d.name d.bytes o s.name h.bytes;
      });
    }
fits_more Additional r m d f s h fits =
    let o = one_more Additional r m f in
    record {
      id = s.id;
      rd = s.rd;
      name = s.name;
      opt = s.opt;
      question = s.question;
      records = inl (record {
        fits = fits;
        untruncated = h.untruncated;
        answers = h.answers;
        authorities = h.authorities;
        additionals = omega (arith, h.additionals, length-append m.additionals (r ∷ []));
        bytes = octets_more r m (with_record Additional r m) d.name d.bytes o s.name h.bytes;
      });
    }

-- how many octets a draft with all records has
size_now : (m : Message) (d : Draft) → HoldsAll m d → length d.bytes ≡ size_of m
size_now m d h = ap length h.bytes
    ∙ omega (arith, length-append m.question (records_octets m.name (records_of m)))

-- where the records are dropped, the question is left
question_left : (m : Message) (d : Draft) → StandsFor m d → HoldsAll m d
    → take d.question_end d.bytes ≡ replicate 12 0 ++ m.question
question_left m d s h =
    ap (take d.question_end) (h.bytes
    ∙ sym (append_assoc (replicate 12 0) m.question (records_octets m.name (records_of m))))
    ∙ take_at (replicate 12 0 ++ m.question) (records_octets m.name (records_of m)) d.question_end
    (omega (arith, s.question))

drops_all : (m : Message) (d : Draft) → StandsFor m d → HoldsAll m d → IsEmptied m (emptied d)
drops_all m d s h =
    record {
      is_truncated = refl;
      answers = refl;
      authorities = refl;
      additionals = refl;
      bytes =
          question_left m d s h;
    }

drops_none : (m : Message) (d : Draft) → StandsFor m d → IsEmptied m d → IsEmptied m (emptied d)
drops_none m d s h = record {
  is_truncated = refl;
  answers = refl;
  authorities = refl;
  additionals = refl;
  bytes = ap (take d.question_end) (h.bytes ∙ sym (append-nil (replicate 12 0 ++ m.question)))
      ∙ take_at (replicate 12 0 ++ m.question) [] d.question_end (omega (arith, s.question));
}

-- one without records, with one more
none_more : (r : Record) (m more : Message) (d e : Draft) → OneMore r m more → StandsFor m d
    → e.id ≡ d.id → e.rd ≡ d.rd → e.name ≡ d.name → e.edns ≡ d.edns
    → e.question_end ≡ d.question_end
    → e.room < size_of more → IsEmptied m e → StandsFor more e
none_more r m more d e o s id rd name edns question longer h = record {
  id = id ∙ s.id ∙ sym o.id;
  rd = rd ∙ s.rd ∙ sym o.rd;
  name = name ∙ s.name ∙ sym o.name;
  opt = o.opt ∙ s.opt ∙ ap (λ x. opt_of x 0) (sym edns);
  question = question ∙ s.question ∙ ap (λ q. 12 + length q) (sym o.question);
  records = inr (record {
    longer = longer;
    emptied =
        record {
          is_truncated = h.is_truncated;
          answers = h.answers;
          authorities = h.authorities;
          additionals =
              h.additionals;
          bytes = h.bytes ∙ ap (λ q. replicate 12 0 ++ q) (sym o.question);
        };
  });
}

-- what one more record leaves, by what was before
when_cut : (section : Section) (r : Record) (d : Draft) → d.is_truncated ≡ true → recorded section r d ≡ d
when_cut section r d h =
    ap (λ b. if b then d
    else (if nat_le (length d.bytes + length (record_octets d.name r)) d.room
    then record (counted section d) { bytes = d.bytes ++ record_octets d.name r } else emptied d)) h

when_uncut : (section : Section) (r : Record) (d : Draft) (b : Bool) → d.is_truncated ≡ false
    → nat_le (length d.bytes + length (record_octets d.name r)) d.room ≡ b
    → recorded section r d
    ≡ (if b then record (counted section d) { bytes = d.bytes ++ record_octets d.name r }
    else emptied d)
when_uncut section r d b h k =
    ap (λ c. if c then d
    else (if nat_le (length d.bytes + length (record_octets d.name r)) d.room
    then record (counted section d) { bytes = d.bytes ++ record_octets d.name r }
    else emptied d)) h
    ∙ ap (λ c. if c then record (counted section d) { bytes = d.bytes ++ record_octets d.name r }
    else emptied d) k

pub too_long : (section : Section) (r : Record) (d : Draft) → d.is_truncated ≡ false
    → d.room < length d.bytes + length (record_octets d.name r) → recorded section r d ≡ emptied d
too_long section r d h k =
    when_uncut section r d false h
    (lt-leb (length d.bytes + length (record_octets d.name r)) d.room k)

-- It stands for the reply with one more record.
pub stands_on : (section : Section) (r : Record) (m : Message) (d : Draft) → StandsFor m d
    → Follows section m → StandsFor (with_record section r m) (recorded section r d)
stands_on section r m d s f =
    let o = one_more section r m f in
    elim s.records [
      | inl h ↦ (
          let now : length d.bytes + length (record_octets d.name r)
          ≡ size_of (with_record section r m) =
          ap (λ n. length d.bytes + length (record_octets n r)) s.name
          ∙ omega (arith, size_now m d h, o.size) in
          elim (leb_tells (length d.bytes + length (record_octets d.name r)) d.room) [
            | inl t ↦
                subst (StandsFor (with_record section r m))
                (sym (when_uncut section r d true h.untruncated t.0))
                (fits_more section r m d f s h (omega (arith, now, t.1)))
            | inr t ↦
                subst (StandsFor (with_record section r m))
                (sym (when_uncut section r d false h.untruncated t.0))
                (none_more r m (with_record section r m) d (emptied d) o s refl refl refl refl refl
                (omega (arith, now, t.1)) (drops_all m d s h))
          ]
          )
      | inr h ↦
          subst (StandsFor (with_record section r m)) (sym (when_cut section r d h.emptied.is_truncated))
          (none_more r m (with_record section r m) d d o s refl refl refl refl refl
          (omega (arith, h.longer, o.size)) h.emptied)
    ]

-- ---- the end

-- the octets of an OPT record are as many with any RCODE and scope
options_size : (subnet : Option ClientSubnet) (scope other : ℕ)
    → length (flat_map option_octets (options_of subnet scope))
    ≡ length (flat_map option_octets (options_of subnet other))
options_size None scope other = refl
options_size (Some subnet) scope other = refl

pub opt_size : (edns : Option Edns) (rcode scope other other_scope : ℕ)
    → length (opt_octets rcode (opt_of edns scope)) ≡ length (opt_octets other (opt_of edns other_scope))
opt_size None rcode scope other other_scope = refl
opt_size (Some edns) rcode scope other other_scope =
    omega (arith, options_size edns.subnet scope other_scope)

opt_counts : (edns : Option Edns) (scope other : ℕ) → opt_count (opt_of edns scope) ≡ opt_count (opt_of edns other)
opt_counts None scope other = refl
opt_counts (Some edns) scope other = refl

-- AA, RCODE and the scope come at the end
abbrev pub done : Message → Bool → (rcode : ℕ) → Option Opt → Message
done m aa rcode opt = record m { aa = aa; rcode = rcode; opt = opt }

pub whole_size : (tc : Bool) (m : Message)
    → length (octets_of tc m) ≡ size_of m + length (opt_octets m.rcode m.opt)
whole_size tc m =
    omega (
      arith,
      length-append m.question (records_octets m.name (records_of m) ++ opt_octets m.rcode m.opt),
      length-append (records_octets m.name (records_of m)) (opt_octets m.rcode m.opt),
    )

pub whole_wire : (m : Message) (limit : ℕ) → length (octets_of false m) ≤ limit
    → octets_within m limit ≡ octets_of false m
unfolding octets_within
whole_wire m limit h =
    ap (λ b. if b then octets_of false m else octets_of true (without_records m))
    (le-leb (length (octets_of false m)) limit h)

pub cut_wire : (m : Message) (limit : ℕ) → limit < length (octets_of false m)
    → octets_within m limit ≡ octets_of true (without_records m)
unfolding octets_within
cut_wire m limit h =
    ap (λ b. if b then octets_of false m else octets_of true (without_records m))
    (lt-leb (length (octets_of false m)) limit h)

-- the octets behind the header
behind_header : (d : Draft) (body opt : List ℕ) (aa : Bool) (rcode : ℕ) → d.bytes ≡ replicate 12 0 ++ body
    → (ended (closed opt d) aa rcode).bytes ≡ header_octets (header_of d aa rcode) ++ (body ++ opt)
behind_header d body opt aa rcode h =
    ap (λ t. header_octets (header_of d aa rcode) ++ drop 12 (t ++ opt)) h

-- the octets of one with all records, and of one without
whole_octets : (m : Message) (d : Draft) (aa : Bool) (rcode scope : ℕ) → StandsFor m d → HoldsAll m d
    → (ended (closed (opt_octets rcode (opt_of d.edns scope)) d) aa rcode).bytes
    ≡ octets_of false (done m aa rcode (opt_of d.edns scope))
whole_octets m d aa rcode scope s h =
    let a = s.id in
    let b = s.rd in
    let c = h.untruncated in
    let e = h.answers in
    let f = h.authorities in
    let g = h.additionals in
    let i = opt_counts d.edns 0 scope in
    let opt = opt_octets rcode (opt_of d.edns scope) in
    let header : header_of d aa rcode ≡ message.header_of false (done m aa rcode (opt_of d.edns scope)) = cc in
    behind_header d (m.question ++ records_octets m.name (records_of m)) opt aa rcode h.bytes
    ∙ ap (λ t. header_octets t ++ ((m.question ++ records_octets m.name (records_of m)) ++ opt)) header
    ∙ ap (λ t. header_octets (message.header_of false (done m aa rcode (opt_of d.edns scope))) ++ t)
    (append_assoc m.question (records_octets m.name (records_of m)) opt)

cut_octets : (m : Message) (d : Draft) (aa : Bool) (rcode scope : ℕ) → d.id ≡ m.id → d.rd ≡ m.rd
    → IsEmptied m d
    → (ended (closed (opt_octets rcode (opt_of d.edns scope)) d) aa rcode).bytes
    ≡ octets_of true (without_records (done m aa rcode (opt_of d.edns scope)))
cut_octets m d aa rcode scope a b h =
    let c = h.is_truncated in
    let e = h.answers in
    let f = h.authorities in
    let g = h.additionals in
    let i = opt_counts d.edns 0 scope in
    let opt = opt_octets rcode (opt_of d.edns scope) in
    let cut = without_records (done m aa rcode (opt_of d.edns scope)) in
    let header : header_of d aa rcode ≡ message.header_of true cut = cc in
    behind_header d m.question opt aa rcode h.bytes
    ∙ ap (λ t. header_octets t ++ (m.question ++ opt)) header

-- what the limit leaves
within_limit : (limit more : ℕ) (d : Draft) → length d.bytes + more ≤ limit → limited limit more d ≡ d
within_limit limit more d h =
    ap (λ b. if b then d else emptied d) (le-leb (length d.bytes + more) limit h)

over_limit : (limit more : ℕ) (d : Draft) → limit < length d.bytes + more
    → limited limit more d ≡ emptied d
over_limit limit more d h =
    ap (λ b. if b then d else emptied d) (lt-leb (length d.bytes + more) limit h)

-- At the end it is the reply's octets.
pub ends : (m : Message) (d : Draft) (aa : Bool) (rcode limit scope : ℕ) → StandsFor m d → limit ≤ d.room
    → (ended (closed (opt_octets rcode (opt_of d.edns scope))
    (limited limit (length (opt_octets rcode (opt_of d.edns scope))) d)) aa rcode).bytes
    ≡ octets_within (done m aa rcode (opt_of d.edns scope)) limit
ends m d aa rcode limit scope s room =
    let opt = opt_octets rcode (opt_of d.edns scope) in
    let more = length opt in
    let goal = done m aa rcode (opt_of d.edns scope) in
    let size : length (octets_of false goal) ≡ size_of m + more = whole_size false goal in
    elim s.records [
      | inl h ↦ elim (leb_tells (length d.bytes + more) limit) [
        | inl t ↦
            (let e : limited limit more d ≡ d = within_limit limit more d t.1 in
            ap (λ x. (ended (closed opt x) aa rcode).bytes) e ∙ whole_octets m d aa rcode scope s h
            ∙ sym (whole_wire goal limit (omega (arith, size, size_now m d h, t.1))))
        | inr t ↦
            (let e : limited limit more d ≡ emptied d = over_limit limit more d t.1 in
            ap (λ x. (ended (closed opt x) aa rcode).bytes) e
            ∙ cut_octets m (emptied d) aa rcode scope s.id s.rd (drops_all m d s h)
            ∙ sym (cut_wire goal limit (omega (arith, size, size_now m d h, t.1))))
      ]
      | inr h ↦ elim (leb_tells (length d.bytes + more) limit) [
        | inl t ↦
            (let e : limited limit more d ≡ d = within_limit limit more d t.1 in
            ap (λ x. (ended (closed opt x) aa rcode).bytes) e
            ∙ cut_octets m d aa rcode scope s.id s.rd h.emptied
            ∙ sym (cut_wire goal limit (omega (arith, size, h.longer, room))))
        | inr t ↦
            (let e : limited limit more d ≡ emptied d = over_limit limit more d t.1 in
            ap (λ x. (ended (closed opt x) aa rcode).bytes) e
            ∙ cut_octets m (emptied d) aa rcode scope s.id s.rd (drops_none m d s h.emptied)
            ∙ sym (cut_wire goal limit (omega (arith, size, h.longer, room))))
      ]
    ]

-- what the query told stays where records are dropped
kept_edns : (fits : Bool) (d : Draft) → (if fits then d else emptied d).edns ≡ d.edns
kept_edns true d = refl
kept_edns false d = refl

pub limited_edns : (limit more : ℕ) (d : Draft) → (limited limit more d).edns ≡ d.edns
limited_edns limit more d = kept_edns (nat_le (length d.bytes + more) limit) d
