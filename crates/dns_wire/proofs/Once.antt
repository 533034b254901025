-- A message is read as one reply.
use Rattle.std.proofs.Common.{ap₂, length-take, get_or-drop, ◌≡◌, ℕ, suc, ◌+◌, ◌*◌, ◌/◌, ◌%◌, List, [], ◌∷◌, ◌++◌, length, map, take, drop, get_or, ap, ◌∙◌, sym, refl, subst, arith, inl, inr, Bool}
use Rattle.std.specs.Prelude.{◌⊎◌, ◌==◌, Option, None, Some, if◌then◌else◌}
use Rattle.std.specs.Char.{to_ascii_lowercase}
use Rattle.std.proofs.lemmas.List.{take_at, drop_at}
use Rattle.octets.specs.Numbers.{number_at}
use Rattle.rdata_layout.specs.Labels.{frame, wire as name_wire, IsRawLabel}
use Rattle.rdata_layout.specs.declared.types.RType.{RType}
use Rattle.rdata_layout.specs.declared.types.RType.TheVariants.{A, Ns, Cname, Soa, Ptr, Mx, Txt, Aaaa, Srv, Spf, Caa}
use Rattle.rdata_layout.specs.declared.fields.Field.{Field}
use Rattle.rdata_layout.specs.declared.fields.Field.TheVariants as field
use Rattle.rdata_layout.specs.Layout.{fields_of}
use Rattle.rdata_layout.specs.Types.{number_of}
use Rattle.dns_message.specs.Edns.{AreOptions, EdnsOption, dnssec_ok_of}
use Rattle.dns_message.specs.Laws.{OneListOfOptions, OneRecord}
use Rattle.dns_wire.specs.Laws.{OneReading}
use Rattle.dns_wire.specs.Message.{Message, Opt, Record, opt_count}
use Rattle.dns_wire.specs.Reading.{DataAt, FieldAt, FieldsAt, NameAt, OptAt, OptOrEnd, PlainAt, RecordAt, RecordsAt, StandsAt, lower_rcode_of, pointer_octets}
use Rattle.dns_wire.specs.Reading.NameAt.{ends, goes_on, points}

-- the type of a number
abbrev type_of : ℕ → RType
type_of n =
    if n == 1 then A
    else (if n == 2 then Ns
    else (if n == 5 then Cname else (if n == 6 then Soa else (if n == 12 then Ptr
    else (if n == 15 then Mx
    else (if n == 16 then Txt else (if n == 28 then Aaaa else (if n == 33 then Srv
    else (if n == 99 then Spf else Caa)))))))))

type_back : (rtype : RType) → type_of (number_of rtype) ≡ rtype
type_back A = refl
type_back Ns = refl
type_back Cname = refl
type_back Soa = refl
type_back Ptr = refl
type_back Mx = refl
type_back Txt = refl
type_back Aaaa = refl
type_back Srv = refl
type_back Spf = refl
type_back Caa = refl

one_number : (rtype other : RType) → number_of rtype ≡ number_of other → rtype ≡ other
one_number rtype other e = sym (type_back rtype) ∙ (ap type_of e ∙ type_back other)

-- no type of ours has the number of OPT
not_ours : (rtype : RType) → number_of rtype ≡ 41 → ⊥
not_ours A e = omega (arith, e)
not_ours Ns e = omega (arith, e)
not_ours Cname e = omega (arith, e)
not_ours Soa e = omega (arith, e)
not_ours Ptr e = omega (arith, e)
not_ours Mx e = omega (arith, e)
not_ours Txt e = omega (arith, e)
not_ours Aaaa e = omega (arith, e)
not_ours Srv e = omega (arith, e)
not_ours Spf e = omega (arith, e)
not_ours Caa e = omega (arith, e)

first_octet : (d : List ℕ) (x : ℕ) → take 1 d ≡ x ∷ [] → get_or d 0 0 ≡ x
first_octet [] x e = absurd (let z : 0 ≡ 1 = ap length e in omega (arith, z))
first_octet (y ∷ ys) x e = ap (λ l. get_or l 0 0) e

two_more : (place : ℕ) → place + 2 ≡ place + 1 + 1
two_more place = omega arith

abbrev opt_from : (size : ℕ) → Bool → List EdnsOption → Opt
opt_from size dnssec_ok options = record { size = size; dnssec_ok = dnssec_ok; options = options }

module _ (message : List ℕ) where
  from_place : (place : ℕ) (piece : List ℕ) (s : StandsAt message place piece)
      → drop place message ≡ piece ++ s.rest
  from_place place piece s = ap (λ m. drop place m) s.there
      ∙ drop_at s.front (piece ++ s.rest) place s.size

  same_piece : (place : ℕ) (a b : List ℕ) → length a ≡ length b → StandsAt message place a
      → StandsAt message place b → a ≡ b
  same_piece place a b e s t =
      sym (take_at a s.rest (length a) refl)
      ∙ (ap (λ l. take (length a) l) (sym (from_place place a s) ∙ from_place place b t)
      ∙ take_at b t.rest (length a) (sym e))

  same_first : (place x y : ℕ) (xs ys : List ℕ) → StandsAt message place (x ∷ xs)
      → StandsAt message place (y ∷ ys) → x ≡ y
  same_first place x y xs ys s t =
      ap (λ l. get_or l 0 0) (sym (from_place place (x ∷ xs) s) ∙ from_place place (y ∷ ys) t)

  same_target : (place target other : ℕ) → StandsAt message place (pointer_octets target)
      → StandsAt message place (pointer_octets other) → target ≡ other
  same_target place target other s t =
      let octets = same_piece place (pointer_octets target) (pointer_octets other) refl s t in
      let first : 192 + target / 256 ≡ 192 + other / 256 = ap (λ l. get_or l 0 0) octets in
      let second : target % 256 ≡ other % 256 = ap (λ l. get_or l 1 0) octets in
      omega (arith, first, second)

  same_label : (place : ℕ) (label other : List ℕ) → StandsAt message place (frame label)
      → StandsAt message place (frame other) → label ≡ other
  same_label place label other s t =
      let many : length label ≡ length other =
      same_first place (length label) (length other) label other s t in
      ap (λ l. drop 1 l) (same_piece place (frame label) (frame other) (omega (arith, many)) s t)

  -- ---- names

  -- the three ways in which a name stands at a place
  abbrev Step : (place : ℕ) → List (List ℕ) → (next : ℕ) → Type 0
  Step place labels next =
      ((labels ≡ []) × (next ≡ place + 1) × StandsAt message place (0 ∷ []))
      ⊎ ((label : List ℕ) × (rest : List (List ℕ)) × IsRawLabel label
      × StandsAt message place (frame label)
      × (labels ≡ map to_ascii_lowercase label ∷ rest)
      × NameAt message (place + length (frame label)) rest next)
      ⊎ ((target behind : ℕ) × StandsAt message place (pointer_octets target)
      × NameAt message target labels behind × (next ≡ place + 2))

  step_of : (place : ℕ) (labels : List (List ℕ)) (next : ℕ) → NameAt message place labels next
      → Step place labels next
  step_of _ _ _ (ends place s) = inl (refl, refl, s)
  step_of _ _ _ (goes_on place next label labels raw s name) =
      inr (inl (label, labels, raw, s, refl, name))
  step_of _ _ _ (points place target next labels lt s name) =
      inr (inr (target, next, s, name, refl))

  -- what stands at a place is the name that is known there
  abbrev Known : (place : ℕ) → List (List ℕ) → (next : ℕ) → Type 0
  Known place labels next = (other : List (List ℕ)) (other_next : ℕ)
      → NameAt message place other other_next → (labels ≡ other) × (next ≡ other_next)

  at_end : (place : ℕ) → StandsAt message place (0 ∷ []) → (other : List (List ℕ)) (other_next : ℕ)
      → Step place other other_next → ([] ≡ other) × (place + 1 ≡ other_next)
  at_end place s other other_next (inl (none, end, t)) = (sym none, sym end)
  at_end place s other other_next (inr (inl (label, rest, raw, t, e, more))) =
      let size = same_first place 0 (length label) [] label s t in
      let some = raw.filled in
      absurd (omega (arith, size, some))
  at_end place s other other_next (inr (inr (target, behind, t, more, e))) =
      let first = same_first place 0 (192 + target / 256) [] (target % 256 ∷ []) s t in
      absurd (omega (arith, first))

  at_label : (place next : ℕ) (label : List ℕ) (labels : List (List ℕ)) → IsRawLabel label
      → StandsAt message place (frame label) → Known (place + length (frame label)) labels next
      → (other : List (List ℕ)) (other_next : ℕ) → Step place other other_next
      → (map to_ascii_lowercase label ∷ labels ≡ other) × (next ≡ other_next)
  at_label place next label labels raw s known other other_next (inl (none, end, t)) =
      let size = same_first place (length label) 0 label [] s t in
      let some = raw.filled in
      absurd (omega (arith, size, some))
  at_label place next label labels raw s known other other_next
      (inr (inl (its_label, rest, its_raw, t, e, more))) =
      let same : label ≡ its_label = same_label place label its_label s t in
      let later =
      known rest other_next
      (subst (λ l. NameAt message (place + length (frame l)) rest other_next) (sym same) more)
      in (
        ap (λ l. map to_ascii_lowercase l ∷ labels) same
            ∙ (ap (λ ls. map to_ascii_lowercase its_label ∷ ls) later.0 ∙ sym e),
        later.1,
      )
  at_label place next label labels raw s known other other_next
      (inr (inr (target, behind, t, more, e))) =
      let first =
      same_first place (length label) (192 + target / 256) label (target % 256 ∷ []) s t in
      let short = raw.short in
      absurd (omega (arith, first, short))

  at_pointer : (place target next : ℕ) (labels : List (List ℕ))
      → StandsAt message place (pointer_octets target) → Known target labels next
      → (other : List (List ℕ)) (other_next : ℕ) → Step place other other_next
      → (labels ≡ other) × (place + 2 ≡ other_next)
  at_pointer place target next labels s known other other_next (inl (none, end, t)) =
      let first = same_first place (192 + target / 256) 0 (target % 256 ∷ []) [] s t in
      absurd (omega (arith, first))
  at_pointer place target next labels s known other other_next
      (inr (inl (label, rest, raw, t, e, more))) =
      let first =
      same_first place (192 + target / 256) (length label) (target % 256 ∷ []) label s t in
      let short = raw.short in
      absurd (omega (arith, first, short))
  at_pointer place target next labels s known other other_next
      (inr (inr (its_target, behind, t, more, e))) =
      let same : target ≡ its_target = same_target place target its_target s t in
      ((known other behind (subst (λ n. NameAt message n other behind) (sym same) more)).0, sym e)

  one_name : (place : ℕ) (labels : List (List ℕ)) (next : ℕ) → NameAt message place labels next
      → Known place labels next
  one_name _ _ _ (ends place s) other other_next name =
      at_end place s other other_next (step_of place other other_next name)
  one_name _ _ _ (goes_on place next label labels raw s more) other other_next name =
      at_label place next label labels raw s
      (one_name (place + length (frame label)) labels next more) other other_next
      (step_of place other other_next name)
  one_name _ _ _ (points place target next labels lt s more) other other_next name =
      at_pointer place target next labels s (one_name target labels next more) other other_next
      (step_of place other other_next name)

  -- ---- records

  sized : (place : ℕ) (a b : List ℕ) (next other : ℕ) → length a ≡ length b
      → PlainAt message place a next → PlainAt message place b other → (a ≡ b) × (next ≡ other)
  sized place a b next other e h g =
      (same_piece place a b e h.stands g.stands, h.size ∙ (ap (λ n. place + n) e ∙ sym g.size))

  one_field : (f : Field) (place : ℕ) (a b : List ℕ) (next other : ℕ)
      → FieldAt message f place a next → FieldAt message f place b other → (a ≡ b) × (next ≡ other)
  one_field field.Name place a b next other h g =
      let name = one_name place h.labels next h.name g.labels other g.name in
      (h.spelled ∙ (ap name_wire name.0 ∙ sym g.spelled), name.1)
  one_field field.Ipv4 place a b next other h g = sized place a b next other (h.0 ∙ sym g.0) h.1 g.1
  one_field field.Ipv6 place a b next other h g = sized place a b next other (h.0 ∙ sym g.0) h.1 g.1
  one_field field.Number8 place a b next other h g =
      sized place a b next other (h.0 ∙ sym g.0) h.1 g.1
  one_field field.Number16 place a b next other h g =
      sized place a b next other (h.0 ∙ sym g.0) h.1 g.1
  one_field field.Number32 place a b next other h g =
      sized place a b next other (h.0 ∙ sym g.0) h.1 g.1
  one_field field.Tag place a b next other (
    (tag, is_tag, spelled),
    plain,
  ) ((its_tag, its_is_tag, its_spelled), its_plain) =
      let many : length tag ≡ length its_tag =
      same_first place (length tag) (length its_tag) tag its_tag
      (subst (StandsAt message place) spelled plain.stands)
      (subst (StandsAt message place) its_spelled its_plain.stands) in
      sized place a b next other (ap length spelled
      ∙ (ap suc many ∙ sym (ap length its_spelled))) plain its_plain

  one_list : (fields : List Field) (place : ℕ) (a b : List ℕ) (end other : ℕ)
      → FieldsAt message fields place a end → FieldsAt message fields place b other → a ≡ b
  one_list [] place a b end other h g = h.0 ∙ sym g.0
  one_list (f ∷ fields) place a b end other (piece, rest, next, at, spelled, more) (
    its_piece,
    its_rest,
    its_next,
    its_at,
    its_spelled,
    its_more,
  ) =
      let first = one_field f place piece its_piece next its_next at its_at in
      let later : rest ≡ its_rest =
      one_list fields next rest its_rest end other more
      (subst (λ n. FieldsAt message fields n its_rest other) (sym first.1) its_more) in
      spelled ∙ (ap (λ p. p ++ rest) first.0 ∙ (ap (λ r. its_piece ++ r) later ∙ sym its_spelled))

  plain : (place : ℕ) (a b : List ℕ) (end : ℕ) → PlainAt message place a end
      → PlainAt message place b end → a ≡ b
  plain place a b end h g =
      let here = h.size in
      let there = g.size in
      same_piece place a b (omega (arith, here, there)) h.stands g.stands

  one_data : (rtype : RType) (place : ℕ) (a b : List ℕ) (end : ℕ) → DataAt message rtype place a end
      → DataAt message rtype place b end → a ≡ b
  one_data A place a b end h g = plain place a b end h g
  one_data Ns place a b end h g = one_list (fields_of Ns) place a b end end h g
  one_data Cname place a b end h g = one_list (fields_of Cname) place a b end end h g
  one_data Soa place a b end h g = one_list (fields_of Soa) place a b end end h g
  one_data Ptr place a b end h g = one_list (fields_of Ptr) place a b end end h g
  one_data Mx place a b end h g = one_list (fields_of Mx) place a b end end h g
  one_data Txt place a b end h g = plain place a b end h g
  one_data Aaaa place a b end h g = plain place a b end h g
  one_data Srv place a b end h g = plain place a b end h g
  one_data Spf place a b end h g = plain place a b end h g
  one_data Caa place a b end h g = plain place a b end h g

  -- a record whose owner ends at a place
  record Tail (behind : ℕ) (r : Record) (next : ℕ) : Type 0 where
    rtype : number_at message behind ≡ number_of r.rtype
    ttl : number_at message (behind + 4) * 65536 + number_at message (behind + 6) ≡ r.ttl
    rdlength : next ≡ behind + 10 + number_at message (behind + 8)
    rdata : DataAt message r.rtype (behind + 10) r.rdata next

  tail_of : (place : ℕ) (r : Record) (next : ℕ) (h : RecordAt message place r next)
      → Tail h.behind r next
  tail_of place r next h =
      record { rtype = h.rtype; ttl = h.ttl; rdlength = h.rdlength; rdata = h.rdata }

  abbrev record_of : List (List ℕ) → RType → (ttl : ℕ) → List ℕ → Record
  record_of owner rtype ttl rdata =
      record { owner = owner; rtype = rtype; ttl = ttl; rdata = rdata }

  same_record : (behind : ℕ) (r q : Record) (next other : ℕ) → r.owner ≡ q.owner
      → Tail behind r next → Tail behind q other → (r ≡ q) × (next ≡ other)
  same_record behind r q next other owner h g = (
    ap (λ o. record_of o r.rtype r.ttl r.rdata) owner
        ∙ (ap (λ t. record_of q.owner t r.ttl r.rdata) rtype
        ∙ (ap (λ n. record_of q.owner q.rtype n r.rdata) (sym h.ttl ∙ g.ttl)
        ∙ ap (λ d. record_of q.owner q.rtype q.ttl d) rdata)),
    end,
  )
    where
      end : next ≡ other
      end = h.rdlength ∙ sym g.rdlength

      rtype : r.rtype ≡ q.rtype
      rtype = one_number r.rtype q.rtype (sym h.rtype ∙ g.rtype)

      rdata : r.rdata ≡ q.rdata
      rdata =
          one_data q.rtype (behind + 10) r.rdata q.rdata other
          (subst (λ n. DataAt message q.rtype (behind + 10) r.rdata n) end
          (subst (λ t. DataAt message t (behind + 10) r.rdata next) rtype h.rdata)) g.rdata

  one_record : (place : ℕ) (r q : Record) (next other : ℕ) → RecordAt message place r next
      → RecordAt message place q other → (r ≡ q) × (next ≡ other)
  one_record place r q next other h g =
      let name = one_name place r.owner h.behind h.owner q.owner g.behind g.owner in
      same_record h.behind r q next other name.0 (tail_of place r next h)
      (subst (λ n. Tail n q other) (sym name.1) (tail_of place q other g))

  one_section : (place : ℕ) (rs qs : List Record) (end other : ℕ) → length rs ≡ length qs
      → RecordsAt message place rs end → RecordsAt message place qs other
      → (rs ≡ qs) × (end ≡ other)
  one_section place [] [] end other many h g = (refl, h ∙ sym g)
  one_section place [] (q ∷ qs) end other many h g = absurd (omega (arith, many))
  one_section place (r ∷ rs) [] end other many h g = absurd (omega (arith, many))
  one_section place (r ∷ rs) (q ∷ qs) end other many (next, at, more) (its_next, its_at, its_more) =
      let first = one_record place r q next its_next at its_at in
      let later =
      one_section next rs qs end other (omega (arith, many)) more
      (subst (λ n. RecordsAt message n qs other) (sym first.1) its_more) in
      (ap (λ x. x ∷ rs) first.0 ∙ ap (λ xs. q ∷ xs) later.0, later.1)

  -- ---- the OPT record

  -- where one section has one record more, that stands where the other ends
  one_beyond : (place : ℕ) (rs qs : List Record) (end other : ℕ) → length qs ≡ length rs + 1
      → RecordsAt message place rs end → RecordsAt message place qs other
      → (q : Record) × (next : ℕ) × RecordAt message end q next
  one_beyond place rs [] end other many h g = absurd (omega (arith, many))
  one_beyond place [] (q ∷ qs) end other many h (next, at, more) =
      (q, next, subst (λ p. RecordAt message p q next) (sym h) at)
  one_beyond place (r ∷ rs) (q ∷ qs) end other many (next, at, more) (its_next, its_at, its_more) =
      let first = one_record place r q next its_next at its_at in
      one_beyond next rs qs end other (omega (arith, many)) more
      (subst (λ n. RecordsAt message n qs other) (sym first.1) its_more)

  -- a name that begins with a zero octet ends behind it
  root_ends : (place : ℕ) (labels : List (List ℕ)) (next : ℕ) → get_or (drop place message) 0 0 ≡ 0
      → Step place labels next → next ≡ place + 1
  root_ends place labels next zero (inl (none, end, t)) = end
  root_ends place labels next zero (inr (inl (label, rest, raw, t, e, more))) =
      let head : get_or (drop place message) 0 0 ≡ length label =
      ap (λ l. get_or l 0 0) (from_place place (frame label) t) in
      let some = raw.filled in
      absurd (omega (arith, head, zero, some))
  root_ends place labels next zero (inr (inr (target, behind, t, more, e))) =
      let head : get_or (drop place message) 0 0 ≡ 192 + target / 256 =
      ap (λ l. get_or l 0 0) (from_place place (pointer_octets target) t) in
      absurd (omega (arith, head, zero))

  -- no record of a type of ours stands where an OPT record does
  never_both : (place : ℕ) (opt : Opt) (upper : ℕ) (q : Record) (next : ℕ) → OptAt message place opt upper
      → RecordAt message place q next → ⊥
  never_both place opt upper q next o h =
      let d = drop place message in
      let owner : take o.there.owner_len d ≡ 0 ∷ [] = sym (ap (λ r. r.owner) o.there.fields) ∙ o.owner in
      let len : o.there.owner_len ≡ 1 =
      omega (arith, ap length owner, length-take o.there.owner_len d, o.there.sized, o.there.whole) in
      let root : take 1 d ≡ 0 ∷ [] = ap (λ n. take n d) (sym len) ∙ owner in
      let zero : get_or d 0 0 ≡ 0 = first_octet d 0 root in
      let behind : h.behind ≡ place + 1 =
      root_ends place q.owner h.behind zero (step_of place q.owner h.behind h.owner) in
      let there : number_at d 1 ≡ 41 =
      ap (number_at d) (sym len) ∙ sym (ap (λ r. r.rtype) o.there.fields) ∙ o.rtype in
      let here : number_at message (place + 1) ≡ number_of q.rtype =
      ap (number_at message) (sym behind) ∙ h.rtype in
      let same : number_at d 1 ≡ number_at message (place + 1) =
      ap₂ (λ a b. a * 256 + b) (get_or-drop place message 1 0)
      (get_or-drop place message 2 0 ∙ ap (λ i. get_or message i 0) (two_more place)) in
      not_ours q.rtype (sym here ∙ sym same ∙ there)

  module _ (one_there : OneRecord) (one_list_there : OneListOfOptions) where
    one_opt : (place upper other_upper : ℕ) (a b : Opt) → OptAt message place a upper
        → OptAt message place b other_upper → (a ≡ b) × (upper ≡ other_upper)
    one_opt place upper other_upper a b h g =
        let same = (one_there (drop place message) h.as_record g.as_record h.size g.size h.there g.there).0 in
        let size : a.size ≡ b.size = sym h.payload ∙ ap (λ r. r.class) same ∙ g.payload in
        let flag : a.dnssec_ok ≡ b.dnssec_ok = sym h.dnssec_ok ∙ ap dnssec_ok_of same ∙ g.dnssec_ok in
        let options : a.options ≡ b.options =
        one_list_there h.as_record.rdata a.options b.options h.options
        (subst (λ r. AreOptions r.rdata b.options) (sym same) g.options) in (
          ap (λ n. opt_from n a.dnssec_ok a.options) size ∙ (ap (λ f. opt_from b.size f a.options) flag
              ∙ ap (opt_from b.size b.dnssec_ok) options),
          sym h.upper_is ∙ ap (λ r. r.ttl / 16777216) same ∙ g.upper_is,
        )

    -- The additional section and the OPT record together, of which the numbers are one.
    one_rest : (place end other upper other_upper : ℕ) (rs qs : List Record) (a b : Option Opt)
        → length rs + opt_count a ≡ length qs + opt_count b
        → RecordsAt message place rs end → RecordsAt message place qs other
        → OptOrEnd message end a upper → OptOrEnd message other b other_upper
        → (rs ≡ qs) × (a ≡ b) × (upper ≡ other_upper)
    one_rest place end other upper other_upper rs qs None None many h g o p =
        let section = one_section place rs qs end other (omega (arith, many)) h g in
        (section.0, refl, o.1 ∙ sym p.1)
    one_rest place end other upper other_upper rs qs None (Some b) many h g o p =
        let beyond = one_beyond place qs rs other end (omega (arith, many)) g h in
        absurd (never_both other b other_upper beyond.0 beyond.1 p beyond.2)
    one_rest place end other upper other_upper rs qs (Some a) None many h g o p =
        let beyond = one_beyond place rs qs end other (omega (arith, many)) h g in
        absurd (never_both end a upper beyond.0 beyond.1 o beyond.2)
    one_rest place end other upper other_upper rs qs (Some a) (Some b) many h g o p =
        let section = one_section place rs qs end other (omega (arith, many)) h g in
        let opt = one_opt end upper other_upper a b o
        (subst (λ n. OptAt message n b other_upper) (sym section.1) p) in
        (section.0, ap Some opt.0, opt.1)

-- ---- the whole message

abbrev message_of : (id : ℕ) (aa rd : Bool) (rcode : ℕ) → List (List ℕ) → List ℕ
    → (answers authorities additionals : List Record) → Option Opt → Message
message_of id aa rd rcode name question answers authorities additionals opt =
    record {
      id = id;
      aa = aa;
      rd = rd;
      rcode = rcode;
      name = name;
      question = question;
      answers =
          answers;
      authorities = authorities;
      additionals = additionals;
      opt = opt;
    }

pub one_reading : OneRecord → OneListOfOptions → OneReading
one_reading one_there one_list_there message truncated other_truncated m n h g = (sym h.tc ∙ g.tc, whole)
  where
    names : (m.name ≡ n.name) × (h.name_end ≡ g.name_end)
    names = one_name message 12 m.name h.name_end h.name n.name g.name_end g.name

    as_long : length m.question ≡ length n.question
    as_long = let here = h.type_and_class in let there = g.type_and_class in let end = names.1 in
        omega (arith, here, there, end)

    question : m.question ≡ n.question
    question = same_piece message 12 m.question n.question as_long h.question g.question

    answers : (m.answers ≡ n.answers) × (h.answers_end ≡ g.answers_end)
    answers =
        one_section message (12 + length m.question) m.answers n.answers h.answers_end g.answers_end
        (sym h.answer_count ∙ g.answer_count) h.answers
        (subst (λ k. RecordsAt message (12 + k) n.answers g.answers_end) (sym as_long) g.answers)

    authorities : (m.authorities ≡ n.authorities) × (h.authorities_end ≡ g.authorities_end)
    authorities =
        one_section message h.answers_end m.authorities n.authorities h.authorities_end
        g.authorities_end (sym h.authority_count ∙ g.authority_count) h.authorities
        (subst (λ k. RecordsAt message k n.authorities g.authorities_end) (sym answers.1)
        g.authorities)

    rest : (m.additionals ≡ n.additionals) × (m.opt ≡ n.opt) × (h.upper ≡ g.upper)
    rest =
        one_rest message one_there one_list_there h.authorities_end h.additionals_end g.additionals_end
        h.upper g.upper m.additionals n.additionals m.opt n.opt
        (sym h.additional_count ∙ g.additional_count) h.additionals
        (subst (λ k. RecordsAt message k n.additionals g.additionals_end) (sym authorities.1)
        g.additionals) h.opt g.opt

    rcode : m.rcode ≡ n.rcode
    rcode = h.rcode ∙ ap (λ u. u * 16 + lower_rcode_of message) rest.2 ∙ sym g.rcode

    whole : m ≡ n
    whole =
        ap (λ x. message_of x m.aa m.rd m.rcode m.name m.question m.answers m.authorities
        m.additionals m.opt) (sym h.id ∙ g.id)
        ∙ (ap (λ x. message_of n.id x m.rd m.rcode m.name m.question m.answers m.authorities
        m.additionals m.opt) (sym h.aa ∙ g.aa)
        ∙ (ap (λ x. message_of n.id n.aa x m.rcode m.name m.question m.answers m.authorities
        m.additionals m.opt) (sym h.rd ∙ g.rd)
        ∙ (ap (λ x. message_of n.id n.aa n.rd x m.name m.question m.answers m.authorities
        m.additionals m.opt) rcode
        ∙ (ap (λ x. message_of n.id n.aa n.rd n.rcode x m.question m.answers m.authorities
        m.additionals m.opt) names.0
        ∙ (ap (λ x. message_of n.id n.aa n.rd n.rcode n.name x m.answers m.authorities
        m.additionals m.opt) question
        ∙ (ap (λ x. message_of n.id n.aa n.rd n.rcode n.name n.question x m.authorities
        m.additionals m.opt) answers.0
        ∙ (ap (λ x. message_of n.id n.aa n.rd n.rcode n.name n.question n.answers x
        m.additionals m.opt) authorities.0
        ∙ (ap (λ x. message_of n.id n.aa n.rd n.rcode n.name n.question n.answers n.authorities x
        m.opt) rest.0
        ∙ ap (λ x. message_of n.id n.aa n.rd n.rcode n.name n.question n.answers n.authorities
        n.additionals x) rest.1))))))))
