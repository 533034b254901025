-- What is written is read as it was meant.
use Rattle.std.proofs.Common.{◌≡◌, ℕ, ◌+◌, ◌*◌, ◌/◌, ◌%◌, ◌<◌, ◌≤◌, List, [], ◌∷◌, ◌++◌, length, map, take, drop, get_or, ap, ◌∙◌, sym, refl, subst, append_assoc, append-nil, arith, length-append, Bool, true, false, Option, Some, None, if◌then◌else◌}
use Rattle.std.specs.List.{flat_map, AllByRecursion}
use Rattle.std.specs.Char.{to_ascii_lowercase}
use Rattle.std.proofs.lemmas.List.{take_at, drop_at, get_or-append-add, length-map}
use Rattle.std.proofs.Math.ListN.{get_or-append}
use Rattle.std.specs.Prelude.{◌==◌}
use Rattle.std.proofs.lemmas.Grind.{flat_map-append}
use Rattle.octets.specs.Numbers.{number_at}
use Rattle.rdata_layout.specs.Labels.{frame, wire as name_wire, lowered, IsRawLabel}
use Rattle.rdata_layout.specs.Order.{same_labels}
use Rattle.rdata_layout.specs.OrderLaws.{same_labels-Decides}
use Rattle.rdata_layout.specs.Stored.{labels_of, IsLowerLabel}
use Rattle.rdata_layout.proofs.Labels.{labels_of-wire}
use Rattle.rdata_layout.specs.declared.types.RType.{RType}
use Rattle.rdata_layout.specs.declared.types.RType.TheVariants.{A, Ns, Cname, Soa, Ptr, Mx, Txt, Aaaa, Srv, Spf, Caa}
use Rattle.rdata_layout.specs.declared.fields.Field.{Field}
use Rattle.rdata_layout.specs.declared.fields.Field.TheVariants as field
use Rattle.rdata_layout.specs.declared.fields.Tail.TheVariants as tail
use Rattle.rdata_layout.specs.Fields.{IsField}
use Rattle.rdata_layout.specs.Layout.{AreFields, IsLayout, fields_of}
use Rattle.rdata_layout.specs.Types.{number_of}
use Rattle.dns_wire.specs.Data.{data_octets, field_octets, fields_octets}
use Rattle.rdata_layout.specs.Fields.{field_size}
use Rattle.dns_wire.specs.Header.{FitsRcode, bit_of, header_octets}
use Rattle.dns_message.specs.Question.{IsQuestion}
use Rattle.dns_wire.specs.Laws.{CutRepliesRead, IsProper, WholeRepliesRead}
use Rattle.dns_wire.specs.Message.{Message, Opt, Record, fixed_octets, header_of, octets_of, opt_count, opt_octets, record_octets, records_octets, records_of, without_records}
use Rattle.dns_wire.specs.Pointers.{as_pointer, name_octets, place_in, pointer_to}
use Rattle.dns_wire.specs.Reading.{DataAt, FieldAt, FieldsAt, NameAt, OptOrEnd, Reads, RecordAt, RecordsAt, StandsAt, pointer_octets}
use Rattle.dns_wire.specs.Reading.NameAt.{ends, goes_on, points}
use Rattle.dns_wire.proofs.Drafts.{cut_wire, whole_wire}
use Rattle.dns_wire.proofs.OptRecord.{opt_at}
use Rattle.dns_wire.proofs.Fields.{size_is}

-- Pieces of what stands at a place.
stands_first : (message : List ℕ) (place : ℕ) (a b : List ℕ) → StandsAt message place (a ++ b)
    → StandsAt message place a
stands_first message place a b s =
    record {
      front = s.front;
      rest = b ++ s.rest;
      size = s.size;
      there = s.there
          ∙ ap (λ t. s.front ++ t) (append_assoc a b s.rest);
    }

stands_second : (message : List ℕ) (place : ℕ) (a b : List ℕ) → StandsAt message place (a ++ b)
    → StandsAt message (place + length a) b
stands_second message place a b s = record {
  front = s.front ++ a;
  rest = s.rest;
  size = omega (arith, length-append s.front a, s.size);
  there = s.there ∙ ap (λ t. s.front ++ t) (append_assoc a b s.rest)
      ∙ sym (append_assoc s.front a (b ++ s.rest));
}

-- A name without pointers stands as what it is in lower case.
whole_at : (message : List ℕ) (raw : List (List ℕ)) (place : ℕ) → AllByRecursion IsRawLabel raw
    → StandsAt message place (name_wire raw)
    → NameAt message place (lowered raw) (place + length (name_wire raw))
whole_at message [] place h s = ends place s
whole_at message (l ∷ ls) place h s =
    let group : name_wire (l ∷ ls) ≡ frame l ++ name_wire ls =
    append_assoc (frame l) (flat_map frame ls) (0 ∷ []) in
    let t : StandsAt message place (frame l ++ name_wire ls) = subst (StandsAt message place) group s in
    let rest : NameAt message (place + length (frame l)) (lowered ls)
    (place + length (frame l) + length (name_wire ls)) =
    whole_at message ls (place + length (frame l)) h.1
    (stands_second message place (frame l) (name_wire ls) t) in
    let end : place + length (frame l) + length (name_wire ls)
    ≡ place + length (name_wire (l ∷ ls)) =
    omega (arith, ap length group, length-append (frame l) (name_wire ls)) in
    subst (NameAt message place (lowered (l ∷ ls))) end
    (goes_on place _ l (lowered ls) h.0 (stands_first message place (frame l) (name_wire ls) t)
    rest)

-- A place that was found within a name: a name of these labels is read there.
record SuffixAt (message : List ℕ) (labels : List (List ℕ)) (start end place : ℕ) : Type 0 where
  above : place < end
  next : ℕ
  name : NameAt message place labels next

some_octet : (raw : List (List ℕ)) → 0 < length (name_wire raw)
some_octet raw = omega (arith, length-append (flat_map frame raw) (0 ∷ []))

suffix_case : (message : List ℕ) (x : List ℕ) (xs labels : List (List ℕ)) (start place : ℕ)
    → AllByRecursion IsRawLabel (x ∷ xs) → StandsAt message start (name_wire (x ∷ xs)) → (same : Bool)
    → same_labels labels (lowered (x ∷ xs)) ≡ same
    → (if same then Some start
    else place_in (start + (length (map to_ascii_lowercase x) + 1)) (lowered xs) labels)
    ≡ Some place
    → (StandsAt message (start + length (frame x)) (name_wire xs)
    → place_in (start + length (frame x)) (lowered xs) labels ≡ Some place
    → SuffixAt message labels (start + length (frame x))
    (start + length (frame x) + length (name_wire xs)) place)
    → SuffixAt message labels start (start + length (name_wire (x ∷ xs))) place
suffix_case message x xs labels start place h s true same e later =
    let here : start ≡ place = cc in
    let is : labels ≡ lowered (x ∷ xs) = (same_labels-Decides labels (lowered (x ∷ xs))).0 same in
    let name =
    subst (λ ls. NameAt message start ls (start + length (name_wire (x ∷ xs)))) (sym is)
    (whole_at message (x ∷ xs) start h s) in
    record {
      above = omega (arith, some_octet (x ∷ xs));
      next = start + length (name_wire (x ∷ xs));
      name = subst (λ p. NameAt message p labels (start + length (name_wire (x ∷ xs)))) here name;
    }
suffix_case message x xs labels start place h s false same e later =
    let group : name_wire (x ∷ xs) ≡ frame x ++ name_wire xs =
    append_assoc (frame x) (flat_map frame xs) (0 ∷ []) in
    let step : start + (length (map to_ascii_lowercase x) + 1) ≡ start + length (frame x) =
    omega (arith, length-map x to_ascii_lowercase) in
    let found : place_in (start + length (frame x)) (lowered xs) labels ≡ Some place =
    ap (λ p. place_in p (lowered xs) labels) (sym step) ∙ e in
    let r = later
    (stands_second message start (frame x) (name_wire xs)
    (subst (StandsAt message start) group s)) found in
    record {
      above = omega (arith, r.above, ap length group, length-append (frame x) (name_wire xs));
      next = r.next;
      name = r.name;
    }

suffix_at : (message : List ℕ) (raw labels : List (List ℕ)) (start place : ℕ)
    → AllByRecursion IsRawLabel raw → StandsAt message start (name_wire raw)
    → place_in start (lowered raw) labels ≡ Some place
    → SuffixAt message labels start (start + length (name_wire raw)) place
suffix_at message [] labels start place h s e = absurd (cc)
suffix_at message (x ∷ xs) labels start place h s e =
    suffix_case message x xs labels start place h s (same_labels labels (lowered (x ∷ xs))) refl e
    (λ t f. suffix_at message xs labels (start + length (frame x)) place h.1 t f)

pointer_is : (place : ℕ) → pointer_to place ≡ pointer_octets place
pointer_is place =
    let high : (0xC000 + place) / 256 ≡ 192 + place / 256 = omega arith in
    let low : (0xC000 + place) % 256 ≡ place % 256 = omega arith in
    cc

-- fields by the first
split_field : (name : List (List ℕ)) (kind : Field) (fields : List Field)
    (octets piece rest : List ℕ) → IsField kind piece → octets ≡ piece ++ rest
    → fields_octets name (kind ∷ fields) octets ≡ field_octets name kind piece
    ++ fields_octets name fields rest
split_field name kind fields octets piece rest f e =
    let front : take (length piece) octets ≡ piece = ap (take (length piece)) e
    ∙ take_at piece rest (length piece) refl in
    let back : drop (length piece) octets ≡ rest = ap (drop (length piece)) e
    ∙ drop_at piece rest (length piece) refl in
    let size : length piece ≡ field_size kind octets =
    size_is kind octets (length piece) (omega (arith, ap length e, length-append piece rest))
    (subst (IsField kind) (sym front) f) in
    ap (λ k. field_octets name kind (take k octets) ++ fields_octets name fields (drop k octets))
    (sym size)
    ∙ ap (λ p. field_octets name kind p ++ fields_octets name fields (drop (length piece) octets))
    front
    ∙ ap (λ r. field_octets name kind piece ++ fields_octets name fields r) back

-- octets and numbers within a piece
octet_in : (message : List ℕ) (place : ℕ) (piece : List ℕ) (k : ℕ) → StandsAt message place piece
    → k < length piece → get_or message (place + k) 0 ≡ get_or piece k 0
octet_in message place piece k s h =
    ap (λ t. get_or t (place + k) 0) s.there
    ∙ ap (λ p. get_or (s.front ++ (piece ++ s.rest)) (p + k) 0) (sym s.size)
    ∙ get_or-append-add s.front (piece ++ s.rest) k 0
    ∙ get_or-append piece s.rest 0 k h

number_in : (message : List ℕ) (place : ℕ) (piece : List ℕ) (k : ℕ) → StandsAt message place piece
    → k + 1 < length piece → number_at message (place + k) ≡ number_at piece k
number_in message place piece k s h =
    let sum : place + k + 1 ≡ place + (k + 1) = omega arith in
    let a = octet_in message place piece k s (omega arith) in
    let b : get_or message (place + k + 1) 0 ≡ get_or piece (k + 1) 0 =
    ap (λ i. get_or message i 0) sum ∙ octet_in message place piece (k + 1) s h in
    cc

two_back : (n : ℕ) → n / 256 * 256 + n % 256 ≡ n
two_back n = omega arith

four_back : (n : ℕ)
    → (n / 16777216 * 256 + n / 65536 % 256) * 65536 + (n / 256 % 256 * 256 + n % 256) ≡ n
four_back n = omega arith

-- the third octet of a header
abbrev flags : (aa tc rd : Bool) → ℕ
flags aa tc rd = 128 + 8 * 0 + 4 * bit_of aa + 2 * bit_of tc + bit_of rd

record FlagsRead (aa tc rd : Bool) : Type 0 where
  response : flags aa tc rd / 128 ≡ 1
  opcode : flags aa tc rd / 8 % 16 ≡ 0
  aa_is : (flags aa tc rd / 4 % 2 == 1) ≡ aa
  tc_is : (flags aa tc rd / 2 % 2 == 1) ≡ tc
  rd_is : (flags aa tc rd % 2 == 1) ≡ rd

flags_read : (aa tc rd : Bool) → FlagsRead aa tc rd
flags_read true true true =
    record { response = refl; opcode = refl; aa_is = refl; tc_is = refl; rd_is = refl }
flags_read true true false =
    record { response = refl; opcode = refl; aa_is = refl; tc_is = refl; rd_is = refl }
flags_read true false true =
    record { response = refl; opcode = refl; aa_is = refl; tc_is = refl; rd_is = refl }
flags_read true false false =
    record { response = refl; opcode = refl; aa_is = refl; tc_is = refl; rd_is = refl }
flags_read false true true =
    record { response = refl; opcode = refl; aa_is = refl; tc_is = refl; rd_is = refl }
flags_read false true false =
    record { response = refl; opcode = refl; aa_is = refl; tc_is = refl; rd_is = refl }
flags_read false false true =
    record { response = refl; opcode = refl; aa_is = refl; tc_is = refl; rd_is = refl }
flags_read false false false =
    record { response = refl; opcode = refl; aa_is = refl; tc_is = refl; rd_is = refl }

all_front : (xs ys : List Record) → AllByRecursion IsProper (xs ++ ys) → AllByRecursion IsProper xs
all_front [] ys h = tt
all_front (x ∷ xs) ys h = (h.0, all_front xs ys h.1)

all_back : (xs ys : List Record) → AllByRecursion IsProper (xs ++ ys) → AllByRecursion IsProper ys
all_back [] ys h = h
all_back (x ∷ xs) ys h = all_back xs ys h.1

-- The question's name stands at 12, and all that is read stands behind it.
module _ (message : List ℕ) (raw : List (List ℕ)) (each : AllByRecursion IsRawLabel raw)
    (asked : StandsAt message 12 (name_wire raw)) where
  name_case : (l : List ℕ) (ls : List (List ℕ)) (place : ℕ) → 12 + length (name_wire raw) ≤ place
      → IsRawLabel l → IsLowerLabel l → (o : Option ℕ) → place_in 12 (lowered raw) (l ∷ ls) ≡ o
      → StandsAt message place (as_pointer o (frame l ++ name_octets (lowered raw) ls))
      → (StandsAt message (place + length (frame l)) (name_octets (lowered raw) ls)
      → NameAt message (place + length (frame l)) ls
      (place + length (frame l) + length (name_octets (lowered raw) ls)))
      → NameAt message place (l ∷ ls)
      (place + length (as_pointer o (frame l ++ name_octets (lowered raw) ls)))
  name_case l ls place after is_raw lower None e s rest =
      let tail = name_octets (lowered raw) ls in
      let end : place + length (frame l) + length tail ≡ place + length (frame l ++ tail) =
      omega (arith, length-append (frame l) tail) in
      let name =
      goes_on place _ l ls is_raw (stands_first message place (frame l) tail s)
      (rest (stands_second message place (frame l) tail s)) in
      subst (λ n. NameAt message place (l ∷ ls) n) end
      (subst (λ first. NameAt message place (first ∷ ls)
      (place + length (frame l) + length tail)) lower name)
  name_case l ls place after is_raw lower (Some target) e s rest =
      let t = suffix_at message raw (l ∷ ls) 12 target each asked e in
      points place target t.next (l ∷ ls) (omega (arith, t.above))
      (subst (StandsAt message place) (pointer_is target) s) t.name

  pub name_at : (labels : List (List ℕ)) (place : ℕ) → 12 + length (name_wire raw) ≤ place
      → AllByRecursion IsRawLabel labels → AllByRecursion IsLowerLabel labels
      → StandsAt message place (name_octets (lowered raw) labels)
      → NameAt message place labels (place + length (name_octets (lowered raw) labels))
  name_at [] place after h k s = ends place s
  name_at (l ∷ ls) place after h k s =
      name_case l ls place after h.0 k.0 (place_in 12 (lowered raw) (l ∷ ls)) refl s
      (λ t. name_at ls (place + length (frame l)) (omega arith) h.1 k.1 t)

  field_at : (kind : Field) (piece : List ℕ) (place : ℕ) → 12 + length (name_wire raw) ≤ place
      → IsField kind piece → StandsAt message place (field_octets (lowered raw) kind piece)
      → FieldAt message kind place piece (place + length (field_octets (lowered raw) kind piece))
  field_at field.Name piece place after f s =
      let labels : labels_of piece ≡ f.0 = ap labels_of (f.2 ∙ sym (append-nil (name_wire f.0)))
      ∙ labels_of-wire f.0 [] f.1.raw.each in
      let name =
      name_at f.0 place after f.1.raw.each f.1.lower
      (subst (λ ls. StandsAt message place (name_octets (lowered raw) ls)) labels s) in
      record {
        labels = f.0;
        name = subst
            (λ ls. NameAt message place f.0 (place + length (name_octets (lowered raw) ls)))
            (sym labels) name;
        spelled = f.2;
      }
  field_at field.Ipv4 piece place after f s = (f, record { stands = s; size = refl })
  field_at field.Ipv6 piece place after f s = (f, record { stands = s; size = refl })
  field_at field.Number8 piece place after f s = (f, record { stands = s; size = refl })
  field_at field.Number16 piece place after f s = (f, record { stands = s; size = refl })
  field_at field.Number32 piece place after f s = (f, record { stands = s; size = refl })
  field_at field.Tag piece place after f s = (f, record { stands = s; size = refl })

  fields_at : (fields : List Field) (octets : List ℕ) (place : ℕ)
      → 12 + length (name_wire raw) ≤ place → AreFields fields tail.Nothing octets
      → StandsAt message place (fields_octets (lowered raw) fields octets)
      → FieldsAt message fields place octets
      (place + length (fields_octets (lowered raw) fields octets))
  fields_at [] octets place after are s = (are, omega (arith, ap length are))
  fields_at (kind ∷ fields) octets place after are s =
      let first = field_octets (lowered raw) kind are.0 in
      let others = fields_octets (lowered raw) fields are.1 in
      let split = split_field (lowered raw) kind fields octets are.0 are.1 are.2 are.3 in
      let t : StandsAt message place (first ++ others) = subst (StandsAt message place) split s in
      let later =
      fields_at fields are.1 (place + length first) (omega arith) are.4
      (stands_second message place first others t) in
      let end : place + length first + length others
      ≡ place + length (fields_octets (lowered raw) (kind ∷ fields) octets) =
      omega (arith, ap length split, length-append first others) in (
        are.0,
        are.1,
        place + length first,
        field_at kind are.0 place after are.2 (stands_first message place first others t),
        are.3,
        subst (λ n. FieldsAt message fields (place + length first) are.1 n) end later,
      )

  data_at : (rtype : RType) (octets : List ℕ) (place : ℕ) → 12 + length (name_wire raw) ≤ place
      → IsLayout rtype octets → StandsAt message place (data_octets (lowered raw) rtype octets)
      → DataAt message rtype place octets (place + length (data_octets (lowered raw) rtype octets))
  data_at A octets place after h s = record { stands = s; size = refl }
  data_at Ns octets place after h s = fields_at (fields_of Ns) octets place after h.fields s
  data_at Cname octets place after h s = fields_at (fields_of Cname) octets place after h.fields s
  data_at Soa octets place after h s = fields_at (fields_of Soa) octets place after h.fields s
  data_at Ptr octets place after h s = fields_at (fields_of Ptr) octets place after h.fields s
  data_at Mx octets place after h s = fields_at (fields_of Mx) octets place after h.fields s
  data_at Txt octets place after h s = record { stands = s; size = refl }
  data_at Aaaa octets place after h s = record { stands = s; size = refl }
  data_at Srv octets place after h s = record { stands = s; size = refl }
  data_at Spf octets place after h s = record { stands = s; size = refl }
  data_at Caa octets place after h s = record { stands = s; size = refl }

  record_at : (r : Record) (place : ℕ) → 12 + length (name_wire raw) ≤ place → IsProper r
      → StandsAt message place (record_octets (lowered raw) r)
      → RecordAt message place r (place + length (record_octets (lowered raw) r))
  record_at r place after h s =
      let owner = name_octets (lowered raw) r.owner in
      let rdata = data_octets (lowered raw) r.rtype r.rdata in
      let fixed = fixed_octets r.rtype r.ttl (length rdata) in
      let behind = place + length owner in
      let t : StandsAt message behind (fixed ++ rdata) =
      stands_second message place owner (fixed ++ rdata) s in
      let u : StandsAt message behind fixed = stands_first message behind fixed rdata t in
      let at_start : behind + 0 ≡ behind = omega arith in
      let size : length (record_octets (lowered raw) r) ≡ length owner + (10 + length rdata) =
      length-append owner (fixed ++ rdata) ∙ omega arith in
      let len : number_at message (behind + 8) ≡ length rdata =
      number_in message behind fixed 8 u (omega arith) ∙ two_back (length rdata) in
      let end : behind + 10 + length rdata ≡ place + length (record_octets (lowered raw) r) =
      omega (arith, size) in
      record {
        behind = behind;
        owner = name_at r.owner place after h.owner.raw.each h.owner.lower
            (stands_first message place owner (fixed ++ rdata) s);
        rtype = ap (number_at message) (sym at_start)
            ∙ number_in message behind fixed 0 u (omega arith) ∙ two_back (number_of r.rtype);
        class = number_in message behind fixed 2 u (omega arith);
        ttl = (let a = number_in message behind fixed 4 u (omega arith) in let b =
            number_in message behind fixed 6 u (omega arith) in let c = four_back r.ttl in cc);
        rdlength = omega (arith, len, size);
        rdata = subst (λ n. DataAt message r.rtype (behind + 10) r.rdata n) end
            (data_at r.rtype r.rdata (behind + 10) (omega arith) h.rdata
            (stands_second message behind fixed rdata t));
      }

  pub records_at : (records : List Record) (place : ℕ) → 12 + length (name_wire raw) ≤ place
      → AllByRecursion IsProper records
      → StandsAt message place (records_octets (lowered raw) records)
      → RecordsAt message place records (place + length (records_octets (lowered raw) records))
  records_at [] place after h s = omega arith
  records_at (r ∷ records) place after h s =
      let first = record_octets (lowered raw) r in
      let others = records_octets (lowered raw) records in
      let later =
      records_at records (place + length first) (omega arith) h.1
      (stands_second message place first others s) in
      let end : place + length first + length others ≡ place + length (first ++ others) =
      omega (arith, length-append first others) in (
        place + length first,
        record_at r place after h.0 (stands_first message place first others s),
        subst (λ n. RecordsAt message (place + length first) records n) end later,
      )

-- where a name's octets and what stands behind them are the question
asked_at : (message : List ℕ) (name : List (List ℕ)) (question : List ℕ)
    → (q : IsQuestion name question) → StandsAt message 12 question
    → StandsAt message 12 (name_wire q.raw)
asked_at message name question q s =
    stands_first message 12 (name_wire q.raw) q.type_and_class
    (subst (StandsAt message 12) q.spelled s)

-- what is read of RCODE
rcode_back : (rcode : ℕ) → rcode ≡ rcode / 16 * 16 + rcode % 16 % 16
rcode_back rcode = omega arith

opt_or_end : (message : List ℕ) (place rcode : ℕ) (opt : Option Opt) → FitsRcode rcode opt
    → StandsAt message place (opt_octets rcode opt) → place + length (opt_octets rcode opt) ≡ length message
    → OptOrEnd message place opt (rcode / 16)
opt_or_end message place rcode None small s end = (omega (arith, end), omega (arith, small))
opt_or_end message place rcode (Some opt) small s end = opt_at message place rcode opt s end

reads_back : (tc : Bool) (m : Message) → FitsRcode m.rcode m.opt → IsQuestion m.name m.question
    → AllByRecursion IsProper (records_of m) → Reads (octets_of tc m) tc m
reads_back tc m small q proper =
    let message = octets_of tc m in
    let header = header_octets (header_of tc m) in
    let records = records_octets m.name (records_of m) in
    let opt = opt_octets m.rcode m.opt in
    let question : StandsAt message 12 m.question =
    record { front = header; rest = records ++ opt; size = refl; there = refl } in
    let asked : StandsAt message 12 (name_wire q.raw) =
    asked_at message m.name m.question q question in
    let start = 12 + length m.question in
    let long : length m.question ≡ length (name_wire q.raw) + 4 = ap length q.spelled
    ∙ length-append (name_wire q.raw) q.type_and_class ∙ omega (arith, q.four) in
    let others = m.authorities ++ m.additionals in
    let one = records_octets (lowered q.raw) m.answers in
    let two = records_octets (lowered q.raw) m.authorities in
    let three = records_octets (lowered q.raw) m.additionals in
    let parts : records ≡ one ++ (two ++ three) =
    ap (λ n. records_octets n (records_of m)) q.same
    ∙ flat_map-append (record_octets (lowered q.raw)) m.answers others
    ∙ ap (λ t. one
    ++ t) (flat_map-append (record_octets (lowered q.raw)) m.authorities m.additionals) in
    let all : StandsAt message start (records ++ opt) = record {
      front = header ++ m.question;
      rest = [];
      size = omega arith;
      there = ap (λ t. header ++ (m.question ++ t)) (sym (append-nil (records ++ opt)));
    } in
    let first : StandsAt message start (one ++ (two ++ three)) =
    subst (StandsAt message start) parts (stands_first message start records opt all) in
    let last : StandsAt message (start + length records) opt = stands_second message start records opt all in
    let second = stands_second message start one (two ++ three) first in
    let third = stands_second message (start + length one) two three second in
    let front = flags_read m.aa tc m.rd in
    let end : start + length records + length opt ≡ length message =
    omega (arith, length-append m.question (records ++ opt), length-append records opt) in
    let sum : start + length records ≡ start + length one + length two + length three =
    omega (arith, ap length parts, length-append one (two ++ three), length-append two three) in
    record {
      id = two_back m.id;
      response = front.response;
      opcode = front.opcode;
      aa = front.aa_is;
      tc = front.tc_is;
      rd = front.rd_is;
      questions = refl;
      answer_count = two_back (length m.answers);
      authority_count = two_back (length m.authorities);
      additional_count = two_back (length m.additionals + opt_count m.opt);
      name_end = 12 + length (name_wire q.raw);
      name = subst (λ n. NameAt message 12 n (12 + length (name_wire q.raw))) (sym q.same)
          (whole_at message q.raw 12 q.labels.each asked);
      question = question;
      type_and_class = omega (arith, long);
      answers_end = start + length one;
      authorities_end = start + length one + length two;
      additionals_end = start + length one + length two + length three;
      answers =
          records_at message q.raw q.labels.each asked m.answers start (omega (arith, long))
          (all_front m.answers others proper) (stands_first message start one (two ++ three) first);
      authorities =
          records_at message q.raw q.labels.each asked m.authorities (start + length one)
          (omega (arith, long))
          (all_front m.authorities m.additionals (all_back m.answers others proper))
          (stands_first message (start + length one) two three second);
      additionals =
          records_at message q.raw q.labels.each asked m.additionals (start + length one + length two)
          (omega (arith, long))
          (all_back m.authorities m.additionals (all_back m.answers others proper)) third;
      upper = m.rcode / 16;
      opt = subst (λ p. OptOrEnd message p m.opt (m.rcode / 16)) sum
          (opt_or_end message (start + length records) m.rcode m.opt small last end);
      rcode = rcode_back m.rcode;
    }

pub whole_replies_read : WholeRepliesRead
whole_replies_read m limit fits small q proper =
    subst (λ octets. Reads octets false m) (sym (whole_wire m limit fits))
    (reads_back false m small q proper)

pub cut_replies_read : CutRepliesRead
cut_replies_read m limit longer small q =
    subst (λ octets. Reads octets true (without_records m)) (sym (cut_wire m limit longer))
    (reads_back true (without_records m) small q tt)
