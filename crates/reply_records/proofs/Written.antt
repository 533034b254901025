-- Records that are written one list after another.
use Rattle.std.proofs.Common.{◌≡◌, ◌≤◌, ◌+◌, ℕ, List, [], ◌∷◌, ◌++◌, Some, length, take}
use Rattle.std.proofs.Common.{refl, sym, ap, ◌∙◌, subst, arith, inl, inr, length-append, replicate}
use Rattle.std.specs.Prelude.{map, not, slice_get, ◌<◌, ◌⊎◌, true, drop}
use Rattle.std.specs.List.{flat_map}
use Rattle.std.proofs.lemmas.Grind.{flat_map-append}
use Rattle.std.proofs.lemmas.List.{append-nil, map-append, take_all}
use Rattle.dns_wire.specs.Draft.{Draft, Follows, HoldsAll, HoldsNone, StandsFor, size_of}
use Rattle.dns_wire.specs.Draft.{with_record, with_records}
use Rattle.dns_wire.specs.Laws.{RecordsAddUp}
use Rattle.dns_wire.specs.Data.{data_octets}
use Rattle.dns_wire.specs.Message.{Message, Record, fixed_octets, record_octets, records_octets}
use Rattle.dns_wire.specs.Message.{records_of}
use Rattle.dns_wire.specs.Pointers.{name_octets}
use Rattle.octets.specs.Numbers.{four_octets, two_octets}
use Rattle.rdata_layout.specs.Types.{number_of}
use Rattle.rdata_layout.specs.declared.types.RType.{RType}
use Rattle.policy_select.specs.Descent.{sets_at}
use Rattle.policy_select.specs.Records.{is_among, joint_data, records}
use Rattle.record_set.specs.declared.sets.RecordSet.{RecordSet}
use Rattle.std.proofs.lemmas.List.Elements.{filter-append}
use Rattle.reply_records.proofs.Joined.{joint_behind}
use Rattle.reply_records.specs.Chosen.{all_data, new_data}
use Rattle.dns_wire.specs.declared.reply.Section.{Section}
use Rattle.dns_wire.specs.declared.reply.Section.TheVariants.{Additional, Answer, Authority}
use Rattle.zone_model.proofs.Lists.{split, take_more}
use Rattle.reply_records.specs.Writing.{TakesRecords, Writes}

-- equal lists of records
pub same : (section : Section) (first second : List Record) (a b : Draft) → first ≡ second
    → Writes section first a b → Writes section second a b
same section first second a b e ab =
    subst (λ (rs : List Record). Writes section rs a b) e ab

module _ (adds : RecordsAddUp) (section : Section) where
  pub nothing : (d : Draft) → Writes section [] d d
  nothing d = record {
    stands = λ m is follows. subst (λ (x : Message). StandsFor x d) (sym (adds.none section m)) is;
    edns = refl;
    room = refl;
  }

  -- one record is a list of one
  pub one : (r : Record) (m : Message) → with_record section r m ≡ with_records section (r ∷ []) m
  one r m =
      ap (with_record section r) (sym (adds.none section m)) ∙ adds.one_more section [] r m

  pub as_one : (r : Record) (a b : Draft)
      → ((m : Message) → StandsFor m a → Follows section m → StandsFor (with_record section r m) b)
      → b.edns ≡ a.edns → b.room ≡ a.room → Writes section (r ∷ []) a b
  as_one r a b stands edns room = record {
    stands = λ m is follows. subst (λ (x : Message). StandsFor x b) (one r m)
        (stands m is follows);
    edns = edns;
    room = room;
  }

  pub more : (first second : List Record) (a b c : Draft) → Writes section first a b
      → Writes section second b c → Writes section (first ++ second) a c
  more first second a b c ab bc = record {
    stands = λ m is follows. subst (λ (x : Message). StandsFor x c)
        (adds.more section first second m)
        (bc.stands (with_records section first m) (ab.stands m is follows)
        (adds.follows section first m follows));
    edns = bc.edns ∙ ab.edns;
    room = bc.room ∙ ab.room;
  }

  pub still_open : (first : List Record) (a b : Draft) → TakesRecords section a
      → Writes section first a b → TakesRecords section b
  still_open first a b (m, is, follows) ab =
      (with_records section first m, ab.stands m is follows, adds.follows section first m follows)

  -- one element more of a list that is written record by record, or list by list
  pub map_more : {X : Type 0} (f : X → Record) (xs : List X) (i : ℕ) (x : X) (a b c : Draft)
      → slice_get xs i ≡ Some x → Writes section (map f (take i xs)) a b
      → Writes section (f x ∷ []) b c → Writes section (map f (take (i + 1) xs)) a c
  map_more f xs i x a b c at ab bc =
      same section (map f (take i xs) ++ f x ∷ []) (map f (take (i + 1) xs)) a c
      (sym (map-append f (take i xs) (x ∷ [])) ∙ ap (map f) (sym (take_more xs i x at)))
      (more (map f (take i xs)) (f x ∷ []) a b c ab bc)

  pub flat_more : {X : Type 0} (f : X → List Record) (xs : List X) (i : ℕ) (x : X) (a b c : Draft)
      → slice_get xs i ≡ Some x → Writes section (flat_map f (take i xs)) a b
      → Writes section (f x) b c → Writes section (flat_map f (take (i + 1) xs)) a c
  flat_more {X} f xs i x a b c at ab bc =
      same section (flat_map f (take i xs) ++ f x) (flat_map f (take (i + 1) xs)) a c
      (ap (λ (rs : List Record). flat_map f (take i xs) ++ rs) (sym (append-nil (f x)))
      ∙ (sym (flat_map-append f (take i xs) (x ∷ []))
      ∙ ap (λ (ys : List X). flat_map f ys) (sym (take_more xs i x at))))
      (more (flat_map f (take i xs)) (f x) a b c ab bc)

-- all of a list
pub all_of : {X : Type 0} (xs : List X) (n : ℕ) → length xs ≤ n → take n xs ≡ xs
all_of xs n le = take_all n xs le

-- ---- a reply that is cut

octets_append : (name : List (List ℕ)) (rs others : List Record)
    → length (records_octets name (rs ++ others))
    ≡ length (records_octets name rs) + length (records_octets name others)
octets_append name rs others =
    ap length (flat_map-append (record_octets name) rs others)
    ∙ length-append (records_octets name rs) (records_octets name others)

-- how many octets a message has with some records more
size_more : (section : Section) (rs : List Record) (m : Message)
    → size_of (with_records section rs m) ≡ size_of m + length (records_octets m.name rs)
size_more Answer rs m =
    let n = m.name in
    let rest = m.authorities ++ m.additionals in
    omega (
      arith,
      octets_append n (m.answers ++ rs) rest,
      octets_append n m.answers rs,
      octets_append n m.answers rest,
    )
size_more Authority rs m =
    let n = m.name in
    omega (
      arith,
      octets_append n m.answers ((m.authorities ++ rs) ++ m.additionals),
      octets_append n (m.authorities ++ rs) m.additionals,
      octets_append n m.authorities rs,
      octets_append n m.answers (m.authorities ++ m.additionals),
      octets_append n m.authorities m.additionals,
    )
size_more Additional rs m =
    let n = m.name in
    omega (
      arith,
      octets_append n m.answers (m.authorities ++ (m.additionals ++ rs)),
      octets_append n m.authorities (m.additionals ++ rs),
      octets_append n m.additionals rs,
      octets_append n m.answers (m.authorities ++ m.additionals),
      octets_append n m.authorities m.additionals,
    )

holds_none : (m : Message) (d : Draft) → d.is_truncated ≡ true → HoldsAll m d ⊎ HoldsNone m d
    → HoldsNone m d
holds_none m d cut (inl all) = absurd (grind (arith, cut, all.untruncated))
holds_none m d cut (inr none) = none

module _ (m : Message) (d : Draft) (cut : d.is_truncated ≡ true) (is : StandsFor m d) where
  none : HoldsNone m d
  none = holds_none m d cut is.records

  -- It stands for the reply with more records too.
  still_cut : (section : Section) (rs : List Record) → StandsFor (with_records section rs m) d
  still_cut Answer rs = record {
    id = is.id;
    rd = is.rd;
    name = is.name;
    opt = is.opt;
    question = is.question;
    records = inr (record {
      longer = omega (arith, none.longer, size_more Answer rs m);
      emptied = record {
        is_truncated = none.emptied.is_truncated;
        answers = none.emptied.answers;
        authorities = none.emptied.authorities;
        additionals = none.emptied.additionals;
        bytes = none.emptied.bytes;
      };
    });
  }
  still_cut Authority rs = record {
    id = is.id;
    rd = is.rd;
    name = is.name;
    opt = is.opt;
    question = is.question;
    records = inr (record {
      longer = omega (arith, none.longer, size_more Authority rs m);
      emptied = record {
        is_truncated = none.emptied.is_truncated;
        answers = none.emptied.answers;
        authorities = none.emptied.authorities;
        additionals = none.emptied.additionals;
        bytes = none.emptied.bytes;
      };
    });
  }
  still_cut Additional rs = record {
    id = is.id;
    rd = is.rd;
    name = is.name;
    opt = is.opt;
    question = is.question;
    records = inr (record {
      longer = omega (arith, none.longer, size_more Additional rs m);
      emptied = record {
        is_truncated = none.emptied.is_truncated;
        answers = none.emptied.answers;
        authorities = none.emptied.authorities;
        additionals = none.emptied.additionals;
        bytes = none.emptied.bytes;
      };
    });
  }

-- What would be written behind a cut is written as soon as the reply is cut.
pub behind_cut : (section : Section) (rs : List Record) (d : Draft) → d.is_truncated ≡ true
    → Writes section rs d d
behind_cut section rs d cut = record {
  stands = λ m is follows. still_cut m d cut is section rs;
  edns = refl;
  room = refl;
}

has_octets : (name : List (List ℕ)) (r : Record) → 0 < length (record_octets name r)
has_octets name r =
    let wire = data_octets name r.rtype r.rdata in
    let front = two_octets (number_of r.rtype) ++ (0 ∷ 1 ∷ four_octets r.ttl) in
    let fixed = fixed_octets r.rtype r.ttl (length wire) in
    omega (
      arith,
      length-append (name_octets name r.owner) (fixed ++ wire),
      length-append fixed wire,
      length-append front (two_octets (length wire)),
      length-append (two_octets (number_of r.rtype)) (0 ∷ 1 ∷ four_octets r.ttl),
    )

whole_size : (m : Message) (d : Draft) → HoldsAll m d → length d.bytes ≡ size_of m
whole_size m d all =
    let octets = records_octets m.name (records_of m) in
    omega (
      arith,
      ap length all.bytes,
      length-append (replicate 12 0) (m.question ++ octets),
      length-append m.question octets,
    )

-- A reply that has no more octets with a record more is cut.
pub cut_shown : (section : Section) (r : Record) (m : Message) (a b : Draft) → StandsFor m a
    → StandsFor (with_records section (r ∷ []) m) b → b.room ≡ a.room
    → length b.bytes ≤ length a.bytes → b.is_truncated ≡ true
cut_shown section r m a b was is room le = by was.records is.records
  where
    larger : size_of m < size_of (with_records section (r ∷ []) m)
    larger =
        omega (
          arith,
          size_more section (r ∷ []) m,
          octets_append m.name (r ∷ []) [],
          length-append (record_octets m.name r) [],
          has_octets m.name r,
        )

    by : HoldsAll m a ⊎ HoldsNone m a
        → HoldsAll (with_records section (r ∷ []) m) b
        ⊎ HoldsNone (with_records section (r ∷ []) m) b
        → b.is_truncated ≡ true
    by before (inr none) = none.emptied.is_truncated
    by (inl before) (inl all) =
        absurd (omega (
          arith,
          whole_size m a before,
          whole_size (with_records section (r ∷ []) m) b all,
          larger,
          le,
        ))
    by (inr before) (inl all) = absurd (omega (arith, before.longer, all.fits, larger, room))

module _ (adds : RecordsAddUp) (section : Section) where
  -- the first elements of a list are written, and then the reply is cut
  pub map_cut : {X : Type 0} (f : X → Record) (xs : List X) (n : ℕ) (a b : Draft)
      → Writes section (map f (take n xs)) a b → b.is_truncated ≡ true → Writes section (map f xs) a b
  map_cut f xs n a b ab cut =
      same section (map f (take n xs) ++ map f (drop n xs)) (map f xs) a b
      (sym (map-append f (take n xs) (drop n xs)) ∙ ap (map f) (sym (split n xs)))
      (more adds section (map f (take n xs)) (map f (drop n xs)) a b b ab
      (behind_cut section (map f (drop n xs)) b cut))

  pub flat_cut : {X : Type 0} (f : X → List Record) (xs : List X) (n : ℕ) (a b : Draft)
      → Writes section (flat_map f (take n xs)) a b → b.is_truncated ≡ true
      → Writes section (flat_map f xs) a b
  flat_cut {X} f xs n a b ab cut =
      same section (flat_map f (take n xs) ++ flat_map f (drop n xs)) (flat_map f xs) a b
      (sym (flat_map-append f (take n xs) (drop n xs))
      ∙ ap (λ (ys : List X). flat_map f ys) (sym (split n xs)))
      (more adds section (flat_map f (take n xs)) (flat_map f (drop n xs)) a b b ab
      (behind_cut section (flat_map f (drop n xs)) b cut))

  -- one value more
  pub value_more : (owner : List (List ℕ)) (t rtype : RType) (ttl : ℕ) (xs : List (List ℕ)) (i : ℕ)
      (x : List ℕ) (a b c : Draft) → t ≡ rtype → slice_get xs i ≡ Some x
      → Writes section (records owner t ttl (take i xs)) a b
      → Writes section (record { owner = owner; rtype = rtype; ttl = ttl; rdata = x } ∷ []) b c
      → Writes section (records owner t ttl (take (i + 1) xs)) a c
  value_more owner t rtype ttl xs i x a b c typed at ab bc =
      map_more adds section (λ (rdata : List ℕ). record {
        owner = owner;
        rtype = t;
        ttl = ttl;
        rdata = rdata;
      }) xs i x a b c at ab
      (subst (λ (k : RType). Writes section (record {
        owner = owner;
        rtype = k;
        ttl = ttl;
        rdata = x;
      } ∷ []) b c) (sym typed) bc)

-- ---- joint data

module _ (adds : RecordsAddUp) (owner : List (List ℕ)) (rtype : RType) (ttl : ℕ) (a b : Draft)
    (cut : b.is_truncated ≡ true) where
  abbrev row : List ℕ → Record
  row rdata = record { owner = owner; rtype = rtype; ttl = ttl; rdata = rdata }

  -- the first of some data are written, and then the reply is cut
  front_cut : (all front rest : List (List ℕ)) → all ≡ front ++ rest
      → Writes Answer (records owner rtype ttl front) a b
      → Writes Answer (records owner rtype ttl all) a b
  front_cut all front rest e ab =
      same Answer (map row front ++ map row rest) (map row all) a b
      (sym (map-append row front rest) ∙ ap (map row) (sym e))
      (more adds Answer (map row front) (map row rest) a b b ab
      (behind_cut Answer (map row rest) b cut))

  pub joint_cut : (all : List RecordSet) (places : List ℕ) (n : ℕ)
      → Writes Answer (records owner rtype ttl (joint_data [] (sets_at all (take n places)))) a b
      → Writes Answer (records owner rtype ttl (joint_data [] (sets_at all places))) a b
  joint_cut all places n ab =
      let rest = joint_behind all places n in
      front_cut (joint_data [] (sets_at all places)) (joint_data [] (sets_at all (take n places)))
      rest.0 rest.1 ab

pub new_cut : RecordsAddUp → (earlier : List RecordSet) (rdatas : List (List ℕ)) (n : ℕ)
    (owner : List (List ℕ)) (rtype : RType) (ttl : ℕ) (a b : Draft)
    → Writes Answer (records owner rtype ttl (new_data earlier (take n rdatas))) a b
    → b.is_truncated ≡ true → Writes Answer (records owner rtype ttl (new_data earlier rdatas)) a b
new_cut adds earlier rdatas n owner rtype ttl a b ab cut =
    front_cut adds owner rtype ttl a b cut (new_data earlier rdatas)
    (new_data earlier (take n rdatas)) (new_data earlier (drop n rdatas))
    (ap (new_data earlier) (split n rdatas)
    ∙ filter-append (λ rdata. not (is_among (all_data earlier) rdata)) (take n rdatas)
    (drop n rdatas)) ab
