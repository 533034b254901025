-- What a packet is judged as, from what its parts were found to be.
use Rattle.std.proofs.Common.{◌≡◌, ◌≢◌, ℕ, ◌+◌, ◌<◌, ◌≤◌, ◌/◌, ◌%◌, ◌==◌, List, [], ◌∷◌, length, drop, get_or, ap, ◌∙◌, sym, refl, subst, arith, inl, inr, take}
use Rattle.std.specs.Prelude.{Option, None, Some, Ok, Err, ⊤}
use Rattle.std.proofs.lemmas.Option.{none-some}
use Rattle.ecs_option.specs.Grammar.{Point as ecs, Reads}
use Rattle.ecs_option.specs.declared.subnet.ClientSubnet.{ClientSubnet}
use Rattle.ecs_option.specs.declared.subnet.Malformed.{Malformed}
use Rattle.octets.specs.Numbers.{number_at}
use Rattle.std.specs.Prelude.{◌-◌}
use Rattle.dns_message.specs.Edns.{AreOptions, AreProperOpts, EdnsOption, HasMalformedSubnet, HasNewVersion, IsMalformedOpt, IsProperOpt, TellsEdns, TellsSubnet, first_body, opts_of}
use Rattle.dns_message.specs.Header.{arcount_of, HasQueryCounts, id_of, opcode_of, rd_of}
use Rattle.dns_message.specs.Judge.{HasQuery, HoldsOf, IsAnsweredBy, IsFirst, Judges, NoneHolds, Point, points, query_of}
use Rattle.dns_message.specs.Judge.Point.{Unheard, Kind, Counts, Question, Additionals, Version, Subnet}
use Rattle.dns_message.specs.Question.{Asks}
use Rattle.dns_message.specs.Records.{AnyRecord, BeginsWithRecords, Split, SplitsAs, record_of}
use Rattle.dns_message.specs.Verdict.{read_as}
use Rattle.dns_message.specs.Walk.{HasRecords, HasSubnet, IsOptOf, Opt, SubnetRead, SubnetRead as subnet, WalksTo, WalksWith, edns_of, opt_with, told_of}
use Rattle.dns_message.specs.Whole.{GivesWhole, HasEdns, IsSubnetOrNone, IsWhole, subnet_of}
use Rattle.dns_message.specs.declared.query.Edns.{Edns}
use Rattle.dns_message.specs.declared.query.Query.{Query}
use Rattle.dns_message.specs.declared.query.QueryRead.TheVariants as read
use Rattle.dns_message.specs.declared.verdict.Verdict.{Verdict}
use Rattle.dns_message.specs.declared.verdict.Verdict.TheVariants as verdict
use Rattle.dns_message.specs.declared.walked.Walked.{Walked}
use Rattle.dns_message.specs.declared.walked.Walked.TheVariants as walked
use Rattle.dns_message.proofs.OptionLists.{one_list}
use Rattle.dns_message.proofs.Question.{fits, padded_question}
use Rattle.dns_message.proofs.Walking.{one_list_of_records}

-- data is not well-formed and malformed
pub never_both : (body : List ℕ) (told : ClientSubnet) (fault : Malformed) → Reads body (Ok told)
    → Reads body (Err fault) → ⊥
never_both body told fault ok (ecs.Length, unmet, place) = unmet (ok.0 ecs.Length)
never_both body told fault ok (ecs.Family, unmet, place) = unmet.1 (ok.0 ecs.Family)
never_both body told fault ok (ecs.Source, unmet, place) = unmet.2 (ok.0 ecs.Source)
never_both body told fault ok (ecs.Scope, unmet, place) = unmet.3 (ok.0 ecs.Scope)
never_both body told fault ok (ecs.Address, unmet, place) = unmet.4 (ok.0 ecs.Address)

abbrev or_empty : Option (List ℕ) → List ℕ
or_empty None = []
or_empty (Some body) = body

is_malformed : SubnetRead → Type 0
is_malformed subnet.Absent = ⊥
is_malformed subnet.Faulty = ⊤
is_malformed (subnet.Told told) = ⊥

absent_sound : subnet.Faulty ≢ subnet.Absent
unfolding is_malformed
absent_sound e = subst is_malformed e tt

told_sound : (told : ClientSubnet) → subnet.Faulty ≢ subnet.Told told
unfolding is_malformed
told_sound told e = subst is_malformed e tt

-- ---- the points of the header

pub heard : (packet : List ℕ) → 12 ≤ length packet → get_or packet 2 0 < 128 → HoldsOf Unheard packet → ⊥
heard packet long query (inl short) = omega (arith, long, short)
heard packet long query (inr response) = omega (arith, query, response)

-- none of the points of the header and the question holds
pub record Sifted (packet : List ℕ) : Type 0 where
  pub unheard : HoldsOf Unheard packet → ⊥
  pub kind : HoldsOf Kind packet → ⊥
  pub counts : HoldsOf Counts packet → ⊥
  pub question : HoldsOf Question packet → ⊥

pub sifted : (packet : List ℕ) → 12 ≤ length packet → get_or packet 2 0 < 128 → opcode_of packet ≡ 0
    → HasQueryCounts packet → (labels : List (List ℕ)) (n : ℕ) → Asks packet labels n → Sifted packet
sifted packet long query kind counts labels n asks = record {
  unheard = heard packet long query;
  kind = λ other. other kind;
  counts = λ others. others counts;
  question = λ none. none labels n asks;
}

-- the first point of each that holds
pub first_kind : (packet : List ℕ) → (HoldsOf Unheard packet → ⊥) → HoldsOf Kind packet → IsFirst points Kind packet
first_kind packet unheard holds = inr (unheard, inl (holds, refl))

pub first_counts : (packet : List ℕ) → (HoldsOf Unheard packet → ⊥) → opcode_of packet ≡ 0
    → HoldsOf Counts packet → IsFirst points Counts packet
first_counts packet unheard kind holds = inr (unheard, inr ((λ other. other kind), inl (holds, refl)))

pub first_question : (packet : List ℕ) → (HoldsOf Unheard packet → ⊥) → opcode_of packet ≡ 0
    → HasQueryCounts packet → HoldsOf Question packet → IsFirst points Question packet
first_question packet unheard kind counts holds =
    inr (unheard, inr ((λ other. other kind), inr ((λ others. others counts), inl (holds, refl))))

pub first_additionals : (packet : List ℕ) → Sifted packet → HoldsOf Additionals packet
    → IsFirst points Additionals packet
first_additionals packet s holds =
    inr (s.unheard, inr (s.kind, inr (s.counts, inr (s.question, inl (holds, refl)))))

pub first_version : (packet : List ℕ) → Sifted packet → (HoldsOf Additionals packet → ⊥)
    → HoldsOf Version packet → IsFirst points Version packet
first_version packet s additionals holds =
    inr (s.unheard, inr (s.kind, inr (s.counts, inr (s.question, inr (additionals, inl (holds, refl))))))

pub first_subnet : (packet : List ℕ) → Sifted packet → (HoldsOf Additionals packet → ⊥)
    → (HoldsOf Version packet → ⊥) → HoldsOf Subnet packet → IsFirst points Subnet packet
first_subnet packet s additionals version holds =
    inr (
      s.unheard,
      inr (
        s.kind,
        inr (
          s.counts,
          inr (
            s.question,
            inr (
              additionals,
              inr (
                version,
                inl (holds, refl),
              ),
            ),
          ),
        ),
      ),
    )

pub none_holds : (packet : List ℕ) → Sifted packet → (HoldsOf Additionals packet → ⊥)
    → (HoldsOf Version packet → ⊥) → (HoldsOf Subnet packet → ⊥) → NoneHolds points packet
none_holds packet s additionals version subnet =
    (s.unheard, (s.kind, (s.counts, (s.question, (additionals, (version, (subnet, tt)))))))

pub judged_bad : (packet : List ℕ) (point : Point) (rcode : ℕ) (found : Verdict) (query : Query)
    → IsFirst points point packet → IsAnsweredBy point rcode
    → found ≡ verdict.Bad (id_of packet) (opcode_of packet) (rd_of packet) rcode
    → Judges packet (read_as found query)
judged_bad packet point rcode found query first code e =
    subst (λ v. Judges packet (read_as v query)) (sym e) (record {
      point = point;
      first = first;
      code = code;
      same_id = refl;
      same_opcode = refl;
      same_rd = refl;
    })

-- ---- the points of the additional records

module _ (packet : List ℕ) (labels : List (List ℕ)) (n : ℕ) (asks : Asks packet labels n)
    (only : (others : List (List ℕ)) (m : ℕ) → Asks packet others m → m ≡ n) where
  abbrev pub behind : List ℕ
  behind = drop (12 + n) packet

  -- the split with these additional records
  abbrev pub split_of : List AnyRecord → Split
  split_of records = record { name = labels; question_len = n; records = records }

  pub splits : (records : List AnyRecord) → HasRecords behind (arcount_of packet) records
      → SplitsAs packet (split_of records)
  splits records h = record { question = asks; count = h.count_is; records = h.there }

  -- another split has the same records
  pub same_records : (records : List AnyRecord) → HasRecords behind (arcount_of packet) records
      → (split : Split) → SplitsAs packet split → split.records ≡ records
  same_records records h split s =
      let len : split.question_len ≡ n = only split.name split.question_len s.question in
      one_list_of_records behind split.records records (s.count ∙ sym h.count_is)
      (subst (λ k. BeginsWithRecords (drop (12 + k) packet) split.records) len s.records) h.there

  -- there are no records as they have to be
  pub broken : WalksTo behind (arcount_of packet) walked.Broken → HoldsOf Additionals packet
  broken none split s proper =
      let len : split.question_len ≡ n = only split.name split.question_len s.question in
      none split.records (record {
        count_is = s.count;
        there = subst (λ k. BeginsWithRecords (drop (12 + k) packet) split.records) len s.records;
      }) proper

  module _ (records : List AnyRecord) (h : HasRecords behind (arcount_of packet) records) where
    pub unbroken : AreProperOpts (opts_of records) → HoldsOf Additionals packet → ⊥
    unbroken proper none = none (split_of records) (splits records h) proper

    pub no_version : (HasNewVersion (opts_of records) → ⊥) → HoldsOf Version packet → ⊥
    no_version none (split, s, new) =
        none (subst (λ l. HasNewVersion (opts_of l)) (same_records records h split s) new)

    pub no_fault : (HasMalformedSubnet (opts_of records) → ⊥) → HoldsOf Subnet packet → ⊥
    no_fault none (split, s, malformed) =
        none (subst (λ l. HasMalformedSubnet (opts_of l)) (same_records records h split s) malformed)

    pub has_query : (edns : Option Edns) → TellsEdns (opts_of records) edns
        → HasQuery packet (query_of packet labels n edns)
    has_query edns tells = record {
      split = split_of records;
      splits = splits records h;
      edns = tells;
      fields = refl;
    }

  pub is_whole : (edns : Option Edns) → IsSubnetOrNone (subnet_of edns)
      → IsWhole (query_of packet labels n edns)
  is_whole edns told = record {
    size = fits packet labels n asks;
    question = padded_question packet labels n asks;
    subnet = told;
  }

-- ---- what an OPT record tells

module _ (r : AnyRecord) (opt : Opt) (is : IsOptOf r opt) where
  pub proper : AreProperOpts (r ∷ [])
  proper = record { owner = is.owner; options = is.options; filled = is.filled }

  pub newer : 0 < opt.ttl / 65536 % 256 → HasNewVersion (r ∷ [])
  newer h = subst (λ t. 0 < t / 65536 % 256) is.ttl h

  pub no_newer : opt.ttl / 65536 % 256 ≤ 0 → HasNewVersion (r ∷ []) → ⊥
  no_newer h new = let v : 0 < opt.ttl / 65536 % 256 = subst (λ t. 0 < t / 65536 % 256) (sym is.ttl) new in omega (arith, v, h)

  malformed_first : (first : Option (List ℕ)) (told : SubnetRead) → first_body 8 is.options ≡ first
      → told ≡ subnet.Faulty → HasSubnet first told → IsMalformedOpt r
  malformed_first None subnet.Absent e t h = absurd (absent_sound (sym t))
  malformed_first None subnet.Faulty e t h = absurd h
  malformed_first None (subnet.Told told) e t h = absurd h
  malformed_first (Some body) subnet.Absent e t h = absurd h
  malformed_first (Some body) subnet.Faulty e t h = record {
    options = is.options;
    filled = is.filled;
    body = body;
    first = e;
    fault = h.0;
    malformed = h.1;
  }
  malformed_first (Some body) (subnet.Told told) e t h = absurd (told_sound told (sym t))

  pub malformed : opt.subnet ≡ subnet.Faulty → HasMalformedSubnet (r ∷ [])
  malformed e = malformed_first (first_body 8 is.options) opt.subnet refl e is.subnet

  sound_first : (first : Option (List ℕ)) (told : SubnetRead) (body : List ℕ) (fault : Malformed)
      → first ≡ Some body → told ≢ subnet.Faulty → HasSubnet first told → Reads body (Err fault) → ⊥
  sound_first None told body fault e ne h bad = none-some body e
  sound_first (Some other) subnet.Absent body fault e ne h bad = h
  sound_first (Some other) subnet.Faulty body fault e ne h bad = ne refl
  sound_first (Some other) (subnet.Told told) body fault e ne h bad =
      never_both body told fault (subst (λ b. Reads b (Ok told)) (ap or_empty e) h.0) bad

  pub sound : opt.subnet ≢ subnet.Faulty → HasMalformedSubnet (r ∷ []) → ⊥
  sound ne bad =
      let same : bad.options ≡ is.options = one_list r.rdata bad.options is.options bad.filled is.filled in
      sound_first (first_body 8 is.options) opt.subnet bad.body bad.fault
      (sym (ap (first_body 8) same) ∙ bad.first) ne is.subnet bad.malformed

  tells_first : (first : Option (List ℕ)) (told : SubnetRead) → HasSubnet first told
      → TellsSubnet first (told_of told)
  tells_first None subnet.Absent h = refl
  tells_first None subnet.Faulty h = absurd h
  tells_first None (subnet.Told told) h = absurd h
  tells_first (Some body) subnet.Absent h = absurd h
  tells_first (Some body) subnet.Faulty h = h
  tells_first (Some body) (subnet.Told told) h = h.0

  pub tells : TellsEdns (r ∷ []) (Some (edns_of opt))
  tells = record {
    size = is.class;
    dnssec_ok = ap (λ t. t / 32768 % 2 == 1) is.ttl;
    options = is.options;
    filled = is.filled;
    subnet = tells_first (first_body 8 is.options) opt.subnet is.subnet;
  }

  whole_first : (first : Option (List ℕ)) (told : SubnetRead) → HasSubnet first told
      → IsSubnetOrNone (told_of told)
  whole_first first subnet.Absent h = tt
  whole_first first subnet.Faulty h = tt
  whole_first None (subnet.Told told) h = absurd h
  whole_first (Some body) (subnet.Told told) h = h.1

  pub whole : IsSubnetOrNone (subnet_of (Some (edns_of opt)))
  whole = whole_first (first_body 8 is.options) opt.subnet is.subnet

-- ---- the answers

pub with_edns : (packet : List ℕ) (labels : List (List ℕ)) (n : ℕ) (edns : Option Edns) (other : Edns) (query : Query)
    → query ≡ query_of packet labels n None → edns ≡ Some other
    → record query { edns = edns } ≡ query_of packet labels n (Some other)
with_edns packet labels n edns other query e same =
    ap (λ (q : Query). record q { edns = edns }) e ∙ ap (λ t. query_of packet labels n t) same

pub walks_behind : (packet records : List ℕ) (n count : ℕ) (found : Walked)
    → records ≡ drop (12 + n) packet → count ≡ arcount_of packet → WalksTo records count found
    → WalksTo (drop (12 + n) packet) (arcount_of packet) found
walks_behind packet records n count found e k w =
    subst (λ m. WalksTo (drop (12 + n) packet) m found) k (subst (λ l. WalksTo l count found) e w)

-- what the OPT record of one octet's owner has, whose data are these options
pub opt_is : (octets rdata : List ℕ) (size : ℕ) (options : List EdnsOption) (told : SubnetRead)
    → take 1 octets ≡ 0 ∷ [] → size ≡ number_at octets 9 → rdata ≡ take (11 + size - 11) (drop 11 octets)
    → AreOptions rdata options → HasSubnet (first_body 8 options) told
    → IsOptOf (record_of octets 1) (opt_with octets told)
opt_is octets rdata size options told root sized is are tells = record {
  owner = root;
  class = refl;
  ttl = refl;
  options = options;
  filled =
      subst (λ l. AreOptions l options)
      (is ∙ ap (λ n. take n (drop 11 octets)) (omega (arith, sized))) are;
  subnet = tells;
}

-- the record that was found, where what it has was read
pub walks_with : (octets : List ℕ) (count at : ℕ) (opt : Opt) → WalksTo octets count (walked.At at)
    → IsOptOf (record_of (drop at octets) 1) opt → WalksWith octets count opt
walks_with octets count at opt w is =
    (w.0, w.1, (w.2.0, w.2.1, subst (λ r. IsOptOf r opt) (sym w.2.2.is) is))

-- data that aren't options
pub walks_to_none : (octets : List ℕ) (count at : ℕ) → WalksTo octets count (walked.At at)
    → ((options : List EdnsOption) → AreOptions (record_of (drop at octets) 1).rdata options → ⊥)
    → WalksTo octets count walked.Broken
walks_to_none octets count at w none records has proper =
    let same : records ≡ w.0 =
    one_list_of_records octets records w.0 (has.count_is ∙ sym w.1.count_is) has.there w.1.there in
    let one : IsProperOpt w.2.0 = subst AreProperOpts (ap opts_of same ∙ w.2.1) proper in
    none one.options (subst (λ (r : AnyRecord). AreOptions r.rdata one.options) w.2.2.is one.filled)

module _ (packet : List ℕ) (labels : List (List ℕ)) (n : ℕ) (asks : Asks packet labels n)
    (only : (others : List (List ℕ)) (m : ℕ) → Asks packet others m → m ≡ n) (s : Sifted packet) where
  abbrev rest : List ℕ
  rest = drop (12 + n) packet

  pub judged_broken : WalksTo rest (arcount_of packet) walked.Broken → IsFirst points Additionals packet
  judged_broken w = first_additionals packet s (broken packet labels n asks only w)

  pub judged_plain : WalksTo rest (arcount_of packet) walked.Plain → (query : Query)
      → query ≡ query_of packet labels n None → Judges packet (read.Query query)
  judged_plain (records, h, none) query e =
      subst (λ q. Judges packet (read.Query q)) (sym e) (
        none_holds packet s
            (unbroken packet labels n asks only records h (subst AreProperOpts (sym none) tt))
            (no_version packet labels n asks only records h (λ new. subst HasNewVersion none new))
            (no_fault packet labels n asks only records h (λ bad. subst HasMalformedSubnet none bad)),
        has_query packet labels n asks only records h None (subst (λ l. TellsEdns l None) (sym none) refl),
      )

  pub whole_plain : (query : Query) → query ≡ query_of packet labels n None → IsWhole query
  whole_plain query e = subst IsWhole (sym e) (is_whole packet labels n asks only None tt)

  module _ (opt : Opt) (w : WalksWith rest (arcount_of packet) opt) where
    abbrev records : List AnyRecord
    records = w.0

    abbrev r : AnyRecord
    r = w.2.0

    one : opts_of records ≡ r ∷ []
    one = w.2.1

    is : IsOptOf r opt
    is = w.2.2

    has_proper : HoldsOf Additionals packet → ⊥
    has_proper = unbroken packet labels n asks only records w.1 (subst AreProperOpts (sym one) (proper r opt is))

    query_with : HasQuery packet (query_of packet labels n (Some (edns_of opt)))
    query_with =
        has_query packet labels n asks only records w.1 (Some (edns_of opt))
        (subst (λ l. TellsEdns l (Some (edns_of opt))) (sym one) (tells r opt is))

    pub judged_version : 0 < opt.ttl / 65536 % 256 → (query : Query)
        → query ≡ query_of packet labels n (Some (edns_of opt)) → Judges packet (read.BadVersion query)
    judged_version new query e =
        subst (λ q. Judges packet (read.BadVersion q)) (sym e) (
          first_version packet s has_proper (
            split_of packet labels n asks only records,
            splits packet labels n asks only records w.1,
            subst HasNewVersion (sym one) (newer r opt is new),
          ),
          query_with,
        )

    old : opt.ttl / 65536 % 256 ≤ 0 → HoldsOf Version packet → ⊥
    old h = no_version packet labels n asks only records w.1
        (λ new. no_newer r opt is h (subst HasNewVersion one new))

    pub judged_malformed : opt.ttl / 65536 % 256 ≤ 0 → opt.subnet ≡ subnet.Faulty
        → IsFirst points Subnet packet
    judged_malformed h bad =
        first_subnet packet s has_proper (old h) (
          split_of packet labels n asks only records,
          splits packet labels n asks only records w.1,
          subst HasMalformedSubnet (sym one) (malformed r opt is bad),
        )

    pub judged_query : opt.ttl / 65536 % 256 ≤ 0 → opt.subnet ≢ subnet.Faulty → (query : Query)
        → query ≡ query_of packet labels n (Some (edns_of opt)) → Judges packet (read.Query query)
    judged_query h good query e =
        subst (λ q. Judges packet (read.Query q)) (sym e) (
          none_holds packet s has_proper (old h)
              (no_fault packet labels n asks only records w.1
              (λ bad. sound r opt is good (subst HasMalformedSubnet one bad))),
          query_with,
        )

    pub whole_with : (query : Query) → query ≡ query_of packet labels n (Some (edns_of opt))
        → IsWhole query
    whole_with query e =
        subst IsWhole (sym e) (is_whole packet labels n asks only (Some (edns_of opt)) (whole r opt is))

    pub whole_version : (query : Query) → query ≡ query_of packet labels n (Some (edns_of opt))
        → GivesWhole (read.BadVersion query)
    whole_version query e =
        (whole_with query e, subst (λ (q : Query). HasEdns q.edns) (sym e) tt)
