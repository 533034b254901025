-- A packet has one judgement.
use Rattle.std.proofs.Common.{◌≡◌, ℕ, List, [], ◌∷◌, inl, inr, refl, sym, ap, ◌∙◌, subst, drop, ◌+◌}
use Rattle.std.specs.Prelude.{Option, None, Some, Ok, Err, Result, ⊤}
use Rattle.dns_name.specs.Laws.{OneNameAtTheFront}
use Rattle.ecs_option.specs.Laws.{OneReading}
use Rattle.ecs_option.specs.declared.subnet.ClientSubnet.{ClientSubnet}
use Rattle.ecs_option.specs.declared.subnet.Malformed.{Malformed}
use Rattle.dns_message.specs.Edns.{TellsEdns, TellsSubnet, first_body, opts_of}
use Rattle.dns_message.specs.Judge.{HasQuery, IsAnsweredBy, IsFirst, Judges, NoneHolds, Point, points, query_of}
use Rattle.dns_message.specs.Judge.Point.{Unheard, Kind, Counts, Question, Additionals, Version, Subnet}
use Rattle.dns_message.specs.Laws.{OneSplit}
use Rattle.dns_message.specs.Records.{AnyRecord, BeginsWithRecords, Split, SplitsAs}
use Rattle.dns_message.specs.declared.query.Edns.{Edns}
use Rattle.dns_message.specs.declared.query.Query.{Query}
use Rattle.dns_message.specs.declared.query.QueryRead.{QueryRead}
use Rattle.dns_message.specs.declared.query.QueryRead.TheVariants as read
use Rattle.dns_message.proofs.Judging.{never_both}
use Rattle.dns_message.proofs.OptionLists.{one_list}
use Rattle.dns_message.proofs.Question.{one_question}
use Rattle.dns_message.proofs.Walking.{one_list_of_records}

one_of_parts : (split other : Split) → split.name ≡ other.name
    → split.question_len ≡ other.question_len → split.records ≡ other.records → split ≡ other
one_of_parts split other name len records =
    let first : split ≡ record split { name = other.name } = ap (λ n. record split { name = n }) name in
    let second : record split { name = other.name }
    ≡ record split { name = other.name; question_len = other.question_len } =
    ap (λ n. record split { name = other.name; question_len = n }) len in
    first ∙ second
    ∙ ap (λ r. record split { name = other.name; question_len = other.question_len; records = r }) records

pub one_split : OneNameAtTheFront → (packet : List ℕ) (split other : Split) → SplitsAs packet split
    → SplitsAs packet other → split ≡ other
one_split one_name packet split other s t =
    let question = one_question one_name packet _ _ _ _ s.question t.question in
    let behind : BeginsWithRecords (drop (12 + split.question_len) packet) other.records =
    subst (λ n. BeginsWithRecords (drop (12 + n) packet) other.records) (sym question.1) t.records in
    let records : split.records ≡ other.records =
    one_list_of_records _ _ _ (s.count ∙ sym t.count) s.records behind in
    one_of_parts split other question.0 question.1 records

-- ---- the first point

no_first : (list : List Point) (point : Point) (packet : List ℕ) → NoneHolds list packet
    → IsFirst list point packet → ⊥
no_first [] point packet none first = first
no_first (p ∷ list) point packet none (inl first) = none.0 first.0
no_first (p ∷ list) point packet none (inr first) = no_first list point packet none.1 first.1

one_first : (list : List Point) (point other : Point) (packet : List ℕ) → IsFirst list point packet
    → IsFirst list other packet → point ≡ other
one_first [] point other packet a b = absurd a
one_first (p ∷ list) point other packet (inl a) (inl b) = a.1 ∙ sym b.1
one_first (p ∷ list) point other packet (inl a) (inr b) = absurd (b.0 a.0)
one_first (p ∷ list) point other packet (inr a) (inl b) = absurd (a.0 b.0)
one_first (p ∷ list) point other packet (inr a) (inr b) = one_first list point other packet a.1 b.1

one_code : (point : Point) (rcode other : ℕ) → IsAnsweredBy point rcode → IsAnsweredBy point other
    → rcode ≡ other
one_code Unheard rcode other a b = absurd a
one_code Kind rcode other a b = a ∙ sym b
one_code Counts rcode other a b = a ∙ sym b
one_code Question rcode other a b = a ∙ sym b
one_code Additionals rcode other a b = a ∙ sym b
one_code Version rcode other a b = absurd a
one_code Subnet rcode other a b = a ∙ sym b

-- ---- the query

ok_of : Result ClientSubnet Malformed → Option ClientSubnet
ok_of (Ok told) = Some told
ok_of (Err fault) = None

one_subnet : OneReading → (body : Option (List ℕ)) (told other : Option ClientSubnet)
    → TellsSubnet body told → TellsSubnet body other → told ≡ other
unfolding ok_of
one_subnet one None told other a b = a ∙ sym b
one_subnet one (Some body) None None a b = refl
one_subnet one (Some body) None (Some other) a b = absurd (never_both body other a.0 b a.1)
one_subnet one (Some body) (Some told) None a b = absurd (never_both body told b.0 a b.1)
one_subnet one (Some body) (Some told) (Some other) a b =
    ap ok_of (one body (Ok told) (Ok other) a b)

edns_of_parts : (edns other : Edns) → edns.size ≡ other.size → edns.dnssec_ok ≡ other.dnssec_ok
    → edns.subnet ≡ other.subnet → edns ≡ other
edns_of_parts edns other size dnssec_ok subnet =
    let first : edns ≡ record edns { size = other.size } = ap (λ n. record edns { size = n }) size in
    let second : record edns { size = other.size }
    ≡ record edns { size = other.size; dnssec_ok = other.dnssec_ok } =
    ap (λ b. record edns { size = other.size; dnssec_ok = b }) dnssec_ok in
    first ∙ second
    ∙ ap (λ s. record edns { size = other.size; dnssec_ok = other.dnssec_ok; subnet = s }) subnet

one_edns : OneReading → (opts : List AnyRecord) (edns other : Option Edns) → TellsEdns opts edns
    → TellsEdns opts other → edns ≡ other
one_edns one [] edns other a b = a ∙ sym b
one_edns one (r ∷ opts) None other a b = absurd a
one_edns one (r ∷ opts) (Some edns) None a b = absurd b
one_edns one (r ∷ opts) (Some edns) (Some other) a b =
    let size : edns.size ≡ other.size = a.size ∙ sym b.size in
    let dnssec_ok : edns.dnssec_ok ≡ other.dnssec_ok = a.dnssec_ok ∙ sym b.dnssec_ok in
    let options = one_list r.rdata a.options b.options a.filled b.filled in
    let subnet : edns.subnet ≡ other.subnet =
    one_subnet one (first_body 8 a.options) edns.subnet other.subnet a.subnet
    (subst (λ l. TellsSubnet (first_body 8 l) other.subnet) (sym options) b.subnet) in
    ap Some (edns_of_parts edns other size dnssec_ok subnet)

one_query : OneSplit → OneReading → (packet : List ℕ) (query other : Query) → HasQuery packet query
    → HasQuery packet other → query ≡ other
one_query one_split one packet query other a b =
    let split : a.split ≡ b.split = one_split packet a.split b.split a.splits b.splits in
    let edns : query.edns ≡ other.edns =
    one_edns one (opts_of a.split.records) query.edns other.edns a.edns
    (subst (λ s. TellsEdns (opts_of s.records) other.edns) (sym split) b.edns) in
    a.fields ∙ ap (λ (s : Split). query_of packet s.name s.question_len query.edns) split
    ∙ ap (query_of packet b.split.name b.split.question_len) edns ∙ sym b.fields

-- the point at which a packet is unheard
abbrev is_unheard : Point → Type 0
is_unheard Unheard = ⊤
is_unheard Kind = ⊥
is_unheard Counts = ⊥
is_unheard Question = ⊥
is_unheard Additionals = ⊥
is_unheard Version = ⊥
is_unheard Subnet = ⊥

pub one_judgement : OneSplit → OneReading → (packet : List ℕ) (judged other : QueryRead)
    → Judges packet judged → Judges packet other → judged ≡ other
one_judgement one_split one packet read.Silent read.Silent x y = refl
one_judgement one_split one packet read.Silent (read.Bad id opcode rd rcode) x y =
    absurd (subst (λ p. IsAnsweredBy p rcode) (sym (one_first points Unheard y.point packet x y.first)) y.code)
one_judgement one_split one packet read.Silent (read.BadVersion query) x y =
    absurd (subst is_unheard (one_first points Unheard Version packet x y.0) tt)
one_judgement one_split one packet read.Silent (read.Query query) x y =
    absurd (no_first points Unheard packet y.0 x)
one_judgement one_split one packet (read.Bad id opcode rd rcode) read.Silent x y =
    absurd (subst (λ p. IsAnsweredBy p rcode) (one_first points x.point Unheard packet x.first y) x.code)
one_judgement one_split one packet (read.Bad id opcode rd rcode) (read.Bad id' opcode' rd' rcode') x y =
    let point = one_first points x.point y.point packet x.first y.first in
    let code : rcode ≡ rcode' =
    one_code y.point rcode rcode' (subst (λ p. IsAnsweredBy p rcode) point x.code) y.code in
    let same_id : id ≡ id' = x.same_id ∙ sym y.same_id in
    let same_opcode : opcode ≡ opcode' = x.same_opcode ∙ sym y.same_opcode in
    let same_rd : rd ≡ rd' = x.same_rd ∙ sym y.same_rd in
    cc
one_judgement one_split one packet (read.Bad id opcode rd rcode) (read.BadVersion query) x y =
    absurd (subst (λ p. IsAnsweredBy p rcode) (one_first points x.point Version packet x.first y.0) x.code)
one_judgement one_split one packet (read.Bad id opcode rd rcode) (read.Query query) x y =
    absurd (no_first points x.point packet y.0 x.first)
one_judgement one_split one packet (read.BadVersion query) read.Silent x y =
    absurd (subst is_unheard (one_first points Unheard Version packet y x.0) tt)
one_judgement one_split one packet (read.BadVersion query) (read.Bad id opcode rd rcode) x y =
    absurd (subst (λ p. IsAnsweredBy p rcode) (sym (one_first points Version y.point packet x.0 y.first)) y.code)
one_judgement one_split one packet (read.BadVersion query) (read.BadVersion other) x y =
    ap read.BadVersion (one_query one_split one packet query other x.1 y.1)
one_judgement one_split one packet (read.BadVersion query) (read.Query other) x y =
    absurd (no_first points Version packet y.0 x.0)
one_judgement one_split one packet (read.Query query) read.Silent x y =
    absurd (no_first points Unheard packet x.0 y)
one_judgement one_split one packet (read.Query query) (read.Bad id opcode rd rcode) x y =
    absurd (no_first points y.point packet x.0 y.first)
one_judgement one_split one packet (read.Query query) (read.BadVersion other) x y =
    absurd (no_first points Version packet x.0 y.0)
one_judgement one_split one packet (read.Query query) (read.Query other) x y =
    ap read.Query (one_query one_split one packet query other x.1 y.1)
