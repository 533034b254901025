-- No reply to a packet has more than 4,096 octets.
use Rattle.std.proofs.Common.{◌≡◌, ℕ, zero, suc, ◌≤◌, List, [], ◌∷◌, length, take, Bool, true, false, Option, None, Some, ap, arith, length-append, refl, subst, sym}
use Rattle.std.specs.Prelude.{⊤, nat_le, if◌then◌else◌}
use Rattle.std.specs.List.{flat_map}
use Rattle.std.proofs.lemmas.Bool.{leb-true}
use Rattle.std.proofs.lemmas.List.{length-take}
use Rattle.answer_model.specs.Reply.{Asker, Served, query_reply, reply_to_read, zone_reply}
use Rattle.dns_message.specs.ClientSubnetRecord.{ClientSubnet}
use Rattle.dns_message.specs.Records.{AnyRecord}
use Rattle.dns_wire.specs.Draft.{opt_of, options_of}
use Rattle.dns_wire.specs.Edns.{TellsEdns, TellsSubnet, first_body}
use Rattle.dns_wire.specs.EdnsRecord.{Edns}
use Rattle.dns_wire.specs.Judge.{HasQuery, Judges}
use Rattle.dns_wire.specs.Limit.{limit_of, refusal_of, version_refusal_of}
use Rattle.dns_wire.specs.Message.{Message, octets_of, opt_octets, option_octets, octets_within, without_records}
use Rattle.dns_wire.specs.QueryRecord.{Query}
use Rattle.dns_wire.specs.QueryReadRecord.{QueryRead}
use Rattle.dns_wire.specs.QueryReadRecord.TheVariants as read
use Rattle.dns_wire.specs.Question.{Asks}
use Rattle.dns_wire.specs.Whole.{subnet_of}
use Rattle.ecs_option.specs.Grammar.{Source, bits_of, family_of, octets_for}
use Rattle.ecs_option.specs.Writing.{data_of}
use Rattle.geo_latency.specs.declared.tables.Tables.{Tables}
use Rattle.serve_turns.specs.Engine.{Engine, QueryGives, served_in}
use Rattle.zone_model.specs.Hosted.{HostedZone}

-- ---- the OPT record

-- a subnet that is told has 128 bits at most
abbrev IsShort : Option ClientSubnet → Type 0
IsShort None = ⊤
IsShort (Some subnet) = subnet.source ≤ 128

few_bits : (family : ℕ) → bits_of family ≤ 128
few_bits zero = omega arith
few_bits (suc zero) = omega arith
few_bits (suc (suc n)) = omega arith

subnet_short : (body : Option (List ℕ)) (subnet : Option ClientSubnet) → TellsSubnet body subnet
    → IsShort subnet
subnet_short body None is = tt
subnet_short None (Some subnet) is = absurd (Prim.cc)
subnet_short (Some body) (Some subnet) (formed, is) =
    subst (λ (s : ClientSubnet). s.source ≤ 128) (sym is)
    (omega (arith, formed Source, few_bits (family_of body)))

edns_short : (opts : List AnyRecord) (edns : Option Edns) → TellsEdns opts edns
    → IsShort (subnet_of edns)
edns_short opts None is = tt
edns_short [] (Some edns) is = absurd (Prim.cc)
edns_short (r ∷ opts) (Some edns) is =
    subnet_short (first_body 8 is.options) edns.subnet is.subnet

options_short : (subnet : Option ClientSubnet) (scope : ℕ) → IsShort subnet
    → length (flat_map option_octets (options_of subnet scope)) ≤ 24
options_short None scope is = omega arith
options_short (Some subnet) scope is =
    omega (
      arith,
      is,
      length-append (data_of subnet scope) [],
      length-take (octets_for subnet.source) subnet.address,
    )

opt_short : (rcode : ℕ) (edns : Option Edns) (scope : ℕ) → IsShort (subnet_of edns)
    → length (opt_octets rcode (opt_of edns scope)) ≤ 35
opt_short rcode None scope is = omega arith
opt_short rcode (Some edns) scope is = omega (arith, options_short edns.subnet scope is)

-- ---- a reply

-- it has a query's question, and the OPT record of a reply to it
record IsTo (query : Query) (m : Message) : Type 0 where
  question : m.question ≡ take query.question_len query.question
  scope : ℕ
  opt : m.opt ≡ opt_of query.edns scope

query_reply_is : (served : Served) (asker : Asker) (query : Query)
    → (b : Bool) (found : Option HostedZone)
    → IsTo query (if b then refusal_of query else zone_reply served asker query found)
query_reply_is served asker query true found = record { question = refl; scope = 0; opt = refl }
query_reply_is served asker query false None = record { question = refl; scope = 0; opt = refl }
query_reply_is served asker query false (Some zone) =
    record { question = refl; scope = _; opt = refl }

-- a question has 259 octets at most
question_fits : (packet : List ℕ) (labels : List (List ℕ)) (n : ℕ) → Asks packet labels n → n ≤ 259
question_fits packet labels n asks = omega (arith, asks.size, asks.name.size, asks.name.name.fits)

question_short : (packet : List ℕ) (query : Query) → HasQuery packet query
    → length (take query.question_len query.question) ≤ 259
question_short packet query has =
    omega (
      arith,
      length-take query.question_len query.question,
      ap (λ (q : Query). q.question_len) has.fields,
      question_fits packet has.split.name has.split.question_len has.splits.question,
    )

cut_short : (m : Message) → length m.question ≤ 259 → length (opt_octets m.rcode m.opt) ≤ 35
    → length (octets_of true (without_records m)) ≤ 512
cut_short m question opt =
    omega (arith, question, opt, length-append m.question (opt_octets m.rcode m.opt))

wire_short : (m : Message) (limit : ℕ) → 512 ≤ limit
    → length (octets_of true (without_records m)) ≤ 512 → length (octets_within m limit) ≤ limit
unfolding octets_within
wire_short m limit least cut = go (nat_le (length (octets_of false m)) limit) refl
  where
    go : (b : Bool) → nat_le (length (octets_of false m)) limit ≡ b
        → length (if b then octets_of false m else octets_of true (without_records m)) ≤ limit
    go true is = leb-true (length (octets_of false m)) limit is
    go false is = omega (arith, least, cut)

least_limit : (edns : Option Edns) → 512 ≤ limit_of edns
least_limit None = omega arith
least_limit (Some edns) = omega arith

most_limit : (edns : Option Edns) → limit_of edns ≤ 4096
most_limit None = omega arith
most_limit (Some edns) = omega arith

reply_short : (packet : List ℕ) (query : Query) → HasQuery packet query → (m : Message)
    → IsTo query m → length (octets_within m (limit_of query.edns)) ≤ 4096
reply_short packet query has m is =
    let question = subst (λ (l : List ℕ). length l ≤ 259) (sym is.question)
    (question_short packet query has) in
    let opt = subst (λ o. length (opt_octets m.rcode o) ≤ 35) (sym is.opt)
    (opt_short m.rcode query.edns is.scope (edns_short _ query.edns has.edns)) in
    omega (
      arith,
      wire_short m (limit_of query.edns) (least_limit query.edns) (cut_short m question opt),
      most_limit query.edns,
    )

same_reply : (reply other : List ℕ) → Some reply ≡ Some other → length other ≤ 4096
    → length reply ≤ 4096
same_reply reply other is short = let one : reply ≡ other = cc in
    subst (λ (l : List ℕ). length l ≤ 4096) (sym one) short

short : (served : Served) (asker : Asker) (packet : List ℕ) (judged : QueryRead)
    → Judges packet judged → (reply : List ℕ) → Some reply ≡ reply_to_read served asker judged
    → length reply ≤ 4096
short served asker packet read.Silent judges reply is = absurd (Prim.cc)
short served asker packet (read.Bad id opcode rd rcode) judges reply is =
    same_reply reply _ is (omega arith)
short served asker packet (read.BadVersion query) judges reply is =
    same_reply reply _ is (reply_short packet query judges.1 (version_refusal_of query)
    (record { question = refl; scope = 0; opt = refl }))
short served asker packet (read.Query query) judges reply is =
    same_reply reply _ is (reply_short packet query judges.1 (query_reply served asker query)
    (query_reply_is served asker query _ _))

pub query_short : (engine : Engine) (tables : Tables) (asker : Asker) (packet reply : List ℕ)
    → QueryGives engine tables asker packet (Some reply) → length reply ≤ 4096
query_short engine tables asker packet reply gives =
    short (served_in engine tables) asker packet gives.judged gives.judges reply gives.answered
