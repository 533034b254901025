use Rattle.std.proofs.Common.{◌∙◌, ◌<◌, ◌≤◌, ◌/◌, ◌%◌, List, ap, drop, refl, sym, subst}
use Rattle.std.proofs.lemmas.Bool.{false≢true}
use Rattle.dns_message.specs.Edns.{AreOptions, EdnsOption}
use Rattle.dns_message.specs.Records.{record_of}
use Rattle.dns_message.specs.Walk.{IsOptOf}
use Rattle.dns_message.specs.declared.walked.Walked.TheVariants as walked
use Rattle.dns_message.specs.Judge.Point.{Kind, Counts, Question, Additionals, Subnet}
use Rattle.dns_message.proofs.Judging.{heard, sifted, first_kind, first_counts, first_question}
use Rattle.dns_message.proofs.Judging.{judged_bad}
use Rattle.dns_message.proofs.Judging.{walks_behind, walks_to_none, walks_with, judged_broken, judged_plain, whole_plain}
use Rattle.dns_message.proofs.Judging.{judged_version, judged_malformed, judged_query}
use Rattle.dns_message.proofs.Judging.{whole_version, whole_with, with_edns}
use Rattle.dns_message.proofs.read.read_over.Goals as goal

pub returns-then-opcode-ne0-clause-judges : goal.returns-then-opcode-ne0-clause-judges
returns-then-opcode-ne0-clause-judges c =
    judged_bad c.args.packet.now Kind 4 _ _
    (first_kind c.args.packet.now
    (heard c.args.packet.now c.if-packet-lt-HEADER_LEN.false c.if-packet-ge128.false)
    (λ e. c.if-opcode-ne0.true (c.opcode.ensures ∙ e))) refl c.bad.ensures

pub returns-then-not-has_query_counts-clause-judges : goal.returns-then-not-has_query_counts-clause-judges
returns-then-not-has_query_counts-clause-judges c =
    judged_bad c.args.packet.now Counts 1 _ _
    (first_counts c.args.packet.now
    (heard c.args.packet.now c.if-packet-lt-HEADER_LEN.false c.if-packet-ge128.false)
    (sym c.opcode.ensures ∙ c.if-opcode-ne0.false) (λ h. false≢true (c.if-not-has_query_counts.ensures.1 h)))
    refl c.bad-then-not-has_query_counts.ensures

pub returns-in_default-clause-judges : goal.returns-in_default-clause-judges
returns-in_default-clause-judges c =
    judged_bad c.args.packet.now Question 1 _ _
    (first_question c.args.packet.now
    (heard c.args.packet.now c.if-packet-lt-HEADER_LEN.false c.if-packet-ge128.false)
    (sym c.opcode.ensures ∙ c.if-opcode-ne0.false) (c.if-not-has_query_counts.ensures.0 refl)
    c.in_default.ensures.none)
    refl c.bad-in_default.ensures

pub returns-in-Broken-clause-judges : goal.returns-in-Broken-clause-judges
returns-in-Broken-clause-judges c =
    let s = sifted c.args.packet.now c.if-packet-lt-HEADER_LEN.false c.if-packet-ge128.false
    (sym c.opcode.ensures ∙ c.if-opcode-ne0.false) (c.if-not-has_query_counts.ensures.0 refl) _ _
    c.in-Some.ensures.some in
    judged_bad c.args.packet.now Additionals 1 _ _
    (judged_broken c.args.packet.now _ _ c.in-Some.ensures.some c.in-Some.ensures.only s
    (walks_behind c.args.packet.now _ _ _ walked.Broken c.behind-records.ensures c.number_at.ensures
    c.in-Broken.ensures))
    refl c.bad-in-Broken.ensures

pub returns-in-Plain-clause-judges : goal.returns-in-Plain-clause-judges
returns-in-Plain-clause-judges c =
    let s = sifted c.args.packet.now c.if-packet-lt-HEADER_LEN.false c.if-packet-ge128.false
    (sym c.opcode.ensures ∙ c.if-opcode-ne0.false) (c.if-not-has_query_counts.ensures.0 refl) _ _
    c.in-Some.ensures.some in
    judged_plain c.args.packet.now _ _ c.in-Some.ensures.some c.in-Some.ensures.only s
    (walks_behind c.args.packet.now _ _ _ walked.Plain c.behind-records.ensures c.number_at.ensures
    c.in-Plain.ensures)
    c.fill.new.query c.fill.ensures

pub returns-in-Plain-clause-whole : goal.returns-in-Plain-clause-whole
returns-in-Plain-clause-whole c =
    let s = sifted c.args.packet.now c.if-packet-lt-HEADER_LEN.false c.if-packet-ge128.false
    (sym c.opcode.ensures ∙ c.if-opcode-ne0.false) (c.if-not-has_query_counts.ensures.0 refl) _ _
    c.in-Some.ensures.some in
    whole_plain c.args.packet.now _ _ c.in-Some.ensures.some c.in-Some.ensures.only s
    c.fill.new.query c.fill.ensures

pub returns-in_default-read_opt-clause-judges : goal.returns-in_default-read_opt-clause-judges
returns-in_default-read_opt-clause-judges c =
    let s = sifted c.args.packet.now c.if-packet-lt-HEADER_LEN.false c.if-packet-ge128.false
    (sym c.opcode.ensures ∙ c.if-opcode-ne0.false) (c.if-not-has_query_counts.ensures.0 refl) _ _
    c.in-Some.ensures.some in
    let w = walks_behind c.args.packet.now _ _ _ (walked.At c.in-At.at)
    c.behind-records.ensures c.number_at.ensures c.in-At.ensures in
    let there = c.behind-opt.ensures ∙ ap (drop c.in-At.at) c.behind-records.ensures in
    judged_bad c.args.packet.now Additionals 1 _ _
    (judged_broken c.args.packet.now _ _ c.in-Some.ensures.some c.in-Some.ensures.only s
    (walks_to_none _ _ c.in-At.at w
    (subst (λ l. (options : List EdnsOption) → AreOptions (record_of l 1).rdata options → ⊥) there
    c.in_default-read_opt.ensures.none)))
    refl c.bad-in_default-read_opt.ensures

pub returns-then-version_of-gt0-clause-judges : goal.returns-then-version_of-gt0-clause-judges
returns-then-version_of-gt0-clause-judges c =
    let s = sifted c.args.packet.now c.if-packet-lt-HEADER_LEN.false c.if-packet-ge128.false
    (sym c.opcode.ensures ∙ c.if-opcode-ne0.false) (c.if-not-has_query_counts.ensures.0 refl) _ _
    c.in-Some.ensures.some in
    let w = walks_behind c.args.packet.now _ _ _ (walked.At c.in-At.at)
    c.behind-records.ensures c.number_at.ensures c.in-At.ensures in
    let there = c.behind-opt.ensures ∙ ap (drop c.in-At.at) c.behind-records.ensures in
    let told = c.in-Some-read_opt.ensures.some in
    let found = walks_with _ _ c.in-At.at told.0 w
    (subst (λ l. IsOptOf (record_of l 1) told.0) there told.1) in
    judged_version c.args.packet.now _ _ c.in-Some.ensures.some c.in-Some.ensures.only s told.0 found
    (subst (λ v. 0 < v) (c.version_of.ensures ∙ ap (λ t. t / 65536 % 256) (sym told.1.ttl)) c.if-version_of-gt0.true)
    (record c.fill.new.query { edns = c.read_opt.new.edns })
    (with_edns _ _ _ _ _ _ c.fill.ensures told.2)

pub returns-then-version_of-gt0-clause-whole : goal.returns-then-version_of-gt0-clause-whole
returns-then-version_of-gt0-clause-whole c =
    let s = sifted c.args.packet.now c.if-packet-lt-HEADER_LEN.false c.if-packet-ge128.false
    (sym c.opcode.ensures ∙ c.if-opcode-ne0.false) (c.if-not-has_query_counts.ensures.0 refl) _ _
    c.in-Some.ensures.some in
    let w = walks_behind c.args.packet.now _ _ _ (walked.At c.in-At.at)
    c.behind-records.ensures c.number_at.ensures c.in-At.ensures in
    let there = c.behind-opt.ensures ∙ ap (drop c.in-At.at) c.behind-records.ensures in
    let told = c.in-Some-read_opt.ensures.some in
    let found = walks_with _ _ c.in-At.at told.0 w
    (subst (λ l. IsOptOf (record_of l 1) told.0) there told.1) in
    whole_version c.args.packet.now _ _ c.in-Some.ensures.some c.in-Some.ensures.only s told.0 found
    (record c.fill.new.query { edns = c.read_opt.new.edns })
    (with_edns _ _ _ _ _ _ c.fill.ensures told.2)

pub returns-then-is_malformed-clause-judges : goal.returns-then-is_malformed-clause-judges
returns-then-is_malformed-clause-judges c =
    let s = sifted c.args.packet.now c.if-packet-lt-HEADER_LEN.false c.if-packet-ge128.false
    (sym c.opcode.ensures ∙ c.if-opcode-ne0.false) (c.if-not-has_query_counts.ensures.0 refl) _ _
    c.in-Some.ensures.some in
    let w = walks_behind c.args.packet.now _ _ _ (walked.At c.in-At.at)
    c.behind-records.ensures c.number_at.ensures c.in-At.ensures in
    let there = c.behind-opt.ensures ∙ ap (drop c.in-At.at) c.behind-records.ensures in
    let told = c.in-Some-read_opt.ensures.some in
    let found = walks_with _ _ c.in-At.at told.0 w
    (subst (λ l. IsOptOf (record_of l 1) told.0) there told.1) in
    judged_bad c.args.packet.now Subnet 1 _ _
    (judged_malformed c.args.packet.now _ _ c.in-Some.ensures.some c.in-Some.ensures.only s told.0 found
    (subst (λ v. v ≤ 0) (c.version_of.ensures ∙ ap (λ t. t / 65536 % 256) (sym told.1.ttl)) c.if-version_of-gt0.false)
    (told.3.0 c.if-is_malformed.true)) refl c.bad-then-is_malformed.ensures

pub returns-clause-judges : goal.returns-clause-judges
returns-clause-judges c =
    let s = sifted c.args.packet.now c.if-packet-lt-HEADER_LEN.false c.if-packet-ge128.false
    (sym c.opcode.ensures ∙ c.if-opcode-ne0.false) (c.if-not-has_query_counts.ensures.0 refl) _ _
    c.in-Some.ensures.some in
    let w = walks_behind c.args.packet.now _ _ _ (walked.At c.in-At.at)
    c.behind-records.ensures c.number_at.ensures c.in-At.ensures in
    let there = c.behind-opt.ensures ∙ ap (drop c.in-At.at) c.behind-records.ensures in
    let told = c.in-Some-read_opt.ensures.some in
    let found = walks_with _ _ c.in-At.at told.0 w
    (subst (λ l. IsOptOf (record_of l 1) told.0) there told.1) in
    judged_query c.args.packet.now _ _ c.in-Some.ensures.some c.in-Some.ensures.only s told.0 found
    (subst (λ v. v ≤ 0) (c.version_of.ensures ∙ ap (λ t. t / 65536 % 256) (sym told.1.ttl)) c.if-version_of-gt0.false)
    (λ e. false≢true (sym c.if-is_malformed.false ∙ told.3.1 e))
    (record c.fill.new.query { edns = c.read_opt.new.edns })
    (with_edns _ _ _ _ _ _ c.fill.ensures told.2)

pub returns-clause-whole : goal.returns-clause-whole
returns-clause-whole c =
    let s = sifted c.args.packet.now c.if-packet-lt-HEADER_LEN.false c.if-packet-ge128.false
    (sym c.opcode.ensures ∙ c.if-opcode-ne0.false) (c.if-not-has_query_counts.ensures.0 refl) _ _
    c.in-Some.ensures.some in
    let w = walks_behind c.args.packet.now _ _ _ (walked.At c.in-At.at)
    c.behind-records.ensures c.number_at.ensures c.in-At.ensures in
    let there = c.behind-opt.ensures ∙ ap (drop c.in-At.at) c.behind-records.ensures in
    let told = c.in-Some-read_opt.ensures.some in
    let found = walks_with _ _ c.in-At.at told.0 w
    (subst (λ l. IsOptOf (record_of l 1) told.0) there told.1) in
    whole_with c.args.packet.now _ _ c.in-Some.ensures.some c.in-Some.ensures.only s told.0 found
    (record c.fill.new.query { edns = c.read_opt.new.edns })
    (with_edns _ _ _ _ _ _ c.fill.ensures told.2)
