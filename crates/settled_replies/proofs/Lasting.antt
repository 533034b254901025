-- A query that has one reply whoever asks has it by each ID.
use Rattle.std.proofs.Common.{◌≡◌, ◌≤◌, ◌<◌, ◌+◌, ◌*◌, ◌%◌, ◌++◌, ℕ, Bool, List, [], ◌∷◌, Option, None, Some, length, take, drop, sym, ap, ◌∙◌, subst, arith, inl}
use Rattle.std.specs.Prelude.{IfSome, slice_get}
use Rattle.cidr_blocks.specs.declared.places.Collection.{Collection}
use Rattle.dns_message.specs.Header.{id_of}
use Rattle.dns_message.specs.Judge.{Judges}
use Rattle.dns_message.specs.declared.query.Query.{Query}
use Rattle.dns_message.specs.declared.query.QueryRead.TheVariants as read
use Rattle.dns_name.specs.Names.{AreOctets}
use Rattle.dns_wire.specs.Limit.{limit_of}
use Rattle.dns_wire.specs.Message.{Message, octets_within}
use Rattle.record_set.specs.declared.sets.RecordSet.{RecordSet}
use Rattle.record_set.specs.declared.sets.SetKey.{SetKey}
use Rattle.zone_model.specs.Hosted.{HostedZone}
use Rattle.geo_latency.specs.declared.tables.Tables.{Tables}
use Rattle.zone_lookup.specs.Reply.{Served}
use Rattle.settled_replies.specs.Findings.{RepliesToAll}
use Rattle.settled_replies.specs.Settled.{AnswersAll, IsSettled}
use Rattle.settled_replies.proofs.Answering.{with_each_id}
use Rattle.settled_replies.proofs.Ids.{high_of, judged, low_of, with_id}

some_same : {X : Type 0} {x y : X} → Some x ≡ Some y → x ≡ y
some_same e = cc

-- the first of some sets, and the others
pub first_of : (sets : List RecordSet) (set : RecordSet) → slice_get sets 0 ≡ Some set
    → (others : List RecordSet) × (sets ≡ set ∷ others)
first_of [] set e = absurd (grind (arith, e))
first_of (x ∷ sets) set e = (sets, ap (λ (s : RecordSet). s ∷ sets) (some_same e))

-- what follows, where there is something
pub if_some : {P Q : Type 0} (found : Option ℕ) → (P → Q) → IfSome found (λ n. P) → IfSome found (λ n. Q)
if_some None on its = tt
if_some (Some n) on its = on its

module _ (zones : List HostedZone) (collections : List (ℕ × Collection))
    (healthy : (zone : ℕ) → SetKey → Bool) (tables : Tables) where
  abbrev served : Served
  served = record { zones = zones; collections = collections; healthy = healthy; tables = tables }

  pub answers_all : (packet : List ℕ) (query : Query) (reply : Message) (bytes : List ℕ)
      → Judges packet (read.Query query) → RepliesToAll served query reply
      → bytes ≡ octets_within reply (limit_of query.edns) → AnswersAll zones collections healthy tables packet bytes
  answers_all packet query reply bytes judges all is asker = record {
    judged = read.Query query;
    judges = judges;
    answered = ap Some (is ∙ sym (ap (λ (m : Message). octets_within m (limit_of query.edns)) (all asker)));
  }

  -- the octets with another ID
  same_id : (m : Message) (bytes : List ℕ) (limit c d : ℕ) → c < 256 → d < 256 → bytes ≡ octets_within m limit
      → c ∷ d ∷ drop 2 bytes ≡ octets_within (record m { id = c * 256 + d }) limit
  same_id m bytes limit c d lc ld is =
      ap (λ (l : List ℕ). c ∷ d ∷ drop 2 l) is
      ∙ sym (with_id m (c * 256 + d) limit
      ∙ (ap (λ (x : ℕ). x ∷ ((c * 256 + d) % 256) ∷ drop 2 (octets_within m limit)) (high_of c d lc ld)
      ∙ ap (λ (x : ℕ). c ∷ x ∷ drop 2 (octets_within m limit)) (low_of c d lc ld)))

  pub settled_all : (packet : List ℕ) (query : Query) (reply : Message) (bytes : List ℕ)
      → Judges packet (read.Query query) → RepliesToAll served query reply
      → bytes ≡ octets_within reply (limit_of query.edns)
      → IsSettled zones collections healthy tables (drop 2 packet) (drop 2 bytes)
  settled_all [] query reply bytes judges all is = absurd (judges.0.0 (inl (omega arith)))
  settled_all (a ∷ []) query reply bytes judges all is = absurd (judges.0.0 (inl (omega arith)))
  settled_all (a ∷ b ∷ t) query reply bytes judges all is = by
    where
      one : (c d : ℕ) → c < 256 → d < 256 → AnswersAll zones collections healthy tables (c ∷ d ∷ t) (c ∷ d ∷ drop 2 bytes)
      one c d lc ld =
          answers_all (c ∷ d ∷ t) (record query { id = id_of (c ∷ d ∷ t) }) (record reply { id = c * 256 + d })
          (c ∷ d ∷ drop 2 bytes)
          (judged t a b c d query judges)
          (with_each_id served query reply (c * 256 + d) all)
          (same_id reply bytes (limit_of query.edns) c d lc ld is)

      by : (whole : List ℕ) → AreOctets whole → 2 ≤ length whole → drop 2 whole ≡ t
          → AnswersAll zones collections healthy tables whole (take 2 whole ++ drop 2 bytes)
      by [] octets many same = absurd (omega (arith, many))
      by (c ∷ []) octets many same = absurd (omega (arith, many))
      by (c ∷ d ∷ s) octets many same =
          subst (λ (behind : List ℕ). AnswersAll zones collections healthy tables (c ∷ d ∷ behind) (c ∷ d ∷ drop 2 bytes)) (sym same)
          (one c d octets.0 octets.1.0)
