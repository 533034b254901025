-- Packets that differ in their IDs alone, and the replies to them.
use Rattle.std.proofs.Common.{◌≡◌, ◌<◌, ◌+◌, ◌*◌, ◌/◌, ◌%◌, ℕ, Bool, true, false, List, [], ◌∷◌, Option, suc, length, drop, refl, sym, ap, ◌∙◌, subst, arith, nat_le}
use Rattle.std.specs.Prelude.{cond, slice_index}
use Rattle.octets.specs.Numbers.{number_at}
use Rattle.dns_message.specs.declared.query.Edns.{Edns}
use Rattle.dns_message.specs.Header.{HasQueryCounts, id_of}
use Rattle.dns_message.specs.Judge.{HoldsOf, Judges, NoneHolds, Point, points, query_of}
use Rattle.dns_message.specs.Judge.Point.{Unheard, Kind, Counts, Question, Additionals, Version, Subnet}
use Rattle.dns_message.specs.Question.{Asks}
use Rattle.dns_message.specs.Records.{BeginsWithRecords, Split, SplitsAs}
use Rattle.dns_message.specs.declared.query.Query.{Query}
use Rattle.dns_message.specs.declared.query.QueryRead.TheVariants as read
use Rattle.dns_wire.specs.Message.{Message, octets_of, octets_within, without_records}

-- The octets of a reply with another ID.
pub with_id : (m : Message) (id limit : ℕ)
    → octets_within (record m { id = id }) limit ≡ (id / 256) ∷ (id % 256) ∷ drop 2 (octets_within m limit)
unfolding octets_within
with_id m id limit = by (nat_le (length (octets_of false m)) limit)
  where
    by : (b : Bool)
        → cond b (octets_of false (record m { id = id })) (octets_of true (without_records (record m { id = id })))
        ≡ (id / 256) ∷ (id % 256) ∷ drop 2 (cond b (octets_of false m) (octets_of true (without_records m)))
    by true = refl
    by false = refl

module _ (t : List ℕ) where
  module _ (a b c d : ℕ) where
    -- behind the header
    behind : (n : ℕ) → drop (12 + n) (a ∷ b ∷ t) ≡ drop (12 + n) (c ∷ d ∷ t)
    behind n =
        let far : 12 + n ≡ suc (suc (10 + n)) = omega arith in
        ap (λ (k : ℕ). drop k (a ∷ b ∷ t)) far ∙ sym (ap (λ (k : ℕ). drop k (c ∷ d ∷ t)) far)

    number : (m k : ℕ) → m ≡ suc (suc k) → number_at (a ∷ b ∷ t) m ≡ number_at (c ∷ d ∷ t) m
    number m k far =
        let next : suc (suc k) + 1 ≡ suc (suc (suc k)) = omega arith in
        let own : slice_index (a ∷ b ∷ t) (suc (suc k) + 1) ≡ slice_index (c ∷ d ∷ t) (suc (suc k) + 1) =
        ap (λ (i : ℕ). slice_index (a ∷ b ∷ t) i) next ∙ sym (ap (λ (i : ℕ). slice_index (c ∷ d ∷ t) i) next) in
        ap (λ (i : ℕ). number_at (a ∷ b ∷ t) i) far
        ∙ (ap (λ (low : ℕ). slice_index t k * 256 + low) own
        ∙ sym (ap (λ (i : ℕ). number_at (c ∷ d ∷ t) i) far))

    counts : HasQueryCounts (a ∷ b ∷ t) → HasQueryCounts (c ∷ d ∷ t)
    counts its = record { questions = its.questions; answers = its.answers; authority = its.authority }

    asks : (labels : List (List ℕ)) (n : ℕ) → Asks (a ∷ b ∷ t) labels n → Asks (c ∷ d ∷ t) labels n
    asks labels n its = record { name_len = its.name_len; name = its.name; size = its.size; whole = its.whole }

    splits : (split : Split) → SplitsAs (a ∷ b ∷ t) split → SplitsAs (c ∷ d ∷ t) split
    splits split its = record {
      question = asks split.name split.question_len its.question;
      count = its.count;
      records = subst (λ (octets : List ℕ). BeginsWithRecords octets split.records) (behind split.question_len) its.records;
    }

  -- A point holds of both or of none.
  holds : (a b c d : ℕ) (point : Point) → HoldsOf point (a ∷ b ∷ t) → HoldsOf point (c ∷ d ∷ t)
  holds a b c d Unheard its = its
  holds a b c d Kind its = its
  holds a b c d Counts its = λ other. its (counts c d a b other)
  holds a b c d Question its = λ labels n other. its labels n (asks c d a b labels n other)
  holds a b c d Additionals its = λ split other. its split (splits c d a b split other)
  holds a b c d Version its = (its.0, splits a b c d its.0 its.1, its.2)
  holds a b c d Subnet its = (its.0, splits a b c d its.0 its.1, its.2)

  none : (a b c d : ℕ) (some : List Point) → NoneHolds some (a ∷ b ∷ t) → NoneHolds some (c ∷ d ∷ t)
  none a b c d [] its = tt
  none a b c d (first ∷ others) its = (λ other. its.0 (holds c d a b first other), none a b c d others its.1)

  same_query : (a b c d : ℕ) (labels : List (List ℕ)) (n : ℕ) (edns : Option Edns)
      → record (query_of (a ∷ b ∷ t) labels n edns) { id = id_of (c ∷ d ∷ t) }
      ≡ query_of (c ∷ d ∷ t) labels n edns
  same_query a b c d labels n edns =
      let its = query_of (c ∷ d ∷ t) labels n edns in
      ap (λ (x : ℕ). record its { qtype = x; qclass = number_at (a ∷ b ∷ t) (10 + n) })
      (number a b c d (8 + n) (6 + n) (omega arith))
      ∙ ap (λ (x : ℕ). record its { qclass = x }) (number a b c d (10 + n) (8 + n) (omega arith))

  -- So one is a query where the other is, with its own ID.
  pub judged : (a b c d : ℕ) (query : Query) → Judges (a ∷ b ∷ t) (read.Query query)
      → Judges (c ∷ d ∷ t) (read.Query (record query { id = id_of (c ∷ d ∷ t) }))
  judged a b c d query its = (
    none a b c d points its.0,
    record {
      split = its.1.split;
      splits = splits a b c d its.1.split its.1.splits;
      edns = its.1.edns;
      fields = ap (λ (q : Query). record q { id = id_of (c ∷ d ∷ t) }) its.1.fields
          ∙ same_query a b c d its.1.split.name its.1.split.question_len query.edns;
    },
  )

-- a number of two octets has these
pub high_of : (a b : ℕ) → a < 256 → b < 256 → (a * 256 + b) / 256 ≡ a
high_of a b la lb = omega (arith, la, lb)

pub low_of : (a b : ℕ) → a < 256 → b < 256 → (a * 256 + b) % 256 ≡ b
low_of a b la lb = omega (arith, la, lb)
