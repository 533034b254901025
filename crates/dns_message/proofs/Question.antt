-- The question behind a header.
use Rattle.std.proofs.Common.{◌≡◌, ℕ, ◌+◌, ◌-◌, ◌<◌, ◌≤◌, List, ◌++◌, length, take, drop, replicate, ap, ◌∙◌, sym, subst, arith, length-append, length-drop}
use Rattle.std.proofs.lemmas.List.{drop-replicate, take_at, length-take-le}
use Rattle.std.proofs.Math.Seq.{take-append-add}
use Rattle.dns_name.specs.Labels.{wire as name_wire}
use Rattle.dns_name.specs.Laws.{OneNameAtTheFront}
use Rattle.dns_name.specs.Wire.{BeginsWithNone, BeginsWithOnly}
use Rattle.dns_message.specs.Question.{Asks, HasNoQuestion, IsQuestion}

pub padding : (n : ℕ) → drop n (replicate {A = ℕ} 259 0) ≡ replicate (259 - n) 0
padding n = drop-replicate n 259 0

pub no_name : (packet body : List ℕ) → body ≡ drop 12 packet → BeginsWithNone body
    → HasNoQuestion packet
no_name packet body e none =
    let behind : BeginsWithNone (drop 12 packet) = subst BeginsWithNone e none in
    λ labels n asks. behind labels asks.name_len asks.name

pub too_short : (packet body : List ℕ) (labels : List (List ℕ)) (m : ℕ) → body ≡ drop 12 packet
    → BeginsWithOnly body labels m → length body - m < 4 → HasNoQuestion packet
too_short packet body labels m e only short = λ others n asks.
    let P : List ℕ → Type 0 = λ b. BeginsWithOnly b labels m in
    let same = subst P e only others asks.name_len asks.name in
    omega (arith, same.1, ap length e, length-drop 12 packet, asks.whole, asks.size)

-- a question has the size of the name that was found
pub same_size : (packet body : List ℕ) (labels : List (List ℕ)) (m : ℕ) → body ≡ drop 12 packet
    → BeginsWithOnly body labels m → (others : List (List ℕ)) (n : ℕ) → Asks packet others n
    → n ≡ m + 4
same_size packet body labels m e only others n asks =
    let P : List ℕ → Type 0 = λ b. BeginsWithOnly b labels m in
    let same = subst P e only others asks.name_len asks.name in
    omega (arith, same.1, asks.size)

-- a packet has one question at most
pub one_question : OneNameAtTheFront → (packet : List ℕ) (labels others : List (List ℕ)) (n m : ℕ)
    → Asks packet labels n → Asks packet others m → (labels ≡ others) × (n ≡ m)
one_question one_name packet labels others n m a b =
    let same = one_name _ _ _ b.name _ _ a.name in
    (same.0, omega (arith, same.1, a.size, b.size))

-- a question has 259 octets at most
pub fits : (packet : List ℕ) (labels : List (List ℕ)) (n : ℕ) → Asks packet labels n → n ≤ 259
fits packet labels n a = omega (arith, a.size, a.name.size, a.name.name.fits)

-- the octets behind the header that a question takes
question_is : (packet : List ℕ) (labels : List (List ℕ)) (n : ℕ) → Asks packet labels n
    → IsQuestion labels (take n (drop 12 packet))
question_is packet labels n a =
    let name = name_wire a.name.raw in
    let four = take 4 a.name.rest in
    let size : n ≡ length name + 4 = omega (arith, a.size, a.name.size) in
    let long : 4 ≤ length a.name.rest =
    omega (
      arith,
      a.whole,
      length-drop 12 packet,
      ap length a.name.spelled,
      length-append name a.name.rest,
    ) in
    record {
      raw = a.name.raw;
      type_and_class = four;
      labels = a.name.name;
      same = a.name.same;
      four = length-take-le 4 a.name.rest long;
      spelled = ap (λ k. take k (drop 12 packet)) size ∙ ap (take (length name + 4)) a.name.spelled
          ∙ take-append-add name a.name.rest 4;
    }

-- the same octets with zeros behind them
pub padded_question : (packet : List ℕ) (labels : List (List ℕ)) (n : ℕ) → Asks packet labels n
    → IsQuestion labels (take n (take n (drop 12 packet) ++ replicate (259 - n) 0))
padded_question packet labels n a =
    let front = take n (drop 12 packet) in
    let whole = a.whole in
    let size : length front ≡ n =
    length-take-le n (drop 12 packet) (omega (arith, length-drop 12 packet)) in
    let octets : take n (front ++ replicate (259 - n) 0) ≡ front =
    take_at front (replicate (259 - n) 0) n size in
    subst (IsQuestion labels) (sym octets) (question_is packet labels n a)
