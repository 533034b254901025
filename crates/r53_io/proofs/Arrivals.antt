-- A receive that succeeds, and the calls of a script, have one outcome.
use Rattle.std.proofs.Common.{◌≡◌, ◌≢◌, ℕ, List, [], ◌∷◌, take, length, Option, Some, refl, sym, ◌∙◌, ap, ◌⊎◌, subst, inl, inr}
use Rattle.r53_io.specs.Laws.{OneArrival, OneScript}
use Rattle.r53_io.specs.Network.{Incoming, Dns, Report, Quiet, ReceiveGives, octets_given}
use Rattle.r53_io.specs.Script.{Script, IsToFail, called, failed, AfterBind, AfterReceive, AfterSend}
use Rattle.r53_io.specs.declared.network.Peer.{Peer}
use Rattle.r53_io.specs.declared.network.Bound.{Bound}
use Rattle.r53_io.specs.declared.network.Bound.TheVariants as bound
use Rattle.r53_io.specs.declared.network.Arrival.{Arrival}
use Rattle.r53_io.specs.declared.network.Arrival.TheVariants as arrival
use Rattle.r53_io.specs.declared.network.Sent.{Sent}
use Rattle.r53_io.specs.declared.network.Sent.TheVariants as sent

-- the answer, what is to come then, and the octets
abbrev outcome : List Incoming → Arrival × List Incoming × List ℕ
outcome [] = (arrival.Closed, [], [])
outcome (Dns peer octets ∷ rest) = (arrival.Dns peer (length octets), rest, octets)
outcome (Report octets ∷ rest) = (arrival.Report (length octets), rest, octets)
outcome (Quiet ∷ rest) = (arrival.Quiet, rest, [])

abbrev Is : Arrival × List Incoming × List ℕ → Arrival → Option (List Incoming) → List ℕ → Type 0
Is o answer after octets = (answer ≡ o.0) × (after ≡ Some o.1) × (octets ≡ o.2)

gives : (coming : List Incoming) (after : Option (List Incoming)) (answer : Arrival) (old new : List ℕ)
    → ReceiveGives coming after answer old new → answer ≢ arrival.Failed
    → Is (outcome coming) answer after (take (octets_given answer) new)
gives coming after (arrival.Dns peer n) old new (octets, rest, next, (len, front), then) ok =
    subst (λ c. Is (outcome c) (arrival.Dns peer n) after (take n new)) (sym next)
    (ap (arrival.Dns peer) len, then, front)
gives coming after (arrival.Report n) old new (octets, rest, next, (len, front), then) ok =
    subst (λ c. Is (outcome c) (arrival.Report n) after (take n new)) (sym next)
    (ap arrival.Report len, then, front)
gives coming after arrival.Quiet old new (rest, next, same, then) ok =
    subst (λ c. Is (outcome c) arrival.Quiet after []) (sym next) (refl, then, refl)
gives coming after arrival.Closed old new (next, same, then) ok =
    subst (λ c. Is (outcome c) arrival.Closed after []) (sym next) (refl, then, refl)
gives coming after arrival.Failed old new g ok = absurd (ok refl)

pub one_arrival : OneArrival
one_arrival coming after other_after answer other old new other_old other_new a b f g =
    let x = gives coming after answer old new a f in
    let y = gives coming other_after other other_old other_new b g in
    (x.0 ∙ sym y.0, x.1 ∙ sym y.1, x.2 ∙ sym y.2)

-- the same of a script
abbrev received : Script → List Incoming → Arrival × Script
received old coming = ((outcome coming).0, record (called old) { coming = (outcome coming).1 })

abbrev Fails : Script → Arrival → Script → Type 0
Fails old answer new = IsToFail old × (answer ≡ arrival.Failed) × (new ≡ failed old)

abbrev Succeeds : Script → Arrival → Script → Type 0
Succeeds old answer new = (¬ IsToFail old) × Path (Arrival × Script) (answer, new) (received old old.coming)

receives : (old new : Script) (answer : Arrival) → AfterReceive old answer new
    → Fails old answer new ⊎ Succeeds old answer new
receives old new (arrival.Dns peer n) (stays, (octets, rest, next, len, then)) =
    inr (stays, (λ i. (arrival.Dns peer (len i), then i)) ∙ ap (received old) (sym next))
receives old new (arrival.Report n) (stays, (octets, rest, next, len, then)) =
    inr (stays, (λ i. (arrival.Report (len i), then i)) ∙ ap (received old) (sym next))
receives old new arrival.Quiet (stays, (rest, next, then)) =
    inr (stays, (λ i. (arrival.Quiet, then i)) ∙ ap (received old) (sym next))
receives old new arrival.Closed (stays, next, then) =
    inr (
      stays,
      (λ i. (arrival.Closed, then i)) ∙ (λ i. (arrival.Closed, record (called old) { coming = next i }))
          ∙ ap (received old) (sym next),
    )
receives old new arrival.Failed (fails, then) = inl (fails, refl, then)

one_receive : (old new other_new : Script) (answer other : Arrival)
    → Fails old answer new ⊎ Succeeds old answer new → Fails old other other_new ⊎ Succeeds old other other_new
    → (answer ≡ other) × (new ≡ other_new)
one_receive old new other_new answer other (inl a) (inl b) = (a.1 ∙ sym b.1, a.2 ∙ sym b.2)
one_receive old new other_new answer other (inl a) (inr b) = absurd (b.0 a.0)
one_receive old new other_new answer other (inr a) (inl b) = absurd (a.0 b.0)
one_receive old new other_new answer other (inr a) (inr b) =
    let same : Path (Arrival × Script) (answer, new) (other, other_new) = a.1 ∙ sym b.1 in
    (ap (λ (p : Arrival × Script). p.0) same, ap (λ (p : Arrival × Script). p.1) same)

one_bind : (old new other_new : Script) (query report : ℕ) (answer other : Bound)
    → AfterBind old query report answer new → AfterBind old query report other other_new
    → (answer ≡ other) × (new ≡ other_new)
one_bind old new other_new query report (bound.Ports q r) (bound.Ports s t) a b =
    (λ i. bound.Ports ((a.1 ∙ sym b.1) i) ((a.2 ∙ sym b.2) i), a.3 ∙ sym b.3)
one_bind old new other_new query report (bound.Ports q r) bound.Failed a b = absurd (a.0 b.0)
one_bind old new other_new query report bound.Failed (bound.Ports s t) a b = absurd (b.0 a.0)
one_bind old new other_new query report bound.Failed bound.Failed a b = (refl, a.1 ∙ sym b.1)

one_send : (old new other_new : Script) (peer : Peer) (octets : List ℕ) (answer : Sent)
    → AfterSend old peer octets answer new → AfterSend old peer octets answer other_new
    → new ≡ other_new
one_send old new other_new peer octets sent.Whole a b = a.1 ∙ sym b.1
one_send old new other_new peer octets sent.Failed (inl a) (inl b) = a.1 ∙ sym b.1
one_send old new other_new peer octets sent.Failed (inl a) (inr b) = absurd (b.0 a.0)
one_send old new other_new peer octets sent.Failed (inr a) (inl b) = absurd (a.0 b.0)
one_send old new other_new peer octets sent.Failed (inr a) (inr b) = a.1 ∙ sym b.1

pub one_script : OneScript
one_script = record {
  bind = one_bind;
  receive = λ old new other_new answer other a b.
      one_receive old new other_new answer other (receives old new answer a) (receives old other_new other b);
  send = one_send;
}
