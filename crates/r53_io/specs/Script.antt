-- A link in memory, which plays a script, as its callers see it.
use Rattle.std.specs.Prelude.{◌≡◌, ◌⊎◌, ℕ, ◌≤◌, List, [], ◌∷◌, ◌++◌, length, drop, Vec, ⊤}
use Rattle.std.specs.List.{Contains}
use Rattle.std.specs.declared.alloc.Global.{Global}
use Rattle.octets.specs.Counts.{next_count}
use Rattle.r53_io.specs.Network.{Incoming, Dns, Report, Quiet}
use Rattle.r53_io.specs.declared.network.Peer.{Peer}
use Rattle.r53_io.specs.declared.network.Bound.{Bound}
use Rattle.r53_io.specs.declared.network.Bound.TheVariants as bound
use Rattle.r53_io.specs.declared.network.Arrival.{Arrival}
use Rattle.r53_io.specs.declared.network.Arrival.TheVariants as arrival
use Rattle.r53_io.specs.declared.network.Sent.{Sent}
use Rattle.r53_io.specs.declared.network.Sent.TheVariants as sent
use Rattle.r53_io.specs.declared.script_link.Scripted.{Scripted}
use Rattle.r53_io.specs.declared.script_link.Scripted.TheVariants as scripted

-- What is still to come, what was sent, the numbers of the calls that fail, the number of the next call, its count of faults,
-- and that of the calls that found no memory for what they keep.
pub record Script : Type 0 where
  pub coming : List Incoming
  pub sent : List (Peer × List ℕ)
  pub fail : List ℕ
  pub calls : ℕ
  pub faults : ℕ
  pub starved : ℕ

-- an arrival of a script, as what comes
abbrev pub incoming_of : Scripted → Incoming
incoming_of (scripted.Dns peer octets) = Dns peer octets.items
incoming_of (scripted.Report octets) = Report octets.items
incoming_of scripted.Quiet = Quiet

-- a datagram that was kept, with its receiver
abbrev pub datagram_of : Peer × Vec ℕ Global → Peer × List ℕ
datagram_of kept = (kept.0, kept.1.items)

-- It has at most 65,535 octets (own; RFC 768 allows no more).
abbrev pub FitsDatagram : Scripted → Type 0
FitsDatagram (scripted.Dns peer octets) = length octets.items ≤ 65535
FitsDatagram (scripted.Report octets) = length octets.items ≤ 65535
FitsDatagram scripted.Quiet = ⊤

-- What comes is answered, and its octets lie at the front of the slice.
abbrev pub Delivers : Incoming → Arrival → (old new : List ℕ) → Type 0
Delivers (Dns peer octets) answer old new =
    (answer ≡ arrival.Dns peer (length octets)) × (new ≡ octets ++ drop (length octets) old)
Delivers (Report octets) answer old new =
    (answer ≡ arrival.Report (length octets)) × (new ≡ octets ++ drop (length octets) old)
Delivers Quiet answer old new = (answer ≡ arrival.Quiet) × (new ≡ old)

-- The next call is one of those that fail.
abbrev pub IsToFail : Script → Type 0
IsToFail s = Contains s.fail s.calls

-- after a call that did what it was asked, or that failed
abbrev pub called : Script → Script
called old = record old { calls = next_count old.calls }

abbrev pub failed : Script → Script
failed old = record (called old) { faults = next_count old.faults }

-- after a call that found no memory, which did nothing
abbrev pub starved : Script → Script
starved old = record (failed old) { starved = next_count old.starved }

-- Each call and what comes of it: a case for each answer, so that it fails exactly where it is said. A bind gives the ports
-- that it is asked for.
abbrev pub AfterBind : Script → ℕ → ℕ → Bound → Script → Type 0
AfterBind old query report (bound.Ports given_query given_report) new =
    (¬ IsToFail old) × (given_query ≡ query) × (given_report ≡ report) × (new ≡ called old)
AfterBind old query report bound.Failed new = IsToFail old × (new ≡ failed old)

abbrev pub AfterReceive : Script → Arrival → Script → Type 0
AfterReceive old (arrival.Dns peer n) new =
    (¬ IsToFail old) × ((octets : List ℕ) × (rest : List Incoming)
    × (old.coming ≡ Dns peer octets ∷ rest) × (n ≡ length octets) × (new ≡ record (called old) { coming = rest }))
AfterReceive old (arrival.Report n) new =
    (¬ IsToFail old) × ((octets : List ℕ) × (rest : List Incoming)
    × (old.coming ≡ Report octets ∷ rest) × (n ≡ length octets) × (new ≡ record (called old) { coming = rest }))
AfterReceive old arrival.Quiet new =
    (¬ IsToFail old) × ((rest : List Incoming)
    × (old.coming ≡ Quiet ∷ rest) × (new ≡ record (called old) { coming = rest }))
AfterReceive old arrival.Closed new = (¬ IsToFail old) × (old.coming ≡ []) × (new ≡ called old)
AfterReceive old arrival.Failed new = IsToFail old × (new ≡ failed old)

abbrev pub AfterSend : Script → Peer → List ℕ → Sent → Script → Type 0
AfterSend old peer octets sent.Whole new =
    (¬ IsToFail old) × (new ≡ record (called old) { sent = old.sent ++ (peer, octets) ∷ [] })
AfterSend old peer octets sent.Failed new =
    (IsToFail old × (new ≡ failed old)) ⊎ ((¬ IsToFail old) × (new ≡ starved old))
