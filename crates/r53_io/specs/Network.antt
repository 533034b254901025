-- What comes from the network, and what one call of a link takes of it and adds to what was sent.
use Rattle.std.specs.Prelude.{◌≡◌, ℕ, List, [], ◌∷◌, ◌++◌, length, take, Option, Some, ⊤}
use Rattle.r53_io.specs.declared.network.Peer.{Peer}
use Rattle.r53_io.specs.declared.network.Bound.{Bound}
use Rattle.r53_io.specs.declared.network.Bound.TheVariants as bound
use Rattle.r53_io.specs.declared.network.Arrival.{Arrival}
use Rattle.r53_io.specs.declared.network.Arrival.TheVariants as arrival
use Rattle.r53_io.specs.declared.network.Sent.{Sent}
use Rattle.r53_io.specs.declared.network.Sent.TheVariants as sent

-- What is still to come: a datagram on the query port from a peer, one on the report port, or a while without one.
pub data Incoming : Type 0 where
  Dns : (peer : Peer) (octets : List ℕ) → Incoming
  Report : (octets : List ℕ) → Incoming
  Quiet : Incoming

-- What a bind answers where it gives these two ports.
abbrev pub BindGives : ℕ × ℕ → Bound → Type 0
BindGives ports (bound.Ports query report) = (query, report) ≡ ports
BindGives ports bound.Failed = ⊤

-- how many octets it says that it gives
abbrev pub octets_given : Arrival → ℕ
octets_given (arrival.Dns peer n) = n
octets_given (arrival.Report n) = n
octets_given arrival.Quiet = 0
octets_given arrival.Closed = 0
octets_given arrival.Failed = 0

-- The octets, n of them, lie at the front of the slice.
abbrev pub LieInFront : List ℕ → ℕ → List ℕ → Type 0
LieInFront octets n into = (n ≡ length octets) × (take n into ≡ octets)

-- What a receive takes of what is still to come, and puts into the slice. It is closed where nothing is to come. One that
-- gives no octets leaves the slice, and one that fails takes nothing.
abbrev pub ReceiveGives : List Incoming → Option (List Incoming) → Arrival → (old new : List ℕ) → Type 0
ReceiveGives coming after (arrival.Dns peer n) old new =
    (octets : List ℕ) × (rest : List Incoming)
    × (coming ≡ Dns peer octets ∷ rest) × LieInFront octets n new × (after ≡ Some rest)
ReceiveGives coming after (arrival.Report n) old new =
    (octets : List ℕ) × (rest : List Incoming)
    × (coming ≡ Report octets ∷ rest) × LieInFront octets n new × (after ≡ Some rest)
ReceiveGives coming after arrival.Quiet old new =
    (rest : List Incoming) × (coming ≡ Quiet ∷ rest) × (new ≡ old) × (after ≡ Some rest)
ReceiveGives coming after arrival.Closed old new = (coming ≡ []) × (new ≡ old) × (after ≡ Some [])
ReceiveGives coming after arrival.Failed old new = (new ≡ old) × (after ≡ Some coming)

-- What was sent after a send of these octets to a peer. One that fails sends nothing.
abbrev pub SendLeaves : List (Peer × List ℕ) → Option (List (Peer × List ℕ)) → Sent → Peer → List ℕ → Type 0
SendLeaves before after sent.Whole peer octets = after ≡ Some (before ++ (peer, octets) ∷ [])
SendLeaves before after sent.Failed peer octets = after ≡ Some before
