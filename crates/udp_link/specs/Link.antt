-- A link over two sockets, as its callers see it.
use Rattle.std.specs.Prelude.{◌≡◌, ℕ, Bool, true, List, Option, None, ⊤}
use Rattle.octets.specs.Counts.{next_count}
use Rattle.r53_io.specs.Network.{Incoming}
use Rattle.r53_io.specs.declared.network.Peer.{Peer}
use Rattle.r53_io.specs.declared.network.Bound.{Bound}
use Rattle.r53_io.specs.declared.network.Bound.TheVariants as bound
use Rattle.r53_io.specs.declared.network.Arrival.{Arrival}
use Rattle.r53_io.specs.declared.network.Arrival.TheVariants as arrival
use Rattle.r53_io.specs.declared.network.Sent.{Sent}
use Rattle.r53_io.specs.declared.network.Sent.TheVariants as sent

-- whether its sockets are open, and its count of faults
pub record LinkState : Type 0 where
  pub is_bound : Bool
  pub faults : ℕ

-- It tells none of the ports that a bind gives, of what is still to come, and of what was sent.
abbrev pub no_ports : LinkState → Option (ℕ → ℕ → ℕ × ℕ)
no_ports link = None

abbrev pub none_coming : LinkState → Option (List Incoming)
none_coming link = None

abbrev pub none_sent : LinkState → Option (List (Peer × List ℕ))
none_sent link = None

-- after a call that failed
abbrev pub failed : LinkState → LinkState
failed old = record old { faults = next_count old.faults }

-- Each call and what it leaves: a case for each answer. The count rises by one where a call fails, and stays otherwise.
abbrev pub AfterBind : LinkState → Bound → LinkState → Type 0
AfterBind old (bound.Ports query report) new = new ≡ record old { is_bound = true }
AfterBind old bound.Failed new = new ≡ failed old

-- Nothing comes before a bind, and sockets are never closed by themselves.
abbrev pub AfterReceive : LinkState → Arrival → LinkState → Type 0
AfterReceive old (arrival.Dns peer n) new = (old.is_bound ≡ true) × (new ≡ old)
AfterReceive old (arrival.Report n) new = (old.is_bound ≡ true) × (new ≡ old)
AfterReceive old arrival.Quiet new = (old.is_bound ≡ true) × (new ≡ old)
AfterReceive old arrival.Closed new = ⊥
AfterReceive old arrival.Failed new = new ≡ failed old

-- A datagram that the system refuses is lost on the way, which is no fault.
abbrev pub AfterSend : LinkState → Sent → LinkState → Type 0
AfterSend old sent.Whole new = new ≡ old
AfterSend old sent.Failed new = ⊥

-- what sockets answer where none of their calls failed
abbrev pub HasNotFailed : Arrival → Type 0
HasNotFailed (arrival.Dns peer n) = ⊤
HasNotFailed (arrival.Report n) = ⊤
HasNotFailed arrival.Quiet = ⊤
HasNotFailed arrival.Closed = ⊥
HasNotFailed arrival.Failed = ⊥
