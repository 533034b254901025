-- Laws over the definitions of this crate.
use Rattle.std.specs.Prelude.{◌≡◌, ◌≢◌, ℕ, List, take, Option}
use Rattle.r53_io.specs.Network.{Incoming, ReceiveGives, octets_given}
use Rattle.r53_io.specs.Script.{Script, AfterBind, AfterReceive, AfterSend}
use Rattle.r53_io.specs.declared.network.Peer.{Peer}
use Rattle.r53_io.specs.declared.network.Bound.{Bound}
use Rattle.r53_io.specs.declared.network.Sent.{Sent}
use Rattle.r53_io.specs.declared.network.Arrival.{Arrival}
use Rattle.r53_io.specs.declared.network.Arrival.TheVariants as arrival

-- What is still to come determines what a receive that succeeds answers, which octets it gives, and what is to come then.
abbrev pub OneArrival : Type 0
OneArrival = (coming : List Incoming) (after other_after : Option (List Incoming)) (answer other : Arrival)
    (old new other_old other_new : List ℕ)
    → ReceiveGives coming after answer old new → ReceiveGives coming other_after other other_old other_new
    → answer ≢ arrival.Failed → other ≢ arrival.Failed
    → (answer ≡ other) × (after ≡ other_after)
    × (take (octets_given answer) new ≡ take (octets_given other) other_new)

-- A script determines what each call answers and leaves; a send may find no memory, and its answer tells it.
pub record OneScript : Type 0 where
  pub bind : (old new other_new : Script) (query report : ℕ) (answer other : Bound)
      → AfterBind old query report answer new → AfterBind old query report other other_new
      → (answer ≡ other) × (new ≡ other_new)
  pub receive : (old new other_new : Script) (answer other : Arrival)
      → AfterReceive old answer new → AfterReceive old other other_new
      → (answer ≡ other) × (new ≡ other_new)
  pub send : (old new other_new : Script) (peer : Peer) (octets : List ℕ) (answer : Sent)
      → AfterSend old peer octets answer new → AfterSend old peer octets answer other_new
      → new ≡ other_new
