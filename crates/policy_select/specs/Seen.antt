-- What choices have seen of a client in tables.
use Rattle.std.specs.Prelude.{◌≡◌, IfSome}
use Rattle.address_text.specs.declared.address.IpAddress.{IpAddress}
use Rattle.answer_model.specs.Location.{scope_in}
use Rattle.answer_model.specs.TablesRecord.{Tables}
use Rattle.policy_select.specs.declared.client.Seen.{Seen}

-- What was seen is what the tables tell of the client.
pub record IsSeen (tables : Tables) (client : IpAddress) (seen : Seen) : Type 0 where
  pub places : IfSome seen.places (λ scope. scope ≡ scope_in tables.places client)
  pub latencies : IfSome seen.latencies (λ scope. scope ≡ scope_in tables.latencies client)
