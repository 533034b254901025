-- How a count makes a status (Route 53 Developer Guide, "How Amazon Route 53 determines whether a health check is
-- healthy").
use Rattle.std.specs.Prelude.{ℕ, ◌*◌, Bool, nat_lt, nat_le, not, if◌then◌else◌}

-- how many checkers look at an endpoint (own)
abbrev pub checkers : ℕ
checkers = 50

-- an inverted check is healthy exactly where it would not be
abbrev pub swapped_if : (inverted : Bool) → (status : Bool) → Bool
swapped_if inverted status = if inverted then not status else status

-- An endpoint is healthy where more than 18 per cent of the checkers see a pass.
abbrev pub endpoint_status : (passing : ℕ) → (inverted : Bool) → Bool
endpoint_status passing inverted = swapped_if inverted (nat_lt (18 * checkers) (100 * passing))

-- A calculated check is healthy where at least as many of its children are as its threshold says.
abbrev pub calculated_status : (healthy threshold : ℕ) → (inverted : Bool) → Bool
calculated_status healthy threshold inverted = swapped_if inverted (nat_le threshold healthy)
