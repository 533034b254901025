-- The number of members.
use Rattle.std.proofs.Common.{◌≡◌, Bool, List, length, ◌==◌, String, Global}
use Rattle.serde_json.specs.Events.{members_len}
use Rattle.serde_json.specs.View.{members_view}
use Rattle.serde_json.specs.declared.value.Value.{Value}
use Rattle.serde_json.proofs.Views.{members_len-members_view}

pub counted : (ms : List (String Global × Value)) (b : Bool) → (length ms == 1) ≡ b
    → (members_len (members_view ms) == 1) ≡ b
counted ms b h = rw (members_len-members_view ms) h
