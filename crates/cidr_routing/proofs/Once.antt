-- A client has one location in a collection.
use Rattle.std.proofs.Common.{◌∙◌, ℕ, List, None, Some, sym}
use Rattle.cidr_commands.specs.Places.{rows_of}
use Rattle.cidr_routing.specs.Located.{OneLocationIn}
use Rattle.cidr_commands.specs.LawsOfIpTable.{OneRowFound}

pub one_in : OneRowFound (List ℕ) → OneLocationIn
one_in law None client name other scope wide rows (none, zero) (as_none, as_zero) =
    (none ∙ sym as_none, zero ∙ sym as_zero)
one_in law (Some collection) client name other scope wide rows first second =
    law (rows_of collection.locations) client name other scope wide rows first second
