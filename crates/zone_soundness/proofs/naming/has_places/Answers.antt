use Rattle.std.proofs.Common.{IsTrue, ◌↔◌, subst}
use Rattle.std.specs.Option.{option_copied}
use Rattle.cidr_commands.specs.Kept.{IsThereIn}
use Rattle.zone_soundness.proofs.There.{places_told}
use Rattle.zone_soundness.proofs.naming.has_places.Goals as goal

pub returns : goal.returns
returns c =
    places_told c.args.collections.now.list c.args.routing.now c.in-Cidr.field-0 c.in-Cidr.id
    c.in-Cidr.location c.in-Cidr.is (option_copied c.get.result) c.get.ensures.collection
    c.is_there_in.result
    (subst (λ name. IsTrue c.is_there_in.result ↔ IsThereIn (option_copied c.get.result) name)
    c.bytes.ensures.bytes c.is_there_in.ensures)
