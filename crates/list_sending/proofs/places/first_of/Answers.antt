use Rattle.std.proofs.Common.{ap}
use Rattle.list_sending.proofs.Paged.{first_by_key, first_of_all, key_with}
use Rattle.list_sending.specs.Pages.{sets_in, start_of}
use Rattle.list_sending.proofs.places.first_of.Goals as goal

pub returns-in-Some : goal.returns-in-Some
returns-in-Some c =
    first_by_key c.starts_are_places.ensures (start_of c.args.asked.now)
    (sets_in c.args.zones.now.zones c.args.asked.now.zone) c.requires c.in-Some.name _ _ c.in-Some.is
    (ap (key_with c.in-Some.name c.args.asked.now.ident) c.unwrap_or.ensures) c.place_of.ensures

pub returns-in-None : goal.returns-in-None
returns-in-None c =
    first_of_all c.starts_are_places.ensures (start_of c.args.asked.now)
    (sets_in c.args.zones.now.zones c.args.asked.now.zone) c.requires c.in-None.is
