use Rattle.std.proofs.Common.{Some, sym, ap, ◌∙◌}
use Rattle.std.specs.Option.{option_copied}
use Rattle.cidr_routing.proofs.Known.{of_location, of_star}
use Rattle.cidr_routing.proofs.choice.search.Goals as goal

pub returns-in-Some-find-clause-first : goal.returns-in-Some-find-clause-first
returns-in-Some-find-clause-first c =
    of_location c.args.all c.args.healthy.now c.args.locations.now _ c.bytes-location.result.now
    (ap option_copied c.in-Some.is ∙ ap Some (sym c.bytes-location.ensures.bytes)) _
    (sym c.in-Some-find.is ∙ c.find-2.ensures.first)

pub returns-clause-first : goal.returns-clause-first
returns-clause-first c =
    c.find-3.ensures.first
    ∙ of_star c.args.all c.args.healthy.now c.args.locations.now _ c.bytes-location.result.now
    (ap option_copied c.in-Some.is ∙ ap Some (sym c.bytes-location.ensures.bytes))
    (sym c.in_default-find.is ∙ c.find-2.ensures.first)
