use Rattle.std.proofs.Common.{◌∙◌, inl, refl, sym}
use Rattle.policy_select.specs.Zones.{placed_in}
use Rattle.health_planning.proofs.Unwatched.{none_named}
use Rattle.health_planning.proofs.seating.seat_zone.Goals as goal

pub returns-then-named-eq0-clause-told : goal.returns-then-named-eq0-clause-told
returns-then-named-eq0-clause-told c p here bare =
    bare (none_named (placed_in c.args.zones.now.zones c.args.zone) p (sym c.checked-named.ensures ∙ c.if-named-eq0.true) here)

pub returns-then-named-eq0-clause-each : goal.returns-then-named-eq0-clause-each
returns-then-named-eq0-clause-each c slot = inl (refl, refl)
