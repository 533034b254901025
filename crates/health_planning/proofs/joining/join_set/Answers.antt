use Rattle.std.proofs.Common.{◌++◌, [], List, ℕ, Option, map, append_assoc, ap, refl, sym, ◌∙◌, append-nil, Some, ◌≡◌}
use Rattle.std.specs.Option.{option_to_list}
use Rattle.health_valves.specs.declared.blueprint.Feeding.{Feeding}
use Rattle.health_planning.specs.Building.{links_to}
use Rattle.health_planning.specs.Wired.{valve_with, with_valve}
use Rattle.health_planning.proofs.Groups.{alone_told, links_more}
use Rattle.health_planning.proofs.Joined.{no_target}
use Rattle.health_planning.proofs.joining.join_set.Goals as goal

pub join_check-requires-clause-there : goal.join_check-requires-clause-there
join_check-requires-clause-there c id is =
    let named = c.requires.named in
    let told = c.check_at-only.ensures ∙ c.requires.told named.0 named.1 in
    let alone = alone_told named.0 (λ none. c.if-only-ne0.true (told ∙ none)) in
    c.requires.there named.0 id named.1 (alone.1 ∙ ap Some (sym told) ∙ is)

pub returns-then-only-ne0-clause-links : goal.returns-then-only-ne0-clause-links
returns-then-only-ne0-clause-links c named names =
    let told = c.check_at-only.ensures ∙ c.requires.told named names in
    let alone = alone_told named (λ none. c.if-only-ne0.true (told ∙ none)) in
    let its : named.check ≡ Some c.check_at-only.result = alone.1 ∙ ap Some (sym told) in
    let checks = map (valve_with c.args.ids.now c.args.numbers.now) (option_to_list named.check) in (
      checks ++ [],
      (
        ([], (no_target c.args.zones.now.zones c.args.seats.now c.args.set.zone named.rtype named.body alone.0, refl)),
        c.join_check.ensures.links
            ∙ ap (λ (o : Option ℕ). c.args.blueprint.now.links ++ links_to c.args.valve (map (valve_with c.args.ids.now c.args.numbers.now) (option_to_list o))) (sym its)
            ∙ ap (λ (l : List ℕ). c.args.blueprint.now.links ++ links_to c.args.valve l) (sym (append-nil checks)),
      ),
    )

pub join_check-requires-2-clause-there : goal.join_check-requires-2-clause-there
join_check-requires-2-clause-there c id is =
    let named = c.requires.named in
    c.requires.there named.0 id named.1 (sym (c.check_of.ensures named.0 named.1) ∙ is)

pub returns-clause-links : goal.returns-clause-links
returns-clause-links c named names =
    let target = with_valve c.target_seat-target.result [] in
    let checks = map (valve_with c.args.ids.now c.args.numbers.now) (option_to_list named.check) in
    let check = c.check_of.ensures named names in
    let first = c.join_check-2.ensures.links ∙ ap (λ (o : Option ℕ). c.args.blueprint.now.links ++ links_to c.args.valve
    (map (valve_with c.args.ids.now c.args.numbers.now) (option_to_list o))) check in (
      checks ++ target,
      (
        (target, (c.target_seat-target.ensures named names, refl)),
        c.join_seat.ensures.links
            ∙ ap (λ (l : List Feeding). l ++ links_to c.args.valve target) first
            ∙ append_assoc c.args.blueprint.now.links (links_to c.args.valve checks) (links_to c.args.valve target)
            ∙ ap (λ (l : List Feeding). c.args.blueprint.now.links ++ l) (sym (links_more c.args.valve checks target)),
      ),
    )
