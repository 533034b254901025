-- What an index has where an evaluated alias went, and none leads to its target group any more.
use Rattle.std.proofs.Common.{◌<◌, ℕ, true, List, arith, ap, sym, ◌∙◌, inl, inr}
use Rattle.std.proofs.lemmas.Bool.{cases_eq}
use mathlib.Core.Path.{subst}
use Rattle.health_index.proofs.CanRegroup.{names_none}
use Rattle.health_index.proofs.CanUnlead.{fed_in_both, no_group}
use Rattle.health_index.proofs.GroupLeft.{is_one}
use Rattle.health_index.proofs.Leading.{fed_alias, led_alias, one_group}
use Rattle.health_index.proofs.Moving.{moved}
use Rattle.health_index.specs.Laws.{LastCanLeave}
use Rattle.health_planning.specs.Changes.{ref_in}
use Rattle.health_planning.specs.SetRefRecord.{SetRef}
use Rattle.health_planning.specs.Wired.{group_seat, seat_of}
use Rattle.health_planning.specs.Zones.{placed_in}
use Rattle.record_set.specs.declared.sets.Body.TheVariants as body
use Rattle.zone_model.specs.Slotted.{IsHere}

pub can_unfound : LastCanLeave
can_unfound before after checks reports index made delta ref p name stands are_after allowed edits gone here slot is none_leads none_led =
    let none = names_none before after stands.are_zones are_after delta ref gone made allowed edits in
    let moves = moved before after stands.are_zones are_after made delta allowed edits gone.zone in
    let mine = led_alias before checks reports index stands ref.zone p name here is in
    let size = stands.fits.laid.size in
    let within = mine.within in (
      mine.valve,
      (
        mine.group,
        record {
          gone = none;
          seat = ap (seat_of index.seats) (sym slot) ∙ mine.seat;
          none = ap (group_seat index.seats) (sym slot) ∙ no_group before checks reports index stands ref.zone p here none_leads;
          within = omega (arith, size, within);
          sole = λ net own fits.
              let other = fits.laid.size in
              let low : mine.valve < net.size = omega (arith, size, other, within) in
              record {
                late = mine.is.behind;
                feeds = fed_in_both index.valves stands.net net stands.own own stands.fits fits mine.group mine.valve within mine.fed;
                only = λ x late fed. mine.only x late (fed_in_both index.valves net stands.net own stands.own fits stands.fits x mine.valve low fed);
                alone = λ y there fed.
                    let was : y < stands.net.size = omega (arith, size, other, there) in
                    let led = fed_alias before checks reports index stands mine.group y mine.is.seat.0 mine.is.seat.1.1 mine.is.behind was
                    (fed_in_both index.valves net stands.net own stands.own fits stands.fits mine.group y there fed) in
                    let q = led.p in
                    let names = one_group before checks reports index stands mine.group ref.zone led.zone name led.name p.set.rtype q.set.rtype
                    mine.members led.members mine.are mine.is led.are led.is in
                    elim (cases_eq q.slot p.slot) [
                      | inl e ↦ (let its = ap (seat_of index.seats) (sym e) ∙ led.seat in let own_seat = mine.seat in omega (arith, its, own_seat))
                      | inr apart ↦ elim (moves.stays led.zone q led.here) [
                        | inl told ↦ absurd (apart (ap (λ (r : SetRef). r.slot) (is_one delta.removed ref (ref_in led.zone q) gone.removed told) ∙ sym slot))
                        | inr there_still ↦ absurd (none_led (
                          q,
                          (
                            subst (λ (z : ℕ). IsHere (placed_in after z) q) names.0 there_still,
                            (led.alias ∙ ap (λ (n : List (List ℕ)). body.Alias n true) names.1.0, names.1.1),
                          ),
                        ))
                      ]
                    ];
              };
        },
      ),
    )
