use Rattle.std.proofs.Common.{◌≡◌, ◌∙◌, ap, length, subst, sym, List, ℕ}
use Rattle.policy_select.specs.Groups.{sets_in}
use Rattle.policy_select.specs.Selecting.{HoldsFirst, places_of, selected_sets}
use Rattle.policy_select.specs.declared.selection.Selected.{Selected}
use Rattle.record_set.specs.declared.sets.RecordSet.{RecordSet}
use Rattle.reply_records.specs.Chosen.{StartsOrNone, sets_of_places}
use Rattle.reply_records.proofs.Joined.{only_one}
use Rattle.reply_records.proofs.chosen.first_record.Goals as goal

pub returns-then-places-eq1 : goal.returns-then-places-eq1
returns-then-places-eq1 c =
    let zones = c.args.zones.now.zones in
    let g = c.in-Sets.group in
    let picked = c.in-Sets.picked in
    let first = subst (λ (s : Selected). HoldsFirst zones s c.args.scratch.now) c.in-Sets.is
    c.requires.held in
    let one : length (places_of picked) ≡ 1 =
    ap (λ (ps : List ℕ). length ps) (sym c.places_of-places.ensures) ∙ c.if-places-eq1.true in
    subst (λ (sets : List RecordSet). StartsOrNone sets c.args.scratch.now c.first_of_one.result)
    (sym (ap (selected_sets zones) c.in-Sets.is
    ∙ only_one (sets_in zones g) (places_of picked) first.0 one first.2))
    (c.first_of_one.ensures first.0 first.1)

pub returns : goal.returns
returns c =
    let zones = c.args.zones.now.zones in
    subst (λ (sets : List RecordSet). StartsOrNone sets c.first_of_several.new.scratch
    c.first_of_several.result)
    (ap (λ (ps : List ℕ). sets_of_places zones c.in-Sets.group ps) c.places_of-places.ensures
    ∙ sym (ap (selected_sets zones) c.in-Sets.is)) c.first_of_several.ensures
