use Rattle.std.proofs.Common.{◌≡◌, ◌∙◌, ap, length, subst, sym, List, ℕ}
use Rattle.policy_select.specs.Records.{answer_records, data_of, records}
use Rattle.dns_wire.specs.declared.reply.Section.TheVariants.{Answer}
use Rattle.policy_select.specs.Groups.{sets_in}
use Rattle.policy_select.specs.Selecting.{HoldsFirst, places_of, selected_sets}
use Rattle.policy_select.specs.declared.selection.Selected.{Selected}
use Rattle.reply_records.proofs.Joined.{one_answers, only_one}
use Rattle.reply_records.proofs.Written.{same}
use Rattle.reply_records.proofs.chosen.write_chosen.Goals as goal

pub returns-then-places-eq1 : goal.returns-then-places-eq1
returns-then-places-eq1 c =
    let zones = c.args.zones.now.zones in
    let owner = c.args.owner.now in
    let g = c.in-Sets.group in
    let picked = c.in-Sets.picked in
    let first = subst (λ (s : Selected). HoldsFirst zones s c.args.scratch.now) c.in-Sets.is
    c.requires.held in
    let set = first.0 in
    let one : length (places_of picked) ≡ 1 =
    ap (λ (ps : List ℕ). length ps) (sym c.places_of-places.ensures) ∙ c.if-places-eq1.true in
    same Answer _ _ c.args.reply.now c.write_values.new.reply
    (ap (λ (n : ℕ). records owner set.rtype n (data_of set.body))
    (c.ttl_of.ensures set first.1)
    ∙ (sym (one_answers owner set) ∙ ap (answer_records owner)
    (sym (ap (selected_sets zones) c.in-Sets.is
    ∙ only_one (sets_in zones g) (places_of picked) set one first.2))))
    (c.write_values.ensures set first.1)
