use Rattle.std.proofs.Common.{◌≡◌, ◌∙◌, ap, sym, arith, true, false}
use Rattle.config_zones.specs.Others.{is_number}
use Rattle.config_zones.proofs.Rest.{as_many, none_left, not_this, set_at, this_one}
use Rattle.config_zones.specs.Zones.{placed_in}
use Rattle.zone_model.specs.Slotted.{sets_of}
use Rattle.check_commands.proofs.Walked.{names, none_names}
use Rattle.check_commands.proofs.naming.is_named_in.Goals as goal

pub returns-then-checked-eq0 : goal.returns-then-checked-eq0
returns-then-checked-eq0 c =
    none_names c.args.id (placed_in c.args.zones.now.zones c.args.zone)
    (sym c.checked.ensures ∙ c.if-checked-eq0.true)

pub returns-then-is_number : goal.returns-then-is_number
returns-then-is_number c =
    let placed = placed_in c.args.zones.now.zones c.args.zone in
    let count = c.count-i-end.ensures in
    let lt = c.loop-i-test.true in
    let one = set_at placed c.loop-i.i (omega (arith, count, lt)) in
    let is : is_number c.args.id one.0.check ≡ true =
    ap (is_number c.args.id) (sym (c.check_at.ensures one.0 one.1))
    ∙ (sym c.is_number.ensures ∙ c.if-is_number.true) in
    this_one (names c.args.id) (sets_of placed) c.loop-i.i c.loop-i.invariant one.0 one.1 is

pub loop-i-preserved : goal.loop-i-preserved
loop-i-preserved c =
    let placed = placed_in c.args.zones.now.zones c.args.zone in
    let count = c.count-i-end.ensures in
    let lt = c.loop-i-test.true in
    let one = set_at placed c.loop-i.i (omega (arith, count, lt)) in
    let is : is_number c.args.id one.0.check ≡ false =
    ap (is_number c.args.id) (sym (c.check_at.ensures one.0 one.1))
    ∙ (sym c.is_number.ensures ∙ c.if-is_number.false) in
    not_this (names c.args.id) (sets_of placed) c.loop-i.i c.loop-i.invariant one.0 one.1 is

pub returns : goal.returns
returns c =
    let placed = placed_in c.args.zones.now.zones c.args.zone in
    let size = as_many placed in
    let count = c.count-i-end.ensures in
    let all = c.loop-i-test.false in
    none_left (names c.args.id) (sets_of placed) c.loop-i.i c.loop-i.invariant
    (omega (arith, size, count, all))
