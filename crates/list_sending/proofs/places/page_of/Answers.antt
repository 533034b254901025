use Rattle.std.proofs.Common.{◌+◌, arith, subst, sym, ◌∙◌}
use Rattle.std.proofs.lemmas.List.{length-map}
use Rattle.config_zones.specs.Zones.{placed_in}
use Rattle.list_sending.proofs.Paged.{page_of_rest, page_within}
use Rattle.list_sending.specs.Pages.{IsPage, sets_in, start_of}
use Rattle.list_sending.proofs.places.page_of.Goals as goal

pub returns-then-items-count : goal.returns-then-items-count
returns-then-items-count c =
    let start = start_of c.args.asked.now in
    let items = c.args.asked.now.items in
    let placed = placed_in c.args.zones.now.zones c.args.asked.now.zone in
    let sets = sets_in c.args.zones.now.zones c.args.asked.now.zone in
    let first = c.first_of-first.result in
    let less = c.if-items-count.true in
    let same = c.from-items.ensures in
    subst (λ n. IsPage start items sets first (first + n)) (sym same)
    (page_within start items sets first c.first_of-first.ensures
    (omega (arith, less, same, c.count-count.ensures, length-map placed (λ p. p.set))))

pub returns : goal.returns
returns c =
    let start = start_of c.args.asked.now in
    let items = c.args.asked.now.items in
    let placed = placed_in c.args.zones.now.zones c.args.asked.now.zone in
    let sets = sets_in c.args.zones.now.zones c.args.asked.now.zone in
    let first = c.first_of-first.result in
    let past = c.if-items-count.false in
    let count = length-map placed (λ p. p.set) in
    subst (IsPage start items sets first) (count ∙ sym c.count-count.ensures)
    (page_of_rest start items sets first c.first_of-first.ensures
    (omega (arith, past, c.from-items.ensures, c.count-count.ensures, count)))
