use Rattle.std.proofs.Common.{[], ◌++◌}
use Rattle.set_sending.specs.PiecesOfListWriting.{list_rest}
use Rattle.page_laws.specs.Json.{line_of}
use Rattle.page_laws.specs.Paging.{page_reply}
use Rattle.list_sending.proofs.Paged.{page_text}
use Rattle.set_sending.proofs.Passed.{begun}
use Rattle.list_sending.specs.Pages.{sets_in, start_of}
use Rattle.list_sending.proofs.pages.send_page.Goals as goal

pub returns-in-Whole-clause-writes : goal.returns-in-Whole-clause-writes
returns-in-Whole-clause-writes g c = λ held is.
    let zones = c.args.zones.now.zones in
    let zone = c.args.asked.now.zone in
    let start = start_of c.args.asked.now in
    let items = c.args.asked.now.items in
    let whole =
    page_text c.lists_are_whole.ensures zones c.well_formed-2.ensures zone start items _ _
    c.page_of-first.ensures c.key_at-next.result _ _ c.key_at-next.ensures c.clear.ensures.items
    c.begin_list.ensures.text in
    let text = line_of (page_reply zone start items (sets_in zones zone)) in
    c.send_end.ensures.writes held text
    (c.in-Whole.ensures.passes held (list_rest ++ []) text (begun held _ _ _ text is whole))

pub returns-in-Failed-clause-writes : goal.returns-in-Failed-clause-writes
returns-in-Failed-clause-writes g c = λ held is.
    let zones = c.args.zones.now.zones in
    let zone = c.args.asked.now.zone in
    let start = start_of c.args.asked.now in
    let items = c.args.asked.now.items in
    let whole =
    page_text c.lists_are_whole.ensures zones c.well_formed-2.ensures zone start items _ _
    c.page_of-first.ensures c.key_at-next.result _ _ c.key_at-next.ensures c.clear.ensures.items
    c.begin_list.ensures.text in
    let text = line_of (page_reply zone start items (sets_in zones zone)) in
    c.in-Failed.ensures.passes held (list_rest ++ []) text (begun held _ _ _ text is whole)
