use Rattle.std.proofs.Common.{ap, codes, ◌++◌, ◌∙◌}
use Rattle.std.specs.Fmt.{decimal}
use Rattle.drill_run.proofs.Chain.{eight_pieces}
use Rattle.drill_run.proofs.summing.write_summary.Goals as goal

pub returns : goal.returns
returns c =
    eight_pieces _ _ _ _ _ _ _ _ _ _ _ _ _ _ _ _ _ c.clear.ensures.items c.put_count.ensures.text
    (c.put_count-2.ensures.text
    ∙ ap (λ n. c.put_count.new.text.items ++ (codes ",\"Drill\":" ++ decimal n)) c.from.ensures)
    c.put_count-3.ensures.text c.put_count-4.ensures.text c.put_count-5.ensures.text
    c.put_count-6.ensures.text c.put_count-7.ensures.text c.put.ensures.text
