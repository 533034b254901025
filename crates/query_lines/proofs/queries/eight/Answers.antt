use Rattle.query_lines.proofs.Eight.{eight_items}
use Rattle.query_lines.proofs.queries.eight.Goals as goal

pub returns : goal.returns
returns c = eight_items c.args.items.now _ _ _ _ _ _ _ _ c.requires
    c.index-items-0.is c.index-items-1.is c.index-items-2.is c.index-items-3.is
    c.index-items-4.is c.index-items-5.is c.index-items-6.is c.index-items-7.is
