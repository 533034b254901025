use Rattle.std.proofs.Common.{Some, ap, sym, ◌∙◌}
use Rattle.policy_select.proofs.Pieces.{region_by}
use Rattle.policy_select.proofs.rules.region_of_first.Goals as goal

pub returns-in-Some-region_whole : goal.returns-in-Some-region_whole
returns-in-Some-region_whole c =
    let set = c.policy_pieces.ensures in
    let front = c.policy_pieces.result.0.now in
    let next = c.policy_pieces.result.1.now in
    let it = region_by front next c.behind_ident.result.now set.0 c.in-Some.size set.2
    c.behind_ident.ensures c.in-Some.ensures in (
      set.0,
      set.1,
      it.2 ∙ ap Some (sym (c.in-Some-region_whole.ensures it.0 set.2.rest it.1 it.3 it.4)),
    )
