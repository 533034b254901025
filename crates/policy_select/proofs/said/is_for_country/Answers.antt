use Rattle.std.proofs.Common.{◌∙◌, ap}
use Rattle.std.specs.Option.{unwrap_or}
use Rattle.policy_select.proofs.Pieces.{place_by}
use Rattle.policy_select.proofs.said.is_for_country.Goals as goal

pub returns : goal.returns
returns c told first =
    let set = c.policy_pieces.ensures in
    let front = c.policy_pieces.result.0.now in
    let next = c.policy_pieces.result.1.now in
    let it = place_by front next c.behind_ident.result.now set.0 c.in-Some.size set.2
    c.behind_ident.ensures c.in-Some.ensures in (
      set.0,
      set.1,
      ap (λ o. unwrap_or o first) it.2 ∙ c.is_country_in.ensures set.2.rest it.0 it.1 it.3 it.4 told,
    )
