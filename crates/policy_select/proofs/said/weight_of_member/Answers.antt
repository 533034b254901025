use Rattle.std.proofs.Common.{◌∙◌, [], ap, refl, sym}
use Rattle.std.specs.Option.{unwrap_or}
use Rattle.policy_select.proofs.Pieces.{weight_by}
use Rattle.policy_select.proofs.said.weight_of_member.Goals as goal

pub returns-in-Some-octet_behind : goal.returns-in-Some-octet_behind
returns-in-Some-octet_behind c =
    let set = c.policy_pieces.ensures in
    let front = c.policy_pieces.result.0.now in
    let next = c.policy_pieces.result.1.now in
    let it = weight_by front next c.behind_ident.result.now set.0 c.in-Some.size set.2
    c.behind_ident.ensures c.in-Some.ensures in (
      set.0,
      set.1,
      c.in-Some-octet_behind.ensures [] set.2.rest it.0 it.1 refl it.3
          ∙ sym (ap (λ o. unwrap_or o c.args.first) it.2),
    )
