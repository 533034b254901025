use Rattle.std.proofs.Common.{◌≡◌, List, ℕ, ap, refl, sym, ◌∙◌}
use Rattle.set_search.specs.OrderOfDnsName.{zone_cmp}
use Rattle.set_store.proofs.Named.{as_itself}
use Rattle.set_store.proofs.heads.name_order.Goals as goal

pub returns-then-is_same : goal.returns-then-is_same
returns-then-is_same c = λ labels is e.
    let name = c.args.name.now in
    let same : labels ≡ name = c.one_name_of_a_wire.ensures labels name is.raw c.octets-others.ensures.name.raw
    (sym e ∙ c.if-is_same.ensures.0 refl ∙ c.octets-others.ensures.spelled) in
    sym (as_itself name) ∙ ap (λ (n : List (List ℕ)). zone_cmp n name) (sym same)
