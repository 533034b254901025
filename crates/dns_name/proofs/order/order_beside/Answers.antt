use Rattle.std.proofs.Common.{◌≡◌, ◌∙◌, ◌+◌, List, ℕ, ap, sym, refl, drop, take, get_or}
use Rattle.std.specs.Cmp.Lexicographic.{slice_cmp}
use Rattle.std.specs.Ordering.{nat_cmp}
use Rattle.dns_name.proofs.Beside.{in_order}
use Rattle.dns_name.proofs.order.order_beside.Goals as goal

pub returns : goal.returns
returns c =
    let xs = c.args.octets.now in
    let ys = c.args.others.now in
    let is = c.if-not-is_same.ensures.0 refl in
    let same : drop (get_or xs 0 0 + 1) xs ≡ drop (get_or ys 0 0 + 1) ys =
    sym c.behind.ensures ∙ (is ∙ c.behind-2.ensures) in
    c.label_order.ensures
    ∙ (ap (λ (l : List ℕ). slice_cmp nat_cmp l c.part-2.result.now) c.part.ensures
    ∙ (ap (λ (l : List ℕ). slice_cmp nat_cmp (take (get_or xs 0 0) (drop 1 xs)) l) c.part-2.ensures
    ∙ in_order xs ys c.requires.octets c.requires.others c.if-n-eq0.false c.if-m-eq0.false same))
