use Rattle.std.proofs.Common.{ℕ, List, ◌≡◌, ◌+◌, ◌-◌, ◌++◌, ◌∙◌, ap, arith, drop, take, length, length-append, length-take, length-take-le, sym}
use Rattle.std.proofs.Math.Seq.{drop-append-add}
use Rattle.std.proofs.lemmas.List.{drop-drop, length-drop}
use Rattle.zone_table.specs.Octets.{place_octets}
use Rattle.policy_select.proofs.Pieces.{cut_behind, front_cut, joined}
use Rattle.policy_select.proofs.parts.is_other_behind.Goals as goal

pub returns-then-place-octets : goal.returns-then-place-octets
returns-then-place-octets c all rest place n is whole there told =
    let octets = c.args.octets.now in
    let at = c.from-place.result + 2 in
    let size : c.args.size + 2 ≡ at = omega (arith, c.from-place.ensures) in
    let within = c.if-place-octets.true in
    let front = front_cut octets c.args.next.now all n is in
    let long = ap (λ (xs : List ℕ). length xs) front in
    let cut = length-take (length octets) all in
    c.is_other_at.ensures (take at all) rest place (length octets) whole
    (sym (length-take-le at all (omega (arith, within, long, cut))))
    (front ∙ ap (take (length octets)) (joined at all (place_octets place ++ rest)
    (ap (λ (k : ℕ). drop k all) (sym size) ∙ there))) told

pub returns : goal.returns
returns c all rest place n is whole there told =
    let octets = c.args.octets.now in
    let next = c.args.next.now in
    let l = length octets in
    let at = c.from-place.result + 2 in
    let size : c.args.size + 2 ≡ at = omega (arith, c.from-place.ensures) in
    let past = c.if-place-octets-2.false in
    let within = c.if-place-next.false in
    let both = length-append octets next in
    let long = ap (λ (xs : List ℕ). length xs) is in
    let cut = length-take n all in
    let far : l + (at - l) ≡ at = omega (arith, past) in
    let behind = length-drop l all in
    let next_is : next ≡ take (n - l) (drop l all) =
    sym (drop-append-add octets next 0) ∙ ap (λ (k : ℕ). drop k (octets ++ next)) (omega arith)
    ∙ cut_behind (octets ++ next) all n l is (omega (arith, both)) in
    c.is_other_at-2.ensures (take (at - l) (drop l all)) rest place (n - l) whole
    (sym (length-take-le (at - l) (drop l all) (omega (arith, past, within, both, long, cut, behind))))
    (next_is ∙ ap (take (n - l)) (joined (at - l) (drop l all) (place_octets place ++ rest)
    (drop-drop (at - l) l all ∙ ap (λ (k : ℕ). drop k all) (far ∙ sym size) ∙ there))) told
