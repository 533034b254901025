use Rattle.std.proofs.Common.{ℕ, ◌≡◌, ◌+◌, ◌-◌, ◌++◌, ◌∙◌, ap, arith, drop, take, length, length-append, sym}
use Rattle.std.proofs.Math.Seq.{drop-append-add}
use Rattle.policy_select.proofs.Pieces.{cut_behind, front_cut}
use Rattle.policy_select.proofs.parts.behind_ident.Goals as goal

pub returns-then-place-octets : goal.returns-then-place-octets
returns-then-place-octets c all n is =
    let octets = c.args.octets.now in
    let place = c.from-place.result + 2 in
    let size : place ≡ c.args.size + 2 = omega (arith, c.from-place.ensures) in
    let within = c.if-place-octets.true in (
      length octets - place,
      c.behind.ensures
          ∙ cut_behind octets all (length octets) place (front_cut octets c.args.next.now all n is)
          (omega (arith, within))
          ∙ ap (λ (k : ℕ). take (length octets - place) (drop k all)) size,
    )

pub returns : goal.returns
returns c all n is =
    let octets = c.args.octets.now in
    let next = c.args.next.now in
    let place = c.from-place.result + 2 in
    let size : place ≡ c.args.size + 2 = omega (arith, c.from-place.ensures) in
    let past = c.if-place-octets.false in
    let within = c.if-place-next.false in
    let both = length-append octets next in
    let whole : place ≡ length octets + (place - length octets) = omega (arith, past) in (
      n - place,
      c.behind-2.ensures
          ∙ sym (drop-append-add octets next (place - length octets))
          ∙ ap (λ (k : ℕ). drop k (octets ++ next)) (sym whole)
          ∙ cut_behind (octets ++ next) all n place is (omega (arith, past, within, both))
          ∙ ap (λ (k : ℕ). take (n - place) (drop k all)) size,
    )
