use Rattle.std.proofs.Common.{◌≡◌, ◌<◌, ℕ, List, [], ap, arith, sym}
use mathlib.Core.Path.{subst}
use Rattle.std.proofs.lemmas.Bool.{false≢true}
use Rattle.std.proofs.lemmas.List.{get_or_past}
use Rattle.std.specs.List.{Contains}
use Rattle.health_valves.proofs.Times.{in_times, times_in}
use Rattle.health_valves.specs.Valves.{fed_by, times}
use Rattle.health_valves.proofs.valves.Valves.feeds.Goals as goal

-- nothing is listed behind the last valve
pub returns-then-feeder-len : goal.returns-then-feeder-len
returns-then-feeder-len c net own fits = (
  λ so. absurd (false≢true so),
  λ feeds.
      let x = c.args.feeder in
      let y = c.args.valve in
      let here : y < net.size = subst (λ n. y < n) fits.laid.size c.requires.valve in
      let behind = c.if-feeder-len.true in
      let len = c.len.ensures.len in
      let none : fed_by c.args.self.now.feeds x ≡ [] = get_or_past _ x [] (omega (arith, behind, len)) in
      let times = fits.laid.reversed x y here in
      let some = in_times x _ feeds in
      let empty = ap (times_of y) none in
      absurd (omega (arith, times, some, empty)),
)
  where
    times_of : ℕ → List ℕ → ℕ
    times_of y l = times y l

pub returns : goal.returns
returns c net own fits =
    let x = c.args.feeder in
    let y = c.args.valve in
    let here : y < net.size = subst (λ n. y < n) fits.laid.size c.requires.valve in
    let times = fits.laid.reversed x y here in
    let walk = c.fed.ensures.fed in (
      λ so. times_in x _ (subst (λ n. 0 < n) times (in_times y _ (subst (λ l. Contains l y) walk (c.is_fed.ensures.0 so)))),
      λ feeds.
          c.is_fed.ensures.1 (subst (λ l. Contains l y) (sym walk)
          (times_in y _ (subst (λ n. 0 < n) (sym times) (in_times x _ feeds)))),
    )
