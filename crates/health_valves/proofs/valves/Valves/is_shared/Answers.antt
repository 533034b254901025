use Rattle.std.proofs.Common.{◌<◌, ℕ, sym, ◌∙◌}
use mathlib.Core.Path.{subst}
use Rattle.std.specs.List.{Contains}
use Rattle.health_valves.proofs.Times.{in_times, times_in}
use Rattle.health_valves.proofs.valves.Valves.is_shared.Goals as goal

pub returns : goal.returns
returns c net own fits =
    let valve = c.args.valve in
    let here : valve < net.size = subst (λ n. valve < n) fits.laid.size c.requires.valve in
    let both = λ (x : ℕ). sym (c.len.ensures.reversed.times x valve) ∙ fits.laid.reversed x valve here in
    let walk = c.feeders.ensures.feeders in (
      λ so x late fed.
          let m = times_in x _ (subst (λ n. 0 < n) (sym (both x)) (in_times x _ fed)) in
          let o = c.feed_others.ensures.0 so x late (subst (λ l. Contains l x) (sym walk) m) in
          let within = fits.laid.within x o.0 o.1.1 in
          (o.0, (o.1.0, (within, times_in x _ (subst (λ n. 0 < n) (fits.laid.reversed x o.0 within) (in_times o.0 _ o.1.1))))),
      λ shared. c.feed_others.ensures.1 (λ x late m.
          let fed = times_in x _ (subst (λ n. 0 < n) (both x) (in_times x _ (subst (λ l. Contains l x) walk m))) in
          let o = shared x late fed in
          (o.0, (o.1.0, times_in o.0 _ (subst (λ n. 0 < n) (sym (fits.laid.reversed x o.0 o.1.1.0)) (in_times x _ o.1.1.1))))),
    )
