use Rattle.std.proofs.Common.{◌≡◌, ◌<◌, [], ℕ, Bool, List, arith, length, refl, ap, sym, ◌∙◌, inl, inr}
use Rattle.std.specs.List.{Contains}
use Rattle.std.proofs.lemmas.Bool.{cases_eq}
use Rattle.std.proofs.lemmas.List.Elements.{All-contains}
use mathlib.Core.Path.{subst}
use Rattle.health_valves.proofs.Comes.{counted_more, feeder_within, laid_more, long_more, meets_here, meets_there, owned_more, pushed_fed, pushed_others, value_kept, value_last}
use Rattle.health_valves.specs.Valves.{IsCounted, IsLaid, IsOwned, MeetsEquation, count, fed_condition, size_of, value_in, value_of, with_one_more, with_own}
use Rattle.health_valves.specs.declared.valves.ValveFeeds.{ValveFeeds}
use Rattle.health_valves.proofs.valves.Valves.push_fed.Goals as goal

pub returns-clause-fits : goal.returns-clause-fits
returns-clause-fits c net own f =
    let s = c.args.self.now in
    let feeders = c.args.feeders.now in
    let now = with_one_more (fed_condition feeders) net in
    let own_now = with_own net.size 0 own in
    let size = f.laid.size in
    let is = c.len-valve.ensures.len ∙ f.laid.valves in
    let fed = c.add_feeders.ensures in
    let more = c.push_valve.ensures.fed in
    let cone = c.requires.room.valve.cone in
    let v = value_of s in
    let w = value_in c.push_reserved-2.new.self.items in
    let below : (x : ℕ) → Contains feeders x → x < net.size =
    λ x m. (let low = All-contains (λ n. n < size_of s) feeders x c.requires.feeders m in omega (arith, low, size)) in
    record {
      laid = subst (λ (l : List ValveFeeds). IsLaid now l c.add_feeders.new.feeds) (sym c.push_reserved.ensures.items)
          (laid_more net own feeders s.rows.items s.feeds c.add_feeders.new.feeds _ refl refl
          (pushed_fed net s.rows.items s.feeds c.push_valve.new.self c.add_feeders.new.feeds feeders c.len-valve.result is f.laid more fed.fed)
          (pushed_others net s.feeds c.push_valve.new.self c.add_feeders.new.feeds c.len-valve.result is more fed.others)
          (fed.valves ∙ long_more s.feeds.fed c.push_valve.new.self.fed [] net.size more f.laid.valves) f.laid);
      values = long_more s.values.items c.push_reserved-2.new.self.items _ net.size c.push_reserved-2.ensures.items f.values;
      counted = subst (λ (l : List ℕ). IsCounted now own_now w l) (sym c.push_reserved-3.ensures.items)
          (counted_more net own feeders v w
          (λ n within. (let long = f.values in value_kept s.values.items _ _ n c.push_reserved-2.ensures.items (omega (arith, within, long))))
          below (feeder_within net own feeders s.rows.items s.feeds f.laid) s.counts.items c.count_open-open.result
          (c.count_open-open.ensures ∙ ap (λ (l : List Bool). count (value_in l) feeders) c.deref.ensures.value) c.requires.few f.counted);
      owned = subst (λ (l : List ℕ). IsOwned now own_now l) (sym c.push_reserved-4.ensures.items) (owned_more net own feeders s.owns.items f.owned);
      marks = long_more s.marks.items c.push_reserved-5.new.self.items _ net.size c.push_reserved-5.ensures.items f.marks;
      room = omega (arith, cone, size);
    }

pub returns-clause-values : goal.returns-clause-values
returns-clause-values c n within =
    let s = c.args.self.now in
    let size = c.requires.ready.2.laid.size in
    let long = c.requires.ready.2.values in
    value_kept s.values.items c.push_reserved-2.new.self.items c.is_open.result n c.push_reserved-2.ensures.items
    (omega (arith, within, size, long))

pub returns-clause-size : goal.returns-clause-size
returns-clause-size c = long_more c.args.self.now.rows.items c.push_reserved.new.self.items _ _ c.push_reserved.ensures.items refl

pub returns-clause-links : goal.returns-clause-links
returns-clause-links c =
    let few = c.len-valve.ensures.reversed.few_fed 0 in
    let most = c.push_valve.ensures.most in
    let room = c.push_valve.ensures.room in
    let same = c.add_feeders.ensures.most in
    let less = c.add_feeders.ensures.room in
    omega (arith, few, most, room, same, less)

pub returns-clause-meet : goal.returns-clause-meet
returns-clause-meet c net own f meet n within =
    let s = c.args.self.now in
    let feeders = c.args.feeders.now in
    let now = with_one_more (fed_condition feeders) net in
    let own_now = with_own net.size 0 own in
    let size = f.laid.size in
    let long = f.values in
    let v = value_of s in
    let w = value_in c.push_reserved-2.new.self.items in
    let agree : (n : ℕ) → n < net.size → w n ≡ v n =
    λ n within. value_kept s.values.items c.push_reserved-2.new.self.items c.is_open.result n c.push_reserved-2.ensures.items (omega (arith, within, long)) in
    let below : (x : ℕ) → Contains feeders x → x < net.size =
    λ x m. (let low = All-contains (λ n. n < size_of s) feeders x c.requires.feeders m in omega (arith, low, size)) in
    let fed_below = feeder_within net own feeders s.rows.items s.feeds f.laid in
    elim (cases_eq n net.size) [
      | inl e ↦
          subst (λ (m : ℕ). MeetsEquation now own_now w m) (sym e)
          (meets_here net own feeders v w agree below fed_below (length feeders) c.count_open-open.result refl
          (c.count_open-open.ensures ∙ ap (λ (l : List Bool). count (value_in l) feeders) c.deref.ensures.value)
          (value_last s.values.items c.push_reserved-2.new.self.items c.is_open.result net.size c.push_reserved-2.ensures.items f.values ∙ c.is_open.ensures))
      | inr apart ↦ (let low : n < net.size = omega (arith, within, apart) in meets_there net own feeders v w agree below fed_below n low (meet n low))
    ]
