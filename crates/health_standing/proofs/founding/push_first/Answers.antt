use Rattle.std.proofs.Common.{◌≡◌, ◌+◌, ◌++◌, ◌∷◌, [], ℕ, false, length, arith, refl, sym, ◌∙◌}
use Rattle.std.specs.Option.{option_to_list}
use mathlib.Core.Path.{subst}
use Rattle.health_standing.proofs.TwoMore.{conditions, counts_alike, ends_both, ends_pushed, meet_alike, one, own_pushed, pushed, room_first, room_last, stands_alike}
use Rattle.health_standing.specs.Founding.{with_group, with_two_counts}
use Rattle.health_valves.specs.Pass.{MeetAll}
use Rattle.health_valves.specs.Valves.{HasEnds, Net, ValvesStandFor, fed_condition, size_of, with_need, with_one_more, with_own}
use Rattle.health_valves.specs.declared.valves.Valves.{Valves}
use Rattle.health_standing.proofs.founding.push_first.Goals as goal

-- the number of the first valve is how many there were
number_is : (net : Net) (own : ℕ → ℕ) (valves : Valves) (g : ℕ) → g ≡ size_of valves → ValvesStandFor net own valves
    → g ≡ net.size
number_is net own valves g is fits = is ∙ fits.laid.size

pub push_fed-requires-clause-room : goal.push_fed-requires-clause-room
push_fed-requires-clause-room c = room_first c.args.valves.now (length c.args.fed.now) c.requires.room

pub push_alias-requires-clause-ready : goal.push_alias-requires-clause-ready
push_alias-requires-clause-ready c =
    let r = c.requires.ready in
    (_, _, c.push_fed.ensures.fits r.0 r.1 r.2)

pub push_alias-requires-clause-room : goal.push_alias-requires-clause-room
push_alias-requires-clause-room c =
    room_last c.args.valves.now c.push_fed.new.self (length c.args.fed.now) c.requires.room c.push_fed.ensures.size c.push_fed.ensures.links c.push_fed.ensures.room

pub reshape-requires-clause-ready : goal.reshape-requires-clause-ready
reshape-requires-clause-ready c =
    let r = c.requires.ready in
    (_, _, c.push_alias.ensures.fits (one c.args.fed.now (option_to_list c.args.check) c.args.sets r.0 r.1) (with_own r.0.size 0 r.1) (c.push_fed.ensures.fits r.0 r.1 r.2))

pub reshape-requires-clause-valve : goal.reshape-requires-clause-valve
reshape-requires-clause-valve c =
    let r = c.requires.ready in
    let s = c.push_alias.ensures.fits (one c.args.fed.now (option_to_list c.args.check) c.args.sets r.0 r.1) (with_own r.0.size 0 r.1) (c.push_fed.ensures.fits r.0 r.1 r.2) in
    let size = s.laid.size in
    let g = number_is r.0 r.1 c.args.valves.now c.len-group.result c.len-group.ensures r.2 in
    omega (arith, size, g)

pub set_count-requires-clause-ready : goal.set_count-requires-clause-ready
set_count-requires-clause-ready c =
    let r = c.requires.ready in
    let s = c.push_alias.ensures.fits (one c.args.fed.now (option_to_list c.args.check) c.args.sets r.0 r.1) (with_own r.0.size 0 r.1) (c.push_fed.ensures.fits r.0 r.1 r.2) in
    (_, _, c.reshape.ensures.fits _ _ s)

pub set_count-requires-clause-valve : goal.set_count-requires-clause-valve
set_count-requires-clause-valve c =
    let r = c.requires.ready in
    let s = c.push_alias.ensures.fits (one c.args.fed.now (option_to_list c.args.check) c.args.sets r.0 r.1) (with_own r.0.size 0 r.1) (c.push_fed.ensures.fits r.0 r.1 r.2) in
    let size = (c.reshape.ensures.fits _ _ s).laid.size in
    let g = number_is r.0 r.1 c.args.valves.now c.len-group.result c.len-group.ensures r.2 in
    omega (arith, size, g)

pub returns-clause-fits : goal.returns-clause-fits
returns-clause-fits c net own fits =
    let feeders = option_to_list c.args.check in
    let sets = c.args.sets in
    let g = number_is net own c.args.valves.now c.len-group.result c.len-group.ensures fits in
    let s = c.push_alias.ensures.fits (one c.args.fed.now feeders sets net own) (with_own net.size 0 own) (c.push_fed.ensures.fits net own fits) in
    let all = c.set_count.ensures.fits _ _ (c.reshape.ensures.fits _ _ s) in
    stands_alike (pushed c.args.fed.now feeders sets net own) (with_group c.args.fed.now feeders net) (own_pushed c.args.fed.now feeders sets net own) (with_two_counts sets net.size own)
    refl (conditions c.args.fed.now feeders sets net own) (counts_alike c.args.fed.now feeders sets net own) c.set_count.new.self
    (subst (λ (n : ℕ). ValvesStandFor (with_need n 1 false (with_one_more (fed_condition (feeders ++ n ∷ [])) (one c.args.fed.now feeders sets net own)))
    (with_own n sets (with_own (net.size + 1) 0 (with_own net.size 0 own))) c.set_count.new.self) g all)

pub returns-clause-meet : goal.returns-clause-meet
returns-clause-meet c net own fits ends meet =
    let feeders = option_to_list c.args.check in
    let sets = c.args.sets in
    let g = number_is net own c.args.valves.now c.len-group.result c.len-group.ensures fits in
    let first = c.push_fed.ensures.fits net own fits in
    let s = c.push_alias.ensures.fits (one c.args.fed.now feeders sets net own) (with_own net.size 0 own) first in
    let m = c.push_alias.ensures.meet (one c.args.fed.now feeders sets net own) (with_own net.size 0 own) first (c.push_fed.ensures.meet net own fits meet) in
    let ends_one = subst (λ (n : ℕ). HasEnds (with_one_more (fed_condition (feeders ++ n ∷ [])) (one c.args.fed.now feeders sets net own))) (sym g)
    (ends_both c.args.fed.now feeders sets net own ends) in
    let ends_two = subst (λ (n : ℕ). HasEnds (with_need n 1 false (with_one_more (fed_condition (feeders ++ n ∷ [])) (one c.args.fed.now feeders sets net own)))) (sym g)
    (ends_pushed c.args.fed.now feeders sets net own ends) in
    let reshaped = c.reshape.ensures.fits _ _ s in
    let all = c.set_count.ensures.meet _ _ reshaped ends_two (c.reshape.ensures.meet _ _ s ends_one m) in
    meet_alike (pushed c.args.fed.now feeders sets net own) (with_group c.args.fed.now feeders net) (own_pushed c.args.fed.now feeders sets net own) (with_two_counts sets net.size own)
    refl (conditions c.args.fed.now feeders sets net own) (counts_alike c.args.fed.now feeders sets net own) c.set_count.new.self
    (subst (λ (n : ℕ). MeetAll (with_need n 1 false (with_one_more (fed_condition (feeders ++ n ∷ [])) (one c.args.fed.now feeders sets net own)))
    (with_own n sets (with_own (net.size + 1) 0 (with_own net.size 0 own))) c.set_count.new.self) g all)

pub returns-clause-room : goal.returns-clause-room
returns-clause-room c n m room =
    c.set_count.ensures.room n m (c.reshape.ensures.room n m (c.push_alias.ensures.room n m (c.push_fed.ensures.room n m room)))
