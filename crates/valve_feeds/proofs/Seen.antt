-- What contracts see of feeds that came and went.
use Rattle.std.proofs.Common.{◌≡◌, ◌<◌, ◌≤◌, ◌+◌, ◌-◌, ℕ, zero, suc, List, [], ◌∷◌, ◌++◌, Some, length, map, get_or, set, arith, refl, sym, ap, ◌∙◌, subst, inl, inr}
use Rattle.std.specs.Prelude.{vec_capacity}
use Rattle.std.specs.List.{Contains, All}
use Rattle.std.specs.declared.vec.Vec.{Vec}
use Rattle.std.proofs.lemmas.List.{length-set, length-map, length-append}
use Rattle.std.proofs.lemmas.List.Elements.{Contains-get_or, Contains-append_cases}
use Rattle.cell_lists.proofs.Members.{in_head, in_tail, few_once}
use Rattle.cell_lists.specs.Lists.{Lists, IsFree, AreApart, EachOnce, list_at, list_of, with_list, without, first_of}
use Rattle.cell_lists.proofs.Linking.{list_now, list_beside, owner_below}
use Rattle.valve_feeds.specs.declared.joining.Ends.{Ends}
use Rattle.valve_feeds.specs.Feeds.{AreReversed, times, with_feed, without_feed}
use Rattle.valve_feeds.specs.Joined.{IsJoined, HasCell, ends_at, both_ways, fed_in, feeders_in, those_to, those_from, of_valves, more_in}
use Rattle.valve_feeds.proofs.Filters.{in_map, in_those, list_at_map, times_those, of_those, those_here, map_same, lists_same}
use Rattle.valve_feeds.proofs.ComeAndGo.{at_valve, set_free, set_valve, valves_less, fed_more, feeders_more, fed_fewer, feeders_fewer}
use Rattle.valve_feeds.proofs.Stages.{part_joined}

-- ---- a feed goes

-- the cell is a feed, of those between its valves the first
pub record IsFeed (ends : List Ends) (out into : Lists) (c : ℕ) : Type 0 where
  pub rest : List ℕ
  pub first : those_to ends (ends_at ends c).fed (list_at (of_valves out.lists) (ends_at ends c).feeder) ≡ c ∷ rest

module _ (ends : List Ends) (out into : Lists) (c : ℕ) (joined : IsJoined ends out into) (feed : IsFeed ends out into c) where
  pub in_valve : Contains (list_at (of_valves out.lists) (ends_at ends c).feeder) c
  in_valve = (of_those (λ d. (ends_at ends d).fed) (ends_at ends c).fed c (list_at (of_valves out.lists) (ends_at ends c).feeder)
      (subst (λ l. Contains l c) (sym feed.first) (0, omega arith, refl))).0

  pub in_out : Contains (list_of out (suc (ends_at ends c).feeder)) c
  in_out = subst (λ l. Contains l c) (at_valve out.lists (ends_at ends c).feeder) in_valve

  pub in_into : Contains (list_of into (ends_at ends c).fed) c
  in_into = (of_those (λ d. (ends_at ends d).feeder) (ends_at ends c).feeder c (list_of into (ends_at ends c).fed)
      (subst (λ l. Contains l c) (sym feed.first ∙ joined.both (ends_at ends c).feeder (ends_at ends c).fed) (0, omega arith, refl))).0

  pub parted : IsFree (set into.lists (ends_at ends c).fed (without c (list_of into (ends_at ends c).fed))) c
      → IsJoined ends (with_list 0 (c ∷ list_of out 0)
      (with_list (suc (ends_at ends c).feeder) (without c (list_of out (suc (ends_at ends c).feeder))) out))
      (with_list (ends_at ends c).fed (without c (list_of into (ends_at ends c).fed)) into)
  parted gone = part_joined ends out into (ends_at ends c).feeder (ends_at ends c).fed c feed.rest joined refl refl
      (owner_below (of_valves out.lists) (ends_at ends c).feeder c in_valve)
      (owner_below into.lists (ends_at ends c).fed c in_into) feed.first gone

pub seen_fewer : {Z : Type 0} (ends : Vec Ends Z) (out into : Lists) (c x y : ℕ) → IsJoined ends.items out into
    → IsFeed ends.items out into c → (ends_at ends.items c).feeder ≡ x → (ends_at ends.items c).fed ≡ y
    → both_ways ends (with_list 0 (c ∷ list_of out 0) (with_list (suc x) (without c (list_of out (suc x))) out))
    (with_list y (without c (list_of into y)) into)
    ≡ without_feed x y (both_ways ends out into)
seen_fewer ends out into c x y joined feed from to =
    let there = subst (λ k. k < length (of_valves out.lists)) from
    (owner_below (of_valves out.lists) (ends_at ends.items c).feeder c (in_valve ends.items out into c joined feed)) in
    let there' = subst (λ k. k < length into.lists) to
    (owner_below into.lists (ends_at ends.items c).fed c (in_into ends.items out into c joined feed)) in
    let first : those_to ends.items y (list_at (of_valves out.lists) x) ≡ c ∷ feed.rest =
    ap (λ k. those_to ends.items y (list_at (of_valves out.lists) k)) (sym from)
    ∙ ap (λ k. those_to ends.items k (list_at (of_valves out.lists) (ends_at ends.items c).feeder)) (sym to) ∙ feed.first in
    let moved : of_valves (set (set out.lists (suc x) (without c (list_of out (suc x)))) 0 (c ∷ list_of out 0))
    ≡ set (of_valves out.lists) x (without c (list_at (of_valves out.lists) x)) =
    set_free (set out.lists (suc x) (without c (list_of out (suc x)))) _ ∙ set_valve out.lists x _
    ∙ ap (λ l. set (of_valves out.lists) x (without c l)) (sym (at_valve out.lists x)) in
    let fed = ap (map (fed_in ends.items)) moved
    ∙ fed_fewer ends.items (of_valves out.lists) into.lists x y c feed.rest joined.both there there' from to first in
    let feeders = feeders_fewer ends.items (of_valves out.lists) into.lists x y c feed.rest joined.both there there' from to first in
    let less = valves_less out.lists x there in
    let long_then = length-set out.lists (suc x) (without c (list_of out (suc x))) in
    let long = length-set (set out.lists (suc x) (without c (list_of out (suc x)))) 0 (c ∷ list_of out 0) ∙ long_then in
    let long_into = length-set into.lists y (without c (list_of into y)) in
    let free = ap length (list_now (set out.lists (suc x) (without c (list_of out (suc x)))) 0 (c ∷ list_of out 0) (omega arith) 0 refl) in
    let room : length (list_at (set (set out.lists (suc x) (without c (list_of out (suc x)))) 0 (c ∷ list_of out 0)) 0) + more_in ends out into
    ≡ length (list_of out 0) + more_in ends out into + 1 = omega arith in
    cc

-- the first feed into a valve, and of a valve

first_split : (cs : List ℕ) (c : ℕ) → first_of cs ≡ Some c → (rest : List ℕ) × (cs ≡ c ∷ rest)
first_split [] c e = absurd cc
first_split (d ∷ ds) c e = let same : d ≡ c = cc in (ds, ap (λ k. k ∷ ds) same)

pub first_into : (ends : List Ends) (out into : Lists) (c y : ℕ) → IsJoined ends out into → first_of (list_of into y) ≡ Some c
    → IsFeed ends out into c × ((ends_at ends c).fed ≡ y)
first_into ends out into c y joined first =
    let split = first_split (list_of into y) c first in
    let x = (ends_at ends c).feeder in
    let here : those_to ends y (list_at (of_valves out.lists) (ends_at ends c).feeder)
    ≡ c ∷ those_from ends (ends_at ends c).feeder split.0 =
    joined.both (ends_at ends c).feeder y ∙ ap (those_from ends (ends_at ends c).feeder) split.1
    ∙ those_here (λ d. (ends_at ends d).feeder) (ends_at ends c).feeder c split.0 refl in
    let to = (of_those (λ d. (ends_at ends d).fed) y c (list_at (of_valves out.lists) (ends_at ends c).feeder)
    (subst (λ l. Contains l c) (sym here) (0, omega arith, refl))).1 in (
      record {
        rest = those_from ends (ends_at ends c).feeder split.0;
        first = ap (λ k. those_to ends k (list_at (of_valves out.lists) (ends_at ends c).feeder)) to ∙ here;
      },
      to,
    )

pub first_out : (ends : List Ends) (out into : Lists) (c x : ℕ) → IsJoined ends out into → first_of (list_of out (suc x)) ≡ Some c
    → IsFeed ends out into c × ((ends_at ends c).feeder ≡ x)
first_out ends out into c x joined first =
    let split = first_split (list_of out (suc x)) c first in
    let here : those_to ends (ends_at ends c).fed (list_at (of_valves out.lists) x) ≡ c ∷ those_to ends (ends_at ends c).fed split.0 =
    ap (those_to ends (ends_at ends c).fed) (at_valve out.lists x ∙ split.1)
    ∙ those_here (λ d. (ends_at ends d).fed) (ends_at ends c).fed c split.0 refl in
    let from = (of_those (λ d. (ends_at ends d).feeder) x c (list_of into (ends_at ends c).fed)
    (subst (λ l. Contains l c) (sym here ∙ joined.both x (ends_at ends c).fed) (0, omega arith, refl))).1 in (
      record {
        rest = those_to ends (ends_at ends c).fed split.0;
        first = ap (λ k. those_to ends (ends_at ends c).fed (list_at (of_valves out.lists) k)) from ∙ here;
      },
      from,
    )

-- ---- a feed comes

pub seen_more : {Z W V : Type 0} (ends : Vec Ends Z) (ends' : Vec Ends W) (ends'' : Vec Ends V) (out out' into into' : Lists) (x y c : ℕ)
    → HasCell ends ends' out out' into into' c
    → ends''.items ≡ set ends'.items c (record { feeder = x; fed = y }) → vec_capacity ends'' ≡ vec_capacity ends'
    → x < length (of_valves out.lists) → y < length into.lists
    → both_ways ends'' (with_list (suc x) (c ∷ list_of out' (suc x)) out') (with_list y (c ∷ list_of into' y) into')
    ≡ with_feed x y (both_ways ends out into)
seen_more ends ends' ends'' out out' into into' x y c has items cap there there' =
    let x_in = subst (λ (l : List (List ℕ)). x < length l) (sym has.same_valves) there in
    let y_in = subst (λ (l : List (List ℕ)). y < length l) (sym has.same_into) there' in
    let free = (λ (p : ℕ) (w : Contains (list_at (of_valves out'.lists) p) c). has.out_free (suc p) (subst (λ l. Contains l c) (at_valve out'.lists p) w)) in
    let moved : of_valves (set out'.lists (suc x) (c ∷ list_of out' (suc x))) ≡ set (of_valves out'.lists) x (c ∷ list_at (of_valves out'.lists) x) =
    set_valve out'.lists x _ ∙ ap (λ l. set (of_valves out'.lists) x (c ∷ l)) (sym (at_valve out'.lists x)) in
    let fed_before : map (fed_in ends'.items) (of_valves out'.lists) ≡ map (fed_in ends.items) (of_valves out.lists) =
    ap (map (fed_in ends'.items)) has.same_valves ∙ lists_same (fed_in ends.items) (fed_in ends'.items) (of_valves out.lists)
    (λ k. map_same _ _ (list_at (of_valves out.lists) k) (λ d w. ap (λ (e : Ends). e.fed) (has.same_ends d))) in
    let feeders_before : map (feeders_in ends'.items) into'.lists ≡ map (feeders_in ends.items) into.lists =
    ap (map (feeders_in ends'.items)) has.same_into ∙ lists_same (feeders_in ends.items) (feeders_in ends'.items) into.lists
    (λ k. map_same _ _ (list_at into.lists k) (λ d w. ap (λ (e : Ends). e.feeder) (has.same_ends d))) in
    let fed = ap (λ l. map (fed_in l) (of_valves (set out'.lists (suc x) (c ∷ list_of out' (suc x))))) items
    ∙ ap (map (fed_in (set ends'.items c (record { feeder = x; fed = y })))) moved
    ∙ fed_more ends'.items (of_valves out'.lists) into'.lists x y c has.joined.both x_in y_in has.within free has.into_free
    ∙ ap (λ l. set l x (y ∷ list_at l x)) fed_before in
    let feeders = ap (λ l. map (feeders_in l) (set into'.lists y (c ∷ list_of into' y))) items
    ∙ feeders_more ends'.items (of_valves out'.lists) into'.lists x y c has.joined.both x_in y_in has.within free has.into_free
    ∙ ap (λ l. set l y (x ∷ list_at l y)) feeders_before in
    let long = length-set out'.lists (suc x) (c ∷ list_of out' (suc x)) ∙ has.long in
    let long_into = length-set into'.lists y (c ∷ list_of into' y) ∙ ap length has.same_into in
    let long_ends = ap length items ∙ length-set ends'.items c (record { feeder = x; fed = y }) in
    let same_free = ap length (list_beside out'.lists (suc x) (c ∷ list_of out' (suc x)) (valves_less out'.lists x x_in) 0 (λ e. apart x e)) in
    let has_room = has.room in
    let has_most = has.most in
    let out_room = has.out_room in
    let into_room = has.into_room in
    let room : length (list_at (set out'.lists (suc x) (c ∷ list_of out' (suc x))) 0) + more_in ends'' out' into'
    ≡ length (list_of out 0) + more_in ends out into - 1 = omega arith in
    let most : length ends''.items + more_in ends'' out' into' ≡ length ends.items + more_in ends out into = omega arith in
    cc
  where
    apart : (n : ℕ) → zero ≡ suc n → ⊥
    apart n e = cc

pub first_map : (f : ℕ → ℕ) (cs : List ℕ) (c : ℕ) → first_of cs ≡ Some c → first_of (map f cs) ≡ Some (f c)
first_map f [] c e = absurd cc
first_map f (d ∷ ds) c e = let same : d ≡ c = cc in ap (λ k. Some (f k)) same

-- ---- both sides of the feeds

-- what is fed is there
pub fed_below : (ends : List Ends) (out into : Lists) (x : ℕ) → IsJoined ends out into
    → All (λ y. y < length (of_valves out.lists)) (fed_in ends (list_of out (suc x)))
fed_below ends out into x joined k d below =
    let y = get_or (fed_in ends (list_of out (suc x))) k d in
    let at = in_map (λ e. (ends_at ends e).fed) (get_or (fed_in ends (list_of out (suc x))) k d) (list_of out (suc x))
    (Contains-get_or (fed_in ends (list_of out (suc x))) k d below) in
    let those = in_those (λ e. (ends_at ends e).fed) (get_or (fed_in ends (list_of out (suc x))) k d) at.0 (list_at (of_valves out.lists) x)
    (subst (λ l. Contains l at.0) (sym (at_valve out.lists x)) at.1) at.2 in
    let there = (of_those (λ e. (ends_at ends e).feeder) x at.0 (list_at into.lists (get_or (fed_in ends (list_of out (suc x))) k d))
    (subst (λ l. Contains l at.0) (joined.both x (get_or (fed_in ends (list_of out (suc x))) k d)) those)).0 in
    let owner = owner_below into.lists (get_or (fed_in ends (list_of out (suc x))) k d) at.0 there in
    let owners = joined.owners in omega arith

-- what feeds is there
pub feeders_below : (ends : List Ends) (out into : Lists) (y : ℕ) → IsJoined ends out into
    → All (λ x. x < length (of_valves out.lists)) (feeders_in ends (list_of into y))
feeders_below ends out into y joined k d below =
    let at = in_map (λ e. (ends_at ends e).feeder) (get_or (feeders_in ends (list_of into y)) k d) (list_of into y)
    (Contains-get_or (feeders_in ends (list_of into y)) k d below) in
    let those = in_those (λ e. (ends_at ends e).feeder) (get_or (feeders_in ends (list_of into y)) k d) at.0 (list_of into y) at.1 at.2 in
    let there = (of_those (λ e. (ends_at ends e).fed) y at.0 (list_at (of_valves out.lists) (get_or (feeders_in ends (list_of into y)) k d))
    (subst (λ l. Contains l at.0) (sym (joined.both (get_or (feeders_in ends (list_of into y)) k d) y)) those)).0 in
    owner_below (of_valves out.lists) (get_or (feeders_in ends (list_of into y)) k d) at.0 there

-- two lists with nothing in common, of numbers below one number
onto : (xs ys : List ℕ) → EachOnce xs → EachOnce ys → ((c : ℕ) → Contains xs c → Contains ys c → ⊥) → EachOnce (xs ++ ys)
onto [] ys first second apart = second
onto (x ∷ xs) ys first second apart = (
  (λ w. elim (Contains-append_cases xs ys x w) [
    | inl i ↦ first.0 i
    | inr i ↦ apart x (in_head x xs) i
  ]),
  onto xs ys first.1 second (λ c w v. apart c (in_tail x c xs w) v),
)

pub few_both : (n : ℕ) (xs ys : List ℕ) → EachOnce xs → EachOnce ys → ((c : ℕ) → Contains xs c → Contains ys c → ⊥)
    → ((c : ℕ) → Contains xs c → c < n) → ((c : ℕ) → Contains ys c → c < n) → length xs + length ys ≤ n
few_both n xs ys first second apart below below' =
    let few = few_once n (xs ++ ys) (onto xs ys first second apart) (λ c w. elim (Contains-append_cases xs ys c w) [
      | inl i ↦ below c i
      | inr i ↦ below' c i
    ]) in
    let long = length-append xs ys in omega arith

pub reversed : {Z : Type 0} (ends : Vec Ends Z) (out into : Lists) → IsJoined ends.items out into
    → AreApart out.lists out.cells → AreApart into.lists into.cells → AreReversed (both_ways ends out into)
reversed ends out into joined apart apart' = record {
  size = length-map into.lists (feeders_in ends.items) ∙ sym joined.owners ∙ sym (length-map (of_valves out.lists) (fed_in ends.items));
  times = λ x y. ap (times y) (list_at_map (fed_in ends.items) refl (of_valves out.lists) x)
      ∙ times_those (λ c. (ends_at ends.items c).fed) y (list_at (of_valves out.lists) x)
      ∙ ap length (joined.both x y)
      ∙ sym (times_those (λ c. (ends_at ends.items c).feeder) x (list_at into.lists y))
      ∙ ap (times x) (sym (list_at_map (feeders_in ends.items) refl into.lists y));
  few_fed = λ x.
      let same = ap length (list_at_map (fed_in ends.items) refl (of_valves out.lists) x ∙ ap (fed_in ends.items) (at_valve out.lists x))
      ∙ length-map (list_at out.lists (suc x)) (λ c. (ends_at ends.items c).fed) in
      let few = few_both out.cells (list_at out.lists 0) (list_at out.lists (suc x)) (apart.once 0) (apart.once (suc x))
      (λ c w v. differ x (apart.alone 0 (suc x) c w v)) (apart.within 0) (apart.within (suc x)) in
      let cells = joined.out_cells in omega arith;
  few_feeders = λ y.
      let same = ap length (list_at_map (feeders_in ends.items) refl into.lists y)
      ∙ length-map (list_at into.lists y) (λ c. (ends_at ends.items c).feeder) in
      let few = few_both out.cells (list_at out.lists 0) (list_at into.lists y) (apart.once 0) (apart'.once y)
      (λ c w v. joined.free c w y v) (apart.within 0)
      (λ c w. let b = apart'.within y c w in let i = joined.into_cells in let o = joined.out_cells in omega arith) in
      let cells = joined.out_cells in omega arith;
}
  where
    differ : (n : ℕ) → zero ≡ suc n → ⊥
    differ n e = cc
