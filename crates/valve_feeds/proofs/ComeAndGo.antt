-- Feeds that come and go.
use Rattle.std.proofs.Common.{◌≡◌, ◌<◌, ℕ, suc, List, [], ◌∷◌, length, map, set, get_or-set_same, get_or-set_other, arith, refl, sym, ap, ◌∙◌, subst, inl, inr}
use Rattle.std.specs.List.{Contains}
use Rattle.std.proofs.lemmas.Bool.{cases_eq}
use Rattle.std.proofs.lemmas.List.{map-set}
use Rattle.cell_lists.specs.Lists.{IsFree, list_at, without}
use Rattle.cell_lists.proofs.Linking.{list_now, list_beside}
use Rattle.valve_feeds.specs.declared.joining.Ends.{Ends}
use Rattle.valve_feeds.specs.Joined.{ends_at, fed_in, feeders_in, those_to, those_from, of_valves}
use Rattle.valve_feeds.proofs.Filters.{those_here, those_not, those_same, those_without, those_beside, values_without, map_same, list_at_map, lists_same}

-- ---- the lists of the valves behind the first list

pub at_valve : (lists : List (List ℕ)) (x : ℕ) → list_at (of_valves lists) x ≡ list_at lists (suc x)
at_valve [] x = refl
at_valve (free ∷ lists) x = refl

pub set_free : (lists : List (List ℕ)) (cs : List ℕ) → of_valves (set lists 0 cs) ≡ of_valves lists
set_free [] cs = refl
set_free (free ∷ lists) cs = refl

pub set_valve : (lists : List (List ℕ)) (x : ℕ) (cs : List ℕ) → of_valves (set lists (suc x) cs) ≡ set (of_valves lists) x cs
set_valve [] x cs = refl
set_valve (free ∷ lists) x cs = refl

pub valves_less : (lists : List (List ℕ)) (x : ℕ) → x < length (of_valves lists) → suc x < length lists
valves_less [] x below = absurd (omega arith)
valves_less (free ∷ lists) x below = omega arith

-- ---- a feed comes

module _ (ends : List Ends) (outs intos : List (List ℕ)) (x y c : ℕ)
    (both : (p q : ℕ) → those_to ends q (list_at outs p) ≡ those_from ends p (list_at intos q))
    (there : x < length outs) (there' : y < length intos) (inside : c < length ends)
    (free : IsFree outs c) (free' : IsFree intos c) where
  abbrev ends' : List Ends
  ends' = set ends c (record { feeder = x; fed = y })

  new_ends : ends_at (set ends c (record { feeder = x; fed = y })) c ≡ record { feeder = x; fed = y }
  new_ends = get_or-set_same ends c _ _ inside

  old_fed : (l : List ℕ) → (Contains l c → ⊥) → (d : ℕ) → Contains l d
      → (ends_at (set ends c (record { feeder = x; fed = y })) d).fed ≡ (ends_at ends d).fed
  old_fed l not d w = ap (λ (e : Ends). e.fed) (get_or-set_other ends c d _ _ (λ e. not (subst (Contains l) e w)))

  old_feeder : (l : List ℕ) → (Contains l c → ⊥) → (d : ℕ) → Contains l d
      → (ends_at (set ends c (record { feeder = x; fed = y })) d).feeder ≡ (ends_at ends d).feeder
  old_feeder l not d w = ap (λ (e : Ends). e.feeder) (get_or-set_other ends c d _ _ (λ e. not (subst (Contains l) e w)))

  old_to : (p q : ℕ) → those_to (set ends c (record { feeder = x; fed = y })) q (list_at outs p) ≡ those_to ends q (list_at outs p)
  old_to p q = those_same (λ d. (ends_at ends d).fed) (λ d. (ends_at ends' d).fed) q (list_at outs p) (old_fed (list_at outs p) (free p))

  old_from : (p q : ℕ) → those_from (set ends c (record { feeder = x; fed = y })) p (list_at intos q) ≡ those_from ends p (list_at intos q)
  old_from p q = those_same (λ d. (ends_at ends d).feeder) (λ d. (ends_at ends' d).feeder) p (list_at intos q) (old_feeder (list_at intos q) (free' q))

  pub both_more : (p q : ℕ) → those_to (set ends c (record { feeder = x; fed = y })) q (list_at (set outs x (c ∷ list_at outs x)) p)
      ≡ those_from (set ends c (record { feeder = x; fed = y })) p (list_at (set intos y (c ∷ list_at intos y)) q)
  both_more p q = elim (cases_eq p x) [
    | inl same ↦ elim (cases_eq q y) [
      | inl same' ↦
          ap (those_to ends' q) (list_now outs x (c ∷ list_at outs x) there p same)
          ∙ those_here (λ d. (ends_at ends' d).fed) q c (list_at outs x) (ap (λ (e : Ends). e.fed) new_ends ∙ sym same')
          ∙ ap (λ l. c ∷ l) (old_to x q ∙ both x q ∙ ap (λ k. those_from ends k (list_at intos q)) (sym same) ∙ ap (λ k. those_from ends p (list_at intos k)) same' ∙ sym (old_from p y))
          ∙ sym (those_here (λ d. (ends_at ends' d).feeder) p c (list_at intos y) (ap (λ (e : Ends). e.feeder) new_ends ∙ sym same))
          ∙ ap (those_from ends' p) (sym (list_now intos y (c ∷ list_at intos y) there' q same'))
      | inr apart' ↦
          ap (those_to ends' q) (list_now outs x (c ∷ list_at outs x) there p same)
          ∙ those_not (λ d. (ends_at ends' d).fed) q c (list_at outs x) (λ e. apart' (sym e ∙ ap (λ (e : Ends). e.fed) new_ends))
          ∙ old_to x q ∙ both x q ∙ ap (λ k. those_from ends k (list_at intos q)) (sym same) ∙ sym (old_from p q)
          ∙ ap (those_from ends' p) (sym (list_beside intos y (c ∷ list_at intos y) there' q apart'))
    ]
    | inr apart ↦ elim (cases_eq q y) [
      | inl same' ↦
          ap (those_to ends' q) (list_beside outs x (c ∷ list_at outs x) there p apart)
          ∙ old_to p q ∙ both p q ∙ ap (λ k. those_from ends p (list_at intos k)) same' ∙ sym (old_from p y)
          ∙ sym (those_not (λ d. (ends_at ends' d).feeder) p c (list_at intos y) (λ e. apart (sym e ∙ ap (λ (e : Ends). e.feeder) new_ends)))
          ∙ ap (those_from ends' p) (sym (list_now intos y (c ∷ list_at intos y) there' q same'))
      | inr apart' ↦
          ap (those_to ends' q) (list_beside outs x (c ∷ list_at outs x) there p apart)
          ∙ old_to p q ∙ both p q ∙ sym (old_from p q)
          ∙ ap (those_from ends' p) (sym (list_beside intos y (c ∷ list_at intos y) there' q apart'))
    ]
  ]

  -- what is fed, and what feeds, then
  pub fed_more : map (fed_in (set ends c (record { feeder = x; fed = y }))) (set outs x (c ∷ list_at outs x))
      ≡ set (map (fed_in ends) outs) x (y ∷ list_at (map (fed_in ends) outs) x)
  fed_more =
      map-set (fed_in ends') outs x (c ∷ list_at outs x)
      ∙ ap (λ l. set l x (fed_in ends' (c ∷ list_at outs x)))
      (lists_same (fed_in ends) (fed_in ends') outs (λ k. map_same _ _ (list_at outs k) (old_fed (list_at outs k) (free k))))
      ∙ ap (set (map (fed_in ends) outs) x)
      (let first = ap (λ (e : Ends). e.fed) new_ends in
      let rest = map_same (λ d. (ends_at ends d).fed) (λ d. (ends_at ends' d).fed) (list_at outs x) (old_fed (list_at outs x) (free x)) ∙ sym (list_at_map (fed_in ends) refl outs x) in cc)

  pub feeders_more : map (feeders_in (set ends c (record { feeder = x; fed = y }))) (set intos y (c ∷ list_at intos y))
      ≡ set (map (feeders_in ends) intos) y (x ∷ list_at (map (feeders_in ends) intos) y)
  feeders_more =
      map-set (feeders_in ends') intos y (c ∷ list_at intos y)
      ∙ ap (λ l. set l y (feeders_in ends' (c ∷ list_at intos y)))
      (lists_same (feeders_in ends) (feeders_in ends') intos (λ k. map_same _ _ (list_at intos k) (old_feeder (list_at intos k) (free' k))))
      ∙ ap (set (map (feeders_in ends) intos) y)
      (let first = ap (λ (e : Ends). e.feeder) new_ends in
      let rest = map_same (λ d. (ends_at ends d).feeder) (λ d. (ends_at ends' d).feeder) (list_at intos y) (old_feeder (list_at intos y) (free' y)) ∙ sym (list_at_map (feeders_in ends) refl intos y) in cc)

-- ---- a feed goes

module _ (ends : List Ends) (outs intos : List (List ℕ)) (x y c : ℕ) (rest : List ℕ)
    (both : (p q : ℕ) → those_to ends q (list_at outs p) ≡ those_from ends p (list_at intos q))
    (there : x < length outs) (there' : y < length intos)
    (from : (ends_at ends c).feeder ≡ x) (to : (ends_at ends c).fed ≡ y)
    (first : those_to ends y (list_at outs x) ≡ c ∷ rest) where
  pub both_fewer : (p q : ℕ) → those_to ends q (list_at (set outs x (without c (list_at outs x))) p)
      ≡ those_from ends p (list_at (set intos y (without c (list_at intos y))) q)
  both_fewer p q = elim (cases_eq p x) [
    | inl same ↦ elim (cases_eq q y) [
      | inl same' ↦
          ap (those_to ends q) (list_now outs x (without c (list_at outs x)) there p same)
          ∙ those_without (λ d. (ends_at ends d).fed) q c (list_at outs x) (to ∙ sym same')
          ∙ ap (without c) (both x q ∙ ap (λ k. those_from ends k (list_at intos q)) (sym same) ∙ ap (λ k. those_from ends p (list_at intos k)) same')
          ∙ sym (those_without (λ d. (ends_at ends d).feeder) p c (list_at intos y) (from ∙ sym same))
          ∙ ap (those_from ends p) (sym (list_now intos y (without c (list_at intos y)) there' q same'))
      | inr apart' ↦
          ap (those_to ends q) (list_now outs x (without c (list_at outs x)) there p same)
          ∙ those_beside (λ d. (ends_at ends d).fed) q c (list_at outs x) (λ e. apart' (sym e ∙ to))
          ∙ both x q ∙ ap (λ k. those_from ends k (list_at intos q)) (sym same)
          ∙ ap (those_from ends p) (sym (list_beside intos y (without c (list_at intos y)) there' q apart'))
    ]
    | inr apart ↦ elim (cases_eq q y) [
      | inl same' ↦
          ap (those_to ends q) (list_beside outs x (without c (list_at outs x)) there p apart)
          ∙ both p q ∙ ap (λ k. those_from ends p (list_at intos k)) same'
          ∙ sym (those_beside (λ d. (ends_at ends d).feeder) p c (list_at intos y) (λ e. apart (sym e ∙ from)))
          ∙ ap (those_from ends p) (sym (list_now intos y (without c (list_at intos y)) there' q same'))
      | inr apart' ↦
          ap (those_to ends q) (list_beside outs x (without c (list_at outs x)) there p apart)
          ∙ both p q
          ∙ ap (those_from ends p) (sym (list_beside intos y (without c (list_at intos y)) there' q apart'))
    ]
  ]

  pub fed_fewer : map (fed_in ends) (set outs x (without c (list_at outs x)))
      ≡ set (map (fed_in ends) outs) x (without y (list_at (map (fed_in ends) outs) x))
  fed_fewer =
      map-set (fed_in ends) outs x (without c (list_at outs x))
      ∙ ap (set (map (fed_in ends) outs) x)
      (values_without (λ d. (ends_at ends d).fed) y c (list_at outs x) rest to first
      ∙ ap (without y) (sym (list_at_map (fed_in ends) refl outs x)))

  pub feeders_fewer : map (feeders_in ends) (set intos y (without c (list_at intos y)))
      ≡ set (map (feeders_in ends) intos) y (without x (list_at (map (feeders_in ends) intos) y))
  feeders_fewer =
      map-set (feeders_in ends) intos y (without c (list_at intos y))
      ∙ ap (set (map (feeders_in ends) intos) y)
      (values_without (λ d. (ends_at ends d).feeder) x c (list_at intos y) rest from (sym (both x y) ∙ first)
      ∙ ap (without x) (sym (list_at_map (feeders_in ends) refl intos y)))
