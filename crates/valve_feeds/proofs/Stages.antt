-- Feeds as calls leave them.
use Rattle.std.proofs.Common.{◌≡◌, ◌<◌, ◌≤◌, ◌+◌, ◌-◌, ◌^◌, ℕ, zero, suc, List, [], ◌∷◌, ◌++◌, None, Some, length, set, arith, refl, sym, ap, ◌∙◌, subst, inl, inr}
use Rattle.std.specs.Prelude.{min, vec_capacity}
use Rattle.std.specs.List.{Contains}
use Rattle.std.specs.declared.vec.Vec.{Vec}
use Rattle.std.proofs.lemmas.Bool.{cases_eq}
use Rattle.std.proofs.lemmas.List.{length-set, length-append}
use Rattle.cell_lists.specs.Lists.{Lists, IsFree, list_at, list_of, with_list, without, first_of}
use Rattle.cell_lists.proofs.Members.{in_cases, in_without, length_without}
use Rattle.cell_lists.proofs.Linking.{list_now, list_beside, owner_below, at_more}
use Rattle.valve_feeds.specs.declared.joining.Ends.{Ends}
use Rattle.valve_feeds.specs.Joined.{IsJoined, HasCell, ends_at, no_ends, those_to, those_from, of_valves, more_in}
use Rattle.valve_feeds.proofs.Filters.{those_same}
use Rattle.valve_feeds.proofs.ComeAndGo.{at_valve, set_free, set_valve, valves_less, both_more, both_fewer}

-- the same cells and lists
pub rejoined : (ends : List Ends) (out out' into into' : Lists) → IsJoined ends out into
    → out'.lists ≡ out.lists → out'.cells ≡ out.cells → into'.lists ≡ into.lists → into'.cells ≡ into.cells
    → IsJoined ends out' into'
rejoined ends out out' into into' j lo co li ci = record {
  out_cells = co ∙ j.out_cells;
  into_cells = ci ∙ j.into_cells;
  owners = ap (λ l. length (of_valves l)) lo ∙ j.owners ∙ ap length (sym li);
  few = subst (λ (l : List (List ℕ)). length l < 2 ^ 32) (sym li) j.few;
  both = λ p q. ap (λ l. those_to ends q (list_at (of_valves l) p)) lo ∙ j.both p q
      ∙ ap (λ l. those_from ends p (list_at l q)) (sym li);
  free = λ c w. subst (λ l. IsFree l c) (sym li) (j.free c (subst (λ l. Contains (list_at l 0) c) lo w));
}

-- ---- a valve more

pub valve_more : (ends : List Ends) (out out' into into' : Lists) → IsJoined ends out into
    → of_valves out'.lists ≡ of_valves out.lists ++ [] ∷ [] → list_at out'.lists 0 ≡ list_at out.lists 0
    → out'.cells ≡ out.cells → into'.lists ≡ into.lists ++ [] ∷ [] → into'.cells ≡ into.cells
    → length into.lists + 1 < 2 ^ 32
    → IsJoined ends out' into'
valve_more ends out out' into into' j valves frees co li ci fits = record {
  out_cells = co ∙ j.out_cells;
  into_cells = ci ∙ j.into_cells;
  owners = (let o = j.owners in
      ap length valves ∙ length-append (of_valves out.lists) ([] ∷ []) ∙ ap (λ n. n + 1) o
      ∙ sym (ap length li ∙ length-append into.lists ([] ∷ [])));
  few = (let l = ap length li ∙ length-append into.lists ([] ∷ []) in omega arith);
  both = λ p q. ap (λ l. those_to ends q (list_at l p)) valves
      ∙ ap (those_to ends q) (at_more (of_valves out.lists) [] p)
      ∙ j.both p q
      ∙ ap (those_from ends p) (sym (at_more into.lists [] q))
      ∙ ap (λ l. those_from ends p (list_at l q)) (sym li);
  free = λ c w q v. j.free c (subst (λ l. Contains l c) frees w) q
      (subst (λ l. Contains l c) (at_more into.lists [] q) (subst (λ l. Contains (list_at l q) c) li v));
}

-- ---- a cell that is no feed

-- it was among those
pub had_cell : {Z : Type 0} (ends : Vec Ends Z) (out out' into : Lists) (c : ℕ) → IsJoined ends.items out into
    → first_of (list_of out 0) ≡ Some c → c < out.cells
    → out' ≡ with_list 0 (without c (list_of out 0)) out → IsFree out'.lists c
    → HasCell ends ends out out' into into c
had_cell ends out out' into c j first inside is free =
    let lists = ap (λ (s : Lists). s.lists) is in
    let cells = ap (λ (s : Lists). s.cells) is in
    let room = ap (λ (s : Lists). s.owners_room) is in
    let cells_room = ap (λ (s : Lists). s.cells_room) is in
    let here = front (list_of out 0) first in
    let there = owner_below out.lists 0 c here in
    let now = ap (λ l. list_at l 0) lists ∙ list_now out.lists 0 (without c (list_of out 0)) there 0 refl in
    let valves = ap of_valves lists ∙ set_free out.lists (without c (list_of out 0)) in
    let ends_here = j.out_cells in
    let fewer = length_without c (list_of out 0) here in
    let long = ap length now in
    let more : more_in ends out' into ≡ more_in ends out into =
    ap (λ n. min (min n into.cells_room) (vec_capacity ends - length ends.items)) cells_room in
    record {
      joined = record {
        out_cells = cells ∙ j.out_cells;
        into_cells = j.into_cells;
        owners = ap length valves ∙ j.owners;
        few = j.few;
        both = λ p q. ap (λ l. those_to ends.items q (list_at l p)) valves ∙ j.both p q;
        free = λ d w. j.free d (in_without c (list_of out 0) d (subst (λ l. Contains l d) now w));
      };
      within = omega arith;
      out_free = free;
      into_free = j.free c here;
      same_ends = λ d. refl;
      same_valves = valves;
      same_into = refl;
      long = ap length lists ∙ length-set out.lists 0 (without c (list_of out 0));
      room = omega arith;
      most = ap (λ n. length ends.items + n) more;
      out_room = room;
      into_room = refl;
    }
  where
    front : (cs : List ℕ) → first_of cs ≡ Some c → Contains cs c
    front [] e = absurd cc
    front (d ∷ ds) e = let same : d ≡ c = cc in (0, omega arith, same)

-- it is made
pub made_cell : {Z W : Type 0} (ends : Vec Ends Z) (ends' : Vec Ends W) (out out' into into' : Lists) (c : ℕ)
    → IsJoined ends.items out into
    → c ≡ out.cells
    → 1 ≤ more_in ends out into
    → out'.lists ≡ out.lists → out'.cells ≡ out.cells + 1 → out'.owners_room ≡ out.owners_room
    → out'.cells_room + 1 ≡ out.cells_room → IsFree out'.lists out.cells
    → into'.lists ≡ into.lists → into'.cells ≡ into.cells + 1 → into'.owners_room ≡ into.owners_room
    → into'.cells_room + 1 ≡ into.cells_room → IsFree into'.lists into.cells
    → ends'.items ≡ ends.items ++ no_ends ∷ [] → vec_capacity ends' ≡ vec_capacity ends
    → HasCell ends ends' out out' into into' c
made_cell ends ends' out out' into into' c j at more lo co ro mo fo li ci ri mi fi items cap =
    let long = ap length items ∙ length-append ends.items (no_ends ∷ []) in
    let oc = j.out_cells in
    let ic = j.into_cells in
    let same = (λ (d : ℕ). ap (λ l. ends_at l d) items ∙ at_more ends.items no_ends d) in
    let less : more_in ends' out' into' + 1 ≡ more_in ends out into = omega arith in
    let list = ap length (ap (λ l. list_at l 0) lo) in
    record {
      joined = record {
        out_cells = omega arith;
        into_cells = omega arith;
        owners = ap (λ l. length (of_valves l)) lo ∙ j.owners ∙ ap length (sym li);
        few = subst (λ (l : List (List ℕ)). length l < 2 ^ 32) (sym li) j.few;
        both = λ p q. those_same (λ d. (ends_at ends.items d).fed) (λ d. (ends_at ends'.items d).fed) q (list_at (of_valves out'.lists) p)
            (λ d w. ap (λ (e : Ends). e.fed) (same d))
            ∙ ap (λ l. those_to ends.items q (list_at (of_valves l) p)) lo ∙ j.both p q
            ∙ ap (λ l. those_from ends.items p (list_at l q)) (sym li)
            ∙ sym (those_same (λ d. (ends_at ends.items d).feeder) (λ d. (ends_at ends'.items d).feeder) p (list_at into'.lists q)
            (λ d w. ap (λ (e : Ends). e.feeder) (same d)));
        free = λ d w. subst (λ l. IsFree l d) (sym li) (j.free d (subst (λ l. Contains (list_at l 0) d) lo w));
      };
      within = omega arith;
      out_free = subst (IsFree out'.lists) (sym at) fo;
      into_free = (let e : into.cells ≡ c = omega arith in subst (IsFree into'.lists) e fi);
      same_ends = same;
      same_valves = ap of_valves lo;
      same_into = li;
      long = ap length lo;
      room = omega arith;
      most = omega arith;
      out_room = ro;
      into_room = ri;
    }

-- ---- a feed comes

pub feed_joined : (ends : List Ends) (out into : Lists) (x y c : ℕ) → IsJoined ends out into
    → c < length ends → x < length (of_valves out.lists) → y < length into.lists
    → IsFree out.lists c → IsFree into.lists c
    → IsJoined (set ends c (record { feeder = x; fed = y })) (with_list (suc x) (c ∷ list_of out (suc x)) out)
    (with_list y (c ∷ list_of into y) into)
feed_joined ends out into x y c j inside there there' free free' =
    let long = length-set ends c (record { feeder = x; fed = y }) in
    let o = j.owners in
    record {
      out_cells = j.out_cells ∙ sym long;
      into_cells = j.into_cells ∙ sym long;
      owners = ap length (set_valve out.lists x _) ∙ length-set (of_valves out.lists) x _ ∙ o ∙ sym (length-set into.lists y _);
      few = (let l = length-set into.lists y (c ∷ list_of into y) in let f = j.few in omega arith);
      both = λ p q. ap (λ l. those_to (set ends c (record { feeder = x; fed = y })) q (list_at l p)) moved
          ∙ both_more ends (of_valves out.lists) into.lists x y c j.both there there' inside (free_valves out.lists c free) free' p q;
      free = λ d w. still d (subst (λ l. Contains l d) (list_beside out.lists (suc x) (c ∷ list_of out (suc x)) (valves_less out.lists x there) 0 (λ e. zero_apart x e)) w);
    }
  where
    zero_apart : (n : ℕ) → zero ≡ suc n → ⊥
    zero_apart n e = cc

    free_valves : (lists : List (List ℕ)) (d : ℕ) → IsFree lists d → IsFree (of_valves lists) d
    free_valves lists d f p w = f (suc p) (subst (λ l. Contains l d) (at_valve lists p) w)

    moved : of_valves (set out.lists (suc x) (c ∷ list_of out (suc x))) ≡ set (of_valves out.lists) x (c ∷ list_at (of_valves out.lists) x)
    moved = set_valve out.lists x _ ∙ ap (λ l. set (of_valves out.lists) x (c ∷ l)) (sym (at_valve out.lists x))

    still : (d : ℕ) → Contains (list_at out.lists 0) d → IsFree (set into.lists y (c ∷ list_of into y)) d
    still d w q v = elim (cases_eq q y) [
      | inl same ↦ elim (in_cases c d (list_of into y) (subst (λ l. Contains l d) (list_now into.lists y _ there' q same) v)) [
        | inl e ↦ free 0 (subst (Contains (list_at out.lists 0)) (sym e) w)
        | inr i ↦ j.free d w y i
      ]
      | inr apart ↦ j.free d w q (subst (λ l. Contains l d) (list_beside into.lists y _ there' q apart) v)
    ]

-- ---- a feed goes

pub part_joined : (ends : List Ends) (out into : Lists) (x y c : ℕ) (rest : List ℕ) → IsJoined ends out into
    → (ends_at ends c).feeder ≡ x → (ends_at ends c).fed ≡ y
    → x < length (of_valves out.lists) → y < length into.lists
    → those_to ends y (list_at (of_valves out.lists) x) ≡ c ∷ rest
    → IsFree (set into.lists y (without c (list_of into y))) c
    → IsJoined ends (with_list 0 (c ∷ list_of out 0) (with_list (suc x) (without c (list_of out (suc x))) out))
    (with_list y (without c (list_of into y)) into)
part_joined ends out into x y c rest j from to there there' first gone = record {
  out_cells = j.out_cells;
  into_cells = j.into_cells;
  owners = ap length moved ∙ length-set (of_valves out.lists) x _ ∙ j.owners ∙ sym (length-set into.lists y _);
  few = (let l = length-set into.lists y (without c (list_of into y)) in let f = j.few in omega arith);
  both = λ p q. ap (λ l. those_to ends q (list_at l p)) moved
      ∙ both_fewer ends (of_valves out.lists) into.lists x y c rest j.both there there' from to first p q;
  free = λ d w. elim (in_cases c d (list_of out 0) (subst (λ l. Contains l d) now w)) [
    | inl e ↦ subst (IsFree _) e gone
    | inr i ↦ (λ q v. j.free d i q (kept d q v))
  ];
}
  where
    moved : of_valves (set (set out.lists (suc x) (without c (list_of out (suc x)))) 0 (c ∷ list_of out 0))
        ≡ set (of_valves out.lists) x (without c (list_at (of_valves out.lists) x))
    moved = set_free (set out.lists (suc x) (without c (list_of out (suc x)))) _ ∙ set_valve out.lists x _
        ∙ ap (λ l. set (of_valves out.lists) x (without c l)) (sym (at_valve out.lists x))

    now : list_at (set (set out.lists (suc x) (without c (list_of out (suc x)))) 0 (c ∷ list_of out 0)) 0 ≡ c ∷ list_of out 0
    now = let t = valves_less out.lists x there in
        let l = length-set out.lists (suc x) (without c (list_of out (suc x))) in
        list_now (set out.lists (suc x) (without c (list_of out (suc x)))) 0 (c ∷ list_of out 0) (omega arith) 0 refl

    kept : (d q : ℕ) → Contains (list_at (set into.lists y (without c (list_of into y))) q) d → Contains (list_at into.lists q) d
    kept d q v = elim (cases_eq q y) [
      | inl same ↦ subst (λ k. Contains (list_at into.lists k) d) (sym same)
          (in_without c (list_of into y) d (subst (λ l. Contains l d) (list_now into.lists y _ there' q same) v))
      | inr apart ↦ subst (λ l. Contains l d) (list_beside into.lists y _ there' q apart) v
    ]

pub none_first : (cs : List ℕ) → first_of cs ≡ None → cs ≡ []
none_first [] e = refl
none_first (c ∷ cs) e = absurd cc

pub some_first : (cs : List ℕ) (c : ℕ) → first_of cs ≡ Some c → Contains cs c
some_first [] c e = absurd cc
some_first (d ∷ ds) c e = let same : d ≡ c = cc in (0, omega arith, same)
