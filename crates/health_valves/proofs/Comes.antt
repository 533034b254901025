-- A valve more, behind the others, and what feeds it.
use Rattle.std.proofs.Common.{◌≡◌, ◌≢◌, ◌<◌, ◌+◌, ◌++◌, ◌^◌, ℕ, zero, suc, Bool, false, List, [], ◌∷◌, length, length-append, get_or, arith, refl, ap, sym, ◌∙◌, inl, inr, Some}
use Rattle.std.specs.Prelude.{nat_le, slice_get, slice_index}
use Rattle.std.specs.List.{Contains}
use Rattle.std.proofs.lemmas.Bool.{cases_eq, cases_lt, eq-eqb, le-ltb, lt-ltb, ne_eqb}
use Rattle.std.proofs.lemmas.List.{get_or_past}
use Rattle.std.proofs.lemmas.Option.{slice_get_within}
use mathlib.Core.Path.{subst}
use Rattle.calculated_health.specs.Status.{swapped_if}
use Rattle.cell_lists.specs.Lists.{list_at}
use Rattle.health_valves.specs.Valves.{BothWays, Condition, IsCounted, IsLaid, IsOwned, IsRow, MeetsEquation, Net, count, fed_by, fed_condition, times, unfed_condition, value_in, with_one_more, with_own}
use Rattle.health_valves.specs.declared.valves.ValveFeeds.{ValveFeeds}
use Rattle.health_valves.proofs.Counts.{own_here, own_there}
use Rattle.health_valves.proofs.Members.{in_head, in_tail}
use Rattle.health_valves.proofs.Times.{in_times, times_in}

some_same : {X : Type 0} {x y : X} → Some x ≡ Some y → x ≡ y
some_same e = cc

-- ---- a list with one more at its end

pub got_before : {X : Type 0} (xs : List X) (x : X) (n : ℕ) → n < length xs
    → slice_get (xs ++ x ∷ []) n ≡ slice_get xs n
got_before [] x n within = absurd (omega (arith, within))
got_before (y ∷ xs) x zero within = refl
got_before (y ∷ xs) x (suc n) within = got_before xs x n (omega (arith, within))

pub got_at_end : {X : Type 0} (xs : List X) (x : X) → slice_get (xs ++ x ∷ []) (length xs) ≡ Some x
got_at_end [] x = refl
got_at_end (y ∷ xs) x = got_at_end xs x

pub or_before : {X : Type 0} (xs : List X) (x d : X) (n : ℕ) → n < length xs
    → get_or (xs ++ x ∷ []) n d ≡ get_or xs n d
or_before [] x d n within = absurd (omega (arith, within))
or_before (y ∷ xs) x d zero within = refl
or_before (y ∷ xs) x d (suc n) within = or_before xs x d n (omega (arith, within))

pub or_at_end : {X : Type 0} (xs : List X) (x d : X) → get_or (xs ++ x ∷ []) (length xs) d ≡ x
or_at_end [] x d = refl
or_at_end (y ∷ xs) x d = or_at_end xs x d

-- values that agree on what is listed are counted alike
pub count_alike : (v w : ℕ → Bool) (xs : List ℕ) → ((x : ℕ) → Contains xs x → w x ≡ v x)
    → count w xs ≡ count v xs
count_alike v w [] same = refl
count_alike v w (x ∷ xs) same =
    let first = same x (in_head x xs) in
    let rest = count_alike v w xs (λ y m. same y (in_tail x y xs m)) in
    cc

module _ (net : Net) (own : ℕ → ℕ) (feeders : List ℕ) where
  abbrev now : Net
  now = with_one_more (fed_condition feeders) net

  abbrev own_now : ℕ → ℕ
  own_now = with_own net.size 0 own

  pub here : now.condition net.size ≡ fed_condition feeders
  here = rw (eq-eqb net.size net.size refl) refl

  pub there : (n : ℕ) → n < net.size → now.condition n ≡ net.condition n
  there n within =
      rw (ne_eqb n net.size (λ e. omega (arith, e, within)), lt-ltb n net.size within) refl

  pub behind : (n : ℕ) → net.size < n → now.condition n ≡ unfed_condition
  behind n past =
      rw (ne_eqb n net.size (λ e. omega (arith, e, past)), le-ltb n net.size (omega (arith, past))) refl

  -- what feeds a valve is one of those that there are
  pub feeder_within : (rows : List ValveFeeds) (feeds : BothWays) → IsLaid net rows feeds → (x n : ℕ)
      → n < net.size → Contains (net.condition n).feeders x → x < net.size
  feeder_within rows feeds laid x n within fed = elim (cases_lt x net.size) [
    | inl below ↦ below
    | inr past ↦
        let many = laid.valves in
        let none = ap (times n) (get_or_past feeds.fed x [] (omega (arith, many, past))) in
        let same = laid.reversed x n within in
        let some = in_times x (net.condition n).feeders fed in
        absurd (omega (arith, none, same, some))
  ]

  pub laid_more : (rows : List ValveFeeds) (feeds after : BothWays) (row : ValveFeeds)
      → row.need ≡ length feeders → row.inverted ≡ false
      → ((x : ℕ) → times net.size (fed_by after x) ≡ times x feeders)
      → ((x y : ℕ) → y ≢ net.size → times y (fed_by after x) ≡ times y (fed_by feeds x))
      → length after.fed ≡ net.size + 1 → IsLaid net rows feeds → IsLaid now (rows ++ row ∷ []) after
  laid_more rows feeds after row its_need its_inverted its_feeders others valves laid = record {
    size = (let long = length-append rows (row ∷ []) in let many = laid.size in omega (arith, long, many));
    valves = valves;
    each_row = λ n found is. elim (cases_lt n net.size) [
      | inl below ↦
          let many = laid.size in
          subst (λ (c : Condition). IsRow c found) (sym (there n below))
          (laid.each_row n found (sym (got_before rows row n (omega (arith, many, below))) ∙ is))
      | inr past ↦
          let many = laid.size in
          let long = length-append rows (row ∷ []) in
          let within = slice_get_within (rows ++ row ∷ []) n found is in
          let last : n ≡ length rows = omega (arith, many, long, within, past) in
          let found_is : found ≡ row = some_same (sym is ∙ ap (slice_get (rows ++ row ∷ [])) last ∙ got_at_end rows row) in
          let at : now.condition n ≡ fed_condition feeders = ap now.condition (last ∙ many) ∙ here in
          record {
            need = ap (λ (r : ValveFeeds). r.need) found_is ∙ its_need ∙ sym (ap (λ (c : Condition). c.need) at);
            inverted = ap (λ (r : ValveFeeds). r.inverted) found_is ∙ its_inverted ∙ sym (ap (λ (c : Condition). c.inverted) at);
          }
    ];
    reversed = λ x y within. elim (cases_eq y net.size) [
      | inl e ↦
          ap (λ (n : ℕ). times n (fed_by after x)) e ∙ its_feeders x
          ∙ sym (ap (λ (c : Condition). times x c.feeders) (ap now.condition e ∙ here))
      | inr apart ↦
          let below : y < net.size = omega (arith, within, apart) in
          others x y apart ∙ laid.reversed x y below
          ∙ sym (ap (λ (c : Condition). times x c.feeders) (there y below))
    ];
    within = λ x y m. elim (cases_eq y net.size) [
      | inl e ↦ omega (arith, e)
      | inr apart ↦
          let some = in_times y (fed_by after x) m in
          let same = others x y apart in
          let below = laid.within x y (times_in y (fed_by feeds x) (omega (arith, some, same))) in
          omega (arith, below)
    ];
  }

  module _ (v w : ℕ → Bool) (agree : (n : ℕ) → n < net.size → w n ≡ v n)
      (below : (x : ℕ) → Contains feeders x → x < net.size)
      (fed_below : (x n : ℕ) → n < net.size → Contains (net.condition n).feeders x → x < net.size) where
    counted_there : (n : ℕ) → n < net.size
        → count w (now.condition n).feeders ≡ count v (net.condition n).feeders
    counted_there n within =
        ap (λ (c : Condition). count w c.feeders) (there n within)
        ∙ count_alike v w (net.condition n).feeders (λ x m. agree x (fed_below x n within m))

    counted_here : count w (now.condition net.size).feeders ≡ count v feeders
    counted_here = ap (λ (c : Condition). count w c.feeders) here
        ∙ count_alike v w feeders (λ x m. agree x (below x m))

    own_kept : (n : ℕ) → n < net.size → own_now n ≡ own n
    own_kept n within = own_there net own net.size 0 n (λ e. omega (arith, e, within))

    pub counted_more : (counts : List ℕ) (opened : ℕ) → opened ≡ count v feeders → length feeders < 2 ^ 31
        → IsCounted net own v counts → IsCounted now own_now w (counts ++ opened ∷ [])
    counted_more counts opened is few its = record {
      size = (let long = length-append counts (opened ∷ []) in let many = its.size in omega (arith, long, many));
      small = λ n within. elim (cases_eq n net.size) [
        | inl e ↦ (let o = own_here net own net.size 0 in rw e (omega (arith, o)))
        | inr apart ↦
            let below_it : n < net.size = omega (arith, within, apart) in
            rw (own_kept n below_it) (its.small n below_it)
      ];
      few = λ n within. elim (cases_eq n net.size) [
        | inl e ↦
            let same = ap (λ (c : Condition). length c.feeders) (ap now.condition e ∙ here) in
            omega (arith, same, few)
        | inr apart ↦
            let below_it : n < net.size = omega (arith, within, apart) in
            subst (λ (c : Condition). length c.feeders < 2 ^ 31) (sym (there n below_it)) (its.few n below_it)
      ];
      each = λ n within. elim (cases_eq n net.size) [
        | inl e ↦
            let many = its.size in
            let at = ap (slice_index (counts ++ opened ∷ [])) (e ∙ sym many) ∙ or_at_end counts opened 0 in
            let o = ap own_now e ∙ own_here net own net.size 0 in
            let c = ap (λ (m : ℕ). count w (now.condition m).feeders) e ∙ counted_here in
            omega (arith, at, o, c, is)
        | inr apart ↦
            let below_it : n < net.size = omega (arith, within, apart) in
            let many = its.size in
            let at = or_before counts opened 0 n (omega (arith, many, below_it)) in
            let o = own_kept n below_it in
            let c = counted_there n below_it in
            let was = its.each n below_it in
            omega (arith, at, o, c, was)
      ];
    }

    pub meets_there : (n : ℕ) → n < net.size → MeetsEquation net own v n → MeetsEquation now own_now w n
    meets_there n within meets =
        agree n within ∙ meets
        ∙ ap (λ (c : Condition). swapped_if c.inverted (nat_le c.need (own n + count v (net.condition n).feeders))) (sym (there n within))
        ∙ ap (λ (k : ℕ). swapped_if (now.condition n).inverted (nat_le (now.condition n).need (k + count v (net.condition n).feeders))) (sym (own_kept n within))
        ∙ ap (λ (k : ℕ). swapped_if (now.condition n).inverted (nat_le (now.condition n).need (own_now n + k))) (sym (counted_there n within))

    pub meets_here : (need opened : ℕ) → need ≡ length feeders → opened ≡ count v feeders
        → w net.size ≡ swapped_if false (nat_le need opened) → MeetsEquation now own_now w net.size
    meets_here need opened is its value =
        let o = own_here net own net.size 0 in
        let c = counted_here in
        let same : opened ≡ own_now net.size + count w (now.condition net.size).feeders = omega (arith, o, c, its) in
        value
        ∙ ap (λ (k : ℕ). swapped_if false (nat_le k opened)) is
        ∙ ap (λ (k : ℕ). swapped_if false (nat_le (length feeders) k)) same
        ∙ ap (λ (c : Condition). swapped_if c.inverted (nat_le c.need (own_now net.size + count w (now.condition net.size).feeders))) (sym here)

  pub owned_more : (owns : List ℕ) → IsOwned net own owns → IsOwned now own_now (owns ++ 0 ∷ [])
  owned_more owns its = record {
    size = (let long = length-append owns (0 ∷ []) in let many = its.size in omega (arith, long, many));
    each = λ n within. elim (cases_eq n net.size) [
      | inl e ↦
          let many = its.size in
          ap (slice_index (owns ++ 0 ∷ [])) (e ∙ sym many) ∙ or_at_end owns 0 0
          ∙ sym (ap own_now e ∙ own_here net own net.size 0)
      | inr apart ↦
          let many = its.size in
          or_before owns 0 0 n (omega (arith, many, within, apart)) ∙ its.each n (omega (arith, within, apart))
          ∙ sym (own_there net own net.size 0 n apart)
    ];
  }

-- a valve more feeds none, and is fed by none as yet
at_pushed : (lists : List (List ℕ)) (x : ℕ) → list_at (lists ++ [] ∷ []) x ≡ list_at lists x
at_pushed [] zero = refl
at_pushed [] (suc x) = refl
at_pushed (l ∷ lists) zero = refl
at_pushed (l ∷ lists) (suc x) = at_pushed lists x

none_fed : (net : Net) (rows : List ValveFeeds) (feeds : BothWays) → IsLaid net rows feeds → (x : ℕ)
    → times net.size (fed_by feeds x) ≡ 0
none_fed net rows feeds laid x = elim (cases_eq (times net.size (fed_by feeds x)) 0) [
  | inl none ↦ none
  | inr some ↦
      let low = laid.within x net.size (times_in net.size (fed_by feeds x) (omega (arith, some))) in
      absurd (omega (arith, low))
]

pub pushed_fed : (net : Net) (rows : List ValveFeeds) (feeds pushed after : BothWays) (feeders : List ℕ) (valve : ℕ)
    → valve ≡ net.size → IsLaid net rows feeds → pushed.fed ≡ feeds.fed ++ [] ∷ []
    → ((x : ℕ) → times valve (fed_by after x) ≡ times valve (fed_by pushed x) + times x feeders)
    → (x : ℕ) → times net.size (fed_by after x) ≡ times x feeders
pushed_fed net rows feeds pushed after feeders valve is laid more fed x =
    let one = fed x in
    let first = ap (λ (n : ℕ). times n (fed_by after x)) is in
    let second = ap (λ (n : ℕ). times n (fed_by pushed x)) is in
    let third = ap (times net.size) (ap (λ (l : List (List ℕ)). list_at l x) more ∙ at_pushed feeds.fed x) in
    let none = none_fed net rows feeds laid x in
    omega (arith, one, first, second, third, none)

pub pushed_others : (net : Net) (feeds pushed after : BothWays) (valve : ℕ) → valve ≡ net.size
    → pushed.fed ≡ feeds.fed ++ [] ∷ []
    → ((x y : ℕ) → y ≢ valve → times y (fed_by after x) ≡ times y (fed_by pushed x))
    → (x y : ℕ) → y ≢ net.size → times y (fed_by after x) ≡ times y (fed_by feeds x)
pushed_others net feeds pushed after valve is more others x y apart =
    others x y (λ e. apart (e ∙ is))
    ∙ ap (times y) (ap (λ (l : List (List ℕ)). list_at l x) more ∙ at_pushed feeds.fed x)

pub long_more : {X : Type 0} (xs ys : List X) (x : X) (n : ℕ) → ys ≡ xs ++ x ∷ [] → length xs ≡ n
    → length ys ≡ n + 1
long_more xs ys x n is long =
    let same = ap length is in
    let sum = length-append xs (x ∷ []) in
    omega (arith, same, sum, long)

-- the values of the others stay
pub value_kept : (values after : List Bool) (b : Bool) (n : ℕ) → after ≡ values ++ b ∷ [] → n < length values
    → value_in after n ≡ value_in values n
value_kept values after b n is within = ap (λ (l : List Bool). value_in l n) is ∙ or_before values b false n within

pub value_last : (values after : List Bool) (b : Bool) (n : ℕ) → after ≡ values ++ b ∷ [] → length values ≡ n
    → value_in after n ≡ b
value_last values after b n is long =
    ap (λ (l : List Bool). value_in l n) is ∙ ap (value_in (values ++ b ∷ [])) (sym long) ∙ or_at_end values b false
