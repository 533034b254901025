-- Two valves more, behind the others: one at which one has to be counted, and one that this and others feed.
use Rattle.std.proofs.Common.{◌≡◌, ◌≢◌, ◌<◌, ◌+◌, ◌++◌, ℕ, Bool, false, List, [], ◌∷◌, length, arith, refl, ap, sym, ◌∙◌, inl, inr}
use Rattle.std.proofs.lemmas.Bool.{cases_eq, cases_lt, eq-eqb, le-ltb, lt-ltb, ne_eqb}
use mathlib.Core.Path.{subst}
use Rattle.health_standing.proofs.GroupLeft.{own_here, own_there}
use Rattle.health_standing.specs.Founding.{HasRoomForTwo, group_condition, with_group, with_two_counts}
use Rattle.health_valves.proofs.Needs.{ends_alike}
use Rattle.health_valves.specs.Laying.{HasRoomFor, HasRoomForOne, links_of}
use Rattle.health_valves.specs.Pass.{MeetAll}
use Rattle.health_valves.specs.Valves.{Condition, HasEnds, IsRow, Net, ValvesStandFor, count, equation, fed_condition, size_of, times, unfed_condition, value_of, with_need, with_one_more, with_own}
use Rattle.health_valves.specs.declared.valves.Valves.{Valves}

-- ---- one valve more

module _ (its : Condition) (net : Net) where
  more_here : (with_one_more its net).condition net.size ≡ its
  more_here = rw (eq-eqb net.size net.size refl) refl

  more_there : (n : ℕ) → n < net.size → (with_one_more its net).condition n ≡ net.condition n
  more_there n within =
      rw (ne_eqb n net.size (λ e. omega (arith, e, within)), lt-ltb n net.size within) refl

  more_behind : (n : ℕ) → net.size < n → (with_one_more its net).condition n ≡ unfed_condition
  more_behind n past =
      rw (ne_eqb n net.size (λ e. omega (arith, e, past)), le-ltb n net.size (omega (arith, past))) refl

-- ---- two more

module _ (fed feeders : List ℕ) (sets : ℕ) (net : Net) (own : ℕ → ℕ) where
  abbrev two : Net
  two = with_group fed feeders net

  abbrev counts : ℕ → ℕ
  counts = with_two_counts sets net.size own

  abbrev first : Net
  first = with_one_more (group_condition fed) net

  abbrev last : Condition
  last = fed_condition (feeders ++ net.size ∷ [])

  pub there : (n : ℕ) → n < net.size → two.condition n ≡ net.condition n
  there n within = more_there last first n (omega (arith, within)) ∙ more_there (group_condition fed) net n within

  pub at_first : two.condition net.size ≡ group_condition fed
  at_first = more_there last first net.size (omega arith) ∙ more_here (group_condition fed) net

  pub at_last : two.condition (net.size + 1) ≡ fed_condition (feeders ++ net.size ∷ [])
  at_last = more_here last first

  pub behind : (n : ℕ) → net.size + 1 < n → two.condition n ≡ unfed_condition
  behind n past = more_behind last first n past

  pub count_there : (n : ℕ) → n < net.size → counts n ≡ own n
  count_there n within =
      own_there (net.size + 1) 0 (with_own net.size sets own) n (λ e. omega (arith, e, within))
      ∙ own_there net.size sets own n (λ e. omega (arith, e, within))

  pub count_first : counts net.size ≡ sets
  count_first =
      own_there (net.size + 1) 0 (with_own net.size sets own) net.size (λ e. omega (arith, e))
      ∙ own_here net.size sets own

  pub count_last : counts (net.size + 1) ≡ 0
  count_last = own_here (net.size + 1) 0 (with_own net.size sets own)

-- ---- nets with the same conditions, and the same counts from outside

module _ (net now : Net) (own own_now : ℕ → ℕ) (size : now.size ≡ net.size)
    (alike : (n : ℕ) → now.condition n ≡ net.condition n) (same : (n : ℕ) → own_now n ≡ own n) where
  pub stands_alike : (valves : Valves) → ValvesStandFor net own valves → ValvesStandFor now own_now valves
  stands_alike valves s = record {
    laid = record {
      size = s.laid.size ∙ sym size;
      valves = s.laid.valves ∙ sym size;
      each_row = λ n row is. subst (λ (c : Condition). IsRow c row) (sym (alike n)) (s.laid.each_row n row is);
      reversed = λ x y within.
          s.laid.reversed x y (omega (arith, size, within)) ∙ sym (ap (λ (c : Condition). times x c.feeders) (alike y));
      within = λ x y m. (let low = s.laid.within x y m in omega (arith, size, low));
    };
    values = s.values ∙ sym size;
    counted = record {
      size = s.counted.size ∙ sym size;
      small = λ n within. (let low = s.counted.small n (omega (arith, size, within)) in let e = same n in omega (arith, low, e));
      few = λ n within.
          let low = s.counted.few n (omega (arith, size, within)) in
          let e = ap (λ (c : Condition). length c.feeders) (alike n) in
          omega (arith, low, e);
      each = λ n within.
          let is = s.counted.each n (omega (arith, size, within)) in
          let e = same n in
          let f = ap (λ (c : Condition). count (value_of valves) c.feeders) (alike n) in
          omega (arith, is, e, f);
    };
    owned = record {
      size = s.owned.size ∙ sym size;
      each = λ n within. s.owned.each n (omega (arith, size, within)) ∙ sym (same n);
    };
    marks = s.marks ∙ sym size;
    room = (let low = s.room in omega (arith, size, low));
  }

  equation_alike : (v : ℕ → Bool) (n : ℕ) → equation now own_now v n ≡ equation net own v n
  equation_alike v n = rw (alike n, same n) refl

  pub meet_alike : (valves : Valves) → MeetAll net own valves → MeetAll now own_now valves
  meet_alike valves meet n within =
      meet n (omega (arith, size, within)) ∙ sym (equation_alike (value_of valves) n)

-- ---- as they are pushed: one that nothing feeds, one behind it, and then what the first one needs and counts

module _ (fed feeders : List ℕ) (sets : ℕ) (net : Net) (own : ℕ → ℕ) where
  abbrev pub one : Net
  one = with_one_more (fed_condition fed) net

  abbrev pub both : Net
  both = with_one_more (fed_condition (feeders ++ net.size ∷ [])) one

  abbrev pub pushed : Net
  pushed = with_need net.size 1 false both

  abbrev pub own_pushed : ℕ → ℕ
  own_pushed = with_own net.size sets (with_own one.size 0 (with_own net.size 0 own))

  need_there : (n : ℕ) → n ≢ net.size → pushed.condition n ≡ both.condition n
  need_there n apart = rw (ne_eqb n net.size apart) refl

  both_first : both.condition net.size ≡ fed_condition fed
  both_first = more_there (fed_condition (feeders ++ net.size ∷ [])) one net.size (omega arith) ∙ more_here (fed_condition fed) net

  need_here : pushed.condition net.size ≡ record { need = 1; inverted = false; feeders = (both.condition net.size).feeders }
  need_here = rw (eq-eqb net.size net.size refl) refl

  pub conditions : (n : ℕ) → (with_group fed feeders net).condition n ≡ pushed.condition n
  conditions n = elim (cases_eq n net.size) [
    | inl e ↦
        ap (with_group fed feeders net).condition e ∙ at_first fed feeders sets net own
        ∙ sym (ap pushed.condition e ∙ need_here ∙ ap (λ (c : Condition). record { need = 1; inverted = false; feeders = c.feeders }) both_first)
    | inr apart ↦ elim (cases_lt n net.size) [
      | inl low ↦
          there fed feeders sets net own n low
          ∙ sym (need_there n apart ∙ more_there (fed_condition (feeders ++ net.size ∷ [])) one n (omega (arith, low)) ∙ more_there (fed_condition fed) net n low)
      | inr past ↦ elim (cases_eq n (net.size + 1)) [
        | inl e ↦
            ap (with_group fed feeders net).condition e ∙ at_last fed feeders sets net own
            ∙ sym (need_there n apart ∙ ap both.condition e ∙ more_here (fed_condition (feeders ++ net.size ∷ [])) one)
        | inr far ↦
            behind fed feeders sets net own n (omega (arith, apart, past, far))
            ∙ sym (need_there n apart ∙ more_behind (fed_condition (feeders ++ net.size ∷ [])) one n (omega (arith, apart, past, far)))
      ]
    ]
  ]

  pub counts_alike : (n : ℕ) → with_two_counts sets net.size own n ≡ own_pushed n
  counts_alike n = elim (cases_eq n net.size) [
    | inl e ↦ ap (with_two_counts sets net.size own) e ∙ count_first fed feeders sets net own ∙ sym (ap own_pushed e ∙ own_here net.size sets (with_own one.size 0 (with_own net.size 0 own)))
    | inr apart ↦ (
        let front = own_there net.size sets (with_own one.size 0 (with_own net.size 0 own)) n apart in
        elim (cases_eq n (net.size + 1)) [
          | inl e ↦
              ap (with_two_counts sets net.size own) e ∙ count_last fed feeders sets net own
              ∙ sym (front ∙ ap (with_own one.size 0 (with_own net.size 0 own)) e ∙ own_here one.size 0 (with_own net.size 0 own))
          | inr far ↦
              own_there (net.size + 1) 0 (with_own net.size sets own) n far ∙ own_there net.size sets own n apart
              ∙ sym (front ∙ own_there one.size 0 (with_own net.size 0 own) n far ∙ own_there net.size 0 own n apart)
        ]
        )
  ]

  same_feeders : (n : ℕ) → (both.condition n).feeders ≡ ((with_group fed feeders net).condition n).feeders
  same_feeders n = elim (cases_eq n net.size) [
    | inl e ↦ ap (λ (c : Condition). c.feeders) (ap both.condition e ∙ both_first) ∙ sym (ap (λ (c : Condition). c.feeders) (ap (with_group fed feeders net).condition e ∙ at_first fed feeders sets net own))
    | inr apart ↦ ap (λ (c : Condition). c.feeders) (sym (need_there n apart) ∙ sym (conditions n))
  ]

  -- so paths end before what the first one needs is told, and behind it
  pub ends_both : HasEnds (with_group fed feeders net) → HasEnds both
  ends_both ends = ends_alike (with_group fed feeders net) both same_feeders ends

  pub ends_pushed : HasEnds (with_group fed feeders net) → HasEnds pushed
  ends_pushed ends =
      ends_alike (with_group fed feeders net) pushed (λ n. sym (ap (λ (c : Condition). c.feeders) (conditions n))) ends

-- ---- room

pub room_first : (valves : Valves) (fed : ℕ) → HasRoomForTwo valves fed → HasRoomForOne valves fed
room_first valves fed room =
    let rows = room.all.rows in
    let lists = room.all.lists in
    let values = room.all.values in
    let counts = room.all.counts in
    let owns = room.all.owns in
    let cone = room.all.cone in
    let marks = room.all.marks in
    let links = room.links in
    record {
      valve = record {
        rows = omega (arith, rows);
        feeds = omega arith;
        lists = omega (arith, lists);
        values = omega (arith, values);
        counts = omega (arith, counts);
        owns = omega (arith, owns);
        cone = omega (arith, cone);
        marks = omega (arith, marks);
      };
      links_room = omega (arith, links);
    }

pub room_last : (before after : Valves) (fed : ℕ) → HasRoomForTwo before fed → size_of after ≡ size_of before + 1
    → links_of after ≡ links_of before + fed
    → ((n m : ℕ) → HasRoomFor before n m → HasRoomFor after n m) → HasRoomForOne after 2
room_last before after fed room size links kept =
    let k = kept (size_of before + 2) (fed + 2) room.all in
    let b = room.all in
    let all = kept (size_of before + 2) before.feeds.most (record {
      rows = b.rows;
      feeds = omega arith;
      lists = b.lists;
      values = b.values;
      counts = b.counts;
      owns = b.owns;
      cone = b.cone;
      marks = b.marks;
    }) in
    let rows = k.rows in
    let lists = k.lists in
    let values = k.values in
    let counts = k.counts in
    let owns = k.owns in
    let cone = k.cone in
    let marks = k.marks in
    let most = all.feeds in
    let two_links = room.links in
    let least = b.feeds in
    record {
      valve = record {
        rows = omega (arith, rows, size);
        feeds = omega arith;
        lists = omega (arith, lists, size);
        values = omega (arith, values, size);
        counts = omega (arith, counts, size);
        owns = omega (arith, owns, size);
        cone = omega (arith, cone, size);
        marks = omega (arith, marks, size);
      };
      links_room = omega (arith, most, two_links, least, links);
    }
