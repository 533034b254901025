-- What is told of a chain by the numbers of its links: that it ends, its octets, and how many cells it has.
use Rattle.std.proofs.Common.{◌≡◌, ℕ, zero, suc, ◌+◌, ◌-◌, ◌*◌, ◌<◌, ◌≤◌, List, ◌++◌, take, length, ap, sym, refl, ◌∙◌, arith, length-append, length-take, inl, inr}
use Rattle.std.specs.Prelude.{◌⊎◌, min}
use Rattle.std.proofs.lemmas.List.{take_all, append-nil}
use Rattle.octet_region.specs.Cells.{cells_for}
use Rattle.octet_region.specs.Chains.{behind_by, jump, Ends, gather, steps, Walk}
use Rattle.octet_region.proofs.Written.{collect}

pub more_or_last : (a : ℕ) → (32 < a) ⊎ (a ≤ 32)
more_or_last a = grind arith

module _ (number : ℕ → ℕ) (size : ℕ) where
  pub ends_there : (n c : ℕ) → Ends number size n c → c < size
  ends_there zero c h = absurd h
  ends_there (suc n) c h = h.0

  pub ends_more : (n m c : ℕ) → n ≤ m → Ends number size n c → Ends number size m c
  ends_more zero m c le h = absurd h
  ends_more (suc n) zero c le h = absurd (omega arith)
  ends_more (suc n) (suc m) c le h =
      (h.0, λ more. ends_more n m (number c - 33) (omega arith) (h.1 more))

  pub ends_on : (n c : ℕ) → Ends number size n c → 32 < number c → Ends number size n (number c - 33)
  ends_on zero c h more = absurd h
  ends_on (suc n) c h more = ends_more n (suc n) (number c - 33) (omega arith) (h.1 more)

steps_last : (number : ℕ → ℕ) (n c : ℕ) → number c ≤ 32 → steps number (suc n) c (number c - 32) ≡ 0
steps_last number n c last =
    let e : number c - 32 ≡ 0 = omega (arith, last) in ap (λ k. steps number (suc n) c k) e

steps_more : (number : ℕ → ℕ) (n c : ℕ) → 32 < number c
    → steps number (suc n) c (number c - 32) ≡ suc (steps number n (number c - 33) (number (number c - 33) - 32))
steps_more number n c more =
    let e : number c - 32 ≡ suc (number c - 33) = omega (arith, more) in ap (λ k. steps number (suc n) c k) e

module _ (number : ℕ → ℕ) (size : ℕ) where
  steps_fuel : (n m c : ℕ) → n ≤ m → Ends number size n c
      → steps number m c (number c - 32) ≡ steps number n c (number c - 32)
  steps_fuel zero m c le h = absurd h
  steps_fuel (suc n) zero c le h = absurd (omega arith)
  steps_fuel (suc n) (suc m) c le h = elim (more_or_last (number c)) [
    | inl more ↦
        (steps_more number m c more
        ∙ ap suc (steps_fuel n m (number c - 33) (omega arith) (h.1 more))
        ∙ sym (steps_more number n c more))
    | inr last ↦ steps_last number m c last ∙ sym (steps_last number n c last)
  ]

  pub steps_on : (n c : ℕ) → Ends number size n c → 32 < number c
      → steps number n c (number c - 32) ≡ suc (steps number n (number c - 33) (number (number c - 33) - 32))
  steps_on zero c h more = absurd h
  steps_on (suc n) c h more =
      steps_more number n c more
      ∙ ap suc (sym (steps_fuel n (suc n) (number c - 33) (omega arith) (h.1 more)))

  pub steps_end : (n c : ℕ) → Ends number size n c → number c ≤ 32 → steps number n c (number c - 32) ≡ 0
  steps_end zero c h last = absurd h
  steps_end (suc n) c h last = steps_last number n c last

  pub steps_few : (n c : ℕ) → Ends number size n c → steps number n c (number c - 32) < n
  steps_few zero c h = absurd h
  steps_few (suc n) c h = elim (more_or_last (number c)) [
    | inl more ↦ (let rest = steps_few n (number c - 33) (h.1 more) in omega (arith, steps_more number n c more, rest))
    | inr last ↦ omega (arith, steps_last number n c last)
  ]

gather_last : (octets : ℕ → List ℕ) (number : ℕ → ℕ) (n c : ℕ) → number c ≤ 32
    → gather octets number (suc n) c (number c - 32) ≡ take (number c) (octets c)
gather_last octets number n c last =
    let e : number c - 32 ≡ 0 = omega (arith, last) in ap (λ k. gather octets number (suc n) c k) e

gather_more : (octets : ℕ → List ℕ) (number : ℕ → ℕ) (n c : ℕ) → 32 < number c
    → gather octets number (suc n) c (number c - 32)
    ≡ octets c ++ gather octets number n (number c - 33) (number (number c - 33) - 32)
gather_more octets number n c more =
    let e : number c - 32 ≡ suc (number c - 33) = omega (arith, more) in
    ap (λ k. gather octets number (suc n) c k) e

module _ (octets : ℕ → List ℕ) (number : ℕ → ℕ) (size : ℕ) where
  pub gather_fuel : (n m c : ℕ) → n ≤ m → Ends number size n c
      → gather octets number m c (number c - 32) ≡ gather octets number n c (number c - 32)
  gather_fuel zero m c le h = absurd h
  gather_fuel (suc n) zero c le h = absurd (omega arith)
  gather_fuel (suc n) (suc m) c le h = elim (more_or_last (number c)) [
    | inl more ↦
        (gather_more octets number m c more
        ∙ ap (λ x. octets c ++ x) (gather_fuel n m (number c - 33) (omega arith) (h.1 more))
        ∙ sym (gather_more octets number n c more))
    | inr last ↦ gather_last octets number m c last ∙ sym (gather_last octets number n c last)
  ]

  pub gather_on : (n c : ℕ) → Ends number size n c → 32 < number c
      → gather octets number n c (number c - 32)
      ≡ octets c ++ gather octets number n (number c - 33) (number (number c - 33) - 32)
  gather_on zero c h more = absurd h
  gather_on (suc n) c h more =
      gather_more octets number n c more
      ∙ ap (λ x. octets c ++ x) (sym (gather_fuel n (suc n) (number c - 33) (omega arith) (h.1 more)))

  pub gather_end : (n c : ℕ) → Ends number size n c → number c ≤ 32
      → gather octets number n c (number c - 32) ≡ take (number c) (octets c)
  gather_end zero c h last = absurd h
  gather_end (suc n) c h last = gather_last octets number n c last

  -- no more than 32 a cell
  pub gather_few : (n c : ℕ) → Ends number size n c → ((d : ℕ) → d < size → length (octets d) ≡ 32)
      → length (gather octets number n c (number c - 32)) ≤ 32 * n
  gather_few zero c h full = absurd h
  gather_few (suc n) c h full = elim (more_or_last (number c)) [
    | inl more ↦
        (let rest = gather_few n (number c - 33) (h.1 more) full in
        let here = full c h.0 in
        let all = ap length (gather_more octets number n c more) in
        let parts =
        length-append (octets c) (gather octets number n (number c - 33) (number (number c - 33) - 32)) in
        omega (arith, rest, here, all, parts))
    | inr last ↦
        (let all = ap length (gather_last octets number n c last) in
        omega (arith, all, length-take (number c) (octets c), last))
  ]

-- a chain whose cells have an owner and ranks
module _ (owner rank number : ℕ → ℕ) (size o : ℕ) where
  pub walk_ends : (m c : ℕ) → Walk owner rank number size o 0 (suc m) c
      → number (jump (behind_by number) m c) ≤ 32 → Ends number size (suc m) c
  walk_ends zero c w last = (w.0, λ more. absurd (omega (arith, more, last)))
  walk_ends (suc m) c w last = (w.0, λ more. walk_ends m (number c - 33) w.4 last)

  pub walk_steps : (n m c : ℕ) → suc m ≤ n → Walk owner rank number size o 0 (suc m) c
      → number (jump (behind_by number) m c) ≤ 32 → steps number n c (number c - 32) ≡ m
  walk_steps zero m c le w last = absurd (omega arith)
  walk_steps (suc n) zero c le w last = steps_last number n c last
  walk_steps (suc n) (suc m) c le w last =
      steps_more number n c (w.3 (omega arith))
      ∙ ap suc (walk_steps n m (number c - 33) (omega arith) w.4 last)

  module _ (octets : ℕ → List ℕ) (full : (d : ℕ) → d < size → length (octets d) ≡ 32) where
    pub walk_length : (n m c : ℕ) → suc m ≤ n → Walk owner rank number size o 0 (suc m) c
        → number (jump (behind_by number) m c) ≤ 32
        → length (gather octets number n c (number c - 32)) ≡ 32 * m + number (jump (behind_by number) m c)
    walk_length zero m c le w last = absurd (omega arith)
    walk_length (suc n) zero c le w last =
        ap length (gather_last octets number n c last) ∙ length-take (number c) (octets c)
        ∙ omega (arith, last, full c w.0)
    walk_length (suc n) (suc m) c le w last =
        let more = w.3 (omega arith) in
        let rest = walk_length n m (number c - 33) (omega arith) w.4 last in
        let parts =
        length-append (octets c) (gather octets number n (number c - 33) (number (number c - 33) - 32)) in
        ap length (gather_more octets number n c more)
        ∙ omega (arith, rest, parts, full c w.0)

    -- the same octets as by their number
    pub told : (m len c : ℕ) → suc m ≡ cells_for len
        → Walk owner rank number size o 0 (suc m) c
        → number (jump (behind_by number) m c) + 32 * m ≡ len
        → gather octets number (suc m) c (number c - 32) ≡ collect octets (behind_by number) (suc m) len c
    told zero len c count w last =
        let few : number c ≤ 32 = omega (arith, count, last) in
        let e : number c ≡ min len 32 = omega (arith, count, last) in
        gather_last octets number 0 c few
        ∙ ap (λ k. take k (octets c)) e
        ∙ sym (append-nil (take (min len 32) (octets c)))
    told (suc m) len c count w last =
        let more = w.3 (omega arith) in
        let long : min len 32 ≡ 32 = omega (arith, count) in
        let here = full c w.0 in
        let rest = told m (len - 32) (number c - 33) (omega (arith, count)) w.4 (omega (arith, last, long)) in
        gather_more octets number (suc m) c more
        ∙ ap (λ x. octets c ++ x) rest
        ∙ ap (λ x. x ++ collect octets (behind_by number) (suc m) (len - 32) (number c - 33))
        (sym (ap (λ k. take k (octets c)) long ∙ take_all 32 (octets c) (omega (arith, here))))

  last_same : (octets changed : ℕ → List ℕ) (other : ℕ → ℕ) (n c : ℕ)
      → other c ≡ number c → changed c ≡ octets c → number c ≤ 32
      → gather changed other (suc n) c (other c - 32) ≡ gather octets number (suc n) c (number c - 32)
  last_same octets changed other n c e f few =
      let few2 : other c ≤ 32 = omega (arith, few, e) in
      gather_last changed other n c few2
      ∙ ap (λ k. take k (changed c)) e
      ∙ ap (λ x. take (number c) x) f
      ∙ sym (gather_last octets number n c few)

  -- the same octets where the cells of the owner are the same
  pub gather_same : (octets changed : ℕ → List ℕ) (other : ℕ → ℕ)
      → ((d : ℕ) → d < size → owner d ≡ o → other d ≡ number d)
      → ((d : ℕ) → d < size → owner d ≡ o → changed d ≡ octets d)
      → (n m c : ℕ) → Walk owner rank number size o 0 (suc m) c
      → number (jump (behind_by number) m c) ≤ 32
      → gather changed other n c (other c - 32) ≡ gather octets number n c (number c - 32)
  gather_same octets changed other links same zero m c w last = refl
  gather_same octets changed other links same (suc n) zero c w last =
      last_same octets changed other n c (links c w.0 w.1) (same c w.0 w.1) last
  gather_same octets changed other links same (suc n) (suc m) c w last =
      let e : other c ≡ number c = links c w.0 w.1 in
      let f : changed c ≡ octets c = same c w.0 w.1 in
      elim (more_or_last (number c)) [
        | inl more ↦
            (let more2 : 32 < other c = omega (arith, more, e) in
            gather_more changed other n c more2
            ∙ ap (λ x. x ++ gather changed other n (other c - 33) (other (other c - 33) - 32)) f
            ∙ ap (λ k. octets c ++ gather changed other n (k - 33) (other (k - 33) - 32)) e
            ∙ ap (λ x. octets c ++ x)
            (gather_same octets changed other links same n m (number c - 33) w.4 last)
            ∙ sym (gather_more octets number n c more))
        | inr few ↦ last_same octets changed other n c e f few
      ]

-- the link of the last cell is not read
pub collect_same : (owner rank number : ℕ → ℕ) (size : ℕ) (other : ℕ → ℕ) (octets : ℕ → List ℕ) (o b m len c : ℕ)
    → Walk owner rank number size o b (suc m) c
    → ((d : ℕ) → owner d ≡ o → b < rank d → other d ≡ number d)
    → collect octets (behind_by other) (suc m) len c ≡ collect octets (behind_by number) (suc m) len c
collect_same owner rank number size other octets o b zero len c w same = refl
collect_same owner rank number size other octets o b (suc m) len c w same =
    let e : other c ≡ number c = same c w.1 (omega (arith, w.2)) in
    ap (λ k. take (min len 32) (octets c) ++ collect octets (behind_by other) (suc m) (len - 32) (k - 33)) e
    ∙ ap (λ x. take (min len 32) (octets c) ++ x)
    (collect_same owner rank number size other octets o b m (len - 32) (number c - 33) w.4 same)
