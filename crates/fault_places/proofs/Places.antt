-- Octets stop at one place at most, and not where they begin with a whole.
use Rattle.std.proofs.Common.{◌≡◌, ℕ, ◌+◌, ◌<◌, ◌≤◌, ◌⊎◌, inl, inr, Bool, true, false, List, [], ◌∷◌, ◌++◌, length, arith, ap, ◌∙◌, sym, refl, subst, append_assoc, append-nil, length-append}
use Rattle.std.specs.Prelude.{nat_lt}
use Rattle.std.proofs.lemmas.Bool.{ltb-true, ltb-false}
use Rattle.std.proofs.lemmas.List.{nil_from_length}
use Rattle.fault_places.specs.Fields.{Ending, Field, spelling, StandsBehind, IsMissing, IsThere, led_by, NoneFits, Stops, StopsIn}
use Rattle.fault_places.specs.Fields.Ending.{Sized, Open, Counted}
use Rattle.fault_places.proofs.Steps.{AreFilled, is_filled, Together, Meets, spelling_append, stands_whole}

-- one of two beginnings of a list begins the other
begins : (a b x y : List ℕ) → a ++ x ≡ b ++ y → length a ≤ length b
    → (k : List ℕ) × (b ≡ a ++ k) × (x ≡ k ++ y)
begins [] b x y e le = (b, refl, e)
begins (c ∷ a) [] x y e le = absurd (omega (arith, le))
begins (c ∷ a) (d ∷ b) x y e le =
    let same : c ≡ d = cc in
    let tails : a ++ x ≡ b ++ y = cc in
    let r = begins a b x y tails (omega (arith, le)) in
    (r.0, (let f = r.1 in cc), r.2)

same_front : (a x y : List ℕ) → a ++ x ≡ a ++ y → x ≡ y
same_front [] x y e = e
same_front (c ∷ a) x y e = same_front a x y cc

-- what goes on behind the first of two beginnings
through : (a k b rest all : List ℕ) → b ≡ a ++ k → all ≡ b ++ rest
    → a ++ (k ++ rest) ≡ all ++ []
through a k b rest all e f =
    let regrouped : (a ++ k) ++ rest ≡ a ++ (k ++ rest) = append_assoc a k rest in
    let whole : all ≡ (a ++ k) ++ rest = f ∙ ap (λ t. t ++ rest) e in
    let same : a ++ (k ++ rest) ≡ all = sym (whole ∙ regrouped) in
    same ∙ sym (append-nil all)

piece_there : (a k b piece mid here later : List ℕ) → b ≡ a ++ k → b ≡ a ++ (piece ++ mid)
    → here ≡ k ++ later → here ≡ piece ++ (mid ++ later)
piece_there a k b piece mid here later e f g =
    let same : k ≡ piece ++ mid = same_front a k (piece ++ mid) (sym e ∙ f) in
    let whole : here ≡ (piece ++ mid) ++ later = g ∙ ap (λ t. t ++ later) same in
    whole ∙ append_assoc piece mid later

-- two fields of one list
compare : (front later : List Field) (f g : Field) (others rest : List Field)
    → front ++ f ∷ others ≡ later ++ g ∷ rest
    → ((front ≡ later) × (f ≡ g))
    ⊎ (((mid : List Field) × (later ≡ front ++ f ∷ mid))
    ⊎ ((mid : List Field) × (front ≡ later ++ g ∷ mid)))
compare [] [] f g others rest e = let same : f ≡ g = cc in inl (refl, same)
compare [] (h ∷ later) f g others rest e =
    let same : f ≡ h = cc in inr (inl (later, ap (λ t. t ∷ later) (sym same)))
compare (h ∷ front) [] f g others rest e =
    let same : h ≡ g = cc in inr (inr (front, ap (λ t. t ∷ front) same))
compare (h ∷ front) (k ∷ later) f g others rest e =
    let same : h ≡ k = cc in
    let tails : front ++ f ∷ others ≡ later ++ g ∷ rest = cc in
    elim (compare front later f g others rest tails) [
      | inl s ↦ inl ((let r = s.0 in cc), s.1)
      | inr (inl m) ↦ inr (inl (m.0, (let r = m.1 in cc)))
      | inr (inr m) ↦ inr (inr (m.0, (let r = m.1 in cc)))
    ]

spelled_front : (front mid : List Field) (f : Field)
    → spelling (front ++ f ∷ mid) ≡ spelling front ++ (f.octets ++ spelling mid)
spelled_front front mid f = spelling_append front (f ∷ mid)

longer : (front mid : List Field) (f : Field)
    → length (spelling (front ++ f ∷ mid))
    ≡ length (spelling front) + (length f.octets + length (spelling mid))
longer front mid f =
    ap length (spelled_front front mid f)
    ∙ length-append (spelling front) (f.octets ++ spelling mid)
    ∙ ap (λ n. length (spelling front) + n) (length-append f.octets (spelling mid))

-- the field that stands earlier is wholly in front of the other
in_front : (a b : List ℕ) (f g : Field) (fields : List Field) → StandsBehind a f fields
    → StandsBehind b g fields → length a < length b
    → (mid : List ℕ) × (b ≡ a ++ (f.octets ++ mid))
in_front a b f g fields s t less =
    let size_a = ap length s.are_before in
    let size_b = ap length t.are_before in
    elim (compare s.front t.front f g s.others t.others (sym s.parts ∙ t.parts)) [
      | inl same ↦
          absurd (omega (arith, size_a, size_b, less, ap (λ k. length (spelling k)) same.0))
      | inr (inl m) ↦ (
        spelling m.0,
        t.are_before ∙ ap spelling m.1 ∙ spelled_front s.front m.0 f
            ∙ ap (λ k. k ++ (f.octets ++ spelling m.0)) (sym s.are_before),
      )
      | inr (inr m) ↦
          absurd (omega (
            arith,
            size_a,
            size_b,
            less,
            ap (λ k. length (spelling k)) m.1,
            longer t.front m.0 g,
          ))
    ]

-- one field stands behind the same octets
one_there : (a : List ℕ) (f g : Field) (fields : List Field) → AreFilled fields
    → StandsBehind a f fields → StandsBehind a g fields → f ≡ g
one_there a f g fields filled s t =
    let size_a = ap length s.are_before in
    let size_b = ap length t.are_before in
    let f_filled = is_filled a f fields filled s in
    let g_filled = is_filled a g fields filled t in
    elim (compare s.front t.front f g s.others t.others (sym s.parts ∙ t.parts)) [
      | inl same ↦ same.1
      | inr (inl m) ↦
          absurd (omega (
            arith,
            size_a,
            size_b,
            f_filled,
            ap (λ k. length (spelling k)) m.1,
            longer s.front m.0 f,
          ))
      | inr (inr m) ↦
          absurd (omega (
            arith,
            size_a,
            size_b,
            g_filled,
            ap (λ k. length (spelling k)) m.1,
            longer t.front m.0 g,
          ))
    ]

-- what is missing isn't there
missing_there : (e : Ending) (field other here : List ℕ)
    → (e ≡ Sized → length field ≡ length other) → IsMissing e field here → IsThere e other here
    → (e ≡ Open → (more : List ℕ) → here ++ more ≡ field → ⊥) → ⊥
missing_there Sized field other here size m t none =
    let s = size refl in let k : ⊥ = omega (arith, s, m, t) in k
missing_there Open field other here size m t none = none refl m.0 m.2
missing_there Counted field other here size m t none = t m

module _ {A : Type 0} {is : A → Type 0} {fields : A → List Field} (places : Together is fields) where
  -- nothing that stands whole where octets stop
  no_whole : (octets : List ℕ) (left : ℕ) (s : StopsIn is fields octets left) (y : A)
      (g : Field) (rest : List ℕ) → is y → StandsBehind s.before g (fields y)
      → Meets s.field g → s.here ≡ g.octets ++ rest → ⊥
  no_whole octets left s y g rest h at meets same = go s.why
    where
      go : Stops s.field.ending s.field.octets s.here left (NoneFits is fields s.before s.here) → ⊥
      go (inl m) =
          meets.there rest (subst (IsMissing s.field.ending s.field.octets) same m.1)
      go (inr m) =
          m.2.field y g [] rest h at
          (append-nil s.here ∙ same)

  -- octets that stop begin with no whole
  pub none_begins : (octets : List ℕ) (left : ℕ) → StopsIn is fields octets left → (y : A)
      (rest : List ℕ) → is y → octets ≡ spelling (fields y) ++ rest → ⊥
  none_begins octets left s y rest h e =
      let m = places.meet s.value y s.before s.here rest s.field s.good h s.stands
      (sym s.parts ∙ e) in
      let w = stands_whole s.before m.0 (fields y) m.1 in
      let both : s.before ++ s.here ≡ s.before ++ ((m.0.octets ++ w.0) ++ rest) =
      sym s.parts ∙ e ∙ ap (λ t. t ++ rest) w.1
      ∙ append_assoc s.before (m.0.octets ++ w.0) rest in
      no_whole octets left s y m.0 (w.0 ++ rest) h m.1 m.2
      (same_front s.before s.here ((m.0.octets ++ w.0) ++ rest) both
      ∙ append_assoc m.0.octets w.0 rest)

  -- no octets stop at an earlier field, and at a later one
  not_earlier : (octets : List ℕ) (left other : ℕ) (s : StopsIn is fields octets left)
      (t : StopsIn is fields octets other) → length s.before < length t.before → ⊥
  not_earlier octets left other s t less =
      let k =
      begins s.before t.before s.here t.here (sym s.parts ∙ t.parts) (omega (arith, less)) in
      let w = stands_whole t.before t.field (fields t.value) t.stands in
      let m =
      places.meet s.value t.value s.before (k.0 ++ (t.field.octets ++ w.0)) [] s.field s.good t.good
      s.stands
      (through s.before k.0 t.before (t.field.octets ++ w.0) (spelling (fields t.value)) k.1 w.1) in
      let f = in_front s.before t.before m.0 t.field (fields t.value) m.1 t.stands less in
      no_whole octets left s t.value m.0 (f.0 ++ t.here) t.good m.1 m.2
      (piece_there s.before k.0 t.before m.0.octets f.0 s.here t.here k.1 f.1 k.2)

  -- at one field octets don't stop in two ways
  module _ (octets : List ℕ) (left other : ℕ) (s : StopsIn is fields octets left)
      (t : StopsIn is fields octets other) (same : s.before ≡ t.before) where
    both_here : s.here ≡ t.here
    both_here = same_front s.before s.here t.here
        (sym s.parts ∙ t.parts ∙ ap (λ b. b ++ t.here) (sym same))

    meets : Meets s.field t.field
    meets =
        let w = stands_whole t.before t.field (fields t.value) t.stands in
        let m =
        places.meet s.value t.value s.before (t.field.octets ++ w.0) [] s.field s.good t.good
        s.stands
        (ap (λ b. b ++ (t.field.octets ++ w.0)) same ∙ sym w.1
        ∙ sym (append-nil (spelling (fields t.value)))) in
        subst (Meets s.field)
        (one_there s.before m.0 t.field (fields t.value) (places.filled t.value t.good) m.1
        (subst (λ b. StandsBehind b t.field (fields t.value)) (sym same) t.stands)) m.2

    not_both_ways : IsMissing s.field.ending s.field.octets s.here
        → IsThere t.field.ending t.field.octets t.here
        → NoneFits is fields t.before t.here → ⊥
    not_both_ways m there none =
        missing_there s.field.ending s.field.octets t.field.octets s.here meets.size m
        (subst (λ e. IsThere e t.field.octets s.here) (sym meets.ending)
        (subst (IsThere t.field.ending t.field.octets) (sym both_here) there))
        (λ is_open more e.
        none.field s.value s.field more [] s.good
        (subst (λ b. StandsBehind b s.field (fields s.value)) same s.stands)
        (ap (λ h. h ++ more) (sym both_here) ∙ e ∙ sym (append-nil s.field.octets)))

  one_left : (octets : List ℕ) (left other : ℕ) (s : StopsIn is fields octets left)
      (t : StopsIn is fields octets other) → s.before ≡ t.before → left ≡ other
  one_left octets left other s t same = go s.why t.why
    where
      go : Stops s.field.ending s.field.octets s.here left (NoneFits is fields s.before s.here)
          → Stops t.field.ending t.field.octets t.here other (NoneFits is fields t.before t.here)
          → left ≡ other
      go (inl m) (inl k) = m.0 ∙ sym k.0
      go (inl m) (inr k) =
          absurd (not_both_ways octets left other s t same m.1 k.1 k.2)
      go (inr m) (inl k) =
          absurd (not_both_ways octets other left t s (sym same) k.1 m.1 m.2)
      go (inr m) (inr k) =
          let led : led_by s.field.ending ≡ led_by t.field.ending =
          ap led_by (meets octets left other s t same).ending in
          omega (
            arith,
            m.0,
            k.0,
            led,
            ap length (both_here octets left other s t same),
          )

  pub one_stop : (octets : List ℕ) (left other : ℕ) → StopsIn is fields octets left
      → StopsIn is fields octets other → left ≡ other
  one_stop octets left other s t =
      by_length (nat_lt (length s.before) (length t.before))
      (nat_lt (length t.before) (length s.before)) refl refl
    where
      by_length : (a b : Bool) → nat_lt (length s.before) (length t.before) ≡ a
          → nat_lt (length t.before) (length s.before) ≡ b → left ≡ other
      by_length true b p q =
          absurd (not_earlier octets left other s t
          (ltb-true (length s.before) (length t.before) p))
      by_length false true p q =
          absurd (not_earlier octets other left t s
          (ltb-true (length t.before) (length s.before) q))
      by_length false false p q =
          let first = ltb-false (length s.before) (length t.before) p in
          let second = ltb-false (length t.before) (length s.before) q in
          let k = begins s.before t.before s.here t.here (sym s.parts ∙ t.parts)
          (omega (arith, first, second)) in
          let none : length k.0 ≡ 0 =
          omega (arith, ap length k.1, length-append s.before k.0, first, second) in
          one_left octets left other s t
          (sym (k.1 ∙ ap (λ t. s.before ++ t) (nil_from_length k.0 none)
          ∙ append-nil s.before))
