-- Where the sets of a name begin.
use Rattle.std.proofs.Common.{◌≡◌, ◌≢◌, ℕ, ◌<◌, ◌≤◌, List, [], ◌∷◌, ◌++◌, length, false, Some, None}
use Rattle.std.proofs.Common.{Less, Equal, Greater, refl, sym, ap, ◌∙◌, subst, inl, inr, arith}
use Rattle.std.specs.Prelude.{Option, ◌⊎◌, slice_get}
use Rattle.std.specs.declared.cmp.Ordering.{Ordering}
use Rattle.std.specs.Ordering.{is_gt, is_lt, nat_cmp, ordering_then}
use Rattle.std.proofs.lemmas.Cmp.{tied_itself}
use Rattle.std.proofs.lemmas.Option.{slice_get_within}
use Rattle.dns_name.specs.Order.{zone_cmp}
use Rattle.dns_name.specs.OrderLaws.{zone_cmp_total}
use Rattle.rdata_layout.specs.Types.{number_of}
use Rattle.rdata_layout.specs.declared.types.RType.{RType}
use Rattle.rdata_layout.specs.declared.types.RType.TheVariants.{A, Ns, Cname, Soa, Ptr, Mx, Txt}
use Rattle.rdata_layout.specs.declared.types.RType.TheVariants.{Aaaa, Srv, Spf, Caa}
use Rattle.batch_model.specs.RecordSetRecord.{RecordSet}
use Rattle.batch_model.specs.SetKeyRecord.{SetKey}
use Rattle.batch_model.specs.Sets.{key_of}
use Rattle.zone_table.specs.Bounds.{is_before}
use Rattle.zone_table.specs.Found.{IsCount}
use Rattle.zone_table.specs.BoundRecord.TheVariants as bound
use Rattle.zone_table.proofs.Lookups.{filled}
use Rattle.zone_table.specs.Keys.{ident_cmp}
use Rattle.zone_table.specs.Sets.{IsAmong, IsRising}
use Rattle.zone_table.proofs.Among.{among_at, place_of}
use Rattle.zone_table.proofs.Ordered.{names_tie}
use Rattle.zone_table.proofs.Places.{ordered_at}
use Rattle.batch_model.specs.declared.batches.Change.{Change}
use Rattle.batch_names.specs.Starts.{AreStarts, IsNamed, IsNamedStart, IsStart}
use Rattle.batch_names.proofs.Filtered.{below_or_not}

-- the first key of a name: no type is lower, and no identifier comes before none
abbrev pub first_key : (name : List (List ℕ)) → SetKey
first_key name = record { name = name; rtype = A; ident = None }

type_not_less : (rtype : RType) → is_lt (nat_cmp (number_of rtype) (number_of A)) ≡ false
type_not_less A = refl
type_not_less Ns = refl
type_not_less Cname = refl
type_not_less Soa = refl
type_not_less Ptr = refl
type_not_less Mx = refl
type_not_less Txt = refl
type_not_less Aaaa = refl
type_not_less Srv = refl
type_not_less Spf = refl
type_not_less Caa = refl

ident_not_less : (ident : Option (List ℕ)) → is_lt (ident_cmp ident None) ≡ false
ident_not_less None = refl
ident_not_less (Some ident) = refl

then_not_less : (o p : Ordering) → is_lt o ≡ false → is_lt p ≡ false
    → is_lt (ordering_then o p) ≡ false
then_not_less Less p first second = first
then_not_less Equal p first second = second
then_not_less Greater p first second = refl

first_not_less : (o p : Ordering) → is_lt (ordering_then o p) ≡ false → is_lt o ≡ false
first_not_less Less p e = e
first_not_less Equal p e = refl
first_not_less Greater p e = refl

first_not_greater : (o p : Ordering) → is_gt (ordering_then o p) ≡ false → is_gt o ≡ false
first_not_greater Less p e = refl
first_not_greater Equal p e = refl
first_not_greater Greater p e = e

neither : (o : Ordering) → is_lt o ≡ false → is_gt o ≡ false → o ≡ Equal
neither Less low high = absurd (grind (arith, low))
neither Equal low high = refl
neither Greater low high = absurd (grind (arith, high))

-- no set of a name stands before its first key
not_before : (set : RecordSet) (name : List (List ℕ)) → set.name ≡ name
    → is_before (bound.From (first_key name)) set ≡ false
not_before set name e =
    let tie : zone_cmp set.name name ≡ Equal =
    subst (λ n. zone_cmp set.name n ≡ Equal) e (tied_itself zone_cmp_total set.name) in
    then_not_less
    (ordering_then (zone_cmp set.name name) (nat_cmp (number_of set.rtype) (number_of A)))
    (ident_cmp (key_of set).ident None)
    (then_not_less (zone_cmp set.name name) (nat_cmp (number_of set.rtype) (number_of A))
    (ap is_lt tie) (type_not_less set.rtype))
    (ident_not_less (key_of set).ident)

module _ (sets : List RecordSet) (name : List (List ℕ)) (n : ℕ)
    (count : IsCount sets (bound.From (first_key name)) n) where
  -- where the first set behind that key has the name, those of the name begin
  pub starts_here : (set : RecordSet) → slice_get sets n ≡ Some set → set.name ≡ name
      → IsStart sets name n
  starts_here set there its_name = record {
    set = set;
    there = there;
    its_name = its_name;
    first = λ k other lt at_k e.
        let before = count.before k other lt at_k in
        let no = not_before other name e in
        grind (arith, before, no);
  }

  -- and else no set has it
  pub none_has : IsRising sets → ((set : RecordSet) → slice_get sets n ≡ Some set → set.name ≢ name)
      → (set : RecordSet) → IsAmong sets set → set.name ≢ name
  none_has rising not_here set there e =
      let at = place_of sets set there in
      by at.0 at.1 (below_or_not at.0 n)
    where
      by : (i : ℕ) → slice_get sets i ≡ Some set → (i < n) ⊎ (n ≤ i) → ⊥
      by i at_i (inl lt) =
          let before = count.before i set lt at_i in
          let no = not_before set name e in
          grind (arith, before, no)
      by i at_i (inr le) =
          let inside : n < length sets =
          (let lt = slice_get_within sets i set at_i in omega (arith, lt, le)) in
          let here = filled sets n inside in
          let low : is_lt (zone_cmp here.0.name name) ≡ false =
          first_not_less (zone_cmp here.0.name name) _
          (first_not_less _ _ (count.behind n here.0 (omega arith) here.1)) in
          let high : is_gt (zone_cmp here.0.name set.name) ≡ false =
          first_not_greater (zone_cmp here.0.name set.name) _
          (ordered_at sets n i here.0 set rising le here.1 at_i) in
          let same : here.0.name ≡ name =
          names_tie here.0.name name
          (neither (zone_cmp here.0.name name) low
          (subst (λ m. is_gt (zone_cmp here.0.name m) ≡ false) e high)) in
          not_here here.0 here.1 same

-- ---- names of changes

named_either : (changes : List Change) (change : Change) (name : List (List ℕ))
    → IsNamed (changes ++ change ∷ []) name → IsNamed changes name ⊎ (change.set.name ≡ name)
named_either [] change name (other, inl e, its) = inr (ap (λ (c : Change). c.set.name) e ∙ its)
named_either [] change name (other, inr there, its) = absurd there
named_either (first ∷ changes) change name (other, inl e, its) = inl (other, inl e, its)
named_either (first ∷ changes) change name (other, inr there, its) =
    elim (named_either changes change name (other, there, its)) [
      | inl more ↦ inl (more.0, inr more.1, more.2)
      | inr e ↦ inr e
    ]

named_more : (changes : List Change) (change : Change) (name : List (List ℕ))
    → IsNamed changes name → IsNamed (changes ++ change ∷ []) name
named_more [] change name (other, there, its) = absurd there
named_more (first ∷ changes) change name (other, inl e, its) = (other, inl e, its)
named_more (first ∷ changes) change name (other, inr there, its) =
    let more = named_more changes change name (other, there, its) in (more.0, inr more.1, more.2)

named_last : (changes : List Change) (change : Change) → IsNamed
    (changes ++ change ∷ []) change.set.name
named_last [] change = (change, inl refl, refl)
named_last (first ∷ changes) change =
    let more = named_last changes change in (more.0, inr more.1, more.2)

-- ---- starts

module _ {X : Type 0} where
  pub in_more : (xs : List X) (x y : X) → IsAmong xs y → IsAmong (xs ++ x ∷ []) y
  in_more [] x y there = absurd there
  in_more (z ∷ xs) x y (inl e) = inl e
  in_more (z ∷ xs) x y (inr there) = inr (in_more xs x y there)

  pub in_last : (xs : List X) (x : X) → IsAmong (xs ++ x ∷ []) x
  in_last [] x = inl refl
  in_last (z ∷ xs) x = inr (in_last xs x)

  pub of_more : (xs : List X) (x y : X) → IsAmong (xs ++ x ∷ []) y → IsAmong xs y ⊎ (x ≡ y)
  of_more [] x y (inl e) = inr e
  of_more [] x y (inr there) = absurd there
  of_more (z ∷ xs) x y (inl e) = inl (inl e)
  of_more (z ∷ xs) x y (inr there) =
      elim (of_more xs x y there) [ inl more ↦ inl (inr more) | inr e ↦ inr e ]

equal_or_not : (a b : ℕ) → (a ≡ b) ⊎ (a < b) ⊎ (b < a)
equal_or_not a b = elim (below_or_not a b) [
  | inl lt ↦ inr (inl lt)
  | inr le ↦ elim (below_or_not b a) [
    | inl lt ↦ inr (inr lt)
    | inr ge ↦ inl (omega (arith, le, ge))
  ]
]

-- the sets of a name begin at one place
pub one_start : (sets : List RecordSet) (name : List (List ℕ)) (at other : ℕ)
    → IsStart sets name at → IsStart sets name other → at ≡ other
one_start sets name at other s t = elim (equal_or_not at other) [
  | inl e ↦ e
  | inr apart ↦ elim apart [
    | inl lt ↦ absurd (t.first at s.set lt s.there s.its_name)
    | inr lt ↦ absurd (s.first other t.set lt t.there t.its_name)
  ]
]

module _ (sets : List RecordSet) where
  pub no_starts : AreStarts sets [] []
  no_starts = record { each = λ at there. absurd there; all = λ at named. absurd named.1.1 }

  module _ (changes : List Change) (change : Change) (starts : List ℕ)
      (are : AreStarts sets changes starts) where
    more_named : (at : ℕ) → IsNamedStart sets changes at
        → IsNamedStart sets (changes ++ change ∷ []) at
    more_named at named = (named.0, named_more changes change named.0 named.1, named.2)

    pub one_more_start : (at : ℕ) → IsStart sets change.set.name at
        → AreStarts sets (changes ++ change ∷ []) (starts ++ at ∷ [])
    one_more_start at start = record { each = each; all = all }
      where
        each : (n : ℕ) → IsAmong (starts ++ at ∷ []) n → IsNamedStart sets
            (changes ++ change ∷ []) n
        each n there = elim (of_more starts at n there) [
          | inl old ↦ more_named n (are.each n old)
          | inr e ↦
              subst (λ k. IsNamedStart sets (changes ++ change ∷ []) k) e
              (change.set.name, named_last changes change, start)
        ]

        all : (n : ℕ) → IsNamedStart sets (changes ++ change ∷ []) n → IsAmong (starts ++ at ∷ []) n
        all n (name, named, its) = elim (named_either changes change name named) [
          | inl old ↦ in_more starts at n (are.all n (name, old, its))
          | inr e ↦
              subst (λ k. IsAmong (starts ++ at ∷ []) k)
              (one_start sets name at n (subst (λ m. IsStart sets m at) e start) its)
              (in_last starts at)
        ]

    pub no_more_start : ((set : RecordSet) → IsAmong sets set → set.name ≢ change.set.name)
        → AreStarts sets (changes ++ change ∷ []) starts
    no_more_start none = record { each = λ n there. more_named n (are.each n there); all = all }
      where
        all : (n : ℕ) → IsNamedStart sets (changes ++ change ∷ []) n → IsAmong starts n
        all n (name, named, its) = elim (named_either changes change name named) [
          | inl old ↦ are.all n (name, old, its)
          | inr e ↦ absurd (none its.set (among_at sets n its.set its.there) (its.its_name ∙ sym e))
        ]
