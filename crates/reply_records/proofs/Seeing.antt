-- Values that are kept, of those that were seen.
use Rattle.std.proofs.Common.{◌≡◌, ◌<◌, ◌≤◌, ◌+◌, ℕ, zero, suc, Bool, true, false, List, [], ◌∷◌}
use Rattle.std.proofs.Common.{◌++◌, Some, length, take, drop, refl, sym, ap, ◌∙◌, subst, arith, inl, inr}
use Rattle.std.proofs.Math.Seq.{take-append_seam}
use Rattle.std.proofs.lemmas.List.{take_more_set}
use Rattle.std.proofs.lemmas.Slice.Eq.{bytes_eq-Decides}
use Rattle.std.specs.Prelude.{replicate, slice_get, slice_set, ◌||◌, ◌⊎◌}
use Rattle.std.specs.Str.{bytes_eq}
use Rattle.zone_model.specs.Zones.{IsAmong}
use Rattle.policy_select.specs.Records.{is_among}
use Rattle.reply_records.specs.Seeing.{Sees, short_of}
use Rattle.reply_records.specs.declared.seen.Seen.{Seen}
use Rattle.reply_records.specs.declared.seen.Short.{Short}

-- ---- elements of lists

pub split_among : {X : Type 0} (xs ys : List X) (x : X) → IsAmong (xs ++ ys) x
    → IsAmong xs x ⊎ IsAmong ys x
split_among [] ys x there = inr there
split_among (y ∷ xs) ys x (inl e) = inl (inl e)
split_among (y ∷ xs) ys x (inr there) = elim (split_among xs ys x there) [
  | inl a ↦ inl (inr a)
  | inr b ↦ inr b
]

pub in_front : {X : Type 0} (xs ys : List X) (x : X) → IsAmong xs x → IsAmong (xs ++ ys) x
in_front [] ys x there = absurd there
in_front (y ∷ xs) ys x (inl e) = inl e
in_front (y ∷ xs) ys x (inr there) = inr (in_front xs ys x there)

pub in_back : {X : Type 0} (xs ys : List X) (x : X) → IsAmong ys x → IsAmong (xs ++ ys) x
in_back [] ys x there = there
in_back (y ∷ xs) ys x there = inr (in_back xs ys x there)

pub take_among : {X : Type 0} (xs : List X) (n i : ℕ) (x : X) → i < n → slice_get xs i ≡ Some x
    → IsAmong (take n xs) x
take_among [] n i x lt e = absurd (grind (arith, e))
take_among (y ∷ xs) zero i x lt e = absurd (omega (arith, lt))
take_among (y ∷ xs) (suc n) zero x lt e = inl (grind (arith, e))
take_among (y ∷ xs) (suc n) (suc i) x lt e = inr (take_among xs n i x (omega (arith, lt)) e)

pub place_in : {X : Type 0} (xs : List X) (n : ℕ) (x : X) → IsAmong (take n xs) x
    → (i : ℕ) × (i < n) × (slice_get xs i ≡ Some x)
place_in xs zero x there = absurd there
place_in [] (suc n) x there = absurd there
place_in (y ∷ xs) (suc n) x (inl e) = (zero, omega arith, ap Some e)
place_in (y ∷ xs) (suc n) x (inr there) =
    (let rest = place_in xs n x there in (suc rest.0, omega (arith, rest.1), rest.2))

among_so : (rdatas : List (List ℕ)) (rdata : List ℕ) → IsAmong rdatas rdata
    → is_among rdatas rdata ≡ true
among_so [] rdata there = absurd there
among_so (x ∷ rdatas) rdata (inl e) =
    ap (λ b. b || is_among rdatas rdata) ((bytes_eq-Decides rdata x).1 (sym e))
among_so (x ∷ rdatas) rdata (inr there) =
    either (bytes_eq rdata x) (among_so rdatas rdata there)
  where
    either : (b : Bool) → is_among rdatas rdata ≡ true → (b || is_among rdatas rdata) ≡ true
    either true e = refl
    either false e = e

not_among : (rdatas : List (List ℕ)) (rdata : List ℕ) → (IsAmong rdatas rdata → ⊥)
    → is_among rdatas rdata ≡ false
not_among [] rdata none = refl
not_among (x ∷ rdatas) rdata none =
    by (bytes_eq rdata x) refl (not_among rdatas rdata (λ there. none (inr there)))
  where
    by : (b : Bool) → bytes_eq rdata x ≡ b → is_among rdatas rdata ≡ false
        → (b || is_among rdatas rdata) ≡ false
    by true e rest = absurd (none (inl (sym ((bytes_eq-Decides rdata x).0 e))))
    by false e rest = rest

-- ---- short values

-- the zeros behind a short value
abbrev rest : List ℕ → List ℕ
rest rdata = drop (length rdata) (replicate 19 0)

-- values with one short form are the same
same_short : (one other : List ℕ) → short_of one ≡ short_of other → one ≡ other
same_short one other e =
    let as_long : length one ≡ length other = ap (λ (s : Short). s.len) e in
    sym (take-append_seam one (rest one))
    ∙ (ap (take (length one)) (ap (λ (s : Short). s.octets) e)
    ∙ (ap (λ (n : ℕ). take n (other ++ rest other)) as_long
    ∙ take-append_seam other (rest other)))

module _ (rdatas : List (List ℕ)) (values : List Short) (seen : Seen)
    (sees : Sees rdatas values seen) (rdata : List ℕ) where
  pub seen_so : IsAmong (take seen.count values) (short_of rdata) → true ≡ is_among rdatas rdata
  seen_so there =
      let found = sees.only (short_of rdata) there in
      sym (among_so rdatas rdata
      (subst (λ (x : List ℕ). IsAmong rdatas x) (sym (same_short rdata found.0 found.3)) found.1))

  pub seen_not : length rdata ≤ 19 → seen.is_whole ≡ true
      → (IsAmong (take seen.count values) (short_of rdata) → ⊥) → false ≡ is_among rdatas rdata
  seen_not short whole none =
      sym (not_among rdatas rdata (λ there. none (sees.whole whole rdata there short)))

  still_only : (s : Short) → IsAmong (take seen.count values) s
      → (x : List ℕ) × IsAmong (rdatas ++ rdata ∷ []) x × (length x ≤ 19) × (s ≡ short_of x)
  still_only s there =
      let found = sees.only s there in
      (found.0, in_front rdatas (rdata ∷ []) found.0 found.1, found.2, found.3)

  -- one value more, which isn't kept
  pub note_long : 19 < length rdata → Sees (rdatas ++ rdata ∷ []) values seen
  note_long long = record {
    only = still_only;
    whole = λ so x there short. elim (split_among rdatas (rdata ∷ []) x there) [
      | inl a ↦ sees.whole so x a short
      | inr b ↦ by x b short
    ];
  }
    where
      by : (x : List ℕ) → IsAmong (rdata ∷ []) x → length x ≤ 19
          → IsAmong (take seen.count values) (short_of x)
      by x (inl e) short =
          (let same = ap (λ (o : List ℕ). length o) e in absurd (omega (arith, long, short, same)))
      by x (inr none) short = absurd none

  pub note_kept : IsAmong (take seen.count values) (short_of rdata)
      → Sees (rdatas ++ rdata ∷ []) values seen
  note_kept kept = record {
    only = still_only;
    whole = λ so x there short. elim (split_among rdatas (rdata ∷ []) x there) [
      | inl a ↦ sees.whole so x a short
      | inr b ↦ by x b
    ];
  }
    where
      by : (x : List ℕ) → IsAmong (rdata ∷ []) x → IsAmong (take seen.count values) (short_of x)
      by x (inl e) =
          subst (λ (o : List ℕ). IsAmong (take seen.count values) (short_of o)) e kept
      by x (inr none) = absurd none

  pub note_full : Sees (rdatas ++ rdata ∷ []) values (record seen { is_whole = false })
  note_full = record {
    only = still_only;
    whole = λ so x there short. absurd (grind (arith, so));
  }

  pub note_new : length rdata ≤ 19 → seen.count < length values
      → Sees (rdatas ++ rdata ∷ []) (slice_set values seen.count (short_of rdata))
      (record seen { count = seen.count + 1 })
  note_new short room = record {
    only = λ s there. elim (split_among (take seen.count values) (short_of rdata ∷ []) s
        (subst (λ (xs : List Short). IsAmong xs s) longer there)) [
          | inl a ↦ still_only s a
          | inr b ↦ here s b
        ];
    whole = λ so x there short_too. subst (λ (xs : List Short). IsAmong xs (short_of x)) (sym longer)
        (elim (split_among rdatas (rdata ∷ []) x there) [
          | inl a ↦ in_front (take seen.count values) (short_of rdata ∷ []) (short_of x)
              (sees.whole so x a short_too)
          | inr b ↦ in_back (take seen.count values) (short_of rdata ∷ []) (short_of x) (by x b)
        ]);
  }
    where
      longer : take (seen.count + 1) (slice_set values seen.count (short_of rdata))
          ≡ take seen.count values ++ short_of rdata ∷ []
      longer = take_more_set values seen.count (short_of rdata) room

      here : (s : Short) → IsAmong (short_of rdata ∷ []) s
          → (x : List ℕ) × IsAmong (rdatas ++ rdata ∷ []) x × (length x ≤ 19) × (s ≡ short_of x)
      here s (inl e) = (rdata, in_back rdatas (rdata ∷ []) rdata (inl refl), short, sym e)
      here s (inr none) = absurd none

      by : (x : List ℕ) → IsAmong (rdata ∷ []) x → IsAmong (short_of rdata ∷ []) (short_of x)
      by x (inl e) = inl (ap short_of e)
      by x (inr none) = absurd none

-- nothing is seen yet
pub sees_nothing : (values : List Short) → Sees [] values (record { count = 0; is_whole = true })
sees_nothing values = record {
  only = λ s there. absurd there;
  whole = λ so x there short. absurd there;
}
