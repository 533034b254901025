-- The name at the front of octets.
use Rattle.std.proofs.Common.{◌≡◌, ℕ, ◌-◌, List, ◌++◌, length, take, drop, arith, ap, ◌∙◌, sym, refl, subst, length-append, take-append-drop, inl, inr, true, false, Ok, Err}
use Rattle.std.specs.Prelude.{◌⊎◌, nat_eq}
use Rattle.std.specs.Cmp.Lexicographic.{pointwise}
use Rattle.std.proofs.lemmas.Bool.Decides.{Decides-eqb}
use Rattle.std.proofs.lemmas.Slice.Eq.{slice_eq-Decides}
use Rattle.std.proofs.lemmas.List.{nil_from_length}
use Rattle.std.proofs.Math.Seq.{drop-append_seam}
use Rattle.rdata_layout.specs.Labels.{wire}
use Rattle.rdata_layout.specs.Names.{IsName}
use Rattle.rdata_layout.specs.Stored.{labels_of}
use Rattle.rdata_layout.specs.Wire.{BeginsWithName, BeginsWithNone}
use Rattle.rdata_layout.proofs.Labels.{labels_of-wire, one_name}
use Rattle.rdata_layout.proofs.Fronts.{begins, front_is}
use Rattle.octet_reading.specs.declared.names.NameRead.{NameRead}
use Rattle.octet_reading.specs.declared.names.NameRead.TheVariants.{Whole, Short, Broken}
use Rattle.octet_reading.specs.Names.{name_read, named, name_at}
use Rattle.octet_reading.proofs.Again.{front_again, behind_found}
use Rattle.octet_reading.proofs.Digits.{ok_is}
use Rattle.octet_reading.proofs.Found.{IsBytes, found_from}

-- octets that begin with a name in lower case
pub record Begins (octets : List ℕ) (left : ℕ) : Type 0 where
  pub labels : List (List ℕ)
  pub rest : List ℕ
  pub name : IsName labels
  pub spelled : octets ≡ wire labels ++ rest
  pub left_is : length rest ≡ left

pub whole_begins : (octets : List ℕ) (left : ℕ) → IsBytes octets → name_read octets ≡ Whole left
    → Begins octets left
whole_begins octets left bytes e =
    let f = found_from 255 0 octets left bytes (omega arith) e in
    record {
      labels = f.labels;
      rest = f.rest;
      name = record {
        raw = record { each = f.each; fits = f.fits };
        lower = f.lower;
        octets =
            f.small;
      };
      spelled = f.spelled
          ∙ ap (λ t. t ++ (wire f.labels ++ f.rest)) (nil_from_length f.part f.size);
      left_is = f.left_is;
    }

pub is_short : (octets : List ℕ) (front : NameRead) → front ≡ name_read octets → front ≡ Short
    → name_at octets ≡ Err 0
unfolding name_at
is_short octets front e s = ap (named octets) (sym e ∙ s)

pub is_broken : (octets : List ℕ) (front : NameRead) → front ≡ name_read octets
    → ((left : ℕ) → name_read octets ≡ Whole left → ⊥)
    → (front ≡ Broken) ⊎ ((left : ℕ) × (front ≡ Whole left))
    → name_at octets ≡ Err (length octets)
unfolding name_at
is_broken octets front e none (inl broken) = ap (named octets) (sym e ∙ broken)
is_broken octets front e none (inr whole) = absurd (none whole.0 (sym e ∙ whole.1))

-- a name that was written is read again
pub name_again : (labels : List (List ℕ)) (rest : List ℕ) → IsName labels
    → name_at (wire labels ++ rest) ≡ Ok (labels, rest)
unfolding name_at
name_again labels rest name =
    ap (named (wire labels ++ rest)) (front_again labels rest name)
    ∙ cc (labels_of-wire labels rest name.raw.each, behind_found labels rest)

same_octets : (octets others : List ℕ) → pointwise nat_eq octets others ≡ true → octets ≡ others
same_octets octets others h =
    (slice_eq-Decides Decides-eqb octets others (pointwise nat_eq octets others) refl).0 h

-- a name that is spelled in lower case
pub is_name : (octets spelled : List ℕ) (labels : List (List ℕ)) (n : ℕ) (rest : List ℕ) → IsName labels
    → pointwise nat_eq (wire labels) spelled ≡ true → spelled ≡ take n octets → rest ≡ drop n octets
    → name_at octets ≡ Ok (labels, rest)
is_name octets spelled labels n rest name same s r =
    let whole : octets ≡ wire labels ++ rest =
    sym (take-append-drop n octets)
    ∙ cc (s, r, same_octets (wire labels) spelled same) in
    ap name_at whole ∙ name_again labels rest name

-- a name that isn't
pub is_other : (octets spelled : List ℕ) (labels : List (List ℕ)) (n left : ℕ) → IsBytes octets
    → BeginsWithName octets labels n → spelled ≡ take n octets
    → pointwise nat_eq (wire labels) spelled ≡ false → name_read octets ≡ Whole left → ⊥
is_other octets spelled labels n left bytes b s other e =
    let w = whole_begins octets left bytes e in
    let one =
    one_name octets labels n b w.labels (length (wire w.labels))
    (begins octets w.rest w.labels w.name w.spelled) in
    let same : wire labels ≡ spelled = ap wire (sym one.0)
    ∙ sym (front_is octets (wire w.labels) w.rest n w.spelled one.1) ∙ sym s in
    let equal : pointwise nat_eq (wire labels) spelled ≡ true =
    (slice_eq-Decides Decides-eqb (wire labels) spelled (pointwise nat_eq (wire labels) spelled) refl).1 same in
    cc (other, equal)

pub no_name : (octets : List ℕ) (left : ℕ) → IsBytes octets → BeginsWithNone octets
    → name_read octets ≡ Whole left → ⊥
no_name octets left bytes none e =
    let w = whole_begins octets left bytes e in
    none w.labels (length (wire w.labels)) (begins octets w.rest w.labels w.name w.spelled)

-- a name that is read stands there
pub name_stands : (octets : List ℕ) (x : List (List ℕ) × List ℕ) → IsBytes octets
    → name_at octets ≡ Ok x → (octets ≡ wire x.0 ++ x.1) × IsName x.0
unfolding name_at
name_stands octets x bytes e = go (name_read octets) refl e
  where
    go : (front : NameRead) → name_read octets ≡ front → named octets front ≡ Ok x
        → (octets ≡ wire x.0 ++ x.1) × IsName x.0
    go (Whole left) f h =
        let w = whole_begins octets left bytes f in
        let labels : labels_of octets ≡ w.labels = ap labels_of w.spelled
        ∙ labels_of-wire w.labels w.rest w.name.raw.each in
        let size : length octets - left ≡ length (wire w.labels) =
        omega (arith, ap length w.spelled, length-append (wire w.labels) w.rest, w.left_is) in
        let rest : drop (length octets - left) octets ≡ w.rest =
        ap (λ k. drop k octets) size ∙ ap (drop (length (wire w.labels))) w.spelled
        ∙ drop-append_seam (wire w.labels) w.rest in
        let first : w.labels ≡ x.0 = sym labels
        ∙ ap (λ (p : List (List ℕ) × List ℕ). p.0)
        (ok_is (labels_of octets, drop (length octets - left) octets) x h) in
        let second : w.rest ≡ x.1 = sym rest
        ∙ ap (λ (p : List (List ℕ) × List ℕ). p.1)
        (ok_is (labels_of octets, drop (length octets - left) octets) x h) in
        (w.spelled ∙ cc (first, second), subst IsName first w.name)
    go Short f h = absurd cc
    go Broken f h = absurd cc
