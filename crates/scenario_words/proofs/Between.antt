-- What stands between a front and an end that a text has.
use Rattle.std.proofs.Common.{◌≡◌, ℕ, ◌-◌, List, ◌++◌, take, drop, length, Bool, true, refl, sym}
use Rattle.std.proofs.lemmas.Bool.Decides.{Decides-eqb}
use Rattle.std.proofs.lemmas.Slice.Eq.{slice_eq-Decides}
use Rattle.std.specs.Cmp.Lexicographic.{pointwise}
use Rattle.std.specs.Prelude.{nat_eq}
use Rattle.std.proofs.lemmas.List.{take-append-drop}

same : (text other : List ℕ) → pointwise nat_eq text other ≡ true → text ≡ other
same text other h = (slice_eq-Decides Decides-eqb text other (pointwise nat_eq text other) refl).0 h

pub with_front : (text front rest : List ℕ) → pointwise nat_eq (take (length front) text) front ≡ true
    → rest ≡ drop (length front) text → text ≡ front ++ rest
with_front text front rest h is =
    let begins = same (take (length front) text) front h in
    let whole = take-append-drop (length front) text in
    cc

pub with_end : (text end rest : List ℕ)
    → pointwise nat_eq (drop (length text - length end) text) end ≡ true
    → rest ≡ take (length text - length end) text → text ≡ rest ++ end
with_end text end rest h is =
    let ends = same (drop (length text - length end) text) end h in
    let whole = take-append-drop (length text - length end) text in
    cc

pub between : (text front rest digits end : List ℕ) → text ≡ front ++ rest → rest ≡ digits ++ end
    → text ≡ front ++ (digits ++ end)
between text front rest digits end begins ends = cc
