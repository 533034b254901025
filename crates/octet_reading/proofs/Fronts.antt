-- What octets are for a name, label by label.
use Rattle.std.proofs.Common.{◌≡◌, ℕ, zero, suc, ◌+◌, ◌-◌, ◌<◌, ◌≤◌, Bool, true, false, List, [], ◌∷◌, length, take, drop, arith, ap, ◌∙◌, sym, refl, cond}
use Rattle.std.specs.Prelude.{◌&&◌, nat_le, nat_lt}
use Rattle.std.specs.Prelude.{slice_index_or}
use Rattle.std.specs.List.{list_all}
use Rattle.std.proofs.lemmas.Bool.{lt-ltb, le-leb, and_from}
use Rattle.octet_reading.specs.declared.names.NameRead.{NameRead}
use Rattle.octet_reading.specs.declared.names.NameRead.TheVariants.{Broken}
use Rattle.octet_reading.specs.Names.{is_lower, name_read_from}

passed : (test others : Bool) (x y : NameRead) → (others ≡ true → x ≡ y) → (test && others) ≡ true
    → cond test x Broken ≡ y
passed true others x y h k = h k
passed false others x y h k = absurd cc

stopped : (test others : Bool) (x : NameRead) → (others ≡ false → x ≡ Broken)
    → (test && others) ≡ false → cond test x Broken ≡ Broken
stopped true others x h k = h k
stopped false others x h k = refl

-- the octets of a label are passed where none is a capital letter
pub pass_label : (room n : ℕ) (octets : List ℕ) → list_all is_lower (take n octets) ≡ true
    → name_read_from room n octets ≡ name_read_from room 0 (drop n octets)
pass_label room zero octets h = refl
pass_label room (suc n) [] h = refl
pass_label room (suc n) (b ∷ octets) h =
    passed (is_lower b) _ (name_read_from room n octets) _ (pass_label room n octets) h

pub bad_label : (room n : ℕ) (octets : List ℕ) → list_all is_lower (take n octets) ≡ false
    → name_read_from room n octets ≡ Broken
bad_label room zero octets h = absurd cc
bad_label room (suc n) [] h = absurd cc
bad_label room (suc n) (b ∷ octets) h =
    stopped (is_lower b) _ (name_read_from room n octets) (bad_label room n octets) h

-- a length that there is room for
fits_label : (room n : ℕ) → n < 63 → n + 3 ≤ room → (nat_lt n 63 && nat_le (n + 3) room) ≡ true
fits_label room n short fits =
    and_from (nat_lt n 63) (nat_le (n + 3) room) (lt-ltb n 63 short) (le-leb (n + 3) room fits)

pub begin_label : (room n : ℕ) (octets : List ℕ) → 0 < n → n ≤ 63 → n + 2 ≤ room
    → name_read_from room 0 (n ∷ octets) ≡ name_read_from (room - (n + 1)) n octets
begin_label room zero octets some short fits = absurd (omega arith)
begin_label room (suc n) octets some short fits =
    let t : (nat_lt n 63 && nat_le (n + 3) room) ≡ true =
    fits_label room n (omega arith) (omega arith) in
    let k : room - (n + 2) ≡ room - (suc n + 1) = omega arith in
    ap (λ v. cond v (name_read_from (room - (n + 2)) (suc n) octets) Broken) t
    ∙ ap (λ r. name_read_from r (suc n) octets) k

-- a whole label is passed
pub good_step : (room n : ℕ) (rest behind label later : List ℕ) (total : NameRead) → 0 < length rest
    → n ≡ slice_index_or rest 0 0 → 0 < n → n ≤ 63 → n + 2 ≤ room
    → behind ≡ drop 1 rest → label ≡ take n behind → later ≡ drop n behind
    → list_all is_lower label ≡ true → name_read_from room 0 rest ≡ total
    → (1 ≤ room - (n + 1)) × (name_read_from (room - (n + 1)) 0 later ≡ total)
good_step room n [] behind label later total some first filled short fits b l d lower so_far =
    absurd (omega arith)
good_step room n (m ∷ octets) behind label later total some first filled short fits b l d lower
    so_far =
    let part : list_all is_lower (take n octets) ≡ true =
    ap (λ t. list_all is_lower (take n t)) (sym b) ∙ ap (list_all is_lower) (sym l) ∙ lower in
    let passed : name_read_from room 0 (m ∷ octets) ≡ name_read_from (room - (n + 1)) 0 later =
    ap (λ k. name_read_from room 0 (k ∷ octets)) (sym first)
    ∙ begin_label room n octets filled short fits
    ∙ pass_label (room - (n + 1)) n octets part
    ∙ ap (λ t. name_read_from (room - (n + 1)) 0 (drop n t)) (sym b)
    ∙ ap (name_read_from (room - (n + 1)) 0) (sym d) in
    (omega arith, sym passed ∙ so_far)

-- a label with a capital letter is none
pub bad_step : (room n : ℕ) (rest behind label : List ℕ) (total : NameRead) → 0 < length rest
    → n ≡ slice_index_or rest 0 0 → 0 < n → n ≤ 63 → n + 2 ≤ room
    → behind ≡ drop 1 rest → label ≡ take n behind → list_all is_lower label ≡ false
    → name_read_from room 0 rest ≡ total
    → Broken ≡ total
bad_step room n [] behind label total some first filled short fits b l lower so_far =
    absurd (omega arith)
bad_step room n (m ∷ octets) behind label total some first filled short fits b l lower so_far =
    let part : list_all is_lower (take n octets) ≡ false =
    ap (λ t. list_all is_lower (take n t)) (sym b) ∙ ap (list_all is_lower) (sym l) ∙ lower in
    let passed : name_read_from room 0 (m ∷ octets) ≡ Broken =
    ap (λ k. name_read_from room 0 (k ∷ octets)) (sym first)
    ∙ begin_label room n octets filled short fits ∙ bad_label (room - (n + 1)) n octets part in
    sym passed ∙ so_far
