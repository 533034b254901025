-- Records, walked one after another.
use Rattle.std.proofs.Common.{◌≡◌, ◌≢◌, ℕ, suc, ◌+◌, ◌-◌, ◌<◌, ◌≤◌, ◌==◌, List, [], ◌∷◌, ◌++◌, length, take, drop, get_or, ap, ◌∙◌, sym, refl, subst, arith, append_assoc, append-nil, length-append, inl, inr, zero}
use Rattle.std.specs.Prelude.{if◌then◌else◌}
use Rattle.std.proofs.lemmas.List.{drop-drop, drop_more, length-take-le}
use Rattle.std.proofs.lemmas.List.Elements.{filter-append}
use Rattle.std.proofs.lemmas.Bool.{eq-eqb, ne_eqb}
use Rattle.octets.specs.Numbers.{number_at}
use Rattle.dns_message.specs.Edns.{AreProperOpts, IsProperOpt, opts_of}
use Rattle.dns_message.specs.Records.{AnyRecord, BeginsWithRecord, BeginsWithRecords, IsOwner, record_of}
use Rattle.dns_message.specs.Walk.{BeginsWithoutOwner, BeginsWithoutRecord, HasFound, HasPlace, HasRecords, IsRootAt, WalksTo}
use Rattle.dns_message.specs.declared.records.Place.{Place}
use Rattle.dns_message.specs.declared.walked.Walked.{Walked}
use Rattle.dns_message.specs.declared.walked.Walked.TheVariants as walked
use Rattle.dns_message.proofs.Owners.{first_of, one_owner}

-- the owner of a whole record is within the octets
owner_within : (octets : List ℕ) (r : AnyRecord) (size : ℕ) (b : BeginsWithRecord octets r size)
    → b.owner_len + 10 ≤ length octets
owner_within octets r size b = omega (arith, b.sized, b.whole)

-- Octets begin with one record at most.
pub one_record : (octets : List ℕ) (r s : AnyRecord) (n m : ℕ) → BeginsWithRecord octets r n
    → BeginsWithRecord octets s m → (r ≡ s) × (n ≡ m)
one_record octets r s n m a b =
    let same : a.owner_len ≡ b.owner_len =
    one_owner octets a.owner_len b.owner_len (omega (arith, owner_within octets r n a))
    (omega (arith, owner_within octets s m b)) a.owner b.owner in (
      a.fields ∙ ap (record_of octets) same ∙ sym b.fields,
      a.sized ∙ ap (λ k. k + 10 + number_at octets (k + 8)) same ∙ sym b.sized,
    )

pub one_list_of_records : (octets : List ℕ) (records others : List AnyRecord)
    → length records ≡ length others
    → BeginsWithRecords octets records → BeginsWithRecords octets others → records ≡ others
one_list_of_records octets [] [] e h k = refl
one_list_of_records octets [] (s ∷ others) e h k = absurd (omega (arith, e))
one_list_of_records octets (r ∷ records) [] e h k = absurd (omega (arith, e))
one_list_of_records octets (r ∷ records) (s ∷ others) e h k =
    let one = one_record octets r s h.0 k.0 h.1 k.1 in
    let rest : records ≡ others =
    one_list_of_records (drop h.0 octets) records others (omega (arith, e)) h.2
    (subst (λ n. BeginsWithRecords (drop n octets) others) (sym one.1) k.2) in
    ap (λ x. x ∷ records) one.0 ∙ ap (λ l. s ∷ l) rest

-- the record at the front, by its place
pub placed : (octets : List ℕ) (place : Place) → HasPlace octets place
    → BeginsWithRecord octets (record_of octets place.owner_len) place.size
placed octets place h = record {
  owner_len = place.owner_len;
  owner = h.owner;
  sized = h.sized;
  whole = h.whole;
  fields = refl;
}

-- where no owner stands, no record does
pub without_owner : (octets : List ℕ) → BeginsWithoutOwner octets → BeginsWithoutRecord octets
without_owner octets none r size b =
    none b.owner_len (omega (arith, owner_within octets r size b)) b.owner

-- where what stands behind the owner is too short, no record does
pub too_short : (octets : List ℕ) (n : ℕ) → n ≤ length octets → IsOwner (take n octets)
    → length octets - n < 10 → BeginsWithoutRecord octets
too_short octets n within owner short r size b =
    let same : n ≡ b.owner_len =
    one_owner octets n b.owner_len within (omega (arith, owner_within octets r size b)) owner b.owner in
    omega (arith, same, within, short, owner_within octets r size b)

pub too_long : (octets : List ℕ) (n : ℕ) → n ≤ length octets → IsOwner (take n octets)
    → length octets < n + 10 + number_at octets (n + 8) → BeginsWithoutRecord octets
too_long octets n within owner long r size b =
    let same : n ≡ b.owner_len =
    one_owner octets n b.owner_len within (omega (arith, owner_within octets r size b)) owner b.owner in
    let sized : size ≡ n + 10 + number_at octets (n + 8) =
    b.sized ∙ ap (λ k. k + 10 + number_at octets (k + 8)) (sym same) in
    omega (arith, sized, long, b.whole)

-- ---- one after another

-- the records that were walked up to a place
pub record Passed (octets : List ℕ) (at : ℕ) (done : List AnyRecord) : Type 0 where
  pub joins : (rest : List AnyRecord) → BeginsWithRecords (drop at octets) rest
      → BeginsWithRecords octets (done ++ rest)
  pub only : (records : List AnyRecord) → BeginsWithRecords octets records
      → length done ≤ length records
      → (rest : List AnyRecord) × (records ≡ done ++ rest) × BeginsWithRecords (drop at octets) rest

pub none_yet : (octets : List ℕ) → Passed octets 0 []
none_yet octets = record { joins = λ rest h. h; only = λ records h _. (records, refl, h) }

-- one record more
pub one_more : (octets : List ℕ) (at size : ℕ) (r : AnyRecord) (done : List AnyRecord)
    → BeginsWithRecord (drop at octets) r size → Passed octets at done
    → Passed octets (at + size) (done ++ r ∷ [])
one_more octets at size r done b passed = record {
  joins = λ rest h.
      subst (BeginsWithRecords octets) (sym (append_assoc done (r ∷ []) rest))
      (passed.joins (r ∷ rest)
      (size, b, subst (λ l. BeginsWithRecords l rest) (sym (drop-drop size at octets)) h));
  only = λ records h long.
      let r' = passed.only records h (omega (arith, long, length-append done (r ∷ []))) in
      elim r'.0 as (λ l. records ≡ done ++ l → BeginsWithRecords (drop at octets) l
      → (rest : List AnyRecord) × (records ≡ (done ++ r ∷ []) ++ rest)
      × BeginsWithRecords (drop (at + size) octets) rest) [
        | [] ↦ λ e there.
            absurd (omega (arith, long, length-append done (r ∷ []), ap length e, ap length (append-nil done)))
        | s ∷ rest ↦ λ e there.
            (let one = one_record (drop at octets) s r there.0 size there.1 b in (
              rest,
              e ∙ ap (λ x. done ++ x ∷ rest) one.0 ∙ sym (append_assoc done (r ∷ []) rest),
              subst (λ l. BeginsWithRecords l rest) (drop-drop size at octets)
                  (subst (λ n. BeginsWithRecords (drop n (drop at octets)) rest) one.1 there.2),
            ))
      ] r'.1 r'.2;
}

-- where no whole record stands, there are no more records than were walked
pub broken_off : (octets : List ℕ) (at count : ℕ) (done : List AnyRecord)
    → BeginsWithoutRecord (drop at octets) → Passed octets at done → length done < count
    → (records : List AnyRecord) → HasRecords octets count records → ⊥
broken_off octets at count done none passed few records h =
    let r = passed.only records h.there (omega (arith, few, h.count_is)) in
    elim r.0 as (λ l. records ≡ done ++ l → BeginsWithRecords (drop at octets) l → ⊥) [
      | [] ↦ λ e there.
          omega (arith, few, h.count_is, ap length e, ap length (append-nil done))
      | s ∷ rest ↦ λ e there. none s there.0 there.1
    ] r.1 r.2

-- all that were walked
pub has_all : (octets : List ℕ) (at : ℕ) (done : List AnyRecord) → Passed octets at done
    → HasRecords octets (length done) done
has_all octets at done passed = record {
  count_is = refl;
  there = subst (BeginsWithRecords octets) (append-nil done) (passed.joins [] tt);
}

-- as many records as were walked are those
pub only_those : (octets : List ℕ) (at : ℕ) (done : List AnyRecord) → Passed octets at done
    → (records : List AnyRecord) → HasRecords octets (length done) records → records ≡ done
only_those octets at done passed records h =
    one_list_of_records octets records done h.count_is h.there (has_all octets at done passed).there

-- ---- the OPT record

pub opts_append : (front back : List AnyRecord) → opts_of (front ++ back) ≡ opts_of front ++ opts_of back
opts_append front back = filter-append (λ r. r.rtype == 41) front back

opt_is : (r : AnyRecord) → r.rtype ≡ 41 → opts_of (r ∷ []) ≡ r ∷ []
opt_is r e = ap (λ b. if b then r ∷ [] else []) (eq-eqb r.rtype 41 e)

opt_isnt : (r : AnyRecord) → r.rtype ≢ 41 → opts_of (r ∷ []) ≡ []
opt_isnt r ne = ap (λ b. if b then r ∷ [] else []) (ne_eqb r.rtype 41 ne)

-- another record changes nothing of what is known
pub another : (octets : List ℕ) (opts : List AnyRecord) (r : AnyRecord) (found : Walked) → r.rtype ≢ 41
    → HasFound octets opts found → HasFound octets (opts ++ opts_of (r ∷ [])) found
another octets opts r found ne h =
    subst (λ l. HasFound octets l found) (sym (ap (λ l. opts ++ l) (opt_isnt r ne) ∙ append-nil opts)) h

proper_is_one : (opts : List AnyRecord) (r : AnyRecord) (others : List AnyRecord)
    → AreProperOpts (opts ++ r ∷ others) → (opts ≡ []) × IsProperOpt r
proper_is_one [] r [] h = (refl, h)
proper_is_one [] r (s ∷ others) h = absurd h
proper_is_one (o ∷ []) r others h = absurd h
proper_is_one (o ∷ p ∷ opts) r others h = absurd h

-- an OPT record behind some that aren't as they have to be, or behind one
pub second : (octets : List ℕ) (opts : List AnyRecord) (r : AnyRecord) (found : Walked) → r.rtype ≡ 41
    → found ≢ walked.Plain → HasFound octets opts found
    → HasFound octets (opts ++ opts_of (r ∷ [])) walked.Broken
second octets opts r walked.Plain e some h = absurd (some refl)
second octets opts r walked.Broken e some h = λ others proper.
    h (opts_of (r ∷ []) ++ others) (subst AreProperOpts (append_assoc opts (opts_of (r ∷ [])) others) proper)
second octets opts r (walked.At at) e some h = λ others proper.
    let shape : (opts ++ opts_of (r ∷ [])) ++ others ≡ opts ++ (r ∷ others) =
    append_assoc opts (opts_of (r ∷ [])) others ∙ ap (λ l. opts ++ (l ++ others)) (opt_is r e) in
    let one = proper_is_one opts r others (subst AreProperOpts shape proper) in
    let none : length opts ≡ 0 = ap length one.0 in
    omega (arith, none, ap length h.1)

-- the first OPT record, whose owner is the root
pub first_opt : (octets : List ℕ) (opts : List AnyRecord) (r : AnyRecord) (at : ℕ) → r.rtype ≡ 41
    → opts ≡ [] → IsRootAt octets at r → HasFound octets (opts ++ opts_of (r ∷ [])) (walked.At at)
first_opt octets opts r at e none h =
    (r, ap (λ l. l ++ opts_of (r ∷ [])) none ∙ opt_is r e, h)

-- the first OPT record, whose owner isn't
pub first_broken : (octets : List ℕ) (opts : List AnyRecord) (r : AnyRecord) → r.rtype ≡ 41
    → opts ≡ [] → (r.owner ≡ 0 ∷ [] → ⊥) → HasFound octets (opts ++ opts_of (r ∷ [])) walked.Broken
first_broken octets opts r e none other = λ others proper.
    let shape : (opts ++ opts_of (r ∷ [])) ++ others ≡ opts ++ (r ∷ others) =
    append_assoc opts (opts_of (r ∷ [])) others ∙ ap (λ l. opts ++ (l ++ others)) (opt_is r e) in
    other (proper_is_one opts r others (subst AreProperOpts shape proper)).1.owner

-- an owner is the root's zero octet exactly where it begins with that
pub root_owner : (octets : List ℕ) (n : ℕ) → n ≤ length octets → IsOwner (take n octets)
    → get_or octets 0 0 ≡ 0 → take n octets ≡ 0 ∷ []
root_owner octets n within owner e =
    let f = first_of octets n owner in
    elim f.1 [
      | inl z ↦
          (let one : n ≡ 1 = omega (arith, z.1, within) in
          ap (λ k. take k octets) one
          ∙ ap (take 1) (drop_more octets 0 0 f.0) ∙ ap (λ x. x ∷ []) e)
      | inr (inl z) ↦ absurd (omega (arith, z.0, e))
      | inr (inr g) ↦ absurd (omega (arith, g.label.0, e))
    ]

pub other_owner : (octets : List ℕ) (n : ℕ) → get_or octets 0 0 ≢ 0 → take n octets ≡ 0 ∷ [] → ⊥
other_owner [] zero other e = absurd (let z : 0 ≡ 1 = ap length e in omega (arith, z))
other_owner [] (suc n) other e = other refl
other_owner (x ∷ xs) zero other e = absurd (let z : 0 ≡ 1 = ap length e in omega (arith, z))
other_owner (x ∷ xs) (suc n) other e = other (ap (λ l. get_or l 0 0) e)

-- the place of an OPT record
module _ (octets : List ℕ) (place : Place) (h : HasPlace octets place) where
  within : place.owner_len + 10 ≤ length octets
  within = omega (arith, h.sized, h.whole)

  is_root : get_or octets 0 0 ≡ 0 → take place.owner_len octets ≡ 0 ∷ []
  is_root = root_owner octets place.owner_len (omega (arith, within)) h.owner

  pub root_at : (all : List ℕ) (at : ℕ) → at ≤ length all → octets ≡ drop at all → get_or octets 0 0 ≡ 0
      → IsRootAt all at (record_of octets place.owner_len)
  root_at all at inside is first =
      let root = is_root first in
      let one : place.owner_len ≡ 1 =
      sym (length-take-le place.owner_len octets (omega (arith, within))) ∙ ap length root in
      let whole : 11 + number_at octets 9 ≤ length octets =
      omega (arith, h.sized, h.whole, one, ap (λ k. number_at octets (k + 8)) one) in
      record {
        within = inside;
        whole = subst (λ l. 11 + number_at l 9 ≤ length l) is whole;
        root = subst (λ l. take 1 l ≡ 0 ∷ []) is (subst (λ k. take k octets ≡ 0 ∷ []) one root);
        is = ap (record_of octets) one ∙ ap (λ l. record_of l 1) is;
      }

-- what walking all records comes to
pub walked_all : (octets : List ℕ) (at count : ℕ) (done : List AnyRecord) (found : Walked)
    → length done ≡ count → Passed octets at done → HasFound octets (opts_of done) found
    → WalksTo octets count found
walked_all octets at count done walked.Broken size passed h = λ records has proper.
    let same : records ≡ done = only_those octets at done passed records
    (subst (λ n. HasRecords octets n records) (sym size) has) in
    h [] (subst (λ l. AreProperOpts l) (ap opts_of same ∙ sym (append-nil (opts_of done))) proper)
walked_all octets at count done walked.Plain size passed h =
    (done, subst (λ n. HasRecords octets n done) size (has_all octets at done passed), h)
walked_all octets at count done (walked.At opt) size passed h =
    (done, subst (λ n. HasRecords octets n done) size (has_all octets at done passed), h)
