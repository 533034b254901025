-- How often a value stands in a list.
use Rattle.std.proofs.Common.{◌≡◌, ℕ, suc, ◌+◌, ◌<◌, List, [], ◌∷◌, length, drop, get_or, arith, ap, ◌∙◌, sym, refl, Bool, true, false, Some, add-one}
use Rattle.std.specs.Prelude.{◌==◌, if◌then◌else◌, cond, slice_get}
use Rattle.std.specs.Bool.{Decides}
use Rattle.std.specs.Str.{bytes_eq}
use Rattle.std.proofs.lemmas.Bool.Decides.{Decides-eqb, Decides-and}
use Rattle.std.proofs.lemmas.Slice.Eq.{bytes_eq-Decides}
use Rattle.std.proofs.Math.Seq.{drop-cons}
use Rattle.rdata.specs.Datum.{Datum}
use Rattle.rdata.specs.Types.{number_of}
use Rattle.rdata.specs.RTypeRecord.{RType}
use Rattle.rdata.specs.RTypeRecord.TheVariants.{A, Ns, Cname, Soa, Ptr, Mx, Txt, Aaaa, Srv, Spf, Caa}
use Rattle.record_set.specs.declared.sets.RecordSet.{RecordSet}
use Rattle.record_set.specs.declared.sets.Body.{Body}
use Rattle.record_set.specs.declared.sets.Body.TheVariants.{Values, Alias}
use Rattle.record_set.specs.Sameness.{is_datum, once, times, SameValues, SameBody, Same}

-- the type of a number
abbrev type_of : ℕ → RType
type_of n =
    if n == 1 then A
    else (if n == 2 then Ns
    else (if n == 5 then Cname else (if n == 6 then Soa else (if n == 12 then Ptr
    else (if n == 15 then Mx
    else (if n == 16 then Txt else (if n == 28 then Aaaa else (if n == 33 then Srv
    else (if n == 99 then Spf else Caa)))))))))

type_back : (rtype : RType) → type_of (number_of rtype) ≡ rtype
type_back A = refl
type_back Ns = refl
type_back Cname = refl
type_back Soa = refl
type_back Ptr = refl
type_back Mx = refl
type_back Txt = refl
type_back Aaaa = refl
type_back Srv = refl
type_back Spf = refl
type_back Caa = refl

-- the test holds exactly of one value
pub is_datum-Decides : (datum other : Datum) → Decides (is_datum datum other) (datum ≡ other)
is_datum-Decides datum other =
    let both =
    Decides-and (number_of datum.rtype == number_of other.rtype)
    (bytes_eq datum.wire other.wire)
    (Decides-eqb (number_of datum.rtype) (number_of other.rtype))
    (bytes_eq-Decides datum.wire other.wire) in (
      (λ e. let b = both.0 e in
          let rtype : datum.rtype ≡ other.rtype = sym (type_back datum.rtype) ∙ ap type_of b.0
          ∙ type_back other.rtype in
          let parts : (datum.rtype, datum.wire) ≡ (other.rtype, other.wire) = let wire = b.1 in
          cc in
          ap (λ (p : RType × List ℕ). record { rtype = p.0; wire = p.1 }) parts),
      λ e. both.1 (ap (λ d. number_of d.rtype) e, ap (λ d. d.wire) e),
    )

-- one more value of a list
pub times_step : (datum item : Datum) (values : List Datum) (i : ℕ) → i < length values
    → item ≡ get_or values i item
    → times datum (drop i values) ≡ once datum item + times datum (drop (i + 1) values)
times_step datum item values i h e =
    ap (times datum) (drop-cons values i item h)
    ∙ ap (λ k. once datum (get_or values i item) + times datum (drop k values))
    (sym (add-one i))
    ∙ ap (λ v. once datum v + times datum (drop (i + 1) values)) (sym e)

-- a value stands somewhere in a list, or not at all
pub data Standing (datum : Datum) (values : List Datum) : Type 0 where
  Somewhere : (i : ℕ) → slice_get values i ≡ Some datum → Standing datum values
  Nowhere : times datum values ≡ 0 → Standing datum values

pub standing : (datum : Datum) (values : List Datum) → Standing datum values
standing datum [] = Nowhere refl
standing datum (value ∷ values) = at_first (is_datum datum value) refl (standing datum values)
  where
    at_first : (t : Bool) → is_datum datum value ≡ t → Standing datum values
        → Standing datum (value ∷ values)
    at_first true e s = Somewhere 0 (ap Some (sym ((is_datum-Decides datum value).0 e)))
    at_first false e (Somewhere i h) = Somewhere (suc i) h
    at_first false e (Nowhere h) =
        Nowhere (ap (λ t. cond t 1 0 + times datum values) e ∙ omega (arith, h))

-- where each value of either list stands as often in the other, each value at all does
pub all_as_often : (values others : List Datum)
    → ((i : ℕ) (datum : Datum) → slice_get values i ≡ Some datum
    → times datum values ≡ times datum others)
    → ((i : ℕ) (datum : Datum) → slice_get others i ≡ Some datum
    → times datum others ≡ times datum values)
    → SameValues values others
all_as_often values others first second datum = by (standing datum values) (standing datum others)
  where
    by : Standing datum values → Standing datum others → times datum values ≡ times datum others
    by (Somewhere i h) other = first i datum h
    by (Nowhere z) (Somewhere i h) = sym (second i datum h)
    by (Nowhere z) (Nowhere w) = z ∙ sym w

-- the other way round
same_bodies : (body other : Body) → SameBody body other → SameBody other body
same_bodies (Values ttl values) (Values other_ttl others) h = (sym h.0, λ datum. sym (h.1 datum))
same_bodies (Alias target evaluate) (Alias other_target other_evaluate) h = (sym h.0, sym h.1)
same_bodies (Values ttl values) (Alias target evaluate) h = absurd h
same_bodies (Alias target evaluate) (Values ttl values) h = absurd h

pub both_ways : (set other : RecordSet) → Same set other → Same other set
both_ways set other h =
    record {
      name = sym h.name;
      rtype = sym h.rtype;
      routing = sym h.routing;
      body =
          same_bodies set.body other.body h.body;
      check = sym h.check;
    }
