-- Records of several sets.
use Rattle.std.proofs.Common.{◌≡◌, ◌<◌, ◌≤◌, ◌+◌, ℕ, zero, suc, Bool, true, false, List, [], ◌∷◌, ◌++◌}
use Rattle.std.proofs.Common.{Option, Some, None, length, take, drop, refl, sym, ap, ◌∙◌, subst}
use Rattle.std.proofs.Common.{append_assoc, arith, inl, inr}
use Rattle.std.specs.Prelude.{cond, map, min, not, ◌||◌, slice_get}
use Rattle.std.specs.List.{cons_option, filter, flat_map, list_any}
use Rattle.std.specs.Str.{bytes_eq}
use Rattle.std.proofs.lemmas.Grind.{flat_map-append}
use Rattle.std.proofs.lemmas.List.{append-nil, map-append}
use Rattle.std.proofs.lemmas.List.Elements.{filter-append, filter_map-append}
use Rattle.dns_wire.specs.Message.{Record}
use Rattle.rdata_layout.specs.declared.types.RType.{RType}
use Rattle.record_set.specs.declared.sets.RecordSet.{RecordSet}
use Rattle.policy_select.proofs.MembersOfZoneList.{left_at, nothing_left}
use Rattle.zone_model.proofs.Lists.{in_itself, split, take_more}
use Rattle.policy_select.specs.Descent.{sets_at}
use Rattle.policy_select.specs.Records.{answer_records, data_of, is_among, is_simple, joint_data}
use Rattle.policy_select.specs.Records.{least_ttl, records, set_records, ttl_of}
use Rattle.zone_model.specs.Zones.{IsAmong}
use Rattle.reply_records.specs.Chosen.{IsValued, StartsWith, all_data, new_data}
use Rattle.reply_records.specs.Delegating.{simple_part}

-- ---- the sets at places, one more or one less

pub sets_left : (all : List RecordSet) (places : List ℕ) (i place : ℕ) (set : RecordSet)
    → slice_get places i ≡ Some place → slice_get all place ≡ Some set
    → sets_at all (drop i places) ≡ set ∷ sets_at all (drop (i + 1) places)
sets_left all places i place set at there =
    ap (sets_at all) (left_at places i place at)
    ∙ ap (λ (o : Option RecordSet). cons_option o (sets_at all (drop (i + 1) places))) there

pub sets_more : (all : List RecordSet) (places : List ℕ) (i place : ℕ) (set : RecordSet)
    → slice_get places i ≡ Some place → slice_get all place ≡ Some set
    → sets_at all (take (i + 1) places) ≡ sets_at all (take i places) ++ set ∷ []
sets_more all places i place set at there =
    ap (sets_at all) (take_more places i place at)
    ∙ (filter_map-append (slice_get all) (take i places) (place ∷ [])
    ∙ ap (λ (o : Option RecordSet). sets_at all (take i places) ++ cons_option o []) there)

-- all their data
pub data_more : (all : List RecordSet) (places : List ℕ) (i place : ℕ) (set : RecordSet)
    → slice_get places i ≡ Some place → slice_get all place ≡ Some set
    → all_data (sets_at all (take (i + 1) places))
    ≡ all_data (sets_at all (take i places)) ++ data_of set.body
data_more all places i place set at there =
    ap all_data (sets_more all places i place set at there)
    ∙ (flat_map-append (λ (s : RecordSet). data_of s.body) (sets_at all (take i places)) (set ∷ [])
    ∙ ap (λ (ds : List (List ℕ)). all_data (sets_at all (take i places)) ++ ds)
    (append-nil (data_of set.body)))

-- ---- the least TTL

abbrev pub least_of : (least : ℕ) → List RecordSet → ℕ
least_of least [] = least
least_of least (set ∷ sets) = least_of (min least (ttl_of set.body)) sets

-- ---- data that are new

-- the data of one set more
pub joint_more : (before : List (List ℕ)) (sets : List RecordSet) (set : RecordSet)
    → joint_data before (sets ++ set ∷ [])
    ≡ joint_data before sets
    ++ filter (λ rdata. not (is_among (before ++ all_data sets) rdata)) (data_of set.body)
joint_more before [] set =
    append-nil (filter (λ rdata. not (is_among before rdata)) (data_of set.body))
    ∙ ap (λ (ds : List (List ℕ)). filter (λ rdata. not (is_among ds rdata)) (data_of set.body))
    (sym (append-nil before))
joint_more before (first ∷ sets) set =
    let here = filter (λ rdata. not (is_among before rdata)) (data_of first.body) in
    ap (λ (ds : List (List ℕ)). here ++ ds)
    (joint_more (before ++ data_of first.body) sets set
    ∙ ap (λ (ds : List (List ℕ)). joint_data (before ++ data_of first.body) sets
    ++ filter (λ rdata. not (is_among ds rdata)) (data_of set.body))
    (append_assoc before (data_of first.body) (all_data sets)))
    ∙ sym (append_assoc here (joint_data (before ++ data_of first.body) sets)
    (filter (λ rdata. not (is_among (before ++ all_data (first ∷ sets)) rdata))
    (data_of set.body)))

-- of one set all are
pub all_new : (rdatas : List (List ℕ)) → filter (λ rdata. not (is_among [] rdata)) rdatas ≡ rdatas
all_new [] = refl
all_new (rdata ∷ rdatas) = ap (λ (ds : List (List ℕ)). rdata ∷ ds) (all_new rdatas)

-- beside no earlier set all are
pub new_of_none : (all : List RecordSet) (earlier : List ℕ) (rdatas : List (List ℕ))
    → length earlier ≡ 0 → new_data (sets_at all earlier) rdatas ≡ rdatas
new_of_none all [] rdatas e = all_new rdatas
new_of_none all (place ∷ earlier) rdatas e = absurd (omega (arith, e))

-- the data of the first sets stand first
joint_front : (before : List (List ℕ)) (sets others : List RecordSet) → (rest : List (List ℕ))
    × (joint_data before (sets ++ others) ≡ joint_data before sets ++ rest)
joint_front before [] others = (joint_data before others, refl)
joint_front before (set ∷ sets) others =
    let here = filter (λ rdata. not (is_among before rdata)) (data_of set.body) in
    let more = joint_front (before ++ data_of set.body) sets others in (
      more.0,
      ap (λ (ds : List (List ℕ)). here ++ ds) more.1
          ∙ sym (append_assoc here (joint_data (before ++ data_of set.body) sets) more.0),
    )

pub joint_behind : (all : List RecordSet) (places : List ℕ) (n : ℕ) → (rest : List (List ℕ))
    × (joint_data [] (sets_at all places) ≡ joint_data [] (sets_at all (take n places)) ++ rest)
joint_behind all places n =
    let front = joint_front [] (sets_at all (take n places)) (sets_at all (drop n places)) in (
      front.0,
      ap (joint_data []) (ap (sets_at all) (split n places)
          ∙ filter_map-append (slice_get all) (take n places) (drop n places)) ∙ front.1,
    )

-- ---- sets whose routing is simple

pub simple_parts : (sets : List RecordSet)
    → flat_map simple_part sets
    ≡ flat_map set_records (filter (λ (set : RecordSet). is_simple set.routing) sets)
simple_parts [] = refl
simple_parts (set ∷ sets) = by (is_simple set.routing) (simple_parts sets)
  where
    by : (b : Bool)
        → flat_map simple_part sets
        ≡ flat_map set_records (filter (λ (s : RecordSet). is_simple s.routing) sets)
        → cond b (set_records set) [] ++ flat_map simple_part sets
        ≡ flat_map set_records
        (cond b (set ∷ filter (λ (s : RecordSet). is_simple s.routing) sets)
        (filter (λ (s : RecordSet). is_simple s.routing) sets))
    by true rest = ap (λ (rs : List Record). set_records set ++ rs) rest
    by false rest = rest

-- lists of what is mapped
pub flat_of_map : {X Y Z : Type 0} (f : Y → List Z) (g : X → Y) (xs : List X)
    → flat_map (λ (x : X). f (g x)) xs ≡ flat_map f (map g xs)
flat_of_map f g [] = refl
flat_of_map {X} {Y} {Z} f g (x ∷ xs) = ap (λ (zs : List Z). f (g x) ++ zs) (flat_of_map f g xs)

-- ---- the first record

pub among_at : {X : Type 0} (xs : List X) (i : ℕ) (x : X) → slice_get xs i ≡ Some x → IsAmong xs x
among_at [] i x e = absurd (grind (arith, e))
among_at (y ∷ ys) zero x e = inl (grind (arith, e))
among_at (y ∷ ys) (suc i) x e = inr (among_at ys i x e)

pub first_of : {X : Type 0} (xs : List X) → 0 < length xs
    → (x : X) × (more : List X) × (xs ≡ x ∷ more)
first_of [] some = absurd (omega (arith, some))
first_of (x ∷ xs) some = (x, xs, refl)

pub starts_with : (first : RecordSet) (others : List RecordSet) (held : Option RecordSet)
    (set : RecordSet) (ttl : ℕ) (rdata : List ℕ) (more : List (List ℕ))
    → held ≡ Some set → slice_get (data_of set.body) 0 ≡ Some rdata
    → IsAmong (first ∷ others) set → first.rtype ≡ set.rtype
    → ttl ≡ least_ttl first others → joint_data [] (first ∷ others) ≡ rdata ∷ more
    → StartsWith (first ∷ others) held ttl
starts_with first others held set ttl rdata more is_held there among typed least joint = record {
  set = set;
  is_held = is_held;
  rdata = rdata;
  first = there;
  among = among;
  starts = λ owner. (
    records owner set.rtype ttl more,
    ap (records owner first.rtype (least_ttl first others)) joint
        ∙ (ap (λ (t : RType). records owner t (least_ttl first others) (rdata ∷ more)) typed
        ∙ ap (λ (n : ℕ). records owner set.rtype n (rdata ∷ more)) (sym least)),
  );
}

joint_of_one : (set : RecordSet) → joint_data [] (set ∷ []) ≡ data_of set.body
joint_of_one set = append-nil (filter (λ rdata. not (is_among [] rdata)) (data_of set.body))
    ∙ all_new (data_of set.body)

pub starts_one : (held : Option RecordSet) (set : RecordSet) (ttl : ℕ) → held ≡ Some set
    → 0 < length (data_of set.body) → ttl ≡ ttl_of set.body → StartsWith (set ∷ []) held ttl
starts_one held set ttl is_held some least =
    let first = first_of (data_of set.body) some in
    starts_with set [] held set ttl first.0 first.1 is_held
    (ap (λ (ds : List (List ℕ)). slice_get ds 0) first.2) (inl refl) refl least
    (joint_of_one set ∙ first.2)

-- one set answers with its records
pub one_answers : (owner : List (List ℕ)) (set : RecordSet)
    → answer_records owner (set ∷ []) ≡ records owner set.rtype (ttl_of set.body) (data_of set.body)
one_answers owner set = ap (records owner set.rtype (ttl_of set.body)) (joint_of_one set)

-- ---- the least TTL

least_of_min : (m n : ℕ) (sets : List RecordSet) → least_of (min m n) sets ≡ min m (least_of n sets)
least_of_min m n [] = refl
least_of_min m n (set ∷ sets) =
    let swap : min (min m n) (ttl_of set.body) ≡ min m (min n (ttl_of set.body)) = omega arith in
    ap (λ (k : ℕ). least_of k sets) swap ∙ least_of_min m (min n (ttl_of set.body)) sets

least_from : (set : RecordSet) (others : List RecordSet)
    → least_of (ttl_of set.body) others ≡ least_ttl set others
least_from set [] = refl
least_from set (next ∷ others) =
    least_of_min (ttl_of set.body) (ttl_of next.body) others
    ∙ ap (min (ttl_of set.body)) (least_from next others)

pub least_is : (all : List RecordSet) (places : List ℕ) (p : ℕ) (x set : RecordSet)
    (others : List RecordSet) (start least idx : ℕ)
    → slice_get places 0 ≡ Some p → slice_get all p ≡ Some x → start ≡ ttl_of x.body
    → least_of least (sets_at all (drop idx places)) ≡ least_of start (sets_at all places)
    → length places ≤ idx → sets_at all places ≡ set ∷ others → least ≡ least_ttl set others
least_is all places p x set others start least idx at there begun so_far behind are =
    let left : sets_at all places ≡ x ∷ sets_at all (drop 1 places) =
    sets_left all places 0 p x at there in
    let one : x ≡ set = first_same x set (sets_at all (drop 1 places)) others (sym left ∙ are) in
    let ttl : min start (ttl_of set.body) ≡ ttl_of set.body =
    (let e = ap (λ (s : RecordSet). ttl_of s.body) one in omega (arith, begun, e)) in
    ap (λ (ps : List ℕ). least_of least (sets_at all ps)) (sym (nothing_left places idx behind))
    ∙ (so_far ∙ (ap (least_of start) are
    ∙ (ap (λ (k : ℕ). least_of k others) ttl ∙ least_from set others)))
  where
    first_same : (a b : RecordSet) (xs ys : List RecordSet) → a ∷ xs ≡ b ∷ ys → a ≡ b
    first_same a b xs ys e = cc

-- ---- the first set that has a value

pub valued_at : (all : List RecordSet) (places : List ℕ) (idx p : ℕ) (set : RecordSet)
    (held : Option RecordSet) → slice_get places idx ≡ Some p → slice_get all p ≡ Some set
    → held ≡ Some set → 0 < length (data_of set.body)
    → joint_data [] (sets_at all (drop idx places)) ≡ joint_data [] (sets_at all places)
    → IsValued (sets_at all places) held
valued_at all places idx p set held at there is_held some so_far =
    let first = first_of (data_of set.body) some in
    let left = sets_left all places idx p set at there in
    let rest = joint_data ([] ++ data_of set.body) (sets_at all (drop (idx + 1) places)) in record {
      set = set;
      is_held = is_held;
      rdata = first.0;
      first = ap (λ (ds : List (List ℕ)). slice_get ds 0) first.2;
      among = subst (λ (sets : List RecordSet). IsAmong sets set)
          (sym (ap (sets_at all) (split idx places)
          ∙ (filter_map-append (slice_get all) (take idx places) (drop idx places)
          ∙ ap (λ (sets : List RecordSet). sets_at all (take idx places) ++ sets) left)))
          (in_itself (sets_at all (take idx places)) (sets_at all (drop (idx + 1) places)) set);
      starts = (
        first.1 ++ rest,
        sym so_far ∙ (ap (joint_data []) left
            ∙ ap (λ (ds : List (List ℕ)). ds ++ rest) (all_new (data_of set.body) ∙ first.2)),
      );
    }

pub without_data : (all : List RecordSet) (places : List ℕ) (idx p : ℕ) (set : RecordSet)
    → slice_get places idx ≡ Some p → slice_get all p ≡ Some set
    → length (data_of set.body) ≤ 0
    → joint_data [] (sets_at all (drop idx places)) ≡ joint_data [] (sets_at all places)
    → joint_data [] (sets_at all (drop (idx + 1) places)) ≡ joint_data [] (sets_at all places)
without_data all places idx p set at there none so_far =
    let left = sets_left all places idx p set at there in
    ap (λ (ds : List (List ℕ)). filter (λ rdata. not (is_among [] rdata)) ds
    ++ joint_data ([] ++ ds) (sets_at all (drop (idx + 1) places)))
    (sym (empty (data_of set.body) none))
    ∙ (ap (joint_data []) (sym left) ∙ so_far)
  where
    empty : (xs : List (List ℕ)) → length xs ≤ 0 → xs ≡ []
    empty [] e = refl
    empty (x ∷ xs) e = absurd (omega (arith, e))

pub sets_among : (all : List RecordSet) (places : List ℕ) (set : RecordSet)
    → IsAmong (sets_at all places) set → IsAmong all set
sets_among all [] set there = absurd there
sets_among all (p ∷ places) set there = by (slice_get all p) refl (sets_among all places set) there
  where
    by : (o : Option RecordSet) → slice_get all p ≡ o
        → (IsAmong (sets_at all places) set → IsAmong all set)
        → IsAmong (cons_option o (sets_at all places)) set → IsAmong all set
    by None e rest more = rest more
    by (Some x) e rest (inl same) =
        subst (λ (s : RecordSet). IsAmong all s) same (among_at all p x e)
    by (Some x) e rest (inr more) = rest more

pub several_start : (sets : List RecordSet) (held : Option RecordSet) (ttl : ℕ)
    → ((a b : RecordSet) → IsAmong sets a → IsAmong sets b → a.rtype ≡ b.rtype)
    → ((set : RecordSet) (others : List RecordSet) → sets ≡ set ∷ others
    → ttl ≡ least_ttl set others)
    → IsValued sets held → StartsWith sets held ttl
several_start [] held ttl one_type least is = absurd is.among
several_start (first ∷ others) held ttl one_type least is =
    starts_with first others held is.set ttl is.rdata is.starts.0 is.is_held is.first is.among
    (one_type first is.set (inl refl) is.among) (least first others refl) is.starts.1

-- ---- one place

shorter : (all : List RecordSet) (places : List ℕ)
    → length (sets_at all places) ≤ length places
shorter all [] = omega arith
shorter all (p ∷ places) = by (slice_get all p) (shorter all places)
  where
    by : (o : Option RecordSet) → length (sets_at all places) ≤ length places
        → length (cons_option o (sets_at all places)) ≤ length (p ∷ places)
    by None rest = omega (arith, rest)
    by (Some x) rest = omega (arith, rest)

pub only_one : (all : List RecordSet) (places : List ℕ) (set : RecordSet)
    → length places ≡ 1 → slice_get (sets_at all places) 0 ≡ Some set
    → sets_at all places ≡ set ∷ []
only_one all places set one first =
    by (sets_at all places) first (let short = shorter all places in omega (arith, short, one))
  where
    by : (sets : List RecordSet) → slice_get sets 0 ≡ Some set → length sets ≤ 1
        → sets ≡ set ∷ []
    by [] e short = absurd (grind (arith, e))
    by (x ∷ []) e short = ap (λ (s : RecordSet). s ∷ []) (grind (arith, e))
    by (x ∷ y ∷ more) e short = absurd (omega (arith, short))

-- ---- a test of some element

pub any_at : {X : Type 0} (p : X → Bool) (xs : List X) (i : ℕ) (x : X) → slice_get xs i ≡ Some x
    → list_any p (drop i xs) ≡ (p x || list_any p (drop (i + 1) xs))
any_at p xs i x at = ap (list_any p) (left_at xs i x at)

pub any_so : {X : Type 0} (p : X → Bool) (xs : List X) (i : ℕ) (x : X) → slice_get xs i ≡ Some x
    → p x ≡ true → list_any p (drop i xs) ≡ true
any_so p xs i x at so =
    any_at p xs i x at ∙ ap (λ (b : Bool). b || list_any p (drop (i + 1) xs)) so

pub any_not : {X : Type 0} (p : X → Bool) (xs : List X) (i : ℕ) (x : X) → slice_get xs i ≡ Some x
    → p x ≡ false → list_any p (drop i xs) ≡ list_any p (drop (i + 1) xs)
any_not p xs i x at so =
    any_at p xs i x at ∙ ap (λ (b : Bool). b || list_any p (drop (i + 1) xs)) so

either : {X : Type 0} (p : X → Bool) (xs ys : List X)
    → list_any p (xs ++ ys) ≡ (list_any p xs || list_any p ys)
either p [] ys = refl
either p (x ∷ xs) ys = by (p x) (either p xs ys)
  where
    by : (b : Bool) → list_any p (xs ++ ys) ≡ (list_any p xs || list_any p ys)
        → (b || list_any p (xs ++ ys)) ≡ ((b || list_any p xs) || list_any p ys)
    by true rest = refl
    by false rest = rest

-- whether one of the sets from a place on has a value
pub sets_have : (all : List RecordSet) (places : List ℕ) (i p : ℕ) (set : RecordSet)
    (rdata : List ℕ) → slice_get places i ≡ Some p → slice_get all p ≡ Some set
    → is_among (all_data (sets_at all (drop i places))) rdata
    ≡ (is_among (data_of set.body) rdata
    || is_among (all_data (sets_at all (drop (i + 1) places))) rdata)
sets_have all places i p set rdata at there =
    ap (λ (sets : List RecordSet). is_among (all_data sets) rdata)
    (sets_left all places i p set at there)
    ∙ either (bytes_eq rdata) (data_of set.body) (all_data (sets_at all (drop (i + 1) places)))

pub have_so : (all : List RecordSet) (places : List ℕ) (i p : ℕ) (set : RecordSet)
    (rdata : List ℕ) → slice_get places i ≡ Some p → slice_get all p ≡ Some set
    → is_among (data_of set.body) rdata ≡ true
    → is_among (all_data (sets_at all (drop i places))) rdata ≡ true
have_so all places i p set rdata at there so =
    sets_have all places i p set rdata at there
    ∙ ap (λ (b : Bool). b || is_among (all_data (sets_at all (drop (i + 1) places))) rdata) so

pub have_not : (all : List RecordSet) (places : List ℕ) (i p : ℕ) (set : RecordSet)
    (rdata : List ℕ) → slice_get places i ≡ Some p → slice_get all p ≡ Some set
    → is_among (data_of set.body) rdata ≡ false
    → is_among (all_data (sets_at all (drop i places))) rdata
    ≡ is_among (all_data (sets_at all (drop (i + 1) places))) rdata
have_not all places i p set rdata at there so =
    sets_have all places i p set rdata at there
    ∙ ap (λ (b : Bool). b || is_among (all_data (sets_at all (drop (i + 1) places))) rdata) so

pub is_old : (earlier : List RecordSet) (rdata : List ℕ)
    → is_among (all_data earlier) rdata ≡ true → new_data earlier (rdata ∷ []) ≡ []
is_old earlier rdata so = ap (λ b. cond (not b) (rdata ∷ []) []) so

pub is_new : (earlier : List RecordSet) (rdata : List ℕ)
    → is_among (all_data earlier) rdata ≡ false → new_data earlier (rdata ∷ []) ≡ rdata ∷ []
is_new earlier rdata so = ap (λ b. cond (not b) (rdata ∷ []) []) so

-- ---- data that are new, one more

pub new_more : (earlier : List RecordSet) (rdatas : List (List ℕ)) (i : ℕ) (x : List ℕ)
    (owner : List (List ℕ)) (rtype : RType) (ttl : ℕ) → slice_get rdatas i ≡ Some x
    → records owner rtype ttl (new_data earlier (take i rdatas))
    ++ records owner rtype ttl (new_data earlier (x ∷ []))
    ≡ records owner rtype ttl (new_data earlier (take (i + 1) rdatas))
new_more earlier rdatas i x owner rtype ttl at =
    sym (map-append (λ (rdata : List ℕ). record {
      owner = owner;
      rtype = rtype;
      ttl = ttl;
      rdata = rdata;
    }) (new_data earlier (take i rdatas)) (new_data earlier (x ∷ [])))
    ∙ (ap (records owner rtype ttl)
    (sym (filter-append (λ rdata. not (is_among (all_data earlier) rdata)) (take i rdatas) (x ∷ [])))
    ∙ ap (λ (ds : List (List ℕ)). records owner rtype ttl (new_data earlier ds))
    (sym (take_more rdatas i x at)))

pub joint_step : (all : List RecordSet) (places : List ℕ) (i p : ℕ) (set : RecordSet)
    (owner : List (List ℕ)) (rtype : RType) (ttl : ℕ) → slice_get places i ≡ Some p
    → slice_get all p ≡ Some set
    → records owner rtype ttl (joint_data [] (sets_at all (take i places)))
    ++ records owner rtype ttl (new_data (sets_at all (take i places)) (data_of set.body))
    ≡ records owner rtype ttl (joint_data [] (sets_at all (take (i + 1) places)))
joint_step all places i p set owner rtype ttl at there =
    sym (map-append (λ (rdata : List ℕ). record {
      owner = owner;
      rtype = rtype;
      ttl = ttl;
      rdata = rdata;
    }) (joint_data [] (sets_at all (take i places)))
    (new_data (sets_at all (take i places)) (data_of set.body)))
    ∙ (ap (records owner rtype ttl) (sym (joint_more [] (sets_at all (take i places)) set))
    ∙ ap (λ (sets : List RecordSet). records owner rtype ttl (joint_data [] sets))
    (sym (sets_more all places i p set at there)))
