-- What was read, taken apart into the steps that read it.
use Rattle.std.proofs.Common.{◌≡◌, ℕ, suc, ◌≤◌, List, [], ◌∷◌, length, Bool, true, false, cond, ◌&&◌, Option, None, Some, Result, Ok, Err, ap, refl, subst}
use Rattle.std.specs.Prelude.{IfSome, ⊤, nat_le, option_and_then}
use Rattle.std.specs.List.{AllByRecursion}
use Rattle.std.proofs.lemmas.Bool.{leb-true}
use Rattle.serde_json.specs.Data.{Data, Items, item, no_items}
use Rattle.serde_json.specs.Events.{items_len}
use Rattle.serde_json.specs.Find.{as_array, as_number, as_u64, get}
use Rattle.line_faults.specs.Texts.{text_of}
use Rattle.line_faults.specs.declared.fault.LineFault.{LineFault}
use Rattle.line_faults.specs.declared.fault.LineReason.{LineReason}
use Rattle.line_faults.specs.declared.fault.LineReason.TheVariants.{OutOfRange, WrongKind}
use Rattle.line_faults.specs.declared.member.Member.{Member}
use Rattle.line_reading.specs.Kinds.{list, number, text, one_of_texts}
use Rattle.line_reading.specs.Reading.{◌>>=◌, bad, each, found, if_found, in_change, object, optional, or_bad, required}

-- ---- one step and the next

pub record Steps {A B : Type 0} (first : Result A LineFault) (next : A → Result B LineFault)
    (out : B) : Type 0 where
  pub value : A
  pub is : first ≡ Ok value
  pub gives : next value ≡ Ok out

pub steps : {A B : Type 0} (first : Result A LineFault) (next : A → Result B LineFault) (out : B)
    → (first >>= next) ≡ Ok out → Steps first next out
steps (Ok x) next out e = record { value = x; is = refl; gives = e }
steps (Err fault) next out e = absurd cc

-- behind the members that an object may have
pub after_object : {B : Type 0} (holder : Member) (unsupported members : List Member) (o : Data)
    (next : ⊤ → Result B LineFault) (out : B)
    → (object holder unsupported members o >>= next) ≡ Ok out → next tt ≡ Ok out
after_object holder unsupported members o next out e =
    (steps (object holder unsupported members o) next out e).gives

pub same_ok : {A : Type 0} (x y : A) → ◌≡◌ {A = Result A LineFault} (Ok x) (Ok y) → x ≡ y
same_ok x y e = cc

pub is_there : {A : Type 0} (o : Option A) (reason : LineReason) (m : Member) (x : A)
    → or_bad o reason m ≡ Ok x → o ≡ Some x
is_there (Some y) reason m x e = let same : y ≡ x = cc in ap Some same
is_there None reason m x e = absurd cc

pub in_its_change : {A : Type 0} (k : ℕ) (read : Result A LineFault) (x : A)
    → in_change k read ≡ Ok x → read ≡ Ok x
in_its_change k (Ok y) x e = e
in_its_change k (Err fault) x e = absurd cc

-- ---- members

-- what each value of a reader has, the value of a member has that it reads
pub required_has : {A : Type 0} (P : A → Type 0) (m : Member)
    (read : Member → Data → Result A LineFault) (o : Data) (x : A)
    → ((d : Data) (y : A) → read m d ≡ Ok y → P y) → required m read o ≡ Ok x → P x
required_has P m read o x has e = go (get (text_of m) o) e
  where
    go : (o : Option Data) → found m read o ≡ Ok x → P x
    go None h = absurd cc
    go (Some d) h = has d x h

pub optional_has : {A : Type 0} (P : A → Type 0) (m : Member)
    (read : Member → Data → Result A LineFault) (o : Data) (x : Option A)
    → ((d : Data) (y : A) → read m d ≡ Ok y → P y) → optional m read o ≡ Ok x → IfSome x P
optional_has P m read o x has e = go (get (text_of m) o) e
  where
    go : (o : Option Data) → if_found m read o ≡ Ok x → IfSome x P
    go None h = let same : None ≡ x = cc in subst (λ y. IfSome y P) same tt
    go (Some d) h =
        let s = steps (read m d) (λ y. Ok (Some y)) x h in
        let same : Some s.value ≡ x = (let g = s.gives in cc) in
        subst (λ y. IfSome y P) same (has d s.value s.is)

-- ---- lists

pub each_has : {A : Type 0} (P : A → Type 0) (read : ℕ → Data → Result A LineFault)
    → ((k : ℕ) (d : Data) (y : A) → read k d ≡ Ok y → P y) → (k : ℕ) (items : Items) (xs : List A)
    → each read k items ≡ Ok xs → AllByRecursion P xs × (length xs ≡ items_len items)
each_has P read has k no_items xs e =
    let none : [] ≡ xs = cc in
    subst (λ l. AllByRecursion P l × (length l ≡ 0)) none (tt, refl)
each_has P read has k (item d ds) xs e =
    let s = steps (read k d) (λ x. each read (suc k) ds >>= λ xs. Ok (x ∷ xs)) xs e in
    let t = steps (each read (suc k) ds) (λ ys. Ok (s.value ∷ ys)) xs s.gives in
    let same : s.value ∷ t.value ≡ xs = (let g = t.gives in cc) in
    let rest = each_has P read has (suc k) ds t.value t.is in
    subst (λ l. AllByRecursion P l × (length l ≡ suc (items_len ds))) same
    ((has k d s.value s.is, rest.0), ap suc rest.1)

between : (low high n : ℕ) → (nat_le low n && nat_le n high) ≡ true → (low ≤ n) × (n ≤ high)
between low high n e = go (nat_le low n) (nat_le n high) refl refl e
  where
    go : (a b : Bool) → nat_le low n ≡ a → nat_le n high ≡ b → (a && b) ≡ true
        → (low ≤ n) × (n ≤ high)
    go true true a b h = (leb-true low n a, leb-true n high b)
    go true false a b h = absurd cc
    go false true a b h = absurd cc
    go false false a b h = absurd cc

pub list_between : (low high : ℕ) (m : Member) (d : Data) (items : Items)
    → list low high m d ≡ Ok items → (low ≤ items_len items) × (items_len items ≤ high)
unfolding list
list_between low high m d items e =
    let s = steps (or_bad (as_array d) WrongKind m) _ items e in
    go s.value (nat_le low (items_len s.value) && nat_le (items_len s.value) high) refl s.gives
  where
    go : (there : Items) (t : Bool)
        → (nat_le low (items_len there) && nat_le (items_len there) high) ≡ t
        → cond t (Ok there) (bad OutOfRange m) ≡ Ok items
        → (low ≤ items_len items) × (items_len items ≤ high)
    go there true b h =
        subst (λ l. (low ≤ items_len l) × (items_len l ≤ high)) (same_ok there items h)
        (between low high (items_len there) b)
    go there false b h = absurd cc

pub list_within : (low high : ℕ) (m : Member) (d : Data) (items : Items)
    → list low high m d ≡ Ok items → items_len items ≤ high
list_within low high m d items e = (list_between low high m d items e).1

-- ---- numbers and words

pub number_within : (low high : ℕ) (m : Member) (d : Data) (n : ℕ) → number low high m d ≡ Ok n
    → (low ≤ n) × (n ≤ high)
unfolding number
number_within low high m d n e =
    let s = steps (or_bad (option_and_then as_u64 (as_number d)) WrongKind m) _ n e in
    go s.value (nat_le low s.value && nat_le s.value high) refl s.gives
  where
    go : (k : ℕ) (t : Bool) → (nat_le low k && nat_le k high) ≡ t
        → cond t (Ok k) (bad OutOfRange m) ≡ Ok n → (low ≤ n) × (n ≤ high)
    go k true b h =
        let same : k ≡ n = cc in subst (λ l. (low ≤ l) × (l ≤ high)) same (between low high k b)
    go k false b h = absurd cc

pub word_has : {A : Type 0} (P : A → Type 0) (meant : List ℕ → Option A)
    → ((s : List ℕ) (x : A) → meant s ≡ Some x → P x) → (m : Member) (d : Data) (x : A)
    → one_of_texts meant m d ≡ Ok x → P x
unfolding one_of_texts
word_has P meant has m d x e =
    let s = steps (text m d) _ x e in
    has s.value x (is_there (meant s.value) OutOfRange m x s.gives)
