-- Lists that are read item by item.
use Rattle.std.proofs.Common.{◌≡◌, ℕ, suc, ◌+◌, ◌<◌, ◌≤◌, List, [], ◌∷◌, ◌++◌, length, get_or, drop, Bool, ◌&&◌, nat_le, Result, Ok, Err, refl, ap, sym, ◌∙◌, append_assoc, add-one, drop-cons, append-nil}
use Rattle.std.proofs.lemmas.List.{drop_all}
use Rattle.serde_json.specs.Data.{Data}
use Rattle.serde_json.specs.declared.value.Value.{Value}
use Rattle.serde_json.specs.Events.{items_len}
use Rattle.serde_json.proofs.Views.{items_len-items_view}
use Rattle.serde_json.specs.View.{view, items_view}
use Rattle.line_faults.specs.declared.fault.LineFault.{LineFault}
use Rattle.line_faults.specs.declared.fault.LineFault.TheVariants.{BadLine, Unsupported, OutOfMemory}
use Rattle.line_reading.specs.Reading.{◌>>=◌, Faults, each}

-- the items that are read, behind those that were
abbrev pub with_front : {A : Type 0} → List A → Result (List A) LineFault
    → Result (List A) LineFault
with_front done r = r >>= λ xs. Ok (done ++ xs)

step : {A : Type 0} (done : List A) (x : A) (r : Result (List A) LineFault)
    → with_front done (r >>= λ xs. Ok (x ∷ xs)) ≡ with_front (done ++ x ∷ []) r
step done x (Ok ys) = ap Ok (sym (append_assoc done (x ∷ []) ys))
step done x (Err e) = refl

at_item : {A : Type 0} (read : ℕ → Data → Result A LineFault) (vs : List Value) (k : ℕ) (v : Value)
    → k < length vs → v ≡ get_or vs k v
    → each read k (items_view (drop k vs)) ≡ (read k (view v) >>= λ x. each read (suc k) (items_view (drop (suc k) vs)) >>= λ xs. Ok (x ∷ xs))
at_item read vs k v h e =
    let d : drop k vs ≡ v ∷ drop (suc k) vs = drop-cons vs k v h
    ∙ ap (λ w. w ∷ drop (suc k) vs) (sym e) in
    ap (λ ws. each read k (items_view ws)) d

pub goes_on : {A : Type 0} (read : ℕ → Data → Result A LineFault) (vs : List Value) (k : ℕ) (v : Value) (done : List A) (x : A) (all : Result (List A) LineFault)
    → k < length vs → v ≡ get_or vs k v → read k (view v) ≡ Ok x
    → with_front done (each read k (items_view (drop k vs))) ≡ all
    → with_front (done ++ x ∷ []) (each read (k + 1) (items_view (drop (k + 1) vs))) ≡ all
goes_on read vs k v done x all h e r i =
    let a = at_item read vs k v h e in
    let b = rw r at a in
    rw add-one (sym (step done x (each read (suc k) (items_view (drop (suc k) vs))))
    ∙ (sym (ap (with_front done) b) ∙ i))

faulty : {A B : Type 0} (fault : LineFault) (r : Result A LineFault) (all : Result B LineFault) (f : A → Result B LineFault) → Faults fault r → (r >>= f) ≡ all → Faults fault all
faulty (BadLine reason m change) r all f e i = sym i ∙ ap (λ w. w >>= f) e
faulty (Unsupported m change) r all f e i = sym i ∙ ap (λ w. w >>= f) e
faulty OutOfMemory r all f e i = tt

pub stops : {A : Type 0} (read : ℕ → Data → Result A LineFault) (vs : List Value) (k : ℕ) (v : Value) (done : List A) (fault : LineFault) (all : Result (List A) LineFault)
    → k < length vs → v ≡ get_or vs k v → Faults fault (read k (view v))
    → with_front done (each read k (items_view (drop k vs))) ≡ all → Faults fault all
stops read vs k v done fault all h e r i =
    faulty fault (each read k (items_view (drop k vs))) all _ (rw (at_item read vs k v h e) (faulty fault (read k (view v)) _ _ r refl)) i

pub is_done : {A : Type 0} (read : ℕ → Data → Result A LineFault) (vs : List Value) (k : ℕ) (done : List A) (all : Result (List A) LineFault)
    → length vs ≤ k → with_front done (each read k (items_view (drop k vs))) ≡ all → all ≡ Ok done
is_done read vs k done all h i = sym (rw (drop_all k vs h) at i) ∙ ap Ok (append-nil done)

pub begins : {A : Type 0} (done : List A) (all : Result (List A) LineFault) → done ≡ []
    → with_front done all ≡ all
begins done (Ok xs) e = ap (λ ys. Ok (ys ++ xs)) e
begins done (Err fault) e = refl

pub within : (vs : List Value) (low high : ℕ) (r : Bool)
    → r ≡ (nat_le low (length vs) && nat_le (length vs) high)
    → r ≡ (nat_le low (items_len (items_view vs)) && nat_le (items_len (items_view vs)) high)
within vs low high r e = rw (items_len-items_view vs) e
