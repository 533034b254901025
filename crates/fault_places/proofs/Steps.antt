-- Where readers that are built from readers stop.
use Rattle.std.proofs.Common.{◌≡◌, ℕ, ◌<◌, ◌⊎◌, inl, inr, List, [], ◌∷◌, ◌++◌, length, arith, ap, ◌∙◌, sym, refl, subst, append_assoc, append-nil, length-append, Result, Ok, Err}
use Rattle.std.specs.List.{AllByRecursion}
use Rattle.rdata_layout.specs.Names.{AreOctets}
use Rattle.octet_reading.specs.Readers.{Reader, mapped, in_turn, in_turn_by}
use Rattle.octet_reading.specs.Reading.{◌>>=◌}
use Rattle.octet_reading.specs.Rules.{IsReadAs}
use Rattle.octet_reading.proofs.Rules.{bind_err, behind_octets, one_spelling}
use Rattle.fault_places.specs.Fields.{Ending, Field, spelling, StandsBehind, IsMissing, NoneFits, Stops, StopsIn}
use Rattle.fault_places.specs.Fields.Ending.{Sized, Open}

-- Two fields that stand behind the same octets: they end alike, and where one of them stands the
-- other isn't missing.
pub record Meets (f g : Field) : Type 0 where
  pub ending : f.ending ≡ g.ending
  pub size : f.ending ≡ Sized → length f.octets ≡ length g.octets
  pub there : (rest : List ℕ) → IsMissing f.ending f.octets (g.octets ++ rest) → ⊥

-- no field is empty
abbrev pub AreFilled : List Field → Type 0
AreFilled fields = AllByRecursion (λ (field : Field). 0 < length field.octets) fields

both_filled : (xs ys : List Field) → AreFilled xs → AreFilled ys → AreFilled (xs ++ ys)
both_filled [] ys h k = k
both_filled (x ∷ xs) ys h k = (h.0, both_filled xs ys h.1 k)

filled_at : (front others : List Field) (f : Field) → AreFilled (front ++ f ∷ others)
    → 0 < length f.octets
filled_at [] others f h = h.0
filled_at (g ∷ front) others f h = filled_at front others f h.1

pub is_filled : (a : List ℕ) (f : Field) (fields : List Field) → AreFilled fields
    → StandsBehind a f fields → 0 < length f.octets
is_filled a f fields h s = filled_at s.front s.others f (subst AreFilled s.parts h)

-- A place behind whole fields is one in all that goes on from there; and no field is empty.
pub record Together {A : Type 0} (is : A → Type 0) (fields : A → List Field) : Type 0 where
  pub meet : (x y : A) (before here rest : List ℕ) (f : Field) → is x → is y
      → StandsBehind before f (fields x) → before ++ here ≡ spelling (fields y) ++ rest
      → (g : Field) × StandsBehind before g (fields y) × Meets f g
  pub filled : (x : A) → is x → AreFilled (fields x)

-- where a reader stops
pub record Faults {A : Type 0} (is : A → Type 0) (fields : A → List Field) (read : Reader A)
    : Type 0 where
  pub places : Together is fields
  pub told : (octets : List ℕ) (left : ℕ) → AreOctets octets → read octets ≡ Err left
      → StopsIn is fields octets left

pub spelling_append : (xs ys : List Field) → spelling (xs ++ ys) ≡ spelling xs ++ spelling ys
spelling_append [] ys = refl
spelling_append (x ∷ xs) ys =
    ap (λ t. x.octets ++ t) (spelling_append xs ys)
    ∙ sym (append_assoc x.octets (spelling xs) (spelling ys))

-- a field of two lists is one of the first or of the second
split : (xs ys front others : List Field) (f : Field) → xs ++ ys ≡ front ++ f ∷ others
    → ((o : List Field) × (xs ≡ front ++ f ∷ o))
    ⊎ ((middle : List Field) × (front ≡ xs ++ middle) × (ys ≡ middle ++ f ∷ others))
split [] ys front others f e = inr (front, refl, e)
split (x ∷ xs) ys [] others f e = let same : x ≡ f = cc in inl (xs, ap (λ k. k ∷ xs) same)
split (x ∷ xs) ys (g ∷ front) others f e =
    let same : x ≡ g = cc in
    let tails : xs ++ ys ≡ front ++ f ∷ others = cc in
    elim (split xs ys front others f tails) [
      | inl o ↦ inl (o.0, let r = o.1 in cc)
      | inr m ↦ inr (m.0, (let r = m.1 in cc), m.2)
    ]

pub split_stands : (before : List ℕ) (f : Field) (xs ys : List Field)
    → StandsBehind before f (xs ++ ys)
    → StandsBehind before f xs
    ⊎ ((middle : List ℕ) × (before ≡ spelling xs ++ middle) × StandsBehind middle f ys)
split_stands before f xs ys s =
    elim (split xs ys s.front s.others f s.parts) [
      | inl o ↦
          inl (record { front = s.front; others = o.0; parts = o.1; are_before = s.are_before })
      | inr m ↦
          inr (
            spelling m.0,
            s.are_before ∙ ap spelling m.1 ∙ spelling_append xs m.0,
            record { front = m.0; others = s.others; parts = m.2; are_before = refl },
          )
    ]

pub stands_in_front : (before : List ℕ) (f : Field) (xs ys : List Field) → StandsBehind before f xs
    → StandsBehind before f (xs ++ ys)
stands_in_front before f xs ys s = record {
  front = s.front;
  others = s.others ++ ys;
  parts = ap (λ t. t ++ ys) s.parts ∙ append_assoc s.front (f ∷ s.others) ys;
  are_before = s.are_before;
}

pub stands_later : (before : List ℕ) (f : Field) (xs ys : List Field) → StandsBehind before f ys
    → StandsBehind (spelling xs ++ before) f (xs ++ ys)
stands_later before f xs ys s = record {
  front = xs ++ s.front;
  others = s.others;
  parts = ap (λ t. xs ++ t) s.parts ∙ sym (append_assoc xs s.front (f ∷ s.others));
  are_before = ap (λ t. spelling xs ++ t) s.are_before ∙ sym (spelling_append xs s.front);
}

-- what stands behind octets that begin with all fields is longer than they
pub stands_whole : (before : List ℕ) (f : Field) (xs : List Field) → StandsBehind before f xs
    → (behind : List ℕ) × (spelling xs ≡ before ++ (f.octets ++ behind))
stands_whole before f xs s = (
  spelling s.others,
  ap spelling s.parts ∙ spelling_append s.front (f ∷ s.others)
      ∙ ap (λ t. t ++ (f.octets ++ spelling s.others)) (sym s.are_before),
)

pub stops_for : (ending : Ending) (field here : List ℕ) (left : ℕ) (none other : Type 0)
    → Stops ending field here left none → (none → other) → Stops ending field here left other
stops_for ending field here left none other (inl m) h = inl m
stops_for ending field here left none other (inr m) h = inr (m.0, m.1, h m.2)

not_both : {A : Type 0} (x : A) (left : ℕ) (read : Result A ℕ) → read ≡ Ok x → read ≡ Err left → ⊥
not_both x left read e f = let k : Ok x ≡ Err left = sym e ∙ f in cc

-- A field, and what is read behind it by its value.
module _ {A C : Type 0} {is : A → Type 0} {octets_of : A → List ℕ} {fields : A → List Field}
    {read : Reader A} {later_is : C → Type 0} {later : C → List Field} {next : A → Reader C}
    (part : C → A) (first : IsReadAs is octets_of read)
    (spells : (x : A) → spelling (fields x) ≡ octets_of x) (told : Faults is fields read)
    (each : (x : A) → is x → Faults (λ c. later_is c × (part c ≡ x)) later (next x))
    (some : (x : A) → is x → (c : C) × (later_is c × (part c ≡ x))) where
  abbrev whole : C → List Field
  whole c = fields (part c) ++ later c

  abbrev good : C → Type 0
  good c = is (part c) × later_is c

  -- what begins with the fields of the first is read
  reads_first : (octets : List ℕ) (left : ℕ) (x : A) (rest : List ℕ) → is x
      → octets ≡ spelling (fields x) ++ rest → read octets ≡ Err left → ⊥
  reads_first octets left x rest h e f =
      not_both (x, rest) left (read octets)
      (ap read (e ∙ ap (λ t. t ++ rest) (spells x)) ∙ first.again x rest h) f

  one_first : (x y : A) (rest others : List ℕ) → is x → is y
      → spelling (fields x) ++ rest ≡ spelling (fields y) ++ others → (x ≡ y) × (rest ≡ others)
  one_first x y rest others h k e =
      one_spelling first x y rest others h k
      (ap (λ t. t ++ rest) (sym (spells x)) ∙ e ∙ ap (λ t. t ++ others) (spells y))

  regrouped : (y : C) (rest : List ℕ)
      → spelling (whole y) ++ rest
      ≡ spelling (fields (part y)) ++ (spelling (later y) ++ rest)
  regrouped y rest =
      ap (λ t. t ++ rest) (spelling_append (fields (part y)) (later y))
      ∙ append_assoc (spelling (fields (part y))) (spelling (later y)) rest

  none_first : (octets : List ℕ) (left : ℕ) (before here : List ℕ) → octets ≡ before ++ here
      → read octets ≡ Err left → NoneFits is fields before here → NoneFits good whole before here
  none_first octets left before here e f none = record {
    field = λ y g more rest h at same.
        elim (split_stands before g (fields (part y)) (later y) at) [
          | inl a ↦ none.field (part y) g more rest h.0 a same
          | inr m ↦
              reads_first octets left (part y) (m.0 ++ here) h.0
              (e ∙ ap (λ t. t ++ here) m.1 ∙ append_assoc (spelling (fields (part y))) m.0 here) f
        ];
    whole = λ y more rest h same.
        none.whole (part y) more (spelling (later y) ++ rest) h.0 (same ∙ regrouped y rest);
  }

  from_first : (octets : List ℕ) (left : ℕ) → AreOctets octets → read octets ≡ Err left
      → StopsIn good whole octets left
  from_first octets left are f =
      let s = told.told octets left are f in
      let c = some s.value s.good in
      record {
        before = s.before;
        here = s.here;
        value = c.0;
        good = (subst is (sym c.1.1) s.good, c.1.0);
        field = s.field;
        stands = stands_in_front s.before s.field (fields (part c.0)) (later c.0)
            (subst (λ v. StandsBehind s.before s.field (fields v)) (sym c.1.1) s.stands);
        parts = s.parts;
        why = stops_for s.field.ending s.field.octets s.here left (NoneFits is fields s.before s.here)
            (NoneFits good whole s.before s.here) s.why
            (none_first octets left s.before s.here s.parts f);
      }

  none_later : (x : A) (before here : List ℕ) → is x
      → NoneFits (λ c. later_is c × (part c ≡ x)) later before here
      → NoneFits good whole (spelling (fields x) ++ before) here
  none_later x before here is_x none = record {
    field = λ y g more rest h at same.
        elim (split_stands (spelling (fields x) ++ before) g (fields (part y)) (later y) at) [
          | inl a ↦
              let w = stands_whole (spelling (fields x) ++ before) g (fields (part y)) a in
              let o =
              one_first (part y) x [] (before ++ (g.octets ++ w.0)) h.0 is_x
              (append-nil (spelling (fields (part y))) ∙ w.1
              ∙ append_assoc (spelling (fields x)) before (g.octets ++ w.0)) in
              let k : ⊥ = omega (
                arith,
                ap length o.1,
                length-append before (g.octets ++ w.0),
                length-append g.octets w.0,
                is_filled (spelling (fields x) ++ before) g (fields (part y))
                    (told.places.filled (part y) h.0) a,
              ) in k
          | inr m ↦
              let o = one_first x (part y) before m.0 is_x h.0 m.1 in
              none.field y g more rest (h.1, sym o.0)
              (subst (λ t. StandsBehind t g (later y)) (sym o.1) m.2) same
        ];
    whole = λ y more rest h same.
        let o =
        one_first x (part y) ((before ++ here) ++ more) (spelling (later y) ++ rest) is_x h.0
        (sym (append_assoc (spelling (fields x)) (before ++ here) more)
        ∙ ap (λ t. t ++ more) (sym (append_assoc (spelling (fields x)) before here))
        ∙ same ∙ regrouped y rest) in
        none.whole y more rest (h.1, sym o.0) o.1;
  }

  from_later : (octets : List ℕ) (left : ℕ) (x : A) (rest : List ℕ) → AreOctets octets
      → read octets ≡ Ok (x, rest) → next x rest ≡ Err left → StopsIn good whole octets left
  from_later octets left x rest are e f =
      let s = first.stands octets x rest are e in
      let t = (each x s.1).told rest left (behind_octets octets (octets_of x) rest are s.0) f in
      record {
        before = spelling (fields x) ++ t.before;
        here = t.here;
        value = t.value;
        good = (subst is (sym t.good.1) s.1, t.good.0);
        field = t.field;
        stands = subst (λ v. StandsBehind (spelling (fields v) ++ t.before) t.field (fields (part t.value) ++ later t.value)) t.good.1
            (stands_later t.before t.field (fields (part t.value)) (later t.value) t.stands);
        parts = s.0 ∙ ap (λ k. octets_of x ++ k) t.parts
            ∙ ap (λ k. k ++ (t.before ++ t.here)) (sym (spells x))
            ∙ sym (append_assoc (spelling (fields x)) t.before t.here);
        why = stops_for t.field.ending t.field.octets t.here left
            (NoneFits (λ c. later_is c × (part c ≡ x)) later t.before t.here)
            (NoneFits good whole (spelling (fields x) ++ t.before) t.here) t.why
            (none_later x t.before t.here s.1);
      }

  then_meet : (x y : C) (before here rest : List ℕ) (f : Field) → good x → good y
      → StandsBehind before f (whole x) → before ++ here ≡ spelling (whole y) ++ rest
      → (g : Field) × StandsBehind before g (whole y) × Meets f g
  then_meet x y before here rest f h k at same =
      elim (split_stands before f (fields (part x)) (later x) at) [
        | inl a ↦
            let m =
            told.places.meet (part x) (part y) before here (spelling (later y) ++ rest) f h.0 k.0 a
            (same ∙ regrouped y rest) in
            (m.0, stands_in_front before m.0 (fields (part y)) (later y) m.1, m.2)
        | inr b ↦
            let o =
            one_first (part x) (part y) (b.0 ++ here) (spelling (later y) ++ rest) h.0 k.0
            (sym (append_assoc (spelling (fields (part x))) b.0 here)
            ∙ ap (λ t. t ++ here) (sym b.1) ∙ same ∙ regrouped y rest) in
            let m =
            (each (part x) h.0).places.meet x y b.0 here rest f (h.1, refl) (k.1, sym o.0) b.2 o.1 in (
              m.0,
              subst (λ t. StandsBehind t m.0 (whole y))
                  (ap (λ v. spelling (fields v) ++ b.0) (sym o.0) ∙ sym b.1)
                  (stands_later b.0 m.0 (fields (part y)) (later y) m.1),
              m.2,
            )
      ]

  pub then_faults : Faults (λ c. is (part c) × later_is c) (λ c. fields (part c) ++ later c)
      (λ octets. read octets >>= λ x. next x.0 x.1)
  then_faults = record {
    places = record {
      meet = then_meet;
      filled = λ x h.
          both_filled (fields (part x)) (later x) (told.places.filled (part x) h.0)
          ((each (part x) h.0).places.filled x (h.1, refl));
    };
    told = λ octets left are e.
        elim (bind_err (read octets) (λ x. next x.0 x.1) left e) [
          | inl f ↦ from_first octets left are f
          | inr b ↦ from_later octets left b.0.0 b.0.1 are b.1 b.2
        ];
  }

-- The same seen through a function.
module _ {A C : Type 0} {is : A → Type 0} {fields : A → List Field} {view_is : C → Type 0}
    {views : C → List Field} (view : A → C)
    (into : (x : A) → is x → view_is (view x) × (fields x ≡ views (view x)))
    (from : (c : C) → view_is c → (x : A) × is x × (view x ≡ c)) where
  none_seen : (before here : List ℕ) → NoneFits is fields before here
      → NoneFits view_is views before here
  none_seen before here none = record {
    field = λ c g more rest h at same.
        let f = from c h in
        none.field f.0 g more rest f.1 (subst (StandsBehind before g) (sym (ap views f.2) ∙ sym (into f.0 f.1).1) at) same;
    whole = λ c more rest h same.
        let f = from c h in
        none.whole f.0 more rest f.1 (same ∙ ap (λ t. spelling t ++ rest) (sym (ap views f.2) ∙ sym (into f.0 f.1).1));
  }

  pub stops_seen : (octets : List ℕ) (left : ℕ) → StopsIn is fields octets left
      → StopsIn view_is views octets left
  stops_seen octets left s = record {
    before = s.before;
    here = s.here;
    value = view s.value;
    good = (into s.value s.good).0;
    field = s.field;
    stands = subst (StandsBehind s.before s.field) (into s.value s.good).1 s.stands;
    parts = s.parts;
    why = stops_for s.field.ending s.field.octets s.here left (NoneFits is fields s.before s.here)
        (NoneFits view_is views s.before s.here) s.why (none_seen s.before s.here);
  }

  pub seen_together : Together is fields → Together view_is views
  seen_together h = record {
    filled = λ c k. let x = from c k in
        subst AreFilled ((into x.0 x.1).1 ∙ ap views x.2) (h.filled x.0 x.1);
    meet = λ c d before here rest f k l at same.
        let x = from c k in
        let y = from d l in
        let m =
        h.meet x.0 y.0 before here rest f x.1 y.1
        (subst (StandsBehind before f) (sym (ap views x.2) ∙ sym (into x.0 x.1).1) at)
        (same ∙ ap (λ t. spelling t ++ rest) (sym (ap views y.2) ∙ sym (into y.0 y.1).1)) in (
          m.0,
          subst (StandsBehind before m.0) ((into y.0 y.1).1 ∙ ap views y.2) m.1,
          m.2,
        );
  }

  pub seen_faults : (read : Reader A) → Faults is fields read
      → Faults view_is views (mapped view read)
  seen_faults read h = record {
    places = seen_together h.places;
    told = λ octets left are e.
        elim (bind_err (read octets) (λ x. Ok (view x.0, x.1)) left e) [
          | inl f ↦ stops_seen octets left (h.told octets left are f)
          | inr b ↦ absurd (let k : Ok (view b.0.0, b.0.1) ≡ Err left = b.2 in cc)
        ];
  }

-- The same values in other words.
pub alike_faults : {A : Type 0} {is other_is : A → Type 0} {fields others : A → List Field}
    {read : Reader A} → Faults is fields read
    → ((x : A) → is x → other_is x × (fields x ≡ others x)) → ((x : A) → other_is x → is x)
    → Faults other_is others read
alike_faults h into from = record {
  places = seen_together (λ x. x) into (λ c k. (c, from c k, refl)) h.places;
  told = λ octets left are e.
      stops_seen (λ x. x) into (λ c k. (c, from c k, refl)) octets left (h.told octets left are e);
}

-- The same reader in other words.
pub so_faults : {A : Type 0} {is : A → Type 0} {fields : A → List Field} {read other : Reader A}
    → Faults is fields read → ((octets : List ℕ) → other octets ≡ read octets)
    → Faults is fields other
so_faults h so = record {
  places = h.places;
  told = λ octets left are e. h.told octets left are (sym (so octets) ∙ e);
}

-- One field behind another that says how it is read.
module _ {A B : Type 0} {is : A → Type 0} {octets_of : A → List ℕ} {fields : A → List Field}
    {read : Reader A} {later_is : A → B → Type 0} {later : A → B → List Field}
    {next : A → Reader B} (first : IsReadAs is octets_of read)
    (spells : (x : A) → spelling (fields x) ≡ octets_of x) (told : Faults is fields read)
    (each : (x : A) → is x → Faults (later_is x) (later x) (next x))
    (some : (x : A) → is x → (y : B) × later_is x y) where
  paired : (x : A) → is x
      → Faults (λ (p : A × B). later_is p.0 p.1 × (p.0 ≡ x)) (λ p. later p.0 p.1)
      (mapped (λ y. (x, y)) (next x))
  paired x h = seen_faults (λ y. (x, y)) (λ y k. ((k, refl), refl))
      (λ p k. (p.1, subst (λ a. later_is a p.1) k.1 k.0, ap (λ a. (a, p.1)) (sym k.1)))
      (next x) (each x h)

  pub in_turn_by_faults : Faults (λ (p : A × B). is p.0 × later_is p.0 p.1)
      (λ p. fields p.0 ++ later p.0 p.1) (in_turn_by read next)
  in_turn_by_faults = then_faults (λ (p : A × B). p.0) first spells told paired
      (λ x h. let y = some x h in ((x, y.0), (y.1, refl)))

pub in_turn_faults : {A B : Type 0} {is : A → Type 0} {octets_of : A → List ℕ}
    {fields : A → List Field} {read : Reader A} {later_is : B → Type 0} {later : B → List Field}
    {next : Reader B} → IsReadAs is octets_of read
    → ((x : A) → spelling (fields x) ≡ octets_of x) → Faults is fields read
    → Faults later_is later next → ((y : B) × later_is y)
    → Faults (λ (p : A × B). is p.0 × later_is p.1) (λ p. fields p.0 ++ later p.1)
    (in_turn read next)
in_turn_faults first spells told second some =
    in_turn_by_faults first spells told (λ x h. second) (λ x h. some)

-- No field agrees with octets.
abbrev pub Dead : {A : Type 0} → (A → Type 0) → (A → List ℕ) → List ℕ → Type 0
Dead {A = A} is octets_of octets =
    (x : A) (more rest : List ℕ) → is x → octets ++ more ≡ octets_of x ++ rest → ⊥

pub dead_by : {A : Type 0} {is : A → Type 0} {octets_of : A → List ℕ} {read : Reader A}
    → IsReadAs is octets_of read → (octets : List ℕ)
    → ((more : List ℕ) → (left : ℕ) × (read (octets ++ more) ≡ Err left))
    → Dead is octets_of octets
dead_by {read = read} reads octets stops x more rest h e =
    let s = stops more in
    not_both (x, rest) s.0 (read (octets ++ more)) (ap read e ∙ reads.again x rest h) s.1

-- A field alone.
abbrev pub one_field : {A : Type 0} → (A → List ℕ) → Ending → A → List Field
one_field octets_of ending x = record { ending = ending; octets = octets_of x } ∷ []

only_here : (f : Field) (before : List ℕ) (g : Field) → StandsBehind before g (f ∷ [])
    → (g ≡ f) × (before ≡ [])
only_here f before g s = go s.front s.parts s.are_before
  where
    go : (front : List Field) → f ∷ [] ≡ front ++ g ∷ s.others → before ≡ spelling front
        → (g ≡ f) × (before ≡ [])
    go [] e b = let same : f ≡ g = cc in (sym same, b)
    go (k ∷ []) e b = absurd cc
    go (k ∷ l ∷ front) e b = absurd cc

only_octets : (f : Field) (g : Field) → StandsBehind [] g (f ∷ []) → g.octets ≡ f.octets
only_octets f g s = ap (λ (k : Field). k.octets) (only_here f [] g s).0

pub field_faults : {A : Type 0} {is : A → Type 0} (octets_of : A → List ℕ) (ending : Ending)
    (read : Reader A)
    → ((x y : A) → is x → is y → Meets (record { ending = ending; octets = octets_of x })
    (record { ending = ending; octets = octets_of y }))
    → ((x : A) → is x → 0 < length (octets_of x))
    → ((octets : List ℕ) (left : ℕ) → AreOctets octets → read octets ≡ Err left
    → (x : A) × is x × Stops ending (octets_of x) octets left (Dead is octets_of octets))
    → Faults is (one_field octets_of ending) read
field_faults {is = is} octets_of ending read meets filled h = record {
  places = record {
    filled = λ x k. (filled x k, tt);
    meet = λ x y before here rest f k l at same.
        let o = only_here (record { ending = ending; octets = octets_of x }) before f at in (
          record { ending = ending; octets = octets_of y },
          record { front = []; others = []; parts = refl; are_before = o.1 },
          subst (λ t. Meets t (record { ending = ending; octets = octets_of y })) (sym o.0)
              (meets x y k l),
        );
  };
  told = λ octets left are e.
      let s = h octets left are e in
      record {
        before = [];
        here = octets;
        value = s.0;
        good = s.1;
        field = record { ending = ending; octets = octets_of s.0 };
        stands = record { front = []; others = []; parts = refl; are_before = refl };
        parts = refl;
        why = stops_for ending (octets_of s.0) octets left (Dead is octets_of octets)
            (NoneFits is (one_field octets_of ending) [] octets) s.2
            (λ dead. record {
              field = λ x g more rest k at same.
                  dead x more rest k (same
                  ∙ ap (λ t. t ++ rest)
                  (only_octets (record { ending = ending; octets = octets_of x }) g at));
              whole = λ x more rest k same.
                  dead x more rest k (same ∙ ap (λ t. t ++ rest) (append-nil (octets_of x)));
            });
      };
}

-- fields of one size
pub sized_meets : {A : Type 0} {is : A → Type 0} (octets_of : A → List ℕ) (size : ℕ)
    → ((x : A) → is x → length (octets_of x) ≡ size) → (x y : A) → is x → is y
    → Meets (record { ending = Sized; octets = octets_of x })
    (record { ending = Sized; octets = octets_of y })
sized_meets octets_of size long x y h k = record {
  ending = refl;
  size = λ e. long x h ∙ sym (long y k);
  there = λ rest few. let r : ⊥ =
      omega (arith, few, long x h, long y k, length-append (octets_of y) rest) in r;
}

-- fields of which none begins another
pub open_meets : {A : Type 0} {is : A → Type 0} (octets_of : A → List ℕ) {read : Reader A}
    → IsReadAs is octets_of read → (x y : A) → is x → is y
    → Meets (record { ending = Open; octets = octets_of x })
    (record { ending = Open; octets = octets_of y })
open_meets octets_of reads x y h k = record {
  ending = refl;
  size = λ e. absurd cc;
  there = λ rest m.
      let o =
      one_spelling reads y x (rest ++ m.0) [] k h
      (sym (append_assoc (octets_of y) rest m.0) ∙ m.2 ∙ sym (append-nil (octets_of x))) in
      let r : ⊥ = omega (arith, ap length o.1, length-append rest m.0, m.1) in r;
}
