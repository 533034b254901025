-- Two readers of one part, of which one stops at evidence where the other goes on: how that carries
-- over to what is read with the part in it.
use Rattle.std.proofs.Common.{◌≡◌, ℕ, zero, suc, ◌≤◌, ◌<◌, inl, inr, List, [], ◌∷◌, ◌++◌, length, arith, ap, ◌∙◌, sym, refl, subst, append_assoc, Result, Ok, Err}
use Rattle.std.specs.List.{AllByRecursion, flat_map}
use Rattle.rdata_layout.specs.Names.{AreOctets}
use Rattle.octet_reading.specs.Readers.{Reader, mapped, in_turn_by, so_many}
use Rattle.octet_reading.specs.Reading.{◌>>=◌}
use Rattle.octet_reading.specs.Rules.{IsReadAs}
use Rattle.octet_reading.proofs.Composed.{so_many_read}
use Rattle.octet_reading.proofs.Rules.{behind_octets}
use Rattle.check_reading.specs.Fields.{counted_at}
use Rattle.command_faults.proofs.Long.{Agree, remains, agree_then, agree_for, agree_behind, agree_stop, remains_then, remains_read}

-- The readers agree on all octets, but for evidence; where there is evidence, one stops.
pub record Differs {A : Type 0} (Long : List ℕ → ℕ → Type 0) (here any : Reader A) : Type 0 where
  pub agrees : (octets : List ℕ) → AreOctets octets → Agree (Long octets) (here octets) (any octets)
  pub told : (octets : List ℕ) (left : ℕ) → Long octets left → here octets ≡ Err left

-- ---- seen through a function

pub seen_differs : {A B : Type 0} {Long : List ℕ → ℕ → Type 0} {here any : Reader A} (view : A → B)
    → Differs Long here any → Differs Long (mapped view here) (mapped view any)
seen_differs {Long = Long} {here = here} {any = any} view d = record {
  agrees = λ octets are.
      agree_then (Long octets) (here octets) (any octets) (λ x. Ok (view x.0, x.1))
      (λ x. omega arith) (d.agrees octets are);
  told = λ octets left long. ap (λ r. r >>= λ x. Ok (view x.0, x.1)) (d.told octets left long);
}

-- ---- behind a part that both read

pub record BehindLong {A : Type 0} (is : A → Type 0) (octets_of : A → List ℕ)
    (Long : A → List ℕ → ℕ → Type 0) (octets : List ℕ) (left : ℕ) : Type 0 where
  pub head : A
  pub is_head : is head
  pub inner : List ℕ
  pub long : Long head inner left
  pub parts : octets ≡ octets_of head ++ inner

module _ {A B : Type 0} {is : A → Type 0} {octets_of : A → List ℕ} {first : Reader A}
    {Long : A → List ℕ → ℕ → Type 0} {here any : A → Reader B}
    (reads : IsReadAs is octets_of first)
    (each : (x : A) → is x → Differs (Long x) (here x) (any x)) where
  abbrev onward : A → Result (B × List ℕ) ℕ → Result ((A × B) × List ℕ) ℕ
  onward x r = r >>= λ y. Ok ((x, y.0), y.1)

  behind_agrees : (octets : List ℕ) → AreOctets octets
      → Agree (BehindLong is octets_of Long octets) (in_turn_by first here octets)
      (in_turn_by first any octets)
  behind_agrees octets are =
      agree_behind (BehindLong is octets_of Long octets) (first octets)
      (λ x. onward x.0 (here x.0 x.1)) (λ x. onward x.0 (any x.0 x.1))
      (λ x e.
      let s = reads.stands octets x.0 x.1 are e in
      agree_then (BehindLong is octets_of Long octets) (here x.0 x.1) (any x.0 x.1)
      (λ y. Ok ((x.0, y.0), y.1)) (λ y. omega arith)
      (agree_for (Long x.0 x.1) (BehindLong is octets_of Long octets) (here x.0 x.1)
      (any x.0 x.1)
      (λ left l. record {
        head = x.0;
        is_head = s.1;
        inner = x.1;
        long = l;
        parts = s.0;
      })
      ((each x.0 s.1).agrees x.1 (behind_octets octets (octets_of x.0) x.1 are s.0))))

  behind_told : (octets : List ℕ) (left : ℕ) → BehindLong is octets_of Long octets left
      → in_turn_by first here octets ≡ Err left
  behind_told octets left b =
      ap (λ t. first t >>= λ x. onward x.0 (here x.0 x.1)) b.parts
      ∙ ap (λ (r : Result (A × List ℕ) ℕ). r >>= λ x. onward x.0 (here x.0 x.1))
      (reads.again b.head b.inner b.is_head)
      ∙ ap (λ (r : Result (B × List ℕ) ℕ). onward b.head r)
      ((each b.head b.is_head).told b.inner left b.long)

  pub behind_differs : Differs (BehindLong is octets_of Long) (in_turn_by first here)
      (in_turn_by first any)
  behind_differs = record { agrees = behind_agrees; told = behind_told }

-- ---- among so many

pub record AmongLong {A : Type 0} (is : A → Type 0) (octets_of : A → List ℕ)
    (Long : List ℕ → ℕ → Type 0) (n : ℕ) (octets : List ℕ) (left : ℕ) : Type 0 where
  pub items : List A
  pub each : AllByRecursion is items
  pub fewer : length items < n
  pub inner : List ℕ
  pub long : Long inner left
  pub parts : octets ≡ flat_map octets_of items ++ inner

-- among those of a list, behind their number
pub record ListLong {A : Type 0} (count_is : ℕ → Type 0) (count_octets : ℕ → List ℕ)
    (is : A → Type 0) (octets_of : A → List ℕ) (Long : List ℕ → ℕ → Type 0) (octets : List ℕ)
    (left : ℕ) : Type 0 where
  pub count : ℕ
  pub is_count : count_is count
  pub inner : List ℕ
  pub among : AmongLong is octets_of Long count inner left
  pub parts : octets ≡ count_octets count ++ inner

module _ {A : Type 0} {is any_is : A → Type 0} {octets_of any_of : A → List ℕ}
    {Long : List ℕ → ℕ → Type 0} {here any : Reader A} (reads : IsReadAs is octets_of here)
    (any_reads : IsReadAs any_is any_of any) (item : Differs Long here any) where
  abbrev Among : ℕ → List ℕ → ℕ → Type 0
  Among n octets left = AmongLong is octets_of Long n octets left

  abbrev others_behind : (read : Reader A) (n : ℕ) → A × List ℕ → Result (List A × List ℕ) ℕ
  others_behind read n x = so_many read n x.1 >>= λ others. Ok (x.0 ∷ others.0, others.1)

  fewer_left : (n : ℕ) (x : A × List ℕ) → remains (others_behind any n x) ≤ length x.1
  fewer_left n x =
      omega (
        arith,
        remains_then (so_many any n x.1) (λ others. Ok (x.0 ∷ others.0, others.1))
            (λ y. omega arith),
        remains_read (so_many_read any_reads n) x.1,
      )

  many_agree : (n : ℕ) (octets : List ℕ) → AreOctets octets
      → Agree (Among n octets) (so_many here n octets) (so_many any n octets)
  many_agree zero octets are = inl refl
  many_agree (suc n) octets are =
      elim (item.agrees octets are) [
        | inl e ↦
            subst (λ r. Agree (Among (suc n) octets) (here octets >>= others_behind here n)
            (r >>= others_behind any n)) e
            (agree_behind (Among (suc n) octets) (here octets) (others_behind here n)
            (others_behind any n)
            (λ x f.
            let s = reads.stands octets x.0 x.1 are f in
            agree_then (Among (suc n) octets) (so_many here n x.1) (so_many any n x.1)
            (λ others. Ok (x.0 ∷ others.0, others.1)) (λ y. omega arith)
            (agree_for (Among n x.1) (Among (suc n) octets) (so_many here n x.1)
            (so_many any n x.1)
            (λ left a. record {
              items = x.0 ∷ a.items;
              each = (s.1, a.each);
              fewer = omega (arith, a.fewer);
              inner = a.inner;
              long = a.long;
              parts = s.0 ∙ ap (λ t. octets_of x.0 ++ t) a.parts
                  ∙ sym (append_assoc (octets_of x.0) (flat_map octets_of a.items) a.inner);
            })
            (many_agree n x.1 (behind_octets octets (octets_of x.0) x.1 are s.0)))))
        | inr w ↦
            agree_stop (Among (suc n) octets) (here octets) (any octets) (others_behind here n)
            (others_behind any n) w.0 (fewer_left n) w.1
            (record {
              items = [];
              each = tt;
              fewer = omega arith;
              inner = octets;
              long = w.2;
              parts = refl;
            }) w.3
      ]

  many_told : (left : ℕ) (inner : List ℕ) → Long inner left → (items : List A) (n : ℕ)
      → length items < n → AllByRecursion is items
      → so_many here n (flat_map octets_of items ++ inner) ≡ Err left
  many_told left inner long [] zero fewer each = absurd (omega (arith, fewer))
  many_told left inner long [] (suc n) fewer each =
      ap (λ r. r >>= others_behind here n) (item.told inner left long)
  many_told left inner long (x ∷ items) zero fewer each = absurd (omega (arith, fewer))
  many_told left inner long (x ∷ items) (suc n) fewer each =
      let rest = flat_map octets_of items ++ inner in
      ap (λ t. here t >>= others_behind here n)
      (append_assoc (octets_of x) (flat_map octets_of items) inner)
      ∙ ap (λ r. r >>= others_behind here n) (reads.again x rest each.0)
      ∙ ap (λ r. r >>= λ others. Ok (x ∷ others.0, others.1))
      (many_told left inner long items n (omega (arith, fewer)) each.1)

  module _ {count_is : ℕ → Type 0} {count_octets : ℕ → List ℕ} {count_at : Reader ℕ}
      (counts : IsReadAs count_is count_octets count_at) where
    abbrev InList : List ℕ → ℕ → Type 0
    InList octets left = ListLong count_is count_octets is octets_of Long octets left

    list_agrees : (octets : List ℕ) → AreOctets octets
        → Agree (InList octets) (counted_at count_at here octets) (counted_at count_at any octets)
    list_agrees octets are =
        agree_behind (InList octets) (count_at octets) (λ c. so_many here c.0 c.1)
        (λ c. so_many any c.0 c.1)
        (λ c e.
        let s = counts.stands octets c.0 c.1 are e in
        agree_for (Among c.0 c.1) (InList octets) (so_many here c.0 c.1) (so_many any c.0 c.1)
        (λ left a. record {
          count = c.0;
          is_count = s.1;
          inner = c.1;
          among = a;
          parts = s.0;
        })
        (many_agree c.0 c.1 (behind_octets octets (count_octets c.0) c.1 are s.0)))

    list_told : (octets : List ℕ) (left : ℕ) → InList octets left
        → counted_at count_at here octets ≡ Err left
    list_told octets left l =
        let a = l.among in
        ap (counted_at count_at here) l.parts
        ∙ ap (λ (r : Result (ℕ × List ℕ) ℕ). r >>= λ c. so_many here c.0 c.1)
        (counts.again l.count l.inner l.is_count)
        ∙ ap (so_many here l.count) a.parts
        ∙ many_told left a.inner a.long a.items l.count a.fewer a.each

    pub list_differs : Differs (ListLong count_is count_octets is octets_of Long)
        (counted_at count_at here) (counted_at count_at any)
    list_differs = record { agrees = list_agrees; told = list_told }
