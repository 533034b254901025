-- Sets that are longer than sets may be: reading stops there, where it would go on else.
use Rattle.std.proofs.Common.{◌≡◌, ℕ, zero, suc, ◌+◌, ◌-◌, ◌≤◌, ◌<◌, ◌^◌, ◌⊎◌, inl, inr, Bool, true, false, List, [], ◌∷◌, ◌++◌, length, drop, arith, ap, ◌∙◌, sym, refl, subst, eqb, cond, append_assoc, length-append, Result, Ok, Err}
use Rattle.std.specs.Prelude.{nat_lt}
use Rattle.std.specs.List.{AllByRecursion, flat_map}
use Rattle.std.proofs.lemmas.Bool.{eqb-true, ltb-true, lt-ltb}
use Rattle.std.proofs.Math.Seq.{drop-append_seam}
use Rattle.octets.specs.Numbers.{two_octets, four_octets}
use Rattle.rdata_layout.specs.Names.{AreOctets}
use Rattle.octet_reading.specs.Readers.{Reader, mapped, in_turn, so_many, list_at, kinds}
use Rattle.octet_reading.specs.Reading.{◌>>=◌, two_at, four_at}
use Rattle.octet_reading.specs.Rules.{IsReadAs}
use Rattle.octet_reading.proofs.Base.{two_read}
use Rattle.octet_reading.proofs.Composed.{in_turn_read, so_many_read}
use Rattle.set_fields.proofs.Fields.{fields_are_read}
use Rattle.set_reading.proofs.Whole.{written_reads_back, sets_are_told}
use Rattle.octet_reading.proofs.Rules.{behind_octets, seen_read}
use Rattle.set_reading.specs.Octets.{set_octets, most_octets}
use Rattle.set_reading.specs.RecordSetRecord.{RecordSet}
use Rattle.set_reading.specs.Reading as sets
use Rattle.command_octets.specs.ActionRecord.{Action}
use Rattle.command_octets.specs.ChangeRecord.{Change}
use Rattle.command_octets.specs.declared.commands.Command.{Command}
use Rattle.command_octets.specs.Octets.{action_number, change_octets, IsVersion}
use Rattle.command_codec.specs.Reading.{version_at, action_at, behind_set, set_at, changed, change_at, batched, batch_at, kind_table, command_at, versioned_at}
use Rattle.command_codec.proofs.Fields.{version_read, set_read}
use Rattle.fault_places.specs.Sets.{IsInGrammar}
use Rattle.command_faults.specs.Commands.{IsWholeChange, HasLongSetAt}
use Rattle.command_faults.proofs.Checks.{number_part}
use Rattle.command_faults.proofs.Commands.{set_part, head_part, any_change_at, change_part, any_batch_at, any_command_at, any_front_at}

-- how many octets stand behind what was read, or from the fault on
abbrev pub remains : {A : Type 0} → Result (A × List ℕ) ℕ → ℕ
remains (Ok x) = length x.1
remains (Err left) = left

-- One answer is another; or it is a fault, for which there is evidence, and the other goes on.
abbrev pub Agree : {A : Type 0} → (evidence : ℕ → Type 0) (here any : Result (A × List ℕ) ℕ) → Type 0
Agree evidence here any =
    (here ≡ any) ⊎ ((left : ℕ) × (here ≡ Err left) × evidence left × (remains any < left))

-- the same of what is read behind it
pub agree_then : {A B : Type 0} (evidence : ℕ → Type 0) (here any : Result (A × List ℕ) ℕ)
    (next : A × List ℕ → Result (B × List ℕ) ℕ)
    → ((x : A × List ℕ) → remains (next x) ≤ length x.1)
    → Agree evidence here any → Agree evidence (here >>= next) (any >>= next)
agree_then evidence here any next fewer (inl e) = inl (ap (λ r. r >>= next) e)
agree_then evidence here (Ok x) next fewer (inr w) =
    inr (w.0, ap (λ r. r >>= next) w.1, w.2, omega (arith, fewer x, w.3))
agree_then evidence here (Err left) next fewer (inr w) =
    inr (w.0, ap (λ r. r >>= next) w.1, w.2, w.3)

pub agree_for : {A : Type 0} (evidence other : ℕ → Type 0) (here any : Result (A × List ℕ) ℕ)
    → ((left : ℕ) → evidence left → other left) → Agree evidence here any → Agree other here any
agree_for evidence other here any h (inl e) = inl e
agree_for evidence other here any h (inr w) = inr (w.0, w.1, h w.0 w.2, w.3)

-- behind what both read
pub agree_behind : {A B : Type 0} (evidence : ℕ → Type 0) (front : Result (A × List ℕ) ℕ)
    (here any : A × List ℕ → Result (B × List ℕ) ℕ)
    → ((x : A × List ℕ) → front ≡ Ok x → Agree evidence (here x) (any x))
    → Agree evidence (front >>= here) (front >>= any)
agree_behind evidence (Ok x) here any h = h x refl
agree_behind evidence (Err left) here any h = inl refl

-- ---- sets

pub record BeginsLong (octets : List ℕ) (left : ℕ) : Type 0 where
  pub set : RecordSet
  pub rest : List ℕ
  pub is : IsInGrammar set
  pub long : most_octets < length (set_octets set)
  pub parts : octets ≡ set_octets set ++ rest
  pub from : left ≡ length octets

abbrev limited : (octets : List ℕ) (b : Bool) → RecordSet × List ℕ → Result (RecordSet × List ℕ) ℕ
limited octets b x =
    behind_set octets (cond {A = Result (RecordSet × ℕ) ℕ} b (Err 0)
    (Ok (x.0, length octets - length x.1)))

set_size : (octets : List ℕ) (x : RecordSet × List ℕ) → octets ≡ set_octets x.0 ++ x.1
    → length octets - length x.1 ≡ length (set_octets x.0)
set_size octets x e = omega (arith, ap length e, length-append (set_octets x.0) x.1)

by_length : (octets : List ℕ) (x : RecordSet × List ℕ) (b : Bool)
    → nat_lt most_octets (length octets - length x.1) ≡ b → octets ≡ set_octets x.0 ++ x.1
    → IsInGrammar x.0 → Agree (BeginsLong octets) (limited octets b x) (Ok x)
by_length octets x true s e is =
    let size = set_size octets x e in
    let long = ltb-true most_octets (length octets - length x.1) s in
    let all : length octets - 0 ≡ length octets = omega arith in
    inr (
      length octets,
      ap Err all,
      record {
        set = x.0;
        rest = x.1;
        is = is;
        long = omega (arith, long, size);
        parts = e;
        from = refl;
      },
      omega (arith, ap length e, length-append (set_octets x.0) x.1, long, size),
    )
by_length octets x false s e is =
    let behind : drop (length octets - length x.1) octets ≡ x.1 =
    ap (λ n. drop n octets) (set_size octets x e) ∙ ap (drop (length (set_octets x.0))) e
    ∙ drop-append_seam (set_octets x.0) x.1 in
    inl (ap (λ (t : List ℕ). Ok (x.0, t)) behind)

pub sets_agree : (octets : List ℕ) → AreOctets octets
    → Agree (BeginsLong octets) (set_at octets) (sets.set_at octets)
unfolding set_at sets.read
sets_agree octets are = go (sets.set_at octets) refl
  where
    go : (r : Result (RecordSet × List ℕ) ℕ) → sets.set_at octets ≡ r
        → Agree (BeginsLong octets) (behind_set octets (sets.by_place (length octets) r)) r
    go (Ok x) e =
        let s = set_part.reads.stands octets x.0 x.1 are e in
        by_length octets x (nat_lt most_octets (length octets - length x.1)) refl s.0 s.1
    go (Err left) e =
        let f = set_part.reads.fault octets left e in
        let same : length octets - (length octets - left) ≡ left = omega (arith, f) in
        inl (ap Err same)

pub long_is_told : (octets : List ℕ) (left : ℕ) → BeginsLong octets left → set_at octets ≡ Err left
unfolding set_at sets.read
long_is_told octets left b =
    let read : sets.set_at octets ≡ Ok (b.set, b.rest) =
    ap sets.set_at b.parts ∙ set_part.reads.again b.set b.rest b.is in
    let size = set_size octets (b.set, b.rest) b.parts in
    let long : nat_lt most_octets (length octets - length b.rest) ≡ true =
    lt-ltb most_octets (length octets - length b.rest) (omega (arith, size, b.long)) in
    let all : length octets - 0 ≡ left = omega (arith, b.from) in
    ap (λ r. behind_set octets (sets.by_place (length octets) r)) read
    ∙ ap (λ t. limited octets t (b.set, b.rest)) long ∙ ap Err all

-- ---- changes

pub record ChangesLong (octets : List ℕ) (left : ℕ) : Type 0 where
  pub head : Action × ℕ
  pub inner : List ℕ
  pub begins : BeginsLong inner left
  pub parts : octets ≡ (action_number head.0 ∷ four_octets head.1) ++ inner

changes_agree : (octets : List ℕ) → AreOctets octets
    → Agree (ChangesLong octets) (change_at octets) (any_change_at octets)
unfolding change_at
changes_agree octets are =
    agree_then (ChangesLong octets) (in_turn (in_turn action_at four_at) set_at octets)
    (in_turn (in_turn action_at four_at) sets.set_at octets) (λ x. Ok (changed x.0, x.1))
    (λ x. omega arith)
    (agree_behind (ChangesLong octets) (in_turn action_at four_at octets)
    (λ x. set_at x.1 >>= λ y. Ok ((x.0, y.0), y.1))
    (λ x. sets.set_at x.1 >>= λ y. Ok ((x.0, y.0), y.1))
    (λ x e.
    let s = head_part.reads.stands octets x.0 x.1 are e in
    agree_then (ChangesLong octets) (set_at x.1) (sets.set_at x.1) (λ y. Ok ((x.0, y.0), y.1))
    (λ y. omega arith)
    (agree_for (BeginsLong x.1) (ChangesLong octets) (set_at x.1) (sets.set_at x.1)
    (λ left b. record { head = x.0; inner = x.1; begins = b; parts = s.0 })
    (sets_agree x.1 (behind_octets octets (action_number x.0.0 ∷ four_octets x.0.1) x.1 are s.0)))))

abbrev with_set : Action × ℕ → Result (RecordSet × List ℕ) ℕ
    → Result (((Action × ℕ) × RecordSet) × List ℕ) ℕ
with_set head r = r >>= λ y. Ok ((head, y.0), y.1)

abbrev as_change : Result (((Action × ℕ) × RecordSet) × List ℕ) ℕ → Result (Change × List ℕ) ℕ
as_change r = r >>= λ x. Ok (changed x.0, x.1)

change_is_told : (octets : List ℕ) (left : ℕ) → ChangesLong octets left
    → change_at octets ≡ Err left
unfolding change_at
change_is_told octets left c =
    ap (λ t. mapped changed (in_turn (in_turn action_at four_at) set_at) t) c.parts
    ∙ ap (λ (r : Result ((Action × ℕ) × List ℕ) ℕ).
    as_change (r >>= λ x. with_set x.0 (set_at x.1)))
    (head_part.reads.again c.head c.inner (tt, tt))
    ∙ ap (λ (r : Result (RecordSet × List ℕ) ℕ). as_change (with_set c.head r))
    (long_is_told c.inner left c.begins)

-- ---- lists of changes

pub record AmongLong (n : ℕ) (octets : List ℕ) (left : ℕ) : Type 0 where
  pub changes : List Change
  pub inner : List ℕ
  pub begins : ChangesLong inner left
  pub fewer : length changes < n
  pub each : AllByRecursion IsWholeChange changes
  pub parts : octets ≡ flat_map change_octets changes ++ inner

pub remains_then : {A B : Type 0} (any : Result (A × List ℕ) ℕ) (next : A × List ℕ → Result (B × List ℕ) ℕ)
    → ((x : A × List ℕ) → remains (next x) ≤ length x.1) → remains (any >>= next) ≤ remains any
remains_then (Ok x) next fewer = fewer x
remains_then (Err left) next fewer = omega arith

pub remains_read : {A : Type 0} {is : A → Type 0} {octets_of : A → List ℕ} {read : Reader A}
    → IsReadAs is octets_of read → (octets : List ℕ) → remains (read octets) ≤ length octets
remains_read {A = A} {read = read} reads octets = go (read octets) refl
  where
    go : (r : Result (A × List ℕ) ℕ) → read octets ≡ r → remains r ≤ length octets
    go (Ok x) e = reads.left octets x.0 x.1 e
    go (Err left) e = reads.fault octets left e

pub agree_stop : {A B : Type 0} (evidence : ℕ → Type 0) (here any : Result (A × List ℕ) ℕ)
    (next other : A × List ℕ → Result (B × List ℕ) ℕ) (left : ℕ)
    → ((x : A × List ℕ) → remains (other x) ≤ length x.1)
    → here ≡ Err left → evidence left → remains any < left
    → Agree evidence (here >>= next) (any >>= other)
agree_stop evidence here any next other left fewer e found less =
    inr (left, ap (λ r. r >>= next) e, found, omega (arith, remains_then any other fewer, less))

pub change_read : IsReadAs IsWholeChange change_octets change_at
unfolding change_at
change_read =
    seen_read changed (in_turn_read head_part.reads (set_read (written_reads_back fields_are_read) (sets_are_told fields_are_read)))
    (λ p h. (h.1, refl))
    (λ change h. (((change.action, change.characters), change.set), ((tt, tt), h), refl))

abbrev onward : (read : Reader Change) (n : ℕ) → Change × List ℕ → Result (List Change × List ℕ) ℕ
onward read n x = so_many read n x.1 >>= λ others. Ok (x.0 ∷ others.0, others.1)

onward_fewer : (n : ℕ) (x : Change × List ℕ) → remains (onward any_change_at n x) ≤ length x.1
onward_fewer n x =
    omega (
      arith,
      remains_then (so_many any_change_at n x.1) (λ others. Ok (x.0 ∷ others.0, others.1))
          (λ y. omega arith),
      remains_read (so_many_read change_part.reads n) x.1,
    )

many_agree : (n : ℕ) (octets : List ℕ) → AreOctets octets
    → Agree (AmongLong n octets) (so_many change_at n octets) (so_many any_change_at n octets)
many_agree zero octets are = inl refl
many_agree (suc n) octets are =
    elim (changes_agree octets are) [
      | inl e ↦
          subst (λ r. Agree (AmongLong (suc n) octets) (change_at octets >>= onward change_at n)
          (r >>= onward any_change_at n)) e
          (agree_behind (AmongLong (suc n) octets) (change_at octets) (onward change_at n)
          (onward any_change_at n)
          (λ x f.
          let s = change_read.stands octets x.0 x.1 are f in
          agree_then (AmongLong (suc n) octets) (so_many change_at n x.1)
          (so_many any_change_at n x.1) (λ others. Ok (x.0 ∷ others.0, others.1))
          (λ y. omega arith)
          (agree_for (AmongLong n x.1) (AmongLong (suc n) octets) (so_many change_at n x.1)
          (so_many any_change_at n x.1)
          (λ left a. record {
            changes = x.0 ∷ a.changes;
            inner = a.inner;
            begins = a.begins;
            fewer = omega (arith, a.fewer);
            each = (s.1, a.each);
            parts = s.0 ∙ ap (λ t. change_octets x.0 ++ t) a.parts
                ∙ sym (append_assoc (change_octets x.0) (flat_map change_octets a.changes) a.inner);
          })
          (many_agree n x.1 (behind_octets octets (change_octets x.0) x.1 are s.0)))))
      | inr w ↦
          agree_stop (AmongLong (suc n) octets) (change_at octets) (any_change_at octets)
          (onward change_at n) (onward any_change_at n) w.0 (onward_fewer n) w.1
          (record {
            changes = [];
            inner = octets;
            begins = w.2;
            fewer = omega arith;
            each = tt;
            parts = refl;
          }) w.3
    ]

many_told : (left : ℕ) (inner : List ℕ) → ChangesLong inner left → (changes : List Change) (n : ℕ)
    → length changes < n → AllByRecursion IsWholeChange changes
    → so_many change_at n (flat_map change_octets changes ++ inner) ≡ Err left
many_told left inner begins [] zero fewer each = absurd (omega (arith, fewer))
many_told left inner begins [] (suc n) fewer each =
    ap (λ r. r >>= onward change_at n) (change_is_told inner left begins)
many_told left inner begins (x ∷ changes) zero fewer each = absurd (omega (arith, fewer))
many_told left inner begins (x ∷ changes) (suc n) fewer each =
    let rest = flat_map change_octets changes ++ inner in
    ap (λ t. change_at t >>= onward change_at n)
    (append_assoc (change_octets x) (flat_map change_octets changes) inner)
    ∙ ap (λ r. r >>= onward change_at n) (change_read.again x rest each.0)
    ∙ ap (λ r. r >>= λ others. Ok (x ∷ others.0, others.1))
    (many_told left inner begins changes n (omega (arith, fewer)) each.1)

-- ---- batches

pub record BatchLong (octets : List ℕ) (left : ℕ) : Type 0 where
  pub zone : ℕ
  pub count : ℕ
  pub few : count < 2 ^ 16
  pub inner : List ℕ
  pub among : AmongLong count inner left
  pub parts : octets ≡ four_octets zone ++ (two_octets count ++ inner)

batch_agree : (octets : List ℕ) → AreOctets octets
    → Agree (BatchLong octets) (batch_at octets) (any_batch_at octets)
unfolding batch_at
batch_agree octets are =
    agree_then (BatchLong octets) (in_turn four_at (list_at change_at) octets)
    (in_turn four_at (list_at any_change_at) octets) (λ x. Ok (batched x.0, x.1)) (λ x. omega arith)
    (agree_behind (BatchLong octets) (four_at octets)
    (λ x. list_at change_at x.1 >>= λ y. Ok ((x.0, y.0), y.1))
    (λ x. list_at any_change_at x.1 >>= λ y. Ok ((x.0, y.0), y.1))
    (λ x e.
    let s = number_part.reads.stands octets x.0 x.1 are e in
    let are_x = behind_octets octets (four_octets x.0) x.1 are s.0 in
    agree_then (BatchLong octets) (list_at change_at x.1) (list_at any_change_at x.1)
    (λ y. Ok ((x.0, y.0), y.1)) (λ y. omega arith)
    (agree_behind (BatchLong octets) (two_at x.1) (λ c. so_many change_at c.0 c.1)
    (λ c. so_many any_change_at c.0 c.1)
    (λ c f.
    let t = two_read.stands x.1 c.0 c.1 are_x f in
    agree_for (AmongLong c.0 c.1) (BatchLong octets) (so_many change_at c.0 c.1)
    (so_many any_change_at c.0 c.1)
    (λ left a. record {
      zone = x.0;
      count = c.0;
      few = t.1;
      inner = c.1;
      among = a;
      parts = s.0 ∙ ap (λ r. four_octets x.0 ++ r) t.0;
    })
    (many_agree c.0 c.1 (behind_octets x.1 (two_octets c.0) c.1 are_x t.0))))))

abbrev with_changes : ℕ → Result (List Change × List ℕ) ℕ
    → Result ((ℕ × List Change) × List ℕ) ℕ
with_changes zone r = r >>= λ y. Ok ((zone, y.0), y.1)

abbrev as_batch : Result ((ℕ × List Change) × List ℕ) ℕ → Result (Command × List ℕ) ℕ
as_batch r = r >>= λ x. Ok (batched x.0, x.1)

batch_told : (octets : List ℕ) (left : ℕ) → BatchLong octets left → batch_at octets ≡ Err left
unfolding batch_at
batch_told octets left b =
    let a = b.among in
    ap (λ t. mapped batched (in_turn four_at (list_at change_at)) t) b.parts
    ∙ ap (λ (r : Result (ℕ × List ℕ) ℕ).
    as_batch (r >>= λ x. with_changes x.0 (list_at change_at x.1)))
    (number_part.reads.again b.zone (two_octets b.count ++ b.inner) tt)
    ∙ ap (λ (r : Result (ℕ × List ℕ) ℕ).
    as_batch (with_changes b.zone (r >>= λ c. so_many change_at c.0 c.1)))
    (two_read.again b.count b.inner b.few)
    ∙ ap (λ (r : Result (List Change × List ℕ) ℕ). as_batch (with_changes b.zone r))
    (ap (so_many change_at b.count) a.parts
    ∙ many_told left a.inner a.begins a.changes b.count a.fewer a.each)

-- ---- commands

by_kind : {A : Type 0} (evidence : ℕ → Type 0) (one two three : Bool)
    (p q here any r : Result (A × List ℕ) ℕ) → (three ≡ true → Agree evidence here any)
    → Agree evidence (cond one p (cond two q (cond three here r)))
    (cond one p (cond two q (cond three any r)))
by_kind evidence true two three p q here any r h = inl refl
by_kind evidence false true three p q here any r h = inl refl
by_kind evidence false false true p q here any r h = h refl
by_kind evidence false false false p q here any r h = inl refl

abbrev CommandLong : List ℕ → ℕ → Type 0
CommandLong octets left = (rest : List ℕ) × (octets ≡ 3 ∷ rest) × BatchLong rest left

command_agree : (version : ℕ) (octets : List ℕ) → AreOctets octets
    → Agree (CommandLong octets) (command_at version octets) (any_command_at version octets)
unfolding command_at
command_agree version [] are = inl refl
command_agree version (kind ∷ rest) are =
    by_kind (CommandLong (kind ∷ rest)) (eqb kind 1) (eqb kind 2) (eqb kind 3) _ _
    (batch_at rest) (any_batch_at rest) _
    (λ e.
    agree_for (BatchLong rest) (CommandLong (kind ∷ rest)) (batch_at rest) (any_batch_at rest)
    (λ left b. (rest, ap (λ k. k ∷ rest) (eqb-true kind 3 e), b))
    (batch_agree rest are.1))

command_told : (version : ℕ) (octets : List ℕ) (left : ℕ) → CommandLong octets left
    → command_at version octets ≡ Err left
unfolding command_at
command_told version octets left c =
    ap (λ t. kinds (kind_table version) t) c.1 ∙ batch_told c.0 left c.2

abbrev FrontLong : List ℕ → ℕ → Type 0
FrontLong octets left =
    (version : ℕ) × (rest : List ℕ) × IsVersion version × (octets ≡ version ∷ rest)
    × CommandLong rest left

pub front_agrees : (octets : List ℕ) → AreOctets octets
    → Agree (FrontLong octets) (versioned_at octets) (any_front_at octets)
unfolding versioned_at
front_agrees octets are =
    agree_behind (FrontLong octets) (version_at octets)
    (λ x. command_at x.0 x.1 >>= λ y. Ok ((x.0, y.0), y.1))
    (λ x. any_command_at x.0 x.1 >>= λ y. Ok ((x.0, y.0), y.1))
    (λ x e.
    let s = version_read.stands octets x.0 x.1 are e in
    agree_then (FrontLong octets) (command_at x.0 x.1) (any_command_at x.0 x.1)
    (λ y. Ok ((x.0, y.0), y.1)) (λ y. omega arith)
    (agree_for (CommandLong x.1) (FrontLong octets) (command_at x.0 x.1) (any_command_at x.0 x.1)
    (λ left c. (x.0, x.1, s.1, s.0, c))
    (command_agree x.0 x.1 (behind_octets octets (x.0 ∷ []) x.1 are s.0))))

abbrev with_command : ℕ → Result (Command × List ℕ) ℕ → Result ((ℕ × Command) × List ℕ) ℕ
with_command version r = r >>= λ y. Ok ((version, y.0), y.1)

front_told : (octets : List ℕ) (left : ℕ) → FrontLong octets left → versioned_at octets ≡ Err left
unfolding versioned_at
front_told octets left f =
    ap (λ t. version_at t >>= λ x. with_command x.0 (command_at x.0 x.1)) f.3
    ∙ ap (λ (r : Result (ℕ × List ℕ) ℕ). r >>= λ x. with_command x.0 (command_at x.0 x.1))
    (version_read.again f.0 f.1 f.2)
    ∙ ap (λ (r : Result (Command × List ℕ) ℕ). with_command f.0 r)
    (command_told f.0 f.1 left f.4)

-- ---- the same by places

abbrev ahead : (version zone count : ℕ) (changes : List Change) (action : Action) (characters : ℕ)
    → List ℕ
ahead version zone count changes action characters =
    version ∷ 3 ∷ (four_octets zone ++ two_octets count ++ flat_map change_octets changes
    ++ (action_number action ∷ four_octets characters))

regrouped : (version zone count : ℕ) (changes : List Change) (action : Action) (characters : ℕ)
    (inner : List ℕ)
    → ahead version zone count changes action characters ++ inner
    ≡ version ∷ 3 ∷ (four_octets zone ++ (two_octets count ++ (flat_map change_octets changes
    ++ ((action_number action ∷ four_octets characters) ++ inner))))
regrouped version zone count changes action characters inner =
    ap (λ t. version ∷ 3 ∷ (four_octets zone ++ (two_octets count ++ t)))
    (append_assoc (flat_map change_octets changes) (action_number action ∷ four_octets characters)
    inner)

abbrev pub LongAt : List ℕ → ℕ → Type 0
LongAt octets left = (place : ℕ) × HasLongSetAt octets place × (place + left ≡ length octets)

pub long_of : (octets : List ℕ) (left : ℕ) → FrontLong octets left → LongAt octets left
long_of octets left f =
    let b = f.4.2 in
    let a = b.among in
    let c = a.begins in
    let d = c.begins in
    let front = ahead f.0 b.zone b.count a.changes c.head.0 c.head.1 in
    let parts : octets ≡ front ++ (set_octets d.set ++ d.rest) =
    f.3
    ∙ ap (λ t. f.0 ∷ t) (f.4.1
    ∙ ap (λ t. 3 ∷ t) (b.parts
    ∙ ap (λ t. four_octets b.zone ++ (two_octets b.count ++ t)) (a.parts
    ∙ ap (λ t. flat_map change_octets a.changes ++ t) (c.parts
    ∙ ap (λ t. (action_number c.head.0 ∷ four_octets c.head.1) ++ t) d.parts))))
    ∙ sym (regrouped f.0 b.zone b.count a.changes c.head.0 c.head.1 (set_octets d.set ++ d.rest)) in (
      length front,
      record {
        version = f.0;
        zone = b.zone;
        count = b.count;
        changes = a.changes;
        action = c.head.0;
        characters = c.head.1;
        set = d.set;
        rest = d.rest;
        is_version = f.2;
        few = b.few;
        fewer = a.fewer;
        each = a.each;
        is = d.is;
        long = d.long;
        parts = parts;
        behind = refl;
      },
      omega (
        arith,
        ap length parts,
        length-append front (set_octets d.set ++ d.rest),
        d.from,
        ap length d.parts,
      ),
    )

pub long_is_front : (octets : List ℕ) (place : ℕ) → HasLongSetAt octets place
    → (left : ℕ) × (versioned_at octets ≡ Err left) × (place + left ≡ length octets)
long_is_front octets place h =
    let inner = set_octets h.set ++ h.rest in
    let front = ahead h.version h.zone h.count h.changes h.action h.characters in (
      length inner,
      front_told octets (length inner) (
        h.version,
        3 ∷ (four_octets h.zone ++ (two_octets h.count ++ (flat_map change_octets h.changes
            ++ ((action_number h.action ∷ four_octets h.characters) ++ inner)))),
        h.is_version,
        h.parts ∙ regrouped h.version h.zone h.count h.changes h.action h.characters inner,
        (
          four_octets h.zone ++ (two_octets h.count ++ (flat_map change_octets h.changes
              ++ ((action_number h.action ∷ four_octets h.characters) ++ inner))),
          refl,
          record {
            zone = h.zone;
            count = h.count;
            few = h.few;
            inner = flat_map change_octets h.changes
                ++ ((action_number h.action ∷ four_octets h.characters) ++ inner);
            among = record {
              changes = h.changes;
              inner = (action_number h.action ∷ four_octets h.characters) ++ inner;
              begins = record {
                head = (h.action, h.characters);
                inner = inner;
                begins = record {
                  set = h.set;
                  rest = h.rest;
                  is = h.is;
                  long = h.long;
                  parts = refl;
                  from = refl;
                };
                parts = refl;
              };
              fewer = h.fewer;
              each = h.each;
              parts = refl;
            };
            parts = refl;
          },
        ),
      ),
      omega (arith, ap length h.parts, length-append front inner, h.behind),
    )
