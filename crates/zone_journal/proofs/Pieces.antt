-- The pieces of a compaction.
use Rattle.std.proofs.Common.{◌≡◌, inl, inr, ℕ, zero, suc, ◌+◌, ◌-◌, ◌<◌, ◌≤◌, ◌^◌, List, [], ◌∷◌, ◌++◌, length, take, drop, Option, Some, None, refl, sym, ◌∙◌, ap, subst, arith, append_assoc, append-nil, length-append, length-take-le, take-take, take-append-drop}
use Rattle.std.proofs.lemmas.List.{take_at, drop_at, take_all, drop-take}
use Rattle.std.proofs.Math.Seq.{take-append-add}
use Rattle.file_building.specs.Disk.{Only, Rests, written}
use Rattle.file_building.proofs.Moments.{only_still}
use Rattle.file_building.specs.Layout.{front, inner, opened, body, AreShort, OpensTo, generation_of}
use Rattle.file_building.specs.Append.{EndsAt, StandsOn as EndsOn}
use Rattle.file_building.specs.Closing.{closed_file, IsWholeOrShut}
use Rattle.file_building.proofs.Opening.{opens_to_one}
use Rattle.file_building.proofs.AppendLemmas.{was_told}
use Rattle.zone_journal.specs.Pairs.{Yields, IsBelow, OpensPair, opposite}
use Rattle.zone_journal.specs.declared.answers.Side.{Side}
use Rattle.zone_journal.specs.declared.answers.Side.TheVariants.{A, B}
use Rattle.file_building.specs.Building.{Plan, IsShut, gate_opened}
use Rattle.zone_journal.specs.Standing.{State, PlanFits, IsUnderway, HasCopied, StandsWith, planned, planned_length, left_of}
use Rattle.zone_journal.specs.Compacting.{with_plan, IsLast, IsSince, IsOldOrNew, YieldsOrOpens, OtherLeft, PieceLeaves}
use Rattle.zone_journal.specs.declared.answers.Piece.{Piece}
use Rattle.zone_journal.specs.declared.answers.Piece.TheVariants as piece
use Rattle.file_building.proofs.Gates.{not_open, has_generation, only_shut, written_shut}
use Rattle.zone_journal.proofs.Stores.{closed_is, closed_shut}
use Rattle.zone_journal.proofs.Appends.{opened-append, length-front, length-since, length-planned, ends_there}

pub shut_yields : (side : Side) (n : ℕ) (c : List ℕ) → IsShut c → Yields side n c
shut_yields side n c shut o = absurd (not_open c shut o)

pub whole_or_shut_yields : (side : Side) (n : ℕ) (y c : List ℕ) → Yields side n y
    → IsWholeOrShut y c → Yields side n c
whole_or_shut_yields side n y c yields (inl same) = λ o. subst (Yields side n) (sym same) yields o
whole_or_shut_yields side n y c yields (inr shut) = λ o. absurd (shut o)

pub same_plan : (p q : Plan) → Path (Option Plan) (Some p) (Some q) → p ≡ q
same_plan p q is = Prim.cc

-- the compaction's gate was closed
module _ {D : Type 0} (reading : D → Option (List ℕ)) (images : D → List ℕ
    → Type 0) (v : State) (p : Plan) (active other new : D)
    (stands : StandsWith reading images (with_plan v p) active other) (first : p.next ≡ 0)
    (untold : reading other ≡ None → reading new ≡ None) (closed : (y : List ℕ)
    → reading other ≡ Some y → (reading new ≡ Some (closed_file y))
    × Only (closed_file y) (images new)) where
  same : (y now : List ℕ) → reading new ≡ Some y → reading new ≡ Some now → now ≡ y
  same y now told is = Prim.cc

  was : (y : List ℕ) → reading new ≡ Some y → (b : List ℕ) × (closed_file b ≡ y)
      × Only (closed_file b) (images new) × (reading other ≡ Some b)
  was y told =
      let before = was_told (reading other) (reading new) untold y told in
      let now = closed before.0 before.1 in
      (before.0, same y (closed_file before.0) told now.0, now.1, before.1)

  shut : (y : List ℕ) → reading new ≡ Some y → (c : List ℕ) → images new c → IsShut c
  shut y told c now = let w = was y told in
      only_shut (closed_file w.0) (images new) w.2 (closed_shut w.0) c now

  fits : PlanFits v p
  fits = let f = stands.plan p refl in
      record { generation = f.generation; from = f.from; length = f.length; next = f.next }

  pub closed_stands : StandsWith reading images (with_plan v (record p { next = 1 })) active new
  closed_stands = record {
    journal = stands.journal;
    generation = stands.generation;
    fits = stands.fits;
    yields = λ y told c now. shut_yields v.side v.generation c (shut y told c now);
    idle = λ idle. absurd (let never : 1 ≡ 0 = idle (record p { next = 1 }) refl in
        omega (arith, never));
    plan = λ q is. subst (PlanFits (with_plan v (record p { next = 1 })))
        (same_plan (record p { next = 1 }) q is)
        (record {
          generation = fits.generation;
          from = fits.from;
          length = fits.length;
          next =
              omega arith;
        });
    underway =
        λ q is one y told. subst (λ (r : Plan). IsUnderway r.next y (images new))
        (same_plan (record p { next = 1 }) q is)
        (let w = was y told in
        record {
          reaches = omega (arith, ap length w.1, ap length (closed_is w.0));
          shut =
              subst IsShut w.1 (closed_shut w.0);
          all_shut = shut y told;
        });
    copied = λ q is x y told_x told_y.
        subst (λ (r : Plan). HasCopied (with_plan v (record p { next = 1 })) r x y)
        (same_plan (record p { next = 1 }) q is)
        (let w = was y told_y in
        let copy = stands.copied p refl x w.0 told_x w.3 in
        record {
          snapshot = copy.snapshot;
          entries = copy.entries;
          since = copy.since;
          opens =
              copy.opens;
          place = copy.place;
          bytes = refl;
        });
  }

-- what the compaction copies of the active file
pub since_bytes : (at from : ℕ) (x : List ℕ) (g : ℕ) (s : List ℕ) (es since : List (List ℕ))
    → OpensTo x g s (es ++ since) → at ≡ length (front g s (es ++ since))
    → from ≡ length (front g s es) → drop from (take at x) ≡ opened since
since_bytes at from x g s es since o at_is from_is =
    let whole : take at x ≡ front g s (es ++ since) = ap (take at) o.is
    ∙ take_at (front g s (es ++ since)) (o.gate ∷ o.rest) at (sym at_is) in
    let split : front g s (es ++ since) ≡ front g s es ++ opened since =
    ap (λ (l : List ℕ). 1 ∷ (inner g s ++ l)) (opened-append es since)
    ∙ ap (λ (l : List ℕ). 1 ∷ l) (sym (append_assoc (inner g s) (opened es) (opened since))) in
    ap (drop from) (whole ∙ split) ∙ drop_at (front g s es) (opened since) from (sym from_is)

take_add : (k n : ℕ) (w : List ℕ) → take (k + n) w ≡ take k w ++ take n (drop k w)
take_add k n w =
    sym (take-append-drop k (take (k + n) w))
    ∙ (λ i. take-take k (k + n) w (omega arith) i ++ drop-take k n w i)

-- the bytes that are written after n more
pub written_more : (y piece w : List ℕ) (next n : ℕ) → 1 ≤ next → next ≤ length y → length piece ≡ n
    → take (next - 1) (drop 1 y) ≡ take (next - 1) w → piece ≡ take n (drop (next - 1) w)
    → take (next + n - 1) (drop 1 (written y next piece)) ≡ take (next + n - 1) w
written_more y piece w zero n one reaches long was more = absurd (omega (arith, one))
written_more [] piece w (suc k) n one reaches long was more = absurd (omega (arith, reaches))
written_more (gate ∷ rest) piece w (suc k) n one reaches long was more =
    let k_is : suc k - 1 ≡ k = omega arith in
    let total : suc k + n - 1 ≡ k + n = omega arith in
    let front_long : length (take k rest) ≡ k = length-take-le k rest (omega (arith, reaches)) in
    let tail : List ℕ = drop (suc k + length piece) (gate ∷ rest) in
    let all : take (k + n) (take k rest ++ (piece ++ tail)) ≡ take k rest ++ piece =
    ap (λ m. take (m + n) (take k rest ++ (piece ++ tail))) (sym front_long)
    ∙ take-append-add (take k rest) (piece ++ tail) n
    ∙ ap (λ (l : List ℕ). take k rest ++ l) (take_at piece tail n long) in
    let was_k : take k rest ≡ take k w = subst (λ m. take m rest ≡ take m w) k_is was in
    let more_k : piece ≡ take n (drop k w) = subst (λ m. piece ≡ take n (drop m w)) k_is more in
    ap (λ m. take m (take k rest ++ (piece ++ tail))) total
    ∙ all
    ∙ (λ i. was_k i ++ more_k i)
    ∙ sym (take_add k n w)
    ∙ ap (λ m. take m w) (sym total)

pub length-written_at : (y piece : List ℕ) (next : ℕ) → next ≤ length y
    → next + length piece ≤ length (written y next piece)
length-written_at y piece next reaches =
    omega (
      arith,
      length-append (take next y) (piece ++ drop (next + length piece) y),
      length-append piece (drop (next + length piece) y),
      length-take-le next y reaches,
    )

-- the file that was opened
pub gate_opened_is : (y : List ℕ) (next : ℕ) → 1 ≤ next → IsShut y
    → gate_opened y next ≡ 1 ∷ (take (next - 1) (drop 1 y) ++ 0 ∷ drop (next + 1) y)
gate_opened_is y zero one shut = absurd (omega (arith, one))
gate_opened_is [] (suc k) one shut = let never : Path (List ℕ) [] (shut.gate ∷ shut.rest) =
    shut.is in absurd (Prim.cc)
gate_opened_is (gate ∷ rest) (suc k) one shut =
    let k_is : suc k - 1 ≡ k = omega arith in
    ap (λ m. 1 ∷ (take m rest ++ 0 ∷ drop (suc k + 1) (gate ∷ rest))) (sym k_is)

prefix_same : (es fs since more : List (List ℕ)) → es ++ since ≡ fs ++ more
    → length (opened es) ≡ length (opened fs) → since ≡ more
prefix_same [] [] since more is long = is
prefix_same [] (f ∷ fs) since more is long = absurd (omega (arith, long))
prefix_same (e ∷ es) [] since more is long = absurd (omega (arith, long))
prefix_same (e ∷ es) (f ∷ fs) since more is long =
    let first : e ≡ f = Prim.cc in
    let rest : es ++ since ≡ fs ++ more = Prim.cc in
    prefix_same es fs since more rest
    (omega (
      arith,
      long,
      ap length (ap body first),
      length-append (body e) (opened es),
      length-append (body f) (opened fs),
    ))

are_short_after : (es since : List (List ℕ)) → AreShort (es ++ since) → AreShort since
are_short_after [] since short = short
are_short_after (e ∷ es) since short = are_short_after es since short.1

-- the new file, when only its gates are left
module _ (v : State) (p : Plan) (x y : List ℕ) (images : List ℕ
    → Type 0) (copy : HasCopied (with_plan v p) p x y) (underway : IsUnderway p.next y images)
    (fits : PlanFits (with_plan v p) p) (last : IsLast v p)
    (at_is : v.at ≡ length (front v.generation copy.snapshot (copy.entries ++ copy.since)))
    (short : length p.snapshot < 2 ^ 32) where
  written_all : take (p.next - 1) (drop 1 y) ≡ planned (v.generation + 1) p.snapshot copy.since
  written_all =
      copy.bytes
      ∙ take_all (p.next - 1) (planned (v.generation + 1) p.snapshot copy.since)
      (omega (
        arith,
        last.1,
        last.0,
        fits.next,
        fits.from,
        at_is,
        copy.place,
        length-since v.generation copy.snapshot copy.entries copy.since,
        length-planned (v.generation + 1) p.snapshot copy.since,
      ))

  pub opens_new : OpensTo (gate_opened y p.next) (v.generation + 1) p.snapshot copy.since
  opens_new = record {
    gate = 0;
    rest = drop (p.next + 1) y;
    is = gate_opened_is y p.next last.0 underway.shut
        ∙ ap (λ (l : List ℕ). 1 ∷ (l ++ 0 ∷ drop (p.next + 1) y)) written_all;
    closed = λ never. omega (arith, never);
    generation_fits = fits.generation;
    snapshot_fits = short;
    entries_fit = are_short_after copy.entries copy.since copy.opens.entries_fit;
  }

  pub place_new : planned_length v p - 1 ≡ length (front (v.generation + 1) p.snapshot copy.since)
  place_new =
      omega (
        arith,
        length-front (v.generation + 1) p.snapshot copy.since,
        fits.from,
        at_is,
        copy.place,
        length-since v.generation copy.snapshot copy.entries copy.since,
      )

  pub ends_new : EndsAt (planned_length v p - 1) (gate_opened y p.next)
  ends_new =
      record {
        generation = v.generation + 1;
        snapshot = p.snapshot;
        entries = copy.since;
        opens =
            opens_new;
        place = place_new;
      }

-- the entries since are those that were copied
pub same_since : (v : State) (p : Plan) (x y : List ℕ) → HasCopied (with_plan v p) p x y
    → (since : List (List ℕ)) → (c : HasCopied (with_plan v p) p x y)
    → IsSince v.generation p x since → c.since ≡ since
same_since v p x y h since c is =
    let one =
    opens_to_one x v.generation v.generation c.snapshot is.snapshot (c.entries
    ++ c.since) (is.entries ++ since) c.opens is.opens in
    prefix_same c.entries is.entries c.since since one.entries
    (omega (
      arith,
      c.place,
      is.place,
      ap length one.snapshot,
      length-front v.generation c.snapshot c.entries,
      length-front v.generation is.snapshot is.entries,
    ))

old_below : (side : Side) (h n : ℕ) → h ≡ n → IsBelow (opposite side) h (n + 1)
old_below A h n is = omega (arith, is)
old_below B h n is = omega (arith, is)

-- more bytes were copied
module _ {D : Type 0} (reading : D → Option (List ℕ)) (images : D → List ℕ → Type 0) (moment : D
    → ℕ) (images_since : D → ℕ → List ℕ
    → Type 0) (v : State) (p : Plan) (active new_active other new : D)
    (stands : StandsWith reading images (with_plan v p) active other) (n : ℕ) (piece : List ℕ)
    (one : 1 ≤ p.next) (room : n + 2 ≤ left_of v p) (long : length piece ≡ n)
    (rests : Rests reading images moment images_since active new_active) (untold : reading other
    ≡ None → reading new ≡ None)
    (filled : (x : List ℕ) → reading active ≡ Some x
    → piece ≡ take n
    (drop (p.next - 1) (inner (v.generation + 1) p.snapshot ++ drop p.from (take v.at x))))
    (copied : (y : List ℕ) → reading other ≡ Some y → reading new ≡ Some (written y p.next piece))
    (shut : (y : List ℕ) → reading other ≡ Some y → (c : List ℕ) → images new c → IsShut c) where
  before : (y : List ℕ) → reading new ≡ Some y → (b : List ℕ) × (written b p.next piece ≡ y)
      × (reading other ≡ Some b)
  before y told =
      let was = was_told (reading other) (reading new) untold y told in
      let now = copied was.0 was.1 in
      let same : written was.0 p.next piece ≡ y = Prim.cc in
      (was.0, same, was.1)

  all_fits : PlanFits (with_plan v p) p
  all_fits = stands.plan p refl

  abbrev after : State
  after = with_plan v (record p { next = p.next + n })

  more_fits : PlanFits after (record p { next = p.next + n })
  more_fits =
      record {
        generation = all_fits.generation;
        from = all_fits.from;
        length =
            all_fits.length;
        next = omega (arith, all_fits.next, one, room);
      }

  is_underway : (y : List ℕ) → reading new ≡ Some y → IsUnderway (p.next + n) y (images new)
  is_underway y told =
      let was = before y told in
      let under = stands.underway p refl one was.0 was.2 in
      record {
        reaches =
            omega (
              arith,
              length-written_at was.0 piece p.next under.reaches,
              long,
              ap length was.1,
            );
        shut = subst IsShut was.1 (written_shut was.0 p.next piece one under.shut);
        all_shut = shut was.0 was.2;
      }

  has_copied : (x y : List ℕ) → reading new_active ≡ Some x → reading new ≡ Some y
      → HasCopied after (record p { next = p.next + n }) x y
  has_copied x y told_x told_y =
      let told = sym rests.reads ∙ told_x in
      let was = before y told_y in
      let under = stands.underway p refl one was.0 was.2 in
      let copy = stands.copied p refl x was.0 told was.2 in
      let at_is =
      ends_there v.at x (stands.journal.file x told) v.generation copy.snapshot (copy.entries
      ++ copy.since) copy.opens in
      let since =
      since_bytes v.at p.from x v.generation copy.snapshot copy.entries copy.since copy.opens
      at_is copy.place in
      let from_planned : piece
      ≡ take n (drop (p.next - 1) (planned (v.generation + 1) p.snapshot copy.since)) =
      filled x told
      ∙ ap (λ (l : List ℕ).
      take n (drop (p.next - 1) (inner (v.generation + 1) p.snapshot ++ l))) since in
      record {
        snapshot = copy.snapshot;
        entries = copy.entries;
        since = copy.since;
        opens = copy.opens;
        place = copy.place;
        bytes = subst (λ l. take (p.next + n - 1) (drop 1 l)
            ≡ take (p.next + n - 1) (planned (v.generation + 1) p.snapshot copy.since)) was.1
            (written_more was.0 piece (planned (v.generation + 1) p.snapshot copy.since) p.next n
            one under.reaches long copy.bytes from_planned);
      }

  pub more_stands : StandsWith reading images (with_plan v (record p { next = p.next + n })) new_active
      new
  more_stands = record {
    journal = record {
      within = stands.journal.within;
      file = λ b told. stands.journal.file b (sym rests.reads ∙ told);
      durable = λ b told. only_still rests (stands.journal.durable b (sym rests.reads ∙ told));
    };
    generation = λ x told. stands.generation x (sym rests.reads ∙ told);
    fits = stands.fits;
    yields = λ y told c now. let was = before y told in
        shut_yields v.side v.generation c (shut was.0 was.2 c now);
    idle = λ idle. absurd (let never : p.next + n ≡ 0 =
        idle (record p { next = p.next + n }) refl in omega (arith, never, one));
    plan = λ q is. subst (PlanFits after) (same_plan (record p { next = p.next + n }) q is)
        more_fits;
    underway =
        λ q is le y told. subst (λ (r : Plan). IsUnderway r.next y (images new))
        (same_plan (record p { next = p.next + n }) q is) (is_underway y told);
    copied = λ q is x y told_x told_y. subst (λ (r : Plan). HasCopied after r x y)
        (same_plan (record p { next = p.next + n }) q is) (has_copied x y told_x told_y);
  }

-- the new file was opened
module _ {D : Type 0} (reading : D → Option (List ℕ)) (images : D → List ℕ
    → Type 0) (v : State) (p : Plan) (active other : D)
    (stands : StandsWith reading images (with_plan v p) active other) (last : IsLast v p) where
  short : length p.snapshot < 2 ^ 32
  short = omega (arith, (stands.plan p refl).length)

  -- what it opens to, by the entries that were copied
  pub opens_since : (x y : List ℕ) → reading active ≡ Some x → reading other ≡ Some y
      → (since : List (List ℕ)) → IsSince v.generation p x since
      → OpensTo (gate_opened y p.next) (v.generation + 1) p.snapshot since
  opens_since x y told_x told_y since is =
      let copy = stands.copied p refl x y told_x told_y in
      let at_is =
      ends_there v.at x (stands.journal.file x told_x) v.generation copy.snapshot (copy.entries
      ++ copy.since) copy.opens in
      subst (λ es. OpensTo (gate_opened y p.next) (v.generation + 1) p.snapshot es)
      (same_since v p x y copy since copy is)
      (opens_new v p x y (images other) copy (stands.underway p refl last.0 y told_y)
      (stands.plan p refl) last at_is short)

  module _ (new : D) (untold : reading other ≡ None → reading new ≡ None) (alike : (y : List ℕ)
      → reading new ≡ Some y → (x : List ℕ) × (reading active ≡ Some x))
      (opened : (y : List ℕ) → reading other ≡ Some y → (reading new ≡ Some (gate_opened y p.next))
      × Only (gate_opened y p.next) (images new)) where
    there : (b : List ℕ) → reading new ≡ Some b → (y : List ℕ) × (gate_opened y p.next ≡ b)
        × Only (gate_opened y p.next) (images new) × (reading other ≡ Some y)
    there b told =
        let was = was_told (reading other) (reading new) untold b told in
        let now = opened was.0 was.1 in
        let same : gate_opened was.0 p.next ≡ b = Prim.cc in
        (was.0, same, now.1, was.1)

    pub ends : (b : List ℕ) → reading new ≡ Some b → EndsAt (planned_length v p - 1) b
    ends b told =
        let was = there b told in
        let x = alike b told in
        let copy = stands.copied p refl x.0 was.0 x.1 was.3 in
        let at_is =
        ends_there v.at x.0 (stands.journal.file x.0 x.1) v.generation copy.snapshot
        (copy.entries ++ copy.since) copy.opens in
        subst (EndsAt (planned_length v p - 1)) was.1
        (ends_new v p x.0 was.0 (images other) copy (stands.underway p refl last.0 was.0 was.3)
        (stands.plan p refl) last at_is short)

    pub durable : (b : List ℕ) → reading new ≡ Some b → Only b (images new)
    durable b told = let was = there b told in subst (λ l. Only l (images new)) was.1 was.2

    generation : (b : List ℕ) → reading new ≡ Some b → generation_of b ≡ v.generation + 1
    generation b told =
        let was = there b told in
        let x = alike b told in
        let copy = stands.copied p refl x.0 was.0 x.1 was.3 in
        let at_is =
        ends_there v.at x.0 (stands.journal.file x.0 x.1) v.generation copy.snapshot
        (copy.entries ++ copy.since) copy.opens in
        ap generation_of (sym was.1)
        ∙ has_generation (gate_opened was.0 p.next) (v.generation + 1) p.snapshot copy.since
        (opens_new v p x.0 was.0 (images other) copy (stands.underway p refl last.0 was.0 was.3)
        (stands.plan p refl) last at_is short)

    never : (q : Plan) → Path (Option Plan) None (Some q) → ⊥
    never q is = Prim.cc

    pub new_stands : EndsOn reading images (planned_length v p - 1) new
        → StandsWith reading images
        (record {
          side = opposite v.side;
          generation = v.generation + 1;
          at =
              planned_length v p - 1;
          plan = None;
        }) new active
    new_stands journal = record {
      journal = journal;
      generation = generation;
      fits = (stands.plan p refl).generation;
      yields = λ x told c now o. old_below v.side (generation_of c) v.generation
          (ap generation_of (stands.journal.durable x told c now) ∙ stands.generation x told);
      idle = λ idle x told. stands.journal.durable x told;
      plan = λ q is. absurd (never q is);
      underway = λ q is. absurd (never q is);
      copied = λ q is. absurd (never q is);
    }

pub at_within : (at : ℕ) (x : List ℕ) → EndsAt at x → at ≤ length x
at_within at x ends =
    omega (
      arith,
      ends.place,
      ap length ends.opens.is,
      length-append (front ends.generation ends.snapshot ends.entries) (ends.opens.gate
          ∷ ends.opens.rest),
    )

-- the pair, by the side that decides and the other file
module _ (v : State) (p : Plan) (g : ℕ) (s : List ℕ) (es since : List (List ℕ)) (x : List ℕ)
    (o : OpensTo x g s (es ++ since)) (same_g : v.generation ≡ g) where
  below_a : Yields B (g + 1) x
  below_a o_x = omega (arith, has_generation x g s (es ++ since) o)

  below_b : Yields A (g + 1) x
  below_b o_x = omega (arith, has_generation x g s (es ++ since) o)

  module _ (side : v.side ≡ A) where
    here_a : (c : List ℕ) → Yields v.side v.generation c → OpensPair x c g s (es ++ since)
    here_a c yields =
        inl (o, subst (λ (q : Side × ℕ). Yields q.0 q.1 c) (λ i. (side i, same_g i)) yields)

    new_a : (c : List ℕ) → OpensTo c (v.generation + 1) p.snapshot since
        → OpensPair x c (g + 1) p.snapshot since
    new_a c opens = inr (subst (λ n. OpensTo c (n + 1) p.snapshot since) same_g opens, below_a)

    pub either_a : (c : List ℕ) → YieldsOrOpens v p since c → IsOldOrNew v p g s es since x c
    either_a c (inl yields) = inl (here_a c yields)
    either_a c (inr new) = inr (new.0, new_a c new.1)

    pub left_a : (r : Piece) (c : List ℕ) → OtherLeft r v p since c
        → PieceLeaves r v p g s es since x c
    left_a (piece.Running n) c left = here_a c left
    left_a (piece.Done n) c left = new_a c left
    left_a piece.DiskFault c left = either_a c left

  module _ (side : v.side ≡ B) where
    here_b : (c : List ℕ) → Yields v.side v.generation c → OpensPair c x g s (es ++ since)
    here_b c yields =
        inr (o, subst (λ (q : Side × ℕ). Yields q.0 q.1 c) (λ i. (side i, same_g i)) yields)

    new_b : (c : List ℕ) → OpensTo c (v.generation + 1) p.snapshot since
        → OpensPair c x (g + 1) p.snapshot since
    new_b c opens = inl (subst (λ n. OpensTo c (n + 1) p.snapshot since) same_g opens, below_b)

    pub either_b : (c : List ℕ) → YieldsOrOpens v p since c → IsOldOrNew v p g s es since c x
    either_b c (inl yields) = inl (here_b c yields)
    either_b c (inr new) = inr (new.0, new_b c new.1)

    pub left_b : (r : Piece) (c : List ℕ) → OtherLeft r v p since c
        → PieceLeaves r v p g s es since c x
    left_b (piece.Running n) c left = here_b c left
    left_b (piece.Done n) c left = new_b c left
    left_b piece.DiskFault c left = either_b c left

-- what is left doesn't depend on the plan that the journal keeps
pub any_plan : (r : Piece) (v : State) (kept : Option Plan) (p : Plan) (since : List (List ℕ))
    (c : List ℕ) → OtherLeft r (record v { plan = kept }) p since c → OtherLeft r v p since c
any_plan (piece.Running n) v kept p since c left = left
any_plan (piece.Done n) v kept p since c left = left
any_plan piece.DiskFault v kept p since c left = left

abbrev first : State → List ℕ → Plan
first v snapshot = record { snapshot = snapshot; from = v.at; next = 0 }

-- a compaction begins where the journal stands
pub begun_stands : {D : Type 0} (reading : D → Option (List ℕ)) (images : D → List ℕ
    → Type 0) (v : State) (snapshot : List ℕ) (active other : D)
    → StandsWith reading images v active other → v.plan ≡ None → length snapshot ≤ 268435435
    → v.generation + 1 < 2 ^ 64
    → StandsWith reading images (with_plan v (record { snapshot = snapshot; from = v.at; next = 0 }))
    active other
begun_stands reading images v snapshot active other stands none short fits = record {
  journal = stands.journal;
  generation = stands.generation;
  fits = stands.fits;
  yields = stands.yields;
  idle = λ idle y told. stands.idle (λ p is. absurd (never p (sym none ∙ is))) y told;
  plan = λ q is. subst (PlanFits (with_plan v (first v snapshot)))
      (same_plan (first v snapshot) q is)
      (record {
        generation = fits;
        from = omega arith;
        length = omega (arith, short);
        next =
            omega arith;
      });
  underway =
      λ q is one. absurd (let zero_next : 0 ≡ q.next =
      ap (λ (r : Plan). r.next) (same_plan (first v snapshot) q is) in
      omega (arith, one, zero_next));
  copied = λ q is x y told_x told_y.
      subst (λ (r : Plan). HasCopied (with_plan v (first v snapshot)) r x y)
      (same_plan (first v snapshot) q is)
      (let file = stands.journal.file x told_x in
      let same_g : file.generation ≡ v.generation =
      sym (has_generation x file.generation file.snapshot file.entries file.opens)
      ∙ stands.generation x told_x in
      record {
        snapshot = file.snapshot;
        entries = file.entries;
        since = [];
        opens = subst (λ (w : ℕ × List (List ℕ)). OpensTo x w.0 file.snapshot w.1)
            (λ i. (same_g i, sym (append-nil file.entries) i)) file.opens;
        place = file.place;
        bytes = refl;
      });
}
  where
    never : (p : Plan) → Path (Option Plan) None (Some p) → ⊥
    never p is = Prim.cc
