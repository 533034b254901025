-- An append on two disks.
use Rattle.std.proofs.Common.{◌≡◌, inl, inr, ⊎_elim, ℕ, ◌+◌, ◌-◌, ◌≤◌, List, [], ◌∷◌, ◌++◌, length, take, Option, Some, None, refl, sym, ◌∙◌, ap, subst, arith, append_assoc, length-append}
use Rattle.std.proofs.lemmas.List.{take-append-le}
use Rattle.byteorder.specs.Endian.{big_bytes}
use Rattle.byteorder.specs.Numbers.{length-bytes_high_first}
use Rattle.file_building.specs.Layout.{body, inner, front, opened, IsOpen, OpensTo, generation_of}
use Rattle.file_building.specs.Append.{EndsAt, StandsOn as EndsOn, UnlessFault, HasCause as FileCause, AppendLeaves as FileLeaves, MayLeave as FileMayLeave, MovesOn as FileMoves}
use Rattle.file_building.specs.AppendedRecord.{Appended}
use Rattle.file_building.specs.AppendedRecord.TheVariants as appended
use Rattle.file_building.proofs.Opening.{opens_to_one, opened-push, length-body}
use Rattle.file_building.proofs.AppendLemmas.{was_told}
use Rattle.zone_journal.specs.Pairs.{Yields}
use Rattle.zone_journal.specs.declared.answers.Side.TheVariants.{A, B}
use Rattle.file_building.specs.Building.{Plan}
use Rattle.zone_journal.specs.Standing.{State, PlanFits, HasCopied, StandsWith, planned}
use Rattle.zone_journal.specs.Appending.{AppendLeaves, MayLeave, Fits}
use Rattle.file_building.proofs.Gates.{is_open, has_generation}

-- the file of a journal is open, and of its generation
pub ends_open : (at : ℕ) (x : List ℕ) → EndsAt at x → IsOpen x
ends_open at x ends = is_open x ends.generation ends.snapshot ends.entries ends.opens

pub length-inner : (g : ℕ) (s : List ℕ) → length (inner g s) ≡ 19 + length s
length-inner g s =
    omega (
      arith,
      length-append (big_bytes 8 g) (body s),
      length-body s,
      length-bytes_high_first 8 g,
    )

pub opened-append : (es fs : List (List ℕ)) → opened (es ++ fs) ≡ opened es ++ opened fs
opened-append [] fs = refl
opened-append (e ∷ es) fs = ap (λ (l : List ℕ). 1 ∷ (body e ++ l)) (opened-append es fs)
    ∙ ap (λ (l : List ℕ). 1 ∷ l) (sym (append_assoc (body e) (opened es) (opened fs)))

pub length-front : (g : ℕ) (s : List ℕ) (es : List (List ℕ))
    → length (front g s es) ≡ 20 + length s + length (opened es)
length-front g s es = omega (arith, length-append (inner g s) (opened es), length-inner g s)

-- how many bytes the entries take that were appended since
pub length-since : (g : ℕ) (s : List ℕ) (es since : List (List ℕ))
    → length (front g s (es ++ since)) ≡ length (front g s es) + length (opened since)
length-since g s es since =
    omega (
      arith,
      length-front g s (es ++ since),
      length-front g s es,
      ap length (opened-append es since),
      length-append (opened es) (opened since),
    )

pub length-planned : (g : ℕ) (s : List ℕ) (since : List (List ℕ))
    → length (planned g s since) ≡ 19 + length s + length (opened since)
length-planned g s since = omega (arith, length-append (inner g s) (opened since), length-inner g s)

-- where the file ends, by what it opens to
pub ends_there : (at : ℕ) (x : List ℕ) → EndsAt at x → (g : ℕ) (s : List ℕ) (es : List (List ℕ))
    → OpensTo x g s es → at ≡ length (front g s es)
ends_there at x ends g s es o = let one =
    opens_to_one x ends.generation g ends.snapshot s ends.entries es ends.opens o in ends.place
    ∙ (λ i. length (front (one.generation i) (one.snapshot i) (one.entries i)))

module _ {D : Type 0} (reading : D → Option (List ℕ)) (images : D → List ℕ
    → Type 0) (v : State) (old new other : D) (stands : StandsWith reading images v old other)
    (e : List ℕ) (fits : Fits v (length e))
    (untold : reading old ≡ None → reading new ≡ None)
    (leaves : (g : ℕ) (s : List ℕ) (es : List (List ℕ)) (x : List ℕ) → reading old ≡ Some x
    → OpensTo x g s es → (after : List ℕ) × (reading new ≡ Some after)
    × OpensTo after g s (es ++ e ∷ []))
    (ends : EndsOn reading images (v.at + (5 + length e)) new) where
  abbrev after : State
  after = record v { at = v.at + (5 + length e) }

  same : (x now : List ℕ) → reading new ≡ Some x → reading new ≡ Some now → x ≡ now
  same x now told is = Prim.cc

  generation : (x : List ℕ) → reading new ≡ Some x → generation_of x ≡ v.generation
  generation x told =
      let was = was_told (reading old) (reading new) untold x told in
      let file = stands.journal.file was.0 was.1 in
      let now = leaves file.generation file.snapshot file.entries was.0 was.1 file.opens in
      ap generation_of (same x now.0 told now.1)
      ∙ has_generation now.0 file.generation file.snapshot (file.entries ++ e ∷ []) now.2
      ∙ sym (has_generation was.0 file.generation file.snapshot file.entries file.opens)
      ∙ stands.generation was.0 was.1

  plan : (p : Plan) → v.plan ≡ Some p → PlanFits after p
  plan p is =
      let was = stands.plan p is in
      let room = fits.new p is in
      record {
        generation = was.generation;
        from = omega (arith, was.from);
        length =
            omega (arith, was.from, room);
        next = omega (arith, was.from, was.next);
      }

  copied : (p : Plan) → v.plan ≡ Some p → (x y : List ℕ) → reading new ≡ Some x
      → reading other ≡ Some y → HasCopied after p x y
  copied p is x y told told_y =
      let was = was_told (reading old) (reading new) untold x told in
      let copy = stands.copied p is was.0 y was.1 told_y in
      let now =
      leaves v.generation copy.snapshot (copy.entries ++ copy.since) was.0 was.1 copy.opens in
      let opens =
      subst (λ es. OpensTo now.0 v.generation copy.snapshot es)
      (append_assoc copy.entries copy.since (e ∷ [])) now.2 in
      let at_is =
      ends_there v.at was.0 (stands.journal.file was.0 was.1) v.generation copy.snapshot
      (copy.entries ++ copy.since) copy.opens in
      let within : p.next - 1 ≤ length (planned (v.generation + 1) p.snapshot copy.since) =
      omega (
        arith,
        (stands.plan p is).next,
        length-planned (v.generation + 1) p.snapshot copy.since,
        at_is,
        copy.place,
        length-since v.generation copy.snapshot copy.entries copy.since,
      ) in
      let more : planned (v.generation + 1) p.snapshot (copy.since ++ e ∷ [])
      ≡ planned (v.generation + 1) p.snapshot copy.since ++ 1 ∷ body e =
      ap (λ (l : List ℕ). inner (v.generation + 1) p.snapshot ++ l) (opened-push copy.since e)
      ∙ sym (append_assoc (inner (v.generation + 1) p.snapshot) (opened copy.since) (1
      ∷ body e)) in
      record {
        snapshot = copy.snapshot;
        entries = copy.entries;
        since = copy.since ++ e ∷ [];
        opens = subst
            (λ l. OpensTo l v.generation copy.snapshot (copy.entries ++ (copy.since ++ e ∷ [])))
            (same now.0 x now.1 told) opens;
        place = copy.place;
        bytes = copy.bytes
            ∙ sym (take-append-le (p.next - 1) (planned (v.generation + 1) p.snapshot copy.since) (1
            ∷ body e) within) ∙ ap (take (p.next - 1)) (sym more);
      }

  pub stands_on : StandsWith reading images after new other
  stands_on = record {
    journal = ends;
    generation = generation;
    fits = stands.fits;
    yields = stands.yields;
    idle = stands.idle;
    plan = plan;
    underway = stands.underway;
    copied = copied;
  }

module _ {D : Type 0} (reading : D → Option (List ℕ)) (images : D → List ℕ
    → Type 0) (v : State) (old new other : D) (stands : StandsWith reading images v old other)
    (e : List ℕ) (fits : Fits v (length e))
    (untold : reading old ≡ None → reading new ≡ None) where
  -- by the answer of the append to the file
  pub unless : (r : Appended) (at : ℕ) → FileMoves r v.at (length e) at
      → FileCause r v.at (length e) → UnlessFault r (EndsOn reading images at new)
      → ((g : ℕ) (s : List ℕ) (es : List (List ℕ)) (x : List ℕ) → reading old ≡ Some x
      → OpensTo x g s es → (after : List ℕ) × (reading new ≡ Some after)
      × FileLeaves r g s es e after)
      → UnlessFault r (StandsWith reading images (record v { at = at }) new other)
  unless appended.Done at moves cause ends leaves =
      subst (λ n. StandsWith reading images (record v { at = n }) new other) (sym moves)
      (stands_on reading images v old new other stands e fits untold leaves
      (subst (λ n. EndsOn reading images n new) moves ends))
  unless (appended.Full length) at moves cause ends leaves =
      absurd (omega (arith, cause.1, fits.active))
  unless appended.DiskFault at moves cause ends leaves = tt

-- the entries of the pair, by the side that decides
pub leaves_a : (r : Appended) (g : ℕ) (s : List ℕ) (es : List (List ℕ)) (e x y : List ℕ)
    → Yields A g y → FileLeaves r g s es e x → AppendLeaves r g s es e x y
leaves_a appended.Done g s es e x y yields leaves = inl (leaves, yields)
leaves_a (appended.Full n) g s es e x y yields leaves = inl (leaves, yields)
leaves_a appended.DiskFault g s es e x y yields leaves =
    ⊎_elim (λ o. inl (inl (o, yields))) (λ o. inr (inl (o, yields))) leaves

pub leaves_b : (r : Appended) (g : ℕ) (s : List ℕ) (es : List (List ℕ)) (e x y : List ℕ)
    → Yields B g x → FileLeaves r g s es e y → AppendLeaves r g s es e x y
leaves_b appended.Done g s es e x y yields leaves = inr (leaves, yields)
leaves_b (appended.Full n) g s es e x y yields leaves = inr (leaves, yields)
leaves_b appended.DiskFault g s es e x y yields leaves =
    ⊎_elim (λ o. inl (inr (o, yields))) (λ o. inr (inr (o, yields))) leaves

-- what a crash leaves of the pair
pub may_leave_a : (r : Appended) (g : ℕ) (s : List ℕ) (es : List (List ℕ)) (e x y : List ℕ)
    → Yields A g y
    → FileMayLeave r g s es e x → MayLeave r g s es e x y
may_leave_a appended.Done g s es e x y yields left =
    ⊎_elim (λ o. inl (inl (o, yields))) (λ o. inr (inl (o, yields))) left
may_leave_a (appended.Full n) g s es e x y yields left = inl (left, yields)
may_leave_a appended.DiskFault g s es e x y yields left =
    ⊎_elim (λ o. inl (inl (o, yields))) (λ o. inr (inl (o, yields))) left

pub may_leave_b : (r : Appended) (g : ℕ) (s : List ℕ) (es : List (List ℕ)) (e x y : List ℕ)
    → Yields B g x
    → FileMayLeave r g s es e y → MayLeave r g s es e x y
may_leave_b appended.Done g s es e x y yields left =
    ⊎_elim (λ o. inl (inr (o, yields))) (λ o. inr (inr (o, yields))) left
may_leave_b (appended.Full n) g s es e x y yields left = inr (left, yields)
may_leave_b appended.DiskFault g s es e x y yields left =
    ⊎_elim (λ o. inl (inr (o, yields))) (λ o. inr (inr (o, yields))) left
