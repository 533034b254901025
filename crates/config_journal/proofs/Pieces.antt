-- What a piece of a compaction makes of a journal, as the definitions have it.
use Rattle.std.proofs.Common.{◌≡◌, ◌≤◌, ◌<◌, ◌⊎◌, inl, inr, ℕ, ◌+◌, ◌-◌, Bool, true, false, min}
use Rattle.std.proofs.Common.{Option, None, Some, ap, ◌∙◌, sym, refl, subst, arith}
use Rattle.std.proofs.lemmas.Bool.{eq-eqb, ne_eqb}
use Rattle.std.specs.Prelude.{IsSome, eqb, option_map, if◌then◌else◌}
use Rattle.config_journal.specs.Compacting.{PiecesGive, told_as}
use Rattle.config_journal.specs.Journals.{journal_of, plan_of}
use Rattle.engine_model.specs.Compacting.{after_piece, after_pieces, switched, told_of}
use Rattle.engine_model.specs.Compacting.{left_of as left_in, with_plan as with_its}
use Rattle.engine_model.specs.Engine.{Journal as Told, Plan as ToldPlan}
use Rattle.engine_model.specs.declared.answers.Compacted.{Compacted}
use Rattle.engine_model.specs.declared.answers.Compacted.TheVariants as compacted
use Rattle.file_building.specs.Building.{Plan}
use Rattle.zone_journal.specs.Compacting.{IsLast, IsNext, PieceMoves, next_place, with_plan}
use Rattle.zone_journal.specs.Pairs.{opposite}
use Rattle.zone_journal.specs.Standing.{State as Journal, left_of, planned_length}
use Rattle.zone_journal.specs.declared.answers.Piece.{Piece}
use Rattle.zone_journal.specs.declared.answers.Piece.TheVariants as piece

-- ---- a choice

chosen : {A : Type 0} (b : Bool) (x y : A) → b ≡ true → (if b then x else y) ≡ x
chosen b x y is = subst (λ (c : Bool). (if c then x else y) ≡ x) (sym is) refl

not_chosen : {A : Type 0} (b : Bool) (x y : A) → b ≡ false → (if b then x else y) ≡ y
not_chosen b x y is = subst (λ (c : Bool). (if c then x else y) ≡ y) (sym is) refl

-- ---- the compaction that is in progress

pub record InProgress (plan : Option Plan) : Type 0 where
  pub its : Plan
  pub is : plan ≡ Some its

pub in_progress : (plan : Option Plan) → IsSome plan → InProgress plan
in_progress None some = absurd (Prim.cc)
in_progress (Some plan) some = record { its = plan; is = refl }

-- ---- a piece

module _ (old : Journal) (plan : Plan) where
  abbrev its : ToldPlan
  its = plan_of old plan

  -- it is written from this octet on
  abbrev from : ℕ → ToldPlan
  from next = record { length = planned_length old plan; next = next }

  closes : plan.next ≡ 0 → after_piece (journal_of old) its ≡ with_its (journal_of old) (from 1)
  closes none = chosen (eqb plan.next 0) (with_its (journal_of old) (from 1))
      (if eqb (left_of old plan) 2 then switched (journal_of old) its
      else with_its (journal_of old) (from (next_place plan.next (left_of old plan))))
      (eq-eqb plan.next 0 none)

  begun : 1 ≤ plan.next → after_piece (journal_of old) its
      ≡ (if eqb (left_of old plan) 2 then switched (journal_of old) its
      else with_its (journal_of old) (from (next_place plan.next (left_of old plan))))
  begun some = not_chosen (eqb plan.next 0) (with_its (journal_of old) (from 1))
      (if eqb (left_of old plan) 2 then switched (journal_of old) its
      else with_its (journal_of old) (from (next_place plan.next (left_of old plan))))
      (ne_eqb plan.next 0 (λ none. absurd (omega (arith, some, none))))

  copies : 1 ≤ plan.next → 2 < left_of old plan → after_piece (journal_of old) its
      ≡ with_its (journal_of old) (from (next_place plan.next (left_of old plan)))
  copies some more = begun some ∙ not_chosen (eqb (left_of old plan) 2)
      (switched (journal_of old) its)
      (with_its (journal_of old) (from (next_place plan.next (left_of old plan))))
      (ne_eqb (left_of old plan) 2 (λ two. absurd (omega (arith, more, two))))

  opens : IsLast old plan → after_piece (journal_of old) its ≡ switched (journal_of old) its
  opens last = begun last.0 ∙ chosen (eqb (left_of old plan) 2) (switched (journal_of old) its)
      (with_its (journal_of old) (from (next_place plan.next (left_of old plan))))
      (eq-eqb (left_of old plan) 2 last.1)

  -- the octet from which it is written after a piece that isn't the last
  goes_to : (next : ℕ) → IsNext old plan next
      → after_piece (journal_of old) its ≡ with_its (journal_of old) (from next)
  goes_to next (inl (none, one)) =
      closes none ∙ ap (λ n. with_its (journal_of old) (from n)) (sym one)
  goes_to next (inr (some, more, place)) =
      copies some more ∙ ap (λ n. with_its (journal_of old) (from n)) (sym place)

  one_piece : old.plan ≡ Some plan → after_pieces 1 (journal_of old) (journal_of old).plan
      ≡ after_piece (journal_of old) its
  one_piece is = ap (λ (o : Option ToldPlan). after_pieces 1 (journal_of old) o)
      (ap (option_map (plan_of old)) is)

  runs : old.plan ≡ Some plan → (new : Journal) (left : ℕ)
      → PieceMoves (piece.Running left) old plan new
      → PiecesGive (compacted.Left left) old 1 new
  runs is new left (next, is_next, moved, left_is) =
      let now : journal_of new ≡ with_its (journal_of old) (from next)
      = ap (λ (j : Journal). journal_of j) moved in (
        record {
          journal = now ∙ sym (goes_to next is_next) ∙ sym (one_piece is);
          told = ap (λ n. compacted.Left n) left_is
              ∙ sym (ap (λ (j : Told). told_of j j.plan) now);
        },
        subst (λ (j : Journal). IsSome j.plan) (sym moved) refl,
        ap (λ (j : Journal). j.side) moved,
      )

  whole : planned_length old plan - 1 + 1 ≡ planned_length old plan
  whole = omega arith

  ends : old.plan ≡ Some plan → (new : Journal) (generation : ℕ)
      → PieceMoves (piece.Done generation) old plan new
      → PiecesGive (compacted.Done generation) old 1 new
  ends is new generation (last, generation_is, moved) =
      let now : journal_of new ≡ switched (journal_of old) its
      = ap (λ (j : Journal). journal_of j) moved
      ∙ ap (λ n. record (switched (journal_of old) its) { length = n }) whole in
      record {
        journal = now ∙ sym (opens last) ∙ sym (one_piece is);
        told = ap (λ n. compacted.Done n) generation_is
            ∙ sym (ap (λ (j : Told). told_of j j.plan) now);
      }

  pub gives : old.plan ≡ Some plan → (new : Journal) (result : Piece)
      → PieceMoves result old plan new → PiecesGive (told_as result) old 1 new
  gives is new (piece.Running left) moves = runs is new left moves
  gives is new (piece.Done generation) moves = ends is new generation moves
  gives is new piece.DiskFault moves = ap (λ (j : Journal). j.plan) moves
