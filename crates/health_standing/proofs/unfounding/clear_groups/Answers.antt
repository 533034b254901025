use Rattle.std.proofs.Common.{◌≡◌, ℕ, suc, arith, refl, ap, sym, ◌∙◌, inl, inr}
use Rattle.std.specs.Prelude.{slice_index_or}
use Rattle.std.proofs.lemmas.Bool.{cases_eq, cases_lt}
use Rattle.std.proofs.lemmas.Option.{get_or_from_slice_get, slice_get_within}
use mathlib.Core.Path.{subst}
use Rattle.health_planning.specs.SetRefRecord.{SetRef}
use Rattle.health_planning.specs.Wired.{group_seat}
use Rattle.health_standing.proofs.unfounding.clear_groups.Goals as goal

pub loop-set-init : goal.loop-set-init
loop-set-init c = record {
  sets = λ slot. (refl, refl);
  either = λ slot is. inr is;
  gone = λ k set early at is. absurd (omega arith);
  groups = λ slot other. refl;
  size = refl;
  room = refl;
}

pub loop-set-preserved : goal.loop-set-preserved
loop-set-preserved c =
    let i = c.loop-set.invariant in
    let o = c.clear_group.ensures in
    let still : (slot : ℕ) → group_seat c.loop-set.seats.items slot ≡ 0 → group_seat c.clear_group.new.seats.items slot ≡ 0 =
    λ slot none. o.groups slot (λ is. let no = none in omega (arith, is, no)) ∙ none in
    record {
      sets = λ slot. ((o.sets slot).0 ∙ (i.sets slot).0, (o.sets slot).1 ∙ (i.sets slot).1);
      either = λ slot is. elim (i.either slot is) [
        | inl none ↦ inl (still slot none)
        | inr its ↦ elim (cases_eq slot (slice_index_or c.args.noted.now c.loop-set.set-index (record { zone = 0; slot = 0 })).slot) [
          | inl e ↦ inl (ap (group_seat c.clear_group.new.seats.items) e ∙ o.gone (ap (group_seat c.loop-set.seats.items) (sym e) ∙ its))
          | inr apart ↦ inr (o.others slot apart ∙ its)
        ]
      ];
      gone = λ k set early at is. elim (cases_lt k c.loop-set.set-index) [
        | inl before ↦ still set.slot (i.gone k set before at is)
        | inr late ↦ elim (i.either set.slot is) [
          | inl none ↦ still set.slot none
          | inr its ↦
              let k_is : k ≡ c.loop-set.set-index = omega arith in
              let e = get_or_from_slice_get c.args.noted.now c.loop-set.set-index set (record { zone = 0; slot = 0 }) (rw k_is at at) in
              subst (λ (s : SetRef). group_seat c.loop-set.seats.items s.slot ≡ suc c.args.group → group_seat c.clear_group.new.seats.items s.slot ≡ 0) e o.gone its
        ]
      ];
      groups = λ slot other. o.groups slot (λ e. other (sym (i.groups slot other) ∙ e)) ∙ i.groups slot other;
      size = o.size ∙ i.size;
      room = o.room ∙ i.room;
    }

pub returns-clause-told : goal.returns-clause-told
returns-clause-told c =
    let i = c.loop-set.invariant in
    let end = c.loop-set-test.false in
    record {
      sets = i.sets;
      gone = λ slot is.
          let told = c.requires.noted slot is in
          let within = slice_get_within c.args.noted.now told.0 told.1.0 told.1.1.0 in
          subst (λ (n : ℕ). group_seat c.loop-set.seats.items n ≡ 0) told.1.1.1
          (i.gone told.0 told.1.0 (omega arith) told.1.1.0 (ap (group_seat c.args.seats.now.items) told.1.1.1 ∙ is));
      groups = i.groups;
    }
