use Rattle.std.proofs.Common.{◌≡◌, ◌∷◌, [], ℕ, length, length-append, arith, ap, refl, sym, ◌∙◌, inl, inr, Some}
use Rattle.std.specs.Prelude.{is_some, slice_get}
use Rattle.std.proofs.lemmas.Option.{slice_get_read, slice_get_within}
use mathlib.Core.Path.{subst}
use Rattle.check_model.specs.declared.checks.Check.{Check}
use Rattle.health_planning.proofs.Lists.{in_more}
use Rattle.health_planning.specs.Wired.{StandsAt}
use Rattle.health_planning.proofs.building.list_seen.Goals as goal

some_same : {X : Type 0} {x y : X} → Some x ≡ Some y → x ≡ y
some_same e = cc

pub seen_of-saw-requires-clause-bounded : goal.seen_of-saw-requires-clause-bounded
seen_of-saw-requires-clause-bounded c =
    let held = c.index-list-place.result in
    c.requires.bounded c.loop-place.place held.0 held.1
    (slice_get_read c.args.list.now _ c.loop-place.place held refl c.loop-place-test.true c.index-list-place.is)

pub seen_of-saw-requires-clause-within : goal.seen_of-saw-requires-clause-within
seen_of-saw-requires-clause-within c place is =
    let there = subst (StandsAt c.args.ids.now c.index-list-place.result.0) is c.place_from-at.ensures in
    let within = slice_get_within c.args.ids.now place _ there in
    let many = c.requires.as_many in
    omega arith

pub loop-place-preserved : goal.loop-place-preserved
loop-place-preserved c =
    let i = c.loop-place.invariant in
    let place = c.loop-place.place in
    let held = c.index-list-place.result in
    let at = slice_get_read c.args.list.now _ place held refl c.loop-place-test.true c.index-list-place.is in
    let saw = c.seen_of-saw.result in
    let more = c.push_reserved.ensures.items in
    let longer = ap length more ∙ length-append c.loop-place.into.items (saw ∷ []) in
    let size = i.size in
    record {
      within = omega (arith, c.loop-place-test.true);
      size = omega arith;
      len = let len = i.len in let one = c.push_reserved.ensures.len in omega arith;
      room = c.push_reserved.ensures.capacity ∙ i.room;
      seen = λ old reports knows each k id check its here is. elim (in_more c.loop-place.into.items saw its k (rw more at is)) [
        | inl before ↦ i.seen old reports knows each k id check its here before
        | inr last ↦
            let k_is : k ≡ place = last.0 ∙ size in
            let same : ◌≡◌ {A = ℕ × Check} (id, check) held = some_same (sym here ∙ ap (slice_get c.args.list.now) k_is ∙ at) in
            let ids = ap (λ (h : ℕ × Check). h.0) same in
            let checks = ap (λ (h : ℕ × Check). h.1) same in
            rw (ids, checks, last.1)
            (c.seen_of-saw.ensures.exact old reports c.args.ids.now held.0 knows c.place_from-at.ensures (each place held.0 held.1 at))
      ];
      kinds = λ k its is. elim (in_more c.loop-place.into.items saw (Some its) k (rw more at is)) [
        | inl before ↦ i.kinds k its before
        | inr last ↦
            let k_is : k ≡ place = last.0 ∙ size in (
              held.0,
              (
                held.1,
                (
                  ap (slice_get c.args.list.now) k_is ∙ at,
                  c.seen_of-saw.ensures.kind (ap is_some (sym last.1)),
                ),
              ),
            )
      ];
    }
