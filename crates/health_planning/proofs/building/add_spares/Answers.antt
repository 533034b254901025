use Rattle.std.proofs.Common.{◌≡◌, ◌∷◌, ◌++◌, [], ℕ, length, length-append, arith, ap, refl, ◌∙◌, inl, inr, Some}
use Rattle.std.specs.Prelude.{slice_get}
use Rattle.std.proofs.lemmas.Bool.{cases_lt}
use mathlib.Core.Path.{subst}
use Rattle.health_planning.specs.Building.{spare_trigger}
use Rattle.health_planning.proofs.Built.{last_there, still_there}
use Rattle.health_planning.proofs.building.add_spares.Goals as goal

pub loop-place-init : goal.loop-place-init
loop-place-init c = record {
  few = omega arith;
  size = ap length c.requires.empty;
  spares = λ n early. absurd (omega arith);
  links = refl;
  kept = record { valves = refl; links = refl };
}

pub push-requires : goal.push-requires
push-requires c =
    let i = c.loop-place.invariant in
    let size = i.size in
    let kept = i.kept.valves in
    let room = c.requires.room in
    let none = ap length c.requires.empty in
    let early = c.loop-place-test.true in
    omega arith

pub loop-place-preserved : goal.loop-place-preserved
loop-place-preserved c =
    let i = c.loop-place.invariant in
    let triggers = c.loop-place.blueprint.triggers in
    let more = c.push.ensures.triggers in
    let longer = ap length more ∙ length-append triggers (spare_trigger ∷ []) in
    let size = i.size in
    record {
      few = omega (arith, c.loop-place-test.true);
      size = omega arith;
      spares = λ n early. elim (cases_lt n c.loop-place._place) [
        | inl before ↦ rw more (still_there triggers spare_trigger spare_trigger n (i.spares n before))
        | inr behind ↦
            let last : length triggers ≡ n = omega arith in
            rw more (subst (λ (m : ℕ). slice_get (triggers ++ spare_trigger ∷ []) m ≡ Some spare_trigger) last (last_there triggers spare_trigger))
      ];
      links = c.push.ensures.links ∙ i.links;
      kept =
          let room = c.push.ensures.room in
          let links_room = c.push.ensures.links_room in
          let valves = i.kept.valves in
          let links = i.kept.links in
          let same = ap length c.push.ensures.links in
          record { valves = omega arith; links = omega arith };
    }
