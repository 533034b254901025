use Rattle.std.proofs.Common.{◌≡◌, ◌<◌, ℕ, List, length, arith, sym, ◌∙◌, Some}
use Rattle.std.specs.Prelude.{slice_get}
use Rattle.std.proofs.lemmas.Option.{slice_get_within}
use Rattle.health_planning.proofs.Few.{no_more_than}
use Rattle.health_index.proofs.valve_numbers.spare_number.Goals as goal

some_same : {x y : ℕ} → Some x ≡ Some y → x ≡ y
some_same e = cc

-- not all of 200 numbers stand in a shorter list
too_few : (numbers : List ℕ) → length numbers < 200
    → ((valve : ℕ) → valve < 200 → (place : ℕ) × (slice_get numbers place ≡ Some valve)) → ⊥
too_few numbers short all =
    let many = no_more_than (λ (valve place : ℕ). slice_get numbers place ≡ Some valve) (λ a b place e f. some_same (sym e ∙ f))
    200 (length numbers) (λ valve early.
    let at = all valve early in
    (at.0, (at.1, slice_get_within numbers at.0 valve at.1))) in
    omega arith

pub unreachable-requires : goal.unreachable-requires
unreachable-requires c =
    too_few c.args.numbers.now c.requires (λ valve early.
    c.spare_between-2.ensures.none c.in_default-spare_between.is valve (omega arith) early)
