-- What waits determines the answer.
use Rattle.std.proofs.Common.{◌≡◌, ℕ, zero, suc, ◌<◌, Bool, arith, ap, ◌∙◌, sym, ◌==◌}
use Rattle.std.specs.Prelude.{if◌then◌else◌}
use Rattle.std.proofs.Math.Dec.{eqb-suc-zero}
use Rattle.line_splitting.specs.Reading.{Reader, HasOutcome, ReadsMore, first_of, round_of, as_read}
use Rattle.line_splitting.specs.declared.reader.Next.{Next}
use Rattle.line_splitting.specs.declared.reader.Next.TheVariants as next

abbrev at_limit : ℕ → Next
at_limit budget = if budget == 0 then next.InputTooLong else next.Read

abbrev without_line : Bool → ℕ → Next
without_line ended budget = if ended then next.Ended else at_limit budget

some_left : (budget : ℕ) → 0 < budget → at_limit budget ≡ next.Read
some_left zero h = absurd (omega (arith, h))
some_left (suc b) h =
    ap (λ (z : Bool). if z then next.InputTooLong else next.Read) (eqb-suc-zero b)

reads : (old : Reader) → ReadsMore old → next.Read ≡ round_of old
reads old r = sym (ap (λ es. first_of es (without_line old.ended old.budget)) r.ready
    ∙ ap (λ e. without_line e old.budget) r.going ∙ some_left old.budget r.budget)

pub one_answer : (old new : Reader) (answer : Next) → HasOutcome old answer new
    → as_read answer ≡ round_of old
one_answer old new next.Line h =
    sym (ap (λ es. first_of es (without_line old.ended old.budget)) h.ready)
one_answer old new next.TooLong h =
    sym (ap (λ es. first_of es (without_line old.ended old.budget)) h.ready)
one_answer old new next.Ended h =
    sym (ap (λ es. first_of es (without_line old.ended old.budget)) h.0.none_ready
    ∙ ap (λ e. without_line e old.budget) h.1)
one_answer old new next.InputTooLong h =
    sym (ap (λ es. first_of es (without_line old.ended old.budget)) h.0.none_ready
    ∙ ap (λ e. without_line e old.budget) h.1 ∙ ap at_limit h.2)
one_answer old new next.Read h = reads old h.0
one_answer old new next.Failed h = reads old h.0
