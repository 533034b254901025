-- Each step leaves one store.
use Rattle.std.proofs.Common.{◌≡◌, ℕ, inl, inr, ap, ◌∙◌, sym, refl, subst, arith}
use Rattle.std.proofs.Common.{Some, Result, Ok, Err}
use Rattle.std.specs.Prelude.{◌⊎◌}
use Rattle.command_octets.specs.declared.commands.Command.{Command}
use Rattle.config_model.specs.Applying.{Outcome}
use Rattle.config_model.specs.Configs.{Config}
use Rattle.config_model.specs.Laws.{OneOutcome}
use Rattle.config_model.specs.declared.refusals.Made.{Made}
use Rattle.config_model.specs.declared.refusals.Refusal.{Refusal}
use Rattle.config_model.specs.declared.refusals.Refusal.TheVariants.{JournalFull, OutOfMemory}
use Rattle.engine_model.specs.Compacting.{told_of}
use Rattle.engine_model.specs.Engine.{CommandSteps, Engine, Fits, IsFull, Journal, Plan}
use Rattle.engine_model.specs.Engine.{grown, size_of}
use Rattle.engine_model.specs.Laws.{OneCommandStep, OneCompactionStep, OneReportStep}
use Rattle.engine_model.specs.declared.answers.Reported.TheVariants as reported

-- ---- commands

same_why : (why too : Refusal) → ◌≡◌ {A = Outcome} (Err why) (Err too) → why ≡ too
same_why why too e = cc

same_made : (p q : Config × Made) → ◌≡◌ {A = Outcome} (Ok p) (Ok q) → p ≡ q
same_made p q e = cc

same_plan : (p q : Plan) → Some p ≡ Some q → p ≡ q
same_plan p q e = cc

one_full : (n : ℕ) (journal : Journal) (full other : ℕ) → IsFull n journal full
    → IsFull n journal other → full ≡ other
one_full n journal full other (inl f) (inl g) = f.0 ∙ sym g.0
one_full n journal full other (inl f) (inr g) =
    absurd (let h = f.1 in let k = g.0 in omega (arith, h, k))
one_full n journal full other (inr f) (inl g) =
    absurd (let h = g.1 in let k = f.0 in omega (arith, h, k))
one_full n journal full other (inr (room, (p, is, length, over))) (inr (other_room, (q, also, size, above))) =
    length ∙ (ap (λ (plan : Plan). plan.length) (same_plan p q (sym is ∙ also)) ∙ sym size)

not_both : (n : ℕ) (journal : Journal) (full : ℕ) → IsFull n journal full → Fits n journal → ⊥
not_both n journal full (inl f) fits = (let h = f.1 in let k = fits.active in omega (arith, h, k))
not_both n journal full (inr (room, (p, is, length, over))) fits =
    (let k = fits.planned p is in omega (arith, over, k))

module _ (law : OneOutcome) (old new other : Engine) (given : Command)
    (outcome told : Result Made Refusal) where
  abbrev Rest : (after : Config) (what : Made) → Result Made Refusal → Engine → Type 0
  Rest after what is now =
      ((full : ℕ) × IsFull (size_of given) old.journal full × (is ≡ Err (JournalFull full))
      × (now ≡ old))
      ⊎ (Fits (size_of given) old.journal × (is ≡ Ok what) × (now ≡ record old {
        config = after;
        journal = grown (size_of given) old.journal;
      }))

  one_rest : (after : Config) (what : Made) → Rest after what outcome new
      → Rest after what told other → (outcome ≡ told) × (new ≡ other)
  one_rest after what (inl (full, is, o, n)) (inl (also, also_is, p, m)) = (
    o ∙ (ap (λ (k : ℕ). Err (JournalFull k)) (one_full (size_of given) old.journal full also is also_is)
        ∙ sym p),
    n ∙ sym m,
  )
  one_rest after what (inl (full, is, o, n)) (inr (fits, p, m)) =
      absurd (not_both (size_of given) old.journal full is fits)
  one_rest after what (inr (fits, o, n)) (inl (full, is, p, m)) =
      absurd (not_both (size_of given) old.journal full is fits)
  one_rest after what (inr (fits, o, n)) (inr (fits_too, p, m)) = (o ∙ sym p, n ∙ sym m)

  pub one_command : CommandSteps old given outcome new → CommandSteps old given told other
      → (outcome ≡ told) × (new ≡ other)
  one_command (inl (why, real, d, o, n)) (inl (too, real_too, e, p, m)) =
      let same = same_why why too (law old.config given (Err why) (Err too) (inr d) (inr e)
      (λ w. real (same_why why OutOfMemory w)) (λ w. real_too (same_why too OutOfMemory w))) in
      (o ∙ (ap (λ (w : Refusal). Err w) same ∙ sym p), n ∙ sym m)
  one_command (inl (why, real, d, o, n)) (inr (after, (what, e, rest))) =
      absurd (let w = law old.config given (Err why) (Ok (after, what)) (inr d) (inr e)
      (λ w. real (same_why why OutOfMemory w)) (λ w. grind (arith, w)) in grind (arith, w))
  one_command (inr (after, (what, d, rest))) (inl (too, real_too, e, p, m)) =
      absurd (let w = law old.config given (Ok (after, what)) (Err too) (inr d) (inr e)
      (λ w. grind (arith, w)) (λ w. real_too (same_why too OutOfMemory w)) in grind (arith, w))
  one_command (inr (after, (what, d, rest))) (inr (late, (made, e, others))) =
      let same = same_made (late, made) (after, what)
      (law old.config given (Ok (late, made)) (Ok (after, what)) (inr e) (inr d)
      (λ w. grind (arith, w)) (λ w. grind (arith, w))) in
      one_rest after what rest
      (subst (λ (p : Config × Made). Rest p.0 p.1 told other) same others)

pub one_command_step : OneOutcome → OneCommandStep
one_command_step law old new other given outcome told s t =
    one_command law old new other given outcome told s t

-- ---- reports

pub one_report_step : OneReportStep
one_report_step old new other id checker pass reported.Taken reported.Taken s t =
    (refl, s.2 ∙ sym t.2)
one_report_step old new other id checker pass reported.Taken reported.NoSuchHealthCheck s t =
    absurd (t.0 s.0)
one_report_step old new other id checker pass reported.Taken reported.BadChecker s t =
    absurd (let h = s.1 in let k = t.1 in omega (arith, h, k))
one_report_step old new other id checker pass reported.NoSuchHealthCheck reported.Taken s t =
    absurd (s.0 t.0)
one_report_step old new other id checker pass reported.NoSuchHealthCheck reported.NoSuchHealthCheck s t =
    (refl, s.1 ∙ sym t.1)
one_report_step old new other id checker pass reported.NoSuchHealthCheck reported.BadChecker s t =
    absurd (s.0 t.0)
one_report_step old new other id checker pass reported.BadChecker reported.Taken s t =
    absurd (let h = t.1 in let k = s.1 in omega (arith, h, k))
one_report_step old new other id checker pass reported.BadChecker reported.NoSuchHealthCheck s t =
    absurd (t.0 s.0)
one_report_step old new other id checker pass reported.BadChecker reported.BadChecker s t =
    (refl, s.2 ∙ sym t.2)

-- ---- compactions

pub one_compaction_step : OneCompactionStep
one_compaction_step old new other pieces outcome told (inl (last, o, n)) (inl (also, p, m)) =
    (o ∙ sym p, n ∙ sym m)
one_compaction_step old new other pieces outcome told (inl (last, o, n)) (inr (none, m, p)) =
    absurd (none last)
one_compaction_step old new other pieces outcome told (inr (none, n, o)) (inl (last, p, m)) =
    absurd (none last)
one_compaction_step old new other pieces outcome told (inr (none, n, o)) (inr (also, m, p)) = (
  o ∙ (ap (λ (e : Engine). told_of e.journal e.journal.plan) (n ∙ sym m) ∙ sym p),
  n ∙ sym m,
)
