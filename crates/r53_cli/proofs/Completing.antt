-- What comes where nothing failed, answer by answer.
use Rattle.std.proofs.Common.{◌≡◌, ◌∙◌, ◌⊎◌, inl, inr, ℕ, List, Bool, true, false, Option, Some, Result, Ok, Err, refl, subst, sym}
use Rattle.config_model.specs.Configs.{Config}
use Rattle.drill_run.specs.Leaving.{DrillLeaves, HasCause as DrillHasCause}
use Rattle.drill_run.specs.declared.answers.Drilled.{Drilled}
use Rattle.drill_run.specs.declared.answers.Drilled.TheVariants as drilled
use Rattle.dump_run.specs.Dumping.{IsTold as DumpIsTold}
use Rattle.dump_run.specs.declared.answers.Dumped.{Dumped}
use Rattle.dump_run.specs.declared.answers.Dumped.TheVariants as dumped
use Rattle.gate_journal.specs.Layout.{IsOpen}
use Rattle.geo_latency.specs.declared.tables.Tables.{Tables}
use Rattle.line_splitting.specs.Lines.{is_too_long}
use Rattle.octets.specs.Counts.{Rose}
use Rattle.r53_cli.specs.Completing.{DrillCompletes, DumpCompletes, InitCompletes, NoneRose, RunCompletes}
use Rattle.r53_cli.specs.Run.{IsCarriedOut}
use Rattle.r53_cli.specs.Sessions.{Counts, Drills, Dumps, InitRuns, Runs, of_drilled, of_dumped, of_ended, of_init, of_ran}
use Rattle.r53_cli.specs.declared.status.Status.{Status}
use Rattle.r53_cli.specs.declared.status.Status.TheVariants as status
use Rattle.session_run.specs.Steps.{State}
use Rattle.session_run.specs.Ended.{Ended}
use Rattle.session_run.specs.Ended.TheVariants as ended
use Rattle.session_run.specs.Laws.{NoStoreOrBeginning}
use Rattle.session_run.specs.Running.{Given, HasCauseOf, IsBeginning, RunLeaves, TablesSay, FilesSay}
use Rattle.session_run.specs.declared.ran.Ran.{Ran}
use Rattle.session_run.specs.declared.ran.Ran.TheVariants as ran
use Rattle.table_lines.specs.Input.{tables_of}
use Rattle.table_lines.specs.declared.reading.TablesFault.{TablesFault}
use Rattle.zone_journal.specs.Making.{InitGives}
use Rattle.zone_journal.specs.declared.answers.Init.{Init}
use Rattle.zone_journal.specs.declared.answers.Init.TheVariants as init
use Rattle.zone_journal.specs.declared.answers.Side.{Side}
use Rattle.zone_journal.specs.declared.answers.Side.TheVariants.{A, B}

ok_or_err : {X E : Type 0} {x : X} {e : E} {r : Result X E} → r ≡ Ok x → r ≡ Err e → ⊥
ok_or_err good bad = absurd (Prim.cc)

long_or_short : {b : Bool} → b ≡ false → b ≡ true → ⊥
long_or_short short long = absurd (Prim.cc)

none_of : {P Q : Type 0} → (P → ⊥) → (Q → ⊥) → P ⊎ Q → ⊥
none_of p q (inl x) = p x
none_of p q (inr y) = q y

module _ {D : Type 0} (reading : D → Option (List ℕ)) (images : D → List ℕ → Type 0)
    (moment : D → ℕ) (images_since : D → ℕ → List ℕ → Type 0) where
  pub runs : NoStoreOrBeginning → RunCompletes reading images moment images_since
  runs law result a_old a_new b_old b_new before after were are r given start tables told begins good
      short none =
      subst IsCarriedOut (sym r.status_is)
      (by r.answer (r.tables_say given.rows told.rows_are)
      (r.files_say given.x given.y told.x_is told.y_is) (r.leaves given told) r.cause)
    where
      by : (answer : Ran) → TablesSay answer given.rows → FilesSay answer given.x given.y
          → RunLeaves answer images a_new b_new given after.left after.coming after.words after.held
          after.sent
          → HasCauseOf answer were.input are.input were.tables are.tables were.a are.a were.b are.b
          were.link are.link were.out are.out
          → IsCarriedOut (of_ran answer)
      by (ran.BadTables number) says files leaves cause = absurd (ok_or_err good says)
      by ran.TablesFault says files leaves cause = absurd (none.1 cause)
      by ran.TablesTooLong says files leaves cause = absurd (ok_or_err good says)
      by (ran.NotAStore side place) says files leaves cause =
          absurd (law given start side place begins files)
      by ran.OpeningFault says files leaves cause = absurd (none_of none.3 none.4 cause)
      by ran.OutOfMemory says files leaves cause = inr refl
      by (ran.Ended ended.Done) says files leaves cause = inl refl
      by (ran.Ended ended.ReadFault) says files leaves cause = absurd (none.0 cause)
      by (ran.Ended ended.InputTooLong) says files (its, good_rows, (at, begun, (long, rest))) cause =
          absurd (long_or_short short long)
      by (ran.Ended ended.WriteFault) says files leaves cause = absurd (none.2 cause)
      by (ran.Ended ended.DiskFault) says files leaves cause = absurd (none_of none.3 none.4 cause)
      by (ran.Ended ended.LinkFault) says files leaves cause = absurd (none.5 cause)

  pub makes : InitCompletes reading images moment images_since
  makes result a_old a_new b_old b_new a_were a_are b_were b_are m x y x_is y_is shut shut_too still
      still_too =
      m.status_is ∙ by m.answer m.failed (m.leaves x y x_is y_is).gives
    where
      by : (answer : Init) → (answer ≡ init.DiskFault → Rose a_were a_are ⊎ Rose b_were b_are)
          → InitGives reading images answer x y a_new b_new → of_init answer ≡ status.Done
      by init.Done failed gives = refl
      by (init.AlreadyAStore A) failed gives = absurd (shut gives.0)
      by (init.AlreadyAStore B) failed gives = absurd (shut_too gives.1)
      by init.DiskFault failed gives = absurd (none_of still still_too (failed refl))

  pub dumps : DumpCompletes reading images moment images_since
  dumps result a_old a_new b_old b_new before after out_were out_are a_were a_are b_were b_are d x y
      config x_is y_is opens still a_still b_still =
      subst IsCarriedOut (sym d.status_is)
      (by d.answer (d.told x y x_is y_is) d.disk_failed d.sink_failed)
    where
      by : (answer : Dumped) → DumpIsTold answer x y
          → (answer ≡ dumped.OpeningFault → Rose a_were a_are ⊎ Rose b_were b_are)
          → (answer ≡ dumped.WriteFault → Rose out_were out_are) → IsCarriedOut (of_dumped answer)
      by dumped.Written told failed stuck = inl refl
      by (dumped.NotAStore side place) told failed stuck = absurd (told.1 config opens)
      by dumped.OpeningFault told failed stuck = absurd (none_of a_still b_still (failed refl))
      by dumped.OutOfMemory told failed stuck = inr refl
      by dumped.WriteFault told failed stuck = absurd (still (stuck refl))

  pub drills : DrillCompletes reading images moment images_since
  drills events result a_old a_new b_old b_new before after out_were out_are a_were a_are b_were b_are
      d x y x_is y_is shut shut_too still a_still b_still =
      subst IsCarriedOut (sym d.status_is) (by d.answer (d.leaves x y x_is y_is) d.cause)
    where
      by : (answer : Drilled)
          → DrillLeaves answer reading images moment images_since a_old a_new b_old b_new events x y
          before after
          → DrillHasCause answer a_were a_are b_were b_are out_were out_are
          → IsCarriedOut (of_drilled answer)
      by drilled.Written leaves cause = inl refl
      by (drilled.AlreadyAStore A) leaves cause = absurd (shut leaves.0.0)
      by (drilled.AlreadyAStore B) leaves cause = absurd (shut_too leaves.0.1)
      by drilled.MakingFault leaves cause = absurd (none_of a_still b_still cause)
      by (drilled.NotAStore side place) leaves cause = absurd leaves.2
      by drilled.OpeningFault leaves cause = absurd (none_of a_still b_still cause)
      by drilled.OutOfMemory leaves cause = inr refl
      by drilled.DiskFault leaves cause = absurd (none_of a_still b_still cause)
      by drilled.WriteFault leaves cause = absurd (still cause)
