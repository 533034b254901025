-- What a run of a form leaves.
use Rattle.std.proofs.Common.{◌≡◌, ◌≢◌, ℕ, List, [], ◌∷◌, Option, length, ap, refl, subst, sym, ◌∙◌}
use Rattle.std.specs.Prelude.{codes}
use Rattle.dump_run.specs.Dumping.{IsUnwritten}
use Rattle.dump_run.specs.declared.answers.Dumped.{Dumped}
use Rattle.dump_run.specs.declared.answers.Dumped.TheVariants as dumped
use Rattle.drill_run.specs.Leaving.{IfUnwritten}
use Rattle.drill_run.specs.declared.answers.Drilled.{Drilled}
use Rattle.drill_run.specs.declared.answers.Drilled.TheVariants as drilled
use Rattle.r53_cli.specs.Forms.{IsFew, IsForm, MayBeOnce}
use Rattle.r53_cli.specs.Sessions.{Counts, FormLeaves, Devices, of_init}
use Rattle.r53_cli.specs.declared.form.Form.{Form}
use Rattle.r53_cli.specs.declared.form.Form.TheVariants as form
use Rattle.r53_cli.specs.declared.status.Status.TheVariants as status
use Rattle.r53_io.specs.Network.{Incoming}
use Rattle.rand_core.specs.Stream.{Stream}
use Rattle.session_run.specs.Serving.{Datagram}
use Rattle.session_run.specs.Running.{UnlessEnded}
use Rattle.session_run.specs.declared.ran.Ran.{Ran}
use Rattle.session_run.specs.declared.ran.Ran.TheVariants as ran
use Rattle.zone_journal.specs.declared.answers.Init.{Init}
use Rattle.zone_journal.specs.declared.answers.Init.TheVariants as init

pub init_is_no_usage : (answer : Init) → of_init answer ≢ status.Usage
init_is_no_usage init.Done is = absurd (Prim.cc)
init_is_no_usage (init.AlreadyAStore side) is = absurd (Prim.cc)
init_is_no_usage init.DiskFault is = absurd (Prim.cc)

-- a drill's words ask for few events
pub few : (words : List (List ℕ)) (its : Form) → IsForm words its → IsFew its
few words (form.Once once) is = tt
few words form.Init is = tt
few words form.Run is = tt
few words form.Dump is = tt
few words (form.Drill events) is = is.1

one_is_not_four : {X : Type 0} (a b c d e : X) → ◌≡◌ {A = List X} (a ∷ b ∷ c ∷ d ∷ []) (e ∷ []) → ⊥
one_is_not_four a b c d e is = absurd (Prim.cc)

two_are_not_four : {X : Type 0} (a b c d e f : X)
    → ◌≡◌ {A = List X} (a ∷ b ∷ c ∷ d ∷ []) (e ∷ f ∷ []) → ⊥
two_are_not_four a b c d e f is = absurd (Prim.cc)

-- Want of memory for words: they may be those of `once` alone, and nothing was done.
module _ {D : Type 0} (reading : D → Option (List ℕ)) (images : D → List ℕ → Type 0)
    (moment : D → ℕ) (images_since : D → ℕ → List ℕ → Type 0) (a b : D) (seen : Devices)
    (counts : Counts) (words : List (List ℕ)) (may : MayBeOnce words) where
  pub starved : (its : Form) → IsForm words its
      → FormLeaves reading images moment images_since its status.OutOfMemory a a b b seen seen counts
      counts
  starved (form.Once once) is = (refl, tt, refl, refl, refl, refl)
  starved form.Init is =
      absurd (one_is_not_four (codes "once") may.name may.ttl may.address _ (sym may.words_are ∙ is))
  starved form.Run is =
      absurd (one_is_not_four (codes "once") may.name may.ttl may.address _ (sym may.words_are ∙ is))
  starved form.Dump is =
      absurd (one_is_not_four (codes "once") may.name may.ttl may.address _ (sym may.words_are ∙ is))
  starved (form.Drill events) is =
      absurd (two_are_not_four (codes "once") may.name may.ttl may.address _ _
      (sym may.words_are ∙ is.0))

-- ---- a dump

pub still_held : {K : Type 0} (held : K → Option (List ℕ)) (answer : Dumped) (old new : K)
    → IsUnwritten answer (new ≡ old) → IsUnwritten answer (held new ≡ held old)
still_held held dumped.Written old new is = tt
still_held held (dumped.NotAStore side place) old new is = ap held is
still_held held dumped.OpeningFault old new is = ap held is
still_held held dumped.OutOfMemory old new is = ap held is
still_held held dumped.WriteFault old new is = tt

-- ---- a drill

pub summary_unwritten : {K : Type 0} (held : K → Option (List ℕ)) (answer : Drilled) (old new : K)
    → IfUnwritten answer (new ≡ old) → IfUnwritten answer (held new ≡ held old)
summary_unwritten held drilled.Written old new is = tt
summary_unwritten held (drilled.AlreadyAStore side) old new is = ap held is
summary_unwritten held drilled.MakingFault old new is = ap held is
summary_unwritten held (drilled.NotAStore side place) old new is = ap held is
summary_unwritten held drilled.OpeningFault old new is = ap held is
summary_unwritten held drilled.OutOfMemory old new is = ap held is
summary_unwritten held drilled.DiskFault old new is = ap held is
summary_unwritten held drilled.WriteFault old new is = tt

-- ---- a session that ended before its lines

pub unless_mapped : (answer : Ran) (P Q : Type 0) → (P → Q) → UnlessEnded answer P
    → UnlessEnded answer Q
unless_mapped (ran.BadTables number) P Q f p = f p
unless_mapped ran.TablesFault P Q f p = f p
unless_mapped ran.TablesTooLong P Q f p = f p
unless_mapped (ran.NotAStore side place) P Q f p = f p
unless_mapped ran.OpeningFault P Q f p = f p
unless_mapped ran.OutOfMemory P Q f p = f p
unless_mapped (ran.Ended how) P Q f p = tt

module _ {S K L R : Type 0} (left : S → Option (List ℕ)) (in_faults : S → ℕ)
    (held : K → Option (List ℕ)) (out_faults : K → ℕ) (ports : L → Option (ℕ → ℕ → ℕ × ℕ))
    (coming : L → Option (List Incoming)) (sent : L → Option (List Datagram)) (link_faults : L → ℕ)
    (stream : R → Stream) where
  seen : S → K → L → R → Option (List ℕ) → Devices
  seen input out link words rows = record {
    left = left input;
    rows = rows;
    held = held out;
    ports = ports link;
    coming = coming link;
    sent = sent link;
    words = stream words;
  }

  pub unasked : (answer : Ran) (input input_new : S) (out out_new : K) (link link_new : L)
      (words words_new : R) (rows rows_new : Option (List ℕ)) (t t_new a a_new b b_new : ℕ)
      → UnlessEnded answer ((input_new ≡ input) × (out_new ≡ out) × (link_new ≡ link)
      × (words_new ≡ words))
      → UnlessEnded answer ((◌≡◌ {A = Devices} (record {
        left = left input_new;
        rows = rows_new;
        held = held out_new;
        ports = ports link_new;
        coming = coming link_new;
        sent = sent link_new;
        words = stream words_new;
      }) (record {
        left = left input;
        rows = rows_new;
        held = held out;
        ports = ports link;
        coming = coming link;
        sent = sent link;
        words = stream words;
      })) × (◌≡◌ {A = Counts} (record {
        input = in_faults input_new;
        tables = t_new;
        out = out_faults out_new;
        a = a_new;
        b = b_new;
        link = link_faults link_new;
      }) (record {
        input = in_faults input;
        tables = t_new;
        out = out_faults out;
        a = a_new;
        b = b_new;
        link = link_faults link;
      })))
  unfolding seen
  unasked answer input input_new out out_new link link_new words words_new rows rows_new t t_new a
      a_new b b_new is =
      unless_mapped answer _ _ (λ e. (
        ap (λ (i : S). seen i out_new link_new words_new rows_new) e.0
            ∙ ap (λ (o : K). seen input o link_new words_new rows_new) e.1
            ∙ ap (λ (l : L). seen input out l words_new rows_new) e.2
            ∙ ap (λ (w : R). seen input out link w rows_new) e.3,
        ap (λ (i : S). record {
          input = in_faults i;
          tables = t_new;
          out = out_faults out_new;
          a = a_new;
          b = b_new;
          link = link_faults link_new;
        }) e.0
            ∙ ap (λ (o : K). record {
              input = in_faults input;
              tables = t_new;
              out = out_faults o;
              a = a_new;
              b = b_new;
              link = link_faults link_new;
            }) e.1
            ∙ ap (λ (l : L). record {
              input = in_faults input;
              tables = t_new;
              out = out_faults out;
              a = a_new;
              b = b_new;
              link = link_faults l;
            }) e.2,
      )) is
