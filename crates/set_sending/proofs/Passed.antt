-- A text on its way through a buffer into a sink.
use Rattle.std.proofs.Common.{◌≡◌, List, [], ℕ, ◌++◌, Option, Some, ap, ◌∙◌, sym, subst, append_assoc, append-nil}
use Rattle.whole_writing.proofs.Pieces.{first_fails, joined}
use Rattle.whole_writing.specs.Output.{OutputOf}
use Rattle.whole_writing.specs.declared.output.Output.{Output}
use Rattle.whole_writing.specs.declared.output.Output.TheVariants as output
use Rattle.set_sending.specs.Passing.{IsPassed}

-- what comes of writing what the buffer holds
abbrev pub Writes : (sink sink_now : Option (List ℕ)) → Output → (buffer : List ℕ) → Type 0
Writes sink sink_now result buffer =
    (bytes : List ℕ) → sink ≡ Some bytes → OutputOf bytes sink_now result buffer

module _ (held rest text : List ℕ) (sink sink_now : Option (List ℕ)) (buffer piece : List ℕ)
    (same : piece ≡ buffer) (passed : IsPassed held sink buffer rest text) where
  -- the buffer was written, and is empty then
  pub written : (empty : List ℕ) → empty ≡ [] → Writes sink sink_now output.Whole piece
      → IsPassed held sink_now empty rest text
  written empty none writes = record {
    sent = passed.sent ++ buffer;
    told = writes (held ++ passed.sent) passed.told
        ∙ ap (λ t. Some ((held ++ passed.sent) ++ t)) same
        ∙ ap Some (append_assoc held passed.sent buffer);
    all = ap (λ t. (passed.sent ++ buffer) ++ (t ++ rest)) none
        ∙ append_assoc passed.sent buffer rest ∙ passed.all;
  }

  -- it wasn't
  pub cut : Writes sink sink_now output.Failed piece → OutputOf held sink_now output.Failed text
  cut writes =
      subst (OutputOf held sink_now output.Failed) passed.all
      (joined held passed.sent (buffer ++ rest) sink_now output.Failed
      (first_fails (held ++ passed.sent) buffer rest sink_now
      (subst (OutputOf (held ++ passed.sent) sink_now output.Failed) same
      (writes (held ++ passed.sent) passed.told))))

-- the end of the text was written, or a part of it
pub ended : (held text : List ℕ) (sink sink_now : Option (List ℕ)) (buffer piece : List ℕ)
    (result : Output) → piece ≡ buffer → IsPassed held sink buffer [] text
    → Writes sink sink_now result piece → OutputOf held sink_now result text
ended held text sink sink_now buffer piece result same passed writes =
    subst (OutputOf held sink_now result)
    (ap (λ t. passed.sent ++ t) (same ∙ sym (append-nil buffer)) ∙ passed.all)
    (joined held passed.sent piece sink_now result
    (writes (held ++ passed.sent) passed.told))

-- one piece of two that are next
pub regroup : (held : List ℕ) (sink : Option (List ℕ)) (buffer a b rest text : List ℕ)
    → IsPassed held sink buffer ((a ++ b) ++ rest) text
    → IsPassed held sink buffer (a ++ (b ++ rest)) text
regroup held sink buffer a b rest text passed =
    subst (λ t. IsPassed held sink buffer t text) (append_assoc a b rest) passed

-- the first of what is next, by what that is
pub first_next : (held : List ℕ) (sink : Option (List ℕ)) (buffer next a b rest text : List ℕ)
    → next ≡ a ++ b → IsPassed held sink buffer (next ++ rest) text
    → IsPassed held sink buffer (a ++ (b ++ rest)) text
first_next held sink buffer next a b rest text same passed =
    regroup held sink buffer a b rest text
    (subst (λ t. IsPassed held sink buffer (t ++ rest) text) same passed)

-- nothing of a text is in the sink yet
pub begun : (held : List ℕ) (sink : Option (List ℕ)) (buffer rest text : List ℕ)
    → sink ≡ Some held → buffer ++ rest ≡ text → IsPassed held sink buffer rest text
begun held sink buffer rest text told all = record {
  sent = [];
  told = told ∙ ap Some (sym (append-nil held));
  all = all;
}
