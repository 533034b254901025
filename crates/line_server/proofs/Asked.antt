-- What comes of lines that ask.
use Rattle.std.proofs.Common.{◌≡◌, ℕ, List, Option, subst}
use Rattle.serve_turns.specs.Engine.{Engine}
use Rattle.line_server.proofs.Commands.{written}
use Rattle.line_server.specs.Leaving.{Replies, taken_of}
use Rattle.line_server.specs.declared.answers.Taken.{Taken}
use Rattle.whole_writing.specs.Output.{OutputOf}
use Rattle.whole_writing.specs.declared.output.Output.{Output}

module _ (Steps : (old after : Engine) → (reply : List ℕ) → Type 0) (engine : Engine)
    (P : Engine → Type 0) (held : List ℕ) (out : Option (List ℕ)) (o : Output) (answer : Taken)
    (is : taken_of o ≡ answer) where
  -- a reply of a step
  pub replied : (after : Engine) (reply : List ℕ) → Steps engine after reply → P after
      → OutputOf held out o reply → Replies answer Steps engine P held out
  replied after reply steps here was =
      subst (λ (t : Taken). Replies t Steps engine P held out) is
      (after, reply, steps, here, written o held out reply was)
