-- What the files open to by how lines ended.
use Rattle.std.proofs.Common.{◌≡◌, ◌≢◌, ◌++◌, inl, inr, ℕ, List, [], ◌∷◌, Option, refl, subst}
use Rattle.std.specs.Prelude.{IfSome}
use Rattle.engine_model.specs.Engine.{Engine}
use Rattle.session_server.specs.Configs.{Config}
use Rattle.session_loop.specs.Ending.{AppliesSome, FilesKept, FilesOpenBehind}
use Rattle.session_loop.specs.Turning.{ended_of}
use Rattle.session_loop.specs.declared.ended.Ended.{Ended}
use Rattle.session_loop.specs.declared.ended.Ended.TheVariants as ended
use Rattle.session_server.specs.Files.{AreOpenAlike, FilesOpen}
use Rattle.session_server.specs.Keeping.{IsOneMore, OpensOneMore}
use Rattle.session_server.specs.Taken.{Taken}
use Rattle.session_server.specs.Taken.TheVariants as taken
use Rattle.store_model.specs.Applying.{AppliesAll}
use Rattle.store_model.specs.CommandRecord.{Command}

-- ---- commands, one after another

all_join : (a b c : Config) (first second : List Command) → AppliesAll a first b
    → AppliesAll b second c → AppliesAll a (first ++ second) c
all_join a b c [] second is more = subst (λ (x : Config). AppliesAll x second c) is more
all_join a b c (given ∷ first) second (middle, what, decides, rest) more =
    (middle, what, decides, all_join middle b c first second rest more)

pub some_join : (a b c : Config) → AppliesSome a b → AppliesSome b c → AppliesSome a c
some_join a b c (first, its) (second, more) = (first ++ second, all_join a b c first second its more)

pub applied : (a b : Config) → IsOneMore a b → AppliesSome a b
applied a b (inl same) = ([], same)
applied a b (inr (given, what, decides)) = (given ∷ [], (b, what, decides, refl))

pub one_more : (a b c : Config) → AppliesSome a b → IsOneMore b c → AppliesSome a c
one_more a b c some more = some_join a b c some (applied b c more)

-- ---- the files at an end

module _ {D : Type 0} (images : D → List ℕ → Type 0) (a b : D) where
  -- a line that asked no disk
  pub stays : (config : Config) → FilesOpen images a b config → OpensOneMore images a b config
  stays config opens = (config, inl refl, λ u v left right. inl (opens u v left right))

  pub behind_none : (config : Config) → AreOpenAlike images a b config
      → FilesOpenBehind images a b config
  behind_none config opens = (config, ([], refl), opens)

  behind_one : (before now : Config) → IsOneMore before now → AreOpenAlike images a b now
      → FilesOpenBehind images a b before
  behind_one before now more opens = (now, applied before now more, opens)

  -- by what came of a line
  pub line_files : (before : Config) (answer : Taken)
      → (answer ≡ taken.DiskFault → OpensOneMore images a b before)
      → (answer ≢ taken.DiskFault
      → (now : Config) × IsOneMore before now × AreOpenAlike images a b now)
      → IfSome (ended_of answer) (λ how. FilesKept how images a b before)
  line_files before taken.Replied torn opens = tt
  line_files before taken.WriteFault torn opens =
      let its = opens (λ e. absurd (Prim.cc)) in behind_one before its.0 its.1 its.2
  line_files before taken.DiskFault torn opens = (before, ([], refl), torn refl)
  line_files before taken.LinkFault torn opens =
      let its = opens (λ e. absurd (Prim.cc)) in behind_one before its.0 its.1 its.2

  behind_more : (start now : Config) → AppliesSome start now → FilesOpenBehind images a b now
      → FilesOpenBehind images a b start
  behind_more start now some (after, more, opens) =
      (after, some_join start now after some more, opens)

  -- behind some commands
  pub files_join : (how : Ended) (start now : Config) → AppliesSome start now
      → FilesKept how images a b now → FilesKept how images a b start
  files_join ended.Done start now some files = behind_more start now some files
  files_join ended.ReadFault start now some files = behind_more start now some files
  files_join ended.InputTooLong start now some files = behind_more start now some files
  files_join ended.WriteFault start now some files = behind_more start now some files
  files_join ended.DiskFault start now some (before, more, torn) =
      (before, some_join start now before some more, torn)
  files_join ended.LinkFault start now some files = behind_more start now some files
