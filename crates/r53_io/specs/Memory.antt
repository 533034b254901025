-- A source and a sink in memory, as their callers see them.
use Rattle.std.specs.Prelude.{◌≡◌, ℕ, List, ◌++◌, drop}
use Rattle.octets.specs.Counts.{next_count}
use Rattle.r53_io.specs.declared.streams.Got.{Got}
use Rattle.r53_io.specs.declared.streams.Got.TheVariants.{Bytes, Failed}

-- A source: what it has left, how much it gives at once, the numbers of the calls that fail, the
-- number of the next call, and its count of faults.
pub record SourceState : Type 0 where
  pub left : List ℕ
  pub piece : ℕ
  pub fail : List ℕ
  pub calls : ℕ
  pub faults : ℕ

-- A sink: what it holds, its room, the numbers of the calls that fail, the number of the next
-- call, and its count of faults.
pub record SinkState : Type 0 where
  pub held : List ℕ
  pub room : ℕ
  pub fail : List ℕ
  pub calls : ℕ
  pub faults : ℕ

-- the source after a read
abbrev pub AfterRead : SourceState → Got → SourceState → Type 0
AfterRead old (Bytes n) new =
    new ≡ record old { left = drop n old.left; calls = next_count old.calls }
AfterRead old Failed new =
    new ≡ record old { calls = next_count old.calls; faults = next_count old.faults }

-- the sink after a write
abbrev pub AfterWrite : SinkState → Got → List ℕ → SinkState → Type 0
AfterWrite old (Bytes n) from new =
    new ≡ record old { held = old.held ++ from; calls = next_count old.calls }
AfterWrite old Failed from new =
    new ≡ record old { calls = next_count old.calls; faults = next_count old.faults }
