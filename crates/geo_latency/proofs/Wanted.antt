-- A row of latencies for which there is no memory.
use Rattle.std.proofs.Common.{◌≡◌, ℕ, Bool, true, false, cond, Some, List, refl, subst}
use Rattle.geo_latency.specs.Lines.{prefix_of_latencies, said}
use Rattle.geo_latency.specs.Tables.{Adds, is_free, outcome_of}
use Rattle.geo_latency.specs.declared.lines.Line.{Line}
use Rattle.geo_latency.specs.declared.lines.Line.TheVariants as line
use Rattle.geo_latency.specs.declared.tables.TableLine.TheVariants.{Added, Bad, OutOfMemory}
use Rattle.geo_latency.specs.declared.tables.Tables.{Tables}
use Rattle.prefix_text.specs.PrefixesOfIpTable.{Prefix}

module _ (tables : Tables) (prefix : Prefix) where
  would_add : (words : Line) → Some prefix ≡ prefix_of_latencies words
      → is_free tables.latencies prefix ≡ true → (outcome_of tables words).0 ≡ Added
  would_add line.Skipped e free = absurd (let no : ⊥ = cc in no)
  would_add line.Bad e free = absurd (let no : ⊥ = cc in no)
  would_add (line.Place other location) e free = absurd (let no : ⊥ = cc in no)
  would_add (line.Latency other latencies) e free =
      let same : prefix ≡ other = cc in
      rw (subst (λ p. is_free tables.latencies p ≡ true) same free) refl

  is_bad : (words : Line) → Some prefix ≡ prefix_of_latencies words
      → is_free tables.latencies prefix ≡ false → (Bad, tables) ≡ outcome_of tables words
  is_bad line.Skipped e taken = absurd (let no : ⊥ = cc in no)
  is_bad line.Bad e taken = absurd (let no : ⊥ = cc in no)
  is_bad (line.Place other location) e taken = absurd (let no : ⊥ = cc in no)
  is_bad (line.Latency other latencies) e taken =
      let same : prefix ≡ other = cc in
      rw (subst (λ p. is_free tables.latencies p ≡ false) same taken) refl

  pub wanted : (line : List ℕ) (free : Bool) → is_free tables.latencies prefix ≡ free
      → Some prefix ≡ prefix_of_latencies (said line)
      → Adds tables line (cond free OutOfMemory Bad) tables
  wanted line true free e = (would_add (said line) e free, refl)
  wanted line false taken e = is_bad (said line) e taken
