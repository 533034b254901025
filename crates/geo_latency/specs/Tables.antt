-- What a line adds to the tables (FORMATS, Tables of places and latencies).
use Rattle.std.specs.Prelude.{◌≡◌, ℕ, ◌&&◌, ◌==◌, nat_lt, not, Bool, true, false, List, [], ◌∷◌}
use Rattle.std.specs.Prelude.{◌++◌, length, if◌then◌else◌}
use Rattle.std.specs.List.{list_any}
use Rattle.std.specs.Str.{bytes_eq}
use Rattle.prefix_text.specs.IpAddressRecord.{IpAddress}
use Rattle.prefix_text.specs.IpAddressRecord.TheVariants.{V4, V6}
use Rattle.geo_latency.specs.Lines.{said}
use Rattle.geo_latency.specs.declared.lines.Line.{Line}
use Rattle.geo_latency.specs.declared.lines.Line.TheVariants as line
use Rattle.geo_latency.specs.declared.tables.TableLine.{TableLine}
use Rattle.geo_latency.specs.declared.tables.TableLine.TheVariants.{Added, Skipped, Bad, OutOfMemory}
use Rattle.geo_latency.specs.declared.tables.Tables.{Tables}
use Rattle.prefix_text.specs.PrefixesOfIpTable.{Prefix}

-- two addresses are one
abbrev pub is_address : IpAddress → IpAddress → Bool
is_address (V4 octets) (V4 others) = bytes_eq octets others
is_address (V6 octets) (V6 others) = bytes_eq octets others
is_address (V4 octets) (V6 others) = false
is_address (V6 octets) (V4 others) = false

abbrev pub is_prefix : Prefix → Prefix → Bool
is_prefix prefix other = is_address prefix.address other.address && prefix.length == other.length

-- a row has this prefix
abbrev pub has_prefix : {V : Type 0} → (rows : List (Prefix × V)) → Prefix → Bool
has_prefix {V} rows prefix = list_any (λ (row : Prefix × V). is_prefix row.0 prefix) rows

-- A prefix stands once per kind, and each kind has at most 100,000 rows.
abbrev pub is_free : {V : Type 0} → (rows : List (Prefix × V)) → Prefix → Bool
is_free rows prefix = not (has_prefix rows prefix) && nat_lt (length rows) 100000

-- what a line with these words is answered, and the tables after it
abbrev pub outcome_of : Tables → Line → TableLine × Tables
outcome_of tables line.Skipped = (Skipped, tables)
outcome_of tables line.Bad = (Bad, tables)
outcome_of tables (line.Place prefix location) =
    if is_free tables.places prefix
    then (Added, record tables { places = tables.places ++ (prefix, location) ∷ [] })
    else (Bad, tables)
outcome_of tables (line.Latency prefix latencies) =
    if is_free tables.latencies prefix
    then (Added, record tables { latencies = tables.latencies ++ (prefix, latencies) ∷ [] })
    else (Bad, tables)

-- What a line is answered, and the tables after it.
abbrev pub outcome : Tables → (line : List ℕ) → TableLine × Tables
outcome tables line = outcome_of tables (said line)

-- The same of a call, which may find no memory for a row that would be added: then the tables are as
-- they were.
abbrev pub Adds : (old : Tables) → (line : List ℕ) → TableLine → (new : Tables) → Type 0
Adds old line Added new = (Added, new) ≡ outcome old line
Adds old line Skipped new = (Skipped, new) ≡ outcome old line
Adds old line Bad new = (Bad, new) ≡ outcome old line
Adds old line OutOfMemory new = ((outcome old line).0 ≡ Added) × (new ≡ old)

-- what an insert into one of them is answered, and its rows after it
abbrev pub AddsRow : {V : Type 0} → (old : List (Prefix × V)) → Prefix → V → TableLine
    → (new : List (Prefix × V)) → Type 0
AddsRow old prefix value Added new =
    (is_free old prefix ≡ true) × (new ≡ old ++ (prefix, value) ∷ [])
AddsRow old prefix value Bad new = (is_free old prefix ≡ false) × (new ≡ old)
AddsRow old prefix value OutOfMemory new = (is_free old prefix ≡ true) × (new ≡ old)
AddsRow old prefix value Skipped new = ⊥

-- what a row is answered for whose value there is no memory
abbrev pub refused : {V : Type 0} → (rows : List (Prefix × V)) → Prefix → TableLine
refused rows prefix = if is_free rows prefix then OutOfMemory else Bad
