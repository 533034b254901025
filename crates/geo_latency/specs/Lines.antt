-- The lines of the tables of places and of latencies (FORMATS, Tables of places and latencies).
use Rattle.std.specs.Prelude.{ℕ, ◌&&◌, ◌==◌, nat_lt, nat_le, not, Bool, true, List, [], ◌∷◌}
use Rattle.std.specs.Prelude.{length, map, codes, Option, None, Some, if◌then◌else◌}
use Rattle.std.specs.List.{list_any}
use Rattle.std.specs.Str.{bytes_eq}
use Rattle.prefix_text.specs.AddressOfText.{pieces}
use Rattle.geo_latency.specs.Rows.{continent_of_text, country_of_text, subdivision_of_text, located}
use Rattle.geo_latency.specs.Rows.{region_latency_of}
use Rattle.geo_latency.specs.declared.lines.Line.{Line}
use Rattle.geo_latency.specs.declared.lines.Line.TheVariants.{Skipped, Place, Latency, Bad}
use Rattle.geo_latency.specs.declared.location.Location.{Location}
use Rattle.prefix_text.specs.PrefixesOfIpTable.{Prefix}
use Rattle.prefix_text.specs.Prefixes.{prefix_of_text}

-- the pieces of a text with one separator between them
abbrev pub parts : (separator : ℕ) → List ℕ → List (List ℕ)
parts separator text = (pieces separator text).0 ∷ (pieces separator text).1

-- the pieces that stand behind a separator, where there is one
abbrev pub later : (separator : ℕ) → Option (List ℕ) → List (List ℕ)
later separator None = []
later separator (Some text) = parts separator text

-- a latency in front of others, where each is told
abbrev pub in_front : (first : Option (List ℕ × ℕ)) → (rest : Option (List (List ℕ × ℕ)))
    → Option (List (List ℕ × ℕ))
in_front None rest = None
in_front (Some first) None = None
in_front (Some first) (Some rest) = Some (first ∷ rest)

abbrev pub all_there : List (Option (List ℕ × ℕ)) → Option (List (List ℕ × ℕ))
all_there [] = Some []
all_there (first ∷ rest) = in_front first (all_there rest)

-- a latency of this region is among them
abbrev pub has_region : List (List ℕ × ℕ) → (region : List ℕ) → Bool
has_region rows region = list_any (λ row. bytes_eq row.0 region) rows

-- each region once
abbrev pub each_once : List (List ℕ × ℕ) → Bool
each_once [] = true
each_once (row ∷ rows) = not (has_region rows row.0) && each_once rows

-- 1 to 32 regions, each once
abbrev pub are_latencies : List (List ℕ × ℕ) → Bool
are_latencies rows = nat_le 1 (length rows) && nat_le (length rows) 32 && each_once rows

abbrev pub if_latencies : Option (List (List ℕ × ℕ)) → Option (List (List ℕ × ℕ))
if_latencies None = None
if_latencies (Some rows) = if are_latencies rows then Some rows else None

-- regions with their latencies, and a comma between them
abbrev pub latencies_of : List ℕ → Option (List (List ℕ × ℕ))
latencies_of text = if_latencies (all_there (map region_latency_of (parts 0x2C text)))

-- a row of a prefix and a value, where both are told
abbrev pub place_row : Option Prefix → Option Location → Line
place_row None location = Bad
place_row (Some prefix) None = Bad
place_row (Some prefix) (Some location) = Place prefix location

abbrev pub latency_row : Option Prefix → Option (List (List ℕ × ℕ)) → Line
latency_row None latencies = Bad
latency_row (Some prefix) None = Bad
latency_row (Some prefix) (Some latencies) = Latency prefix latencies

-- what stands behind the word `geo`: <prefix> <continent> <country> <subdivision>
abbrev pub place_fields : List (List ℕ) → Line
place_fields (prefix ∷ continent ∷ country ∷ subdivision ∷ []) =
    place_row (prefix_of_text prefix)
    (located (continent_of_text continent) (country_of_text country) (subdivision_of_text subdivision))
place_fields fields = Bad

-- what stands behind the word `lat`: <prefix> <region>=<n>,<region>=<n>
abbrev pub latency_fields : List (List ℕ) → Line
latency_fields (prefix ∷ latencies ∷ []) = latency_row (prefix_of_text prefix) (latencies_of latencies)
latency_fields fields = Bad

-- the prefix of a line of latencies
abbrev pub prefix_of_latencies : Line → Option Prefix
prefix_of_latencies Skipped = None
prefix_of_latencies Bad = None
prefix_of_latencies (Place prefix location) = None
prefix_of_latencies (Latency prefix latencies) = Some prefix

abbrev pub row_of : (fields : List (List ℕ)) → Line
row_of [] = Bad
row_of (word ∷ fields) =
    if bytes_eq word (codes "geo") then place_fields fields
    else if bytes_eq word (codes "lat") then latency_fields fields
    else Bad

-- an empty line, or one that begins with `#`
abbrev pub is_skipped : List ℕ → Bool
is_skipped [] = true
is_skipped (first ∷ rest) = first == 0x23

-- What a line says. Each line, a skipped one too, has at most 4,096 bytes. Fields have one space
-- between them.
abbrev pub said : (line : List ℕ) → Line
said line =
    if nat_lt 4096 (length line) then Bad
    else if is_skipped line then Skipped
    else row_of (parts 0x20 line)
