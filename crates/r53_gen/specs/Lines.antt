-- The lines of a drill by their numbers (FORMATS, Drill). All names are below example.com., and all
-- records are of type A and live for 60 seconds.
use Rattle.std.specs.Prelude.{ℕ, zero, suc, ◌+◌, ◌*◌, ◌/◌, ◌%◌, ◌==◌, List, [], ◌∷◌, ◌++◌, codes}
use Rattle.std.specs.Prelude.{if◌then◌else◌, nat_lt}
use Rattle.std.specs.Fmt.{decimal}
use Rattle.dns_name.specs.Labels.{wire}
use Rattle.hex.specs.Hex.{encode_lower}
use Rattle.octets.specs.Numbers.{two_octets}

-- ---- texts one after another

-- what stands before the text of a row's place
abbrev pub comma : (i : ℕ) → List ℕ
comma zero = []
comma (suc i) = codes ","

-- the first n texts of a row, with commas between them
abbrev pub listed : (text : ℕ → List ℕ) → (n : ℕ) → List ℕ
listed text zero = []
listed text (suc n) = listed text n ++ (comma n ++ text n)

-- a batch of changes of the first zone
abbrev pub opening : List ℕ
opening =
    codes "{\"ChangeResourceRecordSets\":{\"HostedZoneId\":\"Z1\",\"ChangeBatch\":{\"Changes\":["

abbrev pub batch : (changes : List ℕ) → List ℕ
batch changes = opening ++ (changes ++ codes "]}}}")

-- ---- setup

abbrev pub zone : List ℕ
zone = codes "{\"CreateHostedZone\":{\"Name\":\"example.com\"}}"

abbrev pub check : List ℕ
check = codes "{\"CreateHealthCheck\":{\"HealthCheckConfig\":{\"Type\":\"TCP\",\"FailureThreshold\":1}}}"

-- a weighted set `l<i>`, with its identifier, the last octet of its value, and check `h<i+1>`
abbrev pub weighted_set : (i : ℕ) → (ident : List ℕ) → (last : ℕ) → List ℕ
weighted_set i ident last =
    codes "{\"Action\":\"CREATE\",\"ResourceRecordSet\":{\"Name\":\"l" ++ (decimal i
    ++ (codes ".example.com\",\"Type\":\"A\",\"SetIdentifier\":\"" ++ (ident
    ++ (codes "\",\"Weight\":1,\"TTL\":60,\"ResourceRecords\":[{\"Value\":\"192.0.2." ++ (decimal last
    ++ (codes "\"}],\"HealthCheckId\":\"h" ++ (decimal (i + 1) ++ codes "\"}}")))))))

-- the two of them
abbrev pub weighted_sets : (i : ℕ) → List ℕ
weighted_sets i =
    weighted_set i (codes "a") (2 * i + 1)
    ++ (codes "," ++ weighted_set i (codes "b") (2 * i + 2))

-- a failover set `t<i>`, with its identifier and its role: an evaluated alias to `l<target>`
abbrev pub failover_set : (i : ℕ) → (ident role : List ℕ) → (target : ℕ) → List ℕ
failover_set i ident role target =
    codes "{\"Action\":\"CREATE\",\"ResourceRecordSet\":{\"Name\":\"t" ++ (decimal i
    ++ (codes ".example.com\",\"Type\":\"A\",\"SetIdentifier\":\"" ++ (ident
    ++ (codes "\",\"Failover\":\"" ++ (role
    ++ (codes "\",\"AliasTarget\":{\"HostedZoneId\":\"Z1\",\"DNSName\":\"l" ++ (decimal target
    ++ codes ".example.com\",\"EvaluateTargetHealth\":true}}}")))))))

abbrev pub failover_sets : (i : ℕ) → List ℕ
failover_sets i =
    failover_set i (codes "p") (codes "PRIMARY") (2 * i)
    ++ (codes "," ++ failover_set i (codes "s") (codes "SECONDARY") (2 * i + 1))

-- a weighted set `top`, an evaluated alias to `t<i>`
abbrev pub top_set : (i : ℕ) → List ℕ
top_set i =
    codes "{\"Action\":\"CREATE\",\"ResourceRecordSet\":{\"Name\":\"top.example.com\",\"Type\":\"A\",\"SetIdentifier\":\""
    ++ (decimal i
    ++ (codes "\",\"Weight\":1,\"AliasTarget\":{\"HostedZoneId\":\"Z1\",\"DNSName\":\"t" ++ (decimal i
    ++ codes ".example.com\",\"EvaluateTargetHealth\":true}}}")))

-- how many lines of setup there are
abbrev pub setup_count : ℕ
setup_count = 24

-- A zone, twenty checks of endpoints, and the sets from the leaves up.
abbrev pub setup : (i : ℕ) → List ℕ
setup i =
    if i == 0 then zone
    else if nat_lt i 21 then check
    else if i == 21 then batch (listed weighted_sets 20)
    else if i == 22 then batch (listed failover_sets 10)
    else batch (listed top_set 10)

-- ---- events

-- Event k is the one of kind k mod 4 with number k div 4, which is j.

-- a report, of each checker on each check in turn; it passes in each second thousand
abbrev pub passes : (j : ℕ) → List ℕ
passes j = if j / 1000 % 2 == 1 then codes "true" else codes "false"

abbrev pub observation : (j : ℕ) → List ℕ
observation j =
    codes "{\"Observe\":{\"HealthCheckId\":\"h" ++ (decimal (1 + j % 20)
    ++ (codes "\",\"Checker\":" ++ (decimal (j / 20 % 50)
    ++ (codes ",\"Pass\":" ++ (passes j ++ codes "}}")))))

-- A query of type A and class IN for a label below example.com (RFC 1035, 4.1): the ID, no flags, one
-- question and no records, and the question.
abbrev pub packet : (id : ℕ) → (label : List ℕ) → List ℕ
packet id label =
    two_octets id ++ (0 ∷ 0 ∷ 0 ∷ 1 ∷ 0 ∷ 0 ∷ 0 ∷ 0 ∷ 0 ∷ 0 ∷ []
    ++ (wire (label ∷ codes "example" ∷ codes "com" ∷ []) ++ 0 ∷ 1 ∷ 0 ∷ 1 ∷ []))

-- each of the words of event k's query
abbrev pub word : (j i : ℕ) → List ℕ
word j i = decimal j

abbrev pub query : (k j : ℕ) → (label : List ℕ) → List ℕ
query k j label =
    codes "{\"Query\":{\"Packet\":\"" ++ (encode_lower (packet (k % 65536) label)
    ++ (codes "\",\"Address\":\"192.0.2.9\",\"Words\":[" ++ (listed (word j) 8 ++ codes "]}}")))

-- a batch that writes the simple set `u<j mod 100>`
abbrev pub upsert : (j : ℕ) → List ℕ
upsert j = batch (
    codes "{\"Action\":\"UPSERT\",\"ResourceRecordSet\":{\"Name\":\"u" ++ (decimal (j % 100)
    ++ (codes ".example.com\",\"Type\":\"A\",\"TTL\":60,\"ResourceRecords\":[{\"Value\":\"198.51.100."
    ++ (decimal (j % 256) ++ codes "\"}]}}"))))

abbrev pub event_line : (k : ℕ) → List ℕ
event_line k =
    if k % 4 == 0 then observation (k / 4)
    else if k % 4 == 1 then query k (k / 4) (codes "top")
    else if k % 4 == 2 then upsert (k / 4)
    else query k (k / 4) (codes "u" ++ decimal (k / 4 % 200))

-- the line behind each event k with k mod 10000 = 9999, which is no event
abbrev pub compaction : List ℕ
compaction = codes "{\"Compact\":{\"Pieces\":1000}}"
