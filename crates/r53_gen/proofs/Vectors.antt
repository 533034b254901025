-- Lines of a drill as they are written out in its table, and how long those are that are too long to be read.
use Rattle.std.proofs.Common.{◌≡◌, ◌++◌, codes, length, refl}
use Rattle.std.specs.Fmt.{digits}
use Rattle.hex.specs.Hex.{encode_with}
use Rattle.r53_gen.specs.Lines.{batch, compaction, event_line, failover_sets, listed, setup, top_set, weighted_sets}

-- the zone
pub zone_first : setup 0 ≡ codes "{\"CreateHostedZone\":{\"Name\":\"example.com\"}}"
zone_first = refl

-- the first check and the last
pub check_first : setup 1 ≡
    codes "{\"CreateHealthCheck\":{\"HealthCheckConfig\":{\"Type\":\"TCP\",\"FailureThreshol"
    ++ codes "d\":1}}}"
check_first = refl

pub check_last : setup 20 ≡
    codes "{\"CreateHealthCheck\":{\"HealthCheckConfig\":{\"Type\":\"TCP\",\"FailureThreshol"
    ++ codes "d\":1}}}"
check_last = refl

-- the first two weighted sets
pub leaves_first : weighted_sets 0 ≡
    codes "{\"Action\":\"CREATE\",\"ResourceRecordSet\":{\"Name\":\"l0.example.com\",\"Type\":\""
    ++ (codes "A\",\"SetIdentifier\":\"a\",\"Weight\":1,\"TTL\":60,\"ResourceRecords\":[{\"Value\":\""
    ++ (codes "192.0.2.1\"}],\"HealthCheckId\":\"h1\"}},{\"Action\":\"CREATE\",\"ResourceRecordSe"
    ++ (codes "t\":{\"Name\":\"l0.example.com\",\"Type\":\"A\",\"SetIdentifier\":\"b\",\"Weight\":1,\"T"
    ++ codes "TL\":60,\"ResourceRecords\":[{\"Value\":\"192.0.2.2\"}],\"HealthCheckId\":\"h1\"}}")))
unfolding digits
leaves_first = refl

-- the last two
pub leaves_last : weighted_sets 19 ≡
    codes "{\"Action\":\"CREATE\",\"ResourceRecordSet\":{\"Name\":\"l19.example.com\",\"Type\":"
    ++ (codes "\"A\",\"SetIdentifier\":\"a\",\"Weight\":1,\"TTL\":60,\"ResourceRecords\":[{\"Value\":"
    ++ (codes "\"192.0.2.39\"}],\"HealthCheckId\":\"h20\"}},{\"Action\":\"CREATE\",\"ResourceRecor"
    ++ (codes "dSet\":{\"Name\":\"l19.example.com\",\"Type\":\"A\",\"SetIdentifier\":\"b\",\"Weight\":"
    ++ (codes "1,\"TTL\":60,\"ResourceRecords\":[{\"Value\":\"192.0.2.40\"}],\"HealthCheckId\":\"h"
    ++ codes "20\"}}"))))
unfolding digits
leaves_last = refl

-- the last two failover sets
pub pairs_last : failover_sets 9 ≡
    codes "{\"Action\":\"CREATE\",\"ResourceRecordSet\":{\"Name\":\"t9.example.com\",\"Type\":\""
    ++ (codes "A\",\"SetIdentifier\":\"p\",\"Failover\":\"PRIMARY\",\"AliasTarget\":{\"HostedZoneId"
    ++ (codes "\":\"Z1\",\"DNSName\":\"l18.example.com\",\"EvaluateTargetHealth\":true}}},{\"Acti"
    ++ (codes "on\":\"CREATE\",\"ResourceRecordSet\":{\"Name\":\"t9.example.com\",\"Type\":\"A\",\"Se"
    ++ (codes "tIdentifier\":\"s\",\"Failover\":\"SECONDARY\",\"AliasTarget\":{\"HostedZoneId\":\"Z"
    ++ codes "1\",\"DNSName\":\"l19.example.com\",\"EvaluateTargetHealth\":true}}}"))))
unfolding digits
pairs_last = refl

-- the last set of the name above all
pub top_last : top_set 9 ≡
    codes "{\"Action\":\"CREATE\",\"ResourceRecordSet\":{\"Name\":\"top.example.com\",\"Type\":"
    ++ (codes "\"A\",\"SetIdentifier\":\"9\",\"Weight\":1,\"AliasTarget\":{\"HostedZoneId\":\"Z1\",\"D"
    ++ codes "NSName\":\"t9.example.com\",\"EvaluateTargetHealth\":true}}}")
unfolding digits
top_last = refl

-- a batch of two of them
pub batch_of_two : batch (listed top_set 2) ≡
    codes "{\"ChangeResourceRecordSets\":{\"HostedZoneId\":\"Z1\",\"ChangeBatch\":{\"Changes"
    ++ (codes "\":[{\"Action\":\"CREATE\",\"ResourceRecordSet\":{\"Name\":\"top.example.com\",\"Typ"
    ++ (codes "e\":\"A\",\"SetIdentifier\":\"0\",\"Weight\":1,\"AliasTarget\":{\"HostedZoneId\":\"Z1\""
    ++ (codes ",\"DNSName\":\"t0.example.com\",\"EvaluateTargetHealth\":true}}},{\"Action\":\"CR"
    ++ (codes "EATE\",\"ResourceRecordSet\":{\"Name\":\"top.example.com\",\"Type\":\"A\",\"SetIdent"
    ++ (codes "ifier\":\"1\",\"Weight\":1,\"AliasTarget\":{\"HostedZoneId\":\"Z1\",\"DNSName\":\"t1.e"
    ++ codes "xample.com\",\"EvaluateTargetHealth\":true}}}]}}}")))))
unfolding digits
batch_of_two = refl

-- how long the line of forty weighted sets is
pub leaves_length : length (setup 21) ≡ 7351
unfolding digits
leaves_length = refl

-- how long the line of twenty failover sets is
pub pairs_length : length (setup 22) ≡ 4288
unfolding digits
pairs_length = refl

-- how long the line of ten weighted aliases is
pub tops_length : length (setup 23) ≡ 2078
unfolding digits
tops_length = refl

-- the first report
pub event_0 : event_line 0 ≡ codes "{\"Observe\":{\"HealthCheckId\":\"h1\",\"Checker\":0,\"Pass\":false}}"
unfolding digits
event_0 = refl

-- the first query
pub event_1 : event_line 1 ≡
    codes "{\"Query\":{\"Packet\":\"00010000000100000000000003746f70076578616d706c650363"
    ++ codes "6f6d0000010001\",\"Address\":\"192.0.2.9\",\"Words\":[0,0,0,0,0,0,0,0]}}"
unfolding digits encode_with
event_1 = refl

-- the first batch
pub event_2 : event_line 2 ≡
    codes "{\"ChangeResourceRecordSets\":{\"HostedZoneId\":\"Z1\",\"ChangeBatch\":{\"Changes"
    ++ (codes "\":[{\"Action\":\"UPSERT\",\"ResourceRecordSet\":{\"Name\":\"u0.example.com\",\"Type"
    ++ codes "\":\"A\",\"TTL\":60,\"ResourceRecords\":[{\"Value\":\"198.51.100.0\"}]}}]}}}")
unfolding digits
event_2 = refl

-- the query for its set
pub event_3 : event_line 3 ≡
    codes "{\"Query\":{\"Packet\":\"000300000001000000000000027530076578616d706c6503636f"
    ++ codes "6d0000010001\",\"Address\":\"192.0.2.9\",\"Words\":[0,0,0,0,0,0,0,0]}}"
unfolding digits encode_with
event_3 = refl

-- the last of a thousand reports: the last check and the last checker, a failure
pub event_3996 : event_line 3996 ≡ codes "{\"Observe\":{\"HealthCheckId\":\"h20\",\"Checker\":49,\"Pass\":false}}"
unfolding digits
event_3996 = refl

-- the next one, which passes
pub event_4000 : event_line 4000 ≡ codes "{\"Observe\":{\"HealthCheckId\":\"h1\",\"Checker\":0,\"Pass\":true}}"
unfolding digits
event_4000 = refl

-- the greatest last octet of an address
pub event_1022 : event_line 1022 ≡
    codes "{\"ChangeResourceRecordSets\":{\"HostedZoneId\":\"Z1\",\"ChangeBatch\":{\"Changes"
    ++ (codes "\":[{\"Action\":\"UPSERT\",\"ResourceRecordSet\":{\"Name\":\"u55.example.com\",\"Typ"
    ++ codes "e\":\"A\",\"TTL\":60,\"ResourceRecords\":[{\"Value\":\"198.51.100.255\"}]}}]}}}")
unfolding digits
event_1022 = refl

-- a set that is written by no batch
pub event_799 : event_line 799 ≡
    codes "{\"Query\":{\"Packet\":\"031f000000010000000000000475313939076578616d706c6503"
    ++ (codes "636f6d0000010001\",\"Address\":\"192.0.2.9\",\"Words\":[199,199,199,199,199,199"
    ++ codes ",199,199]}}")
unfolding digits encode_with
event_799 = refl

-- an ID behind the greatest
pub event_70001 : event_line 70001 ≡
    codes "{\"Query\":{\"Packet\":\"11710000000100000000000003746f70076578616d706c650363"
    ++ (codes "6f6d0000010001\",\"Address\":\"192.0.2.9\",\"Words\":[17500,17500,17500,17500,1"
    ++ codes "7500,17500,17500,17500]}}")
unfolding digits encode_with
event_70001 = refl

-- pieces of a compaction
pub pieces_made : compaction ≡ codes "{\"Compact\":{\"Pieces\":1000}}"
pieces_made = refl
