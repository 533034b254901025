-- The lines, members and reasons by their texts.
use Rattle.std.proofs.Common.{◌≡◌, ℕ, List, [], ◌∷◌, Option, None, Some, refl, sym, ap, ◌∙◌}
use Rattle.std.specs.Prelude.{if◌then◌else◌}
use Rattle.std.specs.Str.{bytes_eq}
use Rattle.line_faults.specs.Texts.{text_of, reason_text}
use Rattle.line_faults.specs.declared.member.Member.{Member}
use Rattle.line_faults.specs.declared.member.Member.TheVariants as member
use Rattle.line_faults.specs.declared.fault.LineReason.{LineReason}
use Rattle.line_faults.specs.declared.fault.LineReason.TheVariants as reason

-- the first of these that has this text
abbrev first_named : {A : Type 0} → (A → List ℕ) → List A → List ℕ → Option A
first_named text [] s = None
first_named text (x ∷ xs) s = if bytes_eq (text x) s then Some x else first_named text xs s

same : {A : Type 0} (x y : A) → Some x ≡ Some y → x ≡ y
same x y e = cc

members : List Member
members =
    member.Line
    ∷ member.CreateHostedZone
    ∷ member.DeleteHostedZone
    ∷ member.ChangeResourceRecordSets
    ∷ member.ListResourceRecordSets
    ∷ member.CreateHealthCheck
    ∷ member.UpdateHealthCheck
    ∷ member.DeleteHealthCheck
    ∷ member.GetHealthCheckStatus
    ∷ member.Observe
    ∷ member.Query
    ∷ member.Bind
    ∷ member.Serve
    ∷ member.Compact
    ∷ member.CreateCidrCollection
    ∷ member.ChangeCidrCollection
    ∷ member.DeleteCidrCollection
    ∷ member.Name
    ∷ member.CallerReference
    ∷ member.NameServers
    ∷ member.HostedZoneConfig
    ∷ member.Comment
    ∷ member.PrivateZone
    ∷ member.Id
    ∷ member.HostedZoneId
    ∷ member.ChangeBatch
    ∷ member.Changes
    ∷ member.Action
    ∷ member.ResourceRecordSet
    ∷ member.«Type»
    ∷ member.SetIdentifier
    ∷ member.Weight
    ∷ member.Failover
    ∷ member.GeoLocation
    ∷ member.Region
    ∷ member.MultiValueAnswer
    ∷ member.CidrRoutingConfig
    ∷ member.Ttl
    ∷ member.ResourceRecords
    ∷ member.AliasTarget
    ∷ member.HealthCheckId
    ∷ member.Value
    ∷ member.ContinentCode
    ∷ member.CountryCode
    ∷ member.SubdivisionCode
    ∷ member.CollectionId
    ∷ member.LocationName
    ∷ member.DnsName
    ∷ member.EvaluateTargetHealth
    ∷ member.StartRecordName
    ∷ member.StartRecordType
    ∷ member.StartRecordIdentifier
    ∷ member.MaxItems
    ∷ member.HealthCheckConfig
    ∷ member.FailureThreshold
    ∷ member.Inverted
    ∷ member.Disabled
    ∷ member.HealthThreshold
    ∷ member.ChildHealthChecks
    ∷ member.IpAddress
    ∷ member.Port
    ∷ member.ResourcePath
    ∷ member.FullyQualifiedDomainName
    ∷ member.SearchString
    ∷ member.RequestInterval
    ∷ member.MeasureLatency
    ∷ member.EnableSni
    ∷ member.Regions
    ∷ member.Checker
    ∷ member.Pass
    ∷ member.Packet
    ∷ member.Address
    ∷ member.Words
    ∷ member.QueryPort
    ∷ member.ReportPort
    ∷ member.Turns
    ∷ member.Pieces
    ∷ member.CidrList
    ∷ member.GeoProximityLocation
    ∷ member.TrafficPolicyInstanceId
    ∷ member.DelegationSetId
    ∷ member.Vpc
    ∷ member.AlarmIdentifier
    ∷ member.InsufficientDataHealthStatus
    ∷ member.RoutingControlArn
    ∷ member.HealthCheckVersion
    ∷ member.ResetElements
    ∷ member.CollectionVersion ∷ []

member_again : (m : Member) → first_named text_of members (text_of m) ≡ Some m
unfolding members
member_again member.Line = refl
member_again member.CreateHostedZone = refl
member_again member.DeleteHostedZone = refl
member_again member.ChangeResourceRecordSets = refl
member_again member.ListResourceRecordSets = refl
member_again member.CreateHealthCheck = refl
member_again member.UpdateHealthCheck = refl
member_again member.DeleteHealthCheck = refl
member_again member.GetHealthCheckStatus = refl
member_again member.Observe = refl
member_again member.Query = refl
member_again member.Bind = refl
member_again member.Serve = refl
member_again member.Compact = refl
member_again member.CreateCidrCollection = refl
member_again member.ChangeCidrCollection = refl
member_again member.DeleteCidrCollection = refl
member_again member.Name = refl
member_again member.CallerReference = refl
member_again member.NameServers = refl
member_again member.HostedZoneConfig = refl
member_again member.Comment = refl
member_again member.PrivateZone = refl
member_again member.Id = refl
member_again member.HostedZoneId = refl
member_again member.ChangeBatch = refl
member_again member.Changes = refl
member_again member.Action = refl
member_again member.ResourceRecordSet = refl
member_again member.«Type» = refl
member_again member.SetIdentifier = refl
member_again member.Weight = refl
member_again member.Failover = refl
member_again member.GeoLocation = refl
member_again member.Region = refl
member_again member.MultiValueAnswer = refl
member_again member.CidrRoutingConfig = refl
member_again member.Ttl = refl
member_again member.ResourceRecords = refl
member_again member.AliasTarget = refl
member_again member.HealthCheckId = refl
member_again member.Value = refl
member_again member.ContinentCode = refl
member_again member.CountryCode = refl
member_again member.SubdivisionCode = refl
member_again member.CollectionId = refl
member_again member.LocationName = refl
member_again member.DnsName = refl
member_again member.EvaluateTargetHealth = refl
member_again member.StartRecordName = refl
member_again member.StartRecordType = refl
member_again member.StartRecordIdentifier = refl
member_again member.MaxItems = refl
member_again member.HealthCheckConfig = refl
member_again member.FailureThreshold = refl
member_again member.Inverted = refl
member_again member.Disabled = refl
member_again member.HealthThreshold = refl
member_again member.ChildHealthChecks = refl
member_again member.IpAddress = refl
member_again member.Port = refl
member_again member.ResourcePath = refl
member_again member.FullyQualifiedDomainName = refl
member_again member.SearchString = refl
member_again member.RequestInterval = refl
member_again member.MeasureLatency = refl
member_again member.EnableSni = refl
member_again member.Regions = refl
member_again member.Checker = refl
member_again member.Pass = refl
member_again member.Packet = refl
member_again member.Address = refl
member_again member.Words = refl
member_again member.QueryPort = refl
member_again member.ReportPort = refl
member_again member.Turns = refl
member_again member.Pieces = refl
member_again member.CidrList = refl
member_again member.GeoProximityLocation = refl
member_again member.TrafficPolicyInstanceId = refl
member_again member.DelegationSetId = refl
member_again member.Vpc = refl
member_again member.AlarmIdentifier = refl
member_again member.InsufficientDataHealthStatus = refl
member_again member.RoutingControlArn = refl
member_again member.HealthCheckVersion = refl
member_again member.ResetElements = refl
member_again member.CollectionVersion = refl

pub one_name : (one other : Member) → text_of one ≡ text_of other → one ≡ other
one_name one other e = same one other
    (sym (member_again one) ∙ ap (first_named text_of members) e ∙ member_again other)

reasons : List LineReason
reasons =
    reason.NotJson
    ∷ reason.UnknownLine
    ∷ reason.UnknownMember
    ∷ reason.Missing
    ∷ reason.WrongKind
    ∷ reason.OutOfRange
    ∷ reason.BadName
    ∷ reason.BadValue
    ∷ reason.BadAddress
    ∷ reason.BadHex
    ∷ reason.Both
    ∷ reason.Alone ∷ []

reason_again : (r : LineReason) → first_named reason_text reasons (reason_text r) ≡ Some r
unfolding reasons
reason_again reason.NotJson = refl
reason_again reason.UnknownLine = refl
reason_again reason.UnknownMember = refl
reason_again reason.Missing = refl
reason_again reason.WrongKind = refl
reason_again reason.OutOfRange = refl
reason_again reason.BadName = refl
reason_again reason.BadValue = refl
reason_again reason.BadAddress = refl
reason_again reason.BadHex = refl
reason_again reason.Both = refl
reason_again reason.Alone = refl

pub one_reason : (one other : LineReason) → reason_text one ≡ reason_text other → one ≡ other
one_reason one other e = same one other
    (sym (reason_again one) ∙ ap (first_named reason_text reasons) e ∙ reason_again other)
