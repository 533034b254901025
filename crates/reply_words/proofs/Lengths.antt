-- Names of types and of members are short.
use Rattle.std.proofs.Common.{◌≤◌, length, lit≤}
use Rattle.line_faults.specs.Texts.{text_of}
use Rattle.line_faults.specs.declared.member.Member.{Member}
use Rattle.line_faults.specs.declared.member.Member.TheVariants as member
use Rattle.rdata_layout.specs.Types as types
use Rattle.rdata_layout.specs.declared.types.RType.{RType}
use Rattle.rdata_layout.specs.declared.types.RType.TheVariants as rtype

pub type_is_short : (r : RType) → length (types.text_of r) ≤ 5
type_is_short rtype.A = lit≤ tt
type_is_short rtype.Ns = lit≤ tt
type_is_short rtype.Cname = lit≤ tt
type_is_short rtype.Soa = lit≤ tt
type_is_short rtype.Ptr = lit≤ tt
type_is_short rtype.Mx = lit≤ tt
type_is_short rtype.Txt = lit≤ tt
type_is_short rtype.Aaaa = lit≤ tt
type_is_short rtype.Srv = lit≤ tt
type_is_short rtype.Spf = lit≤ tt
type_is_short rtype.Caa = lit≤ tt

pub member_is_short : (m : Member) → length (text_of m) ≤ 32
member_is_short member.Line = lit≤ tt
member_is_short member.CreateHostedZone = lit≤ tt
member_is_short member.DeleteHostedZone = lit≤ tt
member_is_short member.ChangeResourceRecordSets = lit≤ tt
member_is_short member.ListResourceRecordSets = lit≤ tt
member_is_short member.CreateHealthCheck = lit≤ tt
member_is_short member.UpdateHealthCheck = lit≤ tt
member_is_short member.DeleteHealthCheck = lit≤ tt
member_is_short member.GetHealthCheckStatus = lit≤ tt
member_is_short member.Observe = lit≤ tt
member_is_short member.Query = lit≤ tt
member_is_short member.Bind = lit≤ tt
member_is_short member.Serve = lit≤ tt
member_is_short member.Compact = lit≤ tt
member_is_short member.CreateCidrCollection = lit≤ tt
member_is_short member.ChangeCidrCollection = lit≤ tt
member_is_short member.DeleteCidrCollection = lit≤ tt
member_is_short member.Name = lit≤ tt
member_is_short member.CallerReference = lit≤ tt
member_is_short member.NameServers = lit≤ tt
member_is_short member.HostedZoneConfig = lit≤ tt
member_is_short member.Comment = lit≤ tt
member_is_short member.PrivateZone = lit≤ tt
member_is_short member.Id = lit≤ tt
member_is_short member.HostedZoneId = lit≤ tt
member_is_short member.ChangeBatch = lit≤ tt
member_is_short member.Changes = lit≤ tt
member_is_short member.Action = lit≤ tt
member_is_short member.ResourceRecordSet = lit≤ tt
member_is_short member.«Type» = lit≤ tt
member_is_short member.SetIdentifier = lit≤ tt
member_is_short member.Weight = lit≤ tt
member_is_short member.Failover = lit≤ tt
member_is_short member.GeoLocation = lit≤ tt
member_is_short member.Region = lit≤ tt
member_is_short member.MultiValueAnswer = lit≤ tt
member_is_short member.CidrRoutingConfig = lit≤ tt
member_is_short member.Ttl = lit≤ tt
member_is_short member.ResourceRecords = lit≤ tt
member_is_short member.AliasTarget = lit≤ tt
member_is_short member.HealthCheckId = lit≤ tt
member_is_short member.Value = lit≤ tt
member_is_short member.ContinentCode = lit≤ tt
member_is_short member.CountryCode = lit≤ tt
member_is_short member.SubdivisionCode = lit≤ tt
member_is_short member.CollectionId = lit≤ tt
member_is_short member.LocationName = lit≤ tt
member_is_short member.DnsName = lit≤ tt
member_is_short member.EvaluateTargetHealth = lit≤ tt
member_is_short member.StartRecordName = lit≤ tt
member_is_short member.StartRecordType = lit≤ tt
member_is_short member.StartRecordIdentifier = lit≤ tt
member_is_short member.MaxItems = lit≤ tt
member_is_short member.HealthCheckConfig = lit≤ tt
member_is_short member.FailureThreshold = lit≤ tt
member_is_short member.Inverted = lit≤ tt
member_is_short member.Disabled = lit≤ tt
member_is_short member.HealthThreshold = lit≤ tt
member_is_short member.ChildHealthChecks = lit≤ tt
member_is_short member.IpAddress = lit≤ tt
member_is_short member.Port = lit≤ tt
member_is_short member.ResourcePath = lit≤ tt
member_is_short member.FullyQualifiedDomainName = lit≤ tt
member_is_short member.SearchString = lit≤ tt
member_is_short member.RequestInterval = lit≤ tt
member_is_short member.MeasureLatency = lit≤ tt
member_is_short member.EnableSni = lit≤ tt
member_is_short member.Regions = lit≤ tt
member_is_short member.Checker = lit≤ tt
member_is_short member.Pass = lit≤ tt
member_is_short member.Packet = lit≤ tt
member_is_short member.Address = lit≤ tt
member_is_short member.Words = lit≤ tt
member_is_short member.QueryPort = lit≤ tt
member_is_short member.ReportPort = lit≤ tt
member_is_short member.Turns = lit≤ tt
member_is_short member.Pieces = lit≤ tt
member_is_short member.CidrList = lit≤ tt
member_is_short member.GeoProximityLocation = lit≤ tt
member_is_short member.TrafficPolicyInstanceId = lit≤ tt
member_is_short member.DelegationSetId = lit≤ tt
member_is_short member.Vpc = lit≤ tt
member_is_short member.AlarmIdentifier = lit≤ tt
member_is_short member.InsufficientDataHealthStatus = lit≤ tt
member_is_short member.RoutingControlArn = lit≤ tt
member_is_short member.HealthCheckVersion = lit≤ tt
member_is_short member.ResetElements = lit≤ tt
member_is_short member.CollectionVersion = lit≤ tt
