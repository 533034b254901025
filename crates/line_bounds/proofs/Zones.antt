-- A zone that a line gives has a name and four servers.
use Rattle.std.proofs.Common.{◌≡◌, ℕ, List, length, Option, None, Some, Ok, arith, refl, subst}
use Rattle.std.specs.Prelude.{IfSome, codes, unwrap_or}
use Rattle.std.specs.List.{AllByRecursion}
use Rattle.dns_name.specs.Laws.{TextsReadAsNames}
use Rattle.dns_name.specs.Names.{IsName}
use Rattle.serde_json.specs.Data.{Data}
use Rattle.line_faults.specs.declared.member.Member.{Member}
use Rattle.line_faults.specs.declared.member.Member.TheVariants as m
use Rattle.line_reading.specs.Kinds.{list, name}
use Rattle.line_reading.specs.Reading.{optional, required}
use Rattle.zone_lines.specs.Zones.{create_hosted_zone, default_server, default_servers, four_names, hosted_zone_config}
use Rattle.zone_lines.specs.declared.zones.NewZone.{NewZone}
use Rattle.line_bounds.proofs.Names.{name_is}
use Rattle.line_bounds.proofs.Steps.{after_object, each_has, list_between, optional_has, required_has, same_ok, steps}

-- four names
abbrev AreServers : List (List (List ℕ)) → Type 0
AreServers servers = AllByRecursion IsName servers × (length servers ≡ 4)

pub record IsBoundedZone (zone : NewZone) : Type 0 where
  pub name : IsName zone.name
  pub servers : AreServers zone.servers

module _ (law : TextsReadAsNames) where
  servers_are : (h : Member) (d : Data) (servers : List (List (List ℕ)))
      → four_names h d ≡ Ok servers → AreServers servers
  unfolding four_names
  servers_are h d servers e =
      let s = steps (list 4 4 h d) _ servers e in
      let names = each_has IsName (λ _. name h) (λ k d labels r. name_is law h d labels r) 0 s.value
      servers s.gives in
      let four = list_between 4 4 h d s.value s.is in
      (names.0, omega (arith, names.1, four.0, four.1))

  own_servers : AreServers default_servers
  own_servers = (
    (
      law (codes "ns1.r53.invalid") (default_server (codes "ns1")) refl,
      (
        law (codes "ns2.r53.invalid") (default_server (codes "ns2")) refl,
        (
          law (codes "ns3.r53.invalid") (default_server (codes "ns3")) refl,
          (law (codes "ns4.r53.invalid") (default_server (codes "ns4")) refl, tt),
        ),
      ),
    ),
    refl,
  )

  those : (servers : Option (List (List (List ℕ)))) → IfSome servers AreServers
      → AreServers (unwrap_or servers default_servers)
  those None are = own_servers
  those (Some servers) are = are

  pub zone_is : (d : Data) (zone : NewZone) → create_hosted_zone d ≡ Ok zone → IsBoundedZone zone
  unfolding create_hosted_zone
  zone_is d zone e =
      let a = after_object _ _ _ _ _ zone e in
      let b = steps (required m.Name name d) _ zone a in
      let c = steps (optional m.NameServers four_names d) _ zone b.gives in
      let f = steps (optional m.HostedZoneConfig hosted_zone_config d) _ zone c.gives in
      let same = same_ok _ zone f.gives in
      subst IsBoundedZone same (record {
        name = required_has IsName m.Name name d b.value (name_is law m.Name) b.is;
        servers = those c.value
            (optional_has AreServers m.NameServers four_names d c.value (servers_are m.NameServers)
            c.is);
      })
