-- The addresses of a name server.
use Rattle.std.proofs.Common.{◌≡◌, ℕ, List, ◌++◌, ap, ◌∙◌}
use Rattle.std.specs.List.{flat_map}
use Rattle.dns_wire.specs.Message.{Record}
use Rattle.rdata_layout.specs.declared.types.RType.{RType}
use Rattle.rdata_layout.specs.declared.types.RType.TheVariants as rtype
use Rattle.policy_select.specs.Zones.{Zone}
use Rattle.zone_model.specs.Zones.{group}
use Rattle.policy_select.specs.GroupRecord.{Group}
use Rattle.policy_select.specs.Records.{glue_of, simple_records}
use Rattle.policy_select.specs.Groups.{sets_in, sets_in_zone}
use Rattle.reply_records.proofs.Joined.{simple_parts}
use Rattle.reply_records.specs.Delegating.{AreAddresses, AreOf, simple_part}
use Rattle.reply_records.specs.declared.delegation.Addresses.{Addresses}

simple_is : (zones : List Zone) (zone : ℕ) (name : List (List ℕ)) (t : RType) (g : Group)
    → AreOf zones zone name t g
    → flat_map simple_part (sets_in zones g) ≡ simple_records (sets_in_zone zones zone) name t
simple_is zones zone name t g are =
    ap (flat_map simple_part) are.sets ∙ simple_parts (group (sets_in_zone zones zone) name t)

pub glue_is : (zones : List Zone) (zone : ℕ) (server : List (List ℕ)) (found : Addresses)
    → AreAddresses zones zone server found
    → flat_map simple_part (sets_in zones found.four) ++ flat_map simple_part (sets_in zones found.six)
    ≡ glue_of (sets_in_zone zones zone) server
glue_is zones zone server found are =
    ap (λ (rs : List Record). rs ++ flat_map simple_part (sets_in zones found.six))
    (simple_is zones zone server rtype.A found.four are.four)
    ∙ ap (λ (rs : List Record). simple_records (sets_in_zone zones zone) server rtype.A ++ rs)
    (simple_is zones zone server rtype.Aaaa found.six are.six)
