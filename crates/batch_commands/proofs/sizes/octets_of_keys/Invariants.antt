use Rattle.std.proofs.Common.{◌≡◌, ◌+◌, take}
use Rattle.alias_links.specs.After.{sets_in}
use Rattle.config_zones.specs.Changes.{without_all}
use Rattle.batch_commands.specs.Sizes.{octets_in}
use Rattle.batch_commands.proofs.sizes.octets_of_keys.Given as goal

abbrev pub invariant-loop-i : goal.invariant-loop-i
invariant-loop-i l =
    octets_in (without_all (take l.i l.keys) (sets_in l.zones.zones l.zone)) + l.octets
    ≡ octets_in (sets_in l.zones.zones l.zone)
