-- The zones that are served, and the one in which a name is looked for (RFC 1034, 4.3.2, step 2).
use Rattle.std.specs.Prelude.{List, ℕ, [], ◌∷◌, Option, None, Some}
use Rattle.std.specs.List.{find}
use Rattle.dns_name.specs.Order.{same_labels}
use Rattle.zone_model.specs.Hosted.{HostedZone}

-- the zone of this name
abbrev pub zone_with : List HostedZone → (name : List (List ℕ)) → Option HostedZone
zone_with zones name = find (λ (zone : HostedZone). same_labels zone.apex name) zones

-- the first where there is one, else the other
abbrev pub or_else : {X : Type 0} → (first other : Option X) → Option X
or_else (Some x) other = Some x
or_else None other = other

-- The zone that is the nearest ancestor of a name: the one at the name, else that of its parent.
abbrev pub zone_for : List HostedZone → (name : List (List ℕ)) → Option HostedZone
zone_for zones [] = zone_with zones []
zone_for zones (label ∷ name) = or_else (zone_with zones (label ∷ name)) (zone_for zones name)
