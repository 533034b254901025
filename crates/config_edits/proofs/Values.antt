-- The values of a new zone's sets are in the layouts of their types.
use Rattle.std.proofs.Common.{◌≡◌, ℕ, List, [], ◌∷◌, ap, ◌∙◌, refl}
use Rattle.std.specs.Prelude.{Err, IfOk, Ok, Result}
use Rattle.dns_name.specs.Labels.{wire}
use Rattle.dns_name.specs.Names.{IsName}
use Rattle.octets.specs.declared.memory.OutOfMemory.{OutOfMemory}
use Rattle.config_model.specs.Datum.{Datum}
use Rattle.config_model.specs.Layout.{IsLayout}
use Rattle.config_model.specs.RTypeRecord.TheVariants.{Ns, Soa}
use Rattle.config_model.proofs.NewParts.{ns_parts, soa_parts}
use Rattle.config_model.specs.NewZones.{soa_value}

pub ns_layout : (server : List (List ℕ)) → IsName server → IsLayout Ns (wire server)
ns_layout server name = (ns_parts server (server ∷ []) name (name, tt)).body.0

pub soa_layout : (server : List (List ℕ)) → IsName server → IsLayout Soa (soa_value server).wire
soa_layout server name =
    (soa_parts server (server ∷ server ∷ server ∷ server ∷ []) name
    (name, (name, (name, (name, tt)))) refl).body.0

-- a value of these octets is that of the record
pub told : (server : List (List ℕ)) (octets : List ℕ) → octets ≡ (soa_value server).wire
    → (read : Result Datum OutOfMemory)
    → IfOk read (λ value. value ≡ record { rtype = Soa; wire = octets })
    → IfOk read (λ value. value ≡ soa_value server)
told server octets e (Ok value) is =
    is ∙ ap (λ (w : List ℕ). record { rtype = Soa; wire = w }) e
told server octets e (Err why) is = tt
