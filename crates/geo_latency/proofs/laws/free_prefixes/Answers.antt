use Rattle.geo_latency.proofs.Prefixes.{free, free_means}
use Rattle.geo_latency.proofs.laws.free_prefixes.Goals as goal

pub returns : goal.returns
returns g c = λ rows prefix. (free_means prefix rows, λ h. free prefix rows (h.0) (h.1))
