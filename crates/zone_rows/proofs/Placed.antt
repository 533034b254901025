-- A set that is put to its place leaves the sets in zone order.
use Rattle.std.proofs.Common.{◌≡◌, ℕ, List, Bool, true, false, if◌then◌else◌, subst}
use Rattle.std.specs.List.{insert}
use Rattle.record_set.specs.declared.sets.RecordSet.{RecordSet}
use Rattle.record_set.specs.declared.sets.SetKey.{SetKey}
use Rattle.record_set.specs.Sets.{key_of}
use Rattle.zone_model.specs.Laws.{PlacedRise}
use Rattle.zone_model.specs.Placing.{placed}
use Rattle.zone_model.specs.Zones.{IsRising}
use Rattle.set_search.specs.Found.{FindsNone}

pub stays_rising : PlacedRise → (sets : List RecordSet) (set : RecordSet) (key : SetKey) (n : ℕ)
    → IsRising sets → key ≡ key_of set → FindsNone sets key n → IsRising (insert sets n set)
stays_rising law sets set key n rising same found =
    let here : FindsNone sets (key_of set) n = subst (λ k. FindsNone sets k n) same found in
    let front = here.front in
    let back = here.back in
    let e : placed set sets ≡ insert sets n set = cc in
    subst (λ l. IsRising l) e (law set sets rising)

pub either_rising : (b : Bool) (sets others : List RecordSet) → IsRising sets → IsRising others
    → IsRising (if b then sets else others)
either_rising true sets others rising still = rising
either_rising false sets others rising still = still
