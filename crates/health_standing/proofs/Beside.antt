-- What an index is beside which sets went and came.
use Rattle.std.proofs.Common.{◌≡◌, ◌↔◌, ℕ, Bool, true, false, IsTrue, List, refl, ap, sym}
use Rattle.std.specs.Prelude.{not}
use Rattle.std.proofs.lemmas.Bool.{false≢true}
use mathlib.Core.Path.{subst}
use Rattle.health_standing.specs.Index.{Index, Space}
use Rattle.health_planning.specs.Building.{AreSeatedBeside}
use Rattle.health_planning.specs.SetRefRecord.{SetRef}
use Rattle.health_planning.specs.Zones.{Zone}
use Rattle.health_planning.specs.declared.seats.Seat.{Seat}

pub not_is : (b : Bool) → IsTrue (not b) ↔ (b ≡ false)
not_is true = (λ t. absurd (false≢true t), λ e. absurd (false≢true (sym e)))
not_is false = (λ t. refl, λ e. refl)

-- the same of other names for the lists
pub beside_for : (zones : List Zone) (ids ids_now numbers numbers_now : List ℕ)
    (gone gone_now came came_now : List SetRef) (before after : List Seat) → ids ≡ ids_now
    → numbers ≡ numbers_now → gone ≡ gone_now → came ≡ came_now
    → AreSeatedBeside zones ids numbers gone came before after
    → AreSeatedBeside zones ids_now numbers_now gone_now came_now before after
beside_for zones ids ids_now numbers numbers_now gone gone_now came came_now before after ids_are numbers_are gone_is came_is is =
    subst (λ (l : List ℕ). AreSeatedBeside zones l numbers_now gone_now came_now before after) ids_are
    (subst (λ (l : List ℕ). AreSeatedBeside zones ids l gone_now came_now before after) numbers_are
    (subst (λ (l : List SetRef). AreSeatedBeside zones ids numbers l came_now before after) gone_is
    (subst (λ (l : List SetRef). AreSeatedBeside zones ids numbers gone l before after) came_is is)))

-- what an index is with other seats
pub index_seated : (index now : Index) (seats : List Seat) (space : Space) → index ≡ now
    → space ≡ index.space → record index { seats = seats; space = space } ≡ record now { seats = seats }
index_seated index now seats space same room =
    subst (λ (i : Index). record index { seats = seats; space = space } ≡ record i { seats = seats }) same
    (ap (λ (s : Space). record index { seats = seats; space = s }) room)

pub seats_same : (x y : Index) → x ≡ y → x ≡ record y { seats = x.seats }
seats_same x y e = subst (λ (i : Index). x ≡ record i { seats = x.seats }) e refl
