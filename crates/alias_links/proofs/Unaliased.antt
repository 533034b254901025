-- A zone that counts no aliases has none.
use Rattle.std.proofs.Common.{◌≡◌, List, [], ◌∷◌, inl, inr, arith, refl, subst, sym}
use Rattle.std.proofs.lemmas.List.Sums.{sum_by-cons}
use Rattle.record_set.specs.Reasons.{IsAlias}
use Rattle.record_set.specs.declared.sets.Body.{Body}
use Rattle.record_set.specs.declared.sets.Body.TheVariants as body
use Rattle.record_set.specs.declared.sets.RecordSet.{RecordSet}
use Rattle.zone_table.specs.Slotted.{Slotted, sets_of}
use Rattle.zone_table.specs.Sets.{IsAmong}
use Rattle.zone_table.specs.Walks.{HasNoTarget}
use Rattle.zone_table.specs.Sums.{aliases_in, aliases_of, one_of}
use Rattle.zone_table.specs.Telling.{is_alias}

one_alias : (sets : List RecordSet) (set : RecordSet) (its : Body) → set.body ≡ its
    → one_of (is_alias its) ≡ 0 → HasNoTarget sets set → ⊥
one_alias sets set (body.Values ttl values) is none has =
    subst (λ (b : Body). IsAlias b) is has.0
one_alias sets set (body.Alias target evaluate) is none has = omega (arith, none)

pub none_aliased : (sets : List RecordSet) (placed : List Slotted) → aliases_of placed ≡ 0
    → (set : RecordSet) → IsAmong (sets_of placed) set → HasNoTarget sets set → ⊥
none_aliased sets [] none set there has = there
none_aliased sets (p ∷ placed) none set (inl is) has =
    let sum = sum_by-cons aliases_in p placed in
    one_alias sets p.set p.set.body refl (omega (arith, sum, none))
    (subst (λ (s : RecordSet). HasNoTarget sets s) (sym is) has)
none_aliased sets (p ∷ placed) none set (inr there) has =
    let sum = sum_by-cons aliases_in p placed in
    none_aliased sets placed (omega (arith, sum, none)) set there has
