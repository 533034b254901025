-- A set has one first reason.
use Rattle.std.proofs.Common.{◌≡◌, ℕ, List, refl, Option, None, Some}
use Rattle.record_set.specs.declared.sets.RecordSet.{RecordSet}
use Rattle.record_set.specs.declared.reasons.Reason.{Reason}
use Rattle.record_set.specs.declared.reasons.Reason.TheVariants.{NoValues, TooManyValuesInSet, RepeatedValue}
use Rattle.record_set.specs.declared.reasons.Reason.TheVariants.{OneValueOnly, SoaNotAtApex, PolicyNotAllowed}
use Rattle.record_set.specs.declared.reasons.Reason.TheVariants.{WildcardNs}
use Rattle.record_set.specs.Reasons.{HoldsOf, IsFirst, NoneHolds, reasons}

-- of all reasons none holds
none_holds : (reason : Reason) (set : RecordSet) (apex : List (List ℕ)) → NoneHolds reasons set apex
    → HoldsOf reason set apex → ⊥
none_holds NoValues set apex none h = none.0 h
none_holds TooManyValuesInSet set apex none h = none.1.0 h
none_holds RepeatedValue set apex none h = none.1.1.0 h
none_holds OneValueOnly set apex none h = none.1.1.1.0 h
none_holds SoaNotAtApex set apex none h = none.1.1.1.1.0 h
none_holds PolicyNotAllowed set apex none h = none.1.1.1.1.1.0 h
none_holds WildcardNs set apex none h = none.1.1.1.1.1.1.0 h

pub one_first : (set : RecordSet) (apex : List (List ℕ)) (reason other : Option Reason)
    → IsFirst reason set apex → IsFirst other set apex → reason ≡ other
one_first set apex None None h k = refl
one_first set apex None (Some reason) h k = absurd (none_holds reason set apex h k.0)
one_first set apex (Some reason) None h k = absurd (none_holds reason set apex k h.0)
one_first set apex (Some NoValues) (Some NoValues) h k = refl
one_first set apex (Some NoValues) (Some TooManyValuesInSet) h k = absurd (k.1.0 h.0)
one_first set apex (Some NoValues) (Some RepeatedValue) h k = absurd (k.1.0 h.0)
one_first set apex (Some NoValues) (Some OneValueOnly) h k = absurd (k.1.0 h.0)
one_first set apex (Some NoValues) (Some SoaNotAtApex) h k = absurd (k.1.0 h.0)
one_first set apex (Some NoValues) (Some PolicyNotAllowed) h k = absurd (k.1.0 h.0)
one_first set apex (Some NoValues) (Some WildcardNs) h k = absurd (k.1.0 h.0)
one_first set apex (Some TooManyValuesInSet) (Some NoValues) h k = absurd (h.1.0 k.0)
one_first set apex (Some TooManyValuesInSet) (Some TooManyValuesInSet) h k = refl
one_first set apex (Some TooManyValuesInSet) (Some RepeatedValue) h k = absurd (k.1.1.0 h.0)
one_first set apex (Some TooManyValuesInSet) (Some OneValueOnly) h k = absurd (k.1.1.0 h.0)
one_first set apex (Some TooManyValuesInSet) (Some SoaNotAtApex) h k = absurd (k.1.1.0 h.0)
one_first set apex (Some TooManyValuesInSet) (Some PolicyNotAllowed) h k = absurd (k.1.1.0 h.0)
one_first set apex (Some TooManyValuesInSet) (Some WildcardNs) h k = absurd (k.1.1.0 h.0)
one_first set apex (Some RepeatedValue) (Some NoValues) h k = absurd (h.1.0 k.0)
one_first set apex (Some RepeatedValue) (Some TooManyValuesInSet) h k = absurd (h.1.1.0 k.0)
one_first set apex (Some RepeatedValue) (Some RepeatedValue) h k = refl
one_first set apex (Some RepeatedValue) (Some OneValueOnly) h k = absurd (k.1.1.1.0 h.0)
one_first set apex (Some RepeatedValue) (Some SoaNotAtApex) h k = absurd (k.1.1.1.0 h.0)
one_first set apex (Some RepeatedValue) (Some PolicyNotAllowed) h k = absurd (k.1.1.1.0 h.0)
one_first set apex (Some RepeatedValue) (Some WildcardNs) h k = absurd (k.1.1.1.0 h.0)
one_first set apex (Some OneValueOnly) (Some NoValues) h k = absurd (h.1.0 k.0)
one_first set apex (Some OneValueOnly) (Some TooManyValuesInSet) h k = absurd (h.1.1.0 k.0)
one_first set apex (Some OneValueOnly) (Some RepeatedValue) h k = absurd (h.1.1.1.0 k.0)
one_first set apex (Some OneValueOnly) (Some OneValueOnly) h k = refl
one_first set apex (Some OneValueOnly) (Some SoaNotAtApex) h k = absurd (k.1.1.1.1.0 h.0)
one_first set apex (Some OneValueOnly) (Some PolicyNotAllowed) h k = absurd (k.1.1.1.1.0 h.0)
one_first set apex (Some OneValueOnly) (Some WildcardNs) h k = absurd (k.1.1.1.1.0 h.0)
one_first set apex (Some SoaNotAtApex) (Some NoValues) h k = absurd (h.1.0 k.0)
one_first set apex (Some SoaNotAtApex) (Some TooManyValuesInSet) h k = absurd (h.1.1.0 k.0)
one_first set apex (Some SoaNotAtApex) (Some RepeatedValue) h k = absurd (h.1.1.1.0 k.0)
one_first set apex (Some SoaNotAtApex) (Some OneValueOnly) h k = absurd (h.1.1.1.1.0 k.0)
one_first set apex (Some SoaNotAtApex) (Some SoaNotAtApex) h k = refl
one_first set apex (Some SoaNotAtApex) (Some PolicyNotAllowed) h k = absurd (k.1.1.1.1.1.0 h.0)
one_first set apex (Some SoaNotAtApex) (Some WildcardNs) h k = absurd (k.1.1.1.1.1.0 h.0)
one_first set apex (Some PolicyNotAllowed) (Some NoValues) h k = absurd (h.1.0 k.0)
one_first set apex (Some PolicyNotAllowed) (Some TooManyValuesInSet) h k = absurd (h.1.1.0 k.0)
one_first set apex (Some PolicyNotAllowed) (Some RepeatedValue) h k = absurd (h.1.1.1.0 k.0)
one_first set apex (Some PolicyNotAllowed) (Some OneValueOnly) h k = absurd (h.1.1.1.1.0 k.0)
one_first set apex (Some PolicyNotAllowed) (Some SoaNotAtApex) h k = absurd (h.1.1.1.1.1.0 k.0)
one_first set apex (Some PolicyNotAllowed) (Some PolicyNotAllowed) h k = refl
one_first set apex (Some PolicyNotAllowed) (Some WildcardNs) h k = absurd (k.1.1.1.1.1.1.0 h.0)
one_first set apex (Some WildcardNs) (Some NoValues) h k = absurd (h.1.0 k.0)
one_first set apex (Some WildcardNs) (Some TooManyValuesInSet) h k = absurd (h.1.1.0 k.0)
one_first set apex (Some WildcardNs) (Some RepeatedValue) h k = absurd (h.1.1.1.0 k.0)
one_first set apex (Some WildcardNs) (Some OneValueOnly) h k = absurd (h.1.1.1.1.0 k.0)
one_first set apex (Some WildcardNs) (Some SoaNotAtApex) h k = absurd (h.1.1.1.1.1.0 k.0)
one_first set apex (Some WildcardNs) (Some PolicyNotAllowed) h k = absurd (h.1.1.1.1.1.1.0 k.0)
one_first set apex (Some WildcardNs) (Some WildcardNs) h k = refl
