-- What is told of a batch, change by change.
use Rattle.std.proofs.Common.{◌≡◌, ℕ, List, [], ◌∷◌, ◌++◌, take, refl, Some, subst}
use Rattle.std.specs.Prelude.{Ok, Err, slice_get}
use Rattle.zone_model.specs.RecordSetRecord.{RecordSet}
use Rattle.batch_model.specs.declared.batches.Change.{Change}
use Rattle.batch_model.specs.declared.refusals.ChangeRefusal.{ChangeRefusal}
use Rattle.batch_model.specs.declared.refusals.ChangeRefusal.TheVariants as refusal
use Rattle.batch_model.specs.Batches.{IsWithinLimits, Leaves, Prepares}
use Rattle.batch_model.specs.Changing.{Applies}
use Rattle.batch_model.specs.Telling.{refusal_at}

-- one change more
pub leaves_more : (sets : List RecordSet) (apex : List (List ℕ)) (changes : List Change)
    (change : Change) (middle after : List RecordSet)
    → Leaves sets apex changes middle → Applies middle apex change (Ok after)
    → Leaves sets apex (changes ++ change ∷ []) after
leaves_more sets apex [] change middle after l g =
    (after, subst (λ s. Applies s apex change (Ok after)) l g, refl)
leaves_more sets apex (first ∷ changes) change middle after l g =
    (l.0, l.1, leaves_more l.0 apex changes change middle after l.2 g)

-- the change that is refused
pub refused_told : (sets : List RecordSet) (apex : List (List ℕ)) (changes : List Change) (i : ℕ)
    (change : Change) (before : List RecordSet) (why : ChangeRefusal)
    → IsWithinLimits changes apex → slice_get changes i ≡ Some change
    → Leaves sets apex (take i changes) before → Applies before apex change (Err why)
    → Prepares sets apex changes (Err (refusal_at i why))
refused_told sets apex changes i change before refusal.NotInZone limits there applied refused =
    record {
      limits = limits;
      change = change;
      there = there;
      before = before;
      applied =
          applied;
      refused = refused;
    }
refused_told sets apex changes i change before refusal.AlreadyExists limits there applied refused =
    record {
      limits = limits;
      change = change;
      there = there;
      before = before;
      applied =
          applied;
      refused = refused;
    }
refused_told sets apex changes i change before refusal.NotFound limits there applied refused =
    record {
      limits = limits;
      change = change;
      there = there;
      before = before;
      applied =
          applied;
      refused = refused;
    }
refused_told sets apex changes i change before refusal.ValuesDiffer limits there applied refused =
    record {
      limits = limits;
      change = change;
      there = there;
      before = before;
      applied =
          applied;
      refused = refused;
    }
refused_told sets apex changes i change before refusal.ApexProtected limits there applied refused =
    record {
      limits = limits;
      change = change;
      there = there;
      before = before;
      applied =
          applied;
      refused = refused;
    }
refused_told sets apex changes i change before refusal.OutOfMemory limits there applied refused = tt
