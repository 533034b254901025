-- That files hold a configuration, told by the journal and the configuration alone.
use Rattle.std.proofs.Common.{◌≡◌, List, ℕ, Some, sym, subst}
use Rattle.config_opening.specs.Holding.{Holds}
use Rattle.config_opening.specs.States.{State, config_of}
use Rattle.sound_configs.specs.Configs.{Config}
use Rattle.file_building.specs.Building.{Plan}
use Rattle.config_opening.specs.Leaving.{IsPlanFor}
use Rattle.config_opening.specs.OpeningOfStoreModel.{OpensAs}
use Rattle.zone_journal.specs.Standing.{State as Journal}

pub record Told (journal : Journal) (config : Config) (x y : List ℕ) : Type 0 where
  pub octets : List ℕ
  pub entries : List (List ℕ)
  pub opens : OpensAs x y journal.generation octets entries config
  pub plan : (plan : Plan) → journal.plan ≡ Some plan
      → IsPlanFor plan.snapshot plan.from journal.generation octets entries config

pub to_told : (state : State) (x y : List ℕ) → Holds state x y
    → Told state.journal (config_of state) x y
to_told state x y held = record {
  octets = held.snapshot;
  entries = held.entries;
  opens = held.opens;
  plan = held.plan;
}

pub of_told : (state : State) (x y : List ℕ) → Told state.journal (config_of state) x y
    → Holds state x y
of_told state x y told = record {
  snapshot = told.octets;
  entries = told.entries;
  opens = told.opens;
  plan = told.plan;
}

-- a state with that journal and that configuration
pub holds_of : (new : State) (journal : Journal) (config : Config) → new.journal ≡ journal
    → config_of new ≡ config → (x y : List ℕ) → Told journal config x y → Holds new x y
holds_of new journal config moved same x y told = of_told new x y
    (subst (λ (j : Journal). Told j (config_of new) x y) (sym moved)
    (subst (λ (c : Config). Told journal c x y) (sym same) told))
