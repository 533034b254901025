-- A pair of files opens to one configuration.
use Rattle.std.proofs.Common.{ℕ, List, subst}
use Rattle.command_codec.specs.Laws as codec
use Rattle.config_model.specs.Laws.{OneOutcome}
use Rattle.snapshot_octets.specs.Laws.{OneConfiguration}
use Rattle.store_model.proofs.Sides.{active_opens}
use Rattle.store_model.proofs.Taken.{makes_more, one_config}
use Rattle.store_model.specs.Laws.{DecidingOpens, OneMoreOpens, OpenedAreSound}
use Rattle.store_model.specs.Laws.{PairOpensToOneConfig, TakenAreSound}
use Rattle.store_model.specs.Opening.{MakesConfig}
use Rattle.zone_journal.specs.Pairs.{PairOpensToOne}

pub pair_opens_to_one_config : codec.ReadAsNothingElse → OneOutcome → OneConfiguration
    → PairOpensToOne → PairOpensToOneConfig
pair_opens_to_one_config one_command one_outcome one_base one_pair x y config other o p =
    let pair = one_pair x y o.generation p.generation o.snapshot p.snapshot o.entries p.entries
    o.opens.opens p.opens.opens in
    one_config one_command one_outcome one_base p.snapshot p.entries config other
    (subst (λ (k : List ℕ × List (List ℕ)). MakesConfig k.0 k.1 config)
    (λ i. (pair.1 i, pair.2 i)) o.opens.makes) p.opens.makes

pub deciding_opens : DecidingOpens
deciding_opens x y side generation octets entries config active opens makes = record {
  opens = active_opens x y side generation octets entries active opens;
  makes = makes;
}

pub one_more_opens : OneMoreOpens
one_more_opens x y u v generation octets entries before after entry o taken opens = record {
  opens = opens;
  makes = makes_more octets entries before after entry o.makes taken;
}

pub opened_are_sound : TakenAreSound → OpenedAreSound
opened_are_sound sound x y config o =
    sound o.opens.makes.base config o.entries o.opens.makes.is_base.sound o.opens.makes.taken
