use Rattle.config_model.proofs.Ended as ended
use Rattle.config_model.proofs.Told as told
use Rattle.config_model.proofs.laws.refusals_are_told.Goals as goal

pub returns : goal.returns
returns c = record {
  first = told.first_told;
  walks = told.walks_told;
  none = λ checks collections zone.
      (told.in_order checks collections zone, told.from_order checks collections zone);
  store = λ zones.
      (ended.not_full zones, λ room. ended.has_room zones room.sets room.octets);
}
