use Rattle.set_search.specs.Walks.{HasNoTarget, IsTooDeep}
use Rattle.alias_tree.proofs.OnePlace.{one_place}
use Rattle.alias_tree.proofs.laws.first_places_are_one.Goals as goal

pub returns : goal.returns
returns c = record {
  missing = λ sets. one_place (HasNoTarget sets) sets;
  deep = λ sets. one_place (IsTooDeep sets) sets;
}
