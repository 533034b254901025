use Rattle.health_index.proofs.Truth.{nodes_have_values, stands_where_all_meet}
use Rattle.health_index.proofs.laws.nodes_have_values.Goals as goal

pub returns : goal.returns
returns c = record {
  values = nodes_have_values c.views_agree.ensures;
  stands = stands_where_all_meet c.views_agree.ensures;
}
