-- A journal as the definitions of a server's store have it.
use Rattle.std.specs.Prelude.{◌+◌, option_map}
use Rattle.engine_model.specs.Engine.{Journal as Told, Plan as ToldPlan}
use Rattle.file_building.specs.Building.{Plan}
use Rattle.zone_journal.specs.Standing.{State as Journal, planned_length}

-- the length that a file will have that is built
abbrev pub plan_of : Journal → Plan → ToldPlan
plan_of journal plan = record { length = planned_length journal plan; next = plan.next }

-- The lengths of files are those up to their closed gates and with them.
abbrev pub journal_of : Journal → Told
journal_of journal = record {
  side = journal.side;
  generation = journal.generation;
  length = journal.at + 1;
  plan = option_map (plan_of journal) journal.plan;
}
