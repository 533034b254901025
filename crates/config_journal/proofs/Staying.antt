-- Commands that are ready stay ready where the configuration's do.
use Rattle.config_journal.specs.States.{IsReady, Ready, State}
use Rattle.r53_state.specs.States.{StayReady}

pub others : (before after : State) → StayReady before.config after.config → (ready : Ready)
    → IsReady before ready → IsReady after ready
others before after stay ready is = record {
  prepared = stay ready.prepared is.prepared;
  spelled = is.spelled;
  entry = is.entry;
}
