use Rattle.std.proofs.Common.{ℕ, List, subst, sym, drop}
use Rattle.r53_core.specs.Stores.{StandsFor, State as Store}
use Rattle.session_model.specs.Engine.{is_healthy}
use Rattle.settled_replies.specs.Settled.{IsSettled}
use Rattle.serve_turns.proofs.Settled.{with_one}
use Rattle.serve_turns.proofs.replying.settled.Goals as goal

pub returns-in-Some-clause-serves : goal.returns-in-Some-clause-serves
returns-in-Some-clause-serves c = λ engine serves. record {
  stands = subst (λ (s : Store). StandsFor engine s) (sym c.in-Some.ensures.same) serves.stands;
  settled =
      with_one engine c.args.tables.now c.args.replies.now c.keep.new.self c.args.packet.now c.bytes.result.now serves.settled
      (subst (λ (l : List ℕ). IsSettled engine.config.zones engine.config.collections.list
      (is_healthy engine.config engine.reports) c.args.tables.now (drop 2 c.args.packet.now) (drop 2 l)) (sym c.bytes.ensures)
      (c.in-Some.ensures.settled engine serves.stands)) c.keep.ensures;
}
