use Rattle.std.proofs.Common.{refl, arith}
use Rattle.health_valves.proofs.Turns.{moved}
use Rattle.health_valves.proofs.valves.Valves.reserve.Goals as goal

pub returns-in_default-make_feeds-clause-stays : goal.returns-in_default-make_feeds-clause-stays
returns-in_default-make_feeds-clause-stays c net own f =
    moved net own c.args.self.now _ c.make_room.ensures.items c.make_feeds.ensures.fed refl refl refl refl (omega arith) f

pub returns-in_default-make_room-clause-stays : goal.returns-in_default-make_room-clause-stays
returns-in_default-make_room-clause-stays c net own f =
    moved net own c.args.self.now _ c.make_room.ensures.items c.make_feeds.ensures.fed c.make_room-2.ensures.items refl refl refl (omega arith) f

pub returns-in_default-make_room-2-clause-stays : goal.returns-in_default-make_room-2-clause-stays
returns-in_default-make_room-2-clause-stays c net own f =
    moved net own c.args.self.now _ c.make_room.ensures.items c.make_feeds.ensures.fed c.make_room-2.ensures.items c.make_room-3.ensures.items refl refl (omega arith) f

pub returns-in_default-make_room-3-clause-stays : goal.returns-in_default-make_room-3-clause-stays
returns-in_default-make_room-3-clause-stays c net own f =
    moved net own c.args.self.now _ c.make_room.ensures.items c.make_feeds.ensures.fed c.make_room-2.ensures.items c.make_room-3.ensures.items c.make_room-4.ensures.items refl (omega arith) f

pub returns-in_default-make_room-4-clause-stays : goal.returns-in_default-make_room-4-clause-stays
returns-in_default-make_room-4-clause-stays c net own f =
    moved net own c.args.self.now _ c.make_room.ensures.items c.make_feeds.ensures.fed c.make_room-2.ensures.items c.make_room-3.ensures.items c.make_room-4.ensures.items refl c.make_room-5.ensures.kept f

pub returns-in_default-make_room-5-clause-stays : goal.returns-in_default-make_room-5-clause-stays
returns-in_default-make_room-5-clause-stays c net own f =
    moved net own c.args.self.now _ c.make_room.ensures.items c.make_feeds.ensures.fed c.make_room-2.ensures.items c.make_room-3.ensures.items c.make_room-4.ensures.items c.make_room-6.ensures.items c.make_room-5.ensures.kept f

pub returns-clause-stays : goal.returns-clause-stays
returns-clause-stays c net own f =
    moved net own c.args.self.now _ c.make_room.ensures.items c.make_feeds.ensures.fed c.make_room-2.ensures.items c.make_room-3.ensures.items c.make_room-4.ensures.items c.make_room-6.ensures.items c.make_room-5.ensures.kept f
