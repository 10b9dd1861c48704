use Rattle.stored_contents.proofs.Orders.{held_in_order, room_in_order}
use Rattle.stored_contents.proofs.laws.any_order.Goals as goal

pub returns-clause-room : goal.returns-clause-room
returns-clause-room g c = room_in_order c.args._contents.now

pub returns-clause-held : goal.returns-clause-held
returns-clause-held g c h other moved held = held_in_order c.args._contents.now (g.D.Disk.state c.args._disk.now) h other moved held
