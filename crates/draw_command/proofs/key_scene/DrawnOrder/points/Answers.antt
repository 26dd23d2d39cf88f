use Rattle.std.proofs.Common.{ap}
use Rattle.draw_command.specs.Drawings.{order_in}
use Rattle.draw_command.proofs.key_scene.DrawnOrder.points.Goals as goal

pub points_of-requires-clause-known : goal.points_of-requires-clause-known
points_of-requires-clause-known c = (c.requires.order c.in-Given.order.now (ap order_in c.in-Given.is)).known

pub points_of-requires-clause-kept : goal.points_of-requires-clause-kept
points_of-requires-clause-kept c = (c.requires.order c.in-Given.order.now (ap order_in c.in-Given.is)).precedence

pub points_of-requires-in-Made-clause-known : goal.points_of-requires-in-Made-clause-known
points_of-requires-in-Made-clause-known c = rw c.as_slice.ensures
    ((c.requires.order c.in-Made.order (ap order_in c.in-Made.is)).known)

pub points_of-requires-in-Made-clause-kept : goal.points_of-requires-in-Made-clause-kept
points_of-requires-in-Made-clause-kept c = rw c.as_slice.ensures
    ((c.requires.order c.in-Made.order (ap order_in c.in-Made.is)).precedence)
