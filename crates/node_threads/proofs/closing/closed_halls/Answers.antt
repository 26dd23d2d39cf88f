use Rattle.node_threads.proofs.Leaving.{closed_more, taken_more}
use Rattle.node_threads.proofs.closing.closed_halls.Goals as goal

pub loop-root-preserved : goal.loop-root-preserved
loop-root-preserved g c = (
  closed_more c.loop-root.halls.items c.push.new.self.items c.in_ok-closed_hall.field-0 c.loop-root.invariant.0 c.in_ok-push.ensures.items
      c.in_ok-closed_hall.ensures,
  taken_more c.loop-root.halls.items c.push.new.self.items c.in_ok-closed_hall.field-0 c.loop-root.root-iterator.rest.items
      c.next.new.self.rest.items _ _ c.loop-root.invariant.1 c.in_ok-push.ensures.items c.in-Some.ensures.steps.0,
)
