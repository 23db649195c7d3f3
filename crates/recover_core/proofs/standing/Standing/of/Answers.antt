use Rattle.std.proofs.Common.{arith}
use Rattle.recover_core.proofs.Coming.{comes_on}
use Rattle.recover_core.proofs.standing.Standing.of.Goals as goal

pub loop-event-preserved : goal.loop-event-preserved
loop-event-preserved c = (
  comes_on c.args.events.now c.loop-event.event-index c.event-item.result c.loop-event.standing c.noted-standing.result c.loop-event-test.true c.event-item.is c.loop-event.invariant.0 c.noted-standing.ensures.after,
  omega (arith, c.loop-event.invariant.1, c.noted-standing.ensures.few),
)
