use Rattle.std.proofs.Common.{◌≤◌}
use Rattle.recover_core.proofs.Coming.{ComesTo}
use Rattle.recover_core.proofs.standing.Standing.of.Given as goal

abbrev pub invariant-loop-event : goal.invariant-loop-event
invariant-loop-event l = ComesTo l.events l.event-index l.standing × (l.standing.troubles ≤ l.event-index)
