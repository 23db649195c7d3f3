use Rattle.std.proofs.Common.{not, refl, ap}
use Rattle.board_log.specs.declared.entry.Entry.TheVariants.{Stopped}
use Rattle.board_log.specs.Logs.{state_of}
use Rattle.board_log.proofs.Replaying.{stepped}
use Rattle.board_log.proofs.log.Log.stop.Goals as goal

pub invariant_of-self-clause-replays : goal.invariant_of-self-clause-replays
invariant_of-self-clause-replays c =
    let old = c.args.self.now in
    stepped _ _ _ Stopped (state_of old) _ old.replays (ap not c.if-self.false) c.push_reserved.ensures.items refl
