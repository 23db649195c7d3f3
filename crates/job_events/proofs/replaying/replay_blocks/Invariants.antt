use Rattle.std.proofs.Common.{take}
use Rattle.job_events.specs.Replays.{IsReplay}
use Rattle.job_events.proofs.replaying.replay_blocks.Given as goal

abbrev pub invariant-loop-number : goal.invariant-loop-number
invariant-loop-number l = IsReplay (take l.number l.blocks) l.events.items l.state
