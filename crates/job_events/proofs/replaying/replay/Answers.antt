use Rattle.std.proofs.Common.{ℕ, List, subst, sym}
use Rattle.job_events.proofs.Once.{fault_answers, replays_once}
use Rattle.job_events.specs.Replays.{FaultAt, IsReplay}
use Rattle.job_events.proofs.replaying.replay.Goals as goal

pub returns-clause-only : goal.returns-clause-only
returns-clause-only c = λ events state whole.
    let P : List (List ℕ) → Type 0 = λ blocks. IsReplay blocks events state in
    replays_once c.as_slice.result.now c.replay_blocks.result c.replay_blocks.ensures.ok c.replay_blocks.ensures.err events state (subst P (sym c.as_slice.ensures) whole)

pub returns-clause-stops : goal.returns-clause-stops
returns-clause-stops c = λ block event fault.
    let P : List (List ℕ) → Type 0 = λ blocks. FaultAt blocks block event in
    fault_answers c.as_slice.result.now c.replay_blocks.result c.replay_blocks.ensures.ok c.replay_blocks.ensures.err block event (subst P (sym c.as_slice.ensures) fault)
