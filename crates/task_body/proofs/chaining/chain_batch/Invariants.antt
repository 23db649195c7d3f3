use Rattle.std.proofs.Common.{length}
use Rattle.task_body.proofs.Chains.{IsAt}
use Rattle.task_body.proofs.chaining.chain_batch.Given as goal

abbrev pub invariant-loop-chain : goal.invariant-loop-chain
invariant-loop-chain l = IsAt l.task l.batch l.chain l.builds

abbrev pub decreases-loop-chain : goal.decreases-loop-chain
decreases-loop-chain l = length l.chain
